use Rattle.std.proofs.Common.{refl}
use Rattle.compiled_pages.specs.Pages.{needs_at}
use Rattle.request_port.proofs.AskedLemmas.{file_path, found_looked, looks_still, page_file, under_page}
use Rattle.request_port.proofs.LeadLemmas.{leads_found}
use Rattle.request_port.proofs.port.RequestPortAppPortProgram.page.Goals as goal
use Rattle.request_port.specs.LeadingLaws.{leads_here}
use Rattle.source_tree.specs.Edits.{file_at}

pub returns-in_default-clause-leads : goal.returns-in_default-clause-leads
returns-in_default-clause-leads g c = leads_here c.args.self.now

pub returns-in_err-copy-clause-leads : goal.returns-in_err-copy-clause-leads
returns-in_err-copy-clause-leads g c = leads_here c.args.self.now

pub returns-then-not-is_page-clause-leads : goal.returns-then-not-is_page-clause-leads
returns-then-not-is_page-clause-leads g c = leads_here c.args.self.now

pub returns-then-self-clause-leads : goal.returns-then-self-clause-leads
returns-then-self-clause-leads g c = leads_here c.args.self.now

pub find-requires-clause-under : goal.find-requires-clause-under
find-requires-clause-under g c =
    let w = c.args.self.now in
    rw (file_path w.tree.now c.args.path.now c.in-Some.file.now c.in-Some.ensures)
    (under_page (g.Q.Port.opening w.port.now) (g.Q.Port.pass w.port.now) (g.Q.Port.seen w.port.now) w.request w.tree.now c.args.path.now
    (page_file w.tree.now c.args.path.now c.in-Some.file.now c.in-Some.ensures c.if-not-is_page.ensures) c.requires.room)

pub find-requires-clause-file : goal.find-requires-clause-file
find-requires-clause-file g c =
    let w = c.args.self.now in
    rw (file_path w.tree.now c.args.path.now c.in-Some.file.now c.in-Some.ensures)
    (page_file w.tree.now c.args.path.now c.in-Some.file.now c.in-Some.ensures c.if-not-is_page.ensures)

pub returns-in-Ok-clause-paged : goal.returns-in-Ok-clause-paged
returns-in-Ok-clause-paged g c =
    let w = c.args.self.now in
    let same = file_path w.tree.now c.args.path.now c.in-Some.file.now c.in-Some.ensures in
    c.tell.ensures.paged w.tree.now (rw same at c.in-Ok.ensures.made) (page_file w.tree.now c.args.path.now c.in-Some.file.now c.in-Some.ensures c.if-not-is_page.ensures)

pub returns-in-Ok-clause-looked : goal.returns-in-Ok-clause-looked
returns-in-Ok-clause-looked g c =
    let w = c.args.self.now in
    let path = c.args.path.now in
    let same = file_path w.tree.now path c.in-Some.file.now c.in-Some.ensures in
    let is = page_file w.tree.now path c.in-Some.file.now c.in-Some.ensures c.if-not-is_page.ensures in
    let u = under_page (g.Q.Port.opening w.port.now) (g.Q.Port.pass w.port.now) (g.Q.Port.seen w.port.now) w.request w.tree.now path is c.requires.room in
    rw (c.find.ensures.same.0, c.find.ensures.same.1)
    (looks_still _ _ path (file_at path w.tree.now) c.tell.result
    (found_looked needs_at (g.Q.Port.opening w.port.now) (g.Q.Port.pass w.port.now) (g.Q.Port.seen w.port.now) (g.Q.Port.seen c.find.new.port) w.steps.now c.find.new.steps w.request w.tree.now u.0 path _ u.1 is u.2 (rw same at c.in-Ok.ensures.found)))

pub returns-in-Ok-clause-leads : goal.returns-in-Ok-clause-leads
returns-in-Ok-clause-leads g c =
    let w = c.args.self.now in
    let same = file_path w.tree.now c.args.path.now c.in-Some.file.now c.in-Some.ensures in
    leads_found g.Q.Port.pass g.Q.Port.opening g.Q.Port.home g.Q.Port.seen w c.find.new.port c.find.new.steps c.args.path.now _ c.in-Ok.made c.tell.new.last refl c.find.ensures.same (rw same at c.in-Ok.ensures.found)
    (c.tell.ensures.last w.tree.now (rw same at c.in-Ok.ensures.made)) c.if-self.false

pub returns-in-Err-clause-looked : goal.returns-in-Err-clause-looked
returns-in-Err-clause-looked g c =
    let w = c.args.self.now in
    let path = c.args.path.now in
    let same = file_path w.tree.now path c.in-Some.file.now c.in-Some.ensures in
    let is = page_file w.tree.now path c.in-Some.file.now c.in-Some.ensures c.if-not-is_page.ensures in
    let u = under_page (g.Q.Port.opening w.port.now) (g.Q.Port.pass w.port.now) (g.Q.Port.seen w.port.now) w.request w.tree.now path is c.requires.room in
    rw (c.find.ensures.same.0, c.find.ensures.same.1)
    (found_looked needs_at (g.Q.Port.opening w.port.now) (g.Q.Port.pass w.port.now) (g.Q.Port.seen w.port.now) (g.Q.Port.seen c.find.new.port) w.steps.now c.find.new.steps w.request w.tree.now u.0 path _ u.1 is u.2 (rw same at c.in-Err.ensures.found))
