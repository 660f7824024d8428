use Rattle.std.proofs.Common.{◌≡◌, ◌∙◌, ◌-◌, List, ap, arith, length, map, rules, subst, sym}
use Rattle.unit_source.specs.Files.{text_in}
use Rattle.unit_source.specs.First.{brought_names, firsts_by, own_directives}
use Rattle.unit_source.specs.InPlace.{InPlace}
use Rattle.unit_source.specs.Placed.{in_place}
use Rattle.unit_source.specs.ReadSplice.{Gone, behind_file, found_of, reads, step_of, with_more}
use Rattle.unit_source.specs.ReadSteps.{Found, filled, steps_of}
use Rattle.unit_source.specs.Splice.{Spliced, include_read, nodes_read, spliced_within, with_names}
use Rattle.unit_source.specs.Volume.{one_file}
use Rattle.unit_source.proofs.SpliceLemmas.{file_is, more_behind, on_both}
use Rattle.unit_source.proofs.StepLemmas.{nodes_filled, steps_read}
use Rattle.unit_source.proofs.splice.+splicing.Goals as goal

pub find_nodes-returns-clause-found : goal.find_nodes-returns-clause-found
find_nodes-returns-clause-found t c =
    let read = reads (text_in c.args.files.now) c.args.file.now in
    let brought = c.args.file.now.brought.now in
    let nodes = in_place c.args.nodes.now in
    let is_steps : map step_of c.deref.result.now ≡ steps_of c.args.around nodes = search rules in
    let both = steps_read read brought c.args.around nodes c.args.progress.now c.take_steps.new.progress (map step_of c.deref.result.now) c.new-found.result.items c.take_steps.new.found.items
    is_steps c.new-found.ensures.items c.in_ok-take_steps.ensures.taken in
    ap (λ (f : List Found). (filled nodes f).nodes) both.0 ∙ nodes_filled read brought c.args.around nodes c.args.progress.now.going

pub find_nodes-returns-clause-progress : goal.find_nodes-returns-clause-progress
find_nodes-returns-clause-progress t c =
    let read = reads (text_in c.args.files.now) c.args.file.now in
    let nodes = in_place c.args.nodes.now in
    let is_steps : map step_of c.deref.result.now ≡ steps_of c.args.around nodes = search rules in
    let both = steps_read read c.args.file.now.brought.now c.args.around nodes c.args.progress.now c.take_steps.new.progress (map step_of c.deref.result.now) c.new-found.result.items c.take_steps.new.found.items
    is_steps c.new-found.ensures.items c.in_ok-take_steps.ensures.taken in
    both.1

pub read_file-returns-clause-nodes : goal.read_file-returns-clause-nodes
read_file-returns-clause-nodes t c =
    let files = text_in c.args.files.now in
    let settings = c.args.within.settings.now in
    let longer = c.entered-longer.result in
    let own = own_directives c.args.source.now.path c.args.source.now.text in
    let names = brought_names (firsts_by files longer (one_file (length c.args.source.now.text)) own) in
    let read = include_read (spliced_within (c.args.within.deep - 1) files settings longer) files longer in
    let nodes = in_place c.in_ok-alone.alone.nodes.items in
    let whole : spliced_within c.args.within.deep files settings c.args.within.chain.now c.args.around c.args.source.now.path c.args.source.now.text c.args.progress.now.going
    ≡ with_names names (nodes_read read c.in_ok-alone.alone.brought c.args.around nodes c.args.progress.now.going) =
    file_is files settings c.args.within.deep (c.args.within.deep - 1) c.args.around c.args.within.chain.now longer c.args.source.now.path c.args.source.now.text c.args.progress.now.going c.in_ok-alone.alone.brought nodes
    (omega arith) (search rules) (search rules) (search rules) in
    let going : c.read_alone.new.progress ≡ with_more names c.args.progress.now = search rules in
    let is : (nodes_read (include_read (spliced_within (c.args.within.deep - 1) (text_in c.read_alone.new.files) settings longer) (text_in c.read_alone.new.files) longer)
    c.in_ok-alone.alone.brought c.args.around nodes c.read_alone.new.progress.going).nodes
    ≡ (spliced_within c.args.within.deep files settings c.args.within.chain.now c.args.around c.args.source.now.path c.args.source.now.text c.args.progress.now.going).nodes =
    ap (λ f. (nodes_read (include_read (spliced_within (c.args.within.deep - 1) (text_in f) settings longer) (text_in f) longer) c.in_ok-alone.alone.brought c.args.around nodes c.read_alone.new.progress.going).nodes)
    c.in_ok-alone.ensures.files
    ∙ ap (λ (g : Gone). (nodes_read read c.in_ok-alone.alone.brought c.args.around nodes g.going).nodes) going
    ∙ sym (ap (λ (s : Spliced). s.nodes) whole) in
    let is_nodes : in_place c.deref.result.now ≡ nodes = search rules in
    let Q : List Found → InPlace → Type 0 = λ f n. (filled n f).nodes
    ≡ (nodes_read (include_read (spliced_within (c.args.within.deep - 1) (text_in c.read_alone.new.files) settings longer) (text_in c.read_alone.new.files) longer)
    c.in_ok-alone.alone.brought c.args.around n c.read_alone.new.progress.going).nodes in
    on_both c.find_nodes-found.result c.fill_file.result (λ f. Q (map found_of f.items) (in_place c.deref.result.now)) (λ all f. in_place all.items ≡ (filled nodes (map found_of f.items)).nodes)
    (λ all. in_place all.items ≡ (spliced_within c.args.within.deep files settings c.args.within.chain.now c.args.around c.args.source.now.path c.args.source.now.text c.args.progress.now.going).nodes)
    (λ all f found made. made ∙ subst (Q (map found_of f.items)) is_nodes found ∙ is) c.find_nodes-found.ensures.found c.fill_file.ensures

pub read_file-returns-clause-progress : goal.read_file-returns-clause-progress
read_file-returns-clause-progress t c =
    let files = text_in c.args.files.now in
    let settings = c.args.within.settings.now in
    let longer = c.entered-longer.result in
    let own = own_directives c.args.source.now.path c.args.source.now.text in
    let names = brought_names (firsts_by files longer (one_file (length c.args.source.now.text)) own) in
    let read = include_read (spliced_within (c.args.within.deep - 1) files settings longer) files longer in
    let nodes = in_place c.in_ok-alone.alone.nodes.items in
    let whole : spliced_within c.args.within.deep files settings c.args.within.chain.now c.args.around c.args.source.now.path c.args.source.now.text c.args.progress.now.going
    ≡ with_names names (nodes_read read c.in_ok-alone.alone.brought c.args.around nodes c.args.progress.now.going) =
    file_is files settings c.args.within.deep (c.args.within.deep - 1) c.args.around c.args.within.chain.now longer c.args.source.now.path c.args.source.now.text c.args.progress.now.going c.in_ok-alone.alone.brought nodes
    (omega arith) (search rules) (search rules) (search rules) in
    let going : c.read_alone.new.progress ≡ with_more names c.args.progress.now = search rules in
    let is : behind_file c.read_alone.new.progress (nodes_read (include_read (spliced_within (c.args.within.deep - 1) (text_in c.read_alone.new.files) settings longer) (text_in c.read_alone.new.files) longer)
    c.in_ok-alone.alone.brought c.args.around nodes c.read_alone.new.progress.going)
    ≡ behind_file c.args.progress.now (spliced_within c.args.within.deep files settings c.args.within.chain.now c.args.around c.args.source.now.path c.args.source.now.text c.args.progress.now.going) =
    ap (λ f. behind_file c.read_alone.new.progress (nodes_read (include_read (spliced_within (c.args.within.deep - 1) (text_in f) settings longer) (text_in f) longer)
    c.in_ok-alone.alone.brought c.args.around nodes c.read_alone.new.progress.going)) c.in_ok-alone.ensures.files
    ∙ ap (λ (g : Gone). behind_file g (nodes_read read c.in_ok-alone.alone.brought c.args.around nodes g.going)) going
    ∙ more_behind names c.args.progress.now (nodes_read read c.in_ok-alone.alone.brought c.args.around nodes c.args.progress.now.going)
    ∙ sym (ap (behind_file c.args.progress.now) whole) in
    let is_nodes : in_place c.deref.result.now ≡ nodes = search rules in
    let Q : InPlace → Type 0 = λ n. c.find_nodes-found.new.progress ≡ behind_file c.read_alone.new.progress
    (nodes_read (include_read (spliced_within (c.args.within.deep - 1) (text_in c.read_alone.new.files) settings longer) (text_in c.read_alone.new.files) longer)
    c.in_ok-alone.alone.brought c.args.around n c.read_alone.new.progress.going) in
    on_both c.find_nodes-found.result c.fill_file.result (λ f. Q (in_place c.deref.result.now)) (λ all f. in_place all.items ≡ (filled nodes (map found_of f.items)).nodes)
    (λ all. c.find_nodes-found.new.progress ≡ behind_file c.args.progress.now (spliced_within c.args.within.deep files settings c.args.within.chain.now c.args.around c.args.source.now.path c.args.source.now.text c.args.progress.now.going))
    (λ all f gone made. subst Q is_nodes gone ∙ is) c.find_nodes-found.ensures.progress c.fill_file.ensures
