use Rattle.std.proofs.Common.{◌≡◌, Ok, Err, Some, ap, rules, subst, sym}
use Rattle.std.specs.Option.{option_map}
use Rattle.pg_text.specs.Order.{AreRising, IsPlace}
use Rattle.pg_text.proofs.PlaceLemmas.{item_found}
use Rattle.source_tree.specs.declared.file.File.{File}
use Rattle.unit_source.specs.Files.{text_in}
use Rattle.unit_source.specs.ReadFiles.{AreOf, source, source_path}
use Rattle.unit_source.proofs.FileLemmas.{found_is, inserted}
use Rattle.unit_source.proofs.files.UnitFiles.file.Goals as goal

pub returns-in-Ok-clause-value : goal.returns-in-Ok-clause-value
returns-in-Ok-clause-value c =
    let read = c.self.inside.read.items in
    let place = subst (λ items. IsPlace source_path c.args.path.now items (Ok c.in-Ok.at)) c.deref.ensures.value c.in-Ok.ensures in
    let item = item_found source_path c.args.path.now read c.in-Ok.at c.index.result.now place c.index.ensures in
    let found = found_is (text_in c.self.inside.tree.now) c.args.path.now read c.index.result.now c.self.invariant.1.0 item in
    search (rules, found)

pub invariant_of-self-2 : goal.invariant_of-self-2
invariant_of-self-2 c =
    let files = text_in c.self.inside.tree.now in
    let read = c.self.inside.read.items in
    let text = c.in-Some.file.now.text in
    let place = subst (λ items. IsPlace source_path c.args.path.now items (Err c.in-Err.at)) c.deref.ensures.value c.in-Err.ensures in
    let found : files c.args.path.now ≡ Some text = sym (ap (option_map (λ (file : File). file.text)) c.in-Some.ensures) in
    let is : c.in_ok-copy-3.field-0 ≡ source c.args.path.now text = search rules in (
      c.self.invariant.0,
      subst (λ items. AreOf files items × AreRising source_path items) (sym c.in_ok-insert.ensures.items)
          (inserted files read c.in-Err.at c.args.path.now text c.in_ok-copy-3.field-0 c.self.invariant.1 place found is),
    )
