use Rattle.std.proofs.Common.{◌≡◌, ℕ, Global, List, codes, map, refl, sym, ◌∙◌}
use Rattle.std.specs.Prelude.{string_bytes}
use Rattle.pages_cli.proofs.WordLemmas.{AskNoOther, no_other}
use Rattle.pages_cli.specs.Words.{first_of}
use Rattle.pages_cli.proofs.run.Goals as goal

pub returns-in-serve-clause-only_refused : goal.returns-in-serve-clause-only_refused
returns-in-serve-clause-only_refused g c one =
    let words : List (List ℕ) = map (string_bytes {Z = Global}) c.args.words.now in
    let is : first_of words ≡ codes "serve" = sym c.first.ensures ∙ c.in-serve.is in
    let no : AskNoOther (codes "serve") words = no_other (codes "serve") words is in
    record { play = no.play refl; check = no.check refl; load = no.load refl; serve = c.served.ensures.only_words one; preview = no.preview refl; recorded = no.recorded refl; contexts = no.contexts refl }
