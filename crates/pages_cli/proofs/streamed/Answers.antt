use Rattle.std.proofs.Common.{◌≡◌, ℕ, Global, List, codes, map, refl, sym, ◌∙◌}
use Rattle.std.specs.Prelude.{string_bytes}
use Rattle.pages_cli.proofs.WordLemmas.{AskNoOther, no_other}
use Rattle.pages_cli.specs.Words.{first_of}
use Rattle.pages_cli.proofs.streamed.Goals as goal

pub returns-in-load-clause-only_refused : goal.returns-in-load-clause-only_refused
returns-in-load-clause-only_refused g c one =
    let words : List (List ℕ) = map (string_bytes {Z = Global}) c.args.words.now in
    let is : first_of words ≡ codes "load" = sym c.first.ensures ∙ c.in-load.is in
    let no : AskNoOther (codes "load") words = no_other (codes "load") words is in
    record { play = no.play refl; check = no.check refl; load = c.load.ensures.only_words one; serve = no.serve refl; preview = no.preview refl; recorded = no.recorded refl; contexts = no.contexts refl }

pub returns-in-preview-clause-only_refused : goal.returns-in-preview-clause-only_refused
returns-in-preview-clause-only_refused g c one =
    let words : List (List ℕ) = map (string_bytes {Z = Global}) c.args.words.now in
    let is : first_of words ≡ codes "preview" = sym c.first.ensures ∙ c.in-preview.is in
    let no : AskNoOther (codes "preview") words = no_other (codes "preview") words is in
    record { play = no.play refl; check = no.check refl; load = no.load refl; serve = no.serve refl; preview = c.preview_play.ensures.only_words one; recorded = no.recorded refl; contexts = no.contexts refl }
