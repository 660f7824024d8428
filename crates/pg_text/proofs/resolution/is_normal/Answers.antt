use Rattle.std.proofs.Common.{◌≡◌, ◌∷◌, ◌∙◌, sym, Bool, not, true, false, refl}
use Rattle.std.proofs.lemmas.Bool.{false≢true}
use Rattle.pg_text.proofs.NormalTexts.{normal_text}
use Rattle.pg_text.proofs.resolution.is_normal.Goals as goal

not_true : (b : Bool) → not b ≡ true → b ≡ false
not_true true e = absurd (false≢true e)
not_true false e = refl

pub returns : goal.returns
returns c = λ named.
    let text = c.args.text.now in
    let names = c.in-Some.names.now in
    let begins : text ≡ 47 ∷ names = cc (c.in-Some.ensures.cases.0, c.if-first-ne47.false) in
    normal_text text names begins c.if-text-gt-MAX_PATH_BYTES.false (sym c.has_bad_byte.ensures ∙ c.if-has_bad_byte.false) (sym c.has_no_name.ensures ∙ not_true c.has_no_name.result named)
