use Rattle.std.proofs.Common.{◌≡◌, ◌∙◌, Bool, true, false, not, refl, sym, subst}
use Rattle.std.proofs.lemmas.Bool.{false≢true}
use Rattle.std.proofs.lemmas.Slice.Eq.{bytes_eq-Decides}
use Rattle.site_words.specs.Ids.{is_id}
use Rattle.site_state.proofs.known_ids.KnownId.is.Goals as goal

not_false : (b : Bool) → not b ≡ false → b ≡ true
not_false true e = refl
not_false false e = absurd (false≢true (sym e))

pub returns : goal.returns
returns c = λ same.
    let known = c.args.self.now in
    let seeds : known.seed ≡ c.args.seed = (bytes_eq-Decides known.seed c.args.seed).0 (not_false _ (sym c.ne.ensures ∙ c.if-ne.false)) in
    let texts : known.text ≡ c.args.text.now =
    sym c.as_bytes.ensures ∙ ((bytes_eq-Decides c.as_bytes.result.now c.as_bytes-2.result.now).0 (sym c.eq.ensures ∙ same) ∙ c.as_bytes-2.ensures) in
    subst (λ s. is_id s c.args.number c.args.text.now ≡ true) seeds
    (subst (λ n. is_id known.seed n c.args.text.now ≡ true) c.if-self-number.false
    (subst (λ t. is_id known.seed known.number t ≡ true) texts known.right))
