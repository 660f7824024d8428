use Rattle.std.proofs.Common.{◌≡◌, ap, false, subst, sym, true, ◌∙◌}
use Rattle.journal_reader.proofs.ValueLemmas.{KeysRise, keys_rise, pairs_seen, rise_keys}
use Rattle.journal_reader.specs.Values.{are_attrs}
use Rattle.journal_reader.proofs.values.attrs_of.Goals as goal

pub new-requires : goal.new-requires
new-requires c = subst KeysRise (sym c.into_vec.ensures) (keys_rise c.args.entries c.as_slice.result.now c.as_slice.ensures (c.are_rising.ensures.0 c.if-are_rising.true))

pub returns-then-are_rising : goal.returns-then-are_rising
returns-then-are_rising c = (
  ap are_attrs c.new.ensures ∙ pairs_seen _ ∙ c.into_vec.ensures,
  keys_rise c.args.entries c.as_slice.result.now c.as_slice.ensures (c.are_rising.ensures.0 c.if-are_rising.true),
)

pub returns-else-are_rising : goal.returns-else-are_rising
returns-else-are_rising c = λ rise.
    let is : c.are_rising.result ≡ true = c.are_rising.ensures.1 (rise_keys c.args.entries c.as_slice.result.now c.as_slice.ensures rise) in
    let both : true ≡ false = sym is ∙ c.if-are_rising.false in
    absurd (cc)
