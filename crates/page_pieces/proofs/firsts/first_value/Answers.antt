use Rattle.std.proofs.Common.{refl, sym, ap, ◌∙◌}
use Rattle.std.proofs.lemmas.Option.{slice_get_past, slice_get_read}
use Rattle.std.specs.Option.{option_copied}
use Rattle.page_pieces.specs.Settings.{plain_text}
use Rattle.page_pieces.proofs.FirstLemmas.{attribute_at, value_at, value_there}
use Rattle.page_pieces.proofs.firsts.first_value.Goals as goal

pub returns-in_default : goal.returns-in_default
returns-in_default c has =
    ap (λ at. value_at (attribute_at c.args.attributes.now at)) (sym (ap option_copied c.in_default.is) ∙ (c.get.ensures.value ∙ has c.args.name.now)) ∙ sym (value_there c.args.name.now c.args.attributes.now)

pub returns-in-Some-get : goal.returns-in-Some-get
returns-in-Some-get c has =
    c.plain_text.ensures
    ∙ (ap plain_text c.as_slice.ensures
    ∙ (ap value_at (sym (slice_get_read c.args.attributes.now _ c.in-Some.at.now c.in-Some-get.attribute.now refl c.in-Some-get.ensures.lookup.3.0 c.in-Some-get.ensures.lookup.1))
    ∙ (ap (λ at. value_at (attribute_at c.args.attributes.now at)) (sym (ap option_copied c.in-Some.is) ∙ (c.get.ensures.value ∙ has c.args.name.now)) ∙ sym (value_there c.args.name.now c.args.attributes.now))))

pub returns-in-None : goal.returns-in-None
returns-in-None c has =
    ap value_at (sym (slice_get_past c.args.attributes.now c.in-Some.at.now c.in-None.ensures.lookup.3))
    ∙ (ap (λ at. value_at (attribute_at c.args.attributes.now at)) (sym (ap option_copied c.in-Some.is) ∙ (c.get.ensures.value ∙ has c.args.name.now)) ∙ sym (value_there c.args.name.now c.args.attributes.now))
