use Rattle.http_out.specs.Head.{head_text}
use Rattle.http_out.proofs.text.head_text.Goals as goal

pub returns : goal.returns
unfolding head_text
returns c =
    rw (
      c.in_ok-extend_from_slice-4.ensures.items,
      c.in_ok-add_where-2.ensures,
      c.in_ok-add_length.ensures,
      c.in_ok-add_where.ensures,
      c.in_ok-add_field-2.ensures,
      c.in_ok-add_field.ensures,
      c.in_ok-add_type.ensures,
      c.in_ok-extend_from_slice-3.ensures.items,
      c.in_ok-extend_from_slice-2.ensures.items,
      c.in_ok-extend_from_slice.ensures.items,
      c.in_ok-text.ensures.items,
      c.as_bytes.ensures.value,
      c.as_str.ensures,
    )
