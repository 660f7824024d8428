-- What is written, and the texts of bodies that are kept.
use Rattle.std.specs.Prelude.{ℕ, Bool, true, false, List}
use Rattle.el_coercion.specs.Text.{text_of}
use Rattle.jstl_functions.specs.Texts.{trimmed_end, trimmed_front}
use Rattle.pg_text.specs.declared.place.Place.{Place}
use Rattle.pg_value.specs.Datum.{Datum, text}
use Rattle.page_meaning.specs.State.{State, in_writer}
use Rattle.page_meaning.specs.Went.{Did, Went, Well, then_do, result_of}
use Rattle.out_buffer.specs.Writer.{put, body_answer, with_body, without_body, innermost}

-- writes a text: X10 and X19
abbrev pub put_text : Place → List ℕ → State → Did
put_text place bytes s = then_do (result_of place (put bytes s.writer) s) (λ w s1. Well tt (in_writer w s1))

-- takes the innermost kept body: X20 where it is too large
abbrev pub taken : Place → State → Went (List ℕ)
taken place s = result_of place (body_answer (innermost s.writer.kept)) (in_writer (without_body s.writer) s)

-- the text that a part writes
abbrev pub keeping : Place → (State → Did) → State → Went (List ℕ)
keeping place part s = then_do (part (in_writer (with_body s.writer) s)) (λ u s1. taken place s1)

-- a text without the characters up to U+0020 at its ends
abbrev pub trimmed : List ℕ → List ℕ
trimmed t = trimmed_end (trimmed_front t)

-- the text that a part writes, trimmed, as a value
abbrev pub kept_value : Place → (State → Did) → State → Went Datum
kept_value place part s = then_do (keeping place part s) (λ t s1. Well (text (trimmed t)) s1)

-- a text, trimmed where that is asked
abbrev pub trimmed_if : Bool → List ℕ → List ℕ
trimmed_if true t = trimmed t
trimmed_if false t = t

-- the value that the body of `jsp:attribute` gives
abbrev pub given_value : Bool → Place → (State → Did) → State → Went Datum
given_value trim place part s = then_do (keeping place part s) (λ t s1. Well (text (trimmed_if trim t)) s1)

-- the text of a part's value is written
abbrev pub shown_mean : Place → (State → Went Datum) → State → Did
shown_mean place value s = then_do (value s) (λ d s1. then_do (result_of place (text_of d) s1) (λ t s2. put_text place t s2))
