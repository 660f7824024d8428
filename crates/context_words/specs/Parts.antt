-- What a context has of its own on a connection, and what is lent to all contexts.
use Rattle.std.specs.Prelude.{ℕ, List}
use Rattle.edges.specs.Clock.{Moments}
use Rattle.page_answers.specs.Standing.{standing_of}
use Rattle.site_words.specs.declared.words.Entry.{Entry}
use Rattle.source_tree.specs.declared.edit.Edit.{Edit}
use Rattle.talk_words.specs.Connection.{Stand, stand_of}

-- the edits of its draft, and what its pass has seen
pub record Part : Type 0 where
  pub draft : List Edit
  pub seen : List Entry

-- these two
abbrev pub part_of : List Edit → List Entry → Part
part_of draft seen = record { draft = draft; seen = seen }

-- what the clock tells of its moments, and the bytes read so far
pub record Lent : Type 0 where
  pub moments : Moments
  pub steps : ℕ

-- these two
abbrev pub lent_of : Moments → ℕ → Lent
lent_of moments steps = record { moments = moments; steps = steps }

-- where a connection stands with these
abbrev pub stand_at : Part → Lent → Stand
stand_at part lent = stand_of part.draft (standing_of part.seen lent.moments lent.steps)
