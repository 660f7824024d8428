-- A connection to a site: what never changes on it, and where it stands.
use Rattle.std.specs.Prelude.{ℕ, List}
use Rattle.site_words.specs.Trees.{Needs}
use Rattle.site_words.specs.declared.words.Opening.{Opening}
use Rattle.source_tree.specs.declared.edit.Edit.{Edit}
use Rattle.page_answers.specs.Standing.{Standing}
use Rattle.talk_words.specs.declared.role.Role.{Role}

-- what never changes: what pages need, the site's opening, the pass that acts, and whether it may change the site
pub record Connection : Type 0 where
  pub needs : Needs
  pub opening : Opening
  pub pass : ℕ
  pub role : Role

-- these four as a connection
abbrev pub connection_of : Needs → Opening → (pass : ℕ) → Role → Connection
connection_of needs opening pass role = record { needs = needs; opening = opening; pass = pass; role = role }

-- where a connection stands: the edits of its draft, and what its pass has seen, what its clock tells and what was read
pub record Stand : Type 0 where
  pub draft : List Edit
  pub at : Standing

-- these two as a stand
abbrev pub stand_of : List Edit → Standing → Stand
stand_of draft at = record { draft = draft; at = at }
