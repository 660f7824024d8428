-- What contracts see of a site.
use Rattle.std.specs.Prelude.{ℕ, List, [], ◌∷◌, ◌++◌}
use Rattle.pg_value.specs.Datum.{Datum}
use Rattle.source_tree.specs.declared.file.File.{File}
use Rattle.site_words.specs.declared.words.Entry.{Entry}
use Rattle.site_words.specs.declared.words.Opening.{Opening}
use Rattle.site_words.specs.declared.words.Op.{Op}
use Rattle.site_words.specs.declared.words.Reply.{Reply}

-- a site is its opening and its history
pub record Lived : Type 0 where
  pub opening : Opening
  pub history : List Entry

-- with one entry more
abbrev pub with_entry : Lived → ℕ → Op → Reply → Lived
with_entry s pass o r = record { opening = s.opening; history = s.history ++ record { pass = pass; op = o; reply = r } ∷ [] }

-- the opening of a new site: version, counts and moment are 0, and there is no session
abbrev pub first_opening : List ℕ → List (List ℕ × Datum) → List File → ℕ → ℕ → ℕ → Opening
first_opening seed app tree limit passes idle = record {
  seed = seed;
  limit = limit;
  passes = passes;
  idle = idle;
  version = 0;
  begins = 0;
  freshes = 0;
  moment = 0;
  app = app;
  tree = tree;
  sessions = [];
}
