-- A site on which one pass acts alone.
use Rattle.std.specs.Prelude.{◌≡◌, ◌≢◌, ℕ, ◌<◌, List, None}
use Rattle.site_words.specs.declared.words.Entry.{Entry}
use Rattle.site_words.specs.declared.words.Opening.{Opening}
use Rattle.site_words.specs.Law.{own, run_of}

-- no pass but pass 0 has a request under way
abbrev pub OthersRest : Opening → List Entry → Type 0
OthersRest x history = (k : ℕ) → k < x.passes → k ≢ 0 → run_of (own k history) ≡ None
