-- The path and the query of a target.
use Rattle.std.specs.Prelude.{ℕ, Bool, List, ◌+◌, drop, Option, None, ◌==◌, if◌then◌else◌}
use Rattle.std.specs.List.{before_first, position}
use Rattle.std.specs.Option.{option_map}
use Rattle.std.specs.Result.{result_ok}
use Rattle.std.specs.Str.{is_utf8}
use Rattle.percent_encoding.specs.Percent.{percent_decode}
use Rattle.pg_text.specs.Path.{resolved, segments}

-- a question mark
abbrev pub is_mark : ℕ → Bool
is_mark b = b == 63

-- what stands before the first question mark
abbrev pub before_query : List ℕ → List ℕ
before_query target = before_first is_mark target

-- what stands behind the first question mark, where there is one
abbrev pub query_of : List ℕ → Option (List ℕ)
query_of target = option_map (λ at. drop (at + 1) target) (position is_mark target)

-- the path that a text stands for, where it stands for one
abbrev pub path_in : List ℕ → Option (List ℕ)
path_in text = if is_utf8 text then result_ok (resolved (segments None text)) else None

-- the path of a target: its escapes are decoded, a plus stays, and the text has to stand for a path
unfoldable pub path_of : List ℕ → Option (List ℕ)
path_of target = path_in (percent_decode (before_query target))
