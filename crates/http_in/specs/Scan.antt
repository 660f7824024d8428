-- Looking for the end of a head from a place on.
use Rattle.std.specs.Prelude.{◌≡◌, ◌≤◌, ◌+◌, ℕ, List, ◌++◌, length, drop, Option}
use Rattle.std.specs.Option.{option_map}
use Rattle.http_in.specs.declared.scan.Scan.{Scan}
use Rattle.http_in.specs.declared.scan.Scan.TheVariants.{Pairs, Head}
use Rattle.http_in.specs.HeadEnd.{head_len, through_empty_line}

-- how many bytes were looked through
abbrev pub looked : Scan → ℕ
looked (Pairs at) = at
looked (Head at) = at

-- the length of a head whose end is looked for in what stands behind those bytes
abbrev pub end_behind : Scan → List ℕ → Option ℕ
end_behind (Pairs at) rest = option_map (λ n. n + at) (head_len rest)
end_behind (Head at) rest = option_map (λ n. n + at) (through_empty_line rest)

-- looking on from there finds what looking through all bytes would find, whatever bytes follow
pub record HasLooked (scan : Scan) (bytes : List ℕ) : Type 0 where
  pub within : looked scan ≤ length bytes
  pub same : (more : List ℕ) → head_len (bytes ++ more) ≡ end_behind scan (drop (looked scan) bytes ++ more)
