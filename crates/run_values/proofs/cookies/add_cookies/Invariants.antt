use Rattle.std.proofs.Common.{◌≡◌, ◌++◌}
use Rattle.std.specs.Prelude.{flat_map}
use Rattle.std.specs.Option.{option_map}
use Rattle.httparse.specs.Grammar.{trim_ows}
use Rattle.run_values.proofs.cookies.add_cookies.Given as goal
use Rattle.run_values.specs.Objects.{cookies_between, pieces_behind}
use Rattle.page_meaning.specs.Request.{cookie_in}
use Rattle.run_values.proofs.CookieLemmas.{left_of}

abbrev pub invariant-loop-behind : goal.invariant-loop-behind
invariant-loop-behind l =
    l.found ++ flat_map (λ piece. cookie_in (trim_ows piece)) (pieces_behind (option_map (λ text. text.now) l.behind)) ≡ l.initial.found ++ cookies_between l.value

abbrev pub decreases-loop-behind : goal.decreases-loop-behind
decreases-loop-behind l = left_of (option_map (λ text. text.now) l.behind)
