use Rattle.std.proofs.Common.{◌≡◌, map, take}
use Rattle.run_values.proofs.cookies.cookie_records.Given as goal
use Rattle.page_meaning.specs.Request.{cookie_entry}
use Rattle.pg_value.specs.Value.{entry_of}

abbrev pub invariant-loop-cookie : goal.invariant-loop-cookie
invariant-loop-cookie l = map entry_of l.entries.items ≡ map cookie_entry (take l.cookie-index l.cookie-items)
