use Rattle.std.proofs.Common.{◌≡◌, ◌++◌, map}
use Rattle.std.specs.List.{range_with_len}
use Rattle.load_gen.specs.Messages.{page_put, sent}
use Rattle.load_gen.proofs.generated.add_pages.Given as goal

abbrev pub invariant-loop-page : goal.invariant-loop-page
invariant-loop-page l = l.bytes.items ≡ l.initial.bytes.items ++ sent (map page_put (range_with_len 0 l.page))
