use Rattle.std.proofs.Common.{◌≡◌, All, [], length}
use Rattle.context_talk.proofs.connection.desks_of.Given as goal

abbrev pub invariant-loop : goal.invariant-loop
invariant-loop g l = record {
  count : length l.desks.items ≡ l.counter;
  fresh : All (λ desk. (desk.desk.role ≡ l.role) × (desk.desk.draft ≡ [])) l.desks.items;
}
