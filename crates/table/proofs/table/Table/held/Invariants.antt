use Rattle.std.proofs.Common.{◌≡◌, ◌+◌, ◌*◌, ◌≤◌, Bool, drop}
use Rattle.rules.specs.declared.order.Order.{Order}
use Rattle.rules.specs.Orders.{held}
use Rattle.table.specs.Tests.{Tells}
use Rattle.table.proofs.table.Table.held.Given as goal

-- What is summed and what is left to sum is all, by every test that the closure tells.
abbrev pub invariant-loop-o : goal.invariant-loop-o
invariant-loop-o g l =
    ((test : Order → Bool) → Tells (goal.F-post g l.passes) test → l.sum + held test (drop l.o-index l.o-items) ≡ held test l.o-items)
    × (l.sum ≤ l.o-index * 9999)
