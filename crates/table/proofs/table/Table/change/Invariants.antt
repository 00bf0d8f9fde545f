use Rattle.std.proofs.Common.{◌≡◌, ◌++◌, map, take, drop}
use Rattle.rules.specs.declared.order.Order.{Order}
use Rattle.table.specs.Tests.{Tells}
use Rattle.table.proofs.Fit.{AllFit}
use Rattle.table.proofs.table.Table.change.Given as goal

-- The orders up to the index are changed, by every function that the closure tells; and all fit.
abbrev pub invariant-loop-o : goal.invariant-loop-o
invariant-loop-o g l =
    ((f : Order → Order) → Tells (goal.F-post g l.to) f → l.o-items ≡ map f (take l.o-index l.initial.o-items) ++ drop l.o-index l.initial.o-items)
    × AllFit l.o-items
