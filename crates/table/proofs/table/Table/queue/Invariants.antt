use Rattle.std.proofs.Common.{◌≡◌, take}
use Rattle.rules.specs.Orders.{queue}
use Rattle.table.proofs.table.Table.queue.Given as goal

abbrev pub invariant-loop-o : goal.invariant-loop-o
invariant-loop-o l = l.queue.items ≡ queue l.level.side l.level.kind (take l.o-index l.o-items)
