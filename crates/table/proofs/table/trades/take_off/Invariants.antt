use Rattle.table.specs.Tables.{tape_lines}
use Rattle.table.proofs.Taking.{Taking, Writing}
use Rattle.table.proofs.table.trades.take_off.Given as goal

abbrev pub invariant-loop-o : goal.invariant-loop-o
invariant-loop-o l =
    Taking l.level.side l.level.kind l.shares l.initial.orders l.orders l.o-index l.left
    × Writing l.level.side l.level.kind l.price l.shares l.initial.orders (tape_lines l.initial.tape) (tape_lines l.tape) l.o-index l.left
