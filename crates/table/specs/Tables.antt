-- What a table, a tape and the lines hold.
use Rattle.std.specs.Prelude.{List}
use Rattle.rules.specs.declared.order.Order.{Order}
use Rattle.rules.specs.declared.tape.TapeLine.{TapeLine}
use Rattle.rules.specs.declared.line.Line.{Line}
use Rattle.table.specs.declared.table.Table.{Table}
use Rattle.table.specs.declared.tape.Tape.{Tape}
use Rattle.table.specs.declared.lines.Lines.{Lines}

-- The open orders, in the order of their entry.
abbrev pub open_orders : Table → List Order
open_orders t = t.orders.items

-- The lines, in the order of their writing.
abbrev pub tape_lines : Tape → List TapeLine
tape_lines t = t.lines.items

-- The line of each ID, that of ID 1 first.
abbrev pub line_list : Lines → List Line
line_list ls = ls.lines
