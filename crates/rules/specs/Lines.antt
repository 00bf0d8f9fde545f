-- The lines of the Trading IDs.
use Rattle.std.specs.Prelude.{ℕ, ◌-◌, Bool, true, false, cond, not, ◌&&◌, List, Some, None, Option, ◌==◌, slice_index_or, slice_set}
use Rattle.rules.specs.declared.line.Line.{Line}
use Rattle.rules.specs.declared.line.Line.TheVariants.{Up, Down}
use Rattle.rules.specs.declared.line.LineEvent.{LineEvent}
use Rattle.rules.specs.declared.line.LineEvent.TheVariants.{GoesDown, ComesUp, Names}
use Rattle.rules.specs.declared.order.Order.{Order}
use Rattle.rules.specs.declared.order.Lifetime.{Lifetime}
use Rattle.rules.specs.declared.order.Lifetime.TheVariants.{Plain, Gis, Gtc}

-- What a line call makes of a line: it keeps its successor until another is named.
abbrev pub after_event : Line → LineEvent → Line
after_event (Up successor) GoesDown = Down successor
after_event (Down successor) GoesDown = Down successor
after_event (Up successor) ComesUp = Up successor
after_event (Down successor) ComesUp = Up successor
after_event (Up successor) (Names id) = Up (Some id)
after_event (Down successor) (Names id) = Down (Some id)

abbrev pub is_down : Line → Bool
is_down (Up successor) = false
is_down (Down successor) = true

abbrev pub successor_of : Line → Option ℕ
successor_of (Up successor) = successor
successor_of (Down successor) = successor

-- The line of an ID: the first line is that of ID 1.
abbrev pub line_of : ℕ → List Line → Line
line_of id ls = slice_index_or ls (id - 1) (Up None)

abbrev pub moved : ℕ → LineEvent → List Line → List Line
moved id event ls = slice_set ls (id - 1) (after_event (line_of id ls) event)

-- Who takes over the orders of a line that goes down: its successor, if one is named and up.
abbrev pub if_up : List Line → Option ℕ → Option ℕ
if_up ls None = None
if_up ls (Some id) = cond (is_down (line_of id ls)) None (Some id)

abbrev pub heir : ℕ → List Line → Option ℕ
heir id ls = if_up ls (successor_of (line_of id ls))

-- The orders that do not outlive their line: those of the ID, but for GTC orders.
abbrev pub is_gtc : Lifetime → Bool
is_gtc Plain = false
is_gtc Gis = false
is_gtc (Gtc day) = true

abbrev pub drops : ℕ → Order → Bool
drops id o = o.id == id && not (is_gtc o.lifetime)

-- An order passed on keeps all but its ID.
abbrev pub passed : ℕ → Order → Order
passed id o = record { number = o.number; id = id; side = o.side; kind = o.kind; lots = o.lots; lifetime = o.lifetime }
