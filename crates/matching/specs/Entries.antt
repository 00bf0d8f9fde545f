-- What an entry does to a book, and its answer.
use Rattle.std.specs.Prelude.{ℕ, ◌-◌, Bool, true, cond, ◌&&◌, List, [], length, Some, None, Option, nat_lt}
use Rattle.policy.specs.Fair.{Rule}
use Rattle.rules.specs.declared.order.Order.{Order}
use Rattle.rules.specs.declared.incoming.Incoming.{Incoming}
use Rattle.rules.specs.declared.calls.EntryAnswer.{EntryAnswer}
use Rattle.rules.specs.Limits.{most_orders}
use Rattle.rules.specs.Trades.{Step}
use Rattle.rules.specs.Session.{Matched, reach, enough, met, rests}
use Rattle.table.specs.Fits.{price_fits}

-- An entry meets the book, if the lots within its reach meet its condition.
abbrev pub allowed : Rule → Incoming → List Order → Step
allowed rule e os = cond (enough e.condition e.lots (reach e os)) (met rule e os) (record { orders = os; tape = [] })

-- The lots that it then leaves.
abbrev pub left_of : Incoming → List Order → Option ℕ
left_of e os = cond (enough e.condition e.lots (reach e os)) (Some (e.lots - reach e os)) None

-- A limit order may rest: its price is one of the range, and there is room for it.
abbrev pub room_for : Option ℕ → List Order → Bool
room_for None os = true
room_for (Some q) os = price_fits q && nat_lt (length os) most_orders

abbrev pub entry_answer : ℕ → Matched → EntryAnswer
entry_answer number d = record { number = number; traded = d.traded; withdrawn = d.withdrawn; «open» = d.«open» }

abbrev pub settled_answer : Incoming → ℕ → EntryAnswer
settled_answer e left = record { number = e.number; traded = e.lots - left; withdrawn = cond (rests e.limit e.condition) 0 left; «open» = cond (rests e.limit e.condition) left 0 }
