-- For each call the checks it must pass, in order: the first that fails gives the refusal.
use Rattle.std.specs.Prelude.{ℕ, ◌-◌, Bool, true, false, not, ◌||◌, List, [], ◌∷◌, length, find, Some, None, Option, ◌==◌, nat_le, nat_lt}
use Rattle.rules.specs.declared.order.Order.{Order}
use Rattle.rules.specs.declared.calls.Phase.{Phase}
use Rattle.rules.specs.declared.calls.Phase.TheVariants.{PreOpen, Open}
use Rattle.rules.specs.declared.calls.TimeInForce.{TimeInForce}
use Rattle.rules.specs.declared.calls.TimeInForce.TheVariants.{Plain, Gis, Gtc}
use Rattle.rules.specs.declared.calls.Condition.{Condition}
use Rattle.rules.specs.declared.calls.Condition.TheVariants.{Unconditional, Ic, Cv, Mv}
use Rattle.rules.specs.declared.calls.LimitEntry.{LimitEntry}
use Rattle.rules.specs.declared.calls.OnOpenEntry.{OnOpenEntry}
use Rattle.rules.specs.declared.calls.MarketEntry.{MarketEntry}
use Rattle.rules.specs.declared.calls.Trial.{Trial}
use Rattle.rules.specs.declared.refusal.Refusal.TheVariants.{NoSuchId, LineIsDown, PriceNotTaken, VolumeOutOfRange, MinimumOutOfRange, ModifierNotAllowed, DayOutOfRange, BookFull, NumbersUsedUp, NoSuchOrder, HeldByAnother, ReductionOutOfRange, LineIsUp, SuccessorNotAllowed}
use Rattle.rules.specs.Limits.{most_lots, most_orders, most_ids, last_number}
use Rattle.rules.specs.Refusals.{Check}
use Rattle.rules.specs.Ladders.{takes}
use Rattle.rules.specs.Lines.{line_of, is_down}
use Rattle.rules.specs.Machine.{Machine}

abbrev pub outside : ℕ → ℕ → ℕ → Bool
outside low high n = nat_lt n low || nat_lt high n

-- ---- what the checks ask

abbrev pub line_down : Machine → ℕ → Bool
line_down m id = is_down (line_of id m.lines)

-- An MV minimum is from 1 to the volume.
abbrev pub minimum_outside : Condition → ℕ → Bool
minimum_outside Unconditional lots = false
minimum_outside Ic lots = false
minimum_outside Cv lots = false
minimum_outside (Mv minimum) lots = outside 1 lots minimum

abbrev pub is_plain : TimeInForce → Bool
is_plain Plain = true
is_plain Gis = false
is_plain (Gtc day) = false

-- A limit order has no condition before the opening; in session IC and CV go with plain only.
abbrev pub limit_allowed : Phase → TimeInForce → Condition → Bool
limit_allowed phase t Unconditional = true
limit_allowed PreOpen t Ic = false
limit_allowed PreOpen t Cv = false
limit_allowed PreOpen t (Mv minimum) = false
limit_allowed Open t Ic = is_plain t
limit_allowed Open t Cv = is_plain t
limit_allowed Open t (Mv minimum) = true

-- An On-Open order is plain or GTC.
abbrev pub on_open_allowed : TimeInForce → Bool
on_open_allowed Plain = true
on_open_allowed Gis = false
on_open_allowed (Gtc day) = true

-- A market order is plain and may have CV or MV.
abbrev pub market_allowed : TimeInForce → Condition → Bool
market_allowed t Unconditional = is_plain t
market_allowed t Ic = false
market_allowed t Cv = is_plain t
market_allowed t (Mv minimum) = is_plain t

-- A GTC day is from today to the last trading day.
abbrev pub day_outside : Machine → TimeInForce → Bool
day_outside m Plain = false
day_outside m Gis = false
day_outside m (Gtc None) = false
day_outside m (Gtc (Some day)) = outside m.today m.last_trading_day day

abbrev pub full : Machine → Bool
full m = nat_le most_orders (length m.orders)

abbrev pub used_up : Machine → Bool
used_up m = nat_lt last_number m.next

-- The open order of a number, if there is one.
abbrev pub order_of : ℕ → List Order → Option Order
order_of n os = find (λ o. o.number == n) os

abbrev pub missing : Option Order → Bool
missing None = true
missing (Some o) = false

abbrev pub another_holds : ℕ → Option Order → Bool
another_holds id None = false
another_holds id (Some o) = not (o.id == id)

abbrev pub open_lots : Option Order → ℕ
open_lots None = 0
open_lots (Some o) = o.lots

-- ---- the checks of each call

-- That the ID is one of the book's, and its line up.
abbrev pub id_checks : Machine → ℕ → List Check → List Check
id_checks m id more = (outside 1 most_ids id, NoSuchId) ∷ (line_down m id, LineIsDown) ∷ more

-- That there is room for one order more, and a number for it.
abbrev pub room_checks : Machine → List Check
room_checks m = (full m, BookFull) ∷ (used_up m, NumbersUsedUp) ∷ []

abbrev pub limit_terms : Machine → LimitEntry → List Check
limit_terms m e =
    (not (takes m.ladder e.price), PriceNotTaken) ∷
    (outside 1 most_lots e.lots, VolumeOutOfRange) ∷
    (minimum_outside e.condition e.lots, MinimumOutOfRange) ∷
    (not (limit_allowed m.phase e.lifetime e.condition), ModifierNotAllowed) ∷
    (day_outside m e.lifetime, DayOutOfRange) ∷
    room_checks m

abbrev pub limit_checks : Machine → LimitEntry → List Check
limit_checks m e = id_checks m e.id (limit_terms m e)

abbrev pub on_open_terms : Machine → OnOpenEntry → List Check
on_open_terms m e =
    (outside 1 most_lots e.lots, VolumeOutOfRange) ∷
    (not (on_open_allowed e.lifetime), ModifierNotAllowed) ∷
    (day_outside m e.lifetime, DayOutOfRange) ∷
    room_checks m

abbrev pub on_open_checks : Machine → OnOpenEntry → List Check
on_open_checks m e = id_checks m e.id (on_open_terms m e)

-- A market order never rests, so a full book takes it.
abbrev pub market_terms : Machine → MarketEntry → List Check
market_terms m e =
    (outside 1 most_lots e.lots, VolumeOutOfRange) ∷
    (minimum_outside e.condition e.lots, MinimumOutOfRange) ∷
    (not (market_allowed e.lifetime e.condition), ModifierNotAllowed) ∷
    (used_up m, NumbersUsedUp) ∷
    []

abbrev pub market_checks : Machine → MarketEntry → List Check
market_checks m e = id_checks m e.id (market_terms m e)

-- That there is an open order of the number, and the ID holds it.
abbrev pub order_terms : ℕ → Option Order → List Check → List Check
order_terms id order more =
    (missing order, NoSuchOrder) ∷
    (another_holds id order, HeldByAnother) ∷
    more

abbrev pub cancel_checks : Machine → ℕ → ℕ → List Check
cancel_checks m id number = id_checks m id (order_terms id (order_of number m.orders) [])

-- A reduction leaves at least one lot open.
abbrev pub reduction_terms : ℕ → Option Order → ℕ → List Check
reduction_terms id order lots = order_terms id order ((outside 1 (open_lots order - 1) lots, ReductionOutOfRange) ∷ [])

abbrev pub reduce_checks : Machine → ℕ → ℕ → ℕ → List Check
reduce_checks m id number lots = id_checks m id (reduction_terms id (order_of number m.orders) lots)

abbrev pub line_down_checks : Machine → ℕ → List Check
line_down_checks m id = id_checks m id []

abbrev pub line_up_checks : Machine → ℕ → List Check
line_up_checks m id =
    (outside 1 most_ids id, NoSuchId) ∷
    (not (line_down m id), LineIsUp) ∷
    []

abbrev pub successor_checks : Machine → ℕ → ℕ → List Check
successor_checks m id successor =
    (outside 1 most_ids id, NoSuchId) ∷
    (outside 1 most_ids successor || (successor == id), SuccessorNotAllowed) ∷
    []

abbrev pub trial_checks : Machine → Trial → List Check
trial_checks m t =
    (not (takes m.ladder t.price), PriceNotTaken) ∷
    (outside 1 most_lots t.lots, VolumeOutOfRange) ∷
    (full m, BookFull) ∷
    []
