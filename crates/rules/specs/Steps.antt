-- The steps of the machine: what each call answers, and the book it leaves.
use Rattle.std.specs.Prelude.{ℕ, ◌+◌, ◌-◌, min, Bool, true, false, cond, not, ◌&&◌, List, [], ◌∷◌, ◌++◌, map, Some, None, filter, Option, ◌==◌}
use Rattle.rules.specs.declared.order.Side.{Side}
use Rattle.rules.specs.declared.order.Side.TheVariants.{Bid, Offer}
use Rattle.rules.specs.declared.order.Kind.{Kind}
use Rattle.rules.specs.declared.order.Kind.TheVariants.{Limit, OnOpen}
use Rattle.rules.specs.declared.order.Order.{Order}
use Rattle.rules.specs.declared.order.Lifetime.{Lifetime}
use Rattle.rules.specs.declared.order.Lifetime.TheVariants as life
use Rattle.rules.specs.declared.line.LineEvent.TheVariants.{GoesDown, ComesUp, Names}
use Rattle.rules.specs.declared.calls.Phase.{Phase}
use Rattle.rules.specs.declared.calls.Phase.TheVariants.{PreOpen, Open}
use Rattle.rules.specs.declared.calls.Hours.{Hours}
use Rattle.rules.specs.declared.calls.Hours.TheVariants.{Day, Evening}
use Rattle.rules.specs.declared.calls.TimeInForce.{TimeInForce}
use Rattle.rules.specs.declared.calls.TimeInForce.TheVariants.{Plain, Gis, Gtc}
use Rattle.rules.specs.declared.calls.LimitEntry.{LimitEntry}
use Rattle.rules.specs.declared.calls.OnOpenEntry.{OnOpenEntry}
use Rattle.rules.specs.declared.calls.MarketEntry.{MarketEntry}
use Rattle.rules.specs.declared.calls.Trial.{Trial}
use Rattle.rules.specs.declared.calls.Call.{Call}
use Rattle.rules.specs.declared.calls.Call.TheVariants.{EnterLimit, EnterOnOpen, EnterMarket, Cancel, Reduce, TakeLineDown, BringLineUp, NameSuccessor, Try, OpenBook, CloseBook}
use Rattle.rules.specs.declared.calls.Answer.{Answer}
use Rattle.rules.specs.declared.calls.Answer.TheVariants.{Entered, Cancelled, Reduced, Dropped, Done, Tried, Opened, Closed, Refused, WrongPhase}
use Rattle.rules.specs.declared.refusal.Refusal.{Refusal}
use Rattle.rules.specs.Sides.{is}
use Rattle.rules.specs.Orders.{held}
use Rattle.rules.specs.Price.{volume, price}
use Rattle.rules.specs.Trades.{less}
use Rattle.rules.specs.Opening.{opened}
use Rattle.rules.specs.declared.incoming.Incoming.{Incoming}
use Rattle.rules.specs.Session.{matched}
use Rattle.rules.specs.Lines.{moved, heir, drops, passed}
use Rattle.rules.specs.Refusals.{Check, first}
use Rattle.rules.specs.Machine.{Rules, Machine, with_orders, with_lines, numbered, with_phase}
use Rattle.rules.specs.Checks.{order_of, open_lots, limit_checks, on_open_checks, market_checks, cancel_checks, reduce_checks, line_down_checks, line_up_checks, successor_checks, trial_checks}

pub record Outcome : Type 0 where
  pub answer : Answer
  pub after : Machine

abbrev pub outcome : Answer → Machine → Outcome
outcome answer after = record { answer = answer; after = after }

-- A refused call changes nothing.
abbrev pub refused : Option Refusal → Machine → Outcome → Outcome
refused None m taken = taken
refused (Some r) m taken = outcome (Refused r) m

abbrev pub checked : List Check → Machine → Outcome → Outcome
checked checks m taken = refused (first checks) m taken

-- ---- entries

-- A GTC order without a day is good till the last trading day.
abbrev pub lifetime_in : Machine → TimeInForce → Lifetime
lifetime_in m Plain = life.Plain
lifetime_in m Gis = life.Gis
lifetime_in m (Gtc None) = life.Gtc m.last_trading_day
lifetime_in m (Gtc (Some day)) = life.Gtc day

-- Before the opening an entry waits behind those before it.
abbrev pub wait : Machine → ℕ → Side → Kind → ℕ → TimeInForce → Outcome
wait m id side kind lots t =
    outcome
    (Entered (record { number = m.next; traded = 0; withdrawn = 0; «open» = lots }))
    (numbered m m.tape (m.orders ++ record { number = m.next; id = id; side = side; kind = kind; lots = lots; lifetime = lifetime_in m t } ∷ []))

-- In session it meets the book, and the tape is its own.
abbrev pub meet : Rules → Machine → Incoming → Outcome
meet R m e =
    let d = matched R.session e m.orders in
    outcome
    (Entered (record { number = m.next; traded = d.traded; withdrawn = d.withdrawn; «open» = d.«open» }))
    (numbered m d.tape d.orders)

abbrev pub limit_incoming : Machine → LimitEntry → Incoming
limit_incoming m e = record { number = m.next; id = e.id; side = e.side; limit = Some e.price; lots = e.lots; lifetime = lifetime_in m e.lifetime; condition = e.condition }

abbrev pub market_incoming : Machine → MarketEntry → Incoming
market_incoming m e = record { number = m.next; id = e.id; side = e.side; limit = None; lots = e.lots; lifetime = lifetime_in m e.lifetime; condition = e.condition }

abbrev pub limit_in : Rules → Machine → LimitEntry → Phase → Outcome
limit_in R m e PreOpen = wait m e.id e.side (Limit e.price) e.lots e.lifetime
limit_in R m e Open = meet R m (limit_incoming m e)

abbrev pub enter_limit : Rules → Machine → LimitEntry → Outcome
enter_limit R m e = checked (limit_checks m e) m (limit_in R m e m.phase)

abbrev pub enter_on_open : Machine → OnOpenEntry → Outcome
enter_on_open m e = checked (on_open_checks m e) m (wait m e.id e.side OnOpen e.lots e.lifetime)

abbrev pub enter_market : Rules → Machine → MarketEntry → Outcome
enter_market R m e = checked (market_checks m e) m (meet R m (market_incoming m e))

-- ---- cancellation and reduction

-- The open orders without the order of a number. No number is given twice, so there is no second one.
abbrev pub without : ℕ → List Order → List Order
without n [] = []
without n (o ∷ os) = cond (o.number == n) os (o ∷ without n os)

abbrev pub cancel : Machine → ℕ → ℕ → Outcome
cancel m id number = checked (cancel_checks m id number) m (outcome (Cancelled (open_lots (order_of number m.orders))) (with_orders m (without number m.orders)))

-- The same with that many lots less of it.
abbrev pub reduced : ℕ → ℕ → List Order → List Order
reduced n lots [] = []
reduced n lots (o ∷ os) = cond (o.number == n) (less o lots ∷ os) (o ∷ reduced n lots os)

abbrev pub reduce : Machine → ℕ → ℕ → ℕ → Outcome
reduce m id number lots = checked (reduce_checks m id number lots) m (outcome (Reduced (open_lots (order_of number m.orders) - lots)) (with_orders m (reduced number lots m.orders)))

-- ---- lines

-- The lots of the orders that a test finds, as a pair of bids and offers.
abbrev pub pair_of : (Order → Bool) → List Order → ℕ × ℕ
pair_of t os = (held (λ o. is Bid o.side && t o) os, held (λ o. is Offer o.side && t o) os)

-- The orders that do not outlive their line pass to the heir, or are withdrawn where there is none.
abbrev pub handed : ℕ → Option ℕ → List Order → List Order
handed id None os = filter (λ o. not (drops id o)) os
handed id (Some heir) os = map (λ o. cond (drops id o) (passed heir o) o) os

abbrev pub dropped_lots : ℕ → Option ℕ → List Order → ℕ × ℕ
dropped_lots id None os = pair_of (drops id) os
dropped_lots id (Some heir) os = (0, 0)

abbrev pub take_line_down : Machine → ℕ → Outcome
take_line_down m id = checked (line_down_checks m id) m (outcome
    (Dropped (dropped_lots id (heir id m.lines) m.orders))
    (with_lines m (moved id GoesDown m.lines) (handed id (heir id m.lines) m.orders)))

abbrev pub bring_line_up : Machine → ℕ → Outcome
bring_line_up m id = checked (line_up_checks m id) m (outcome Done (with_lines m (moved id ComesUp m.lines) m.orders))

abbrev pub name_successor : Machine → ℕ → ℕ → Outcome
name_successor m id successor = checked (successor_checks m id successor) m (outcome Done (with_lines m (moved id (Names successor) m.lines) m.orders))

-- ---- trial, opening, close

-- How the book would open with one limit order more.
abbrev pub tried_order : Machine → Trial → Order
tried_order m t = record { number = m.next; id = 0; side = t.side; kind = Limit t.price; lots = t.lots; lifetime = life.Plain }

abbrev pub try_order : Machine → Trial → Outcome
try_order m t =
    let os = m.orders ++ tried_order m t ∷ [] in
    checked (trial_checks m t) m (outcome (Tried (record { price = price os; volume = volume os })) m)

abbrev pub open_book : Rules → Machine → Outcome
open_book R m =
    let o = opened R.opening m.orders in
    outcome
    (Opened (record { volume = o.volume; total = o.total; withdrawn = o.withdrawn; price = o.price }))
    (with_phase m Open o.tape o.orders)

-- A day close withdraws GIS orders; an evening close plain ones too, and GTC orders of today.
abbrev pub lapses : Hours → ℕ → Lifetime → Bool
lapses hours today life.Gis = true
lapses Day today life.Plain = false
lapses Evening today life.Plain = true
lapses Day today (life.Gtc day) = false
lapses Evening today (life.Gtc day) = day == today

-- Day and evening alternate; after an evening the day rises by one, but not past the last trading day.
abbrev pub next_hours : Hours → Hours
next_hours Day = Evening
next_hours Evening = Day

abbrev pub next_day : Hours → ℕ → ℕ → ℕ
next_day Day today last = today
next_day Evening today last = min (today + 1) last

abbrev pub close_book : Machine → Outcome
close_book m =
    outcome
    (Closed (pair_of (λ o. lapses m.hours m.today o.lifetime) m.orders))
    (record {
      ladder = m.ladder;
      today = next_day m.hours m.today m.last_trading_day;
      last_trading_day = m.last_trading_day;
      next = m.next;
      tape = m.tape;
      phase = PreOpen;
      hours = next_hours m.hours;
      lines = m.lines;
      orders = filter (λ o. not (lapses m.hours m.today o.lifetime)) m.orders;
    })

-- ---- every call

-- A call that the phase does not offer changes nothing.
abbrev pub only_in : Phase → Machine → Outcome → Phase → Outcome
only_in PreOpen m taken PreOpen = taken
only_in PreOpen m taken Open = outcome WrongPhase m
only_in Open m taken PreOpen = outcome WrongPhase m
only_in Open m taken Open = taken

abbrev pub step : Rules → Machine → Call → Outcome
step R m (EnterLimit e) = enter_limit R m e
step R m (EnterOnOpen e) = only_in PreOpen m (enter_on_open m e) m.phase
step R m (EnterMarket e) = only_in Open m (enter_market R m e) m.phase
step R m (Cancel id number) = cancel m id number
step R m (Reduce id number lots) = reduce m id number lots
step R m (TakeLineDown id) = take_line_down m id
step R m (BringLineUp id) = bring_line_up m id
step R m (NameSuccessor id successor) = name_successor m id successor
step R m (Try t) = only_in PreOpen m (try_order m t) m.phase
step R m OpenBook = only_in PreOpen m (open_book R m) m.phase
step R m CloseBook = only_in Open m (close_book m) m.phase
