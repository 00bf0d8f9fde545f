-- What a call may come to: each way once, with what the checks that it passed say.
use Rattle.std.proofs.Common.{◌≡◌, ℕ, ◌-◌, ◌<◌, ◌≤◌, Bool, true, false, not, ◌&&◌, leb, List, [], ◌∷◌, ◌++◌, length, Some, None, Option, refl, ap, arith}
use Rattle.std.proofs.lemmas.Bool.{cond_both, leb-false}
use Rattle.std.proofs.lemmas.Bool.Decides.{nat_tests}
use Rattle.rules.specs.declared.order.Kind.TheVariants.{Limit, OnOpen}
use Rattle.rules.specs.declared.order.Order.{Order}
use Rattle.rules.specs.declared.line.LineEvent.TheVariants.{GoesDown, ComesUp, Names}
use Rattle.rules.specs.declared.calls.Phase.{Phase}
use Rattle.rules.specs.declared.calls.Phase.TheVariants.{PreOpen, Open}
use Rattle.rules.specs.declared.calls.LimitEntry.{LimitEntry}
use Rattle.rules.specs.declared.calls.OnOpenEntry.{OnOpenEntry}
use Rattle.rules.specs.declared.calls.MarketEntry.{MarketEntry}
use Rattle.rules.specs.declared.calls.Trial.{Trial}
use Rattle.rules.specs.declared.calls.Call.{Call}
use Rattle.rules.specs.declared.calls.Call.TheVariants.{EnterLimit, EnterOnOpen, EnterMarket, Cancel, Reduce, TakeLineDown, BringLineUp, NameSuccessor, Try, OpenBook, CloseBook}
use Rattle.rules.specs.declared.calls.Answer.TheVariants.{Cancelled, Reduced, Dropped, Done, Tried, Refused, WrongPhase}
use Rattle.rules.specs.declared.refusal.Refusal.{Refusal}
use Rattle.rules.specs.Limits.{most_lots, most_orders, lowest_price, highest_price}
use Rattle.rules.specs.Orders.{InRange}
use Rattle.rules.specs.Price.{volume, price}
use Rattle.rules.specs.Lines.{moved, heir}
use Rattle.rules.specs.Refusals.{Check, first}
use Rattle.rules.specs.Machine.{Rules, Machine, with_orders, with_lines}
use Rattle.rules.specs.Checks.{outside, minimum_outside, full, order_of, missing, open_lots, limit_checks, on_open_checks, market_checks, cancel_checks, reduce_checks, line_down_checks, line_up_checks, successor_checks, trial_checks}
use Rattle.rules.specs.Steps.{Outcome, outcome, refused, checked, wait, meet, limit_incoming, market_incoming, limit_in, without, reduced, handed, dropped_lots, tried_order, open_book, close_book, only_in, step}
use Rattle.laws.specs.Runs.{Event}

-- A call with what it came to, as an event.
abbrev pub seen : Machine → Call → Outcome → Event
seen m c o = record { call = c; answer = o.answer; before = m; after = o.after }

-- ---- the ways

-- The volume of an entry that is taken.
abbrev pub TakenLots : ℕ → Type 0
TakenLots lots = (1 ≤ lots) × (lots ≤ most_lots)

-- There is room for one order more.
abbrev pub HasRoom : Machine → Type 0
HasRoom m = length m.orders < most_orders

-- P holds of whatever a call may come to.
pub record Ways (R : Rules) (m : Machine) (P : Call → Outcome → Type 0) : Type 0 where
  pub refused : (c : Call) (r : Refusal) → P c (outcome (Refused r) m)
  pub wrong_phase : (c : Call) → P c (outcome WrongPhase m)
  pub limit_waits : (e : LimitEntry) → m.phase ≡ PreOpen → TakenLots e.lots → InRange (Limit e.price) → HasRoom m → P (EnterLimit e) (wait m e.id e.side (Limit e.price) e.lots e.lifetime)
  pub on_open_waits : (e : OnOpenEntry) → m.phase ≡ PreOpen → TakenLots e.lots → HasRoom m → P (EnterOnOpen e) (wait m e.id e.side OnOpen e.lots e.lifetime)
  pub limit_meets : (e : LimitEntry) → m.phase ≡ Open → TakenLots e.lots → InRange (Limit e.price) → HasRoom m → minimum_outside e.condition e.lots ≡ false → P (EnterLimit e) (meet R m (limit_incoming m e))
  pub market_meets : (e : MarketEntry) → m.phase ≡ Open → TakenLots e.lots → minimum_outside e.condition e.lots ≡ false → P (EnterMarket e) (meet R m (market_incoming m e))
  pub cancels : (id number : ℕ) (o : Order) → order_of number m.orders ≡ Some o → P (Cancel id number) (outcome (Cancelled (open_lots (order_of number m.orders))) (with_orders m (without number m.orders)))
  pub reduces : (id number lots : ℕ) (o : Order) → order_of number m.orders ≡ Some o → 1 ≤ lots → lots < o.lots → P (Reduce id number lots) (outcome (Reduced (open_lots (order_of number m.orders) - lots)) (with_orders m (reduced number lots m.orders)))
  pub goes_down : (id : ℕ) → P (TakeLineDown id) (outcome (Dropped (dropped_lots id (heir id m.lines) m.orders)) (with_lines m (moved id GoesDown m.lines) (handed id (heir id m.lines) m.orders)))
  pub comes_up : (id : ℕ) → P (BringLineUp id) (outcome Done (with_lines m (moved id ComesUp m.lines) m.orders))
  pub names : (id successor : ℕ) → P (NameSuccessor id successor) (outcome Done (with_lines m (moved id (Names successor) m.lines) m.orders))
  pub tries : (t : Trial) → m.phase ≡ PreOpen → let os = m.orders ++ tried_order m t ∷ [] in P (Try t) (outcome (Tried (record { price = price os; volume = volume os })) m)
  pub opens : m.phase ≡ PreOpen → P OpenBook (open_book R m)
  pub closes : m.phase ≡ Open → P CloseBook (close_book m)

-- ---- checks

abbrev AllPass : List Check → Type 0
AllPass [] = Unit {0}
AllPass (c ∷ cs) = (c.0 ≡ false) × AllPass cs

-- A call is refused, or passes every check.
checked_both : (P : Outcome → Type 0) (cs : List Check) (m : Machine) (t : Outcome) → ((r : Refusal) → P (outcome (Refused r) m)) → (AllPass cs → P t) → P (checked cs m t)
checked_both P [] m t not_taken goes = goes tt
checked_both P (c ∷ cs) m t not_taken goes =
    cond_both c.0 (Some c.1) (first cs) (λ (f : Option Refusal). P (refused f m t))
    (λ _. not_taken c.1)
    (λ passed. checked_both P cs m t not_taken (λ rest. goes (passed, rest)))

-- A call is sent in the wrong phase, or in its own.
pub phased : (P : Outcome → Type 0) (want phase : Phase) (m : Machine) (t : Outcome) → P (outcome WrongPhase m) → (phase ≡ want → P t) → P (only_in want m t phase)
phased P PreOpen PreOpen m t not_taken goes = goes refl
phased P PreOpen Open m t not_taken goes = not_taken
phased P Open PreOpen m t not_taken goes = not_taken
phased P Open Open m t not_taken goes = goes refl

-- What passed checks say of numbers.
pub inside : (low high n : ℕ) → outside low high n ≡ false → (low ≤ n) × (n ≤ high)
inside low high n e = (grind (arith, nat_tests), grind (arith, nat_tests))

taken_price : (b : Bool) (x : ℕ) → not (leb lowest_price x && (leb x highest_price && b)) ≡ false → (lowest_price ≤ x) × (x ≤ highest_price)
taken_price true x e = (grind (arith, nat_tests), grind (arith, nat_tests))
taken_price false x e = (grind (arith, nat_tests), grind (arith, nat_tests))

has_room : (m : Machine) → full m ≡ false → HasRoom m
has_room m e = leb-false most_orders (length m.orders) e

-- There is an order of the number.
found : (x : Option Order) → missing x ≡ false → (o : Order) × (x ≡ Some o)
found None e = let z : ◌≡◌ {A = ℕ} 0 1 = cc in absurd (omega arith)
found (Some o) e = (o, refl)

-- ---- every step goes one of the ways

module _ (R : Rules) (m : Machine) (P : Call → Outcome → Type 0) (w : Ways R m P) where
  limit_step : (e : LimitEntry) (phase : Phase) → m.phase ≡ phase → TakenLots e.lots → InRange (Limit e.price) → HasRoom m → minimum_outside e.condition e.lots ≡ false → P (EnterLimit e) (limit_in R m e phase)
  limit_step e PreOpen is lots range room minimum = w.limit_waits e is lots range room
  limit_step e Open is lots range room minimum = w.limit_meets e is lots range room minimum

  pub every_way : (c : Call) → P c (step R m c)
  every_way (EnterLimit e) = checked_both (P (EnterLimit e)) (limit_checks m e) m (limit_in R m e m.phase) (w.refused (EnterLimit e))
      (λ a. limit_step e m.phase refl (inside 1 most_lots e.lots a.1.1.1.0) (taken_price _ e.price a.1.1.0) (has_room m a.1.1.1.1.1.1.1.0) a.1.1.1.1.0)
  every_way (EnterOnOpen e) = phased (P (EnterOnOpen e)) PreOpen m.phase m _ (w.wrong_phase (EnterOnOpen e))
      (λ is. checked_both (P (EnterOnOpen e)) (on_open_checks m e) m _ (w.refused (EnterOnOpen e))
      (λ a. w.on_open_waits e is (inside 1 most_lots e.lots a.1.1.0) (has_room m a.1.1.1.1.1.0)))
  every_way (EnterMarket e) = phased (P (EnterMarket e)) Open m.phase m _ (w.wrong_phase (EnterMarket e))
      (λ is. checked_both (P (EnterMarket e)) (market_checks m e) m _ (w.refused (EnterMarket e))
      (λ a. w.market_meets e is (inside 1 most_lots e.lots a.1.1.0) a.1.1.1.0))
  every_way (Cancel id number) = checked_both (P (Cancel id number)) (cancel_checks m id number) m _ (w.refused (Cancel id number))
      (λ a. let f = found (order_of number m.orders) a.1.1.0 in w.cancels id number f.0 f.1)
  every_way (Reduce id number lots) = checked_both (P (Reduce id number lots)) (reduce_checks m id number lots) m _ (w.refused (Reduce id number lots))
      (λ a.
      let f = found (order_of number m.orders) a.1.1.0 in
      let i = inside 1 (open_lots (order_of number m.orders) - 1) lots a.1.1.1.1.0 in
      let is : open_lots (order_of number m.orders) ≡ f.0.lots = ap open_lots f.1 in
      w.reduces id number lots f.0 f.1 i.0 (omega arith))
  every_way (TakeLineDown id) = checked_both (P (TakeLineDown id)) (line_down_checks m id) m _ (w.refused (TakeLineDown id)) (λ _. w.goes_down id)
  every_way (BringLineUp id) = checked_both (P (BringLineUp id)) (line_up_checks m id) m _ (w.refused (BringLineUp id)) (λ _. w.comes_up id)
  every_way (NameSuccessor id successor) = checked_both (P (NameSuccessor id successor)) (successor_checks m id successor) m _ (w.refused (NameSuccessor id successor)) (λ _. w.names id successor)
  every_way (Try t) = phased (P (Try t)) PreOpen m.phase m _ (w.wrong_phase (Try t))
      (λ is. checked_both (P (Try t)) (trial_checks m t) m _ (w.refused (Try t)) (λ _. w.tries t is))
  every_way OpenBook = phased (P OpenBook) PreOpen m.phase m _ (w.wrong_phase OpenBook) (λ is. w.opens is)
  every_way CloseBook = phased (P CloseBook) Open m.phase m _ (w.wrong_phase CloseBook) (λ is. w.closes is)
