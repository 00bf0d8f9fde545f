-- The laws of every run, for every two policies that keep a policy's meaning. Each is a law of one call more after any
-- others: of the events es before it, and of its own event e.
use Rattle.std.specs.Prelude.{◌≡◌, ℕ, ◌+◌, ◌<◌, ◌≤◌, min, Bool, true, false, ◌&&◌, ◌||◌, ◌⊎◌, List, [], ◌∷◌, ◌++◌, Some, None, Option, ◌==◌}
use Rattle.std.specs.List.{AllByRecursion}
use Rattle.policy.specs.Fair.{Fairly}
use Rattle.rules.specs.declared.order.Side.{Side}
use Rattle.rules.specs.declared.order.Side.TheVariants.{Bid, Offer}
use Rattle.rules.specs.declared.order.Kind.TheVariants.{OnOpen}
use Rattle.rules.specs.declared.order.Order.{Order}
use Rattle.rules.specs.declared.tape.TapeLine.{TapeLine}
use Rattle.rules.specs.declared.ladder.Ladder.{Ladder}
use Rattle.rules.specs.declared.calls.Phase.TheVariants.{PreOpen, Open}
use Rattle.rules.specs.declared.calls.Condition.{Condition}
use Rattle.rules.specs.declared.calls.Condition.TheVariants.{Unconditional, Ic, Cv, Mv}
use Rattle.rules.specs.declared.calls.LimitEntry.{LimitEntry}
use Rattle.rules.specs.declared.calls.MarketEntry.{MarketEntry}
use Rattle.rules.specs.declared.calls.Call.{Call}
use Rattle.rules.specs.declared.calls.Call.TheVariants.{EnterLimit, EnterMarket, OpenBook, CloseBook}
use Rattle.rules.specs.declared.calls.EntryAnswer.{EntryAnswer}
use Rattle.rules.specs.declared.calls.OpeningAnswer.{OpeningAnswer}
use Rattle.rules.specs.declared.calls.Answer.TheVariants.{Entered, Opened}
use Rattle.rules.specs.Sides.{is, other}
use Rattle.rules.specs.Orders.{held, at, on_open, priced, limits, all_of, demand, supply, prices}
use Rattle.rules.specs.Price.{price}
use Rattle.rules.specs.Session.{accepts, rests}
use Rattle.rules.specs.Laws.{In}
use Rattle.rules.specs.Machine.{Rules, Machine, made}
use Rattle.laws.specs.Runs.{Event, event, run, after, sum}
use Rattle.laws.specs.Lots.{was_taken, offers, next_phase, volume_asked, tape_of, side_lots, lots_at_price, given, given_on, lots_accepted, lots_traded, lots_withdrawn, lots_open}
use Rattle.laws.specs.Limits.{limit_after, limit_said, beyond, beats}

-- ---- an opening

-- The lots of a side that would trade at q: those of its limit orders, and those with its On-Open orders.
abbrev pub willing : Side → List Order → ℕ → ℕ
willing Bid os q = demand os q
willing Offer os q = supply os q

abbrev pub willing_in_all : Side → List Order → ℕ → ℕ
willing_in_all s os q = willing s os q + held (at s OnOpen) os

-- Whether a line is that of a limit order among os.
abbrev pub line_of_limit : List Order → TapeLine → Bool
line_of_limit [] l = false
line_of_limit (o ∷ os) l = (o.number == l.number && (is o.side l.side && priced (λ x. true) o.kind)) || line_of_limit os l

-- The first lines of the tape are those of limit orders, and in them v lots are bought and v lots sold.
pub record LimitOrdersFirst (os : List Order) (tape : List TapeLine) (v : ℕ) : Type 0 where
  pub first : List TapeLine
  pub rest : List TapeLine
  pub splits : tape ≡ first ++ rest
  pub of_limits : AllByRecursion (λ l. line_of_limit os l ≡ true) first
  pub lots : (s : Side) → side_lots s first ≡ v

-- The opening of the orders os, with its tape and its answer. Limit orders trade with each other as much as any price
-- would allow: at no price could they trade more than V, and at some price they could trade V. With the On-Open orders
-- as much trades as the opening price allows: the lesser of what is bid and what is offered there. All of it trades at
-- that price, which is the rule book's. There is none only where a side has no limit order; then nothing trades.
pub record OpeningLaws (os : List Order) (tape : List TapeLine) (a : OpeningAnswer) : Type 0 where
  pub never_more : (q : ℕ) → min (willing Bid os q) (willing Offer os q) ≤ a.volume
  pub attained : (q : ℕ) × (min (willing Bid os q) (willing Offer os q) ≡ a.volume)
  pub limit_orders_first : LimitOrdersFirst os tape a.volume
  pub the_price : a.price ≡ price os
  pub at_the_price : AllByRecursion (λ l. a.price ≡ Some l.price) tape
  pub total : (s : Side) → side_lots s tape ≡ a.total
  pub in_all : (p : ℕ) → a.price ≡ Some p → a.total ≡ min (willing_in_all Bid os p) (willing_in_all Offer os p)
  pub without_price : a.price ≡ None → ((all_of Bid os ≡ 0) ⊎ (all_of Offer os ≡ 0)) × (a.total ≡ 0)

-- A book before its opening does open.
pub record Opens (e : Event) : Type 0 where
  pub answer : OpeningAnswer
  pub answered : e.answer ≡ Opened answer
  pub now_open : e.after.phase ≡ Open
  pub laws : OpeningLaws e.before.orders (tape_of e) answer

-- ---- an entry in session

-- Whether a condition let the entry trade: one with CV or MV either trades or is withdrawn whole.
abbrev pub MayTrade : Condition → EntryAnswer → Type 0
MayTrade Unconditional a = Unit {0}
MayTrade Ic a = Unit {0}
MayTrade Cv a = 0 < a.traded
MayTrade (Mv minimum) a = 0 < a.traded

-- Where n lots were within reach: under IC nothing stays open; under CV all lots trade, and under MV at least the minimum,
-- or the entry is withdrawn whole, as there were too few.
abbrev pub ConditionKept : Condition → ℕ → ℕ → EntryAnswer → Type 0
ConditionKept Unconditional n lots a = Unit {0}
ConditionKept Ic n lots a = a.«open» ≡ 0
ConditionKept Cv n lots a = (a.traded ≡ lots) ⊎ ((a.withdrawn ≡ lots) × (n < lots))
ConditionKept (Mv minimum) n lots a = (minimum ≤ a.traded) ⊎ ((a.withdrawn ≡ lots) × (n < minimum))

-- An entry of a side with a limit or none: its answer is what the tape and the book say, and all its lots. If its condition
-- lets it trade, it trades until its lots, or the orders that it accepts, are used up, and its rest stays open; but that of
-- a market order or under IC is withdrawn.
pub record EntryLaws (e : Event) (a : EntryAnswer) (s : Side) (limit : Option ℕ) (lots : ℕ) (condition : Condition) : Type 0 where
  pub all_lots : a.traded + a.withdrawn + a.«open» ≡ lots
  pub traded : lots_traded a.number e ≡ a.traded
  pub open_left : lots_open a.number e.after.orders ≡ a.«open»
  pub trades_on : MayTrade condition a → a.traded < lots → (x : ℕ) → In x (prices (other s) e.after.orders) → accepts s limit x ≡ false
  pub condition_kept : ConditionKept condition (limits (other s) (accepts s limit) e.before.orders) lots a
  pub stays : MayTrade condition a → rests limit condition ≡ true → a.withdrawn ≡ 0
  pub goes : rests limit condition ≡ false → a.«open» ≡ 0

-- ---- an entry before the opening

-- It waits whole.
pub record Waits (e : Event) (a : EntryAnswer) : Type 0 where
  pub none_traded : a.traded ≡ 0
  pub none_withdrawn : a.withdrawn ≡ 0
  pub all_open : a.«open» ≡ volume_asked e.call
  pub on_book : lots_open a.number e.after.orders ≡ volume_asked e.call

-- ---- open orders

-- One entry of an open order's side has its number, and its price is its limit. Of its ID and lifetime nothing is said here.
pub record AsEntered (es : List Event) (o : Order) : Type 0 where
  pub entered : sum (given_on o.side o.number) es ≡ 1
  pub limit : limit_after o.number es ≡ limit_said o.kind

-- Every bid is below every offer, and no On-Open order waits.
pub record Uncrossed (os : List Order) : Type 0 where
  pub apart : (x y : ℕ) → In x (prices Bid os) → In y (prices Offer os) → x < y
  pub none_waits : held on_open os ≡ 0

-- None of os that are of the side has a better price than q.
abbrev pub NoneBetter : Side → ℕ → List Order → Type 0
NoneBetter s q os = (x : ℕ) → In x (prices s os) → beats s x q ≡ false

-- ---- one call more

pub record Lawful (es : List Event) (e : Event) : Type 0 where
  -- a book before its opening that is sent an opening opens, and trades as it should
  pub opening : e.call ≡ OpenBook → e.before.phase ≡ PreOpen → Opens e
  -- no book in session is crossed
  pub uncrossed : e.after.phase ≡ Open → Uncrossed e.after.orders
  -- no line is beyond its order's limit
  pub limits : AllByRecursion (λ l. (q : ℕ) → limit_after l.number (es ++ e ∷ []) ≡ Some q → beyond l.side q l.price ≡ false) (tape_of e)
  -- no order with a price trades in a call that leaves one of its side with a better price open
  pub precedence : AllByRecursion (λ l. (q : ℕ) → limit_after l.number (es ++ e ∷ []) ≡ Some q → NoneBetter l.side q e.after.orders) (tape_of e)
  -- of each order the accepted lots are those traded, withdrawn and open
  pub ledger : (n : ℕ) → sum (lots_accepted n) (es ++ e ∷ []) ≡ sum (lots_traded n) (es ++ e ∷ []) + sum (lots_withdrawn n) (es ++ e ∷ []) + lots_open n e.after.orders
  -- on each tape as many lots are bought as sold: in all, and at each price
  pub tapes : side_lots Bid (tape_of e) ≡ side_lots Offer (tape_of e)
  pub at_each_price : (x : ℕ) → lots_at_price Bid x (tape_of e) ≡ lots_at_price Offer x (tape_of e)
  -- in session a line is the entry's own, or at the limit of its own order
  pub resting_price : e.before.phase ≡ Open → AllByRecursion (λ l. (given l.number e ≡ 1) ⊎ (limit_after l.number (es ++ e ∷ []) ≡ Some l.price)) (tape_of e)
  -- an entry taken before the opening waits, and one taken in session trades as it should
  pub waiting_entry : (a : EntryAnswer) → e.before.phase ≡ PreOpen → e.answer ≡ Entered a → Waits e a
  pub limit_entry : (x : LimitEntry) (a : EntryAnswer) → e.call ≡ EnterLimit x → e.before.phase ≡ Open → e.answer ≡ Entered a → EntryLaws e a x.side (Some x.price) x.lots x.condition
  pub market_entry : (x : MarketEntry) (a : EntryAnswer) → e.call ≡ EnterMarket x → e.answer ≡ Entered a → EntryLaws e a x.side None x.lots x.condition
  -- no number is given to two entries; each line is that of an entry of its side, and each open order has its entry's side
  -- and its limit as price
  pub given_once : (n : ℕ) → sum (given n) (es ++ e ∷ []) ≤ 1
  pub sides : AllByRecursion (λ l. sum (given_on l.side l.number) (es ++ e ∷ []) ≡ 1) (tape_of e)
  pub as_entered : AllByRecursion (AsEntered (es ++ e ∷ [])) e.after.orders
  -- a phase takes only the calls that it offers; an opening and a close move the book on, and no close is refused
  pub offered : was_taken e.answer ≡ true → offers e.before.phase e.call ≡ true
  pub moves : was_taken e.answer ≡ true → e.after.phase ≡ next_phase e.before.phase e.call
  pub closes : e.call ≡ CloseBook → e.before.phase ≡ Open → was_taken e.answer ≡ true
  -- a call that is not taken changes nothing
  pub unchanged : was_taken e.answer ≡ false → e.after ≡ e.before

-- ---- every run

-- After any calls from a book on, any one call more is lawful.
abbrev pub LawfulFrom : Rules → Machine → Type 0
LawfulFrom R start = (cs : List Call) (c : Call) → Lawful (run R start cs) (event R (after R start cs) c)

-- So it is from every book as made, for any two rules that keep a policy's meaning.
abbrev pub LawsOfEveryRun : Type 0
LawsOfEveryRun = (R : Rules) → Fairly R.opening → Fairly R.session → (ladder : Ladder) (today last first : ℕ) → LawfulFrom R (made ladder today last first)
