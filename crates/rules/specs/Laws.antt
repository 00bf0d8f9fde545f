-- Laws above the definitions that walk, in the words of the market.
use Rattle.std.specs.Prelude.{◌≡◌, ℕ, ◌+◌, ◌-◌, ◌≤◌, min, Bool, cond, ◌⊎◌, List, [], ◌∷◌, Some, nat_le, nat_lt}
use Rattle.policy.specs.Fair.{Rule, Fairly}
use Rattle.rules.specs.declared.order.Side.{Side}
use Rattle.rules.specs.declared.order.Side.TheVariants.{Bid, Offer}
use Rattle.rules.specs.declared.order.Kind.{Kind}
use Rattle.rules.specs.declared.order.Kind.TheVariants.{Limit, OnOpen}
use Rattle.rules.specs.declared.order.Order.{Order}
use Rattle.rules.specs.declared.ladder.Ladder.TheVariants.{Securities, Index, Bond}
use Rattle.rules.specs.declared.tape.Terms.{Terms}
use Rattle.rules.specs.declared.tape.Terms.TheVariants.{Opening}
use Rattle.rules.specs.Limits.{lowest_price, highest_price}
use Rattle.rules.specs.Sides.{is}
use Rattle.rules.specs.Orders.{held, at, ahead, prices, Book}
use Rattle.rules.specs.Price.{tradable, volume, price}
use Rattle.rules.specs.Trades.{Step, fill, serve, levels, lined}
use Rattle.rules.specs.Opening.{stage_one, lesser, cross}
use Rattle.rules.specs.Ladders.{step_at}

-- x is one of them.
abbrev pub In : ℕ → List ℕ → Type 0
In x [] = ⊥
In x (y ∷ ys) = (x ≡ y) ⊎ In x ys

-- The volume is attained at some price and exceeded at none.
pub record Largest (os : List Order) : Type 0 where
  pub attained : (q : ℕ) × (lowest_price ≤ q) × (q ≤ highest_price) × (tradable os q ≡ volume os)
  pub never_exceeded : (q : ℕ) → lowest_price ≤ q → q ≤ highest_price → tradable os q ≤ volume os

abbrev pub VolumeIsLargest : Type 0
VolumeIsLargest = (os : List Order) → Largest os

-- Filling a level loses no lot, whichever orders are looked at by number and side: what they held is what they hold and
-- what their new lines say. The level as a whole gives the lesser of what it holds and what is asked.
pub record KeepsLots (rule : Rule) (p : ℕ) (s : Side) (v : ℕ) (k : Kind) (m : Step) : Type 0 where
  pub none_lost : (t : ℕ → Side → Bool) → held (λ o. t o.number o.side) m.orders + lined t m.tape ≡ held (λ o. t o.number o.side) (fill rule (Opening p) s v k m).orders + lined t (fill rule (Opening p) s v k m).tape
  pub traded : lined (λ i side. is s side) (fill rule (Opening p) s v k m).tape ≡ lined (λ i side. is s side) m.tape + min v (held (at s k) m.orders)
  pub left : held (at s k) (fill rule (Opening p) s v k m).orders + min v (held (at s k) m.orders) ≡ held (at s k) m.orders

abbrev pub FillKeepsLots : Type 0
FillKeepsLots = (rule : Rule) → Fairly rule → (p : ℕ) (s : Side) (v : ℕ) (k : Kind) (m : Step) → Book m.orders → KeepsLots rule p s v k m

-- A level trades the lesser of what it holds and what is left after all better levels, whatever the lines are written at.
abbrev pub BetterLevelsFirst : Type 0
BetterLevelsFirst =
    (rule : Rule) → Fairly rule → (terms : Terms) (s : Side) (v : ℕ) (m : Step) → Book m.orders → (x : ℕ) →
    held (at s (Limit x)) (serve rule terms s v (levels s m.orders) m).orders + min (held (at s (Limit x)) m.orders) (v - ahead s m.orders x) ≡ held (at s (Limit x)) m.orders

-- The opening price lies at or above every bid that stage one leaves over, and at or below every such offer. After stage
-- two no limit bid at the price is left beside a limit offer at it, and no On-Open bid beside an On-Open offer, so all
-- that trades in stage three trades with an order that was turned.
pub record BetweenLeftOvers (rule : Rule) (os : List Order) (p : ℕ) : Type 0 where
  pub bids : (x : ℕ) → In x (prices Bid (stage_one rule p (volume os) (record { orders = os; tape = [] })).orders) → x ≤ p
  pub offers : (x : ℕ) → In x (prices Offer (stage_one rule p (volume os) (record { orders = os; tape = [] })).orders) → p ≤ x
  pub one_sided : (lesser (Limit p) (cross rule p OnOpen (stage_one rule p (volume os) (record { orders = os; tape = [] }))).orders ≡ 0) × (lesser OnOpen (cross rule p OnOpen (stage_one rule p (volume os) (record { orders = os; tape = [] }))).orders ≡ 0)

abbrev pub PriceLiesBetween : Type 0
PriceLiesBetween = (rule : Rule) → Fairly rule → (os : List Order) → Book os → (p : ℕ) → price os ≡ Some p → BetweenLeftOvers rule os p

-- The step at each price: in full for securities; 1 up to 200 and 5 above for an index; 1 for a bond.
pub record StepsAsListed : Type 0 where
  pub securities : (x : ℕ) → step_at Securities x ≡ cond (nat_lt x 2_000) 1 (cond (nat_lt x 6_000) 2 (cond (nat_lt x 60_000) 10 (cond (nat_lt x 100_000) 50 (cond (nat_lt x 200_000) 100 (cond (nat_lt x 2_000_000) 1_000 10_000)))))
  pub index : (x : ℕ) → step_at Index x ≡ cond (nat_le x 200) 1 5
  pub bond : (x : ℕ) → step_at Bond x ≡ 1
