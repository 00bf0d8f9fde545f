-- Trading with a level, and with level after level, the better price first.
use Rattle.std.specs.Prelude.{ℕ, ◌+◌, ◌-◌, min, Bool, cond, List, [], ◌∷◌, ◌++◌, map, filter, ◌==◌, nat_lt}
use Rattle.policy.specs.Fair.{Rule, total}
use Rattle.rules.specs.declared.order.Side.{Side}
use Rattle.rules.specs.declared.order.Kind.{Kind}
use Rattle.rules.specs.declared.order.Kind.TheVariants.{Limit, OnOpen}
use Rattle.rules.specs.declared.order.Order.{Order}
use Rattle.rules.specs.declared.tape.TapeLine.{TapeLine}
use Rattle.rules.specs.declared.tape.Terms.{Terms}
use Rattle.rules.specs.declared.tape.Terms.TheVariants.{Opening, Entry}
use Rattle.rules.specs.Sides.{other, better_than}
use Rattle.rules.specs.Orders.{held, at, level, queue, prices}

-- ---- one level

-- What the places of a queue give where v lots trade with them: all they hold; where they hold more, the rule shares.
abbrev pub shares : Rule → List ℕ → ℕ → List ℕ
shares rule q v = cond (nat_lt v (total q)) (rule q v) q

abbrev pub less : Order → ℕ → Order
less o n = record { number = o.number; id = o.id; side = o.side; kind = o.kind; lots = o.lots - n; lifetime = o.lifetime }

-- The shares taken off the level's orders, in their order.
abbrev pub taken : Side → Kind → List ℕ → List Order → List Order
taken s k gs [] = []
taken s k [] (o ∷ os) = o ∷ os
taken s k (g ∷ gs) (o ∷ os) = cond (at s k o) (less o g ∷ taken s k gs os) (o ∷ taken s k (g ∷ gs) os)

-- An order without lots is gone.
abbrev pub standing : List Order → List Order
standing os = filter (λ o. nat_lt 0 o.lots) os

-- A line; none without lots.
abbrev pub line : ℕ → Side → ℕ → ℕ → List TapeLine
line number s price lots = cond (nat_lt 0 lots) (record { number = number; side = s; price = price; lots = lots } ∷ []) []

-- The lines of a level's orders with their shares, at one price.
abbrev pub lines : ℕ → List Order → List ℕ → List TapeLine
lines p [] gs = []
lines p (o ∷ os) [] = []
lines p (o ∷ os) (g ∷ gs) = line o.number o.side p g ++ lines p os gs

-- What a trade of v lots with a level writes: at an opening the level's lines at the opening price; for a session entry
-- those lines at the level's price, and behind them the entry's own, of the lots it trades there.
abbrev pub written : Terms → Side → ℕ → Kind → List Order → List ℕ → List TapeLine
written (Opening p) s v k os gs = lines p (level s k os) gs
written (Entry number) s v (Limit x) os gs = lines x (level s (Limit x) os) gs ++ line number (other s) x (min v (held (at s (Limit x)) os))
written (Entry number) s v OnOpen os gs = []

-- ---- level after level

pub record Step : Type 0 where
  pub orders : List Order
  pub tape : List TapeLine

-- v lots trade with one level of the side.
abbrev pub fill : Rule → Terms → Side → ℕ → Kind → Step → Step
fill rule terms s v k m = record {
  orders = standing (taken s k (shares rule (queue s k m.orders) v) m.orders);
  tape = m.tape ++ written terms s v k m.orders (shares rule (queue s k m.orders) v);
}

-- v lots trade with the levels in turn.
abbrev pub serve : Rule → Terms → Side → ℕ → List Kind → Step → Step
serve rule terms s v [] m = m
serve rule terms s v (k ∷ ks) m = serve rule terms s (v - held (at s k) m.orders) ks (fill rule terms s v k m)

-- Prices in order, the better first, each once: x goes in front of y where it is better than y.
abbrev pub into : Side → ℕ → List ℕ → List ℕ
into s x [] = x ∷ []
into s x (y ∷ ys) = cond (better_than s y x) (x ∷ y ∷ ys) (cond (x == y) (y ∷ ys) (y ∷ into s x ys))

abbrev pub best_first : Side → List ℕ → List ℕ
best_first s [] = []
best_first s (x ∷ xs) = into s x (best_first s xs)

-- The prices of a side's limit orders, best first, and the levels at them.
abbrev pub ranked : Side → List Order → List ℕ
ranked s os = best_first s (prices s os)

abbrev pub levels : Side → List Order → List Kind
levels s os = map Limit (ranked s os)

-- The lots of a tape's lines whose number and side pass.
abbrev pub lined : (ℕ → Side → Bool) → List TapeLine → ℕ
lined t [] = 0
lined t (l ∷ ls) = cond (t l.number l.side) l.lots 0 + lined t ls
