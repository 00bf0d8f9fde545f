-- Lots held, and prices.
use Rattle.std.proofs.Common.{◌≡◌, ℕ, suc, ◌+◌, ◌*◌, ◌<◌, ◌≤◌, Bool, true, cond, ◌&&◌, eqb, ltb, leb, ◌⊎◌, List, [], ◌∷◌, length, refl, inl, inr, arith}
use Rattle.std.proofs.lemmas.Bool.{cases_eq, cond_both, eq-eqb, ne_eqb}
use Rattle.std.proofs.lemmas.Bool.Decides.{nat_tests}
use Rattle.rules.specs.declared.order.Side.{Side}
use Rattle.rules.specs.declared.order.Side.TheVariants.{Bid, Offer}
use Rattle.rules.specs.declared.order.Kind.{Kind}
use Rattle.rules.specs.declared.order.Kind.TheVariants.{Limit, OnOpen}
use Rattle.rules.specs.declared.order.Order.{Order}
use Rattle.rules.specs.Limits.{lowest_price, highest_price, most_lots, most_orders}
use Rattle.rules.specs.Sides.{is, as_good_as}
use Rattle.rules.specs.Orders.{held, priced, limits, ahead, within, all_of, demand, supply, price_of, prices, InRange, Sound, Book}
use Rattle.rules.specs.Laws.{In}

-- what passes t passes either t₁ or t₂
pub held_split : (t t₁ t₂ : Order → Bool) → ((o : Order) → cond (t o) o.lots 0 ≡ cond (t₁ o) o.lots 0 + cond (t₂ o) o.lots 0) → (os : List Order) → held t os ≡ held t₁ os + held t₂ os
held_split t t₁ t₂ each [] = refl
held_split t t₁ t₂ each (o ∷ os) = omega (arith, each o, held_split t t₁ t₂ each os)

pub held_le : (t u : Order → Bool) → ((o : Order) → cond (t o) o.lots 0 ≤ cond (u o) o.lots 0) → (os : List Order) → held t os ≤ held u os
held_le t u each [] = omega arith
held_le t u each (o ∷ os) = omega (arith, each o, held_le t u each os)

-- the same of limit orders, by their prices
limits_part : (s : Side) (t t₁ t₂ : ℕ → Bool) → ((x n : ℕ) → cond (t x) n 0 ≡ cond (t₁ x) n 0 + cond (t₂ x) n 0) → (s' : Side) (k : Kind) (n : ℕ) → cond (is s s' && priced t k) n 0 ≡ cond (is s s' && priced t₁ k) n 0 + cond (is s s' && priced t₂ k) n 0
limits_part Bid t t₁ t₂ each Bid (Limit x) n = each x n
limits_part Bid t t₁ t₂ each Bid OnOpen n = refl
limits_part Bid t t₁ t₂ each Offer k n = refl
limits_part Offer t t₁ t₂ each Bid k n = refl
limits_part Offer t t₁ t₂ each Offer (Limit x) n = each x n
limits_part Offer t t₁ t₂ each Offer OnOpen n = refl

limits_below : (s : Side) (t u : ℕ → Bool) → ((x n : ℕ) → cond (t x) n 0 ≤ cond (u x) n 0) → (s' : Side) (k : Kind) (n : ℕ) → cond (is s s' && priced t k) n 0 ≤ cond (is s s' && priced u k) n 0
limits_below Bid t u each Bid (Limit x) n = each x n
limits_below Bid t u each Bid OnOpen n = omega arith
limits_below Bid t u each Offer k n = omega arith
limits_below Offer t u each Bid k n = omega arith
limits_below Offer t u each Offer (Limit x) n = each x n
limits_below Offer t u each Offer OnOpen n = omega arith

pub limits_split : (s : Side) (t t₁ t₂ : ℕ → Bool) → ((x n : ℕ) → cond (t x) n 0 ≡ cond (t₁ x) n 0 + cond (t₂ x) n 0) → (os : List Order) → limits s t os ≡ limits s t₁ os + limits s t₂ os
limits_split s t t₁ t₂ each os = held_split (λ o. is s o.side && priced t o.kind) (λ o. is s o.side && priced t₁ o.kind) (λ o. is s o.side && priced t₂ o.kind) (λ o. limits_part s t t₁ t₂ each o.side o.kind o.lots) os

pub limits_le : (s : Side) (t u : ℕ → Bool) → ((x n : ℕ) → cond (t x) n 0 ≤ cond (u x) n 0) → (os : List Order) → limits s t os ≤ limits s u os
limits_le s t u each os = held_le (λ o. is s o.side && priced t o.kind) (λ o. is s o.side && priced u o.kind) (λ o. limits_below s t u each o.side o.kind o.lots) os

-- the lots at one price
abbrev pub lots_at : Side → List Order → ℕ → ℕ
lots_at s os q = limits s (λ x. eqb q x) os

pub within_ahead : (s : Side) (os : List Order) (q : ℕ) → within s os q ≡ ahead s os q + lots_at s os q
within_ahead Bid os q = limits_split Bid (λ x. leb q x) (λ x. ltb q x) (λ x. eqb q x) (λ x n. grind (arith, nat_tests)) os
within_ahead Offer os q = limits_split Offer (λ x. leb x q) (λ x. ltb x q) (λ x. eqb q x) (λ x n. grind (arith, nat_tests)) os

pub within_le_all : (s : Side) (os : List Order) (q : ℕ) → within s os q ≤ all_of s os
within_le_all s os q = limits_le s (as_good_as s q) (λ x. true) (λ x n. cond_both (as_good_as s q x) n 0 (λ m. m ≤ n) (λ _. omega arith) (λ _. omega arith)) os

pub demand_le : (os : List Order) (q r : ℕ) → q ≤ r → demand os r ≤ demand os q
demand_le os q r h = limits_le Bid (λ x. leb r x) (λ x. leb q x) (λ x n. grind (arith, nat_tests)) os

pub supply_le : (os : List Order) (q r : ℕ) → q ≤ r → supply os q ≤ supply os r
supply_le os q r h = limits_le Offer (λ x. leb x q) (λ x. leb x r) (λ x n. grind (arith, nat_tests)) os

-- ahead of a bid at q are the bids at the next price, and of an offer the offers at the price before
pub ahead_bid : (os : List Order) (q : ℕ) → ahead Bid os q ≡ demand os (suc q)
ahead_bid os q = refl

pub ahead_offer : (os : List Order) (q : ℕ) → ahead Offer os (suc q) ≡ supply os q
ahead_offer os q = omega (arith, limits_le Offer (λ x. ltb x (suc q)) (λ x. leb x q) (λ x n. grind (arith, nat_tests)) os, limits_le Offer (λ x. leb x q) (λ x. ltb x (suc q)) (λ x n. grind (arith, nat_tests)) os)

in_skip : (s s' : Side) (k : Kind) (xs : List ℕ) (x : ℕ) → In x xs → In x (cond (is s s') (price_of k xs) xs)
in_skip Bid Bid (Limit y) xs x h = inr h
in_skip Bid Bid OnOpen xs x h = h
in_skip Bid Offer k xs x h = h
in_skip Offer Bid k xs x h = h
in_skip Offer Offer (Limit y) xs x h = inr h
in_skip Offer Offer OnOpen xs x h = h

in_here : (s s' : Side) (k : Kind) (xs : List ℕ) (x n : ℕ) → (cond (is s s' && priced (λ y. eqb x y) k) n 0 ≡ 0) ⊎ In x (cond (is s s') (price_of k xs) xs)
in_here Bid Bid (Limit y) xs x n = elim (cases_eq x y) [ inl e ↦ inr (inl e) | inr ne ↦ inl (rw (ne_eqb x y ne)) ]
in_here Bid Bid OnOpen xs x n = inl refl
in_here Bid Offer k xs x n = inl refl
in_here Offer Bid k xs x n = inl refl
in_here Offer Offer (Limit y) xs x n = elim (cases_eq x y) [ inl e ↦ inr (inl e) | inr ne ↦ inl (rw (ne_eqb x y ne)) ]
in_here Offer Offer OnOpen xs x n = inl refl

-- a level with lots has a price
pub level_in : (s : Side) (os : List Order) (x : ℕ) → 0 < lots_at s os x → In x (prices s os)
level_in s [] x h = omega arith
level_in s (o ∷ os) x h = elim (in_here s o.side o.kind (prices s os) x o.lots) [
  | inl none ↦ in_skip s o.side o.kind (prices s os) x (level_in s os x (omega arith))
  | inr here ↦ here
]

-- what holds of each order's price holds of each of the prices
in_range : (s s' : Side) (k : Kind) (xs : List ℕ) (x : ℕ) → InRange k → ((In x xs) → (lowest_price ≤ x) × (x ≤ highest_price)) → In x (cond (is s s') (price_of k xs) xs) → (lowest_price ≤ x) × (x ≤ highest_price)
in_range Bid Bid (Limit y) xs x r rest h = elim h [ inl e ↦ omega arith | inr h' ↦ rest h' ]
in_range Bid Bid OnOpen xs x r rest h = rest h
in_range Bid Offer k xs x r rest h = rest h
in_range Offer Bid k xs x r rest h = rest h
in_range Offer Offer (Limit y) xs x r rest h = elim h [ inl e ↦ omega arith | inr h' ↦ rest h' ]
in_range Offer Offer OnOpen xs x r rest h = rest h

pub prices_range : (s : Side) (os : List Order) → Sound os → (x : ℕ) → In x (prices s os) → (lowest_price ≤ x) × (x ≤ highest_price)
prices_range s [] sound x h = absurd h
prices_range s (o ∷ os) sound x h = in_range s o.side o.kind (prices s os) x sound.0.2 (prices_range s os sound.1 x) h

-- no bid stands above the range, and no offer below it
over : (k : Kind) (s : Side) (n : ℕ) → InRange k → cond (is Bid s && priced (λ x. leb (suc highest_price) x) k) n 0 ≡ 0
over (Limit x) Bid n r = grind (arith, nat_tests)
over (Limit x) Offer n r = refl
over OnOpen Bid n r = refl
over OnOpen Offer n r = refl

pub demand_end : (os : List Order) → Sound os → demand os (suc highest_price) ≡ 0
demand_end [] sound = refl
demand_end (o ∷ os) sound = omega (arith, over o.kind o.side o.lots sound.0.2, demand_end os sound.1)

under : (k : Kind) (s : Side) (n : ℕ) → InRange k → cond (is Offer s && priced (λ x. leb x 0) k) n 0 ≡ 0
under (Limit x) Bid n r = refl
under (Limit x) Offer n r = grind (arith, nat_tests)
under OnOpen Bid n r = refl
under OnOpen Offer n r = refl

pub supply_start : (os : List Order) → Sound os → supply os 0 ≡ 0
supply_start [] sound = refl
supply_start (o ∷ os) sound = omega (arith, under o.kind o.side o.lots sound.0.2, supply_start os sound.1)

-- each price has lots
in_lots : (s s' : Side) (k : Kind) (xs : List ℕ) (x n m : ℕ) → 1 ≤ n → (In x xs → 0 < m) → In x (cond (is s s') (price_of k xs) xs) → 0 < cond (is s s' && priced (λ y. eqb x y) k) n 0 + m
in_lots Bid Bid (Limit y) xs x n m l rest h = elim h [ inl e ↦ let t = eq-eqb x y e in grind arith | inr h' ↦ omega (arith, rest h') ]
in_lots Bid Bid OnOpen xs x n m l rest h = omega (arith, rest h)
in_lots Bid Offer k xs x n m l rest h = omega (arith, rest h)
in_lots Offer Bid k xs x n m l rest h = omega (arith, rest h)
in_lots Offer Offer (Limit y) xs x n m l rest h = elim h [ inl e ↦ let t = eq-eqb x y e in grind arith | inr h' ↦ omega (arith, rest h') ]
in_lots Offer Offer OnOpen xs x n m l rest h = omega (arith, rest h)

pub in_level : (s : Side) (os : List Order) → Sound os → (x : ℕ) → In x (prices s os) → 0 < lots_at s os x
in_level s [] sound x h = absurd h
in_level s (o ∷ os) sound x h = in_lots s o.side o.kind (prices s os) x o.lots (lots_at s os x) sound.0.0 (in_level s os sound.1 x) h

pub all_demand : (os : List Order) → all_of Bid os ≡ demand os 0
all_demand os = omega (arith, within_le_all Bid os 0, limits_le Bid (λ x. true) (λ x. leb 0 x) (λ x n. grind (arith, nat_tests)) os)

top : (k : Kind) (s : Side) (n : ℕ) → InRange k → cond (is Offer s && priced (λ x. true) k) n 0 ≤ cond (is Offer s && priced (λ x. leb x highest_price) k) n 0
top (Limit x) Bid n r = omega arith
top (Limit x) Offer n r = grind (arith, nat_tests)
top OnOpen Bid n r = omega arith
top OnOpen Offer n r = omega arith

pub all_supply : (os : List Order) → Sound os → all_of Offer os ≤ supply os highest_price
all_supply [] sound = omega arith
all_supply (o ∷ os) sound = omega (arith, top o.kind o.side o.lots sound.0.2, all_supply os sound.1)

-- the lots of a book's orders are few enough for every sum of the code
held_bound : (t : Order → Bool) (os : List Order) → Sound os → held t os ≤ length os * most_lots
held_bound t [] a = omega arith
held_bound t (o ∷ os) a = omega (arith, held_bound t os a.1, a.0.1, cond_both (t o) o.lots 0 (λ n. n ≤ o.lots) (λ _. omega arith) (λ _. omega arith))

pub held_fits : (t : Order → Bool) (os : List Order) → Book os → held t os ≤ most_orders * most_lots
held_fits t os b = omega (arith, held_bound t os b.sound, b.few)
