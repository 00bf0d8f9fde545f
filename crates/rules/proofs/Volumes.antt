-- The volume: never exceeded, attained, and found among the prices of the bids.
use Rattle.std.proofs.Common.{◌≡◌, ℕ, zero, suc, ◌+◌, ◌-◌, ◌≤◌, max, List, [], ◌∷◌, refl, subst, inl, inr, arith}
use Rattle.std.proofs.lemmas.Bool.{cases_lt}
use Rattle.rules.specs.declared.order.Side.TheVariants.{Bid}
use Rattle.rules.specs.declared.order.Order.{Order}
use Rattle.rules.specs.Limits.{lowest_price, highest_price}
use Rattle.rules.specs.Orders.{demand, prices, Sound}
use Rattle.rules.specs.Price.{most_of, most, tradable, volume}
use Rattle.rules.specs.Laws.{In}
use Rattle.rules.proofs.Held.{lots_at, within_ahead, supply_le, ahead_bid, level_in, prices_range, demand_end}

most_over : (f : ℕ → ℕ) (n q : ℕ) → 1 ≤ q → q ≤ n → f q ≤ most f n
unfolding most
most_over f zero q l h = omega arith
most_over f (suc n) q l h = elim (cases_lt n q) [
  | inl above ↦ let e : suc n ≡ q = omega arith in subst (λ r. f r ≤ max (most f n) (f (suc n))) e (omega arith)
  | inr below ↦ omega (arith, most_over f n q l below)
]

most_hit : (f : ℕ → ℕ) (n : ℕ) → 1 ≤ n → (q : ℕ) × (1 ≤ q) × (q ≤ n) × (f q ≡ most f n)
unfolding most
most_hit f zero h = absurd (omega arith)
most_hit f (suc zero) h = (1, omega arith, omega arith, omega arith)
most_hit f (suc (suc n)) h =
    let rest = most_hit f (suc n) (omega arith) in
    elim (cases_lt (f (suc (suc n))) (most f (suc n))) [
      | inl less ↦ (rest.0, rest.1, omega (arith, rest.2), omega (arith, rest.3))
      | inr more ↦ (suc (suc n), omega arith, omega arith, omega arith)
    ]

pub never_more : (os : List Order) (q : ℕ) → lowest_price ≤ q → q ≤ highest_price → tradable os q ≤ volume os
unfolding volume
never_more os q l h = most_over (tradable os) highest_price q l h

pub attained : (os : List Order) → (q : ℕ) × (lowest_price ≤ q) × (q ≤ highest_price) × (tradable os q ≡ volume os)
unfolding volume
attained os = most_hit (tradable os) highest_price (omega arith)

most_of_over : (f : ℕ → ℕ) (xs : List ℕ) (x : ℕ) → In x xs → f x ≤ most_of f xs
most_of_over f [] x h = absurd h
most_of_over f (y ∷ ys) x h = elim h [
  | inl e ↦ subst (λ r. f x ≤ max (f r) (most_of f ys)) e (omega arith)
  | inr h' ↦ omega (arith, most_of_over f ys x h')
]

most_of_under : (f : ℕ → ℕ) (xs : List ℕ) (v : ℕ) → ((x : ℕ) → In x xs → f x ≤ v) → most_of f xs ≤ v
most_of_under f [] v h = omega arith
most_of_under f (y ∷ ys) v h = omega (arith, h y (inl refl), most_of_under f ys v (λ x i. h x (inr i)))

-- from any price up, the first price with a bid shows no less
climb : (os : List Order) → Sound os → (k q : ℕ) → k + q ≡ suc highest_price → tradable os q ≤ most_of (tradable os) (prices Bid os)
climb os sound zero q e = let z : demand os q ≡ 0 = subst (λ r. demand os r ≡ 0) (omega arith) (demand_end os sound) in omega arith
climb os sound (suc k) q e = elim (cases_lt 0 (lots_at Bid os q)) [
  | inl some ↦ most_of_over (tradable os) (prices Bid os) q (level_in Bid os q some)
  | inr none ↦ omega (arith, within_ahead Bid os q, ahead_bid os q, supply_le os q (suc q) (omega arith), climb os sound k (suc q) (omega arith))
]

pub volume_among_bids : (os : List Order) → Sound os → volume os ≡ most_of (tradable os) (prices Bid os)
volume_among_bids os sound =
    let at = attained os in
    let up = climb os sound (suc highest_price - at.0) at.0 (omega arith) in
    let down = most_of_under (tradable os) (prices Bid os) (volume os) (λ x i. let r = prices_range Bid os sound x i in never_more os x r.0 r.1) in
    omega arith
