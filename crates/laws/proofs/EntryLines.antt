-- The lines of an entry that meets an open book: each is at the limit of a resting order, with none better left, or is
-- the entry's own, at a price that it accepts, with none better of its own side.
use Rattle.std.proofs.Common.{◌≡◌, ℕ, ◌<◌, Bool, true, false, cond, eqb, ◌⊎◌, List, [], ◌∷◌, ◌++◌, Some, filter, Option, sym, refl, ◌∙◌, subst, inl, inr, arith}
use Rattle.std.proofs.lemmas.Bool.{cases_Bool}
use Rattle.std.proofs.lemmas.Bool.Decides.{nat_tests}
use Rattle.std.proofs.ByRecursion.{kept_by_passes}
use Rattle.policy.specs.Fair.{Rule, Fairly}
use Rattle.rules.specs.declared.order.Side.{Side}
use Rattle.rules.specs.declared.order.Side.TheVariants.{Bid, Offer}
use Rattle.rules.specs.declared.order.Kind.{Kind}
use Rattle.rules.specs.declared.order.Kind.TheVariants.{Limit, OnOpen}
use Rattle.rules.specs.declared.order.Order.{Order}
use Rattle.rules.specs.declared.incoming.Incoming.{Incoming}
use Rattle.rules.specs.declared.tape.Terms.TheVariants.{Entry}
use Rattle.rules.specs.Sides.{is, other, better_than}
use Rattle.rules.specs.Orders.{priced, ahead, price_of, prices, Book}
use Rattle.rules.specs.Trades.{ranked}
use Rattle.rules.specs.Session.{accepts, met, resting}
use Rattle.rules.specs.Laws.{In}
use Rattle.rules.proofs.Held.{limits_le, lots_at, level_in, in_level}
use Rattle.rules.proofs.Served.{at_level}
use Rattle.rules.proofs.Sessions.{one_price, other_other, rest_both, met_book, met_ahead, met_level, met_own_side}
use Rattle.laws.specs.Laws.{Uncrossed, NoneBetter}
use Rattle.laws.proofs.Lines.{Everywhere, Lined, serve_lines}

-- ---- prices of two lists

in_part : (B : Type 0) (s s' : Side) (k : Kind) (y : ℕ) (xs ys : List ℕ) → (In y xs → In y ys ⊎ B) → In y (cond (is s s') (price_of k xs) xs) → In y (cond (is s s') (price_of k ys) ys) ⊎ B
in_part B Bid Bid (Limit x) y xs ys rest i = elim i [ inl e ↦ inl (inl e) | inr j ↦ elim (rest j) [ inl l ↦ inl (inr l) | inr r ↦ inr r ] ]
in_part B Bid Bid OnOpen y xs ys rest i = rest i
in_part B Bid Offer k y xs ys rest i = rest i
in_part B Offer Bid k y xs ys rest i = rest i
in_part B Offer Offer (Limit x) y xs ys rest i = elim i [ inl e ↦ inl (inl e) | inr j ↦ elim (rest j) [ inl l ↦ inl (inr l) | inr r ↦ inr r ] ]
in_part B Offer Offer OnOpen y xs ys rest i = rest i

pub in_either : (s : Side) (y : ℕ) (os ps : List Order) → In y (prices s (os ++ ps)) → In y (prices s os) ⊎ In y (prices s ps)
in_either s y [] ps i = inr i
in_either s y (o ∷ os) ps i = in_part (In y (prices s ps)) s o.side o.kind y (prices s (os ++ ps)) (prices s os) (in_either s y os ps) i

-- the one price of one limit order, where it is of the side
pub in_one : (s s' : Side) (y q : ℕ) → In y (cond (is s s') (q ∷ []) []) → (s' ≡ s) × (y ≡ q)
in_one Bid Bid y q i = (refl, elim i [ inl e ↦ e | inr none ↦ absurd none ])
in_one Bid Offer y q i = absurd i
in_one Offer Bid y q i = absurd i
in_one Offer Offer y q i = (refl, elim i [ inl e ↦ e | inr none ↦ absurd none ])

pub never_other : (s : Side) → s ≡ other s → ⊥
never_other Bid e = let z : ◌≡◌ {A = ℕ} 0 1 = cc in omega arith
never_other Offer e = let z : ◌≡◌ {A = ℕ} 0 1 = cc in omega arith

better_self : (s : Side) (q : ℕ) → better_than s q q ≡ false
better_self Bid q = grind (arith, nat_tests)
better_self Offer q = grind (arith, nat_tests)

-- an uncrossed book has no order of the side better than a limit that accepts an order of the other
none_above : (s : Side) (os : List Order) → Uncrossed os → (q x y : ℕ) → accepts s (Some q) x ≡ true → In x (prices (other s) os) → In y (prices s os) → better_than s q y ≡ false
none_above Bid os u q x y a i j = let l = u.apart y x j i in grind (arith, nat_tests)
none_above Offer os u q x y a i j = let l = u.apart x y i j in grind (arith, nat_tests)

module _ (rule : Rule) (fair : Fairly rule) (e : Incoming) (os : List Order) (b : Book os) where
  abbrev far : Side
  far = other e.side

  abbrev accepted : ℕ → Bool
  accepted = accepts e.side e.limit

  -- where nothing better than x is left among the orders met, none better is open
  pub none_better_met : (n x : ℕ) → ahead far (met rule e os).orders x ≡ 0 → NoneBetter far x ((met rule e os).orders ++ resting e e.limit n)
  none_better_met n x none y i = elim (in_either far y (met rule e os).orders (resting e e.limit n) i) [
    | inl left ↦ elim (cases_Bool (better_than far x y)) [
      | inl better ↦ absurd (let never : ⊥ = omega (arith, in_level far (met rule e os).orders (met_book rule fair e os b).sound y left, limits_le far (λ z. eqb y z) (better_than far x) (λ z m. one_price (better_than far x) y z m better) (met rule e os).orders) in never)
      | inr not ↦ not
    ]
    | inr rest ↦ rest_both (λ ps. In y (prices far ps) → better_than far x y ≡ false) e e.limit n (λ j. absurd j) (λ q _ _ j. absurd (never_other e.side (in_one far e.side y q j).0)) rest
  ]

  -- where the entry trades at x, none of its side is better than its limit
  pub none_better_own : Uncrossed os → (n q x : ℕ) → e.limit ≡ Some q → accepted x ≡ true → 0 < lots_at far os x → NoneBetter e.side q ((met rule e os).orders ++ resting e e.limit n)
  none_better_own u n q x is-q a lots y i = elim (in_either e.side y (met rule e os).orders (resting e e.limit n) i) [
    | inl left ↦
        (let pos = in_level e.side (met rule e os).orders (met_book rule fair e os b).sound y left in
        let same-lots = met_own_side rule fair e os b (priced (λ z. eqb y z)) in
        none_above e.side os u q x y (subst (λ (l : Option ℕ). accepts e.side l x ≡ true) is-q a) (level_in far os x lots) (level_in e.side os y (omega arith)))
    | inr rest ↦ rest_both (λ ps. In y (prices e.side ps) → better_than e.side q y ≡ false) e e.limit n (λ j. absurd j)
        (λ q' is-q' _ j.
        let yq : y ≡ q = (in_one e.side e.side y q' j).1 ∙ (let z : q' ≡ q = cc in z) in
        subst (λ z. better_than e.side q z ≡ false) (sym yq) (better_self e.side q)) rest
  ]

  -- what holds of a resting order's line at its limit, and of the entry's own, holds of every line
  pub met_lines : (P : ℕ → Side → Kind → Type 0) (Q : ℕ → Side → ℕ → Type 0) → Everywhere P os →
      ((x n : ℕ) → ahead far (met rule e os).orders x ≡ 0 → P n far (Limit x) → Q n far x) →
      ((x : ℕ) → accepted x ≡ true → 0 < lots_at far os x → Q e.number e.side x) →
      Lined Q (met rule e os).tape
  met_lines P Q each theirs ours = serve_lines P Q rule fair (Entry e.number) far (λ x. accepted x ≡ true) os e.lots (filter accepted (ranked far os)) (record { orders = os; tape = [] }) b each (kept_by_passes accepted (ranked far os)) (λ x. omega arith)
      (λ x a fewer.
      let l = met_level rule fair e os b x a in
      let z = met_ahead rule fair e os b x a in
      ((λ n h. theirs x n (omega arith) h), subst (λ (s : Side). Q e.number s x) (sym (other_other e.side)) (ours x a (omega (arith, at_level far x os)))))
      tt
