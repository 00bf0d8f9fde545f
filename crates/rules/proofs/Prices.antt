-- The opening price clears the volume.
use Rattle.std.proofs.Common.{◌≡◌, ℕ, zero, suc, ◌+◌, ◌<◌, ◌≤◌, min, max, Bool, true, false, ◌&&◌, eqb, ltb, leb, ◌⊎◌, List, [], ◌∷◌, Some, None, filter, Option, sym, ap, ◌∙◌, subst, inl, inr, arith}
use Rattle.std.proofs.lemmas.Bool.{cases_lt, cond_both, ltb-true, ltb-false, leb-true, leb-false, eqb-true, eqb-false, lt-ltb, and_parts, and_cases}
use Rattle.rules.specs.declared.order.Side.{Side}
use Rattle.rules.specs.declared.order.Side.TheVariants.{Bid, Offer}
use Rattle.rules.specs.declared.order.Order.{Order}
use Rattle.rules.specs.Limits.{lowest_price, highest_price}
use Rattle.rules.specs.Sides.{midpoint}
use Rattle.rules.specs.Orders.{ahead, within, all_of, demand, supply, prices, Sound}
use Rattle.rules.specs.Price.{tradable, volume, traded, untraded, highest, lowest, price}
use Rattle.rules.specs.Laws.{In}
use Rattle.rules.proofs.Held.{within_ahead, within_le_all, demand_le, supply_le, ahead_offer, level_in, prices_range, demand_end, supply_start, in_level, all_demand, all_supply}
use Rattle.rules.proofs.Volumes.{never_more, attained}

-- v lots clear at p: the bids above p and the offers below p are among them, no bid below p and no offer above p is,
-- and one of the two sides has no lot left at p.
pub record Clears (os : List Order) (v p : ℕ) : Type 0 where
  pub low : lowest_price ≤ p
  pub high : p ≤ highest_price
  pub above : ahead Bid os p ≤ v
  pub below : ahead Offer os p ≤ v
  pub lesser : tradable os p ≡ v

-- The price suits every limit order, traded or not.
pub record Suits (os : List Order) (p : ℕ) : Type 0 where
  pub traded_bids : (x : ℕ) → In x (traded Bid (volume os) os) → p ≤ x
  pub traded_offers : (x : ℕ) → In x (traded Offer (volume os) os) → x ≤ p
  pub untraded_bids : (x : ℕ) → In x (untraded Bid (volume os) os) → x ≤ p
  pub untraded_offers : (x : ℕ) → In x (untraded Offer (volume os) os) → p ≤ x
  pub not_both : In p (untraded Bid (volume os) os) → In p (untraded Offer (volume os) os) → ⊥

-- ---- the lowest and the highest of some prices

lowest_le : (xs : List ℕ) (x : ℕ) → In x xs → lowest xs ≤ x
lowest_le [] x h = absurd h
lowest_le (y ∷ ys) x h = elim h [ inl e ↦ omega arith | inr h' ↦ omega (arith, lowest_le ys x h') ]

highest_ge : (xs : List ℕ) (x : ℕ) → In x xs → x ≤ highest xs
highest_ge [] x h = absurd h
highest_ge (y ∷ ys) x h = elim h [ inl e ↦ omega arith | inr h' ↦ omega (arith, highest_ge ys x h') ]

lowest_some : (xs : List ℕ) → lowest xs < highest_price → In (lowest xs) xs
lowest_some [] h = absurd (omega arith)
lowest_some (y ∷ ys) h = elim (cases_lt (lowest ys) y) [
  | inl less ↦ let e : lowest ys ≡ min y (lowest ys) = omega arith in inr (subst (λ z. In z ys) e (lowest_some ys (omega arith)))
  | inr more ↦ inl (omega arith)
]

highest_some : (xs : List ℕ) → lowest_price < highest xs → In (highest xs) xs
highest_some [] h = absurd (omega arith)
highest_some (y ∷ ys) h = elim (cases_lt y (highest ys)) [
  | inl less ↦ let e : highest ys ≡ max y (highest ys) = omega arith in inr (subst (λ z. In z ys) e (highest_some ys (omega arith)))
  | inr more ↦ inl (omega arith)
]

lowest_in : (xs : List ℕ) (x : ℕ) → In x xs → x ≤ highest_price → In (lowest xs) xs
lowest_in xs x h r = elim (cases_lt (lowest xs) highest_price) [
  | inl less ↦ lowest_some xs less
  | inr more ↦ let e : x ≡ lowest xs = omega (arith, lowest_le xs x h) in subst (λ z. In z xs) e h
]

highest_in : (xs : List ℕ) (x : ℕ) → In x xs → lowest_price ≤ x → In (highest xs) xs
highest_in xs x h r = elim (cases_lt lowest_price (highest xs)) [
  | inl less ↦ highest_some xs less
  | inr more ↦ let e : x ≡ highest xs = omega (arith, highest_ge xs x h) in subst (λ z. In z xs) e h
]

-- ---- filters

pub kept_in : (t : ℕ → Bool) (xs : List ℕ) (x : ℕ) → In x xs → t x ≡ true → In x (filter t xs)
kept_in t [] x h e = absurd h
kept_in t (y ∷ ys) x h e = cond_both (t y) (y ∷ filter t ys) (filter t ys) (λ zs. In x zs)
    (λ _. elim h [ inl i ↦ inl i | inr h' ↦ inr (kept_in t ys x h' e) ])
    (λ n. elim h [ inl i ↦ (let z : true ≡ false = sym e ∙ ap t i ∙ n in let z' : ◌≡◌ {A = ℕ} 0 1 = cc in absurd (omega arith)) | inr h' ↦ kept_in t ys x h' e ])

pub in_kept : (t : ℕ → Bool) (xs : List ℕ) (x : ℕ) → In x (filter t xs) → In x xs × (t x ≡ true)
in_kept t [] x h = absurd h
in_kept t (y ∷ ys) x h = cond_both (t y) (y ∷ filter t ys) (filter t ys) (λ zs. In x zs → In x (y ∷ ys) × (t x ≡ true))
    (λ e h. elim h [ inl i ↦ (inl i, ap t i ∙ e) | inr h' ↦ (let r = in_kept t ys x h' in (inr r.0, r.1)) ])
    (λ _ h. let r = in_kept t ys x h in (inr r.0, r.1)) h

-- ---- the price at which the lots of a side, best first, reach v

fall : (os : List Order) (v k q : ℕ) → v ≤ demand os q → demand os (k + q) < v → (x : ℕ) × (v ≤ demand os x) × (demand os (suc x) < v)
fall os v zero q l h = let e : demand os q < v = subst (λ r. demand os r < v) (omega arith) h in absurd (omega arith)
fall os v (suc k) q l h = elim (cases_lt (demand os (suc q)) v) [
  | inl less ↦ (q, l, less)
  | inr more ↦ fall os v k (suc q) more (subst (λ r. demand os r < v) (omega arith) h)
]

rise : (os : List Order) (v k q : ℕ) → supply os q < v → v ≤ supply os (k + q) → (x : ℕ) × (supply os x < v) × (v ≤ supply os (suc x))
rise os v zero q l h = let e : v ≤ supply os q = subst (λ r. v ≤ supply os r) (omega arith) h in absurd (omega arith)
rise os v (suc k) q l h = elim (cases_lt (supply os (suc q)) v) [
  | inl less ↦ rise os v k (suc q) less (subst (λ r. v ≤ supply os r) (omega arith) h)
  | inr more ↦ (q, l, more)
]

abbrev Edge : Side → List Order → ℕ → ℕ → Type 0
Edge s os v x = (ahead s os x < v) × (v ≤ within s os x)

edge : (s : Side) (os : List Order) → Sound os → (v : ℕ) → 0 < v → v ≤ all_of s os → (x : ℕ) × Edge s os v x
edge Bid os sound v l h =
    let r = fall os v (suc highest_price) 0 (omega (arith, all_demand os)) (omega (arith, demand_end os sound)) in
    (r.0, (r.2, r.1))
edge Offer os sound v l h =
    let r = rise os v highest_price 0 (omega (arith, supply_start os sound)) (omega (arith, all_supply os sound)) in
    (suc r.0, (omega (arith, ahead_offer os r.0, r.1), r.2))

edge_in : (s : Side) (os : List Order) (v x : ℕ) → Edge s os v x → In x (prices s os)
edge_in s os v x e = level_in s os x (omega (arith, within_ahead s os x))

-- what is known of the prices that the five lines name
pub record At (s : Side) (os : List Order) (v x : ℕ) : Type 0 where
  pub low : lowest_price ≤ x
  pub high : x ≤ highest_price
  pub before : ahead s os x < v
  pub reached : v ≤ within s os x

ahead_mono_bid : (os : List Order) (x y : ℕ) → x ≤ y → ahead Bid os y ≤ ahead Bid os x
ahead_mono_bid os x y h = demand_le os (suc x) (suc y) (omega arith)

last_bid : (os : List Order) → Sound os → (v : ℕ) → 0 < v → v ≤ all_of Bid os → At Bid os v (lowest (traded Bid v os))
last_bid os sound v l h =
    let e = edge Bid os sound v l h in
    let i = edge_in Bid os v e.0 e.1 in
    let t : ℕ → Bool = λ x. ltb (ahead Bid os x) v in
    let k = kept_in t (prices Bid os) e.0 i (lt-ltb (ahead Bid os e.0) v e.1.0) in
    let r = prices_range Bid os sound e.0 i in
    let b : ℕ = lowest (traded Bid v os) in
    let m = in_kept t (prices Bid os) b (lowest_in (traded Bid v os) e.0 k r.1) in
    let rb = prices_range Bid os sound b m.0 in
    record { low = rb.0; high = rb.1; before = ltb-true (ahead Bid os b) v m.1; reached = omega (arith, demand_le os b e.0 (lowest_le (traded Bid v os) e.0 k), e.1.1) }

last_offer : (os : List Order) → Sound os → (v : ℕ) → 0 < v → v ≤ all_of Offer os → At Offer os v (highest (traded Offer v os))
last_offer os sound v l h =
    let e = edge Offer os sound v l h in
    let i = edge_in Offer os v e.0 e.1 in
    let t : ℕ → Bool = λ x. ltb (ahead Offer os x) v in
    let k = kept_in t (prices Offer os) e.0 i (lt-ltb (ahead Offer os e.0) v e.1.0) in
    let r = prices_range Offer os sound e.0 i in
    let b : ℕ = highest (traded Offer v os) in
    let m = in_kept t (prices Offer os) b (highest_in (traded Offer v os) e.0 k r.0) in
    let rb = prices_range Offer os sound b m.0 in
    record { low = rb.0; high = rb.1; before = ltb-true (ahead Offer os b) v m.1; reached = omega (arith, supply_le os e.0 b (highest_ge (traded Offer v os) e.0 k), e.1.1) }

-- the first price of some among which are all that more than v lots reach
first_bid : (os : List Order) → Sound os → (v : ℕ) (xs : List ℕ) → v < all_of Bid os → ((x : ℕ) → In x (prices Bid os) → v < demand os x → In x xs) → ((x : ℕ) → In x xs → In x (prices Bid os) × (v < demand os x)) → At Bid os (suc v) (highest xs)
first_bid os sound v xs h into from =
    let e = edge Bid os sound (suc v) (omega arith) h in
    let i = edge_in Bid os (suc v) e.0 e.1 in
    let k = into e.0 i e.1.1 in
    let r = prices_range Bid os sound e.0 i in
    let b : ℕ = highest xs in
    let m = from b (highest_in xs e.0 k r.0) in
    let rb = prices_range Bid os sound b m.0 in
    record { low = rb.0; high = rb.1; before = omega (arith, ahead_mono_bid os e.0 b (highest_ge xs e.0 k), e.1.0); reached = m.1 }

ahead_mono_offer : (os : List Order) (x y : ℕ) → 1 ≤ x → x ≤ y → ahead Offer os x ≤ ahead Offer os y
ahead_mono_offer os zero y l h = absurd (omega arith)
ahead_mono_offer os (suc x) zero l h = absurd (omega arith)
ahead_mono_offer os (suc x) (suc y) l h = omega (arith, ahead_offer os x, ahead_offer os y, supply_le os x y (omega arith))

first_offer : (os : List Order) → Sound os → (v : ℕ) (xs : List ℕ) → v < all_of Offer os → ((x : ℕ) → In x (prices Offer os) → v < supply os x → In x xs) → ((x : ℕ) → In x xs → In x (prices Offer os) × (v < supply os x)) → At Offer os (suc v) (lowest xs)
first_offer os sound v xs h into from =
    let e = edge Offer os sound (suc v) (omega arith) h in
    let i = edge_in Offer os (suc v) e.0 e.1 in
    let k = into e.0 i e.1.1 in
    let r = prices_range Offer os sound e.0 i in
    let b : ℕ = lowest xs in
    let m = from b (lowest_in xs e.0 k r.1) in
    let rb = prices_range Offer os sound b m.0 in
    record { low = rb.0; high = rb.1; before = omega (arith, ahead_mono_offer os b e.0 rb.0 (lowest_le xs e.0 k), e.1.0); reached = m.1 }

untraded_into : (s : Side) (os : List Order) (v x : ℕ) → In x (prices s os) → v < within s os x → In x (untraded s v os)
untraded_into s os v x i h = kept_in (λ y. ltb v (within s os y)) (prices s os) x i (lt-ltb v (within s os x) h)

untraded_from : (s : Side) (os : List Order) (v x : ℕ) → In x (untraded s v os) → In x (prices s os) × (v < within s os x)
untraded_from s os v x h = let r = in_kept (λ y. ltb v (within s os y)) (prices s os) x h in (r.0, ltb-true v (within s os x) r.1)

-- ---- the five lines

demand_past : (os : List Order) (x q : ℕ) → x < q → demand os q ≤ ahead Bid os x
demand_past os x q h = demand_le os (suc x) q h

supply_past : (os : List Order) (x q : ℕ) → q < x → supply os q ≤ ahead Offer os x
supply_past os zero q h = absurd (omega arith)
supply_past os (suc x) q h = omega (arith, ahead_offer os x, supply_le os q x (omega arith))

ahead_le_all : (s : Side) (os : List Order) (q : ℕ) → ahead s os q ≤ all_of s os
ahead_le_all s os q = omega (arith, within_ahead s os q, within_le_all s os q)

module _ (os : List Order) (sound : Sound os) where
  clears_at : (p : ℕ) → lowest_price ≤ p → p ≤ highest_price → volume os ≤ demand os p → volume os ≤ supply os p → ahead Bid os p ≤ volume os → ahead Offer os p ≤ volume os → Clears os (volume os) p
  clears_at p low high d s a b = record { low = low; high = high; above = a; below = b; lesser = omega (arith, never_more os p low high) }

  enough : (volume os ≤ all_of Bid os) × (volume os ≤ all_of Offer os)
  enough = let at = attained os in (omega (arith, within_le_all Bid os at.0, at.3), omega (arith, within_le_all Offer os at.0, at.3))

  -- no lot trades
  apart : (b a : ℕ) → volume os ≡ 0 → At Bid os 1 b → At Offer os 1 a → Clears os (volume os) (midpoint b a)
  apart b a none B A =
      let less : b < a = elim (cases_lt b a) [ inl l ↦ l | inr g ↦ absurd (omega (arith, never_more os b B.low B.high, supply_le os a b g, B.reached, A.reached)) ] in
      let p : ℕ = midpoint b a in
      clears_at p (omega (arith, B.low)) (omega (arith, A.high)) (omega arith) (omega arith)
      (omega (arith, ahead_mono_bid os b p (omega arith), B.before))
      (omega (arith, ahead_mono_offer os p a (omega (arith, B.low)) (omega arith), A.before))

  module _ (c b : ℕ) (C : At Offer os (volume os) c) (B : At Bid os (volume os) b) where
    ordered : c ≤ b
    ordered =
        let at = attained os in
        let l : at.0 ≤ b = elim (cases_lt b at.0) [ inl h ↦ absurd (omega (arith, demand_past os b at.0 h, B.before, at.3)) | inr h ↦ h ] in
        let m : c ≤ at.0 = elim (cases_lt at.0 c) [ inl h ↦ absurd (omega (arith, supply_past os c at.0 h, C.before, at.3)) | inr h ↦ h ] in
        omega arith

    between : (p : ℕ) → c ≤ p → p ≤ b → ahead Bid os p ≤ volume os → ahead Offer os p ≤ volume os → Clears os (volume os) p
    between p l h x y = clears_at p (omega (arith, C.low)) (omega (arith, B.high)) (omega (arith, demand_le os p b h, B.reached)) (omega (arith, supply_le os c p l, C.reached)) x y

    both_left : (u w : ℕ) → At Bid os (suc (volume os)) u → At Offer os (suc (volume os)) w → Clears os (volume os) (midpoint (min b w) (max c u))
    both_left u w U W =
        let o = ordered in
        let ub : u ≤ b = elim (cases_lt b u) [ inl h ↦ absurd (omega (arith, demand_past os b u h, B.before, U.reached)) | inr h ↦ h ] in
        let cw : c ≤ w = elim (cases_lt w c) [ inl h ↦ absurd (omega (arith, supply_past os c w h, C.before, W.reached)) | inr h ↦ h ] in
        let uw : u < w = elim (cases_lt u w) [ inl h ↦ h | inr h ↦ absurd (omega (arith, never_more os u U.low U.high, supply_le os w u h, U.reached, W.reached)) ] in
        let p : ℕ = midpoint (min b w) (max c u) in
        between p (omega arith) (omega arith)
        (omega (arith, ahead_mono_bid os u p (omega arith), U.before))
        (omega (arith, ahead_mono_offer os p w (omega (arith, C.low)) (omega arith), W.before))

  some : (x p : ℕ) → Clears os (volume os) x → Some x ≡ Some p → Clears os (volume os) p
  some x p k e = let i : x ≡ p = cc in subst (λ (q : ℕ). Clears os (volume os) q) i k

  pub clears : (p : ℕ) → price os ≡ Some p → Clears os (volume os) p
  clears p =
      let v : ℕ = volume os in
      let P : Option ℕ → Type 0 = λ o. o ≡ Some p → Clears os (volume os) p in
      cond_both (eqb v 0) _ _ P
      (λ none. cond_both (ltb 0 (all_of Bid os) && ltb 0 (all_of Offer os)) _ _ P
      (λ both. some _ p (apart (highest (prices Bid os)) (lowest (prices Offer os)) (eqb-true v 0 none)
      (first_bid os sound 0 (prices Bid os) (ltb-true 0 (all_of Bid os) (and_parts _ _ both).0) (λ x i _. i) (λ x i. (i, omega (arith, within_ahead Bid os x, in_level Bid os sound x i))))
      (first_offer os sound 0 (prices Offer os) (ltb-true 0 (all_of Offer os) (and_parts _ _ both).1) (λ x i _. i) (λ x i. (i, omega (arith, within_ahead Offer os x, in_level Offer os sound x i))))))
      (λ _ e. let z : ◌≡◌ {A = ℕ} 0 1 = cc in absurd (omega arith)))
      (λ trades.
      let v-pos : 0 < v = elim (cases_lt 0 v) [ inl h ↦ h | inr h ↦ absurd (eqb-false v 0 trades (omega arith)) ] in
      let b : ℕ = lowest (traded Bid v os) in
      let c : ℕ = highest (traded Offer v os) in
      let B = last_bid os sound v v-pos enough.0 in
      let C = last_offer os sound v v-pos enough.1 in
      let o = ordered c b C B in
      cond_both (leb (all_of Bid os) v && leb (all_of Offer os) v) _ _ P
      (λ both. some _ p (between c b C B (midpoint c b) (omega arith) (omega arith)
      (omega (arith, ahead_le_all Bid os (midpoint c b), leb-true (all_of Bid os) v (and_parts _ _ both).0))
      (omega (arith, ahead_le_all Offer os (midpoint c b), leb-true (all_of Offer os) v (and_parts _ _ both).1))))
      (λ _. cond_both (leb (all_of Bid os) v) _ _ P
      (λ bids. some _ p (between c b C B c (omega arith) (omega arith)
      (omega (arith, ahead_le_all Bid os c, leb-true (all_of Bid os) v bids)) (omega (arith, C.before))))
      (λ more-bids. cond_both (leb (all_of Offer os) v) _ _ P
      (λ offers. some _ p (between c b C B b (omega arith) (omega arith)
      (omega (arith, B.before)) (omega (arith, ahead_le_all Offer os b, leb-true (all_of Offer os) v offers))))
      (λ more-offers. some _ p (both_left c b C B (highest (untraded Bid v os)) (lowest (untraded Offer v os))
      (first_bid os sound v (untraded Bid v os) (leb-false (all_of Bid os) v more-bids) (untraded_into Bid os v) (untraded_from Bid os v))
      (first_offer os sound v (untraded Offer v os) (leb-false (all_of Offer os) v more-offers) (untraded_into Offer os v) (untraded_from Offer os v)))))))

  pub suits : (p : ℕ) → Clears os (volume os) p → Suits os p
  suits p k =
      let v : ℕ = volume os in
      record {
        traded_bids = λ x i. let r = in_kept (λ y. ltb (ahead Bid os y) v) (prices Bid os) x i in
            let t = ltb-true (ahead Bid os x) v r.1 in
            elim (cases_lt x p) [ inl h ↦ absurd (omega (arith, demand_past os x p h, k.lesser)) | inr h ↦ h ];
        traded_offers = λ x i. let r = in_kept (λ y. ltb (ahead Offer os y) v) (prices Offer os) x i in
            let t = ltb-true (ahead Offer os x) v r.1 in
            elim (cases_lt p x) [ inl h ↦ absurd (omega (arith, supply_past os x p h, k.lesser)) | inr h ↦ h ];
        untraded_bids = λ x i. let r = untraded_from Bid os v x i in
            elim (cases_lt p x) [ inl h ↦ absurd (omega (arith, demand_past os p x h, k.above, r.1)) | inr h ↦ h ];
        untraded_offers = λ x i. let r = untraded_from Offer os v x i in
            elim (cases_lt x p) [ inl h ↦ absurd (omega (arith, supply_past os p x h, k.below, r.1)) | inr h ↦ h ];
        not_both = λ i j. let r = untraded_from Bid os v p i in let t = untraded_from Offer os v p j in omega (arith, k.lesser, r.1, t.1);
      }

-- there is no price only where a side has no limit order
pub no_price : (os : List Order) → price os ≡ None → (volume os ≡ 0) × ((all_of Bid os ≡ 0) ⊎ (all_of Offer os ≡ 0))
no_price os =
    let v : ℕ = volume os in
    let P : Option ℕ → Type 0 = λ o. o ≡ None → (volume os ≡ 0) × ((all_of Bid os ≡ 0) ⊎ (all_of Offer os ≡ 0)) in
    let never : (x : ℕ) → P (Some x) = λ x e. let z : ◌≡◌ {A = ℕ} 0 1 = cc in absurd (omega arith) in
    cond_both (eqb v 0) _ _ P
    (λ idle. cond_both (ltb 0 (all_of Bid os) && ltb 0 (all_of Offer os)) _ _ P (λ _. never _)
    (λ f e. (eqb-true v 0 idle, elim (and_cases (ltb 0 (all_of Bid os)) (ltb 0 (all_of Offer os)) f) [ inl h ↦ inl (omega (arith, ltb-false 0 (all_of Bid os) h)) | inr h ↦ inr (omega (arith, ltb-false 0 (all_of Offer os) h)) ])))
    (λ _. cond_both (leb (all_of Bid os) v && leb (all_of Offer os) v) _ _ P (λ _. never _)
    (λ _. cond_both (leb (all_of Bid os) v) _ _ P (λ _. never _)
    (λ _. cond_both (leb (all_of Offer os) v) _ _ P (λ _. never _) (λ _. never _))))
