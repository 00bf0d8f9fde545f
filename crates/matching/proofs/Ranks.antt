-- Prices in order: the first is the best, and a list in order is known by its members.
use Rattle.std.proofs.Common.{◌≡◌, ℕ, ◌<◌, Bool, true, cond, eqb, ltb, ◌⊎◌, List, [], ◌∷◌, Some, None, filter, Option, fold, sym, refl, ap, ◌∙◌, subst, inl, inr, arith}
use Rattle.std.specs.List.{AllByRecursion, reduce}
use Rattle.std.proofs.lemmas.Bool.{cond_both}
use Rattle.std.proofs.lemmas.Bool.Decides.{nat_tests}
use Rattle.rules.specs.declared.order.Side.{Side}
use Rattle.rules.specs.declared.order.Side.TheVariants.{Bid, Offer}
use Rattle.rules.specs.declared.order.Order.{Order}
use Rattle.rules.specs.Sides.{better_than}
use Rattle.rules.specs.Orders.{prices, Sound}
use Rattle.rules.specs.Trades.{into, best_first, ranked}
use Rattle.rules.specs.Laws.{In}
use Rattle.rules.proofs.Held.{lots_at, level_in, in_level}
use Rattle.rules.proofs.Prices.{kept_in, in_kept}
use Rattle.rules.proofs.Served.{Sorted, best_first_sorted, best_first_in, kept_sorted}
use Rattle.matching.specs.Best.{first_of, better_of}

-- ---- the first

abbrev join : Side → ℕ → Option ℕ → ℕ
join s a None = a
join s a (Some x) = better_of s a x

first_into : (s : Side) (x : ℕ) (ys : List ℕ) → first_of (into s x ys) ≡ Some (join s x (first_of ys))
first_into s x [] = refl
first_into Bid x (y ∷ ys) = cond_both (ltb y x) (x ∷ y ∷ ys) (cond (eqb x y) (y ∷ ys) (y ∷ into Bid x ys)) (λ z. first_of z ≡ Some (better_of Bid x y))
    (λ e. ap Some (grind (arith, nat_tests)))
    (λ e. cond_both (eqb x y) (y ∷ ys) (y ∷ into Bid x ys) (λ z. first_of z ≡ Some (better_of Bid x y)) (λ _. ap Some (grind (arith, nat_tests))) (λ _. ap Some (grind (arith, nat_tests))))
first_into Offer x (y ∷ ys) = cond_both (ltb x y) (x ∷ y ∷ ys) (cond (eqb x y) (y ∷ ys) (y ∷ into Offer x ys)) (λ z. first_of z ≡ Some (better_of Offer x y))
    (λ e. ap Some (grind (arith, nat_tests)))
    (λ e. cond_both (eqb x y) (y ∷ ys) (y ∷ into Offer x ys) (λ z. first_of z ≡ Some (better_of Offer x y)) (λ _. ap Some (grind (arith, nat_tests))) (λ _. ap Some (grind (arith, nat_tests))))

of_three : (s : Side) (z x : ℕ) (y : Option ℕ) → join s (better_of s z x) y ≡ better_of s z (join s x y)
of_three s z x None = refl
of_three Bid z x (Some y) = grind (arith, nat_tests)
of_three Offer z x (Some y) = grind (arith, nat_tests)

best_joins : (s : Side) (found : ℕ) (xs : List ℕ) → fold (better_of s) found xs ≡ join s found (first_of (best_first s xs))
best_joins s found [] = refl
best_joins s found (x ∷ xs) = best_joins s (better_of s found x) xs ∙ of_three s found x (first_of (best_first s xs)) ∙ ap (join s found) (sym (first_into s x (best_first s xs)))

-- the best of all is the first of all in order
pub best_is_first : (s : Side) (xs : List ℕ) → reduce (better_of s) xs ≡ first_of (best_first s xs)
best_is_first s [] = refl
best_is_first s (x ∷ xs) = ap Some (best_joins s x xs) ∙ sym (first_into s x (best_first s xs))

pub first_some : (xs : List ℕ) (x : ℕ) → first_of xs ≡ Some x → (ys : List ℕ) × (xs ≡ x ∷ ys)
first_some [] x e = let z : ◌≡◌ {A = ℕ} 0 1 = cc in absurd (omega arith)
first_some (y ∷ ys) x e = let i : y ≡ x = cc in (ys, ap (λ (z : ℕ). z ∷ ys) i)

pub first_none : (xs : List ℕ) → first_of xs ≡ None → xs ≡ []
first_none [] e = refl
first_none (y ∷ ys) e = let z : ◌≡◌ {A = ℕ} 0 1 = cc in absurd (omega arith)

-- ---- members

in_into : (s : Side) (x z : ℕ) (ys : List ℕ) → In z (into s x ys) → (z ≡ x) ⊎ In z ys
in_into s x z [] i = i
in_into s x z (y ∷ ys) i = cond_both (better_than s y x) (x ∷ y ∷ ys) (cond (eqb x y) (y ∷ ys) (y ∷ into s x ys)) (λ l. In z l → (z ≡ x) ⊎ In z (y ∷ ys))
    (λ _ j. j)
    (λ _. cond_both (eqb x y) (y ∷ ys) (y ∷ into s x ys) (λ l. In z l → (z ≡ x) ⊎ In z (y ∷ ys))
    (λ _ j. inr j)
    (λ _ j. elim j [ inl e ↦ inr (inl e) | inr k ↦ elim (in_into s x z ys k) [ inl e ↦ inl e | inr h ↦ inr (inr h) ] ]))
    i

in_best_first : (s : Side) (xs : List ℕ) (z : ℕ) → In z (best_first s xs) → In z xs
in_best_first s [] z i = i
in_best_first s (x ∷ xs) z i = elim (in_into s x z (best_first s xs) i) [ inl e ↦ inl e | inr j ↦ inr (in_best_first s xs z j) ]

all_in : (P : ℕ → Type 0) (xs : List ℕ) (z : ℕ) → AllByRecursion P xs → In z xs → P z
all_in P [] z a i = absurd i
all_in P (x ∷ xs) z a i = elim i [ inl e ↦ subst P (sym e) a.0 | inr j ↦ all_in P xs z a.1 j ]

not_itself : (s : Side) (x : ℕ) → better_than s x x ≡ true → ⊥
not_itself Bid x e = grind (arith, nat_tests)
not_itself Offer x e = grind (arith, nat_tests)

not_both : (s : Side) (x y : ℕ) → better_than s x y ≡ true → better_than s y x ≡ true → ⊥
not_both Bid x y e f = grind (arith, nat_tests)
not_both Offer x y e f = grind (arith, nat_tests)

-- the first of a list in order does not stand in it again
pub once : (s : Side) (x : ℕ) (xs : List ℕ) → Sorted s (x ∷ xs) → In x xs → ⊥
once s x xs a i = not_itself s x (all_in (λ y. better_than s y x ≡ true) xs x a.0 i)

pub sorted_same : (s : Side) (xs ys : List ℕ) → Sorted s xs → Sorted s ys → ((z : ℕ) → In z xs → In z ys) → ((z : ℕ) → In z ys → In z xs) → xs ≡ ys
sorted_same s [] [] a b to from = refl
sorted_same s [] (y ∷ ys) a b to from = absurd (from y (inl refl))
sorted_same s (x ∷ xs) [] a b to from = absurd (to x (inl refl))
sorted_same s (x ∷ xs) (y ∷ ys) a b to from =
    let first : x ≡ y = elim (to x (inl refl)) [
      | inl e ↦ e
      | inr i ↦ elim (from y (inl refl)) [
        | inl e ↦ sym e
        | inr j ↦ absurd (not_both s x y (all_in (λ z. better_than s z y ≡ true) ys x b.0 i) (all_in (λ z. better_than s z x ≡ true) xs y a.0 j))
      ]
    ] in
    let rest : xs ≡ ys = sorted_same s xs ys a.1 b.1
    (λ z i. elim (to z (inr i)) [ inl e ↦ absurd (once s x xs a (subst (λ w. In w xs) (e ∙ sym first) i)) | inr j ↦ j ])
    (λ z i. elim (from z (inr i)) [ inl e ↦ absurd (once s y ys b (subst (λ w. In w ys) (e ∙ first) i)) | inr j ↦ j ]) in
    cc

-- those that pass, put in order, are those of all in order that pass
kept_ranked : (s : Side) (t : ℕ → Bool) (xs : List ℕ) → best_first s (filter t xs) ≡ filter t (best_first s xs)
kept_ranked s t xs =
    sorted_same s (best_first s (filter t xs)) (filter t (best_first s xs)) (best_first_sorted s (filter t xs)) (kept_sorted s t (best_first s xs) (best_first_sorted s xs))
    (λ z i. let k = in_kept t xs z (in_best_first s (filter t xs) z i) in kept_in t (best_first s xs) z (best_first_in s xs z k.0) k.1)
    (λ z i. let k = in_kept t (best_first s xs) z i in best_first_in s (filter t xs) z (kept_in t xs z (in_best_first s xs z k.0) k.1))

-- the best of a side's prices that pass
pub best_price : (s : Side) (t : ℕ → Bool) (os : List Order) → reduce (better_of s) (filter t (prices s os)) ≡ first_of (filter t (ranked s os))
best_price s t os = best_is_first s (filter t (prices s os)) ∙ ap first_of (kept_ranked s t (prices s os))

-- ---- the prices of a book that pass: those with lots

pub ranked_in : (s : Side) (t : ℕ → Bool) (os : List Order) → Sound os → (z : ℕ) → In z (filter t (ranked s os)) → (0 < lots_at s os z) × (t z ≡ true)
ranked_in s t os sound z i =
    let k = in_kept t (ranked s os) z i in
    (in_level s os sound z (in_best_first s (prices s os) z k.0), k.1)

pub in_ranked : (s : Side) (t : ℕ → Bool) (os : List Order) (z : ℕ) → 0 < lots_at s os z → t z ≡ true → In z (filter t (ranked s os))
in_ranked s t os z h e = kept_in t (ranked s os) z (best_first_in s (prices s os) z (level_in s os z h)) e

pub ranked_sorted : (s : Side) (t : ℕ → Bool) (os : List Order) → Sorted s (filter t (ranked s os))
ranked_sorted s t os = kept_sorted s t (ranked s os) (best_first_sorted s (prices s os))

-- prices in order that have lots in a book are its own
pub ranked_is : (s : Side) (t : ℕ → Bool) (os : List Order) → Sound os → (xs : List ℕ) → Sorted s xs → ((z : ℕ) → In z xs → (0 < lots_at s os z) × (t z ≡ true)) → ((z : ℕ) → 0 < lots_at s os z → t z ≡ true → In z xs) → filter t (ranked s os) ≡ xs
ranked_is s t os sound xs a to from =
    sorted_same s (filter t (ranked s os)) xs (ranked_sorted s t os) a
    (λ z i. let k = ranked_in s t os sound z i in from z k.0 k.1)
    (λ z i. let k = to z i in in_ranked s t os z k.0 k.1)
