-- The laws above the rules. Assumes nothing.
use Rattle.std.proofs.Common.{◌≡◌, ℕ, zero, suc, ◌+◌, ◌-◌, ◌*◌, ◌/◌, ◌%◌, ◌<◌, ◌≤◌, min, cond, ◌&&◌, ltb, List, [], ◌∷◌, length, get_or, take, count_by, sym, refl, ap, ◌∙◌, subst, add-zero, mod-lt, add-mul, one-mul, div-add-mod', zero-add, zero-mul, arith}
use native.Mathlib.Nat.{sub-zero}
use Rattle.std.proofs.lemmas.List.Sums.{sum_by-cons}
use Rattle.std.proofs.lemmas.Bool.{cond_both, cond-true, cond-false, lt-leb, le-leb, ltb-true, and_parts}
use Rattle.policy.specs.Fair.{total, Within, Rule}
use Rattle.policy.specs.PriceTime.{price_time}
use Rattle.policy.specs.ProRata.{whole, broken, spare, dealt, shared}
use Rattle.policy.specs.Favour.{capped, favoured, less, more, favour}
use Rattle.policy.specs.Laws.{QueuesAreAnswered, PriceTimeEarliest, Near, ProRataNear, share_at, ProRataPlaces, FavourFirst}
use Rattle.policy.proofs.Queues.{answered_length, answered_queue, queue_answered}
use Rattle.policy.specs.Favours.{less_queue}

pub queues_are_answered : QueuesAreAnswered
queues_are_answered q n = (λ h. (answered_length q n h, answered_queue q n h), λ h. queue_answered q n h.0 h.1)

-- price/time

some_left : (q : List ℕ) (v j : ℕ) → 0 < get_or (price_time q v) j 0 → 0 < v
some_left [] v j some = omega arith
some_left (x ∷ xs) v zero some = omega arith
some_left (x ∷ xs) v (suc j) some = omega (arith, some_left xs (v - x) j some)

pub price_time_earliest : PriceTimeEarliest
price_time_earliest [] v i j h some = absurd (let never : ⊥ = omega arith in never)
price_time_earliest (x ∷ xs) v i zero h some = absurd (let never : ⊥ = omega arith in never)
price_time_earliest (x ∷ xs) v zero (suc j) h some = omega (arith, some_left xs (v - x) j some)
price_time_earliest (x ∷ xs) v (suc i) (suc j) h some = price_time_earliest xs (v - x) i j (omega arith) some

-- pro rata

-- the share of a place, where `before` broken shares stand before it
abbrev share_after : ℕ → ℕ → ℕ → ℕ → ℕ → ℕ
share_after t v r x before = whole t v x + cond (broken t v x && ltb before r) 1 0

dealt_at : (t v r before : ℕ) (q : List ℕ) (i : ℕ) → i < length q → get_or (dealt t v r before q) i 0 ≡ share_after t v r (get_or q i 0) (before + count_by (broken t v) (take i q))
dealt_at t v r before [] i h = absurd (let never : ⊥ = omega arith in never)
dealt_at t v r before (x ∷ xs) zero h = ap (share_after t v r x) (sym (add-zero before))
dealt_at t v r before (x ∷ xs) (suc i) h =
    let one : ℕ = cond (broken t v x) 1 0 in
    let more : count_by (broken t v) (take (suc i) (x ∷ xs)) ≡ one + count_by (broken t v) (take i xs) = sum_by-cons (λ y. cond (broken t v y) 1 0) x (take i xs) in
    let count : before + one + count_by (broken t v) (take i xs) ≡ before + count_by (broken t v) (take (suc i) (x ∷ xs)) = omega arith in
    dealt_at t v r (before + one) xs i (omega arith) ∙ ap (share_after t v r (get_or xs i 0)) count

shared_at : (t v : ℕ) (q : List ℕ) (i : ℕ) → i < length q → get_or (shared t v q) i 0 ≡ share_at t v q i
shared_at t v q i h =
    dealt_at t v (spare t v q) 0 q i h ∙ ap (share_after t v (spare t v q) (get_or q i 0)) (zero-add (count_by (broken t v) (take i q)))

pub pro_rata_places : ProRataPlaces
pro_rata_places q v i h = shared_at (total q) (min v (total q)) q i h

near_cut : (t w x : ℕ) → 0 < t → Near t w x (whole t w x + 0)
near_cut t w x pos =
    let d = w * x / t in
    let none = add-mul d 0 t in
    record { not_above = omega (arith, none, zero-mul t, div-add-mod' (w * x) t, mod-lt (w * x) pos); not_below = omega (arith, none, zero-mul t, div-add-mod' (w * x) t, mod-lt (w * x) pos) }

near_raised : (t w x : ℕ) → 0 < t → 0 < w * x % t → Near t w x (whole t w x + 1)
near_raised t w x pos some =
    let d = w * x / t in
    let one = add-mul d 1 t in
    record { not_above = omega (arith, one, one-mul t, div-add-mod' (w * x) t, mod-lt (w * x) pos); not_below = omega (arith, one, one-mul t, div-add-mod' (w * x) t, mod-lt (w * x) pos) }

near_at : (t w : ℕ) (q : List ℕ) (i : ℕ) → 0 < t → Near t w (get_or q i 0) (share_at t w q i)
near_at t w q i pos =
    let x = get_or q i 0 in
    let early = ltb (count_by (broken t w) (take i q)) (spare t w q) in
    cond_both (broken t w x && early) 1 0 (λ n. Near t w x (whole t w x + n))
    (λ raised. near_raised t w x pos (ltb-true 0 (w * x % t) (and_parts (broken t w x) early raised).0))
    (λ _. near_cut t w x pos)

pub pro_rata_near : ProRataNear
pro_rata_near q v i h pos =
    let t = total q in
    let w = min v t in
    subst (Near t w (get_or q i 0)) (sym (shared_at t w q i h)) (near_at t w q i pos)

-- favour

more_first : (x : ℕ) (xs s : List ℕ) (g : ℕ) → Within (x ∷ xs) s → g ≤ get_or (more s g) 0 0
more_first x xs [] g w = absurd w
more_first x xs (y ∷ ys) g w = omega arith

more_none : (s : List ℕ) → more s 0 ≡ s
more_none [] = refl
more_none (y ∷ ys) = ap (λ n. n ∷ ys) (add-zero y)

less_none : (q : List ℕ) → less q 0 ≡ q
less_none [] = refl
less_none (x ∷ xs) = ap (λ n. n ∷ xs) (sub-zero x)

-- without a favour the policy below shares alone
not_favoured : (limit minimum : ℕ) (below : Rule) (q : List ℕ) (v : ℕ) → favoured limit minimum q v ≡ 0 → favour limit minimum below q v ≡ below q v
not_favoured limit minimum below q v e =
    let none = more_none (below q v) in
    let same = less_none q in
    let all = sub-zero v in
    cc

pub favour_first : FavourFirst
favour_first =
    record {
      gets = λ limit minimum below fair first others v h holds.
          let q = first ∷ others in
          let g = favoured limit minimum q v in
          let is : g ≡ min v (min (capped limit) first) = cond-true _ _ _ (le-leb (capped minimum) first holds) in
          let f = fair (less q g) (v - g) (less_queue q g h) in
          omega (arith, is, more_first (first - g) others (below (less q g) (v - g)) g f.within);
      too_small = λ limit minimum below first others v h.
          not_favoured limit minimum below (first ∷ others) v (cond-false _ _ _ (lt-leb (capped minimum) first h));
      nobody = λ limit minimum below v. not_favoured limit minimum below [] v refl;
    }
