-- Pro rata is fair. Assumes nothing. Here since an impl names it: a proof of an impl's law stands in specs/.
use Rattle.std.specs.Prelude.{◌≡◌, ℕ, zero, suc, ◌+◌, ◌-◌, ◌*◌, ◌/◌, ◌%◌, ◌<◌, ◌≤◌, min, cond, ◌&&◌, List, [], ◌∷◌, map, nat_lt, refl}
use Rattle.std.proofs.Common.{sym, ap, subst, ◌∙◌, ⊎_elim, mul-add, add-mul, mul-zero, zero-mul, one-mul, mul_comm, div-add-mod', mod-lt, mul-le-mul_right, le_of_mul-le-mul_right, lt_of_mul-lt-mul_right, arith}
use Rattle.std.proofs.Math.Nat.{div-zero, mod-zero, sub-zero}
use Rattle.std.proofs.lemmas.Bool.{cases_lt}
use Rattle.std.proofs.lemmas.Bool.Decides.{nat_tests}
use Rattle.policy.specs.Fair.{total, Within, Fair}
use Rattle.policy.specs.ProRata.{whole, broken, dealt, spare, shared, pro_rata}

-- one of the lots left, for a place whose exact share is not whole: its remainder is not 0
abbrev pub extra : ℕ → ℕ → ℕ
extra left remainder = min (min left remainder) 1

-- the shares as a loop deals them, by the lots that are left rather than by the places before
abbrev pub dealing : ℕ → ℕ → ℕ → List ℕ → List ℕ
dealing t v left [] = []
dealing t v left (x ∷ xs) =
    (whole t v x + extra left (v * x % t)) ∷ dealing t v (left - extra left (v * x % t)) xs

pub one_is : (left m : ℕ) → cond (nat_lt 0 m && nat_lt 0 left) 1 0 ≡ extra left m
one_is left m = grind (arith, nat_tests)

extra_is : (r before m : ℕ) → cond (nat_lt 0 m && nat_lt before r) 1 0 ≡ extra (r - before) m
extra_is r before m = grind (arith, nat_tests)

left_is : (r before m : ℕ) → r - (before + cond (nat_lt 0 m) 1 0) ≡ (r - before) - extra (r - before) m
left_is r before m = grind (arith, nat_tests)

pub dealt_is : (t v r before : ℕ) (q : List ℕ) → dealt t v r before q ≡ dealing t v (r - before) q
dealt_is t v r before [] = refl
dealt_is t v r before (x ∷ xs) =
    let m = v * x % t in
    let here = extra_is r before m in
    let rest = dealt_is t v r (before + cond (broken t v x) 1 0) xs in
    let left = left_is r before m in
    cc

-- with no place before, all the spare lots are left
pub dealing_is : (t v r : ℕ) (q : List ℕ) → dealing t v r q ≡ dealt t v r 0 q
dealing_is t v r q = sym (dealt_is t v r 0 q ∙ ap (λ r. dealing t v r q) (sub-zero r))

-- the whole lots of an exact share fit the place, and leave room where something remains
pub whole_le : (t v x : ℕ) → v ≤ t → v * x / t ≤ x
whole_le zero v x le = omega (arith, div-zero (v * x))
whole_le (suc t) v x le =
    le_of_mul-le-mul_right {m = v * x / suc t} {n = x} {k = suc t}
    (omega (arith, div-add-mod' (v * x) (suc t), mul-le-mul_right x le, mul_comm (suc t) x)) (omega arith)

pub share_le : (t v left x : ℕ) → v ≤ t → v * x / t + extra left (v * x % t) ≤ x
share_le zero v left x le =
    let none : v * x ≡ 0 = ap (λ n. n * x) (let e : v ≡ 0 = omega arith in e) ∙ zero-mul x in
    omega (arith, div-zero (v * x), mod-zero (v * x))
share_le (suc t) v left x le =
    ⊎_elim
    (λ (some : 0 < v * x % suc t). let room : v * x / suc t < x = lt_of_mul-lt-mul_right (suc t) (omega (arith, div-add-mod' (v * x) (suc t), mul-le-mul_right x le, mul_comm (suc t) x)) in omega arith)
    (λ none. omega (arith, whole_le (suc t) v x le))
    (cases_lt 0 (v * x % suc t))

dealing_within : (t v left : ℕ) (q : List ℕ) → v ≤ t → Within q (dealing t v left q)
dealing_within t v left [] le = tt
dealing_within t v left (x ∷ xs) le = (share_le t v left x le, dealing_within t v (left - extra left (v * x % t)) xs le)

-- how many places have a share that is not whole
abbrev breaks : ℕ → ℕ → List ℕ → ℕ
breaks t v [] = 0
breaks t v (x ∷ xs) = min (v * x % t) 1 + breaks t v xs

dealing_total : (t v left : ℕ) (q : List ℕ) → total (dealing t v left q) ≡ total (map (whole t v) q) + min left (breaks t v q)
dealing_total t v left [] = omega arith
dealing_total t v left (x ∷ xs) = omega (arith, dealing_total t v (left - extra left (v * x % t)) xs)

-- the whole lots come to at most the exact sum, and with one more at each broken share to no less
rounded_low : (t v : ℕ) (q : List ℕ) → total (map (whole t v) q) * t ≤ v * total q
rounded_low t v [] = omega (arith, zero-mul t, mul-zero v)
rounded_low t v (x ∷ xs) =
    omega (arith, rounded_low t v xs, add-mul (v * x / t) (total (map (whole t v) xs)) t, mul-add v x (total xs), div-add-mod' (v * x) t)

one_more : (m t : ℕ) → m < t → m ≤ min m 1 * t
one_more zero t h = omega arith
one_more (suc m) t h =
    let one : min (suc m) 1 * t ≡ t = ap (λ n. n * t) (let e : min (suc m) 1 ≡ 1 = omega arith in e) ∙ one-mul t in
    omega arith

rounded_high : (t v : ℕ) (q : List ℕ) → 0 < t → v * total q ≤ (total (map (whole t v) q) + breaks t v q) * t
rounded_high t v [] pos = omega (arith, zero-mul t, mul-zero v)
rounded_high t v (x ∷ xs) pos =
    let d = v * x / t in
    let b = min (v * x % t) 1 in
    let r = total (map (whole t v) xs) in
    let k = breaks t v xs in
    let apart : (d + r + (b + k)) * t ≡ (d + b + (r + k)) * t = ap (λ n. n * t) (let e : d + r + (b + k) ≡ d + b + (r + k) = omega arith in e) in
    omega (arith, rounded_high t v xs pos, add-mul (d + b) (r + k) t, add-mul d b t, mul-add v x (total xs), div-add-mod' (v * x) t, one_more (v * x % t) t (mod-lt (v * x) pos))

rounded_none : (v : ℕ) (q : List ℕ) → total (map (whole 0 v) q) ≡ 0
rounded_none v [] = omega arith
rounded_none v (x ∷ xs) = omega (arith, rounded_none v xs, div-zero (v * x))

pub rounded_le : (v : ℕ) (q : List ℕ) → total (map (whole (total q) v) q) ≤ v
rounded_le v q =
    ⊎_elim
    (λ (pos : 0 < total q). le_of_mul-le-mul_right (rounded_low (total q) v q) pos)
    (λ (e : total q ≤ 0). let z : total q ≡ 0 = omega arith in omega (arith, ap (λ t. total (map (whole t v) q)) z, rounded_none v q))
    (cases_lt 0 (total q))

shared_is : (t v : ℕ) (q : List ℕ) → shared t v q ≡ dealing t v (spare t v q) q
shared_is t v q = sym (dealing_is t v (spare t v q) q)

dealing_adds : (v : ℕ) (q : List ℕ) → v ≤ total q → total (dealing (total q) v (spare (total q) v q) q) ≡ v
dealing_adds v q le =
    let t = total q in
    let low = rounded_le v q in
    let sum = dealing_total t v (spare t v q) q in
    ⊎_elim
    (λ (pos : 0 < t). let high : v ≤ total (map (whole t v) q) + breaks t v q = le_of_mul-le-mul_right (rounded_high t v q pos) pos in omega arith)
    (λ (e : t ≤ 0). omega arith)
    (cases_lt 0 t)

dealing_fair : (q : List ℕ) (v : ℕ) → Fair q v (dealing (total q) (min v (total q)) (spare (total q) (min v (total q)) q) q)
dealing_fair q v =
    let w = min v (total q) in
    let le : w ≤ total q = omega arith in
    record { within = dealing_within (total q) w (spare (total q) w q) q le; adds = dealing_adds w q le }

pub pro_rata_fair : (q : List ℕ) (v : ℕ) → Fair q v (pro_rata q v)
pro_rata_fair q v = subst (Fair q v) (sym (shared_is (total q) (min v (total q)) q)) (dealing_fair q v)
