-- Orders by their places: the first of a number, and what a walk over the orders has read. The length of a tape.
use Rattle.std.proofs.Common.{◌≡◌, ℕ, suc, ◌+◌, ◌<◌, ◌≤◌, Bool, true, false, cond, not, eqb, ltb, List, [], ◌∷◌, ◌++◌, map, length, get_or, take, drop, set, Some, None, Option, sym, refl, ap, ◌∙◌, add-zero, one-add, arith}
use Rattle.std.specs.List.{remove, position, position_or_len, refill}
use Rattle.std.proofs.lemmas.List.{get_or-drop, drop-drop, take_all, drop_all, append-nil, length-map}
use Rattle.std.proofs.lemmas.Bool.{ltb-true, ltb-false}
use Rattle.std.proofs.lemmas.Option.{cond_some}
use Rattle.arrayvec.specs.ArrayVec.{array_vec_len}
use Rattle.rules.specs.declared.order.Order.{Order}
use Rattle.rules.specs.declared.order.Side.TheVariants.{Bid}
use Rattle.rules.specs.declared.order.Kind.TheVariants.{Limit}
use Rattle.rules.specs.declared.order.Lifetime.TheVariants.{Plain}
use Rattle.rules.specs.Checks.{order_of, open_lots}
use Rattle.rules.specs.Trades.{less}
use Rattle.rules.specs.Steps.{without, reduced}
use Rattle.table.specs.declared.tape.Tape.{Tape}
use Rattle.table.specs.Tables.{tape_lines}

-- What a read past the orders would give.
abbrev pub no_order : Order
no_order = record { number = 0; id = 0; side = Bid; kind = Limit 0; lots = 0; lifetime = Plain }

-- A tape has as many lines as its vector counts.
pub tape_length : (t : Tape) → length (tape_lines t) ≡ array_vec_len t.lines
tape_length t = refl

-- Lists that are the same from i on.
pub read_same : {X : Type 0} (xs ys : List X) (i : ℕ) (d : X) → drop i ys ≡ drop i xs → get_or ys i d ≡ get_or xs i d
read_same xs ys i d h =
    let a = get_or-drop i ys 0 d in
    let b = get_or-drop i xs 0 d in
    let z = add-zero i in
    cc

pub drop_next : {X : Type 0} (xs ys : List X) (i : ℕ) → drop i ys ≡ drop i xs → drop (i + 1) ys ≡ drop (i + 1) xs
drop_next xs ys i h = sym (drop-drop 1 i ys) ∙ ap (drop 1) h ∙ drop-drop 1 i xs

-- ---- the order of a number

abbrev pub numbered : ℕ → Order → Bool
numbered n o = eqb o.number n

-- Where it stands, or past the orders where there is none.
abbrev pub place_of : ℕ → List Order → ℕ
place_of n os = position_or_len (numbered n) os

without_step : (n : ℕ) (o : Order) (os : List Order) (b : Bool) → without n os ≡ remove os (place_of n os) → cond b os (o ∷ without n os) ≡ remove (o ∷ os) (cond (not b) (1 + place_of n os) 0)
without_step n o os true h = refl
without_step n o os false h = rw one-add (ap (λ (l : List Order). o ∷ l) h)

pub without_is : (n : ℕ) (os : List Order) → without n os ≡ remove os (place_of n os)
without_is n [] = refl
without_is n (o ∷ os) = without_step n o os (eqb o.number n) (without_is n os)

pub without_at : (n : ℕ) (os : List Order) (at : ℕ) → position (numbered n) os ≡ Some at → without n os ≡ remove os at
without_at n os at e = without_is n os ∙ ap (remove os) (cond_some (ltb (place_of n os) (length os)) (place_of n os) at e).1

order_step : (n : ℕ) (o : Order) (os : List Order) (b : Bool) (d : Order) → (place_of n os < length os → order_of n os ≡ Some (get_or os (place_of n os) d)) → cond (not b) (1 + place_of n os) 0 < suc (length os) → cond b (Some o) (order_of n os) ≡ Some (get_or (o ∷ os) (cond (not b) (1 + place_of n os) 0) d)
order_step n o os true d h lt = refl
order_step n o os false d h lt = rw one-add (h (omega arith))

pub order_of_is : (n : ℕ) (os : List Order) (d : Order) → place_of n os < length os → order_of n os ≡ Some (get_or os (place_of n os) d)
order_of_is n [] d lt = absurd (omega arith)
order_of_is n (o ∷ os) d lt = order_step n o os (eqb o.number n) d (order_of_is n os d) lt

none_step : (n : ℕ) (o : Order) (os : List Order) (b : Bool) → (length os ≤ place_of n os → order_of n os ≡ None) → suc (length os) ≤ cond (not b) (1 + place_of n os) 0 → cond b (Some o) (order_of n os) ≡ None
none_step n o os true h le = absurd (omega arith)
none_step n o os false h le = h (omega arith)

pub order_of_none : (n : ℕ) (os : List Order) → length os ≤ place_of n os → order_of n os ≡ None
order_of_none n [] le = refl
order_of_none n (o ∷ os) le = none_step n o os (eqb o.number n) (order_of_none n os) le

reduced_step : (n k : ℕ) (o : Order) (os : List Order) (b : Bool) (d : Order) → reduced n k os ≡ set os (place_of n os) (less (get_or os (place_of n os) d) k) → cond b (less o k ∷ os) (o ∷ reduced n k os) ≡ set (o ∷ os) (cond (not b) (1 + place_of n os) 0) (less (get_or (o ∷ os) (cond (not b) (1 + place_of n os) 0) d) k)
reduced_step n k o os true d h = refl
reduced_step n k o os false d h = rw one-add (ap (λ (l : List Order). o ∷ l) h)

pub reduced_is : (n k : ℕ) (os : List Order) (d : Order) → reduced n k os ≡ set os (place_of n os) (less (get_or os (place_of n os) d) k)
reduced_is n k [] d = refl
reduced_is n k (o ∷ os) d = reduced_step n k o os (eqb o.number n) d (reduced_is n k os d)

pub reduced_at : (n k : ℕ) (os : List Order) (at : ℕ) → position (numbered n) os ≡ Some at → reduced n k os ≡ set os at (less (get_or os at no_order) k)
reduced_at n k os at e = reduced_is n k os no_order ∙ ap (λ i. set os i (less (get_or os i no_order) k)) (cond_some (ltb (place_of n os) (length os)) (place_of n os) at e).1

reduced_length_step : (n k : ℕ) (o : Order) (os : List Order) (b : Bool) → length (reduced n k os) ≡ length os → length (cond b (less o k ∷ os) (o ∷ reduced n k os)) ≡ suc (length os)
reduced_length_step n k o os true h = refl
reduced_length_step n k o os false h = omega arith

pub reduced_length : (n k : ℕ) (os : List Order) → length (reduced n k os) ≡ length os
reduced_length n k [] = refl
reduced_length n k (o ∷ os) = reduced_length_step n k o os (eqb o.number n) (reduced_length n k os)

-- No order has a number that is not found.
cond_none : (b : Bool) (i : ℕ) → ◌≡◌ {A = Option ℕ} (cond b (Some i) None) None → b ≡ false
cond_none true i e = cc
cond_none false i e = refl

past : (n : ℕ) (os : List Order) → position (numbered n) os ≡ None → length os ≤ place_of n os
past n os e = ltb-false (place_of n os) (length os) (cond_none (ltb (place_of n os) (length os)) (place_of n os) e)

without_none_step : (n : ℕ) (o : Order) (os : List Order) (b : Bool) → suc (length os) ≤ cond (not b) (1 + place_of n os) 0 → (length os ≤ place_of n os → without n os ≡ os) → cond b os (o ∷ without n os) ≡ o ∷ os
without_none_step n o os true le h = absurd (omega arith)
without_none_step n o os false le h = ap (λ (l : List Order). o ∷ l) (h (omega arith))

without_past : (n : ℕ) (os : List Order) → length os ≤ place_of n os → without n os ≡ os
without_past n [] le = refl
without_past n (o ∷ os) le = without_none_step n o os (eqb o.number n) le (without_past n os)

pub without_none : (n : ℕ) (os : List Order) → position (numbered n) os ≡ None → without n os ≡ os
without_none n os e = without_past n os (past n os e)

no_lots : (n : ℕ) (os : List Order) → length os ≤ place_of n os → open_lots (order_of n os) ≡ 0
no_lots n os le = ap open_lots (order_of_none n os le)

pub some_lots : (n k : ℕ) (os : List Order) → k < open_lots (order_of n os) → position (numbered n) os ≡ None → ⊥
some_lots n k os lt e = omega (arith, no_lots n os (past n os e))

lots_are : (n : ℕ) (os : List Order) → place_of n os < length os → open_lots (order_of n os) ≡ (get_or os (place_of n os) no_order).lots
lots_are n os lt = ap open_lots (order_of_is n os no_order lt)

-- The place of a number is one of the orders', and its order has the open lots.
pub lots_at : (n : ℕ) (os : List Order) (at : ℕ) → position (numbered n) os ≡ Some at → (at < length os) × (open_lots (order_of n os) ≡ (get_or os at no_order).lots)
lots_at n os at e =
    let k = cond_some (ltb (place_of n os) (length os)) (place_of n os) at e in
    let lt : place_of n os < length os = ltb-true (place_of n os) (length os) k.0 in
    (omega (arith, k.1), lots_are n os lt ∙ ap (λ i. (get_or os i no_order).lots) k.1)

-- ---- orders written in place

-- A list written over one of its length is itself.
pub refilled : {X : Type 0} (xs ys : List X) → length ys ≡ length xs → refill (length xs) xs ys ≡ ys
refilled xs ys e =
    let past : drop (length ys) xs ≡ [] = drop_all (length ys) xs (omega arith) in
    let all : take (length xs) ys ≡ ys = take_all (length xs) ys (omega arith) in
    let none = append-nil ys in
    cc

-- At the end of a loop that changes the elements one by one, all are changed.
pub all_changed : {X : Type 0} (f : X → X) (os xs ys : List X) (i : ℕ) → xs ≡ os → length xs ≤ i → ys ≡ map f (take i xs) ++ drop i xs → refill (length os) os ys ≡ map f os
all_changed f os xs ys i e past front =
    let all : take i xs ≡ xs = take_all i xs past in
    let none : drop i xs ≡ [] = drop_all i xs past in
    let end = append-nil (map f xs) in
    let is : ys ≡ map f os = cc in
    refilled os ys (ap length is ∙ length-map os f) ∙ is
