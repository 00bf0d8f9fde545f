-- What a history says of the open orders, and of numbers not yet given.
use Rattle.std.proofs.Common.{◌≡◌, ℕ, ◌+◌, ◌<◌, ◌≤◌, Bool, true, false, cond, ◌&&◌, eqb, ltb, ◌⊎◌, List, [], ◌∷◌, ◌++◌, Some, None, Option, refl, ap, ◌∙◌, arith}
use Rattle.std.specs.List.{AllByRecursion}
use Rattle.std.proofs.lemmas.Bool.{ltb-true, lt-ltb, eq-eqb, ne_eqb, and_parts}
use Rattle.rules.specs.declared.order.Side.{Side}
use Rattle.rules.specs.declared.order.Kind.{Kind}
use Rattle.rules.specs.declared.order.Kind.TheVariants.{Limit}
use Rattle.rules.specs.declared.order.Order.{Order}
use Rattle.rules.specs.declared.ladder.Ladder.{Ladder}
use Rattle.rules.specs.declared.calls.Phase.{Phase}
use Rattle.rules.specs.declared.calls.Phase.TheVariants.{PreOpen, Open}
use Rattle.rules.specs.declared.calls.Call.{Call}
use Rattle.rules.specs.Orders.{held, on_open, Sound}
use Rattle.rules.specs.Numbers.{numbers, below, above, rising}
use Rattle.rules.specs.Machine.{Machine, made}
use Rattle.rules.specs.Steps.{Outcome}
use Rattle.laws.specs.Runs.{Event, sum}
use Rattle.laws.specs.Lots.{given, given_on, tape_of as written}
use Rattle.laws.specs.Limits.{waits, limit_by, limit_from, limit_after, limit_said, beyond}
use Rattle.laws.specs.Laws.{NoneBetter}
use Rattle.laws.proofs.Ways.{seen}
use Rattle.laws.proofs.Lines.{Everywhere, Lined, all_any}

-- ---- what is known

-- An order's limit is that of its kind, and one entry of its side was given its number.
abbrev pub Of : List Event → ℕ → Side → Kind → Type 0
Of es n s k = (limit_after n es ≡ limit_said k) × (sum (given_on s n) es ≡ 1)

-- No entry was given the number.
abbrev pub Unused : List Event → ℕ → Type 0
Unused es n = (limit_after n es ≡ None) × ((s : Side) → sum (given_on s n) es ≡ 0)

pub record Known (es : List Event) (m : Machine) : Type 0 where
  pub each : Everywhere (Of es) m.orders
  pub unused : (n : ℕ) → m.next ≤ n → Unused es n

-- a book as made
pub known_made : (ladder : Ladder) (today last first : ℕ) → Known [] (made ladder today last first)
known_made ladder today last first = record { each = tt; unused = λ n _. (refl, λ s. refl) }

-- In session a line is the entry's own, or at the limit of a resting order.
abbrev pub Rests : Phase → Event → List Event → ℕ → ℕ → Type 0
Rests PreOpen e es n p = Unit {0}
Rests Open e es n p = (given n e ≡ 1) ⊎ (limit_after n es ≡ Some p)

-- The line of number n, side s and price p keeps the laws where the orders left are as given.
pub record LinedWell (At : ℕ → ℕ → Type 0) (es : List Event) (left : List Order) (n : ℕ) (s : Side) (p : ℕ) : Type 0 where
  pub entered : sum (given_on s n) es ≡ 1
  pub kept : (q : ℕ) → limit_after n es ≡ Some q → beyond s q p ≡ false
  pub first : (q : ℕ) → limit_after n es ≡ Some q → NoneBetter s q left
  pub rests : At n p

-- A line of an order whose limit is x.
pub lined_at : (At : ℕ → ℕ → Type 0) (es : List Event) (left : List Order) (n : ℕ) (s : Side) (x p : ℕ) → Of es n s (Limit x) → beyond s x p ≡ false → NoneBetter s x left → At n p → LinedWell At es left n s p
lined_at At es left n s x p o within none rests = record {
  entered = o.1;
  kept = λ q e. let i : x ≡ q = cc o.0 in rw (← i) within;
  first = λ q e. let i : x ≡ q = cc o.0 in rw (← i) none;
  rests = rests;
}

-- ---- one event more

-- The history with the event of a call.
abbrev pub longer : List Event → Call → Machine → Outcome → List Event
longer es c m o = es ++ seen m c o ∷ []

-- the limit and the sums after it
pub limit_more : (n : ℕ) (old : Option ℕ) (es : List Event) (e : Event) → limit_from n old (es ++ e ∷ []) ≡ limit_by n e e.call (limit_from n old es)
limit_more n old [] e = refl
limit_more n old (x ∷ es) e = limit_more n (limit_by n x x.call old) es e

pub sum_more : (f : Event → ℕ) (es : List Event) (e : Event) → sum f (es ++ e ∷ []) ≡ sum f es + f e
sum_more f [] e = omega arith
sum_more f (x ∷ es) e = omega (arith, sum_more f es e)

-- A call says nothing of a number: neither limit nor entry.
abbrev pub Silent : Call → Machine → Outcome → ℕ → Type 0
Silent c m o n = ((old : Option ℕ) → limit_by n (seen m c o) c old ≡ old) × ((s : Side) → given_on s n (seen m c o) ≡ 0)

module _ (es : List Event) (c : Call) (m : Machine) (o : Outcome) where
  -- what was known of such a number is known still
  pub silent_of : (n : ℕ) (s : Side) (k : Kind) → Silent c m o n → Of es n s k → Of (longer es c m o) n s k
  silent_of n s k quiet h = (limit_more n None es (seen m c o) ∙ (quiet.0 (limit_after n es) ∙ h.0), omega (arith, sum_more (given_on s n) es (seen m c o), quiet.1 s, h.1))

  pub silent_unused : (n : ℕ) → Silent c m o n → Unused es n → Unused (longer es c m o) n
  silent_unused n quiet h = (limit_more n None es (seen m c o) ∙ (quiet.0 (limit_after n es) ∙ h.0), λ s. omega (arith, sum_more (given_on s n) es (seen m c o), quiet.1 s, h.1 s))

-- What every call keeps: what is known, and the laws of the lines it wrote.
pub record Fine (es : List Event) (c : Call) (m : Machine) (o : Outcome) : Type 0 where
  pub known : Known (longer es c m o) o.after
  pub lines : Lined (LinedWell (Rests m.phase (seen m c o) (longer es c m o)) (longer es c m o) o.after.orders) (written (seen m c o))

-- ---- numbers

-- what holds of each, and what else holds of each
pub all_both : {X : Type 0} (P Q : X → Type 0) (xs : List X) → AllByRecursion P xs → AllByRecursion Q xs → AllByRecursion (λ x. P x × Q x) xs
all_both P Q [] a b = tt
all_both P Q (x ∷ xs) a b = ((a.0, b.0), all_both P Q xs a.1 b.1)

-- orders below a number
pub below_each : (n : ℕ) (os : List Order) (P Q : Order → Type 0) → below n (numbers os) ≡ true → ((o : Order) → o.number < n → P o → Q o) → AllByRecursion P os → AllByRecursion Q os
below_each n [] P Q b h a = tt
below_each n (o ∷ os) P Q b h a =
    let r = and_parts (ltb o.number n) (below n (numbers os)) b in
    (h o (ltb-true o.number n r.0) a.0, below_each n os P Q r.1 h a.1)

-- and above one
above_each : (n : ℕ) (os : List Order) (P Q : Order → Type 0) → above n (numbers os) ≡ true → ((o : Order) → n < o.number → P o → Q o) → AllByRecursion P os → AllByRecursion Q os
above_each n [] P Q b h a = tt
above_each n (o ∷ os) P Q b h a =
    let r = and_parts (ltb n o.number) (above n (numbers os)) b in
    (h o (ltb-true n o.number r.0) a.0, above_each n os P Q r.1 h a.1)

-- a number that none of them has
held_apart : (n : ℕ) (t : Order → Bool) (os : List Order) → AllByRecursion (λ o. n ≡ o.number → ⊥) os → held (λ o. eqb n o.number && t o) os ≡ 0
held_apart n t [] a = refl
held_apart n t (o ∷ os) a = rw (ne_eqb n o.number a.0) (omega (arith, held_apart n t os a.1))

-- where numbers rise each order is the only one of its number
held_own : (t : Order → Bool) (os : List Order) → rising (numbers os) ≡ true → AllByRecursion (λ o. held (λ z. eqb o.number z.number && t z) os ≡ cond (t o) o.lots 0) os
held_own t [] r = tt
held_own t (o ∷ os) r =
    let p = and_parts (above o.number (numbers os)) (rising (numbers os)) r in
    let apart : AllByRecursion (λ z. o.number ≡ z.number → ⊥) os = above_each o.number os (λ z. Unit {0}) (λ z. o.number ≡ z.number → ⊥) p.0 (λ z l _ e. omega arith) (all_any os) in (
      (rw (eq-eqb o.number o.number refl) (omega (arith, held_apart o.number t os apart))),
      above_each o.number os (λ z. held (λ y. eqb z.number y.number && t y) os ≡ cond (t z) z.lots 0) (λ z. held (λ y. eqb z.number y.number && t y) (o ∷ os) ≡ cond (t z) z.lots 0) p.0
          (λ z l h. rw (ne_eqb z.number o.number (λ e. let never : ⊥ = omega arith in never)) (omega arith)) (held_own t os p.1),
    )

lots_test : (b : Bool) (n : ℕ) → 1 ≤ n → ltb 0 (cond b n 0) ≡ b
lots_test true n h = lt-ltb 0 n h
lots_test false n h = refl

-- an open order waits where it is On-Open
pub waits_is : (os : List Order) → rising (numbers os) ≡ true → Sound os → AllByRecursion (λ o. waits o.number os ≡ on_open o) os
waits_is os r sound = go os (held_own on_open os r) sound
  where
    go : (xs : List Order) → AllByRecursion (λ o. held (λ z. eqb o.number z.number && on_open z) os ≡ cond (on_open o) o.lots 0) xs → Sound xs → AllByRecursion (λ o. waits o.number os ≡ on_open o) xs
    go [] a b = tt
    go (x ∷ xs) a b = (ap (ltb 0) a.0 ∙ lots_test (on_open x) x.lots b.0.0, go xs a.1 b.1)

-- a number not yet given waits for nothing
pub waits_not : (n next : ℕ) (os : List Order) → below next (numbers os) ≡ true → next ≤ n → waits n os ≡ false
waits_not n next os b le = ap (ltb 0) (held_apart n on_open os (below_each next os (λ z. Unit {0}) (λ z. n ≡ z.number → ⊥) b (λ z l _ e. let never : ⊥ = omega arith in never) (all_any os)))
