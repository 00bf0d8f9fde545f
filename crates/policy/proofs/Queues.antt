-- What the test of a queue tells. Assumes nothing.
use Rattle.std.proofs.Common.{◌≡◌, ℕ, ◌*◌, ◌≤◌, true, eqb, leb, List, [], ◌∷◌, length, refl, arith}
use Rattle.std.specs.List.{AllByRecursion}
use Rattle.std.proofs.lemmas.Bool.{and_parts, and_from, leb-true, le-leb, eqb-true, eq-eqb}
use Rattle.policy.specs.Queue.{most_places, most_lots, Queue, small_places, is_queue}
use Rattle.policy.specs.Fair.{total}
use Rattle.policy.specs.Asked.{answered}

small_from_test : (q : List ℕ) → small_places q ≡ true → AllByRecursion (λ place. place ≤ most_lots) q
small_from_test [] h = tt
small_from_test (x ∷ xs) h =
    let both = and_parts (leb x most_lots) (small_places xs) h in
    (leb-true x most_lots both.0, small_from_test xs both.1)

test_from_small : (q : List ℕ) → AllByRecursion (λ place. place ≤ most_lots) q → small_places q ≡ true
test_from_small [] h = refl
test_from_small (x ∷ xs) h = and_from _ _ (le-leb x most_lots h.0) (test_from_small xs h.1)

pub answered_length : (q : List ℕ) (n : ℕ) → answered q n ≡ true → n ≡ length q
answered_length q n h = eqb-true n (length q) (and_parts (eqb n (length q)) (is_queue q) h).0

pub answered_queue : (q : List ℕ) (n : ℕ) → answered q n ≡ true → Queue q
answered_queue q n h =
    let queue = (and_parts (eqb n (length q)) (is_queue q) h).1 in
    let both = and_parts (leb (length q) most_places) (small_places q) queue in
    record { few = leb-true (length q) most_places both.0; small = small_from_test q both.1 }

pub queue_answered : (q : List ℕ) (n : ℕ) → n ≡ length q → Queue q → answered q n ≡ true
queue_answered q n e h =
    and_from _ _ (eq-eqb n (length q) e) (and_from _ _ (le-leb (length q) most_places h.few) (test_from_small q h.small))

small_total : (q : List ℕ) → AllByRecursion (λ place. place ≤ most_lots) q → total q ≤ length q * most_lots
small_total [] h = omega arith
small_total (x ∷ xs) h = omega (arith, h.0, small_total xs h.1)

-- a queue's lots are few enough for every sum of the code
pub answered_total : (q : List ℕ) (n : ℕ) → answered q n ≡ true → total q ≤ most_places * most_lots
answered_total q n h =
    let queue = answered_queue q n h in
    omega (arith, queue.few, small_total q queue.small)
