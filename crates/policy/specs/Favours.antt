-- A favour over a fair rule is fair. Assumes nothing. Here since an impl names it: a proof of an impl's law stands in specs/.
use Rattle.std.specs.Prelude.{◌≡◌, ℕ, ◌+◌, ◌-◌, ◌≤◌, min, List, [], ◌∷◌, nat_le, slice_index}
use Rattle.std.proofs.Common.{arith}
use Rattle.std.proofs.lemmas.Bool.{cond_both}
use Rattle.policy.specs.Queue.{most_lots, Queue}
use Rattle.policy.specs.Fair.{total, Within, Fair, Rule, Fairly}
use Rattle.policy.specs.Favour.{capped, favoured, less, more, favour}

pub favoured_le_lots : (limit minimum : ℕ) (q : List ℕ) (v : ℕ) → favoured limit minimum q v ≤ v
favoured_le_lots limit minimum [] v = omega arith
favoured_le_lots limit minimum (x ∷ xs) v = cond_both (nat_le (capped minimum) x) (min v (min (capped limit) x)) 0 (λ n. n ≤ v) (λ _. omega arith) (λ _. omega arith)

pub favoured_le_first : (limit minimum : ℕ) (q : List ℕ) (v : ℕ) → favoured limit minimum q v ≤ slice_index q 0
favoured_le_first limit minimum [] v = omega arith
favoured_le_first limit minimum (x ∷ xs) v = cond_both (nat_le (capped minimum) x) (min v (min (capped limit) x)) 0 (λ n. n ≤ x) (λ _. omega arith) (λ _. omega arith)

-- what the places still hold is a queue too
pub less_queue : (q : List ℕ) (g : ℕ) → Queue q → Queue (less q g)
less_queue [] g h = h
less_queue (x ∷ xs) g h = record { few = h.few; small = (omega (arith, h.small.0), h.small.1) }

pub more_within : (q s : List ℕ) (g : ℕ) → g ≤ slice_index q 0 → Within (less q g) s → Within q (more s g)
more_within [] [] g h w = tt
more_within [] (y ∷ ys) g h w = w
more_within (x ∷ xs) [] g h w = w
more_within (x ∷ xs) (y ∷ ys) g h w = (omega (arith, w.0), w.1)

more_adds : (q s : List ℕ) (v g : ℕ) → g ≤ v → g ≤ slice_index q 0 → Within (less q g) s → total s ≡ min (v - g) (total (less q g)) → total (more s g) ≡ min v (total q)
more_adds [] [] v g l h w e = omega arith
more_adds [] (y ∷ ys) v g l h w e = absurd w
more_adds (x ∷ xs) [] v g l h w e = absurd w
more_adds (x ∷ xs) (y ∷ ys) v g l h w e = omega arith

pub favour_fair : (limit minimum : ℕ) (below : Rule) → Fairly below → Fairly (favour limit minimum below)
favour_fair limit minimum below fair q v h =
    let g = favoured limit minimum q v in
    let lots = favoured_le_lots limit minimum q v in
    let first = favoured_le_first limit minimum q v in
    let f = fair (less q g) (v - g) (less_queue q g h) in
    record { within = more_within q _ g first f.within; adds = more_adds q _ v g lots first f.within f.adds }

-- the first share and the favour are no more than the place
pub first_fits : (q s : List ℕ) (v g : ℕ) → Queue q → g ≤ slice_index q 0 → Fair (less q g) v s → slice_index s 0 + g ≤ most_lots
first_fits [] [] v g h le f = omega arith
first_fits [] (y ∷ ys) v g h le f = absurd f.within
first_fits (x ∷ xs) [] v g h le f = absurd f.within
first_fits (x ∷ xs) (y ∷ ys) v g h le f = omega (arith, f.within.0, h.small.0)
