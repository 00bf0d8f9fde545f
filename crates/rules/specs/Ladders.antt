-- The price ladders: a table of rungs, and the prices that a ladder takes.
use Rattle.std.specs.Prelude.{ℕ, ◌%◌, Bool, true, false, cond, ◌&&◌, List, [], ◌∷◌, ◌==◌, fold, nat_le}
use Rattle.rules.specs.declared.ladder.Ladder.{Ladder}
use Rattle.rules.specs.declared.ladder.Ladder.TheVariants.{Securities, Index, Bond}
use Rattle.rules.specs.declared.ladder.Rung.{Rung}
use Rattle.rules.specs.Limits.{lowest_price, highest_price}

abbrev pub same_ladder : Ladder → Ladder → Bool
same_ladder Securities Securities = true
same_ladder Securities Index = false
same_ladder Securities Bond = false
same_ladder Index Securities = false
same_ladder Index Index = true
same_ladder Index Bond = false
same_ladder Bond Securities = false
same_ladder Bond Index = false
same_ladder Bond Bond = true

abbrev pub rung : Ladder → ℕ → ℕ → Rung
rung ladder from step = record { ladder = ladder; from = from; step = step }

-- The rungs of each ladder, from the lowest price up.
abbrev pub rungs : List Rung
rungs =
    rung Securities 1 1 ∷
    rung Securities 2_000 2 ∷
    rung Securities 6_000 10 ∷
    rung Securities 60_000 50 ∷
    rung Securities 100_000 100 ∷
    rung Securities 200_000 1_000 ∷
    rung Securities 2_000_000 10_000 ∷
    rung Index 1 1 ∷
    rung Index 201 5 ∷
    rung Bond 1 1 ∷
    []

-- The step at a price: that of the ladder's last rung at or below it; before the first rung, the step given.
abbrev pub step_among : Ladder → ℕ → ℕ → List Rung → ℕ
step_among ladder x start rs = fold (λ step r. cond (same_ladder ladder r.ladder && nat_le r.from x) r.step step) start rs

abbrev pub step_at : Ladder → ℕ → ℕ
step_at ladder x = step_among ladder x 1 rungs

-- A price of the range that is a multiple of its step.
abbrev pub takes : Ladder → ℕ → Bool
takes ladder x = nat_le lowest_price x && (nat_le x highest_price && x % step_at ladder x == 0)
