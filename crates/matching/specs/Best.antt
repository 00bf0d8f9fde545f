-- The best of a side's prices.
use Rattle.std.specs.Prelude.{ℕ, cond, List, [], ◌∷◌, Some, None, Option, ◌==◌}
use Rattle.rules.specs.declared.order.Side.{Side}
use Rattle.rules.specs.Sides.{better_than}

abbrev pub first_of : List ℕ → Option ℕ
first_of [] = None
first_of (x ∷ xs) = Some x

-- The first, while lots are left.
abbrev pub next_of : ℕ → List ℕ → Option ℕ
next_of left xs = cond (left == 0) None (first_of xs)

-- The better of two prices.
abbrev pub better_of : Side → ℕ → ℕ → ℕ
better_of s y x = cond (better_than s y x) x y
