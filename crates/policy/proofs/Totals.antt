-- The rules' totals are std's sums. Assumes nothing.
use Rattle.std.proofs.Common.{◌≡◌, ℕ, List, map, sum, sum_by, refl}
use Rattle.std.proofs.lemmas.List.Recursion.{is_sum_by}
use Rattle.policy.specs.Fair.{total}

pub total_is : (xs : List ℕ) → total xs ≡ sum xs
total_is = is_sum_by total (λ x. x) refl (λ _ _. refl)

pub total_map : (f : ℕ → ℕ) (xs : List ℕ) → total (map f xs) ≡ sum_by f xs
total_map f = is_sum_by (λ xs. total (map f xs)) f refl (λ _ _. refl)
