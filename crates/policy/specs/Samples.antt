-- Sample queues. Assumes nothing.
use Rattle.std.specs.Prelude.{◌≡◌, ℕ, List, [], ◌∷◌}
use Rattle.policy.specs.PriceTime.{price_time}
use Rattle.policy.specs.ProRata.{pro_rata}
use Rattle.policy.specs.Favour.{favour}

abbrev pub three : ℕ → ℕ → ℕ → List ℕ
three a b c = a ∷ b ∷ c ∷ []

-- A queue of 5, 3, 2: 6 lots by price/time, 4 by pro rata, and 4 by a favour (cap 2, minimum 5) over pro rata.
abbrev pub SampleQueues : Type 0
SampleQueues =
    (price_time (three 5 3 2) 6 ≡ three 5 1 0) ×
    (pro_rata (three 5 3 2) 4 ≡ three 2 2 0) ×
    (favour 2 5 pro_rata (three 5 3 2) 4 ≡ three 3 1 0)
