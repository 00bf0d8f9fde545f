-- Price/time is fair. Assumes nothing. Here since an impl names it: a proof of an impl's law stands in specs/.
use Rattle.std.specs.Prelude.{◌≡◌, ℕ, ◌-◌, min, List, [], ◌∷◌}
use Rattle.std.proofs.Common.{arith}
use Rattle.policy.specs.Fair.{total, Within, Fair}
use Rattle.policy.specs.PriceTime.{price_time}

price_time_within : (queue : List ℕ) (v : ℕ) → Within queue (price_time queue v)
price_time_within [] v = tt
price_time_within (x ∷ xs) v = (omega arith, price_time_within xs (v - x))

price_time_adds : (queue : List ℕ) (v : ℕ) → total (price_time queue v) ≡ min v (total queue)
price_time_adds [] v = omega arith
price_time_adds (x ∷ xs) v = omega (arith, price_time_adds xs (v - x))

pub price_time_fair : (queue : List ℕ) (v : ℕ) → Fair queue v (price_time queue v)
price_time_fair queue v = record { within = price_time_within queue v; adds = price_time_adds queue v }
