-- The words that name a policy. Assumes nothing.
use Rattle.std.specs.Prelude.{◌≡◌, ℕ, List, [], ◌∷◌, ◌++◌, Ok, codes}
use Rattle.policy.specs.Chosen.{Chosen, chosen_rule, nested, base_rule}
use Rattle.policy.specs.declared.chosen.Base.{Base}
use Rattle.policy.specs.declared.chosen.Base.TheVariants.{PriceTime, ProRata}
use Rattle.script.specs.Numbers.{number_read}

abbrev pub base_name : Base → List ℕ
base_name PriceTime = codes "price-time"
base_name ProRata = codes "pro-rata"

-- favour:CAP:MIN:POLICY
abbrev pub favour_word : List ℕ → List ℕ → List ℕ → List ℕ
favour_word limit minimum below = codes "favour:" ++ (limit ++ (58 ∷ (minimum ++ (58 ∷ below))))

-- The word writes the favours, each a cap and a minimum, the outermost first, over the base.
abbrev pub Writes : List ℕ → List (ℕ × ℕ) → Base → Type 0
Writes word [] base = word ≡ base_name base
Writes word (f ∷ fs) base =
    (limit : List ℕ) × (minimum : List ℕ) × (below : List ℕ) × (word ≡ favour_word limit minimum below) × (number_read limit ≡ Ok f.0) × (number_read minimum ≡ Ok f.1) × Writes below fs base

-- The policy's rule is the one that the word writes.
pub record NamesPolicy (word : List ℕ) (policy : Chosen) : Type 0 where
  pub favours : List (ℕ × ℕ)
  pub base : Base
  pub written : Writes word favours base
  pub rule : chosen_rule policy ≡ nested favours (base_rule base)
