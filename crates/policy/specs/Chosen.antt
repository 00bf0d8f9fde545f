-- The rule of a policy that is chosen when the program runs. Assumes nothing.
use Rattle.std.specs.Prelude.{◌≡◌, ℕ, ◌<◌, ◌≤◌, List, [], ◌∷◌, length, Some, None, Option}
use Rattle.std.specs.List.{slice_get}
use Rattle.policy.specs.Fair.{Rule}
use Rattle.policy.specs.PriceTime.{price_time}
use Rattle.policy.specs.ProRata.{pro_rata}
use Rattle.policy.specs.Favour.{favour}
use Rattle.policy.specs.declared.chosen.Base.{Base}
use Rattle.policy.specs.declared.chosen.Base.TheVariants.{PriceTime, ProRata}
use Rattle.policy.specs.declared.chosen.Layered.{Layered}
use Rattle.policy.specs.declared.chosen.Layered.TheVariants.{Plain, Favoured}

abbrev pub base_rule : Base → Rule
base_rule PriceTime = price_time
base_rule ProRata = pro_rata

abbrev pub layered_rule : {P : Type 0} → (P → Rule) → Layered P → Rule
layered_rule below (Plain p) = below p
layered_rule below (Favoured f) = favour f.«cap» f.minimum (below f.below)

-- The favour, if there is one, over the policy below.
abbrev pub over : {P : Type 0} → P → Option (ℕ × ℕ) → Layered P
over p None = Plain p
over p (Some f) = Favoured (record { «cap» = f.0; minimum = f.1; below = p })

-- The favour at the place, if there is one, over the policy below.
abbrev pub laid : {P : Type 0} → P → List (ℕ × ℕ) → ℕ → Layered P
laid p fs place = over p (slice_get fs place)

abbrev pub Chosen : Type 0
Chosen = Layered (Layered (Layered (Layered Base)))

abbrev pub chosen_rule : Chosen → Rule
chosen_rule = layered_rule (layered_rule (layered_rule (layered_rule base_rule)))

abbrev pub most_favours : ℕ
most_favours = 4

-- Favours, each a cap and a minimum, the outermost first, over a rule.
abbrev pub nested : List (ℕ × ℕ) → Rule → Rule
nested [] below = below
nested (f ∷ fs) below = favour f.0 f.1 (nested fs below)

-- What a choice of a base and favours comes to: none where the favours are too many.
abbrev pub ChosenBy : Base → List (ℕ × ℕ) → Option Chosen → Type 0
ChosenBy base favours None = most_favours < length favours
ChosenBy base favours (Some p) = (length favours ≤ most_favours) × (chosen_rule p ≡ nested favours (base_rule base))
