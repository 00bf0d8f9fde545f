-- A policy that is chosen when the program runs is fair, and is what was chosen. Assumes nothing. Here since an impl names it: a proof of an impl's law stands in specs/.
use Rattle.std.specs.Prelude.{◌≡◌, ℕ, zero, suc, ◌<◌, ◌≤◌, List, [], ◌∷◌, length, slice_index_or, refl}
use Rattle.std.proofs.Common.{ap, ◌∙◌, arith}
use Rattle.policy.specs.Fair.{Rule, Fairly}
use Rattle.policy.specs.Chosen.{base_rule, layered_rule, laid, Chosen, chosen_rule, most_favours, nested}
use Rattle.policy.specs.declared.chosen.Base.{Base}
use Rattle.policy.specs.declared.chosen.Base.TheVariants.{PriceTime, ProRata}
use Rattle.policy.specs.declared.chosen.Layered.{Layered}
use Rattle.policy.specs.declared.chosen.Layered.TheVariants.{Plain, Favoured}
use Rattle.policy.specs.PriceTimes.{price_time_fair}
use Rattle.policy.specs.ProRatas.{pro_rata_fair}
use Rattle.policy.specs.Favours.{favour_fair}

pub base_fair : (p : Base) → Fairly (base_rule p)
base_fair PriceTime q v h = price_time_fair q v
base_fair ProRata q v h = pro_rata_fair q v

pub layered_fair : {P : Type 0} (below : P → Rule) → ((p : P) → Fairly (below p)) → (p : Layered P) → Fairly (layered_rule below p)
layered_fair below fair (Plain p) q v h = fair p q v h
layered_fair below fair (Favoured f) q v h = favour_fair f.«cap» f.minimum (below f.below) (fair f.below) q v h

pub chosen_fair : (p : Chosen) → Fairly (chosen_rule p)
chosen_fair p q v h = layered_fair _ (layered_fair _ (layered_fair _ (layered_fair base_rule base_fair))) p q v h

pub laid_past : {P : Type 0} (p : P) (fs : List (ℕ × ℕ)) (place : ℕ) → length fs ≤ place → Plain p ≡ laid p fs place
laid_past p [] place h = refl
laid_past p (f ∷ fs) zero h = absurd (let never : ⊥ = omega arith in never)
laid_past p (f ∷ fs) (suc place) h = laid_past p fs place (omega arith)

pub laid_at : {P : Type 0} (p : P) (fs : List (ℕ × ℕ)) (place : ℕ) → place < length fs → Favoured (record { «cap» = (slice_index_or fs place (0, 0)).0; minimum = (slice_index_or fs place (0, 0)).1; below = p }) ≡ laid p fs place
laid_at p [] place h = absurd (let never : ⊥ = omega arith in never)
laid_at p (f ∷ fs) zero h = refl
laid_at p (f ∷ fs) (suc place) h = laid_at p fs place (omega arith)

-- four layers, the outermost last
pub laid_nested : (base : Base) (fs : List (ℕ × ℕ)) → length fs ≤ most_favours → chosen_rule (laid (laid (laid (laid base fs 3) fs 2) fs 1) fs 0) ≡ nested fs (base_rule base)
laid_nested base [] h = refl
laid_nested base (a ∷ []) h = refl
laid_nested base (a ∷ b ∷ []) h = refl
laid_nested base (a ∷ b ∷ c ∷ []) h = refl
laid_nested base (a ∷ b ∷ c ∷ d ∷ []) h = refl
laid_nested base (a ∷ b ∷ c ∷ d ∷ e ∷ fs) h = absurd (let never : ⊥ = omega arith in never)

pub chosen_nested : (base : Base) (fs : List (ℕ × ℕ)) (one : Layered Base) (two : Layered (Layered Base)) (three : Layered (Layered (Layered Base))) (four : Chosen) → length fs ≤ most_favours → one ≡ laid base fs 3 → two ≡ laid one fs 2 → three ≡ laid two fs 1 → four ≡ laid three fs 0 → chosen_rule four ≡ nested fs (base_rule base)
chosen_nested base fs one two three four few a b c d =
    let is : four ≡ laid (laid (laid (laid base fs 3) fs 2) fs 1) fs 0 = cc in
    ap chosen_rule is ∙ laid_nested base fs few
