-- The words of a lifetime and of a condition. Assumes nothing.
use Rattle.std.specs.Prelude.{◌≡◌, ℕ, List, ◌++◌, Some, None, Ok, codes}
use Rattle.rules.specs.declared.calls.Condition.{Condition}
use Rattle.rules.specs.declared.calls.Condition.TheVariants.{Unconditional, Ic, Cv, Mv}
use Rattle.rules.specs.declared.calls.TimeInForce.{TimeInForce}
use Rattle.rules.specs.declared.calls.TimeInForce.TheVariants.{Plain, Gis, Gtc}
use Rattle.script.specs.Numbers.{number_read}

-- The word is the prefix, and then digits that write the number.
abbrev pub Tagged : List ℕ → List ℕ → ℕ → Type 0
Tagged prefix word n = (digits : List ℕ) × (word ≡ prefix ++ digits) × (number_read digits ≡ Ok n)

abbrev pub WritesLifetime : List ℕ → TimeInForce → Type 0
WritesLifetime word Plain = word ≡ codes "plain"
WritesLifetime word Gis = word ≡ codes "gis"
WritesLifetime word (Gtc None) = word ≡ codes "gtc"
WritesLifetime word (Gtc (Some day)) = Tagged (codes "gtc:") word day

abbrev pub WritesCondition : List ℕ → Condition → Type 0
WritesCondition word Unconditional = ⊥
WritesCondition word Ic = word ≡ codes "ic"
WritesCondition word Cv = word ≡ codes "cv"
WritesCondition word (Mv minimum) = Tagged (codes "mv:") word minimum
