use Rattle.std.proofs.Common.{ℕ, List, ◌++◌, length, vec_items}
use denote.Text.{Utf8}
use denote.Shadow.{shadow}
use Rattle.policy.specs.declared.chosen.Base.{Base}
use Rattle.script.specs.Policies.{Writes}
use Rattle.script.proofs.policies.policy.Given as goal

-- what the rest writes, the word writes under the favours so far
abbrev pub invariant-loop-cap : goal.invariant-loop-cap
invariant-loop-cap l =
    shadow (Utf8 l.rest) × ((fs : List (ℕ × ℕ)) (base : Base) → Writes l.rest fs base → Writes l.word (vec_items l.favours ++ fs) base)

abbrev pub decreases-loop-cap : goal.decreases-loop-cap
decreases-loop-cap l = length l.rest
