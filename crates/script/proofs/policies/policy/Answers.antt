use Rattle.std.proofs.Common.{◌≡◌, ℕ, List, [], ◌++◌, Option, Some, None, IfOk, ok_or, append-nil}
use Rattle.policy.specs.Chosen.{Chosen, ChosenBy}
use Rattle.policy.specs.declared.chosen.Base.{Base}
use Rattle.script.specs.Policies.{base_name, NamesPolicy, Writes}
use Rattle.script.proofs.policies.policy.Goals as goal

-- the policy chosen, if there is one, is the one that the word writes
named : {E : Type 0} (word rest : List ℕ) (sofar : List (ℕ × ℕ)) (base : Base) (chosen : Option Chosen) (e : E) → ((fs : List (ℕ × ℕ)) (b : Base) → Writes rest fs b → Writes word (sofar ++ fs) b) → rest ≡ base_name base → ChosenBy base sofar chosen → IfOk (ok_or chosen e) (NamesPolicy word)
named word rest sofar base None e under is by = tt
named word rest sofar base (Some p) e under is by =
    record { favours = sofar; base = base; written = rw append-nil at (under [] base is); rule = by.1 }

pub returns : goal.returns
returns c =
    let by = rw c.deref.ensures.value at c.choose.ensures in
    rw c.ok_or.ensures.value
    (named c.args.word.now c.loop-cap.rest.now _ c.in_ok-read_name.field-0 c.choose.result _ c.loop-cap.invariant.1 c.in_ok-read_name.ensures by)
