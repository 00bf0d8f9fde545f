-- The laws of single lines, of every run: each line is that of an entry of its side, within its limit, and leaves none
-- better.
use Rattle.std.proofs.Common.{◌≡◌, ℕ, List, [], ◌∷◌, ◌++◌, refl, ap, subst}
use Rattle.std.proofs.lemmas.List.{append-nil, append_assoc}
use Rattle.policy.specs.Fair.{Fairly}
use Rattle.rules.specs.declared.ladder.Ladder.{Ladder}
use Rattle.rules.specs.declared.calls.Call.{Call}
use Rattle.rules.specs.Machine.{Rules, Machine, made}
use Rattle.rules.specs.Steps.{step}
use Rattle.laws.specs.Runs.{Event, event, run, after}
use Rattle.laws.proofs.Good.{Good}
use Rattle.laws.proofs.Known.{Known, known_made, Fine}
use Rattle.laws.proofs.Stepwise.{fine}

-- one call more is one event more
pub run_more : (R : Rules) (m : Machine) (cs : List Call) (c : Call) → run R m (cs ++ c ∷ []) ≡ run R m cs ++ event R (after R m cs) c ∷ []
run_more R m [] c = refl
run_more R m (d ∷ cs) c = ap (λ (es : List Event). event R m d ∷ es) (run_more R (step R m d).after cs c)

pub after_more : (R : Rules) (m : Machine) (cs : List Call) (c : Call) → after R m (cs ++ c ∷ []) ≡ (step R (after R m cs) c).after
after_more R m [] c = refl
after_more R m (d ∷ cs) c = after_more R (step R m d).after cs c

module _ (R : Rules) (opening : Fairly R.opening) (session : Fairly R.session) where
  -- what is known stays known, whatever calls are sent
  known_from : (es : List Event) (m : Machine) → Known es m → ((cs : List Call) → Good (after R m cs)) → (cs : List Call) → Known (es ++ run R m cs) (after R m cs)
  known_from es m k good [] = rw (append-nil es) k
  known_from es m k good (c ∷ cs) =
      let e : Event = event R m c in
      let more = known_from (es ++ e ∷ []) (step R m c).after (fine R opening session es m (good []) k c).known (λ ds. good (c ∷ ds)) cs in
      subst (λ (h : List Event). Known h (after R m (c ∷ cs))) (append_assoc es (e ∷ []) (run R (step R m c).after cs)) more

  module _ (ladder : Ladder) (today last first : ℕ) (good : (cs : List Call) → Good (after R (made ladder today last first) cs)) where
    abbrev start : Machine
    start = made ladder today last first

    -- what every book of a run knows
    pub known_after : (cs : List Call) → Known (run R start cs) (after R start cs)
    known_after cs = known_from [] start (known_made ladder today last first) good cs

    -- after any calls any one call more is fine
    pub fine_after : (cs : List Call) (c : Call) → Fine (run R start cs) c (after R start cs) (step R (after R start cs) c)
    fine_after cs c = fine R opening session (run R start cs) (after R start cs) (good cs) (known_after cs) c
