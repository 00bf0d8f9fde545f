-- How the lines of a script are counted. Assumes nothing.
use Rattle.std.specs.Prelude.{ℕ, ◌+◌, ◌<◌, List, ◌++◌, codes, decimal}
use Rattle.optbook.specs.declared.tally.Outcome.{Outcome}
use Rattle.optbook.specs.declared.tally.Outcome.TheVariants.{Passed, Taken, Refused, NotUnderstood}
use Rattle.optbook.specs.declared.tally.Tally.{Tally}

-- A call is sent where its line is understood, and is then taken or refused.
abbrev pub counted : Tally → Outcome → Tally
counted t Passed = t
counted t Taken =
    record { calls = t.calls + 1; taken = t.taken + 1; refused = t.refused; not_understood = t.not_understood }
counted t Refused =
    record { calls = t.calls + 1; taken = t.taken; refused = t.refused + 1; not_understood = t.not_understood }
counted t NotUnderstood =
    record { calls = t.calls; taken = t.taken; refused = t.refused; not_understood = t.not_understood + 1 }

-- Each count is below n.
pub record Few (t : Tally) (n : ℕ) : Type 0 where
  pub calls : t.calls < n
  pub taken : t.taken < n
  pub refused : t.refused < n
  pub unread : t.not_understood < n

-- The last line of a run.
abbrev pub summary : Tally → List ℕ
summary t =
    codes "summary calls " ++ (decimal t.calls ++ (codes " taken " ++ (decimal t.taken ++ (codes " refused " ++ (decimal t.refused ++ (codes " not-understood " ++ decimal t.not_understood))))))
