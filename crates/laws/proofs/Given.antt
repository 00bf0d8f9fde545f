-- No number is given to two entries.
use Rattle.std.proofs.Common.{ℕ, ◌+◌, ◌≤◌, cond, eqb, ltb, List, [], ◌∷◌, arith}
use Rattle.std.proofs.lemmas.Bool.Decides.{nat_tests}
use Rattle.rules.specs.declared.calls.Call.{Call}
use Rattle.rules.specs.Machine.{Rules, Machine}
use Rattle.rules.specs.Steps.{step}
use Rattle.laws.specs.Runs.{run, after, sum}
use Rattle.laws.specs.Lots.{given}
use Rattle.laws.proofs.Ways.{seen, every_way}

-- 1 for a number that was given, or passed over, before the next is k.
abbrev past : ℕ → ℕ → ℕ
past n k = cond (ltb n k) 1 0

-- An entry takes the number k; each counts once.
past_entry : (n k : ℕ) → past n k + cond (eqb n k) 1 0 ≤ past n (k + 1)
past_entry n k = grind (arith, nat_tests)

past_one : (n k : ℕ) → past n k ≤ 1
past_one n k = grind (arith, nat_tests)

-- A call gives the next number or none.
gives : (R : Rules) (n : ℕ) (m : Machine) (c : Call) → past n m.next + given n (seen m c (step R m c)) ≤ past n (step R m c).after.next
gives R n m = every_way R m (λ c o. past n m.next + given n (seen m c o) ≤ past n o.after.next) (record {
  refused = λ c r. omega arith;
  wrong_phase = λ c. omega arith;
  limit_waits = λ e _ _ _ _. past_entry n m.next;
  on_open_waits = λ e _ _ _. past_entry n m.next;
  limit_meets = λ e _ _ _ _ _. past_entry n m.next;
  market_meets = λ e _ _ _. past_entry n m.next;
  cancels = λ id k o _. omega arith;
  reduces = λ id k lots o _ _ _. omega arith;
  goes_down = λ id. omega arith;
  comes_up = λ id. omega arith;
  names = λ id successor. omega arith;
  tries = λ t _. omega arith;
  opens = λ _. omega arith;
  closes = λ _. omega arith;
})

-- So over any calls each number is given at most once, and none that was past.
given_from : (R : Rules) (n : ℕ) (m : Machine) (cs : List Call) → past n m.next + sum (given n) (run R m cs) ≤ past n (after R m cs).next
given_from R n m [] = omega arith
given_from R n m (c ∷ cs) = omega (arith, gives R n m c, given_from R n (step R m c).after cs)

pub given_once_kept : (R : Rules) (start : Machine) (cs : List Call) (n : ℕ) → sum (given n) (run R start cs) ≤ 1
given_once_kept R start cs n = omega (arith, given_from R n start cs, past_one n (after R start cs).next)
