-- A call that is not taken changes nothing.
use Rattle.std.proofs.Common.{◌≡◌, ℕ, true, false, refl, arith}
use Rattle.rules.specs.declared.calls.Call.{Call}
use Rattle.rules.specs.Machine.{Rules, Machine}
use Rattle.rules.specs.Steps.{Outcome, step}
use Rattle.laws.specs.Lots.{was_taken}
use Rattle.laws.proofs.Ways.{every_way}

abbrev Unchanged : Machine → Call → Outcome → Type 0
Unchanged m c o = was_taken o.answer ≡ false → o.after ≡ m

-- It was taken.
pub never : {A : Type 0} → true ≡ false → A
never e = let z : ◌≡◌ {A = ℕ} 0 1 = cc in absurd (omega arith)

pub unchanged_kept : (R : Rules) (m : Machine) (c : Call) → was_taken (step R m c).answer ≡ false → (step R m c).after ≡ m
unchanged_kept R m = every_way R m (Unchanged m) (record {
  refused = λ c r _. refl;
  wrong_phase = λ c _. refl;
  limit_waits = λ e _ _ _ _ h. never h;
  on_open_waits = λ e _ _ _ h. never h;
  limit_meets = λ e _ _ _ _ _ h. never h;
  market_meets = λ e _ _ _ h. never h;
  cancels = λ id k o _ h. never h;
  reduces = λ id k lots o _ _ _ h. never h;
  goes_down = λ id h. never h;
  comes_up = λ id h. never h;
  names = λ id successor h. never h;
  tries = λ t _ h. never h;
  opens = λ _ h. never h;
  closes = λ _ h. never h;
})
