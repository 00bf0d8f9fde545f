-- A phase takes only the calls that it offers, and an opening and a close move the book on.
use Rattle.std.proofs.Common.{◌≡◌, true, not, sym, refl, ap, subst}
use Rattle.rules.specs.declared.calls.Phase.{Phase}
use Rattle.rules.specs.declared.calls.Phase.TheVariants.{Open}
use Rattle.rules.specs.declared.calls.Call.{Call}
use Rattle.rules.specs.declared.calls.Call.TheVariants.{CloseBook}
use Rattle.rules.specs.Machine.{Rules, Machine}
use Rattle.rules.specs.Steps.{Outcome, only_in, close_book, step}
use Rattle.laws.specs.Lots.{was_taken, is_open, offers, next_phase}
use Rattle.laws.proofs.Ways.{every_way}
use Rattle.laws.proofs.Unchanged.{never}

pub record InPhase (m : Machine) (c : Call) (o : Outcome) : Type 0 where
  pub offered : was_taken o.answer ≡ true → offers m.phase c ≡ true
  pub moves : was_taken o.answer ≡ true → o.after.phase ≡ next_phase m.phase c

pub in_phase : (R : Rules) (m : Machine) (c : Call) → InPhase m c (step R m c)
in_phase R m = every_way R m (InPhase m) (record {
  refused = λ c r. record { offered = λ h. never (sym h); moves = λ h. never (sym h) };
  wrong_phase = λ c. record { offered = λ h. never (sym h); moves = λ h. never (sym h) };
  limit_waits = λ e _ _ _ _. record { offered = λ _. refl; moves = λ _. refl };
  on_open_waits = λ e shut _ _. record { offered = λ _. ap (λ p. not (is_open p)) shut; moves = λ _. refl };
  limit_meets = λ e _ _ _ _ _. record { offered = λ _. refl; moves = λ _. refl };
  market_meets = λ e trading _ _. record { offered = λ _. ap is_open trading; moves = λ _. refl };
  cancels = λ id k o _. record { offered = λ _. refl; moves = λ _. refl };
  reduces = λ id k lots o _ _ _. record { offered = λ _. refl; moves = λ _. refl };
  goes_down = λ id. record { offered = λ _. refl; moves = λ _. refl };
  comes_up = λ id. record { offered = λ _. refl; moves = λ _. refl };
  names = λ id successor. record { offered = λ _. refl; moves = λ _. refl };
  tries = λ t shut. record { offered = λ _. ap (λ p. not (is_open p)) shut; moves = λ _. refl };
  opens = λ shut. record { offered = λ _. ap (λ p. not (is_open p)) shut; moves = λ _. refl };
  closes = λ trading. record { offered = λ _. ap is_open trading; moves = λ _. refl };
})

-- A close is never refused.
pub close_taken : (R : Rules) (m : Machine) (c : Call) → c ≡ CloseBook → m.phase ≡ Open → was_taken (step R m c).answer ≡ true
close_taken R m c called trading = subst (λ (d : Call). was_taken (step R m d).answer ≡ true) (sym called) (subst (λ (phase : Phase). was_taken (only_in Open m (close_book m) phase).answer ≡ true) (sym trading) refl)
