-- The machine that a book in whichever phase stands for.
use Rattle.policy.specs.Fair.{Rule}
use Rattle.rules.specs.declared.calls.Phase.{Phase}
use Rattle.rules.specs.declared.calls.Phase.TheVariants.{PreOpen, Open}
use Rattle.rules.specs.Machine.{Rules, Machine}
use Rattle.book.specs.declared.held.Held.{Held}
use Rattle.book.specs.Model.{machine}
use Rattle.replay.specs.declared.any.AnyBook.{AnyBook}
use Rattle.replay.specs.declared.any.AnyBook.TheVariants.{Waiting, Trading}

module _ {O S : Type 0} where
  abbrev pub held_by : AnyBook O S → Held
  held_by (Waiting b) = b.held
  held_by (Trading b) = b.held

  abbrev pub phase_of : AnyBook O S → Phase
  phase_of (Waiting b) = PreOpen
  phase_of (Trading b) = Open

  abbrev pub machine_of : AnyBook O S → Machine
  machine_of b = machine (phase_of b) (held_by b)

  -- The policies it was made of, and their rules.
  abbrev pub opening_of : AnyBook O S → O
  opening_of (Waiting b) = b.opening
  opening_of (Trading b) = b.opening

  abbrev pub session_of : AnyBook O S → S
  session_of (Waiting b) = b.session
  session_of (Trading b) = b.session

  abbrev pub rules_in : (O → Rule) → (S → Rule) → AnyBook O S → Rules
  rules_in opening session b = record { opening = opening (opening_of b); session = session (session_of b) }
