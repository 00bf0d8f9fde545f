-- What sending a call to a book promises.
use Rattle.std.specs.Prelude.{◌≡◌, ℕ, List, [], ◌∷◌, ◌++◌, Result, ◌≢◌}
use Rattle.policy.specs.Fair.{Rule}
use Rattle.rules.specs.declared.ladder.Ladder.{Ladder}
use Rattle.rules.specs.declared.calls.Phase.{Phase}
use Rattle.rules.specs.declared.calls.Call.{Call}
use Rattle.rules.specs.declared.calls.Answer.{Answer}
use Rattle.rules.specs.declared.calls.Answer.TheVariants.{WrongPhase}
use Rattle.rules.specs.declared.calls.Call.TheVariants.{Cancel, Reduce, TakeLineDown, BringLineUp, NameSuccessor}
use Rattle.rules.specs.declared.refusal.Refusal.{Refusal}
use Rattle.rules.specs.Machine.{Rules, Machine, made}
use Rattle.rules.specs.Steps.{Outcome, outcome, step}
use Rattle.laws.specs.Runs.{run, after}
use Rattle.laws.specs.Laws.{Lawful}
use Rattle.book.specs.declared.phases.Book.{Book}
use Rattle.book.specs.Model.{machine, rules_of, Gives, SamePolicies, said}
use Rattle.replay.specs.declared.any.AnyBook.{AnyBook}
use Rattle.replay.specs.Books.{machine_of, opening_of, session_of, rules_in}

-- What the calls do that both phases offer; any other is answered `WrongPhase`.
abbrev pub step_in_either : Rules → Machine → Call → Outcome
step_in_either R m (Cancel id number) = step R m (Cancel id number)
step_in_either R m (Reduce id number lots) = step R m (Reduce id number lots)
step_in_either R m (TakeLineDown id) = step R m (TakeLineDown id)
step_in_either R m (BringLineUp id) = step R m (BringLineUp id)
step_in_either R m (NameSuccessor id successor) = step R m (NameSuccessor id successor)
step_in_either R m call = outcome WrongPhase m

-- A book of either phase asked one of them answers so, and is left so.
pub record AskedEither {P O S : Type 0} (opening : O → Rule) (session : S → Rule) (phase : Phase) (before : Book P O S) (call : Call) (answer : Result Answer Refusal) (after : Book P O S) : Type 0 where
  pub gives : Gives (step_in_either (rules_of opening session before) (machine phase before.held) call) (said (λ a. a) answer) (machine phase after.held)
  pub policies : SamePolicies before after

-- A book asked a call in its phase answers as the machine's step does, and is left as the step leaves it; but for the
-- one call that moves it on to the other phase, which is not asked.
pub record Asked {P O S : Type 0} (opening : O → Rule) (session : S → Rule) (phase : Phase) (moves : Call) (before : Book P O S) (call : Call) (answer : Result Answer Refusal) (after : Book P O S) : Type 0 where
  pub gives : (call ≢ moves) → Gives (step (rules_of opening session before) (machine phase before.held) call) (said (λ a. a) answer) (machine phase after.held)
  pub policies : SamePolicies before after

-- A call does exactly the machine's step, and leaves the policies as they were.
pub record Stepped {O S : Type 0} (opening : O → Rule) (session : S → Rule) (before : AnyBook O S) (call : Call) (answer : Answer) (sent : AnyBook O S) : Type 0 where
  pub gives : Gives (step (rules_in opening session before) (machine_of before) call) answer (machine_of sent)
  pub same_opening : opening_of sent ≡ opening_of before
  pub same_session : session_of sent ≡ session_of before

-- So a book that some calls led to is one call further on in their run; and where the first of them was sent to a book
-- as made, this call, with its answer and the book it left, keeps the laws of every run.
pub record Sent {O S : Type 0} (opening : O → Rule) (session : S → Rule) (before : AnyBook O S) (call : Call) (answer : Answer) (sent : AnyBook O S) : Type 0 where
  pub stepped : Stepped opening session before call answer sent
  pub same_rules : rules_in opening session sent ≡ rules_in opening session before
  pub goes_on : (start : Machine) (cs : List Call) → machine_of before ≡ after (rules_in opening session before) start cs → machine_of sent ≡ after (rules_in opening session before) start (cs ++ call ∷ [])
  pub lawful : (ladder : Ladder) (today last first : ℕ) (cs : List Call) → machine_of before ≡ after (rules_in opening session before) (made ladder today last first) cs → Lawful (run (rules_in opening session before) (made ladder today last first) cs) (record { call = call; answer = answer; before = machine_of before; after = machine_of sent })
