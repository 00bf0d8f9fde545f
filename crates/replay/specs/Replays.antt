-- What a run of calls promises.
use Rattle.std.specs.Prelude.{◌≡◌, ℕ, min, List, ◌++◌, map, length, take, drop}
use Rattle.policy.specs.Fair.{Rule}
use Rattle.rules.specs.declared.ladder.Ladder.{Ladder}
use Rattle.rules.specs.declared.calls.Call.{Call}
use Rattle.rules.specs.declared.calls.Answer.{Answer}
use Rattle.rules.specs.Machine.{Rules, Machine, made}
use Rattle.laws.specs.Runs.{run, after}
use Rattle.laws.specs.Laws.{LawfulFrom}
use Rattle.replay.specs.declared.any.AnyBook.{AnyBook}
use Rattle.replay.specs.Books.{machine_of, opening_of, session_of, rules_in}

-- The answers are those of the run of the first calls, as many as have a place; what is left is where the run ends.
pub record Ran (R : Rules) (start : Machine) (calls : List Call) (old new : List Answer) (end : Machine) : Type 0 where
  pub answers : new ≡ map (λ e. e.answer) (run R start calls) ++ drop (length calls) old
  pub leaves : end ≡ after R start calls

-- From a book that some calls led to their run goes on; and every run by these rules from a book as made is lawful, so this
-- one too where such a run led to the book.
pub record Replayed {O S : Type 0} (opening : O → Rule) (session : S → Rule) (before : AnyBook O S) (calls : List Call) (old new : List Answer) (replayed : AnyBook O S) : Type 0 where
  pub ran : Ran (rules_in opening session before) (machine_of before) (take (min (length calls) (length old)) calls) old new (machine_of replayed)
  pub same_opening : opening_of replayed ≡ opening_of before
  pub same_session : session_of replayed ≡ session_of before
  pub goes_on : (start : Machine) (cs : List Call) → machine_of before ≡ after (rules_in opening session before) start cs → machine_of replayed ≡ after (rules_in opening session before) start (cs ++ take (min (length calls) (length old)) calls)
  pub laws : (ladder : Ladder) (today last first : ℕ) → LawfulFrom (rules_in opening session before) (made ladder today last first)
