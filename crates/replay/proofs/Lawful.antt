-- The laws of every run, at the policies of a book.
use Rattle.std.proofs.Common.{◌≡◌, ℕ, List, sym, ap, ◌∙◌, subst}
use Rattle.policy.specs.Queue.{Queue}
use Rattle.policy.specs.Fair.{Rule, Fair}
use Rattle.rules.specs.declared.ladder.Ladder.{Ladder}
use Rattle.rules.specs.declared.calls.Call.{Call}
use Rattle.rules.specs.declared.calls.Answer.{Answer}
use Rattle.rules.specs.Machine.{Rules, Machine, made}
use Rattle.rules.specs.Steps.{step}
use Rattle.book.specs.Model.{Gives}
use Rattle.laws.specs.Runs.{Event, event, run, after}
use Rattle.laws.specs.Laws.{Lawful, LawfulFrom}
use Rattle.laws.proofs.Every.{laws_of_every_run}
use Rattle.replay.specs.declared.any.AnyBook.{AnyBook}
use Rattle.replay.specs.Books.{opening_of, session_of, rules_in}

-- What every policy of a kind owes.
abbrev pub KeepsMeaning : {P : Type 0} → (P → Rule) → Type 0
KeepsMeaning {P} rule = (p : P) (queue : List ℕ) (v : ℕ) → Queue queue → Fair queue v (rule p queue v)

pub lawful_from : {O S : Type 0} (opening : O → Rule) (session : S → Rule) → KeepsMeaning opening → KeepsMeaning session → (b : AnyBook O S) (ladder : Ladder) (today last first : ℕ) → LawfulFrom (rules_in opening session b) (made ladder today last first)
lawful_from opening session fair-opening fair-session b = laws_of_every_run (rules_in opening session b) (fair-opening (opening_of b)) (fair-session (session_of b))

-- One call, with the answer and the book that it came to.
pub lawful_call : (R : Rules) (start before sent : Machine) (cs : List Call) (c : Call) (a : Answer) → LawfulFrom R start → before ≡ after R start cs → Gives (step R before c) a sent → Lawful (run R start cs) (record { call = c; answer = a; before = before; after = sent })
lawful_call R start before sent cs c a laws came gives =
    let same : ◌≡◌ {A = Event} (record { call = c; answer = a; before = before; after = sent }) (event R before c) = λ k. record { call = c; answer = gives.answers k; before = before; after = gives.leaves k } in
    let at : event R before c ≡ event R (after R start cs) c = ap (λ (m : Machine). event R m c) came in
    subst (Lawful (run R start cs)) (sym (same ∙ at)) (laws cs c)
