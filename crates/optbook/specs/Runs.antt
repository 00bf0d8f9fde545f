-- What a run does with a command.
use Rattle.std.specs.Prelude.{◌≡◌, List, [], IfOk, Some, None, Ok, vec_items, Option, option_map, Result}
use Rattle.rules.specs.declared.tape.TapeLine.{TapeLine}
use Rattle.std.specs.declared.alloc.AllocError.{AllocError}
use Rattle.rules.specs.declared.calls.Answer as calls
use Rattle.rules.specs.declared.calls.Answer.TheVariants.{WrongPhase}
use Rattle.rules.specs.declared.calls.Call.{Call}
use Rattle.replay.specs.Books.{machine_of}
use Rattle.script.specs.declared.command.Command as command
use Rattle.script.specs.declared.command.Command.TheVariants as asks
use Rattle.optbook.specs.Answers.{Shared}
use Rattle.optbook.specs.Desks.{SentTo, Made as Makes, Paged, desk_tape}
use Rattle.optbook.specs.Ledgers.{blank, noted, open_lots}
use Rattle.optbook.specs.declared.answer.Answer.{Answer}
use Rattle.optbook.specs.declared.answer.Answer.TheVariants.{Made, Shown, Called}
use Rattle.optbook.specs.declared.ledger.Balance.{Balance}
use Rattle.optbook.specs.declared.run.Run.{Run}

-- A call that is sent is noted in the ledger.
pub record Done (before : Run) (call : Call) (answer : calls.Answer) (after : Run) : Type 0 where
  pub sent : SentTo before.desk.book call answer after.desk.book
  pub entry : after.ledger ≡ noted before.ledger call answer (desk_tape after.desk.book answer)

-- The tape that is printed behind an answer.
abbrev pub run_tape : Run → Answer → List TapeLine
run_tape run (Called answer) = desk_tape run.desk.book answer
run_tape run answer = []

-- What is shown is what the book holds.
abbrev pub ShowsOf : Run → Answer → Type 0
ShowsOf run (Shown page) = Paged run.desk.book (Some page)
ShowsOf run (Called answer) = (answer ≡ WrongPhase) × Paged run.desk.book None
ShowsOf run answer = ⊥

abbrev pub Shows : Run → Result Answer AllocError → Type 0
Shows run r = IfOk r (ShowsOf run)

-- A new book has a new ledger.
abbrev pub Obeyed : Run → command.Command → Result Answer AllocError → Run → Type 0
Obeyed before (asks.Share policy lots queue) answer after =
    IfOk answer (Shared policy (vec_items queue) lots) × (after ≡ before)
Obeyed before (asks.Book making) answer after =
    (answer ≡ Ok Made) × Makes making after.desk.book × (after.ledger ≡ blank)
Obeyed before (asks.Call call) answer after =
    (said : calls.Answer) × (answer ≡ Ok (Called said)) × Done before call said after
Obeyed before asks.Show answer after = Shows before answer × (after ≡ before)

-- The balance is of the book at hand.
abbrev pub balance_of : Run → Option Balance
balance_of run = option_map (λ book. record { ledger = run.ledger; «open» = open_lots 0 (machine_of book).orders }) run.desk.book
