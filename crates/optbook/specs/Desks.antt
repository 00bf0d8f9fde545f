-- What the book at hand answers, and what is shown of it.
use Rattle.std.specs.Prelude.{◌≡◌, List, [], Some, None, vec_items, Option, ◌≢◌}
use Rattle.policy.specs.Chosen.{Chosen, chosen_rule}
use Rattle.rules.specs.declared.calls.Answer.{Answer}
use Rattle.rules.specs.declared.calls.Answer.TheVariants.{Entered, Opened, WrongPhase}
use Rattle.rules.specs.declared.calls.Call.{Call}
use Rattle.rules.specs.declared.calls.Call.TheVariants.{CloseBook}
use Rattle.rules.specs.declared.tape.TapeLine.{TapeLine}
use Rattle.rules.specs.Machine as machine
use Rattle.rules.specs.Machine.{Machine}
use Rattle.replay.specs.Books.{machine_of, opening_of, session_of}
use Rattle.replay.specs.Sends.{Sent}
use Rattle.replay.specs.declared.any.AnyBook.{AnyBook}
use Rattle.replay.specs.declared.any.AnyBook.TheVariants.{Trading}
use Rattle.script.specs.declared.command.Making.{Making}
use Rattle.optbook.specs.declared.page.Page.{Page}

abbrev pub AtHand : Type 0
AtHand = Option (AnyBook Chosen Chosen)

-- A call does what the book at hand does with it; but a close is kept from the book, which stays as it is.
pub record Asked (before : AnyBook Chosen Chosen) (call : Call) (answer : Answer) (after : AnyBook Chosen Chosen) : Type 0 where
  pub sent : (call ≢ CloseBook) → Sent chosen_rule chosen_rule before call answer after
  pub unclosed : call ≡ CloseBook → (answer ≡ WrongPhase) × (after ≡ before)

-- Where there is no book, no call is offered.
abbrev pub SentTo : AtHand → Call → Answer → AtHand → Type 0
SentTo None call answer after = (answer ≡ WrongPhase) × (after ≡ None)
SentTo (Some before) call answer None = ⊥
SentTo (Some before) call answer (Some after) = Asked before call answer after

-- The book is made of what the line says.
abbrev pub Made : Making → AtHand → Type 0
Made m None = ⊥
Made m (Some book) =
    (machine_of book ≡ machine.made m.ladder m.today m.last m.first) × (opening_of book ≡ m.opening) × (session_of book ≡ m.session)

-- The tape that a call wrote, by its answer: an opening and each entry in session write one.
abbrev pub tape_by : Answer → List TapeLine → List TapeLine
tape_by (Entered e) tape = tape
tape_by (Opened o) tape = tape
tape_by answer tape = []

abbrev pub desk_tape : AtHand → Answer → List TapeLine
desk_tape (Some (Trading book)) answer = tape_by answer (machine_of (Trading book)).tape
desk_tape book answer = []

-- The page is what the machine holds.
pub record Holds (m : Machine) (page : Page) : Type 0 where
  pub phase : page.phase ≡ m.phase
  pub hours : page.hours ≡ m.hours
  pub today : page.today ≡ m.today
  pub orders : vec_items page.orders ≡ m.orders

abbrev pub Paged : AtHand → Option Page → Type 0
Paged None None = Unit {0}
Paged None (Some page) = ⊥
Paged (Some book) None = ⊥
Paged (Some book) (Some page) = Holds (machine_of book) page
