-- The machine that a book stands for, and what a call promises.
use Rattle.std.specs.Prelude.{ℕ, ◌≡◌, Some, None, Ok, Err, Option, Result}
use Rattle.policy.specs.Fair.{Rule}
use Rattle.rules.specs.declared.order.Side.{Side}
use Rattle.rules.specs.declared.incoming.Incoming.{Incoming}
use Rattle.rules.specs.declared.calls.Phase.{Phase}
use Rattle.rules.specs.declared.calls.Phase.TheVariants.{PreOpen as pre_open, Open as in_session}
use Rattle.rules.specs.declared.calls.TimeInForce.{TimeInForce}
use Rattle.rules.specs.declared.calls.Condition.{Condition}
use Rattle.rules.specs.declared.calls.Call.{Call}
use Rattle.rules.specs.declared.calls.Answer.{Answer}
use Rattle.rules.specs.declared.calls.Answer.TheVariants.{Refused}
use Rattle.rules.specs.declared.refusal.Refusal.{Refusal}
use Rattle.rules.specs.Machine.{Rules, Machine}
use Rattle.rules.specs.Steps.{Outcome, lifetime_in, step as step_of}
use Rattle.table.specs.Tables.{open_orders, tape_lines, line_list}
use Rattle.book.specs.declared.held.Held.{Held}
use Rattle.book.specs.declared.phases.Book.{Book}
use Rattle.book.specs.declared.stage.Waiting.{Waiting}
use Rattle.book.specs.declared.stage.Trading.{Trading}

-- ---- the machine

abbrev pub machine : Phase → Held → Machine
machine phase h = record {
  ladder = h.ladder;
  today = h.today;
  last_trading_day = h.last;
  next = h.next;
  tape = tape_lines h.floor.tape;
  phase = phase;
  hours = h.hours;
  lines = line_list h.lines;
  orders = open_orders h.floor.table;
}

-- The rules of the two policies that a book was made of.
abbrev pub rules_of : {P O S : Type 0} → (O → Rule) → (S → Rule) → Book P O S → Rules
rules_of opening session b = record { opening = opening b.opening; session = session b.session }

-- A book before its opening, and one in session.
abbrev pub waiting : {O S : Type 0} → Book Waiting O S → Machine
waiting b = machine pre_open b.held

abbrev pub trading : {O S : Type 0} → Book Trading O S → Machine
trading b = machine in_session b.held

-- An entry in session, numbered: with a limit or, as a market order, without.
abbrev pub incoming : Machine → ℕ → Side → Option ℕ → ℕ → TimeInForce → Condition → Incoming
incoming m id side limit lots t condition = record { number = m.next; id = id; side = side; limit = limit; lots = lots; lifetime = lifetime_in m t; condition = condition }

-- ---- answers

-- What a call answers and leaves is what the machine's step answers and leaves.
pub record Gives (o : Outcome) (answer : Answer) (after : Machine) : Type 0 where
  pub answers : answer ≡ o.answer
  pub leaves : after ≡ o.after

-- A result is the answer in its Ok, or the refusal.
abbrev pub said : {A : Type 0} → (A → Answer) → Result A Refusal → Answer
said f (Ok a) = f a
said f (Err r) = Refused r

-- What the checks of a call come to: a refusal, or what they found.
abbrev pub verdict_on : {A : Type 0} → Option Refusal → A → Result A Refusal
verdict_on None found = Ok found
verdict_on (Some r) found = Err r

abbrev pub verdict : Option Refusal → Result (Unit {0}) Refusal
verdict failed = verdict_on failed tt

-- ---- calls

-- A call leaves both policies as they were.
pub record SamePolicies {P Q O S : Type 0} (before : Book P O S) (after : Book Q O S) : Type 0 where
  pub opening : after.opening ≡ before.opening
  pub session : after.session ≡ before.session

-- What a call promises of a book that is in one phase before it and in the next after it. By the rule book, with the
-- rules of the book's two policies, a call has one answer, which may be a refusal, and leaves one ladder, today, last
-- trading day, next entry number, tape, phase, hours, lines and list of open orders. The call answers exactly that, and
-- all that the book holds after it is exactly what is left; and the book still has the two policies that it had.
pub record Moves {P Q O S : Type 0} (opening : O → Rule) (session : S → Rule) (phase next : Phase) (before : Book P O S) (after : Book Q O S) (call : Call) (answer : Answer) : Type 0 where
  pub step : Gives (step_of (rules_of opening session before) (machine phase before.held) call) answer (machine next after.held)
  pub policies : SamePolicies before after

-- The same of a call that keeps the book in its phase: every call but an opening and a close.
abbrev pub Calls : {P O S : Type 0} → (O → Rule) → (S → Rule) → Phase → Book P O S → Book P O S → Call → Answer → Type 0
Calls opening session phase before after call answer = Moves opening session phase phase before after call answer
