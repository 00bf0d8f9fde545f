-- The book as a plain machine: what it holds, and how it is made.
use Rattle.std.specs.Prelude.{ℕ, ◌+◌, min, max, List, [], replicate, None}
use Rattle.policy.specs.Fair.{Rule}
use Rattle.rules.specs.declared.order.Order.{Order}
use Rattle.rules.specs.declared.tape.TapeLine.{TapeLine}
use Rattle.rules.specs.declared.line.Line.{Line}
use Rattle.rules.specs.declared.line.Line.TheVariants.{Up}
use Rattle.rules.specs.declared.ladder.Ladder.{Ladder}
use Rattle.rules.specs.declared.calls.Phase.{Phase}
use Rattle.rules.specs.declared.calls.Phase.TheVariants.{PreOpen}
use Rattle.rules.specs.declared.calls.Hours.{Hours}
use Rattle.rules.specs.declared.calls.Hours.TheVariants.{Day}
use Rattle.rules.specs.Limits.{first_day, last_day, most_ids}

-- The rules of the opening policy and of the session policy.
pub record Rules : Type 0 where
  pub opening : Rule
  pub session : Rule

-- What a book holds: its ladder, today and the last trading day, the next entry number, the tape, the phase, whether
-- the session is day or evening, the 64 lines, and the open orders in entry order.
pub record Machine : Type 0 where
  pub ladder : Ladder
  pub today : ℕ
  pub last_trading_day : ℕ
  pub next : ℕ
  pub tape : List TapeLine
  pub phase : Phase
  pub hours : Hours
  pub lines : List Line
  pub orders : List Order

-- A day outside the range is taken as the nearest end.
abbrev pub nearest_day : ℕ → ℕ
nearest_day d = max first_day (min d last_day)

-- A last trading day before today is taken as today, and a first entry number of 0 as 1.
abbrev pub made : Ladder → ℕ → ℕ → ℕ → Machine
made ladder today last first_number = record {
  ladder = ladder;
  today = nearest_day today;
  last_trading_day = max (nearest_day today) (nearest_day last);
  next = max 1 first_number;
  tape = [];
  phase = PreOpen;
  hours = Day;
  lines = replicate most_ids (Up None);
  orders = [];
}

-- The same book with other open orders; with other lines too; with another entry numbered, and another tape.
abbrev pub with_orders : Machine → List Order → Machine
with_orders m os = record { ladder = m.ladder; today = m.today; last_trading_day = m.last_trading_day; next = m.next; tape = m.tape; phase = m.phase; hours = m.hours; lines = m.lines; orders = os }

abbrev pub with_lines : Machine → List Line → List Order → Machine
with_lines m ls os = record { ladder = m.ladder; today = m.today; last_trading_day = m.last_trading_day; next = m.next; tape = m.tape; phase = m.phase; hours = m.hours; lines = ls; orders = os }

abbrev pub numbered : Machine → List TapeLine → List Order → Machine
numbered m tape os = record { ladder = m.ladder; today = m.today; last_trading_day = m.last_trading_day; next = m.next + 1; tape = tape; phase = m.phase; hours = m.hours; lines = m.lines; orders = os }

abbrev pub with_phase : Machine → Phase → List TapeLine → List Order → Machine
with_phase m phase tape os = record { ladder = m.ladder; today = m.today; last_trading_day = m.last_trading_day; next = m.next; tape = tape; phase = phase; hours = m.hours; lines = m.lines; orders = os }
