-- Runs: what any list of calls does to a book.
use Rattle.std.specs.Prelude.{ℕ, ◌+◌, List, [], ◌∷◌}
use Rattle.rules.specs.declared.calls.Call.{Call}
use Rattle.rules.specs.declared.calls.Answer.{Answer}
use Rattle.rules.specs.Machine.{Rules, Machine}
use Rattle.rules.specs.Steps.{step}

-- A call, what it answered, and the book before and after it.
pub record Event : Type 0 where
  pub call : Call
  pub answer : Answer
  pub before : Machine
  pub after : Machine

abbrev pub event : Rules → Machine → Call → Event
event R m c = record { call = c; answer = (step R m c).answer; before = m; after = (step R m c).after }

-- The events of a list of calls, from a book on.
abbrev pub run : Rules → Machine → List Call → List Event
run R m [] = []
run R m (c ∷ cs) = event R m c ∷ run R (step R m c).after cs

-- The book after them.
abbrev pub after : Rules → Machine → List Call → Machine
after R m [] = m
after R m (c ∷ cs) = after R (step R m c).after cs

-- What the events come to, added up.
abbrev pub sum : (Event → ℕ) → List Event → ℕ
sum f [] = 0
sum f (e ∷ es) = f e + sum f es
