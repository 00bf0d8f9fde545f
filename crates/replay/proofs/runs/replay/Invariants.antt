use Rattle.std.proofs.Common.{◌≡◌}
use Rattle.replay.specs.Books.{machine_of, opening_of, session_of, rules_in}
use Rattle.replay.proofs.Going.{Sofar, with_place}
use Rattle.replay.proofs.runs.replay.Given as goal

-- The calls before the place are sent, by the policies that the book had, and the others are left.
abbrev pub invariant-loop-place : goal.invariant-loop-place
invariant-loop-place g l =
    (opening_of l.book ≡ opening_of l.initial.book)
    × (session_of l.book ≡ session_of l.initial.book)
    × Sofar (rules_in g.O.Policy.rule g.S.Policy.rule l.initial.book) (machine_of l.initial.book) (with_place l.calls l.initial.answers) l.initial.answers l.place-index (machine_of l.book) l.answers l.left
