use Rattle.matching.specs.Spans.{spans}
use Rattle.matching.specs.Steps.{step_of}
use Rattle.matching.proofs.Walks.{Walked}
use Rattle.matching.proofs.floor.Floor.walk.Given as goal

abbrev pub invariant-loop-x : goal.invariant-loop-x
invariant-loop-x g l = Walked (g.P.Policy.rule l.policy) l.terms l.span.side (spans l.span) l.lots (step_of l.initial.self) l.left (step_of l.self)

abbrev pub decreases-loop-x : goal.decreases-loop-x
decreases-loop-x g l = l.left
