use Rattle.std.proofs.Common.{◌≡◌, ◌-◌, ◌^◌}
use Rattle.optbook.specs.Tallies.{Few}
use Rattle.optbook.proofs.play.play.Given as goal

-- Each count is below the number of the line to come.
abbrev pub invariant-loop-number : goal.invariant-loop-number
invariant-loop-number g l = Few l.tally l.number-iterator.a.start × (l.number-iterator.a.end ≡ 2 ^ 64 - 1)
