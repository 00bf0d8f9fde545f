use Rattle.std.proofs.Common.{◌≡◌, ◌++◌, take, drop}
use Rattle.policy.specs.ProRata.{dealt}
use Rattle.policy.specs.ProRatas.{dealing}
use Rattle.policy.proofs.pro_rata.Rate.deal.Given as goal

-- What is written, and what the rule gives the rest.
abbrev pub invariant-loop-place : goal.invariant-loop-place
invariant-loop-place l = take l.place-index l.places ++ dealing l.self.held l.self.lots l.left (drop l.place-index l.places) ≡ dealt l.self.held l.self.lots l.initial.left 0 l.initial.places
