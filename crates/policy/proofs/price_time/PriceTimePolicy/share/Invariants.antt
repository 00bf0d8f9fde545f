use Rattle.std.proofs.Common.{◌≡◌, ◌++◌, take, drop}
use Rattle.policy.specs.PriceTime.{price_time}
use Rattle.policy.proofs.price_time.PriceTimePolicy.share.Given as goal

-- What is written, and what the rule gives the rest.
abbrev pub invariant-loop-share : goal.invariant-loop-share
invariant-loop-share l = take l.share-index l.shares ++ price_time (drop l.share-index l.shares) l.left ≡ price_time l.queue l.initial.left
