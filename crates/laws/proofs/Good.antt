-- What every book of a run is.
use Rattle.std.proofs.Common.{◌≡◌, true}
use Rattle.rules.specs.declared.calls.Phase.TheVariants.{Open}
use Rattle.rules.specs.Orders.{Book}
use Rattle.rules.specs.Numbers.{numbers, below, rising}
use Rattle.rules.specs.Machine.{Machine}
use Rattle.laws.specs.Laws.{Uncrossed}

-- The orders are sound and few, their numbers rise and are below the next, and an open book is not crossed.
pub record Good (m : Machine) : Type 0 where
  pub book : Book m.orders
  pub rises : rising (numbers m.orders) ≡ true
  pub fresh : below m.next (numbers m.orders) ≡ true
  pub session : m.phase ≡ Open → Uncrossed m.orders
