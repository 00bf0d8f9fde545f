-- The two sides of a book, and how prices compare on each.
use Rattle.std.specs.Prelude.{ℕ, ◌+◌, ◌/◌, Bool, true, false, nat_le, nat_lt}
use Rattle.rules.specs.declared.order.Side.{Side}
use Rattle.rules.specs.declared.order.Side.TheVariants.{Bid, Offer}

abbrev pub is : Side → Side → Bool
is Bid Bid = true
is Bid Offer = false
is Offer Bid = false
is Offer Offer = true

abbrev pub other : Side → Side
other Bid = Offer
other Offer = Bid

-- A price x is better than q for orders of the side: the higher for bids, the lower for offers.
abbrev pub better_than : Side → ℕ → ℕ → Bool
better_than Bid q x = nat_lt q x
better_than Offer q x = nat_lt x q

-- A price x is as good as q, or better.
abbrev pub as_good_as : Side → ℕ → ℕ → Bool
as_good_as Bid q x = nat_le q x
as_good_as Offer q x = nat_le x q

-- Half the sum, rounded down to a whole unit.
abbrev pub midpoint : ℕ → ℕ → ℕ
midpoint a b = (a + b) / 2
