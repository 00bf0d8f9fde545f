-- The entry numbers of open orders: they rise, and are below the next one to be given.
use Rattle.std.specs.Prelude.{ℕ, Bool, true, ◌&&◌, List, [], ◌∷◌, map, nat_lt}
use Rattle.std.specs.List.{list_all}
use Rattle.rules.specs.declared.order.Order.{Order}

abbrev pub numbers : List Order → List ℕ
numbers os = map (λ o. o.number) os

-- Every one of them is below n; above n.
abbrev pub below : ℕ → List ℕ → Bool
below n = list_all (λ x. nat_lt x n)

abbrev pub above : ℕ → List ℕ → Bool
above n = list_all (λ x. nat_lt n x)

-- Each is below all behind it, so no number stands twice.
abbrev pub rising : List ℕ → Bool
rising [] = true
rising (x ∷ xs) = above x xs && rising xs
