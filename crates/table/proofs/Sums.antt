-- One turn of the loop that sums the lots of the orders that pass.
use Rattle.std.proofs.Common.{◌≡◌, ℕ, ◌+◌, ◌<◌, Bool, true, false, List, length, get_or, drop, arith}
use Rattle.std.proofs.lemmas.List.{at_drop_more}
use Rattle.std.proofs.lemmas.Bool.{cond-true, cond-false}
use Rattle.rules.specs.declared.order.Order.{Order}
use Rattle.rules.specs.Orders.{held}

module _ (test : Order → Bool) (os : List Order) (i : ℕ) (d : Order) (in' : i < length os) (sum now : ℕ) where
  pub held_yes : test (get_or os i d) ≡ true → now ≡ sum + (get_or os i d).lots → sum + held test (drop i os) ≡ held test os → now + held test (drop (i + 1) os) ≡ held test os
  held_yes on is h = omega (arith, at_drop_more (held test) os i d in', cond-true (test (get_or os i d)) (get_or os i d).lots 0 on)

  pub held_no : test (get_or os i d) ≡ false → now ≡ sum → sum + held test (drop i os) ≡ held test os → now + held test (drop (i + 1) os) ≡ held test os
  held_no off is h = omega (arith, at_drop_more (held test) os i d in', cond-false (test (get_or os i d)) (get_or os i d).lots 0 off)
