-- The lines of an opening with a price: each is that of an order whose limit is as good as the price, or of an On-Open
-- order, and what is left has no better limit.
use Rattle.std.proofs.Common.{◌≡◌, ℕ, ◌<◌, true, false, ◌&&◌, List, Some, inl, inr, arith}
use Rattle.std.proofs.lemmas.Bool.{cases_Bool}
use Rattle.std.proofs.lemmas.Bool.Decides.{nat_tests}
use Rattle.policy.specs.Fair.{Rule, Fairly}
use Rattle.rules.specs.declared.order.Side.{Side}
use Rattle.rules.specs.declared.order.Side.TheVariants.{Bid, Offer}
use Rattle.rules.specs.declared.order.Kind.{Kind}
use Rattle.rules.specs.declared.order.Kind.TheVariants.{Limit, OnOpen}
use Rattle.rules.specs.declared.order.Order.{Order}
use Rattle.rules.specs.declared.tape.Terms.TheVariants.{Opening}
use Rattle.rules.specs.Sides.{is, better_than, as_good_as}
use Rattle.rules.specs.Orders.{held, at, same, Book}
use Rattle.rules.specs.Price.{volume, price}
use Rattle.rules.specs.Trades.{Step, fill, serve, levels}
use Rattle.rules.specs.Opening.{stage_one, lesser, cross, turned, stages, opened}
use Rattle.rules.proofs.Prices.{Clears, clears}
use Rattle.rules.proofs.Filled.{fill_book}
use Rattle.rules.proofs.Served.{at_level, serve_book, serve_le}
use Rattle.rules.proofs.Crossed.{one_book, cross_book, turned_book}
use Rattle.rules.proofs.Openings.{start, one_kept, opening_left}
use Rattle.laws.specs.Laws.{NoneBetter}
use Rattle.laws.proofs.Lines.{Everywhere, Lined, each_fill, each_one, each_cross, each_turned, fill_lines, one_lines}

not_worse : (s : Side) (x p : ℕ) → better_than s x p ≡ false → as_good_as s p x ≡ true
not_worse Bid x p h = grind (arith, nat_tests)
not_worse Offer x p h = grind (arith, nat_tests)

good_self : (s : Side) (p : ℕ) → as_good_as s p p ≡ true
good_self Bid p = grind (arith, nat_tests)
good_self Offer p = grind (arith, nat_tests)

good_better : (s : Side) (p x y : ℕ) → as_good_as s p x ≡ true → as_good_as s y p ≡ true → better_than s x y ≡ false
good_better Bid p x y g h = grind (arith, nat_tests)
good_better Offer p x y g h = grind (arith, nat_tests)

-- ---- one level, both sides

module _ (P : ℕ → Side → Kind → Type 0) (Q : ℕ → Side → ℕ → Type 0) (rule : Rule) (fair : Fairly rule) (p : ℕ) where
  cross_lines : (k : Kind) (m : Step) → Book m.orders → Everywhere P m.orders → ((s : Side) (n : ℕ) → P n s k → Q n s p) → Lined Q m.tape → Lined Q (cross rule p k m).tape
  cross_lines k m b a law old =
      let w : ℕ = lesser k m.orders in
      let h : Step = fill rule (Opening p) Bid w k m in
      fill_lines P Q rule fair (Opening p) Offer w k h (fill_book rule fair (Opening p) Bid w k m b) (each_fill P rule (Opening p) Bid w k m a) (λ _. (law Offer, tt))
      (fill_lines P Q rule fair (Opening p) Bid w k m b a (λ _. (law Bid, tt)) old)

-- ---- with a price

module _ (rule : Rule) (fair : Fairly rule) (os : List Order) (b : Book os) (p : ℕ) (e : price os ≡ Some p) where
  fits : Clears os (volume os) p
  fits = clears os b.sound p e

  -- a level that trades in stage one is as good as the price
  bids_good : (x : ℕ) → held (at Bid (Limit x)) (serve rule (Opening p) Bid (volume os) (levels Bid os) (start os)).orders < held (at Bid (Limit x)) os → as_good_as Bid p x ≡ true
  bids_good x fewer =
      let v : ℕ = volume os in
      let bids : Step = serve rule (Opening p) Bid v (levels Bid os) (start os) in
      elim (cases_Bool (better_than Bid x p)) [
        | inl worse ↦
            absurd (omega (
              arith,
              one_kept rule fair os b p fits Bid x worse,
              at_level Bid x os,
              at_level Bid x (stage_one rule p v (start os)).orders,
              serve_le rule fair (Opening p) Offer v (levels Offer os) bids (serve_book rule fair (Opening p) Bid v (levels Bid os) (start os) b) (λ side kind. is Bid side && same (Limit x) kind),
            ))
        | inr good ↦ not_worse Bid x p good
      ]

  offers_good : (x : ℕ) → held (at Offer (Limit x)) (stage_one rule p (volume os) (start os)).orders < held (at Offer (Limit x)) (serve rule (Opening p) Bid (volume os) (levels Bid os) (start os)).orders → as_good_as Offer p x ≡ true
  offers_good x fewer =
      let v : ℕ = volume os in
      elim (cases_Bool (better_than Offer x p)) [
        | inl worse ↦
            absurd (omega (
              arith,
              one_kept rule fair os b p fits Offer x worse,
              at_level Offer x os,
              at_level Offer x (stage_one rule p v (start os)).orders,
              serve_le rule fair (Opening p) Bid v (levels Bid os) (start os) b (λ side kind. is Offer side && same (Limit x) kind),
            ))
        | inr good ↦ not_worse Offer x p good
      ]

  -- none is left that is better than a limit as good as the price
  pub opening_precedes : (s : Side) (x : ℕ) → as_good_as s p x ≡ true → NoneBetter s x (opened rule os).orders
  opening_precedes s x good y i = good_better s p x y good (opening_left rule fair os b p e s y i)

  module _ (P : ℕ → Side → Kind → Type 0) (Q : ℕ → Side → ℕ → Type 0) (each : Everywhere P os) (turns : (n : ℕ) (s : Side) → P n s OnOpen → P n s (Limit p)) (law : (s : Side) (x : ℕ) → as_good_as s p x ≡ true → (n : ℕ) → P n s (Limit x) → Q n s p) where
    one_lined : Lined Q (stage_one rule p (volume os) (start os)).tape
    one_lined = one_lines P Q rule fair p (volume os) (start os) b each (λ x fewer. law Bid x (bids_good x fewer)) (λ x fewer. law Offer x (offers_good x fewer)) tt

    stages_lined : Lined Q (stages rule p (volume os) os).tape
    stages_lined =
        let one : Step = stage_one rule p (volume os) (start os) in
        let ob = one_book rule fair p (volume os) (start os) b in
        let oe = each_one P rule p (volume os) (start os) each in
        let two : Step = cross rule p OnOpen one in
        let tb = cross_book rule fair p OnOpen one ob in
        let te = each_cross P rule p OnOpen one oe in
        let at_p : (s : Side) (n : ℕ) → P n s (Limit p) → Q n s p = λ s n h. law s p (good_self s p) n h in
        cross_lines P Q rule fair p (Limit p) (turned p two) (turned_book p fits.low fits.high two.orders tb) (each_turned P P p (λ n s x h. h) turns two.orders te) at_p
        (cross_lines P Q rule fair p OnOpen one ob oe (λ s n h. at_p s n (turns n s h)) one_lined)

    -- what holds of each order's line where its limit is as good as the price holds of every line
    pub opening_lines : Lined Q (opened rule os).tape
    opening_lines = rw e stages_lined
