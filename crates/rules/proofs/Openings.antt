-- What every opening by a fair rule keeps.
use Rattle.std.proofs.Common.{◌≡◌, ℕ, ◌+◌, ◌-◌, ◌<◌, ◌≤◌, min, Bool, true, false, cond, not, ◌&&◌, eqb, ltb, leb, List, [], ◌∷◌, Some, None, filter, Option, sym, refl, ap, ◌∙◌, subst, inl, inr, arith}
use Rattle.std.specs.List.{AllByRecursion}
use Rattle.std.proofs.lemmas.Bool.{cases_lt, cases_Bool, eqb-true, le-ltb, eq-eqb}
use Rattle.std.proofs.lemmas.Bool.Decides.{nat_tests}
use Rattle.policy.specs.Fair.{Rule, Fairly}
use Rattle.rules.specs.declared.order.Side.{Side}
use Rattle.rules.specs.declared.order.Side.TheVariants.{Bid, Offer}
use Rattle.rules.specs.declared.order.Kind.{Kind}
use Rattle.rules.specs.declared.order.Kind.TheVariants.{Limit, OnOpen}
use Rattle.rules.specs.declared.order.Order.{Order}
use Rattle.rules.specs.declared.tape.TapeLine.{TapeLine}
use Rattle.rules.specs.declared.tape.Terms.TheVariants.{Opening}
use Rattle.rules.specs.Limits.{lowest_price, highest_price}
use Rattle.rules.specs.Sides.{is, better_than, as_good_as}
use Rattle.rules.specs.Orders.{held, priced, limits, ahead, within, all_of, demand, supply, prices, same, on_open, at, Sound, Book}
use Rattle.rules.specs.Price.{volume, price}
use Rattle.rules.specs.Trades.{Step, fill, serve, levels, lined}
use Rattle.rules.specs.Opening.{stage_one, lesser, cross, turned, stages, opened_at, opened}
use Rattle.rules.specs.Laws.{In}
use Rattle.rules.proofs.Held.{limits_le, lots_at, within_ahead, within_le_all, in_level}
use Rattle.rules.proofs.Prices.{Clears, no_price, clears}
use Rattle.rules.proofs.Filled.{kept_sound, kept_book, account, line_price, fill_price}
use Rattle.rules.proofs.Served.{at_level, better_else, Upper, serve_price}
use Rattle.rules.proofs.Crossed.{side_lots, Trades, turned_in, turned_out, turned_account, turned_on_open, turned_book, one_limits, one_on_open, one_book, one_account, one_trades, cross_book, cross_account, cross_kind, cross_trades}

-- ---- what an opening keeps

-- The lots of the order of one number, on a book and on a tape.
abbrev pub of_order : ℕ → List Order → ℕ
of_order n os = held (λ o. eqb n o.number) os

abbrev pub traded_of : ℕ → List TapeLine → ℕ
traded_of n tape = lined (λ i s. eqb n i) tape

-- Without a price the On-Open orders are withdrawn, else none.
abbrev pub withdrawn_of : Option ℕ → ℕ → List Order → ℕ
withdrawn_of None n os = held (λ o. eqb n o.number && on_open o) os
withdrawn_of (Some p) n os = 0

-- The step that an opening begins with.
abbrev pub start : List Order → Step
start os = record { orders = os; tape = [] }

-- No bid meets an offer.
abbrev pub Uncrossed : List Order → Type 0
Uncrossed os = (x y : ℕ) → In x (prices Bid os) → In y (prices Offer os) → x < y

-- In each stage as many lots are bought as sold.
pub record StagesEven (rule : Rule) (os : List Order) (p : ℕ) : Type 0 where
  pub first : Trades (volume os) (start os) (stage_one rule p (volume os) (start os))
  pub second : (m : Step) → Book m.orders → Trades (lesser OnOpen m.orders) m (cross rule p OnOpen m)
  pub third : (m : Step) → Book m.orders → Trades (lesser (Limit p) m.orders) m (cross rule p (Limit p) m)

pub record OpeningKeeps (rule : Rule) (os : List Order) : Type 0 where
  -- the book is one still
  pub book_left : Book (opened rule os).orders
  -- each order's lots are open, on the tape or withdrawn
  pub conserved : (n : ℕ) → of_order n os ≡ of_order n (opened rule os).orders + traded_of n (opened rule os).tape + withdrawn_of (price os) n os
  pub even : (p : ℕ) → price os ≡ Some p → StagesEven rule os p
  -- before stage three no two limit orders at p could trade, nor two On-Open orders
  pub one_sided : (p : ℕ) → price os ≡ Some p → let m = cross rule p OnOpen (stage_one rule p (volume os) (start os)) in (lesser (Limit p) m.orders ≡ 0) × (lesser OnOpen m.orders ≡ 0)
  pub uncrossed : Uncrossed (opened rule os).orders
  pub none_on_open : held on_open (opened rule os).orders ≡ 0
  -- all that is bid at p trades with all that is offered at p
  pub total_is : (p : ℕ) → price os ≡ Some p → (opened rule os).total ≡ min (demand os p + held (at Bid OnOpen) os) (supply os p + held (at Offer OnOpen) os)
  -- every line is at p
  pub at_price : (p : ℕ) → price os ≡ Some p → AllByRecursion (λ l. l.price ≡ p) (opened rule os).tape
  -- a limit order worse than p does not trade
  pub worse_kept : (p : ℕ) → price os ≡ Some p → (s : Side) (x : ℕ) → better_than s x p ≡ true → held (at s (Limit x)) (opened rule os).orders ≡ held (at s (Limit x)) os
  -- where a level trades, nothing better is left
  pub better_first : (p : ℕ) → price os ≡ Some p → (s : Side) (x : ℕ) → held (at s (Limit x)) (opened rule os).orders < held (at s (Limit x)) os → ahead s (opened rule os).orders x ≡ 0

pub upper_better : (s : Side) (p : ℕ) → Upper s (better_than s p)
upper_better Bid p x y b f = grind (arith, nat_tests)
upper_better Offer p x y b f = grind (arith, nat_tests)

pub upper_good : (s : Side) (p : ℕ) → Upper s (as_good_as s p)
upper_good Bid p x y b f = grind (arith, nat_tests)
upper_good Offer p x y b f = grind (arith, nat_tests)

better_self : (s : Side) (p : ℕ) → better_than s p p ≡ false
better_self Bid p = le-ltb p p (omega arith)
better_self Offer p = le-ltb p p (omega arith)

-- no limit lot is better than p, and one side has none at p
pub record Cleared (p : ℕ) (os : List Order) : Type 0 where
  pub better : (s : Side) → ahead s os p ≡ 0
  pub one_none : min (lots_at Bid os p) (lots_at Offer os p) ≡ 0

beyond : (s : Side) (os : List Order) (p x : ℕ) → ahead s os p ≡ 0 → 0 < lots_at s os x → as_good_as s x p ≡ true
beyond Bid os p x z h = elim (cases_lt p x) [
  | inl l ↦ absurd (omega (arith, limits_le Bid (λ y. eqb x y) (λ y. ltb p y) (λ y n. grind (arith, nat_tests)) os))
  | inr g ↦ grind (arith, nat_tests)
]
beyond Offer os p x z h = elim (cases_lt x p) [
  | inl l ↦ absurd (omega (arith, limits_le Offer (λ y. eqb x y) (λ y. ltb y p) (λ y n. grind (arith, nat_tests)) os))
  | inr g ↦ grind (arith, nat_tests)
]

uncrossed_from : (p : ℕ) (os : List Order) → Sound os → Cleared p os → Uncrossed os
uncrossed_from p os sound c x y i j =
    let hx = in_level Bid os sound x i in
    let hy = in_level Offer os sound y j in
    let rx = beyond Bid os p x (c.better Bid) hx in
    let ry = beyond Offer os p y (c.better Offer) hy in
    elim (cases_lt x y) [
      | inl l ↦ l
      | inr g ↦
          (let xp : x ≡ p = grind (arith, nat_tests) in
          let yp : y ≡ p = grind (arith, nat_tests) in
          let lx : 0 < lots_at Bid os p = subst (λ q. 0 < lots_at Bid os q) xp hx in
          let ly : 0 < lots_at Offer os p = subst (λ q. 0 < lots_at Offer os q) yp hy in
          absurd (omega (arith, c.one_none)))
    ]

-- ---- stages two and three, from a book with no limit lot better than p

level_less : (s : Side) (p w : ℕ) → cond (is s Offer && eqb p p) w 0 + cond (is s Bid && eqb p p) w 0 ≡ w
level_less Bid p w = let e = eq-eqb p p refl in rw e (omega arith)
level_less Offer p w = let e = eq-eqb p p refl in rw e (omega arith)

open_less : (s : Side) (w : ℕ) → cond (is s Offer && true) w 0 + cond (is s Bid && true) w 0 ≡ w
open_less Bid w = omega arith
open_less Offer w = omega arith

never_open : (s : Side) (w : ℕ) → cond (is s Offer && false) w 0 + cond (is s Bid && false) w 0 ≡ 0
never_open Bid w = refl
never_open Offer w = refl

module _ (rule : Rule) (fair : Fairly rule) (p : ℕ) (low : lowest_price ≤ p) (high : p ≤ highest_price) (m : Step) (b : Book m.orders) where
  two : Step
  two = cross rule p OnOpen m

  two_book : Book two.orders
  unfolding two
  two_book = cross_book rule fair p OnOpen m b

  two_limits : (s : Side) (t : ℕ → Bool) → limits s t two.orders ≡ limits s t m.orders
  unfolding two
  two_limits s t = omega (arith, cross_kind rule fair p OnOpen m b (λ side kind. is s side && priced t kind), never_open s (lesser OnOpen m.orders))

  two_open : (s : Side) → held (at s OnOpen) two.orders + lesser OnOpen m.orders ≡ held (at s OnOpen) m.orders
  unfolding two
  two_open s = omega (arith, cross_kind rule fair p OnOpen m b (λ side kind. is s side && same OnOpen kind), open_less s (lesser OnOpen m.orders))

  half_way : Step
  half_way = turned p two

  half_book : Book half_way.orders
  unfolding half_way
  half_book = turned_book p low high two.orders two_book

  half_ahead : (s : Side) → ahead s half_way.orders p ≡ ahead s m.orders p
  unfolding half_way
  half_ahead s = turned_out s (better_than s p) p two.orders (better_self s p) ∙ two_limits s (better_than s p)

  half_level : (s : Side) → lots_at s half_way.orders p + lesser OnOpen m.orders ≡ lots_at s m.orders p + held (at s OnOpen) m.orders
  unfolding half_way
  half_level s = omega (arith, turned_in s (λ x. eqb p x) p two.orders (eq-eqb p p refl), two_limits s (λ x. eqb p x), two_open s)

  three : Step
  three = cross rule p (Limit p) half_way

  three_is : three ≡ cross rule p (Limit p) (turned p (cross rule p OnOpen m))
  unfolding three half_way two
  three_is = refl

  three_book : Book three.orders
  unfolding three
  three_book = cross_book rule fair p (Limit p) half_way half_book

  three_level : (s : Side) → lots_at s three.orders p + lesser (Limit p) half_way.orders ≡ lots_at s half_way.orders p
  unfolding three
  three_level s = omega (arith, cross_kind rule fair p (Limit p) half_way half_book (λ side kind. is s side && same (Limit p) kind), level_less s p (lesser (Limit p) half_way.orders), at_level s p three.orders, at_level s p half_way.orders)

  lesser_is : lesser (Limit p) half_way.orders ≡ min (lots_at Bid half_way.orders p) (lots_at Offer half_way.orders p)
  lesser_is = omega (arith, at_level Bid p half_way.orders, at_level Offer p half_way.orders)

  three_cleared : ((s : Side) → ahead s m.orders p ≡ 0) → Cleared p three.orders
  unfolding three
  three_cleared z = record {
    better = λ s. omega (arith, cross_kind rule fair p (Limit p) half_way half_book (λ side kind. is s side && priced (better_than s p) kind), half_ahead s, z s);
    one_none = omega (arith, three_level Bid, three_level Offer, lesser_is);
  }

  three_open : held on_open three.orders ≡ 0
  unfolding three half_way
  three_open = omega (arith, cross_kind rule fair p (Limit p) half_way half_book (λ side kind. same OnOpen kind), turned_on_open p two.orders)

  three_account : (t : ℕ → Side → Bool) → account t three ≡ account t m
  unfolding three half_way two
  three_account t = cross_account rule fair p (Limit p) half_way half_book t ∙ (ap (λ n. n + lined t two.tape) (turned_account t p two.orders) ∙ cross_account rule fair p OnOpen m b t)

  three_trades : Trades (min (lots_at Bid m.orders p + held (at Bid OnOpen) m.orders) (lots_at Offer m.orders p + held (at Offer OnOpen) m.orders)) m three
  unfolding three half_way two
  three_trades s = omega (arith, cross_trades rule fair p OnOpen m b s, cross_trades rule fair p (Limit p) half_way half_book s, half_level Bid, half_level Offer, lesser_is)

never_there : (s : Side) (b : Bool) (w : ℕ) → b ≡ false → cond (is s Offer && b) w 0 + cond (is s Bid && b) w 0 ≡ 0
never_there Bid b w e = rw e
never_there Offer b w e = rw e

module _ (rule : Rule) (fair : Fairly rule) (p : ℕ) (low : lowest_price ≤ p) (high : p ≤ highest_price) (m : Step) (b : Book m.orders) where
  three_other : (s : Side) (t : ℕ → Bool) → t p ≡ false → limits s t (three rule fair p low high m b).orders ≡ limits s t m.orders
  unfolding three half_way
  three_other s t e =
      let h : Step = half_way rule fair p low high m b in
      omega (
        arith,
        cross_kind rule fair p (Limit p) h (half_book rule fair p low high m b) (λ side kind. is s side && priced t kind),
        never_there s (t p) (lesser (Limit p) h.orders) e,
        turned_out s t p (two rule fair p low high m b).orders e,
        two_limits rule fair p low high m b s t,
      )

all_at : (p : ℕ) (ks : List Kind) → AllByRecursion (λ k. line_price (Opening p) k ≡ p) ks
all_at p [] = tt
all_at p (k ∷ ks) = (refl, all_at p ks)

cross_price : (rule : Rule) (p : ℕ) (k : Kind) (m : Step) → AllByRecursion (λ l. l.price ≡ p) m.tape → AllByRecursion (λ l. l.price ≡ p) (cross rule p k m).tape
cross_price rule p k m a =
    let w : ℕ = lesser k m.orders in
    fill_price (λ x. x ≡ p) rule (Opening p) Offer w k (fill rule (Opening p) Bid w k m) refl (fill_price (λ x. x ≡ p) rule (Opening p) Bid w k m refl a)

better_apart : (s : Side) (x p : ℕ) → better_than s x p ≡ true → eqb x p ≡ false
better_apart Bid x p h = grind (arith, nat_tests)
better_apart Offer x p h = grind (arith, nat_tests)

ahead_better : (s : Side) (os : List Order) (x p : ℕ) → better_than s p x ≡ true → ahead s os x ≤ ahead s os p
ahead_better Bid os x p h = limits_le Bid (λ y. ltb x y) (λ y. ltb p y) (λ y n. grind (arith, nat_tests)) os
ahead_better Offer os x p h = limits_le Offer (λ y. ltb y x) (λ y. ltb y p) (λ y n. grind (arith, nat_tests)) os

within_better : (s : Side) (os : List Order) (x p : ℕ) → better_than s x p ≡ true → within s os p ≤ ahead s os x
within_better Bid os x p h = limits_le Bid (λ y. leb p y) (λ y. ltb x y) (λ y n. grind (arith, nat_tests)) os
within_better Offer os x p h = limits_le Offer (λ y. leb y p) (λ y. ltb y x) (λ y n. grind (arith, nat_tests)) os

-- ---- with a price

module _ (rule : Rule) (fair : Fairly rule) (os : List Order) (b : Book os) (p : ℕ) (k : Clears os (volume os) p) where
  one : Step
  one = stage_one rule p (volume os) (start os)

  bk : Book one.orders
  unfolding one
  bk = one_book rule fair p (volume os) (start os) b

  one_ahead : (s : Side) → ahead s one.orders p ≡ ahead s os p - volume os
  unfolding one
  one_ahead s = one_limits rule fair p (volume os) (start os) b s (better_than s p) (upper_better s p)

  one_within : (s : Side) → within s one.orders p ≡ within s os p - volume os
  unfolding one
  one_within s = one_limits rule fair p (volume os) (start os) b s (as_good_as s p) (upper_good s p)

  one_clear : (s : Side) → ahead s one.orders p ≡ 0
  one_clear Bid = omega (arith, one_ahead Bid, k.above)
  one_clear Offer = omega (arith, one_ahead Offer, k.below)

  -- no price that stage one leaves is better than p
  pub one_left : (s : Side) (x : ℕ) → In x (prices s (stage_one rule p (volume os) (start os)).orders) → as_good_as s x p ≡ true
  unfolding one
  one_left s x i = beyond s one.orders p x (one_clear s) (in_level s one.orders bk.sound x i)

  one_even : Trades (volume os) (start os) one
  unfolding one
  one_even = one_trades rule fair p (volume os) (start os) b (omega (arith, within_le_all Bid os p, k.lesser)) (omega (arith, within_le_all Offer os p, k.lesser))

  open_kept : (s : Side) → held (at s OnOpen) one.orders ≡ held (at s OnOpen) os
  unfolding one
  open_kept s = one_on_open rule fair p (volume os) (start os) b s

  end : Step
  end = three rule fair p k.low k.high one bk

  end_is : end ≡ stages rule p (volume os) os
  unfolding end one
  end_is = three_is rule fair p k.low k.high one bk

  end_cleared : Cleared p end.orders
  unfolding end
  end_cleared = three_cleared rule fair p k.low k.high one bk one_clear

  end_book : Book end.orders
  unfolding end
  end_book = three_book rule fair p k.low k.high one bk

  end_open : held on_open end.orders ≡ 0
  unfolding end
  end_open = three_open rule fair p k.low k.high one bk

  end_account : (t : ℕ → Side → Bool) → account t end ≡ account t (start os)
  unfolding end one
  end_account t = three_account rule fair p k.low k.high one bk t ∙ one_account rule fair p (volume os) (start os) b t

  end_bought : (s : Side) → side_lots s end.tape ≡ min (demand os p + held (at Bid OnOpen) os) (supply os p + held (at Offer OnOpen) os)
  unfolding end
  end_bought s = omega (arith, three_trades rule fair p k.low k.high one bk s, one_even s, open_kept Bid, open_kept Offer, one_within Bid, one_within Offer, one_clear Bid, one_clear Offer, within_ahead Bid one.orders p, within_ahead Offer one.orders p, k.lesser)

  end_sided : let m = cross rule p OnOpen (stage_one rule p (volume os) (start os)) in (lesser (Limit p) m.orders ≡ 0) × (lesser OnOpen m.orders ≡ 0)
  unfolding one two
  end_sided =
      let t : Step = two rule fair p k.low k.high one bk in (
        omega (
          arith,
          at_level Bid p t.orders,
          at_level Offer p t.orders,
          two_limits rule fair p k.low k.high one bk Bid (λ x. eqb p x),
          two_limits rule fair p k.low k.high one bk Offer (λ x. eqb p x),
          one_within Bid,
          one_within Offer,
          within_ahead Bid one.orders p,
          within_ahead Offer one.orders p,
          k.lesser,
        ),
        omega (arith, two_open rule fair p k.low k.high one bk Bid, two_open rule fair p k.low k.high one bk Offer),
      )

  enough : (s : Side) → volume os ≤ within s os p
  enough Bid = omega (arith, k.lesser)
  enough Offer = omega (arith, k.lesser)

  one_worse : (s : Side) (x : ℕ) → better_than s x p ≡ true → lots_at s one.orders x ≡ lots_at s os x
  unfolding one
  one_worse s x h = omega (
    arith,
    enough s,
    within_better s os x p h,
    within_ahead s os x,
    within_ahead s one.orders x,
    one_limits rule fair p (volume os) (start os) b s (better_than s x) (upper_better s x),
    one_limits rule fair p (volume os) (start os) b s (as_good_as s x) (upper_good s x),
  )

  -- a price worse than p keeps its lots in stage one
  pub one_kept : (s : Side) (x : ℕ) → better_than s x p ≡ true → lots_at s (stage_one rule p (volume os) (start os)).orders x ≡ lots_at s os x
  unfolding one
  one_kept s x h = one_worse s x h

  end_worse : (s : Side) (x : ℕ) → better_than s x p ≡ true → held (at s (Limit x)) end.orders ≡ held (at s (Limit x)) os
  unfolding end
  end_worse s x h = omega (arith, at_level s x end.orders, at_level s x os, one_worse s x h, three_other rule fair p k.low k.high one bk s (λ y. eqb x y) (better_apart s x p h))

  end_better : (s : Side) (x : ℕ) → held (at s (Limit x)) end.orders < held (at s (Limit x)) os → ahead s end.orders x ≡ 0
  end_better s x h = elim (cases_Bool (better_than s x p)) [
    | inl worse ↦ absurd (omega (arith, end_worse s x worse))
    | inr not_worse ↦ elim (cases_Bool (eqb p x)) [
      | inl here ↦ subst (λ y. ahead s end.orders y ≡ 0) (eqb-true p x here) (end_cleared.better s)
      | inr apart ↦ omega (arith, ahead_better s end.orders x p (better_else s p x not_worse apart), end_cleared.better s)
    ]
  ]

  end_price : AllByRecursion (λ l. l.price ≡ p) (stages rule p (volume os) os).tape
  end_price = cross_price rule p (Limit p) (turned p (cross rule p OnOpen (stage_one rule p (volume os) (start os))))
      (cross_price rule p OnOpen (stage_one rule p (volume os) (start os))
      (serve_price (λ x. x ≡ p) rule (Opening p) Offer (volume os) (levels Offer os) (serve rule (Opening p) Bid (volume os) (levels Bid os) (start os)) (all_at p (levels Offer os))
      (serve_price (λ x. x ≡ p) rule (Opening p) Bid (volume os) (levels Bid os) (start os) (all_at p (levels Bid os)) tt)))

-- ---- without a price

-- the lots that pass t are those of the orders left, and those of the orders left out
pub held_kept : (t u : Order → Bool) (os : List Order) → held t os ≡ held t (filter (λ o. not (u o)) os) + held (λ o. t o && u o) os
held_kept t u [] = refl
held_kept t u (o ∷ os) = go (u o) (t o) refl (held_kept t u os)
  where
    go : (x y : Bool) → t o ≡ y → held t os ≡ held t (filter (λ o. not (u o)) os) + held (λ o. t o && u o) os → cond y o.lots 0 + held t os ≡ held t (cond (not x) (o ∷ filter (λ o. not (u o)) os) (filter (λ o. not (u o)) os)) + (cond (y && x) o.lots 0 + held (λ o. t o && u o) os)
    go true true e h = omega arith
    go true false e h = omega arith
    go false true e h = rw e (omega arith)
    go false false e h = rw e (omega arith)

-- without the On-Open orders
without : (t : Order → Bool) (os : List Order) → held t os ≡ held t (filter (λ o. not (on_open o)) os) + held (λ o. t o && on_open o) os
without t os = held_kept t on_open os

none_open : (os : List Order) → held on_open (filter (λ o. not (on_open o)) os) ≡ 0
none_open [] = refl
none_open (o ∷ os) = go (on_open o) refl (none_open os)
  where
    go : (x : Bool) → on_open o ≡ x → held on_open (filter (λ o. not (on_open o)) os) ≡ 0 → held on_open (cond (not x) (o ∷ filter (λ o. not (on_open o)) os) (filter (λ o. not (on_open o)) os)) ≡ 0
    go true e h = h
    go false e h = rw e (omega arith)

no_side : (s : Side) (os : List Order) → Sound os → all_of s os ≡ 0 → (x : ℕ) → In x (prices s (filter (λ o. not (on_open o)) os)) → ⊥
no_side s os sound z x i =
    let left : List Order = filter (λ o. not (on_open o)) os in
    omega (
      arith,
      in_level s left (kept_sound (λ o. not (on_open o)) os sound) x i,
      within_ahead s left x,
      within_le_all s left x,
      held_kept (λ o. is s o.side && priced (λ x. true) o.kind) on_open os,
    )

-- ---- with and without

module _ (rule : Rule) (fair : Fairly rule) (os : List Order) (b : Book os) where
  kept : (p : ℕ) → price os ≡ Some p → Clears os (volume os) p
  kept p e = clears os b.sound p e

  conserved_at : (o : Option ℕ) → price os ≡ o → (n : ℕ) → of_order n os ≡ of_order n (opened_at rule os (volume os) o).orders + traded_of n (opened_at rule os (volume os) o).tape + withdrawn_of o n os
  conserved_at None e n = omega (arith, held_kept (λ o. eqb n o.number) on_open os)
  conserved_at (Some p) e n =
      let k = kept p e in
      let a = subst (λ (m : Step). account (λ i s. eqb n i) m ≡ account (λ i s. eqb n i) (start os)) (end_is rule fair os b p k) (end_account rule fair os b p k (λ i s. eqb n i)) in
      omega arith

  uncrossed_at : (o : Option ℕ) → price os ≡ o → Uncrossed (opened_at rule os (volume os) o).orders
  uncrossed_at None e = λ x y i j. elim (no_price os e).1 [
    | inl z ↦ absurd (no_side Bid os b.sound z x i)
    | inr z ↦ absurd (no_side Offer os b.sound z y j)
  ]
  uncrossed_at (Some p) e =
      let k = kept p e in
      subst (λ (m : Step). Uncrossed m.orders) (end_is rule fair os b p k)
      (uncrossed_from p (end rule fair os b p k).orders (end_book rule fair os b p k).sound (end_cleared rule fair os b p k))

  none_at : (o : Option ℕ) → price os ≡ o → held on_open (opened_at rule os (volume os) o).orders ≡ 0
  none_at None e = none_open os
  none_at (Some p) e =
      let k = kept p e in
      subst (λ (m : Step). held on_open m.orders ≡ 0) (end_is rule fair os b p k) (end_open rule fair os b p k)

  -- what is bought in the three stages, and what is sold
  sided_at : (p : ℕ) → price os ≡ Some p → (s : Side) → side_lots s (stages rule p (volume os) os).tape ≡ min (demand os p + held (at Bid OnOpen) os) (supply os p + held (at Offer OnOpen) os)
  sided_at p e s =
      let k = kept p e in
      subst (λ (m : Step). side_lots s m.tape ≡ min (demand os p + held (at Bid OnOpen) os) (supply os p + held (at Offer OnOpen) os)) (end_is rule fair os b p k) (end_bought rule fair os b p k s)

  total_at : (p : ℕ) → price os ≡ Some p → (opened_at rule os (volume os) (Some p)).total ≡ min (demand os p + held (at Bid OnOpen) os) (supply os p + held (at Offer OnOpen) os)
  total_at p e = sided_at p e Bid

  both_at : (o : Option ℕ) → price os ≡ o → (s : Side) → side_lots s (opened_at rule os (volume os) o).tape ≡ (opened_at rule os (volume os) o).total
  both_at None e s = refl
  both_at (Some p) e s = omega (arith, sided_at p e s, sided_at p e Bid)

  -- the total is what is bought, and what is sold
  pub opening_even : (s : Side) → side_lots s (opened rule os).tape ≡ (opened rule os).total
  opening_even = both_at (price os) refl

  even_at : (p : ℕ) → price os ≡ Some p → StagesEven rule os p
  even_at p e =
      let k = kept p e in
      record {
        first = one_trades rule fair p (volume os) (start os) b (omega (arith, within_le_all Bid os p, k.lesser)) (omega (arith, within_le_all Offer os p, k.lesser));
        second = λ m bm. cross_trades rule fair p OnOpen m bm;
        third = λ m bm. cross_trades rule fair p (Limit p) m bm;
      }

  book_at : (o : Option ℕ) → price os ≡ o → Book (opened_at rule os (volume os) o).orders
  book_at None e = kept_book (λ o. not (on_open o)) os b
  book_at (Some p) e =
      let k = kept p e in
      subst (λ (m : Step). Book m.orders) (end_is rule fair os b p k) (end_book rule fair os b p k)

  -- from the end of the three stages to the opening's answer
  of_end : (p : ℕ) (e : price os ≡ Some p) (P : Step → Type 0) → P (end rule fair os b p (kept p e)) → P (record { orders = (opened rule os).orders; tape = (opened rule os).tape })
  of_end p e P h =
      let h' : P (stages rule p (volume os) os) = subst P (end_is rule fair os b p (kept p e)) h in
      subst (λ (o : Option ℕ). P (record { orders = (opened_at rule os (volume os) o).orders; tape = (opened_at rule os (volume os) o).tape })) (sym e) h'

  pub opening_keeps : OpeningKeeps rule os
  opening_keeps = record {
    book_left = book_at (price os) refl;
    conserved = conserved_at (price os) refl;
    even = even_at;
    one_sided = λ p e. end_sided rule fair os b p (kept p e);
    uncrossed = uncrossed_at (price os) refl;
    none_on_open = none_at (price os) refl;
    total_is = λ p e. subst (λ (o : Option ℕ). (opened_at rule os (volume os) o).total ≡ min (demand os p + held (at Bid OnOpen) os) (supply os p + held (at Offer OnOpen) os)) (sym e) (total_at p e);
    at_price = λ p e. of_end p e (λ m. AllByRecursion (λ l. l.price ≡ p) m.tape) (subst (λ (m : Step). AllByRecursion (λ l. l.price ≡ p) m.tape) (sym (end_is rule fair os b p (kept p e))) (end_price rule fair os b p (kept p e)));
    worse_kept = λ p e. of_end p e (λ m. (s : Side) (x : ℕ) → better_than s x p ≡ true → held (at s (Limit x)) m.orders ≡ held (at s (Limit x)) os) (end_worse rule fair os b p (kept p e));
    better_first = λ p e. of_end p e (λ m. (s : Side) (x : ℕ) → held (at s (Limit x)) m.orders < held (at s (Limit x)) os → ahead s m.orders x ≡ 0) (end_better rule fair os b p (kept p e));
  }

  -- no price left is better than the opening's
  pub opening_left : (p : ℕ) → price os ≡ Some p → (s : Side) (x : ℕ) → In x (prices s (opened rule os).orders) → as_good_as s x p ≡ true
  opening_left p e s x i = beyond s (opened rule os).orders p x ((of_end p e (λ m. Cleared p m.orders) (end_cleared rule fair os b p (kept p e))).better s) (in_level s (opened rule os).orders opening_keeps.book_left.sound x i)
