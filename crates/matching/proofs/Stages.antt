-- The stages of an opening: what one leaves to the next.
use Rattle.std.proofs.Common.{◌≡◌, ℕ, ◌+◌, ◌-◌, ◌^◌, ◌<◌, ◌≤◌, Bool, true, false, cond, ◌&&◌, eqb, leb, List, [], ◌∷◌, map, length, Some, filter, Option, sym, refl, ap, ◌∙◌, arith}
use Rattle.std.proofs.lemmas.Bool.{and_from, le-leb}
use Rattle.policy.specs.Fair.{Rule, Fairly}
use Rattle.rules.specs.declared.order.Side.{Side}
use Rattle.rules.specs.declared.order.Side.TheVariants.{Bid, Offer}
use Rattle.rules.specs.declared.order.Kind.{Kind}
use Rattle.rules.specs.declared.order.Kind.TheVariants.{Limit, OnOpen}
use Rattle.rules.specs.declared.order.Order.{Order}
use Rattle.rules.specs.declared.tape.Terms.{Terms}
use Rattle.rules.specs.declared.tape.Terms.TheVariants.{Opening}
use Rattle.rules.specs.Limits.{lowest_price, highest_price}
use Rattle.rules.specs.Sides.{is, as_good_as}
use Rattle.rules.specs.Price.{volume, price, price_at}
use Rattle.rules.specs.Orders.{held, priced, prices, same, at, on_open, level, Book}
use Rattle.rules.specs.Trades.{Step, fill, serve, ranked, levels, lined}
use Rattle.rules.specs.Opening.{stage_one, lesser, cross, stages, Opened, opened_at, opened}
use Rattle.rules.proofs.Held.{lots_at, held_fits}
use Rattle.rules.proofs.Prices.{clears}
use Rattle.rules.proofs.Openings.{opening_keeps}
use Rattle.rules.proofs.Filled.{fill_book}
use Rattle.rules.proofs.Served.{serve_book, serve_other}
use Rattle.table.specs.declared.table.Table.{Table}
use Rattle.table.specs.Fits.{price_fits}
use Rattle.table.specs.Tables.{open_orders}
use Rattle.table.proofs.Fit.{table_book}
use Rattle.matching.proofs.Chains.{all_kept}
use Rattle.matching.proofs.Ranks.{ranked_in, in_ranked, ranked_sorted, ranked_is}
use Rattle.matching.proofs.Counts.{many, At, Limits, many_level, many_prices, many_fill, fill_lines}

-- ---- the offers stand as before while bids trade

module _ (rule : Rule) (fair : Fairly rule) (p v : ℕ) (m : Step) (b : Book m.orders) where
  abbrev bids_done : Step
  bids_done = serve rule (Opening p) Bid v (levels Bid m.orders) m

  pub bids_book : Book bids_done.orders
  bids_book = serve_book rule fair (Opening p) Bid v (levels Bid m.orders) m b

  offers_at : (z : ℕ) → lots_at Offer bids_done.orders z ≡ lots_at Offer m.orders z
  offers_at z = serve_other rule fair (Opening p) Bid v (ranked Bid m.orders) m b (λ side kind. is Offer side && priced (λ y. eqb z y) kind) (λ x. refl)

  offers_kept : filter (λ x. true) (ranked Offer bids_done.orders) ≡ filter (λ x. true) (ranked Offer m.orders)
  offers_kept =
      ranked_is Offer (λ x. true) bids_done.orders bids_book.sound (filter (λ x. true) (ranked Offer m.orders)) (ranked_sorted Offer (λ x. true) m.orders)
      (λ z i. (omega (arith, offers_at z, (ranked_in Offer (λ x. true) m.orders b.sound z i).0), refl))
      (λ z h t. in_ranked Offer (λ x. true) m.orders z (omega (arith, offers_at z)) t)

  pub offers_ranked : ranked Offer bids_done.orders ≡ ranked Offer m.orders
  offers_ranked = sym (all_kept (ranked Offer bids_done.orders)) ∙ (offers_kept ∙ all_kept (ranked Offer m.orders))

many_serve : (T : Side → Kind → Bool) (rule : Rule) (terms : Terms) (s : Side) (v : ℕ) (ks : List Kind) (m : Step) → many T (serve rule terms s v ks m).orders ≤ many T m.orders
many_serve T rule terms s v [] m = omega arith
many_serve T rule terms s v (k ∷ ks) m = omega (arith, many_serve T rule terms s (v - held (at s k) m.orders) ks (fill rule terms s v k m), many_fill T rule terms s v k m)

prices_served : (rule : Rule) (terms : Terms) (s s' : Side) (v : ℕ) (ks : List Kind) (m : Step) → length (prices s' (serve rule terms s v ks m).orders) ≤ length (prices s' m.orders)
prices_served rule terms s s' v ks m = omega (arith, many_prices s' (serve rule terms s v ks m).orders, many_prices s' m.orders, many_serve (Limits s') rule terms s v ks m)

level_served : (rule : Rule) (terms : Terms) (s s' : Side) (v : ℕ) (ks : List Kind) (k : Kind) (m : Step) → length (level s' k (serve rule terms s v ks m).orders) ≤ length (level s' k m.orders)
level_served rule terms s s' v ks k m = omega (arith, many_level s' k (serve rule terms s v ks m).orders, many_level s' k m.orders, many_serve (At s' k) rule terms s v ks m)

-- ---- every order is of one side, a limit order or not

one_of : (s : Side) (k : Kind) → (cond (is Bid s && priced (λ x. true) k) 1 0 + cond (is Offer s && priced (λ x. true) k) 1 0) + (cond (is Bid s && same OnOpen k) 1 0 + cond (is Offer s && same OnOpen k) 1 0) ≡ 1
one_of Bid (Limit x) = refl
one_of Bid OnOpen = refl
one_of Offer (Limit x) = refl
one_of Offer OnOpen = refl

all_many : (os : List Order) → (many (Limits Bid) os + many (Limits Offer) os) + (many (At Bid OnOpen) os + many (At Offer OnOpen) os) ≡ length os
all_many [] = refl
all_many (o ∷ os) = omega (arith, one_of o.side o.kind, all_many os)

pub all_orders : (os : List Order) → (length (prices Bid os) + length (prices Offer os)) + (length (level Bid OnOpen os) + length (level Offer OnOpen os)) ≡ length os
all_orders os = omega (arith, all_many os, many_prices Bid os, many_prices Offer os, many_level Bid OnOpen os, many_level Offer OnOpen os)

-- a side has no more prices than the table has places
pub prices_within : (s : Side) (t : Table) → length (prices s (open_orders t)) ≤ 256
prices_within Bid t = omega (arith, all_orders (open_orders t), (table_book t).few)
prices_within Offer t = omega (arith, all_orders (open_orders t), (table_book t).few)

one_side : (s : Side) (b : Bool) → cond (is Bid s && b) 1 0 + cond (is Offer s && b) 1 0 ≤ 1
one_side Bid true = omega arith
one_side Bid false = omega arith
one_side Offer true = omega arith
one_side Offer false = omega arith

both_many : (k : Kind) (os : List Order) → many (At Bid k) os + many (At Offer k) os ≤ length os
both_many k [] = omega arith
both_many k (o ∷ os) = omega (arith, one_side o.side (same k o.kind), both_many k os)

pub both_levels : (k : Kind) (os : List Order) → length (level Bid k os) + length (level Offer k os) ≤ length os
both_levels k os = omega (arith, both_many k os, many_level Bid k os, many_level Offer k os)

-- the bids' walk leaves no more offers
pub bids_few : (rule : Rule) (p v : ℕ) (m n : Step) → n ≡ serve rule (Opening p) Bid v (map Limit (filter (λ x. true) (ranked Bid m.orders))) m → length (prices Offer n.orders) ≤ length (prices Offer m.orders)
bids_few rule p v m n bids = omega (arith, ap (λ (z : Step). length (prices Offer z.orders)) bids, prices_served rule (Opening p) Bid Offer v (map Limit (filter (λ x. true) (ranked Bid m.orders))) m)

-- ---- stage one: from m the bids' walk leads to n, and from there the offers' to k

module _ (rule : Rule) (fair : Fairly rule) (p v : ℕ) (m n k : Step) (b : Book m.orders) (bids : n ≡ serve rule (Opening p) Bid v (map Limit (filter (λ x. true) (ranked Bid m.orders))) m) (offers : k ≡ serve rule (Opening p) Offer v (map Limit (filter (λ x. true) (ranked Offer n.orders))) n) where
  bids_are : n ≡ bids_done rule fair p v m b
  bids_are = bids ∙ ap (λ (xs : List ℕ). serve rule (Opening p) Bid v (map Limit xs) m) (all_kept (ranked Bid m.orders))

  pub two_walks : k ≡ stage_one rule p v m
  two_walks =
      let far : filter (λ x. true) (ranked Offer (bids_done rule fair p v m b).orders) ≡ ranked Offer m.orders = all_kept (ranked Offer (bids_done rule fair p v m b).orders) ∙ offers_ranked rule fair p v m b in
      offers ∙ (ap (λ (z : Step). serve rule (Opening p) Offer v (map Limit (filter (λ x. true) (ranked Offer z.orders))) z) bids_are ∙ ap (λ (xs : List ℕ). serve rule (Opening p) Offer v (map Limit xs) (bids_done rule fair p v m b)) far)

  on_open_few : (s : Side) → length (level s OnOpen k.orders) ≤ length (level s OnOpen m.orders)
  on_open_few s = omega (
    arith,
    ap (λ (z : Step). length (level s OnOpen z.orders)) bids,
    ap (λ (z : Step). length (level s OnOpen z.orders)) offers,
    level_served rule (Opening p) Bid s v (map Limit (filter (λ x. true) (ranked Bid m.orders))) OnOpen m,
    level_served rule (Opening p) Offer s v (map Limit (filter (λ x. true) (ranked Offer n.orders))) OnOpen n,
  )

  -- an order has a line at most, or is an On-Open order that may have one yet
  pub one_lines : length n.tape ≤ length (prices Bid m.orders) → length k.tape ≤ length n.tape + length (prices Offer n.orders) → length k.tape + (length (level Bid OnOpen k.orders) + length (level Offer OnOpen k.orders)) ≤ 256
  one_lines first second = omega (arith, bids_few rule p v m n bids, on_open_few Bid, on_open_few Offer, all_orders m.orders, b.few)

-- ---- one level crossed

pub level_after : (rule : Rule) (terms : Terms) (s s' : Side) (v : ℕ) (k : Kind) (m : Step) → length (level s' k (fill rule terms s v k m).orders) ≤ length (level s' k m.orders)
level_after rule terms s s' v k m = omega (arith, many_level s' k (fill rule terms s v k m).orders, many_level s' k m.orders, many_fill (At s' k) rule terms s v k m)

pub cross_lines : (rule : Rule) → Fairly rule → (p : ℕ) (k : Kind) (m : Step) → Book m.orders → length (cross rule p k m).tape ≤ length m.tape + (length (level Bid k m.orders) + length (level Offer k m.orders))
cross_lines rule fair p k m b =
    let v : ℕ = lesser k m.orders in
    let n : Step = fill rule (Opening p) Bid v k m in
    omega (
      arith,
      fill_lines rule fair Bid v m b p k,
      fill_lines rule fair Offer v n (fill_book rule fair (Opening p) Bid v k m b) p k,
      level_after rule (Opening p) Bid Offer v k m,
    )

-- ---- the opening at a volume and a price that are found

pub opened_is : (rule : Rule) (os : List Order) (v : ℕ) (o : Option ℕ) → v ≡ volume os → price_at v os ≡ o → opened rule os ≡ opened_at rule os v o
opened_is rule os v o ev e = ap (λ (w : ℕ). opened_at rule os w (price_at w os)) (sym ev) ∙ ap (λ (q : Option ℕ). opened_at rule os v q) e

pub price_is : (os : List Order) (v : ℕ) (o : Option ℕ) → v ≡ volume os → price_at v os ≡ o → price os ≡ o
price_is os v o ev e = ap (λ (w : ℕ). price_at w os) (sym ev) ∙ e

pub price_within : (os : List Order) → Book os → (p : ℕ) → price os ≡ Some p → price_fits p ≡ true
price_within os b p e =
    let k = clears os b.sound p e in
    and_from (leb lowest_price p) (leb p highest_price) (le-leb lowest_price p k.low) (le-leb p highest_price k.high)

-- the lots bought are few enough for the code's sum
pub bought_few : (rule : Rule) → Fairly rule → (os : List Order) → Book os → (v p : ℕ) → v ≡ volume os → price_at v os ≡ Some p → lined (λ n s. is Bid s) (stages rule p v os).tape < 2 ^ 32
bought_few rule fair os b v p ev e =
    let is-total = ap (λ (o : Opened). o.total) (opened_is rule os v (Some p) ev e) in
    let total = (opening_keeps rule fair os b).total_is p (price_is os v (Some p) ev e) in
    omega (
      arith,
      held_fits (λ o. is Bid o.side && priced (as_good_as Bid p) o.kind) os b,
      held_fits (at Bid OnOpen) os b,
    )

-- ---- On-Open orders withdrawn

withdrawn_one : (s : Side) (b : Bool) (n : ℕ) → cond b n 0 ≡ cond (is Bid s && b) n 0 + cond (is Offer s && b) n 0
withdrawn_one Bid true n = omega arith
withdrawn_one Bid false n = omega arith
withdrawn_one Offer true n = omega arith
withdrawn_one Offer false n = omega arith

pub withdrawn_both : (os : List Order) → held on_open os ≡ held (λ o. is Bid o.side && on_open o) os + held (λ o. is Offer o.side && on_open o) os
withdrawn_both [] = refl
withdrawn_both (o ∷ os) = omega (arith, withdrawn_one o.side (on_open o) o.lots, withdrawn_both os)
