-- The stages, one by one.
use Rattle.std.proofs.Common.{◌≡◌, ℕ, ◌+◌, ◌-◌, ◌≤◌, min, Bool, true, false, cond, ◌&&◌, eqb, List, [], ◌∷◌, map, refl, ap, ◌∙◌, arith}
use Rattle.std.proofs.lemmas.List.{length-map}
use Rattle.policy.specs.Fair.{Rule, Fairly}
use Rattle.rules.specs.declared.order.Side.{Side}
use Rattle.rules.specs.declared.order.Side.TheVariants.{Bid, Offer}
use Rattle.rules.specs.declared.order.Kind.{Kind}
use Rattle.rules.specs.declared.order.Kind.TheVariants.{Limit, OnOpen}
use Rattle.rules.specs.declared.order.Order.{Order}
use Rattle.rules.specs.declared.tape.TapeLine.{TapeLine}
use Rattle.rules.specs.declared.tape.Terms.TheVariants.{Opening}
use Rattle.rules.specs.Limits.{lowest_price, highest_price}
use Rattle.rules.specs.Sides.{is}
use Rattle.rules.specs.Orders.{held, priced, limits, all_of, same, on_open, at, InRange, Sound, Book}
use Rattle.rules.specs.Trades.{Step, fill, serve, ranked, levels, lined}
use Rattle.rules.specs.Opening.{stage_one, lesser, cross, limit_at, turn}
use Rattle.rules.proofs.Held.{held_split}
use Rattle.rules.proofs.Filled.{account, of_kind, fill_book, fill_account, fill_kind}
use Rattle.rules.proofs.Served.{Upper, serve_levels, serve_book, serve_account, serve_other}

-- ---- a side is its limits and its On-Open orders

side_part : (s s' : Side) (k : Kind) (n : ℕ) → cond (is s s') n 0 ≡ cond (is s s' && priced (λ x. true) k) n 0 + cond (is s s' && same OnOpen k) n 0
side_part Bid Bid (Limit x) n = omega arith
side_part Bid Bid OnOpen n = omega arith
side_part Bid Offer k n = refl
side_part Offer Bid k n = refl
side_part Offer Offer (Limit x) n = omega arith
side_part Offer Offer OnOpen n = omega arith

pub side_split : (s : Side) (os : List Order) → held (λ o. is s o.side) os ≡ all_of s os + held (at s OnOpen) os
side_split s os = held_split (λ o. is s o.side) (λ o. is s o.side && priced (λ x. true) o.kind) (at s OnOpen) (λ o. side_part s o.side o.kind o.lots) os

-- ---- stage one

-- The lots of a side on a tape.
abbrev pub side_lots : Side → List TapeLine → ℕ
side_lots s tape = lined (λ n side. is s side) tape

-- A stage in which w lots are bought, and as many sold.
abbrev pub Trades : ℕ → Step → Step → Type 0
Trades w m m' = (s : Side) → side_lots s m'.tape ≡ side_lots s m.tape + w

module _ (rule : Rule) (fair : Fairly rule) (p v : ℕ) (m : Step) (b : Book m.orders) where
  bids_served : Step
  bids_served = serve rule (Opening p) Bid v (levels Bid m.orders) m

  one_bids : (t : ℕ → Bool) → Upper Bid t → limits Bid t (stage_one rule p v m).orders ≡ limits Bid t m.orders - v
  unfolding bids_served
  one_bids t up =
      serve_other rule fair (Opening p) Offer v (ranked Offer m.orders) bids_served (serve_book rule fair (Opening p) Bid v (levels Bid m.orders) m b) (λ side kind. is Bid side && priced t kind) (λ x. refl)
      ∙ serve_levels rule fair (Opening p) Bid t up v m.orders m b (λ x. refl)

  first_offers : (t : ℕ → Bool) → limits Offer t bids_served.orders ≡ limits Offer t m.orders
  unfolding bids_served
  first_offers t = serve_other rule fair (Opening p) Bid v (ranked Bid m.orders) m b (λ side kind. is Offer side && priced t kind) (λ x. refl)

  one_offers : (t : ℕ → Bool) → Upper Offer t → limits Offer t (stage_one rule p v m).orders ≡ limits Offer t m.orders - v
  unfolding bids_served
  one_offers t up =
      serve_levels rule fair (Opening p) Offer t up v m.orders bids_served (serve_book rule fair (Opening p) Bid v (levels Bid m.orders) m b) (λ x. first_offers (λ y. eqb x y))
      ∙ ap (λ n. n - v) (first_offers t)

  pub one_limits : (s : Side) (t : ℕ → Bool) → Upper s t → limits s t (stage_one rule p v m).orders ≡ limits s t m.orders - v
  one_limits Bid t up = one_bids t up
  one_limits Offer t up = one_offers t up

  never_limit : (s s' : Side) (x : ℕ) → (is s s' && same OnOpen (Limit x)) ≡ false
  never_limit Bid Bid x = refl
  never_limit Bid Offer x = refl
  never_limit Offer Bid x = refl
  never_limit Offer Offer x = refl

  pub one_on_open : (s : Side) → held (at s OnOpen) (stage_one rule p v m).orders ≡ held (at s OnOpen) m.orders
  unfolding bids_served
  one_on_open s =
      serve_other rule fair (Opening p) Offer v (ranked Offer m.orders) bids_served (serve_book rule fair (Opening p) Bid v (levels Bid m.orders) m b) (λ side kind. is s side && same OnOpen kind) (never_limit s Offer)
      ∙ serve_other rule fair (Opening p) Bid v (ranked Bid m.orders) m b (λ side kind. is s side && same OnOpen kind) (never_limit s Bid)

  pub one_book : Book (stage_one rule p v m).orders
  one_book = serve_book rule fair (Opening p) Offer v (levels Offer m.orders) _ (serve_book rule fair (Opening p) Bid v (levels Bid m.orders) m b)

  pub one_account : (t : ℕ → Side → Bool) → account t (stage_one rule p v m) ≡ account t m
  unfolding bids_served
  one_account t = omega (
    arith,
    serve_account rule fair (Opening p) Offer v (ranked Offer m.orders) bids_served (serve_book rule fair (Opening p) Bid v (levels Bid m.orders) m b) t,
    serve_account rule fair (Opening p) Bid v (ranked Bid m.orders) m b t,
  )

  pub one_trades : v ≤ all_of Bid m.orders → v ≤ all_of Offer m.orders → Trades v m (stage_one rule p v m)
  one_trades eb eo s =
      let n : Step = stage_one rule p v m in
      let e : v ≤ all_of s m.orders = elim s as (λ s. v ≤ all_of s m.orders) [ Bid ↦ eb | Offer ↦ eo ] in
      omega (arith, one_account (λ n side. is s side), side_split s n.orders, side_split s m.orders, one_limits s (λ x. true) (λ x y _ e. e), one_on_open s)

-- ---- the bids and the offers of one level

module _ (rule : Rule) (fair : Fairly rule) (p : ℕ) (k : Kind) (m : Step) (b : Book m.orders) where
  half : Step
  half = fill rule (Opening p) Bid (lesser k m.orders) k m

  half_book : Book half.orders
  unfolding half
  half_book = fill_book rule fair (Opening p) Bid (lesser k m.orders) k m b

  pub cross_book : Book (cross rule p k m).orders
  unfolding half
  cross_book = fill_book rule fair (Opening p) Offer (lesser k m.orders) k half half_book

  pub cross_account : (t : ℕ → Side → Bool) → account t (cross rule p k m) ≡ account t m
  unfolding half
  cross_account t = omega (arith, fill_account rule fair (Opening p) Offer (lesser k m.orders) k half half_book tt t, fill_account rule fair (Opening p) Bid (lesser k m.orders) k m b tt t)

  pub cross_kind : (T : Side → Kind → Bool) → of_kind T (cross rule p k m).orders + cond (T Offer k) (lesser k m.orders) 0 + cond (T Bid k) (lesser k m.orders) 0 ≡ of_kind T m.orders
  unfolding half
  cross_kind T =
      let w : ℕ = lesser k m.orders in
      let e = fill_kind rule fair (Opening p) Bid w k m b T in
      let f = fill_kind rule fair (Opening p) Offer w k half half_book T in
      let g : held (at Offer k) half.orders + 0 ≡ held (at Offer k) m.orders = fill_kind rule fair (Opening p) Bid w k m b (λ side kind. is Offer side && same k kind) in
      let x : cond (T Bid k) (min w (held (at Bid k) m.orders)) 0 ≡ cond (T Bid k) w 0 = ap (λ n. cond (T Bid k) n 0) (omega arith) in
      let y : cond (T Offer k) (min w (held (at Offer k) half.orders)) 0 ≡ cond (T Offer k) w 0 = ap (λ n. cond (T Offer k) n 0) (omega arith) in
      omega arith

  pub cross_trades : Trades (lesser k m.orders) m (cross rule p k m)
  cross_trades Bid = omega (arith, cross_account (λ n side. is Bid side), cross_kind (λ side kind. is Bid side))
  cross_trades Offer = omega (arith, cross_account (λ n side. is Offer side), cross_kind (λ side kind. is Offer side))

-- ---- On-Open orders that become limit orders

turn_here : (s s' : Side) (k : Kind) (t : ℕ → Bool) (p n : ℕ) → t p ≡ true → cond (is s s' && priced t (limit_at p k)) n 0 ≡ cond (is s s' && priced t k) n 0 + cond (is s s' && same OnOpen k) n 0
turn_here Bid Bid (Limit x) t p n e = omega arith
turn_here Bid Bid OnOpen t p n e = rw e (omega arith)
turn_here Bid Offer k t p n e = refl
turn_here Offer Bid k t p n e = refl
turn_here Offer Offer (Limit x) t p n e = omega arith
turn_here Offer Offer OnOpen t p n e = rw e (omega arith)

turn_there : (s s' : Side) (k : Kind) (t : ℕ → Bool) (p n : ℕ) → t p ≡ false → cond (is s s' && priced t (limit_at p k)) n 0 ≡ cond (is s s' && priced t k) n 0
turn_there Bid Bid (Limit x) t p n e = refl
turn_there Bid Bid OnOpen t p n e = rw e
turn_there Bid Offer k t p n e = refl
turn_there Offer Bid k t p n e = refl
turn_there Offer Offer (Limit x) t p n e = refl
turn_there Offer Offer OnOpen t p n e = rw e

pub turned_in : (s : Side) (t : ℕ → Bool) (p : ℕ) (os : List Order) → t p ≡ true → limits s t (map (turn p) os) ≡ limits s t os + held (at s OnOpen) os
turned_in s t p [] e = refl
turned_in s t p (o ∷ os) e = omega (arith, turn_here s o.side o.kind t p o.lots e, turned_in s t p os e)

pub turned_out : (s : Side) (t : ℕ → Bool) (p : ℕ) (os : List Order) → t p ≡ false → limits s t (map (turn p) os) ≡ limits s t os
turned_out s t p [] e = refl
turned_out s t p (o ∷ os) e = omega (arith, turn_there s o.side o.kind t p o.lots e, turned_out s t p os e)

pub turned_account : (t : ℕ → Side → Bool) (p : ℕ) (os : List Order) → held (λ o. t o.number o.side) (map (turn p) os) ≡ held (λ o. t o.number o.side) os
turned_account t p [] = refl
turned_account t p (o ∷ os) = omega (arith, turned_account t p os)

no_on_open : (k : Kind) (p n : ℕ) → cond (same OnOpen (limit_at p k)) n 0 ≡ 0
no_on_open (Limit x) p n = refl
no_on_open OnOpen p n = refl

pub turned_on_open : (p : ℕ) (os : List Order) → held on_open (map (turn p) os) ≡ 0
turned_on_open p [] = refl
turned_on_open p (o ∷ os) = omega (arith, no_on_open o.kind p o.lots, turned_on_open p os)

turned_range : (k : Kind) (p : ℕ) → lowest_price ≤ p → p ≤ highest_price → InRange k → InRange (limit_at p k)
turned_range (Limit x) p l h r = r
turned_range OnOpen p l h r = (l, h)

turned_sound : (p : ℕ) → lowest_price ≤ p → p ≤ highest_price → (os : List Order) → Sound os → Sound (map (turn p) os)
turned_sound p l h [] a = tt
turned_sound p l h (o ∷ os) a = ((a.0.0, a.0.1, turned_range o.kind p l h a.0.2), turned_sound p l h os a.1)

pub turned_book : (p : ℕ) → lowest_price ≤ p → p ≤ highest_price → (os : List Order) → Book os → Book (map (turn p) os)
turned_book p l h os b = record { sound = turned_sound p l h os b.sound; few = omega (arith, length-map os (turn p), b.few) }
