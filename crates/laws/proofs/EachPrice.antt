-- On each tape as many lots are bought as sold at each price.
use Rattle.std.proofs.Common.{◌≡◌, ℕ, ◌+◌, ◌-◌, min, Bool, true, false, cond, ◌&&◌, eqb, List, [], ◌∷◌, ◌++◌, map, Some, None, filter, Option, sym, refl, ap, ◌∙◌, subst, arith}
use Rattle.std.specs.List.{AllByRecursion}
use Rattle.std.proofs.lemmas.Bool.{cond_both, cond-true, cond-false}
use Rattle.policy.specs.Fair.{Rule, Fairly}
use Rattle.rules.specs.declared.order.Side.{Side}
use Rattle.rules.specs.declared.order.Side.TheVariants.{Bid, Offer}
use Rattle.rules.specs.declared.order.Kind.TheVariants.{Limit}
use Rattle.rules.specs.declared.order.Order.{Order}
use Rattle.rules.specs.declared.incoming.Incoming.{Incoming}
use Rattle.rules.specs.declared.tape.TapeLine.{TapeLine}
use Rattle.rules.specs.declared.tape.Terms.TheVariants.{Entry}
use Rattle.rules.specs.declared.calls.Phase.{Phase}
use Rattle.rules.specs.declared.calls.Call.{Call}
use Rattle.rules.specs.Sides.{is, other}
use Rattle.rules.specs.Orders.{held, at, Book}
use Rattle.rules.specs.Price.{volume, price}
use Rattle.rules.specs.Trades.{Step, fill, serve, ranked}
use Rattle.rules.specs.Opening.{opened_at, opened}
use Rattle.rules.specs.Session.{accepts, reach, enough, Matched, matched}
use Rattle.rules.specs.Machine.{Rules, Machine}
use Rattle.rules.specs.Steps.{limit_incoming, market_incoming, step}
use Rattle.rules.proofs.Filled.{is_self, fill_book, fill_account, fill_kind, fill_trades, fill_price}
use Rattle.rules.proofs.Openings.{opening_keeps, opening_even}
use Rattle.laws.specs.Lots.{is_open, tape_of, side_lots, lots_at_price}
use Rattle.laws.proofs.Good.{Good}
use Rattle.laws.proofs.Ways.{seen, every_way}

-- ---- lines at one price

-- Where every line is at y, the lots at x are all or none.
all_at : (s : Side) (x y : ℕ) (ls : List TapeLine) → AllByRecursion (λ l. l.price ≡ y) ls → lots_at_price s x ls ≡ cond (eqb x y) (side_lots s ls) 0
all_at s x y [] a = cond_both (eqb x y) 0 0 (λ (n : ℕ). 0 ≡ n) (λ _. refl) (λ _. refl)
all_at s x y (l ∷ ls) a = go (is s l.side) (eqb x y) (ap (eqb x) a.0) (all_at s x y ls a.1)
  where
    go : (b c : Bool) → eqb x l.price ≡ c → lots_at_price s x ls ≡ cond c (side_lots s ls) 0 → cond (b && eqb x l.price) l.lots 0 + lots_at_price s x ls ≡ cond c (cond b l.lots 0 + side_lots s ls) 0
    go true true e h = rw e (omega (arith, h))
    go true false e h = rw e (omega (arith, h))
    go false true e h = omega (arith, h)
    go false false e h = omega (arith, h)

at_append : (s : Side) (x : ℕ) (ls ms : List TapeLine) → lots_at_price s x (ls ++ ms) ≡ lots_at_price s x ls + lots_at_price s x ms
at_append s x [] ms = omega arith
at_append s x (l ∷ ls) ms = omega (arith, at_append s x ls ms)

-- Such lines are even at each price if they are in all.
even_at : (x y : ℕ) (ls : List TapeLine) → AllByRecursion (λ l. l.price ≡ y) ls → side_lots Bid ls ≡ side_lots Offer ls → lots_at_price Bid x ls ≡ lots_at_price Offer x ls
even_at x y ls a e = all_at Bid x y ls a ∙ ap (λ (n : ℕ). cond (eqb x y) n 0) e ∙ sym (all_at Offer x y ls a)

-- ---- a session entry

other_not : (s : Side) → is (other s) s ≡ false
other_not Bid = refl
other_not Offer = refl

-- What is the same for a side and the other is the same for bids and offers.
two_sides : (f : Side → ℕ) (n : ℕ) (s : Side) → f s ≡ n → f (other s) ≡ n → f Bid ≡ f Offer
two_sides f n Bid a b = a ∙ sym b
two_sides f n Offer a b = b ∙ sym a

module _ (rule : Rule) (fair : Fairly rule) (number : ℕ) (s : Side) where
  -- the lines of one level: the entry's own has as many lots as the resting orders'
  level_even : (v y : ℕ) (os : List Order) → Book os → side_lots Bid (fill rule (Entry number) s v (Limit y) (record { orders = os; tape = [] })).tape ≡ side_lots Offer (fill rule (Entry number) s v (Limit y) (record { orders = os; tape = [] })).tape
  level_even v y os b =
      let m : Step = record { orders = os; tape = [] } in
      let n : ℕ = min v (held (at s (Limit y)) os) in
      let theirs = fill_kind rule fair (Entry number) s v (Limit y) m b (λ side kind. is (other s) side) in
      let none = cond-false (is (other s) s) n 0 (other_not s) in
      let mine = cond-true (is (other s) (other s)) n 0 (is_self (other s)) in
      two_sides (λ (z : Side). side_lots z (fill rule (Entry number) s v (Limit y) m).tape) n s
      (omega (arith, fill_trades rule fair (Entry number) s v (Limit y) m b tt))
      (omega (arith, fill_account rule fair (Entry number) s v (Limit y) m b tt (λ i side. is (other s) side)))

  -- and of level after level
  serve_even : (x v : ℕ) (ys : List ℕ) (m : Step) → Book m.orders → lots_at_price Bid x m.tape ≡ lots_at_price Offer x m.tape → lots_at_price Bid x (serve rule (Entry number) s v (map Limit ys) m).tape ≡ lots_at_price Offer x (serve rule (Entry number) s v (map Limit ys) m).tape
  serve_even x v [] m b e = e
  serve_even x v (y ∷ ys) m b e =
      let new : List TapeLine = (fill rule (Entry number) s v (Limit y) (record { orders = m.orders; tape = [] })).tape in
      let at_y = fill_price (λ p. p ≡ y) rule (Entry number) s v (Limit y) (record { orders = m.orders; tape = [] }) refl tt in
      serve_even x (v - held (at s (Limit y)) m.orders) ys (fill rule (Entry number) s v (Limit y) m) (fill_book rule fair (Entry number) s v (Limit y) m b)
      (omega (arith, e, even_at x y new at_y (level_even v y m.orders b), at_append Bid x m.tape new, at_append Offer x m.tape new))

-- ---- an opening

opening_at : (rule : Rule) → Fairly rule → (os : List Order) → Book os → (x : ℕ) (p : Option ℕ) → price os ≡ p → lots_at_price Bid x (opened rule os).tape ≡ lots_at_price Offer x (opened rule os).tape
opening_at rule fair os b x None e = subst (λ (p : Option ℕ). lots_at_price Bid x (opened_at rule os (volume os) p).tape ≡ lots_at_price Offer x (opened_at rule os (volume os) p).tape) (sym e) refl
opening_at rule fair os b x (Some p) e = even_at x p (opened rule os).tape ((opening_keeps rule fair os b).at_price p e) (opening_even rule fair os b Bid ∙ sym (opening_even rule fair os b Offer))

-- ---- every call

abbrev EvenAt : ℕ → List TapeLine → Type 0
EvenAt x ls = lots_at_price Bid x ls ≡ lots_at_price Offer x ls

module _ (R : Rules) (opening : Fairly R.opening) (session : Fairly R.session) (m : Machine) (g : Good m) (x : ℕ) where
  entry_even : (e : Incoming) → EvenAt x (matched R.session e m.orders).tape
  entry_even e = cond_both (enough e.condition e.lots (reach e m.orders)) _ _ (λ (d : Matched). EvenAt x d.tape)
      (λ _. serve_even R.session session e.number (other e.side) x e.lots (filter (accepts e.side e.limit) (ranked (other e.side) m.orders)) (record { orders = m.orders; tape = [] }) g.book refl)
      (λ _. refl)

  pub each_price_kept : (c : Call) → EvenAt x (tape_of (seen m c (step R m c)))
  each_price_kept = every_way R m (λ c o. EvenAt x (tape_of (seen m c o))) (record {
    refused = λ c r. refl;
    wrong_phase = λ c. refl;
    limit_waits = λ e shut _ _ _. subst (λ (phase : Phase). EvenAt x (cond (is_open phase) m.tape [])) (sym shut) refl;
    on_open_waits = λ e _ _ _. refl;
    limit_meets = λ e trading _ _ _ _. subst (λ (phase : Phase). EvenAt x (cond (is_open phase) (matched R.session (limit_incoming m e) m.orders).tape [])) (sym trading) (entry_even (limit_incoming m e));
    market_meets = λ e _ _ _. entry_even (market_incoming m e);
    cancels = λ id n o _. refl;
    reduces = λ id n lots o _ _ _. refl;
    goes_down = λ id. refl;
    comes_up = λ id. refl;
    names = λ id successor. refl;
    tries = λ t _. refl;
    opens = λ _. opening_at R.opening opening m.orders g.book x (price m.orders) refl;
    closes = λ _. refl;
  })
