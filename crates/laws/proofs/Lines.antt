-- Where the lines of a tape come from: each is that of an order of the level traded with, or the entry's own.
use Rattle.std.proofs.Common.{◌≡◌, ℕ, ◌-◌, ◌<◌, ◌≤◌, min, Bool, cond, not, ◌&&◌, eqb, ltb, List, [], ◌∷◌, map, Some, None, filter, Option, sym, subst, arith}
use Rattle.std.specs.List.{AllByRecursion}
use Rattle.std.proofs.lemmas.Bool.{cond_both, ltb-true}
use Rattle.std.proofs.ByRecursion.{All-append, all_kept_by}
use Rattle.policy.specs.Fair.{total, Rule, Fairly}
use Rattle.rules.specs.declared.order.Side.{Side}
use Rattle.rules.specs.declared.order.Side.TheVariants.{Bid, Offer}
use Rattle.rules.specs.declared.order.Kind.{Kind}
use Rattle.rules.specs.declared.order.Kind.TheVariants.{Limit, OnOpen}
use Rattle.rules.specs.declared.order.Order.{Order}
use Rattle.rules.specs.declared.tape.TapeLine.{TapeLine}
use Rattle.rules.specs.declared.tape.Terms.{Terms}
use Rattle.rules.specs.declared.tape.Terms.TheVariants.{Opening, Entry}
use Rattle.rules.specs.Sides.{is, other}
use Rattle.rules.specs.Orders.{held, same, at, level, queue, Book}
use Rattle.rules.specs.Trades.{shares, less, taken, line, lines, written, Step, fill, serve, ranked, levels}
use Rattle.rules.specs.Opening.{stage_one, lesser, cross, turn}
use Rattle.rules.specs.Lines.{drops, passed}
use Rattle.rules.specs.Steps.{without, reduced, handed}
use Rattle.rules.proofs.Filled.{at_side, at_kind, line_price, shares_sum, fill_book, fill_kind, fill_level}
use Rattle.rules.proofs.Served.{serve_book, serve_le}

-- ---- orders keep their number, side and kind

-- Every order is of a number, a side and a kind of which P holds.
abbrev pub Everywhere : (ℕ → Side → Kind → Type 0) → List Order → Type 0
Everywhere P os = AllByRecursion (λ o. P o.number o.side o.kind) os

module _ (P : ℕ → Side → Kind → Type 0) where
  -- shares taken off
  each_taken : (s : Side) (k : Kind) (gs : List ℕ) (os : List Order) → Everywhere P os → Everywhere P (taken s k gs os)
  each_taken s k gs [] a = tt
  each_taken s k [] (o ∷ os) a = a
  each_taken s k (g ∷ gs) (o ∷ os) a = cond_both (at s k o) (less o g ∷ taken s k gs os) (o ∷ taken s k (g ∷ gs) os) (Everywhere P)
      (λ _. (a.0, each_taken s k gs os a.1))
      (λ _. (a.0, each_taken s k (g ∷ gs) os a.1))

  -- what stays of some orders
  pub each_kept : (t : Order → Bool) (os : List Order) → Everywhere P os → Everywhere P (filter t os)
  each_kept t os a = all_kept_by t (λ o. P o.number o.side o.kind) os a

  -- one level, level after level, and the stages that trade
  pub each_fill : (rule : Rule) (terms : Terms) (s : Side) (v : ℕ) (k : Kind) (m : Step) → Everywhere P m.orders → Everywhere P (fill rule terms s v k m).orders
  each_fill rule terms s v k m a =
      let gs : List ℕ = shares rule (queue s k m.orders) v in
      each_kept (λ o. ltb 0 o.lots) (taken s k gs m.orders) (each_taken s k gs m.orders a)

  pub each_serve : (rule : Rule) (terms : Terms) (s : Side) (v : ℕ) (ks : List Kind) (m : Step) → Everywhere P m.orders → Everywhere P (serve rule terms s v ks m).orders
  each_serve rule terms s v [] m a = a
  each_serve rule terms s v (k ∷ ks) m a = each_serve rule terms s (v - held (at s k) m.orders) ks (fill rule terms s v k m) (each_fill rule terms s v k m a)

  pub each_cross : (rule : Rule) (p : ℕ) (k : Kind) (m : Step) → Everywhere P m.orders → Everywhere P (cross rule p k m).orders
  each_cross rule p k m a =
      let w : ℕ = lesser k m.orders in
      each_fill rule (Opening p) Offer w k (fill rule (Opening p) Bid w k m) (each_fill rule (Opening p) Bid w k m a)

  pub each_one : (rule : Rule) (p v : ℕ) (m : Step) → Everywhere P m.orders → Everywhere P (stage_one rule p v m).orders
  each_one rule p v m a =
      let bids : Step = serve rule (Opening p) Bid v (levels Bid m.orders) m in
      each_serve rule (Opening p) Offer v (levels Offer m.orders) bids (each_serve rule (Opening p) Bid v (levels Bid m.orders) m a)

  -- a cancellation, a reduction, and a line that goes down
  pub each_without : (n : ℕ) (os : List Order) → Everywhere P os → Everywhere P (without n os)
  each_without n [] a = tt
  each_without n (o ∷ os) a = cond_both (eqb o.number n) os (o ∷ without n os) (Everywhere P) (λ _. a.1) (λ _. (a.0, each_without n os a.1))

  pub each_reduced : (n lots : ℕ) (os : List Order) → Everywhere P os → Everywhere P (reduced n lots os)
  each_reduced n lots [] a = tt
  each_reduced n lots (o ∷ os) a = cond_both (eqb o.number n) (less o lots ∷ os) (o ∷ reduced n lots os) (Everywhere P) (λ _. a) (λ _. (a.0, each_reduced n lots os a.1))

  each_passed : (id heir : ℕ) (os : List Order) → Everywhere P os → Everywhere P (map (λ o. cond (drops id o) (passed heir o) o) os)
  each_passed id heir [] a = tt
  each_passed id heir (o ∷ os) a = (cond_both (drops id o) (passed heir o) o (λ (z : Order). P z.number z.side z.kind) (λ _. a.0) (λ _. a.0), each_passed id heir os a.1)

  pub each_handed : (id : ℕ) (heir : Option ℕ) (os : List Order) → Everywhere P os → Everywhere P (handed id heir os)
  each_handed id None os a = each_kept (λ o. not (drops id o)) os a
  each_handed id (Some heir) os a = each_passed id heir os a

-- the kind of an order that an opening turns
pub each_turned : (P P' : ℕ → Side → Kind → Type 0) (p : ℕ) → ((n : ℕ) (s : Side) (x : ℕ) → P n s (Limit x) → P' n s (Limit x)) → ((n : ℕ) (s : Side) → P n s OnOpen → P' n s (Limit p)) → (os : List Order) → Everywhere P os → Everywhere P' (map (turn p) os)
each_turned P P' p as_is turns [] a = tt
each_turned P P' p as_is turns (o ∷ os) a = (go o.kind a.0, each_turned P P' p as_is turns os a.1)
  where
    go : (k : Kind) → P o.number o.side k → P' o.number o.side (turn p (record { number = o.number; id = o.id; side = o.side; kind = k; lots = o.lots; lifetime = o.lifetime })).kind
    go (Limit x) h = as_is o.number o.side x h
    go OnOpen h = turns o.number o.side h

-- ---- lines

-- Every line is of a number, a side and a price of which Q holds.
abbrev pub Lined : (ℕ → Side → ℕ → Type 0) → List TapeLine → Type 0
Lined Q ls = AllByRecursion (λ l. Q l.number l.side l.price) ls

-- nothing is asked of any
pub all_any : {X : Type 0} (xs : List X) → AllByRecursion (λ x. Unit {0}) xs
all_any [] = tt
all_any (x ∷ xs) = (tt, all_any xs)

-- Q holds of the entry's own line for a trade with a level; at an opening there is none.
abbrev pub OwnLine : (ℕ → Side → ℕ → Type 0) → Terms → Side → Kind → Type 0
OwnLine Q (Opening p) s k = Unit {0}
OwnLine Q (Entry number) s (Limit x) = Q number (other s) x
OwnLine Q (Entry number) s OnOpen = Unit {0}

module _ (P : ℕ → Side → Kind → Type 0) (Q : ℕ → Side → ℕ → Type 0) where
  -- a level's orders are of its side and kind
  level_lines : (C : Type 0) (s : Side) (k : Kind) (p : ℕ) → (C → (n : ℕ) → P n s k → Q n s p) → (os : List Order) → Everywhere P os → AllByRecursion (λ o. C → Q o.number o.side p) (level s k os)
  level_lines C s k p h [] a = tt
  level_lines C s k p h (o ∷ os) a = cond_both (at s k o) (o ∷ level s k os) (level s k os) (AllByRecursion (λ (z : Order). C → Q z.number z.side p))
      (λ e.
      let is-s : o.side ≡ s = at_side s o.side k o.kind e in
      let is-k : o.kind ≡ k = at_kind s o.side k o.kind e in
      ((λ c. subst (λ (z : Side). Q o.number z p) (sym is-s) (h c o.number (subst (λ (z : Kind). P o.number s z) is-k (subst (λ (z : Side). P o.number z o.kind) is-s a.0)))), level_lines C s k p h os a.1))
      (λ _. level_lines C s k p h os a.1)

  -- a line has at least one lot
  of_line : (number : ℕ) (s : Side) (p n : ℕ) → (0 < n → Q number s p) → Lined Q (line number s p n)
  of_line number s p n h = cond_both (ltb 0 n) (record { number = number; side = s; price = p; lots = n } ∷ []) [] (Lined Q) (λ e. (h (ltb-true 0 n e), tt)) (λ _. tt)

  -- and where it has one its share is not nothing
  of_lines : (C : Type 0) (p : ℕ) (os : List Order) (gs : List ℕ) → (0 < total gs → C) → AllByRecursion (λ o. C → Q o.number o.side p) os → Lined Q (lines p os gs)
  of_lines C p [] gs c a = tt
  of_lines C p (o ∷ os) [] c a = tt
  of_lines C p (o ∷ os) (g ∷ gs) c a = All-append (λ l. Q l.number l.side l.price) (line o.number o.side p g) (lines p os gs)
      (of_line o.number o.side p g (λ pos. a.0 (c (omega arith))))
      (of_lines C p os gs (λ pos. c (omega arith)) a.1)

  -- what a trade with a level writes
  of_written : (terms : Terms) (s : Side) (v : ℕ) (k : Kind) (os : List Order) (gs : List ℕ) → total gs ≡ min v (held (at s k) os) → Everywhere P os → (0 < min v (held (at s k) os) → ((n : ℕ) → P n s k → Q n s (line_price terms k)) × OwnLine Q terms s k) → Lined Q (written terms s v k os gs)
  of_written (Opening p) s v k os gs sum a h = of_lines (0 < min v (held (at s k) os)) p (level s k os) gs (λ pos. omega arith) (level_lines (0 < min v (held (at s k) os)) s k p (λ c. (h c).0) os a)
  of_written (Entry number) s v (Limit x) os gs sum a h =
      let n : ℕ = min v (held (at s (Limit x)) os) in
      All-append (λ l. Q l.number l.side l.price) (lines x (level s (Limit x) os) gs) (line number (other s) x n)
      (of_lines (0 < n) x (level s (Limit x) os) gs (λ pos. omega arith) (level_lines (0 < n) s (Limit x) x (λ c. (h c).0) os a))
      (of_line number (other s) x n (λ pos. (h pos).1))
  of_written (Entry number) s v OnOpen os gs sum a h = tt

  -- a fill writes lines where its level has lots less
  pub fill_lines : (rule : Rule) → Fairly rule → (terms : Terms) (s : Side) (v : ℕ) (k : Kind) (m : Step) → Book m.orders → Everywhere P m.orders →
      (held (at s k) (fill rule terms s v k m).orders < held (at s k) m.orders → ((n : ℕ) → P n s k → Q n s (line_price terms k)) × OwnLine Q terms s k) → Lined Q m.tape → Lined Q (fill rule terms s v k m).tape
  fill_lines rule fair terms s v k m b a h old =
      let gs : List ℕ = shares rule (queue s k m.orders) v in
      let e = fill_level rule fair terms s v k m b in
      All-append (λ l. Q l.number l.side l.price) m.tape (written terms s v k m.orders gs) old
      (of_written terms s v k m.orders gs (shares_sum rule fair s v k m.orders b) a (λ pos. h (omega arith)))

  -- levels served in turn write lines where they have lots less, M at the start and in the end
  pub serve_lines : (rule : Rule) → Fairly rule → (terms : Terms) (s : Side) (A : ℕ → Type 0) (M : List Order) (v : ℕ) (xs : List ℕ) (m : Step) → Book m.orders → Everywhere P m.orders → AllByRecursion A xs →
      ((x : ℕ) → held (at s (Limit x)) m.orders ≤ held (at s (Limit x)) M) →
      ((x : ℕ) → A x → held (at s (Limit x)) (serve rule terms s v (map Limit xs) m).orders < held (at s (Limit x)) M → ((n : ℕ) → P n s (Limit x) → Q n s (line_price terms (Limit x))) × OwnLine Q terms s (Limit x)) →
      Lined Q m.tape → Lined Q (serve rule terms s v (map Limit xs) m).tape
  serve_lines rule fair terms s A M v [] m b a all le h old = old
  serve_lines rule fair terms s A M v (x ∷ xs) m b a all le h old =
      let n : Step = fill rule terms s v (Limit x) m in
      let w : ℕ = v - held (at s (Limit x)) m.orders in
      let nb = fill_book rule fair terms s v (Limit x) m b in
      serve_lines rule fair terms s A M w xs n nb (each_fill P rule terms s v (Limit x) m a) all.1
      (λ y. omega (arith, le y, fill_kind rule fair terms s v (Limit x) m b (λ side kind. is s side && same (Limit y) kind)))
      h
      (fill_lines rule fair terms s v (Limit x) m b a
      (λ fewer. h x all.0 (omega (arith, le x, serve_le rule fair terms s w (map Limit xs) n nb (λ side kind. is s side && same (Limit x) kind))))
      old)

  -- stage one, bids and then offers
  pub one_lines : (rule : Rule) → Fairly rule → (p v : ℕ) (m : Step) → Book m.orders → Everywhere P m.orders →
      let bids = serve rule (Opening p) Bid v (levels Bid m.orders) m in
      ((x : ℕ) → held (at Bid (Limit x)) bids.orders < held (at Bid (Limit x)) m.orders → (n : ℕ) → P n Bid (Limit x) → Q n Bid p) →
      ((x : ℕ) → held (at Offer (Limit x)) (stage_one rule p v m).orders < held (at Offer (Limit x)) bids.orders → (n : ℕ) → P n Offer (Limit x) → Q n Offer p) →
      Lined Q m.tape → Lined Q (stage_one rule p v m).tape
  one_lines rule fair p v m b each bid offer old =
      let bids : Step = serve rule (Opening p) Bid v (levels Bid m.orders) m in
      serve_lines rule fair (Opening p) Offer (λ x. Unit {0}) bids.orders v (ranked Offer m.orders) bids (serve_book rule fair (Opening p) Bid v (levels Bid m.orders) m b) (each_serve P rule (Opening p) Bid v (levels Bid m.orders) m each) (all_any (ranked Offer m.orders)) (λ x. omega arith) (λ x _ fewer. (offer x fewer, tt))
      (serve_lines rule fair (Opening p) Bid (λ x. Unit {0}) m.orders v (ranked Bid m.orders) m b each (all_any (ranked Bid m.orders)) (λ x. omega arith) (λ x _ fewer. (bid x fewer, tt)) old)
