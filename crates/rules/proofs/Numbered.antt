-- What becomes of the numbers of open orders: no operation changes one, and most leave some out.
use Rattle.std.proofs.Common.{◌≡◌, ℕ, zero, suc, ◌+◌, ◌-◌, ◌<◌, ◌≤◌, min, Bool, true, cond, not, ◌&&◌, eqb, ltb, List, [], ◌∷◌, ◌++◌, map, take, Some, None, filter, Option, sym, refl, ap, ◌∙◌, subst, arith}
use Rattle.std.specs.List.{remove, list_all}
use Rattle.std.proofs.lemmas.List.{append-nil, map-append}
use Rattle.std.proofs.lemmas.List.Folds.{list_all-append}
use Rattle.std.proofs.lemmas.Bool.{and_parts, and_from, lt-ltb, ltb-true, cond_both}
use Rattle.policy.specs.Fair.{Rule}
use Rattle.rules.specs.declared.order.Side.{Side}
use Rattle.rules.specs.declared.order.Side.TheVariants.{Bid, Offer}
use Rattle.rules.specs.declared.order.Kind.{Kind}
use Rattle.rules.specs.declared.order.Kind.TheVariants.{Limit, OnOpen}
use Rattle.rules.specs.declared.order.Order.{Order}
use Rattle.rules.specs.declared.incoming.Incoming.{Incoming}
use Rattle.rules.specs.declared.tape.Terms.{Terms}
use Rattle.rules.specs.declared.tape.Terms.TheVariants.{Opening, Entry}
use Rattle.rules.specs.Numbers.{numbers, below, above, rising}
use Rattle.rules.specs.Sides.{other}
use Rattle.rules.specs.Orders.{held, at, on_open, queue}
use Rattle.rules.specs.Price.{volume, price_at}
use Rattle.rules.specs.Trades.{Step, less, taken, standing, shares, fill, serve, levels, ranked}
use Rattle.rules.specs.Opening.{stage_one, lesser, cross, turn, turned, stages, opened_at, opened}
use Rattle.rules.specs.Session.{accepts, reach, enough, met, rests, resting, Matched, matched}
use Rattle.rules.specs.Lines.{drops, passed}
use Rattle.rules.specs.Steps.{without, reduced, handed}

-- ---- leaving out

-- What stays true of numbers where one is left out. All below is stated over such a P: it serves `below n` and `rising`.
abbrev pub Thins : (List ℕ → Type 0) → Type 0
Thins P = (a b : List ℕ) (x : ℕ) → P (a ++ x ∷ b) → P (a ++ b)

-- So it stays of those behind a number.
behind : (P : List ℕ → Type 0) → Thins P → (y : ℕ) → Thins (λ xs. P (y ∷ xs))
behind P thins y a b x h = thins (y ∷ a) b x h

-- So it is of numbers that all pass a test.
all_thins : (p : ℕ → Bool) → Thins (λ xs. list_all p xs ≡ true)
all_thins p a b x h =
    let parts = and_parts (list_all p a) (p x && list_all p b) (sym (list_all-append p a (x ∷ b)) ∙ h) in
    list_all-append p a b ∙ and_from (list_all p a) (list_all p b) parts.0 (and_parts (p x) (list_all p b) parts.1).1

rising_thins : (a b : List ℕ) (x : ℕ) → rising (a ++ x ∷ b) ≡ true → rising (a ++ b) ≡ true
rising_thins [] b x h = (and_parts (above x b) (rising b) h).1
rising_thins (y ∷ a) b x h =
    let p = and_parts (above y (a ++ x ∷ b)) (rising (a ++ x ∷ b)) h in
    and_from (above y (a ++ b)) (rising (a ++ b)) (all_thins (ltb y) a b x p.0) (rising_thins a b x p.1)

pub thin_below : (n : ℕ) → Thins (λ xs. below n xs ≡ true)
thin_below n = all_thins (λ x. ltb x n)

pub thin_rising : Thins (λ xs. rising xs ≡ true)
thin_rising = rising_thins

-- ---- the same numbers

pub numbers_map : (f : Order → Order) → ((o : Order) → (f o).number ≡ o.number) → (os : List Order) → numbers (map f os) ≡ numbers os
numbers_map f keeps [] = refl
numbers_map f keeps (o ∷ os) = λ i. keeps o i ∷ numbers_map f keeps os i

pub numbers_taken : (s : Side) (k : Kind) (gs : List ℕ) (os : List Order) → numbers (taken s k gs os) ≡ numbers os
numbers_taken s k gs [] = refl
numbers_taken s k [] (o ∷ os) = refl
numbers_taken s k (g ∷ gs) (o ∷ os) =
    cond_both (at s k o) (less o g ∷ taken s k gs os) (o ∷ taken s k (g ∷ gs) os) (λ l. numbers l ≡ numbers (o ∷ os))
    (λ _. ap (λ l. o.number ∷ l) (numbers_taken s k gs os))
    (λ _. ap (λ l. o.number ∷ l) (numbers_taken s k (g ∷ gs) os))

pub numbers_reduced : (n k : ℕ) (os : List Order) → numbers (reduced n k os) ≡ numbers os
numbers_reduced n k [] = refl
numbers_reduced n k (o ∷ os) =
    cond_both (eqb o.number n) (less o k ∷ os) (o ∷ reduced n k os) (λ l. numbers l ≡ numbers (o ∷ os))
    (λ _. refl)
    (λ _. ap (λ l. o.number ∷ l) (numbers_reduced n k os))

pub numbers_passed : (id heir : ℕ) (os : List Order) → numbers (map (λ o. cond (drops id o) (passed heir o) o) os) ≡ numbers os
numbers_passed id heir os =
    numbers_map (λ o. cond (drops id o) (passed heir o) o) (λ o. cond_both (drops id o) (passed heir o) o (λ p. p.number ≡ o.number) (λ _. refl) (λ _. refl)) os

pub numbers_turned : (p : ℕ) (os : List Order) → numbers (map (turn p) os) ≡ numbers os
numbers_turned p os = numbers_map (turn p) (λ o. refl) os

-- ---- some of the orders

pub thin_kept : (P : List ℕ → Type 0) → Thins P → (t : Order → Bool) (os : List Order) → P (numbers os) → P (numbers (filter t os))
thin_kept P thins t [] h = h
thin_kept P thins t (o ∷ os) h =
    cond_both (t o) (o ∷ filter t os) (filter t os) (λ l. P (numbers l))
    (λ _. thin_kept (λ xs. P (o.number ∷ xs)) (behind P thins o.number) t os h)
    (λ _. thin_kept P thins t os (thins [] (numbers os) o.number h))

pub thin_without : (P : List ℕ → Type 0) → Thins P → (n : ℕ) (os : List Order) → P (numbers os) → P (numbers (without n os))
thin_without P thins n [] h = h
thin_without P thins n (o ∷ os) h =
    cond_both (eqb o.number n) os (o ∷ without n os) (λ l. P (numbers l))
    (λ _. thins [] (numbers os) o.number h)
    (λ _. thin_without (λ xs. P (o.number ∷ xs)) (behind P thins o.number) n os h)

pub thin_take : (P : List ℕ → Type 0) → Thins P → (n : ℕ) (os : List Order) → P (numbers os) → P (numbers (take n os))
thin_take P thins zero [] h = h
thin_take P thins zero (o ∷ os) h = thin_take P thins zero os (thins [] (numbers os) o.number h)
thin_take P thins (suc n) [] h = h
thin_take P thins (suc n) (o ∷ os) h = thin_take (λ xs. P (o.number ∷ xs)) (behind P thins o.number) n os h

pub thin_removed : (P : List ℕ → Type 0) → Thins P → (i : ℕ) (os : List Order) → P (numbers os) → P (numbers (remove os i))
thin_removed P thins zero [] h = h
thin_removed P thins (suc i) [] h = h
thin_removed P thins zero (o ∷ os) h = thins [] (numbers os) o.number h
thin_removed P thins (suc i) (o ∷ os) h = thin_removed (λ xs. P (o.number ∷ xs)) (behind P thins o.number) i os h

-- ---- one order more

all_push : (p : ℕ → Bool) (x : ℕ) (xs : List ℕ) → p x ≡ true → list_all p xs ≡ true → list_all p (xs ++ x ∷ []) ≡ true
all_push p x xs here h = list_all-append p xs (x ∷ []) ∙ and_from (list_all p xs) (p x && true) h (and_from (p x) true here refl)

rising_push : (x : ℕ) (xs : List ℕ) → below x xs ≡ true → rising xs ≡ true → rising (xs ++ x ∷ []) ≡ true
rising_push x [] b h = refl
rising_push x (y ∷ xs) b h =
    let q = and_parts (ltb y x) (below x xs) b in
    let p = and_parts (above y xs) (rising xs) h in
    and_from (above y (xs ++ x ∷ [])) (rising (xs ++ x ∷ [])) (all_push (ltb y) x xs q.0 p.0) (rising_push x xs q.1 p.1)

-- An order of a number above all others keeps them rising.
pub rising_more : (os : List Order) (o : Order) → below o.number (numbers os) ≡ true → rising (numbers os) ≡ true → rising (numbers (os ++ o ∷ [])) ≡ true
rising_more os o b h = ap rising (map-append (λ (p : Order). p.number) os (o ∷ [])) ∙ rising_push o.number (numbers os) b h

pub below_more : (n : ℕ) (os : List Order) (o : Order) → o.number < n → below n (numbers os) ≡ true → below n (numbers (os ++ o ∷ [])) ≡ true
below_more n os o lt h = ap (below n) (map-append (λ (p : Order). p.number) os (o ∷ [])) ∙ all_push (λ x. ltb x n) o.number (numbers os) (lt-ltb o.number n lt) h

pub below_weaker : (n m : ℕ) (xs : List ℕ) → n ≤ m → below n xs ≡ true → below m xs ≡ true
below_weaker n m [] le h = refl
below_weaker n m (x ∷ xs) le h =
    let p = and_parts (ltb x n) (below n xs) h in
    let lt = ltb-true x n p.0 in
    and_from (ltb x m) (below m xs) (lt-ltb x m (omega arith)) (below_weaker n m xs le p.1)

pub below_next : (n : ℕ) (xs : List ℕ) → below n xs ≡ true → below (n + 1) xs ≡ true
below_next n xs h = below_weaker n (n + 1) xs (omega arith) h

-- ---- trades

module _ (P : List ℕ → Type 0) (thins : Thins P) where
  pub thin_traded : (s : Side) (k : Kind) (gs : List ℕ) (os : List Order) → P (numbers os) → P (numbers (standing (taken s k gs os)))
  thin_traded s k gs os h = thin_kept P thins (λ o. ltb 0 o.lots) (taken s k gs os) (subst P (sym (numbers_taken s k gs os)) h)

  pub thin_fill : (rule : Rule) (terms : Terms) (s : Side) (v : ℕ) (k : Kind) (m : Step) → P (numbers m.orders) → P (numbers (fill rule terms s v k m).orders)
  thin_fill rule terms s v k m h = thin_traded s k (shares rule (queue s k m.orders) v) m.orders h

  pub thin_serve : (rule : Rule) (terms : Terms) (s : Side) (v : ℕ) (ks : List Kind) (m : Step) → P (numbers m.orders) → P (numbers (serve rule terms s v ks m).orders)
  thin_serve rule terms s v [] m h = h
  thin_serve rule terms s v (k ∷ ks) m h = thin_serve rule terms s (v - held (at s k) m.orders) ks (fill rule terms s v k m) (thin_fill rule terms s v k m h)

  pub thin_cross : (rule : Rule) (p : ℕ) (k : Kind) (m : Step) → P (numbers m.orders) → P (numbers (cross rule p k m).orders)
  thin_cross rule p k m h =
      let v = lesser k m.orders in
      thin_fill rule (Opening p) Offer v k (fill rule (Opening p) Bid v k m) (thin_fill rule (Opening p) Bid v k m h)

  pub thin_stage_one : (rule : Rule) (p v : ℕ) (m : Step) → P (numbers m.orders) → P (numbers (stage_one rule p v m).orders)
  thin_stage_one rule p v m h =
      thin_serve rule (Opening p) Offer v (levels Offer m.orders) (serve rule (Opening p) Bid v (levels Bid m.orders) m) (thin_serve rule (Opening p) Bid v (levels Bid m.orders) m h)

  pub thin_turned : (p : ℕ) (m : Step) → P (numbers m.orders) → P (numbers (turned p m).orders)
  thin_turned p m h = subst P (sym (numbers_turned p m.orders)) h

  pub thin_stages : (rule : Rule) (p v : ℕ) (os : List Order) → P (numbers os) → P (numbers (stages rule p v os).orders)
  thin_stages rule p v os h =
      let one : Step = stage_one rule p v (record { orders = os; tape = [] }) in
      let two : Step = cross rule p OnOpen one in
      thin_cross rule p (Limit p) (turned p two) (thin_turned p two (thin_cross rule p OnOpen one (thin_stage_one rule p v (record { orders = os; tape = [] }) h)))

  pub thin_opened_at : (rule : Rule) (os : List Order) (v : ℕ) (price : Option ℕ) → P (numbers os) → P (numbers (opened_at rule os v price).orders)
  thin_opened_at rule os v None h = thin_kept P thins (λ o. not (on_open o)) os h
  thin_opened_at rule os v (Some p) h = thin_stages rule p v os h

  pub thin_opened : (rule : Rule) (os : List Order) → P (numbers os) → P (numbers (opened rule os).orders)
  thin_opened rule os h = thin_opened_at rule os (volume os) (price_at (volume os) os) h

  pub thin_met : (rule : Rule) (e : Incoming) (os : List Order) → P (numbers os) → P (numbers (met rule e os).orders)
  thin_met rule e os h =
      thin_serve rule (Entry e.number) (other e.side) e.lots (map Limit (filter (accepts e.side e.limit) (ranked (other e.side) os))) (record { orders = os; tape = [] }) h

  pub thin_handed : (id : ℕ) (heir : Option ℕ) (os : List Order) → P (numbers os) → P (numbers (handed id heir os))
  thin_handed id None os h = thin_kept P thins (λ o. not (drops id o)) os h
  thin_handed id (Some heir) os h = subst P (sym (numbers_passed id heir os)) h

-- ---- an entry in session

rested : (Q : List Order → Type 0) (e : Incoming) (limit : Option ℕ) (n : ℕ) (ps : List Order) → Q ps → ((o : Order) → o.number ≡ e.number → Q (ps ++ o ∷ [])) → Q (ps ++ resting e limit n)
rested Q e None n ps none more = subst Q (sym (append-nil ps)) none
rested Q e (Some q) n ps none more =
    let o : Order = record { number = e.number; id = e.id; side = e.side; kind = Limit q; lots = n; lifetime = e.lifetime } in
    cond_both (rests (Some q) e.condition && ltb 0 n) (o ∷ []) [] (λ l. Q (ps ++ l)) (λ _. more o refl) (λ _. subst Q (sym (append-nil ps)) none)

-- The orders stay as they were, or the entry walked over them, and its rest may stand behind them.
from_walk : (Q : List Order → Type 0) (rule : Rule) (e : Incoming) (os : List Order) → Q os → Q (met rule e os).orders → ((o : Order) → o.number ≡ e.number → Q ((met rule e os).orders ++ o ∷ [])) → Q (matched rule e os).orders
from_walk Q rule e os same none more =
    cond_both (enough e.condition e.lots (reach e os)) _ _ (λ (d : Matched). Q d.orders) (λ _. rested Q e e.limit (e.lots - min e.lots (reach e os)) (met rule e os).orders none more) (λ _. same)

pub below_matched : (n : ℕ) (rule : Rule) (e : Incoming) (os : List Order) → e.number < n → below n (numbers os) ≡ true → below n (numbers (matched rule e os).orders) ≡ true
below_matched n rule e os lt h =
    let walked = thin_met (λ xs. below n xs ≡ true) (thin_below n) rule e os h in
    from_walk (λ os. below n (numbers os) ≡ true) rule e os h walked (λ o same. below_more n (met rule e os).orders o (omega arith) walked)
