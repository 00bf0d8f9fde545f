-- How many orders of a kind are open, and how many lines a trade with them writes.
use Rattle.std.proofs.Common.{◌≡◌, ℕ, ◌+◌, ◌≤◌, min, Bool, true, cond, not, ◌&&◌, eqb, ltb, List, [], ◌∷◌, ◌++◌, length, refl, arith}
use Rattle.std.proofs.lemmas.List.{length-append}
use Rattle.std.proofs.lemmas.Bool.{cond_both}
use Rattle.std.proofs.lemmas.List.Elements.{length_all_zip}
use Rattle.policy.specs.Fair.{Rule, Fairly}
use Rattle.rules.specs.declared.order.Side.{Side}
use Rattle.rules.specs.declared.order.Side.TheVariants.{Bid, Offer}
use Rattle.rules.specs.declared.order.Kind.{Kind}
use Rattle.rules.specs.declared.order.Kind.TheVariants.{Limit, OnOpen}
use Rattle.rules.specs.declared.order.Order.{Order}
use Rattle.rules.specs.declared.tape.Terms.{Terms}
use Rattle.rules.specs.declared.tape.Terms.TheVariants.{Opening, Entry}
use Rattle.rules.specs.Sides.{is, other}
use Rattle.rules.specs.Orders.{held, priced, price_of, prices, same, at, level, queue, Sound, Book}
use Rattle.rules.specs.Trades.{shares, less, taken, standing, line, lines, Step, fill}
use Rattle.rules.proofs.Shared.{shares_fair}
use Rattle.rules.proofs.Filled.{of_kind, fill_level}
use Rattle.table.proofs.Taking.{short_line, lines_few}
use Rattle.table.proofs.Queues.{queue_length, book_queue}
use Rattle.matching.specs.Steps.{lines_for}

-- The orders whose side and kind pass.
abbrev pub many : (Side → Kind → Bool) → List Order → ℕ
many T [] = 0
many T (o ∷ os) = cond (T o.side o.kind) 1 0 + many T os

-- Those of a level; a side's limit orders; all of those but the ones at a price.
abbrev pub At : Side → Kind → Side → Kind → Bool
At s k side kind = is s side && same k kind

abbrev pub Limits : Side → Side → Kind → Bool
Limits s side kind = is s side && priced (λ x. true) kind

abbrev Others : Side → ℕ → Side → Kind → Bool
Others s x side kind = is s side && priced (λ y. not (eqb x y)) kind

pub many_level : (s : Side) (k : Kind) (os : List Order) → length (level s k os) ≡ many (At s k) os
many_level s k [] = refl
many_level s k (o ∷ os) = cond_both (at s k o) (o ∷ level s k os) (level s k os) (λ z. length z ≡ cond (at s k o) 1 0 + many (At s k) os)
    (λ e. rw e (omega (arith, many_level s k os)))
    (λ e. rw e (omega (arith, many_level s k os)))

one_price : (s s' : Side) (k : Kind) (xs : List ℕ) → length (cond (is s s') (price_of k xs) xs) ≡ cond (is s s' && priced (λ x. true) k) 1 0 + length xs
one_price Bid Bid (Limit x) xs = omega arith
one_price Bid Bid OnOpen xs = omega arith
one_price Bid Offer k xs = omega arith
one_price Offer Bid k xs = omega arith
one_price Offer Offer (Limit x) xs = omega arith
one_price Offer Offer OnOpen xs = omega arith

pub many_prices : (s : Side) (os : List Order) → length (prices s os) ≡ many (Limits s) os
many_prices s [] = refl
many_prices s (o ∷ os) = omega (arith, one_price s o.side o.kind (prices s os), many_prices s os)

-- each has a lot
pub many_held : (T : Side → Kind → Bool) (os : List Order) → Sound os → many T os ≤ of_kind T os
many_held T [] a = omega arith
many_held T (o ∷ os) a = omega (
  arith,
  many_held T os a.1,
  cond_both (T o.side o.kind) 1 0 (λ n. n ≤ cond (T o.side o.kind) o.lots 0) (λ e. rw e a.0.0) (λ e. omega arith),
)

pub many_split : (T T₁ T₂ : Side → Kind → Bool) → ((s : Side) (k : Kind) → cond (T s k) 1 0 ≡ cond (T₁ s k) 1 0 + cond (T₂ s k) 1 0) → (os : List Order) → many T os ≡ many T₁ os + many T₂ os
many_split T T₁ T₂ each [] = refl
many_split T T₁ T₂ each (o ∷ os) = omega (arith, each o.side o.kind, many_split T T₁ T₂ each os)

price_parts : (b : Bool) → 1 ≡ cond b 1 0 + cond (not b) 1 0
price_parts b = cond_both b 1 0 (λ n. 1 ≡ n + cond (not b) 1 0) (λ e. rw e) (λ e. rw e)

level_parts : (s : Side) (x : ℕ) (s' : Side) (k : Kind) → cond (is s s' && priced (λ x. true) k) 1 0 ≡ cond (is s s' && same (Limit x) k) 1 0 + cond (is s s' && priced (λ y. not (eqb x y)) k) 1 0
level_parts Bid x Bid (Limit y) = price_parts (eqb x y)
level_parts Bid x Bid OnOpen = refl
level_parts Bid x Offer k = refl
level_parts Offer x Bid k = refl
level_parts Offer x Offer (Limit y) = price_parts (eqb x y)
level_parts Offer x Offer OnOpen = refl

-- a side's limit orders: those at a price, and the others
pub many_at : (s : Side) (x : ℕ) (os : List Order) → many (Limits s) os ≡ many (At s (Limit x)) os + many (Others s x) os
many_at s x os = many_split (Limits s) (At s (Limit x)) (Others s x) (level_parts s x) os

-- ---- a fill leaves no more of any kind

many_taken : (T : Side → Kind → Bool) (s : Side) (k : Kind) (gs : List ℕ) (os : List Order) → many T (taken s k gs os) ≡ many T os
many_taken T s k gs [] = refl
many_taken T s k [] (o ∷ os) = refl
many_taken T s k (g ∷ gs) (o ∷ os) = cond_both (at s k o) (less o g ∷ taken s k gs os) (o ∷ taken s k (g ∷ gs) os) (λ z. many T z ≡ cond (T o.side o.kind) 1 0 + many T os)
    (λ _. omega (arith, many_taken T s k gs os))
    (λ _. omega (arith, many_taken T s k (g ∷ gs) os))

many_standing : (T : Side → Kind → Bool) (os : List Order) → many T (standing os) ≤ many T os
many_standing T [] = omega arith
many_standing T (o ∷ os) = cond_both (ltb 0 o.lots) (o ∷ standing os) (standing os) (λ z. many T z ≤ cond (T o.side o.kind) 1 0 + many T os)
    (λ _. omega (arith, many_standing T os))
    (λ _. omega (arith, many_standing T os))

pub many_fill : (T : Side → Kind → Bool) (rule : Rule) (terms : Terms) (s : Side) (v : ℕ) (k : Kind) (m : Step) → many T (fill rule terms s v k m).orders ≤ many T m.orders
many_fill T rule terms s v k m =
    let gs : List ℕ = shares rule (queue s k m.orders) v in
    omega (arith, many_standing T (taken s k gs m.orders), many_taken T s k gs m.orders)

-- ---- lines

module _ (rule : Rule) (fair : Fairly rule) (s : Side) (v : ℕ) (m : Step) (b : Book m.orders) where
  level_lines : (p : ℕ) (k : Kind) → length (lines p (level s k m.orders) (shares rule (queue s k m.orders) v)) ≤ length (level s k m.orders)
  level_lines p k =
      let q : List ℕ = queue s k m.orders in
      let f = shares_fair rule fair q v (book_queue s k m.orders b) in
      omega (arith, lines_few p (level s k m.orders) (shares rule q v), length_all_zip (λ place given. given ≤ place) q (shares rule q v) f.within, queue_length s k m.orders)

  -- a fill at an opening writes a line at most of each order of the level
  pub fill_lines : (p : ℕ) (k : Kind) → length (fill rule (Opening p) s v k m).tape ≤ length m.tape + length (level s k m.orders)
  fill_lines p k = omega (arith, length-append m.tape (lines p (level s k m.orders) (shares rule (queue s k m.orders) v)), level_lines p k)

  -- and a session entry writes one more
  pub turn_lines : (terms : Terms) (x : ℕ) → 1 ≤ length (level s (Limit x) m.orders) → length (fill rule terms s v (Limit x) m).tape ≤ length m.tape + lines_for terms (length (level s (Limit x) m.orders))
  turn_lines (Opening p) x some = fill_lines p (Limit x)
  turn_lines (Entry number) x some =
      let own : ℕ = min v (held (at s (Limit x)) m.orders) in
      let resting = lines x (level s (Limit x) m.orders) (shares rule (queue s (Limit x) m.orders) v) in
      omega (arith, length-append m.tape (resting ++ line number (other s) x own), length-append resting (line number (other s) x own), level_lines x (Limit x), short_line number (other s) x own)

  -- where the level trades out, its orders are gone
  pub turn_orders : (terms : Terms) (x : ℕ) → held (at s (Limit x)) m.orders ≤ v → Sound (fill rule terms s v (Limit x) m).orders → length (prices s (fill rule terms s v (Limit x) m).orders) + length (level s (Limit x) m.orders) ≤ length (prices s m.orders)
  turn_orders terms x out sound =
      let n : Step = fill rule terms s v (Limit x) m in
      omega (
        arith,
        many_prices s n.orders,
        many_prices s m.orders,
        many_level s (Limit x) m.orders,
        many_at s x n.orders,
        many_at s x m.orders,
        many_fill (Others s x) rule terms s v (Limit x) m,
        many_held (At s (Limit x)) n.orders sound,
        fill_level rule fair terms s v (Limit x) m b,
      )

pub level_within : (s : Side) (x : ℕ) (os : List Order) → length (level s (Limit x) os) ≤ length (prices s os)
level_within s x os = omega (arith, many_prices s os, many_level s (Limit x) os, many_at s x os)
