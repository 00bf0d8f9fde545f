-- The walk through the levels of a side, best first.
use Rattle.std.proofs.Common.{◌≡◌, ℕ, ◌+◌, ◌-◌, ◌<◌, ◌≤◌, min, Bool, true, false, cond, ◌&&◌, eqb, List, [], ◌∷◌, map, length, Some, None, filter, sym, refl, ap, ◌∙◌, subst, inl, inr, arith}
use Rattle.std.proofs.lemmas.Bool.{cases_lt, cases_eq, cond_both, cond-true, cond-false, eq-eqb, ne_eqb}
use Rattle.policy.specs.Fair.{Rule, Fairly}
use Rattle.rules.specs.declared.order.Side.{Side}
use Rattle.rules.specs.declared.order.Kind.{Kind}
use Rattle.rules.specs.declared.order.Kind.TheVariants.{Limit}
use Rattle.rules.specs.declared.order.Order.{Order}
use Rattle.rules.specs.declared.tape.Terms.{Terms}
use Rattle.rules.specs.declared.tape.Terms.TheVariants.{Opening, Entry}
use Rattle.rules.specs.Sides.{is}
use Rattle.rules.specs.Orders.{held, priced, limits, prices, at, level, Sound, Book}
use Rattle.rules.specs.Trades.{Step, fill, serve, ranked}
use Rattle.rules.specs.Laws.{In}
use Rattle.rules.proofs.Held.{lots_at}
use Rattle.rules.proofs.Filled.{fill_book, fill_kind}
use Rattle.rules.proofs.Served.{at_level, limits_none, own_test, Sorted, serve_none}
use Rattle.matching.specs.Steps.{lines_for}
use Rattle.matching.specs.Best.{first_of, next_of}
use Rattle.matching.proofs.Ranks.{first_some, first_none, once, ranked_in, in_ranked, ranked_sorted, ranked_is}
use Rattle.matching.proofs.Counts.{turn_lines, turn_orders, level_within}

-- The levels at the prices of a book that pass, best first.
abbrev pub passing : Side → (ℕ → Bool) → List Order → List Kind
passing s t os = map Limit (filter t (ranked s os))

-- Where v lots walked from m, and left are left to walk from n.
pub record Walked (rule : Rule) (terms : Terms) (s : Side) (t : ℕ → Bool) (v : ℕ) (m : Step) (left : ℕ) (n : Step) : Type 0 where
  -- from here it comes to the same
  pub same : serve rule terms s left (passing s t n.orders) n ≡ serve rule terms s v (passing s t m.orders) m
  pub over : left - limits s t n.orders ≡ v - limits s t m.orders
  -- what is written, and what the orders left may still write
  pub lines : length n.tape ≤ length m.tape + lines_for terms (length (prices s m.orders))
  pub room : 0 < left → length n.tape + lines_for terms (length (prices s n.orders)) ≤ length m.tape + lines_for terms (length (prices s m.orders))

pub walked_start : (rule : Rule) (terms : Terms) (s : Side) (t : ℕ → Bool) (v : ℕ) (m : Step) → Walked rule terms s t v m v m
walked_start rule terms s t v m = record { same = refl; over = refl; lines = omega arith; room = λ _. omega arith }

-- ---- the next price

pub next_some : (left x : ℕ) (xs : List ℕ) → next_of left xs ≡ Some x → (0 < left) × (first_of xs ≡ Some x)
next_some left x xs e = elim (cases_eq left 0) [
  | inl z ↦ (let f : Some x ≡ None = sym e ∙ cond-true (eqb left 0) None (first_of xs) (eq-eqb left 0 z) in let y : ◌≡◌ {A = ℕ} 0 1 = cc in absurd (omega arith))
  | inr some ↦ (omega arith, sym (cond-false (eqb left 0) None (first_of xs) (ne_eqb left 0 some)) ∙ e)
]

module _ (s : Side) (t : ℕ → Bool) (os : List Order) (sound : Sound os) (x : ℕ) (e : first_of (filter t (ranked s os)) ≡ Some x) where
  next_in : In x (filter t (ranked s os))
  next_in = let f = first_some (filter t (ranked s os)) x e in subst (λ xs. In x xs) (sym f.1) (inl refl)

  -- its price passes, and its level has lots
  pub next_passes : t x ≡ true
  next_passes = (ranked_in s t os sound x next_in).1

  pub next_lots : 0 < held (at s (Limit x)) os
  next_lots = omega (arith, (ranked_in s t os sound x next_in).0, at_level s x os)

held_some : (s : Side) (k : Kind) (os : List Order) → 0 < held (at s k) os → 1 ≤ length (level s k os)
held_some s k [] h = omega arith
held_some s k (o ∷ os) h = cond_both (at s k o) (o ∷ level s k os) (level s k os) (λ z. 1 ≤ length z)
    (λ _. omega arith)
    (λ e. held_some s k os (omega (arith, cond-false (at s k o) o.lots 0 e)))

pub next_orders : (s : Side) (t : ℕ → Bool) (os : List Order) → Sound os → (x : ℕ) → first_of (filter t (ranked s os)) ≡ Some x → 1 ≤ length (level s (Limit x) os)
next_orders s t os sound x e = held_some s (Limit x) os (next_lots s t os sound x e)

pub for_more : (terms : Terms) (a b : ℕ) → a ≤ b → lines_for terms a ≤ lines_for terms b
for_more (Opening p) a b h = h
for_more (Entry number) a b h = omega arith

for_both : (terms : Terms) (a b c : ℕ) → a + b ≤ c → lines_for terms a + lines_for terms b ≤ lines_for terms c
for_both (Opening p) a b c h = h
for_both (Entry number) a b c h = omega arith

-- ---- one level on

module _ (rule : Rule) (fair : Fairly rule) (terms : Terms) (s : Side) (t : ℕ → Bool) (left : ℕ) (n : Step) (b : Book n.orders) (x : ℕ) (e : first_of (filter t (ranked s n.orders)) ≡ Some x) where
  abbrev next : Step
  next = fill rule terms s left (Limit x) n

  abbrev L : ℕ
  L = held (at s (Limit x)) n.orders

  next_book : Book next.orders
  next_book = fill_book rule fair terms s left (Limit x) n b

  -- the lots at another price stay, those at the price trade
  next_at : (z : ℕ) → lots_at s next.orders z + cond (eqb z x) (min left L) 0 ≡ lots_at s n.orders z
  next_at z = omega (arith, fill_kind rule fair terms s left (Limit x) n b (λ side kind. is s side && priced (λ y. eqb z y) kind), ap (λ c. cond c (min left L) 0) (own_test s (eqb z x)))

  next_limits : limits s t next.orders + min left L ≡ limits s t n.orders
  next_limits = omega (
    arith,
    fill_kind rule fair terms s left (Limit x) n b (λ side kind. is s side && priced t kind),
    ap (λ c. cond c (min left L) 0) (own_test s (t x)),
    cond-true (t x) (min left L) 0 (next_passes s t n.orders b.sound x e),
  )

  -- once a level has traded out, the prices behind it are those that are left
  next_ranked : L < left → (xs : List ℕ) → filter t (ranked s n.orders) ≡ x ∷ xs → filter t (ranked s next.orders) ≡ xs
  next_ranked out xs f =
      let sorted = subst (λ ys. Sorted s ys) f (ranked_sorted s t n.orders) in
      ranked_is s t next.orders next_book.sound xs sorted.1
      (λ z i.
      let k = ranked_in s t n.orders b.sound z (subst (λ ys. In z ys) (sym f) (inr i)) in
      let apart : eqb z x ≡ false = ne_eqb z x (λ j. once s x xs sorted (subst (λ y. In y xs) j i)) in
      let same = cond-false (eqb z x) (min left L) 0 apart in
      (omega (arith, next_at z, k.0), k.1))
      (λ z h p. elim (subst (λ ys. In z ys) f (in_ranked s t n.orders z (omega (arith, next_at z)) p)) [
        | inl is_x ↦
            (let yes = cond-true (eqb z x) (min left L) 0 (eq-eqb z x is_x) in
            let here = ap (λ y. lots_at s n.orders y) is_x in
            absurd (omega (arith, next_at z, at_level s x n.orders)))
        | inr i ↦ i
      ])

  next_same : serve rule terms s (left - min left L) (passing s t next.orders) next ≡ serve rule terms s left (passing s t n.orders) n
  next_same =
      let f = first_some (filter t (ranked s n.orders)) x e in
      let walk : serve rule terms s left (passing s t n.orders) n ≡ serve rule terms s (left - L) (map Limit f.0) next = ap (λ ys. serve rule terms s left (map Limit ys) n) f.1 in
      elim (cases_lt L left) [
        | inl out ↦
            (let d : left - min left L ≡ left - L = omega arith in
            ap (λ v. serve rule terms s v (passing s t next.orders) next) d ∙ (ap (λ ys. serve rule terms s (left - L) (map Limit ys) next) (next_ranked out f.0 f.1) ∙ sym walk))
        | inr all ↦
            serve_none rule fair terms s (left - min left L) (passing s t next.orders) next next_book (omega arith) ∙ (sym (serve_none rule fair terms s (left - L) (map Limit f.0) next next_book (omega arith)) ∙ sym walk)
      ]

  pub walked_turn : (v : ℕ) (m : Step) → 0 < left → Walked rule terms s t v m left n → Walked rule terms s t v m (left - min left L) next
  walked_turn v m some w =
      let orders = next_orders s t n.orders b.sound x e in
      let written = turn_lines rule fair s left n b terms x orders in
      let few = for_more terms (length (level s (Limit x) n.orders)) (length (prices s n.orders)) (level_within s x n.orders) in
      record {
        same = next_same ∙ w.same;
        over = omega (arith, next_limits, w.over);
        lines = omega (arith, written, few, w.room some);
        room = λ more.
            let gone = turn_orders rule fair s left n b terms x (omega arith) next_book.sound in
            omega (arith, written, w.room some, for_both terms (length (prices s next.orders)) (length (level s (Limit x) n.orders)) (length (prices s n.orders)) gone);
      }

-- ---- the end of a walk

module _ (rule : Rule) (fair : Fairly rule) (terms : Terms) (s : Side) (t : ℕ → Bool) (v : ℕ) (m : Step) (left : ℕ) (n : Step) (b : Book n.orders) (e : next_of left (filter t (ranked s n.orders)) ≡ None) (w : Walked rule terms s t v m left n) where
  ended : serve rule terms s left (passing s t n.orders) n ≡ n
  ended = elim (cases_eq left 0) [
    | inl z ↦ serve_none rule fair terms s left (passing s t n.orders) n b z
    | inr some ↦ ap (λ ys. serve rule terms s left (map Limit ys) n) (first_none (filter t (ranked s n.orders)) (sym (cond-false (eqb left 0) None (first_of (filter t (ranked s n.orders))) (ne_eqb left 0 some)) ∙ e))
  ]

  pub walked_exact : n ≡ serve rule terms s v (passing s t m.orders) m
  walked_exact = sym ended ∙ w.same

  pub walked_left : left ≡ v - limits s t m.orders
  walked_left = elim (cases_eq left 0) [
    | inl z ↦ omega (arith, w.over)
    | inr some ↦
        (let f = first_none (filter t (ranked s n.orders)) (sym (cond-false (eqb left 0) None (first_of (filter t (ranked s n.orders))) (ne_eqb left 0 some)) ∙ e) in
        let none = limits_none s t n.orders (λ z p. elim (cases_lt 0 (lots_at s n.orders z)) [
          | inl h ↦ absurd (subst (λ ys. In z ys) f (in_ranked s t n.orders z h p))
          | inr h ↦ omega arith
        ]) in
        omega (arith, w.over))
  ]
