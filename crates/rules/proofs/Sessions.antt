-- What an entry that meets an open book keeps.
use Rattle.std.proofs.Common.{◌≡◌, ℕ, ◌+◌, ◌-◌, ◌<◌, ◌≤◌, min, Bool, true, false, cond, not, ◌&&◌, eqb, ltb, ◌⊎◌, List, [], ◌∷◌, ◌++◌, map, length, Some, None, filter, Option, sym, refl, ap, ◌∙◌, subst, inl, inr, arith, length-append}
use Rattle.std.specs.List.{AllByRecursion}
use Rattle.std.proofs.lemmas.List.{append-nil}
use Rattle.std.proofs.lemmas.Bool.{cases_eq, cases_lt, cases_Bool, cond_both, cond-true, cond-false, ltb-true, ltb-false, leb-false, eq-eqb, ne_eqb, and_parts}
use Rattle.std.proofs.lemmas.Bool.Decides.{nat_tests}
use Rattle.std.proofs.ByRecursion.{kept_by_passes, All-weaker, All-append}
use Rattle.policy.specs.Fair.{Rule, Fairly}
use Rattle.rules.specs.declared.order.Side.{Side}
use Rattle.rules.specs.declared.order.Side.TheVariants.{Bid, Offer}
use Rattle.rules.specs.declared.order.Kind.{Kind}
use Rattle.rules.specs.declared.order.Kind.TheVariants.{Limit, OnOpen}
use Rattle.rules.specs.declared.order.Order.{Order}
use Rattle.rules.specs.declared.tape.Terms.TheVariants.{Entry}
use Rattle.rules.specs.Limits.{lowest_price, highest_price, most_lots, most_orders}
use Rattle.rules.specs.Sides.{is, other, better_than, as_good_as}
use Rattle.rules.specs.Orders.{held, priced, limits, ahead, all_of, prices, same, at, InRange, Book}
use Rattle.rules.specs.Trades.{ranked, lined}
use Rattle.rules.specs.declared.incoming.Incoming.{Incoming}
use Rattle.rules.specs.Session.{accepts, reach, enough, met, rests, resting, Matched, matched}
use Rattle.rules.specs.Laws.{In}
use Rattle.rules.proofs.Held.{limits_split, limits_le, lots_at, within_ahead, level_in, in_level}
use Rattle.rules.proofs.Filled.{account, side_held, of_kind, line_price}
use Rattle.rules.proofs.Served.{at_level, Upper, serve_some, serve_price, serve_book, serve_length, serve_le, serve_account, serve_beside}
use Rattle.rules.proofs.Crossed.{side_split}
use Rattle.rules.proofs.Openings.{Uncrossed, upper_better, upper_good}

-- ---- what an entry accepts

-- a better price is accepted too
pub accepts_upper : (s : Side) (limit : Option ℕ) → Upper (other s) (accepts s limit)
accepts_upper s None x y b f = f
accepts_upper Bid (Some q) x y b f = grind (arith, nat_tests)
accepts_upper Offer (Some q) x y b f = grind (arith, nat_tests)

good_accepted : (s : Side) (limit : Option ℕ) (x y : ℕ) → accepts s limit x ≡ true → as_good_as (other s) x y ≡ true → accepts s limit y ≡ true
good_accepted s None x y a g = refl
good_accepted Bid (Some q) x y a g = grind (arith, nat_tests)
good_accepted Offer (Some q) x y a g = grind (arith, nat_tests)

better_good : (s : Side) (x y : ℕ) → better_than s x y ≡ true → as_good_as s x y ≡ true
better_good Bid x y h = grind (arith, nat_tests)
better_good Offer x y h = grind (arith, nat_tests)

parts : (c : Bool) (n : ℕ) → n ≡ cond c n 0 + cond (not c) n 0
parts true n = omega arith
parts false n = omega arith

-- a side's limit orders are those that pass and those that do not
limits_both : (s : Side) (a : ℕ → Bool) (os : List Order) → all_of s os ≡ limits s a os + limits s (λ x. not (a x)) os
limits_both s a os = limits_split s (λ x. true) a (λ x. not (a x)) (λ x n. parts (a x) n) os

not_accepted : (s : Side) (b : Bool) → b ≡ true → (is s s && not b) ≡ false
not_accepted Bid b e = ap not e
not_accepted Offer b e = ap not e

no_limit : (s : Side) (x : ℕ) → (is s s && same OnOpen (Limit x)) ≡ false
no_limit Bid x = refl
no_limit Offer x = refl

is_other : (s : Side) (b : Bool) → (is s (other s) && b) ≡ false
is_other Bid b = refl
is_other Offer b = refl

other_side : (s : Side) → is (other s) (other (other s)) ≡ false
other_side Bid = refl
other_side Offer = refl

own_line : (s : Side) → is s (other (other s)) ≡ true
own_line Bid = refl
own_line Offer = refl

pub one_price : (t : ℕ → Bool) (x y n : ℕ) → t x ≡ true → cond (eqb x y) n 0 ≤ cond (t y) n 0
one_price t x y n h = elim (cases_eq x y) [
  | inl e ↦ (let u : t y ≡ true = ap t (sym e) ∙ h in rw (u, eq-eqb x y e) (omega arith))
  | inr ne ↦ rw (ne_eqb x y ne) (omega arith)
]

-- ---- the walk over the accepted levels

module _ (rule : Rule) (fair : Fairly rule) (e : Incoming) (os : List Order) (b : Book os) where
  abbrev far : Side
  far = other e.side

  abbrev accepted : ℕ → Bool
  accepted = accepts e.side e.limit

  abbrev met_prices : List ℕ
  met_prices = filter accepted (ranked far os)

  all_accepted : AllByRecursion (λ x. accepted x ≡ true) met_prices
  all_accepted = kept_by_passes accepted (ranked far os)

  pub met_book : Book (met rule e os).orders
  met_book = serve_book rule fair (Entry e.number) far e.lots (map Limit met_prices) (record { orders = os; tape = [] }) b

  -- of accepted prices, the better first
  pub met_left : (t : ℕ → Bool) → Upper far t → ((x : ℕ) → t x ≡ true → accepted x ≡ true) → limits far t (met rule e os).orders ≡ limits far t os - e.lots
  met_left t up narrow = serve_some rule fair (Entry e.number) far accepted t up narrow e.lots (record { orders = os; tape = [] }) b

  -- where a level is accepted, the levels ahead of it trade first
  pub met_ahead : (x : ℕ) → accepted x ≡ true → ahead far (met rule e os).orders x ≡ ahead far os x - e.lots
  met_ahead x a = met_left (better_than far x) (upper_better far x) (λ y h. good_accepted e.side e.limit x y a (better_good far x y h))

  pub met_reach : reach e (met rule e os).orders ≡ reach e os - e.lots
  met_reach = met_left accepted (accepts_upper e.side e.limit) (λ x h. h)

  -- what no accepted level holds stays as it is
  pub met_beside : (T : Side → Kind → Bool) → ((x : ℕ) → accepted x ≡ true → T far (Limit x) ≡ false) → of_kind T (met rule e os).orders ≡ of_kind T os
  met_beside T h = serve_beside rule fair (Entry e.number) far e.lots met_prices (record { orders = os; tape = [] }) b T (All-weaker (λ x. accepted x ≡ true) (λ x. T far (Limit x) ≡ false) h met_prices all_accepted)

  -- the entry's own side stays as it is
  pub met_own_side : (t : Kind → Bool) → held (λ o. is e.side o.side && t o.kind) (met rule e os).orders ≡ held (λ o. is e.side o.side && t o.kind) os
  met_own_side t = met_beside (λ side kind. is e.side side && t kind) (λ x _. is_other e.side (t (Limit x)))

  -- the lesser of the entry's lots and those within reach trades
  pub met_traded : side_held far os - side_held far (met rule e os).orders ≡ min e.lots (reach e os)
  met_traded =
      let left : List Order = (met rule e os).orders in
      let beyond = met_beside (λ side kind. is far side && priced (λ x. not (accepted x)) kind) (λ x h. not_accepted far (accepted x) h) in
      let on_open = met_beside (λ side kind. is far side && same OnOpen kind) (λ x _. no_limit far x) in
      omega (arith, side_split far os, side_split far left, limits_both far accepted os, limits_both far accepted left, met_reach)

  -- no lot is lost: what the orders met have no more is on their lines, and as much on the entry's
  pub met_account : (t : ℕ → Side → Bool) → account t (met rule e os) ≡ held (λ o. t o.number o.side) os + cond (t e.number (other far)) (min e.lots (reach e os)) 0
  met_account t = omega (
    arith,
    serve_account rule fair (Entry e.number) far e.lots met_prices (record { orders = os; tape = [] }) b t,
    ap (λ n. cond (t e.number (other far)) n 0) met_traded,
  )

  -- as many lots are bought as sold
  pub met_even : (lined (λ n side. is far side) (met rule e os).tape ≡ min e.lots (reach e os)) × (lined (λ n side. is e.side side) (met rule e os).tape ≡ min e.lots (reach e os))
  met_even =
      let n : ℕ = min e.lots (reach e os) in (
        omega (arith, met_account (λ i side. is far side), met_traded, cond-false (is far (other far)) n 0 (other_side e.side), serve_le rule fair (Entry e.number) far e.lots (map Limit met_prices) (record { orders = os; tape = [] }) b (λ side kind. is far side)),
        omega (arith, met_account (λ i side. is e.side side), cond-true (is e.side (other far)) n 0 (own_line e.side), side_split e.side os, side_split e.side (met rule e os).orders, met_own_side (priced (λ x. true)), met_own_side (same OnOpen)),
      )

  -- every line is at a price that the entry accepts
  pub met_price : AllByRecursion (λ l. accepted l.price ≡ true) (met rule e os).tape
  met_price = serve_price (λ x. accepted x ≡ true) rule (Entry e.number) far e.lots (map Limit met_prices) (record { orders = os; tape = [] }) (at_limits met_prices all_accepted) tt
    where
      at_limits : (ys : List ℕ) → AllByRecursion (λ x. accepted x ≡ true) ys → AllByRecursion (λ k. accepted (line_price (Entry e.number) k) ≡ true) (map Limit ys)
      at_limits [] a = tt
      at_limits (y ∷ ys) a = (a.0, at_limits ys a.1)

  -- an accepted level trades the lesser of what it holds and what is left after all better levels
  pub met_level : (x : ℕ) → accepted x ≡ true → held (at far (Limit x)) (met rule e os).orders + min (held (at far (Limit x)) os) (e.lots - ahead far os x) ≡ held (at far (Limit x)) os
  met_level x a =
      let left : List Order = (met rule e os).orders in
      omega (
        arith,
        met_left (better_than far x) (upper_better far x) (λ y h. good_accepted e.side e.limit x y a (better_good far x y h)),
        met_left (as_good_as far x) (upper_good far x) (λ y h. good_accepted e.side e.limit x y a h),
        within_ahead far os x,
        within_ahead far left x,
        at_level far x os,
        at_level far x left,
      )

  -- where lots of the entry are left, no price that it accepts is
  pub met_clear : reach e os < e.lots → (x : ℕ) → In x (prices far (met rule e os).orders) → accepted x ≡ false
  met_clear h x i = elim (cases_Bool (accepted x)) [
    | inr left_out ↦ left_out
    | inl taken_in ↦ absurd (omega (arith, met_reach, in_level far (met rule e os).orders met_book.sound x i, limits_le far (λ y. eqb x y) accepted (λ y n. one_price accepted x y n taken_in) (met rule e os).orders))
  ]

-- ---- the entry as a whole

-- The limit of an entry is within the range of prices.
abbrev pub LimitInRange : Option ℕ → Type 0
LimitInRange None = Unit {0}
LimitInRange (Some q) = (lowest_price ≤ q) × (q ≤ highest_price)

-- There is room for an entry that may rest.
abbrev pub Room : Option ℕ → List Order → Type 0
Room None os = Unit {0}
Room (Some q) os = length os < most_orders

pub record MatchingKeeps (rule : Rule) (e : Incoming) (os : List Order) : Type 0 where
  pub all_lots : (matched rule e os).traded + (matched rule e os).withdrawn + (matched rule e os).«open» ≡ e.lots
  -- no lot is lost, whichever orders are looked at by number and side
  pub conserved : (t : ℕ → Side → Bool) → held (λ o. t o.number o.side) os + cond (t e.number e.side) e.lots 0 ≡ held (λ o. t o.number o.side) (matched rule e os).orders + lined t (matched rule e os).tape + cond (t e.number e.side) (matched rule e os).withdrawn 0
  -- as many lots are bought as sold: those the entry traded
  pub even : (s : Side) → lined (λ n side. is s side) (matched rule e os).tape ≡ (matched rule e os).traded
  -- every line is at a price that the entry accepts
  pub accepted_prices : AllByRecursion (λ l. accepts e.side e.limit l.price ≡ true) (matched rule e os).tape

-- the lots of two lists in turn
pub held_append : (t : Order → Bool) (os ps : List Order) → held t (os ++ ps) ≡ held t os + held t ps
held_append t [] ps = omega arith
held_append t (o ∷ os) ps = omega (arith, held_append t os ps)

pub cond_none : (b : Bool) → ◌≡◌ {A = ℕ} (cond b 0 0) 0
cond_none true = refl
cond_none false = refl

-- what is left of the entry, as an open order
abbrev pub rest_order : Incoming → ℕ → ℕ → Order
rest_order e q n = record { number = e.number; id = e.id; side = e.side; kind = Limit q; lots = n; lifetime = e.lifetime }

rest_held : (t : ℕ → Side → Bool) (e : Incoming) (limit : Option ℕ) (n : ℕ) → held (λ o. t o.number o.side) (resting e limit n) ≡ cond (t e.number e.side) (cond (rests limit e.condition) n 0) 0
rest_held t e None n = sym (cond_none (t e.number e.side))
rest_held t e (Some q) n = go (rests (Some q) e.condition)
  where
    go : (r : Bool) → held (λ o. t o.number o.side) (cond (r && ltb 0 n) (rest_order e q n ∷ []) []) ≡ cond (t e.number e.side) (cond r n 0) 0
    go true = cond_both (ltb 0 n) (rest_order e q n ∷ []) [] (λ (os : List Order). held (λ o. t o.number o.side) os ≡ cond (t e.number e.side) n 0)
        (λ _. omega arith)
        (λ none. omega (arith, ltb-false 0 n none, cond_both (t e.number e.side) n 0 (λ m. m ≤ n) (λ _. omega arith) (λ _. omega arith)))
    go false = sym (cond_none (t e.number e.side))

cond_parts : (c r : Bool) (n m : ℕ) → cond c (n + m) 0 ≡ cond c n 0 + cond c (cond r m 0) 0 + cond c (cond r 0 m) 0
cond_parts true true n m = omega arith
cond_parts true false n m = omega arith
cond_parts false r n m = refl

lots_parts : (r : Bool) (n m : ℕ) → n + cond r 0 m + cond r m 0 ≡ n + m
lots_parts true n m = omega arith
lots_parts false n m = omega arith

pub other_other : (s : Side) → other (other s) ≡ s
other_other Bid = refl
other_other Offer = refl

both_sides : (P : Side → Type 0) (s : Side) → P (other s) → P s → (s' : Side) → P s'
both_sides P Bid across near Bid = near
both_sides P Bid across near Offer = across
both_sides P Offer across near Bid = across
both_sides P Offer across near Offer = near

module _ (rule : Rule) (fair : Fairly rule) (e : Incoming) (os : List Order) (b : Book os) where
  rest_account : (t : ℕ → Side → Bool) → held (λ o. t o.number o.side) os + cond (t e.number e.side) e.lots 0 ≡ held (λ o. t o.number o.side) ((met rule e os).orders ++ resting e e.limit (e.lots - min e.lots (reach e os))) + lined t (met rule e os).tape + cond (t e.number e.side) (cond (rests e.limit e.condition) 0 (e.lots - min e.lots (reach e os))) 0
  rest_account t =
      let n : ℕ = min e.lots (reach e os) in
      let u : Order → Bool = λ o. t o.number o.side in
      let own_is : cond (t e.number (other (other e.side))) n 0 ≡ cond (t e.number e.side) n 0 = ap (λ (s : Side). cond (t e.number s) n 0) (other_other e.side) in
      let whole : cond (t e.number e.side) e.lots 0 ≡ cond (t e.number e.side) (n + (e.lots - n)) 0 = ap (λ (m : ℕ). cond (t e.number e.side) m 0) (omega arith) in
      omega (
        arith,
        held_append u (met rule e os).orders (resting e e.limit (e.lots - n)),
        rest_held t e e.limit (e.lots - n),
        met_account rule fair e os b t,
        cond_parts (t e.number e.side) (rests e.limit e.condition) n (e.lots - n),
      )

  pub matching_keeps : MatchingKeeps rule e os
  matching_keeps =
      let ok : Bool = enough e.condition e.lots (reach e os) in
      let n : ℕ = min e.lots (reach e os) in
      let goes : Matched = record { orders = (met rule e os).orders ++ resting e e.limit (e.lots - n); tape = (met rule e os).tape; traded = n; withdrawn = cond (rests e.limit e.condition) 0 (e.lots - n); «open» = cond (rests e.limit e.condition) (e.lots - n) 0 } in
      let stays : Matched = record { orders = os; tape = []; traded = 0; withdrawn = e.lots; «open» = 0 } in
      record {
        all_lots = cond_both ok goes stays (λ d. d.traded + d.withdrawn + d.«open» ≡ e.lots) (λ _. omega (arith, lots_parts (rests e.limit e.condition) n (e.lots - n))) (λ _. omega arith);
        conserved = λ t. cond_both ok goes stays (λ d. held (λ o. t o.number o.side) os + cond (t e.number e.side) e.lots 0 ≡ held (λ o. t o.number o.side) d.orders + lined t d.tape + cond (t e.number e.side) d.withdrawn 0)
            (λ _. rest_account t) (λ _. omega arith);
        even = λ s. cond_both ok goes stays (λ d. lined (λ n side. is s side) d.tape ≡ d.traded)
            (λ _. both_sides (λ s. lined (λ n side. is s side) (met rule e os).tape ≡ n) e.side (met_even rule fair e os b).0 (met_even rule fair e os b).1 s) (λ _. refl);
        accepted_prices = cond_both ok goes stays (λ d. AllByRecursion (λ l. accepts e.side e.limit l.price ≡ true) d.tape) (λ _. met_price rule fair e os b) (λ _. tt);
      }

-- ---- the book that a matched entry leaves

-- what holds where nothing rests, and where n lots rest at q
pub rest_both : (P : List Order → Type 0) (e : Incoming) (limit : Option ℕ) (n : ℕ) → P [] → ((q : ℕ) → limit ≡ Some q → 0 < n → P (rest_order e q n ∷ [])) → P (resting e limit n)
rest_both P e None n none some = none
rest_both P e (Some q) n none some = cond_both (rests (Some q) e.condition && ltb 0 n) (rest_order e q n ∷ []) [] P
    (λ h. some q refl (ltb-true 0 n (and_parts (rests (Some q) e.condition) (ltb 0 n) h).1))
    (λ _. none)

some_range : (limit : Option ℕ) (q : ℕ) → limit ≡ Some q → LimitInRange limit → (lowest_price ≤ q) × (q ≤ highest_price)
some_range limit q is-q h = subst LimitInRange is-q h

some_room : (limit : Option ℕ) (os : List Order) (q : ℕ) → limit ≡ Some q → Room limit os → length os < most_orders
some_room limit os q is-q h = subst (λ l. Room l os) is-q h

rest_level : (s s' : Side) (q x n : ℕ) → 0 < cond (is s s' && eqb x q) n 0 + 0 → (s' ≡ s) × (x ≡ q)
rest_level Bid Bid q x n h = elim (cases_eq x q) [ inl same-price ↦ (refl, same-price) | inr ne ↦ (let z = ne_eqb x q ne in absurd (let bad : ⊥ = grind arith in bad)) ]
rest_level Bid Offer q x n h = absurd (omega arith)
rest_level Offer Bid q x n h = absurd (omega arith)
rest_level Offer Offer q x n h = elim (cases_eq x q) [ inl same-price ↦ (refl, same-price) | inr ne ↦ (let z = ne_eqb x q ne in absurd (let bad : ⊥ = grind arith in bad)) ]

module _ (rule : Rule) (fair : Fairly rule) (e : Incoming) (os : List Order) (b : Book os) (small : e.lots ≤ most_lots) (range : LimitInRange e.limit) (room : Room e.limit os) where
  rest_book : (n : ℕ) → n ≤ e.lots → Book ((met rule e os).orders ++ resting e e.limit n)
  rest_book n le =
      let left : List Order = (met rule e os).orders in
      let lb = met_book rule fair e os b in
      let len : length left ≤ length os = serve_length rule fair (Entry e.number) (other e.side) e.lots (map Limit (filter (accepts e.side e.limit) (ranked (other e.side) os))) (record { orders = os; tape = [] }) b in
      rest_both (λ ps. Book (left ++ ps)) e e.limit n
      (subst Book (sym (append-nil left)) lb)
      (λ q is-q pos.
      let r = some_range e.limit q is-q range in
      let f = some_room e.limit os q is-q room in
      record {
        sound = All-append (λ o. (1 ≤ o.lots) × (o.lots ≤ most_lots) × InRange o.kind) left (rest_order e q n ∷ []) lb.sound ((pos, omega arith, r), tt);
        few = omega (arith, length-append left (rest_order e q n ∷ []));
      })

  pub matching_book : Book (matched rule e os).orders
  matching_book =
      let n : ℕ = min e.lots (reach e os) in
      cond_both (enough e.condition e.lots (reach e os)) _ _ (λ (d : Matched). Book d.orders) (λ _. rest_book (e.lots - n) (omega arith)) (λ _. b)

  rest_at : (s : Side) (x n : ℕ) → (0 < n → reach e os < e.lots) → 0 < lots_at s (resting e e.limit n) x → (e.side ≡ s) × (e.limit ≡ Some x) × (reach e os < e.lots)
  rest_at s x n some_left = rest_both (λ ps. 0 < lots_at s ps x → (e.side ≡ s) × (e.limit ≡ Some x) × (reach e os < e.lots)) e e.limit n
      (λ h. absurd (let never : ⊥ = omega arith in never))
      (λ q is-q pos h. let r = rest_level s e.side q x n h in (r.0, is-q ∙ ap Some (sym r.1), some_left pos))

  -- a price left is one of the orders met, or that of the rest, which then meets none it accepts
  left_from : (s : Side) (x : ℕ) → In x (prices s ((met rule e os).orders ++ resting e e.limit (e.lots - min e.lots (reach e os)))) → (0 < lots_at s (met rule e os).orders x) ⊎ ((e.side ≡ s) × (e.limit ≡ Some x) × (reach e os < e.lots))
  left_from s x i =
      let n : ℕ = e.lots - min e.lots (reach e os) in
      let left : List Order = (met rule e os).orders in
      let h = in_level s (left ++ resting e e.limit n) (rest_book n (omega arith)).sound x i in
      let sum = held_append (λ o. is s o.side && priced (λ y. eqb x y) o.kind) left (resting e e.limit n) in
      elim (cases_lt 0 (lots_at s left x)) [
        | inl some ↦ inl some
        | inr none ↦ inr (rest_at s x n (λ pos. omega arith) (omega arith))
      ]

  old_price : (s : Side) (x : ℕ) → 0 < lots_at s (met rule e os).orders x → In x (prices s os)
  old_price s x h = level_in s os x (omega (arith, serve_le rule fair (Entry e.number) (other e.side) e.lots (map Limit (filter (accepts e.side e.limit) (ranked (other e.side) os))) (record { orders = os; tape = [] }) b (λ side kind. is s side && priced (λ y. eqb x y) kind)))

  clear_of : (s : Side) (x y : ℕ) → e.side ≡ s → e.limit ≡ Some x → reach e os < e.lots → 0 < lots_at (other s) (met rule e os).orders y → accepts s (Some x) y ≡ false
  clear_of s x y is-s is_x more =
      let base : 0 < lots_at (other e.side) (met rule e os).orders y → accepts e.side e.limit y ≡ false = λ h. met_clear rule fair e os b more y (level_in (other e.side) (met rule e os).orders y h) in
      subst (λ (z : Side). 0 < lots_at (other z) (met rule e os).orders y → accepts z (Some x) y ≡ false) is-s (subst (λ (l : Option ℕ). 0 < lots_at (other e.side) (met rule e os).orders y → accepts e.side l y ≡ false) is_x base)

  pub matching_uncrossed : Uncrossed os → Uncrossed (matched rule e os).orders
  matching_uncrossed before = cond_both (enough e.condition e.lots (reach e os)) _ _ (λ (d : Matched). Uncrossed d.orders)
      (λ _ x y i j. elim (left_from Bid x i) [
        | inl bid ↦ elim (left_from Offer y j) [
          | inl offer ↦ before x y (old_price Bid x bid) (old_price Offer y offer)
          | inr rest ↦ leb-false y x (clear_of Offer y x rest.0 rest.1 rest.2 bid)
        ]
        | inr rest ↦ elim (left_from Offer y j) [
          | inl offer ↦ leb-false y x (clear_of Bid x y rest.0 rest.1 rest.2 offer)
          | inr both ↦ (let z : ◌≡◌ {A = ℕ} 0 1 = cc (rest.0, both.0) in absurd (let never : ⊥ = omega arith in never))
        ]
      ])
      (λ _. before)
