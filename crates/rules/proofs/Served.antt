-- Levels served in turn: a side's lots, best price first.
use Rattle.std.proofs.Common.{◌≡◌, ℕ, ◌+◌, ◌-◌, ◌<◌, ◌≤◌, min, Bool, true, false, cond, ◌&&◌, eqb, List, [], ◌∷◌, map, length, filter, sym, refl, ap, ◌∙◌, subst, inl, inr, arith}
use Rattle.std.specs.List.{AllByRecursion}
use Rattle.std.proofs.lemmas.Bool.{cases_lt, cases_Bool, cond_both, cond-true, cond-false, eq-eqb}
use Rattle.std.proofs.lemmas.Bool.Decides.{nat_tests}
use Rattle.std.proofs.ByRecursion.{All-weaker, all_kept_by}
use Rattle.policy.specs.Fair.{Rule, Fairly}
use Rattle.rules.specs.declared.order.Side.{Side}
use Rattle.rules.specs.declared.order.Side.TheVariants.{Bid, Offer}
use Rattle.rules.specs.declared.order.Kind.{Kind}
use Rattle.rules.specs.declared.order.Kind.TheVariants.{Limit, OnOpen}
use Rattle.rules.specs.declared.order.Order.{Order}
use Rattle.rules.specs.declared.tape.Terms.{Terms}
use Rattle.rules.specs.Sides.{is, better_than}
use Rattle.rules.specs.Orders.{held, priced, limits, prices, same, at, Book}
use Rattle.rules.specs.Trades.{Step, fill, serve, into, best_first, ranked, levels}
use Rattle.rules.specs.Laws.{In}
use Rattle.rules.proofs.Held.{lots_at, level_in}
use Rattle.rules.proofs.Prices.{kept_in}
use Rattle.rules.proofs.Filled.{limit_writes, own, own_none, own_sum, is_self, account, side_held, of_kind, line_price, fill_none, fill_length, fill_book, fill_account, fill_kind, fill_price}

-- ---- a level by its price

at_part : (s s' : Side) (k : Kind) (x n : ℕ) → cond (is s s' && same (Limit x) k) n 0 ≡ cond (is s s' && priced (λ y. eqb x y) k) n 0
at_part s s' (Limit y) x n = refl
at_part s s' OnOpen x n = refl

pub at_level : (s : Side) (x : ℕ) (os : List Order) → held (at s (Limit x)) os ≡ lots_at s os x
at_level s x [] = refl
at_level s x (o ∷ os) = omega (arith, at_part s o.side o.kind x o.lots, at_level s x os)

none_here : (s s' : Side) (k : Kind) (t : ℕ → Bool) (n : ℕ) → ((x : ℕ) → t x ≡ true → cond (is s s' && priced (λ y. eqb x y) k) n 0 ≡ 0) → cond (is s s' && priced t k) n 0 ≡ 0
none_here Bid Bid (Limit y) t n h = cond_both (t y) n 0 (λ z. z ≡ 0) (λ e. let q = eq-eqb y y refl in let r = h y e in grind arith) (λ _. refl)
none_here Bid Bid OnOpen t n h = refl
none_here Bid Offer k t n h = refl
none_here Offer Bid k t n h = refl
none_here Offer Offer (Limit y) t n h = cond_both (t y) n 0 (λ z. z ≡ 0) (λ e. let q = eq-eqb y y refl in let r = h y e in grind arith) (λ _. refl)
none_here Offer Offer OnOpen t n h = refl

pub limits_none : (s : Side) (t : ℕ → Bool) (os : List Order) → ((x : ℕ) → t x ≡ true → lots_at s os x ≡ 0) → limits s t os ≡ 0
limits_none s t [] h = refl
limits_none s t (o ∷ os) h = omega (arith, none_here s o.side o.kind t o.lots (λ x e. omega (arith, h x e)), limits_none s t os (λ x e. omega (arith, h x e)))

pub own_test : (s : Side) (b : Bool) → (is s s && b) ≡ b
own_test Bid b = refl
own_test Offer b = refl

-- of prices in order, those that pass stand in front
abbrev pub Front : (ℕ → Bool) → List ℕ → Type 0
Front t [] = Unit {0}
Front t (x ∷ xs) = (t x ≡ false → AllByRecursion (λ y. t y ≡ false) xs) × Front t xs

in_false : (t : ℕ → Bool) (xs : List ℕ) (x : ℕ) → AllByRecursion (λ y. t y ≡ false) xs → In x xs → t x ≡ true → ⊥
in_false t [] x a i e = i
in_false t (y ∷ ys) x a i e = elim i [
  | inl j ↦ (let c : true ≡ false = sym e ∙ ap t j ∙ a.0 in let z : ◌≡◌ {A = ℕ} 0 1 = cc in omega arith)
  | inr i' ↦ in_false t ys x a.1 i' e
]

every : (P : ℕ → Type 0) → ((x : ℕ) → P x) → (xs : List ℕ) → AllByRecursion P xs
every P h [] = tt
every P h (x ∷ xs) = (h x, every P h xs)

-- ---- serving

module _ (rule : Rule) (fair : Fairly rule) (terms : Terms) (s : Side) where
  pub serve_book : (v : ℕ) (ks : List Kind) (m : Step) → Book m.orders → Book (serve rule terms s v ks m).orders
  serve_book v [] m b = b
  serve_book v (k ∷ ks) m b = serve_book (v - held (at s k) m.orders) ks (fill rule terms s v k m) (fill_book rule fair terms s v k m b)

  pub serve_length : (v : ℕ) (ks : List Kind) (m : Step) → Book m.orders → length (serve rule terms s v ks m).orders ≤ length m.orders
  serve_length v [] m b = omega arith
  serve_length v (k ∷ ks) m b = omega (arith, serve_length (v - held (at s k) m.orders) ks (fill rule terms s v k m) (fill_book rule fair terms s v k m b), fill_length rule fair terms s v k m b)

  pub serve_le : (v : ℕ) (ks : List Kind) (m : Step) → Book m.orders → (T : Side → Kind → Bool) → of_kind T (serve rule terms s v ks m).orders ≤ of_kind T m.orders
  serve_le v [] m b T = omega arith
  serve_le v (k ∷ ks) m b T = omega (arith, serve_le (v - held (at s k) m.orders) ks (fill rule terms s v k m) (fill_book rule fair terms s v k m b) T, fill_kind rule fair terms s v k m b T)

  -- no lot is lost: what the side has no more is on its lines, and as much on the entry's
  pub serve_account : (v : ℕ) (xs : List ℕ) (m : Step) → Book m.orders → (t : ℕ → Side → Bool) → account t (serve rule terms s v (map Limit xs) m) ≡ account t m + own terms t s (side_held s m.orders - side_held s (serve rule terms s v (map Limit xs) m).orders)
  serve_account v [] m b t = omega (arith, ap (own terms t s) (let z : side_held s m.orders - side_held s m.orders ≡ 0 = omega arith in z), own_none terms t s)
  serve_account v (x ∷ xs) m b t =
      let L : ℕ = held (at s (Limit x)) m.orders in
      let n : Step = fill rule terms s v (Limit x) m in
      let nb = fill_book rule fair terms s v (Limit x) m b in
      let w : ℕ = v - L in
      let z : ℕ = side_held s (serve rule terms s w (map Limit xs) n).orders in
      let e = fill_kind rule fair terms s v (Limit x) m b (λ side kind. is s side) in
      let c = cond-true (is s s) (min v L) 0 (is_self s) in
      let le = serve_le w (map Limit xs) n nb (λ side kind. is s side) in
      let d : min v L + (side_held s n.orders - z) ≡ side_held s m.orders - z = omega arith in
      omega (
        arith,
        serve_account w xs n nb t,
        fill_account rule fair terms s v (Limit x) m b (limit_writes terms x) t,
        own_sum terms t s (min v L) (side_held s n.orders - z),
        ap (own terms t s) d,
      )

  -- what none of the levels holds stays as it is
  pub serve_beside : (v : ℕ) (xs : List ℕ) (m : Step) → Book m.orders → (T : Side → Kind → Bool) → AllByRecursion (λ x. T s (Limit x) ≡ false) xs → of_kind T (serve rule terms s v (map Limit xs) m).orders ≡ of_kind T m.orders
  serve_beside v [] m b T h = refl
  serve_beside v (x ∷ xs) m b T h =
      let e = fill_kind rule fair terms s v (Limit x) m b T in
      let z = cond-false (T s (Limit x)) (min v (held (at s (Limit x)) m.orders)) 0 h.0 in
      omega (arith, serve_beside (v - held (at s (Limit x)) m.orders) xs (fill rule terms s v (Limit x) m) (fill_book rule fair terms s v (Limit x) m b) T h.1)

  -- what no limit holds stays as it is
  pub serve_other : (v : ℕ) (xs : List ℕ) (m : Step) → Book m.orders → (T : Side → Kind → Bool) → ((x : ℕ) → T s (Limit x) ≡ false) → of_kind T (serve rule terms s v (map Limit xs) m).orders ≡ of_kind T m.orders
  serve_other v xs m b T h = serve_beside v xs m b T (every (λ x. T s (Limit x) ≡ false) h xs)

  -- no lot left to trade: nothing changes
  pub serve_idle : (v : ℕ) (ks : List Kind) (m : Step) → Book m.orders → (T : Side → Kind → Bool) → v ≡ 0 → of_kind T (serve rule terms s v ks m).orders ≡ of_kind T m.orders
  serve_idle v [] m b T z = refl
  serve_idle v (k ∷ ks) m b T z =
      let e = fill_kind rule fair terms s v k m b T in
      let y : cond (T s k) (min v (held (at s k) m.orders)) 0 ≤ v = cond_both (T s k) (min v (held (at s k) m.orders)) 0 (λ n. n ≤ v) (λ _. omega arith) (λ _. omega arith) in
      omega (arith, serve_idle (v - held (at s k) m.orders) ks (fill rule terms s v k m) (fill_book rule fair terms s v k m b) T (omega arith))

  abbrev Test : (ℕ → Bool) → Side → Kind → Bool
  Test t side kind = is s side && priced t kind

  pub serve_front : (t : ℕ → Bool) (v : ℕ) (xs : List ℕ) (m : Step) → Book m.orders → Front t xs → ((x : ℕ) → t x ≡ true → 0 < lots_at s m.orders x → In x xs) → limits s t (serve rule terms s v (map Limit xs) m).orders ≡ limits s t m.orders - v
  serve_front t v [] m b f cover =
      let z = limits_none s t m.orders (λ x e. elim (cases_lt 0 (lots_at s m.orders x)) [ inl h ↦ absurd (cover x e h) | inr h ↦ omega arith ]) in
      omega arith
  serve_front t v (x ∷ xs) m b f cover =
      let n : Step = fill rule terms s v (Limit x) m in
      let L : ℕ = held (at s (Limit x)) m.orders in
      let nb = fill_book rule fair terms s v (Limit x) m b in
      elim (cases_Bool (t x)) [
        | inl pass ↦
            (let e = fill_kind rule fair terms s v (Limit x) m b (Test t) in
            let c : cond (is s s && t x) (min v L) 0 ≡ min v L = rw (own_test s (t x), pass) in
            elim (cases_lt v L) [
              | inl few ↦ omega (arith, serve_idle (v - L) (map Limit xs) n nb (Test t) (omega arith))
              | inr all ↦
                  omega (
                    arith,
                    serve_front t (v - L) xs n nb f.1 (λ y ty pos.
                        let ey = fill_kind rule fair terms s v (Limit x) m b (Test (λ z. eqb y z)) in
                        elim (cover y ty (omega arith)) [
                          | inl is_x ↦
                              (let q : eqb y x ≡ true = eq-eqb y x is_x in
                              let d : cond (is s s && eqb y x) (min v L) 0 ≡ min v L = rw (own_test s (eqb y x), q) in
                              let l : L ≡ lots_at s m.orders y = at_level s x m.orders ∙ ap (λ z. lots_at s m.orders z) (sym is_x) in
                              absurd (omega arith))
                          | inr later ↦ later
                        ]),
                  )
            ])
        | inr fail ↦
            (let z = limits_none s t m.orders (λ y e. elim (cases_lt 0 (lots_at s m.orders y)) [
              | inl h ↦ absurd (in_false t (x ∷ xs) y (fail, f.0 fail) (cover y e h) e)
              | inr h ↦ omega arith
            ]) in
            omega (arith, serve_le v (map Limit (x ∷ xs)) m b (Test t)))
      ]

-- ---- prices in order

-- each better than all behind it
abbrev pub Sorted : Side → List ℕ → Type 0
Sorted s [] = Unit {0}
Sorted s (x ∷ xs) = AllByRecursion (λ y. better_than s y x ≡ true) xs × Sorted s xs

all_into : (s : Side) (P : ℕ → Type 0) (x : ℕ) (ys : List ℕ) → P x → AllByRecursion P ys → AllByRecursion P (into s x ys)
all_into s P x [] h a = (h, tt)
all_into s P x (y ∷ ys) h a = cond_both (better_than s y x) (x ∷ y ∷ ys) (cond (eqb x y) (y ∷ ys) (y ∷ into s x ys)) (AllByRecursion P)
    (λ _. (h, a))
    (λ _. cond_both (eqb x y) (y ∷ ys) (y ∷ into s x ys) (AllByRecursion P) (λ _. a) (λ _. (a.0, all_into s P x ys h a.1)))

better_chain : (s : Side) (x y z : ℕ) → better_than s y x ≡ true → better_than s z y ≡ true → better_than s z x ≡ true
better_chain Bid x y z a b = grind (arith, nat_tests)
better_chain Offer x y z a b = grind (arith, nat_tests)

pub better_else : (s : Side) (x y : ℕ) → better_than s y x ≡ false → eqb x y ≡ false → better_than s x y ≡ true
better_else Bid x y a b = grind (arith, nat_tests)
better_else Offer x y a b = grind (arith, nat_tests)

into_sorted : (s : Side) (x : ℕ) (ys : List ℕ) → Sorted s ys → Sorted s (into s x ys)
into_sorted s x [] a = (tt, tt)
into_sorted s x (y ∷ ys) a = cond_both (better_than s y x) (x ∷ y ∷ ys) (cond (eqb x y) (y ∷ ys) (y ∷ into s x ys)) (Sorted s)
    (λ e. ((e, All-weaker (λ z. better_than s z y ≡ true) (λ z. better_than s z x ≡ true) (λ z h. better_chain s x y z e h) ys a.0), a))
    (λ e. cond_both (eqb x y) (y ∷ ys) (y ∷ into s x ys) (Sorted s) (λ _. a)
    (λ ne. (all_into s (λ z. better_than s z y ≡ true) x ys (better_else s x y e ne) a.0, into_sorted s x ys a.1)))

pub best_first_sorted : (s : Side) (xs : List ℕ) → Sorted s (best_first s xs)
best_first_sorted s [] = tt
best_first_sorted s (x ∷ xs) = into_sorted s x (best_first s xs) (best_first_sorted s xs)

into_new : (s : Side) (x : ℕ) (ys : List ℕ) → In x (into s x ys)
into_new s x [] = inl refl
into_new s x (y ∷ ys) = cond_both (better_than s y x) (x ∷ y ∷ ys) (cond (eqb x y) (y ∷ ys) (y ∷ into s x ys)) (In x)
    (λ _. inl refl)
    (λ _. cond_both (eqb x y) (y ∷ ys) (y ∷ into s x ys) (In x) (λ e. inl (grind (arith, nat_tests))) (λ _. inr (into_new s x ys)))

into_old : (s : Side) (x z : ℕ) (ys : List ℕ) → In z ys → In z (into s x ys)
into_old s x z [] i = absurd i
into_old s x z (y ∷ ys) i = cond_both (better_than s y x) (x ∷ y ∷ ys) (cond (eqb x y) (y ∷ ys) (y ∷ into s x ys)) (In z)
    (λ _. inr i)
    (λ _. cond_both (eqb x y) (y ∷ ys) (y ∷ into s x ys) (In z) (λ _. i) (λ _. elim i [ inl e ↦ inl e | inr j ↦ inr (into_old s x z ys j) ]))

pub best_first_in : (s : Side) (xs : List ℕ) (x : ℕ) → In x xs → In x (best_first s xs)
best_first_in s [] x i = i
best_first_in s (y ∷ ys) x i = elim i [
  | inl e ↦ subst (λ z. In z (into s y (best_first s ys))) (sym e) (into_new s y (best_first s ys))
  | inr j ↦ into_old s y x (best_first s ys) (best_first_in s ys x j)
]

-- a test that a better price passes too
abbrev pub Upper : Side → (ℕ → Bool) → Type 0
Upper s t = (x y : ℕ) → better_than s y x ≡ true → t x ≡ false → t y ≡ false

pub sorted_front : (s : Side) (t : ℕ → Bool) → Upper s t → (xs : List ℕ) → Sorted s xs → Front t xs
sorted_front s t up [] a = tt
sorted_front s t up (x ∷ xs) a = ((λ no. All-weaker (λ y. better_than s y x ≡ true) (λ y. t y ≡ false) (λ y h. up x y h no) xs a.0), sorted_front s t up xs a.1)

-- served by the levels of a book whose side stands as in m
pub serve_levels : (rule : Rule) → Fairly rule → (terms : Terms) (s : Side) (t : ℕ → Bool) → Upper s t → (v : ℕ) (os : List Order) (m : Step) → Book m.orders → ((x : ℕ) → lots_at s m.orders x ≡ lots_at s os x) → limits s t (serve rule terms s v (levels s os) m).orders ≡ limits s t m.orders - v
serve_levels rule fair terms s t up v os m b alike =
    serve_front rule fair terms s t v (ranked s os) m b (sorted_front s t up (ranked s os) (best_first_sorted s (prices s os)))
    (λ x _ h. best_first_in s (prices s os) x (level_in s os x (omega (arith, alike x))))

-- ---- some of the levels

pub kept_sorted : (s : Side) (a : ℕ → Bool) (xs : List ℕ) → Sorted s xs → Sorted s (filter a xs)
kept_sorted s a [] h = tt
kept_sorted s a (x ∷ xs) h = cond_both (a x) (x ∷ filter a xs) (filter a xs) (Sorted s)
    (λ _. (all_kept_by a (λ y. better_than s y x ≡ true) xs h.0, kept_sorted s a xs h.1))
    (λ _. kept_sorted s a xs h.1)

-- served by the levels whose price passes a, of which t picks some
pub serve_some : (rule : Rule) → Fairly rule → (terms : Terms) (s : Side) (a t : ℕ → Bool) → Upper s t → ((x : ℕ) → t x ≡ true → a x ≡ true) → (v : ℕ) (m : Step) → Book m.orders → limits s t (serve rule terms s v (map Limit (filter a (ranked s m.orders))) m).orders ≡ limits s t m.orders - v
serve_some rule fair terms s a t up narrow v m b =
    let xs : List ℕ = ranked s m.orders in
    serve_front rule fair terms s t v (filter a xs) m b (sorted_front s t up (filter a xs) (kept_sorted s a xs (best_first_sorted s (prices s m.orders))))
    (λ x e h. kept_in a xs x (best_first_in s (prices s m.orders) x (level_in s m.orders x h)) (narrow x e))

-- every line is at a price of which P holds
pub serve_price : (P : ℕ → Type 0) (rule : Rule) (terms : Terms) (s : Side) (v : ℕ) (ks : List Kind) (m : Step) → AllByRecursion (λ k. P (line_price terms k)) ks → AllByRecursion (λ l. P l.price) m.tape → AllByRecursion (λ l. P l.price) (serve rule terms s v ks m).tape
serve_price P rule terms s v [] m h a = a
serve_price P rule terms s v (k ∷ ks) m h a = serve_price P rule terms s (v - held (at s k) m.orders) ks (fill rule terms s v k m) h.1 (fill_price P rule terms s v k m h.0 a)

-- no lot left to trade: the levels behind keep theirs
pub serve_none : (rule : Rule) → Fairly rule → (terms : Terms) (s : Side) (v : ℕ) (ks : List Kind) (m : Step) → Book m.orders → v ≡ 0 → serve rule terms s v ks m ≡ m
serve_none rule fair terms s v [] m b z = refl
serve_none rule fair terms s v (k ∷ ks) m b z =
    serve_none rule fair terms s (v - held (at s k) m.orders) ks (fill rule terms s v k m) (fill_book rule fair terms s v k m b) (omega arith) ∙ fill_none rule fair terms s v k m b z
