-- Cancelled, reduced, handed over, left out: what becomes of the open orders and of their lots.
use Rattle.std.proofs.Common.{◌≡◌, ℕ, ◌+◌, ◌-◌, ◌<◌, ◌≤◌, Bool, true, false, cond, not, ◌&&◌, eqb, ltb, List, [], ◌∷◌, map, length, Some, None, Option, sym, refl, ap, ◌∙◌, arith}
use Rattle.std.proofs.lemmas.Bool.{cond_both, and_parts, eqb-true, ltb-true}
use Rattle.std.proofs.lemmas.Bool.Decides.{nat_tests}
use Rattle.rules.specs.declared.order.Order.{Order}
use Rattle.rules.specs.Numbers.{numbers, above, rising}
use Rattle.rules.specs.Orders.{held, Sound, Book}
use Rattle.rules.specs.Trades.{less}
use Rattle.rules.specs.Lines.{drops, passed}
use Rattle.rules.specs.Checks.{order_of}
use Rattle.rules.specs.Steps.{without, reduced, handed}
use Rattle.rules.proofs.Filled.{kept_book}
use Rattle.rules.proofs.Openings.{held_kept}
use Rattle.laws.specs.Lots.{is_none}

-- ---- lots

-- No lot passes a test that no order passes.
pub held_none : (t : Order → Bool) (os : List Order) → ((o : Order) → t o ≡ false) → held t os ≡ 0
held_none t [] none = refl
held_none t (o ∷ os) none = rw (none o) (omega (arith, held_none t os none))

-- Among numbers above x there is none up to x.
above_none : (t : Order → Bool) (n x : ℕ) (os : List Order) → n ≤ x → above x (numbers os) ≡ true → held (λ o. t o && eqb n o.number) os ≡ 0
above_none t n x [] le h = refl
above_none t n x (o ∷ os) le h =
    let p = and_parts (ltb x o.number) (above x (numbers os)) h in
    let lt = ltb-true x o.number p.0 in
    go (t o) (above_none t n x os le p.1) lt
  where
    go : (y : Bool) → held (λ o. t o && eqb n o.number) os ≡ 0 → x < o.number → cond (y && eqb n o.number) o.lots 0 + held (λ o. t o && eqb n o.number) os ≡ 0
    go true h lt = let ne : eqb n o.number ≡ false = grind (arith, nat_tests) in rw ne (omega arith)
    go false h lt = omega arith

-- Numbers rise, so the order of a number is the only one.
pub held_without : (t : Order → Bool) (n : ℕ) (os : List Order) → rising (numbers os) ≡ true → held t os ≡ held t (without n os) + held (λ o. t o && eqb n o.number) os
held_without t n [] h = refl
held_without t n (o ∷ os) h =
    let p = and_parts (above o.number (numbers os)) (rising (numbers os)) h in
    go (eqb o.number n) refl (t o) refl p.0 (held_without t n os p.1)
  where
    go : (x : Bool) → eqb o.number n ≡ x → (y : Bool) → t o ≡ y → above o.number (numbers os) ≡ true → held t os ≡ held t (without n os) + held (λ o. t o && eqb n o.number) os → cond y o.lots 0 + held t os ≡ held t (cond x os (o ∷ without n os)) + (cond (y && eqb n o.number) o.lots 0 + held (λ o. t o && eqb n o.number) os)
    go true is true e a h =
        let here : eqb n o.number ≡ true = grind (arith, nat_tests) in
        let none = above_none t n o.number os (omega (arith, eqb-true o.number n is)) a in
        rw here (omega arith)
    go true is false e a h = let none = above_none t n o.number os (omega (arith, eqb-true o.number n is)) a in omega arith
    go false is true e a h = let other : eqb n o.number ≡ false = grind (arith, nat_tests) in rw (e, other) (omega arith)
    go false is false e a h = rw e (omega arith)

-- Who has the number.
pub order_number : (n : ℕ) (os : List Order) (o : Order) → order_of n os ≡ Some o → o.number ≡ n
order_number n [] o e = let z : ◌≡◌ {A = ℕ} 0 1 = cc in absurd (omega arith)
order_number n (p ∷ os) o e = go (eqb p.number n) refl e (order_number n os o)
  where
    go : (x : Bool) → eqb p.number n ≡ x → cond x (Some p) (order_of n os) ≡ Some o → (order_of n os ≡ Some o → o.number ≡ n) → o.number ≡ n
    go true is e rest = let i : p ≡ o = cc in ap (λ (q : Order). q.number) (sym i) ∙ eqb-true p.number n is
    go false is e rest = rest e

-- A reduction takes its lots off the order of the number, if that passes.
pub held_reduced : (t : Order → Bool) → ((o : Order) (k : ℕ) → t (less o k) ≡ t o) → (n k : ℕ) (os : List Order) (o : Order) → order_of n os ≡ Some o → k ≤ o.lots → held t os ≡ held t (reduced n k os) + cond (t o) k 0
held_reduced t same n k [] o e le = let z : ◌≡◌ {A = ℕ} 0 1 = cc in absurd (omega arith)
held_reduced t same n k (p ∷ os) o e le = go (eqb p.number n) e (λ f. held_reduced t same n k os o f le)
  where
    here : (y : Bool) → t p ≡ y → p ≡ o → cond y p.lots 0 + held t os ≡ cond (t (less p k)) (p.lots - k) 0 + held t os + cond (t o) k 0
    here true is i =
        let l : p.lots ≡ o.lots = ap (λ (q : Order). q.lots) i in
        let a : t (less p k) ≡ true = same p k ∙ is in
        let b : t o ≡ true = ap t (sym i) ∙ is in
        rw (a, b) (omega arith)
    here false is i =
        let a : t (less p k) ≡ false = same p k ∙ is in
        let b : t o ≡ false = ap t (sym i) ∙ is in
        rw (a, b) (omega arith)

    go : (x : Bool) → cond x (Some p) (order_of n os) ≡ Some o → (order_of n os ≡ Some o → held t os ≡ held t (reduced n k os) + cond (t o) k 0) → held t (p ∷ os) ≡ held t (cond x (less p k ∷ os) (p ∷ reduced n k os)) + cond (t o) k 0
    go true e rest = let i : p ≡ o = cc in here (t p) refl i
    go false e rest = omega (arith, rest e)

-- What an heir takes over stays; without one it is left out.
pub held_handed : (t : Order → Bool) → ((o : Order) (id : ℕ) → t (passed id o) ≡ t o) → (id : ℕ) (h : Option ℕ) (os : List Order) → held t os ≡ held t (handed id h os) + held (λ o. t o && (is_none h && drops id o)) os
held_handed t same id None os = held_kept t (drops id) os
held_handed t same id (Some heir) [] = refl
held_handed t same id (Some heir) (o ∷ os) = go (drops id o) (t o) refl (held_handed t same id (Some heir) os)
  where
    go : (x y : Bool) → t o ≡ y → held t os ≡ held t (map (λ o. cond (drops id o) (passed heir o) o) os) + held (λ o. t o && false) os → cond y o.lots 0 + held t os ≡ held t (cond x (passed heir o) o ∷ map (λ o. cond (drops id o) (passed heir o) o) os) + (cond (y && false) o.lots 0 + held (λ o. t o && false) os)
    go true true e h = let a : t (passed heir o) ≡ true = same o heir ∙ e in rw a (omega arith)
    go true false e h = let a : t (passed heir o) ≡ false = same o heir ∙ e in rw a (omega arith)
    go false true e h = rw e (omega arith)
    go false false e h = rw e (omega arith)

-- ---- the book

-- A cancellation leaves a book.
without_sound : (n : ℕ) (os : List Order) → Sound os → Sound (without n os)
without_sound n [] a = tt
without_sound n (o ∷ os) a = cond_both (eqb o.number n) os (o ∷ without n os) Sound (λ _. a.1) (λ _. (a.0, without_sound n os a.1))

without_length : (n : ℕ) (os : List Order) → length (without n os) ≤ length os
without_length n [] = omega arith
without_length n (o ∷ os) = cond_both (eqb o.number n) os (o ∷ without n os) (λ l. length l ≤ length (o ∷ os)) (λ _. omega arith) (λ _. omega (arith, without_length n os))

pub without_book : (n : ℕ) (os : List Order) → Book os → Book (without n os)
without_book n os b = record { sound = without_sound n os b.sound; few = omega (arith, b.few, without_length n os) }

-- A reduction leaves at least one lot, and so a book.
reduced_sound : (n k : ℕ) (os : List Order) (o : Order) → order_of n os ≡ Some o → k < o.lots → Sound os → Sound (reduced n k os)
reduced_sound n k [] o e lt a = tt
reduced_sound n k (p ∷ os) o e lt a = go (eqb p.number n) e (λ f. reduced_sound n k os o f lt a.1)
  where
    go : (x : Bool) → cond x (Some p) (order_of n os) ≡ Some o → (order_of n os ≡ Some o → Sound (reduced n k os)) → Sound (cond x (less p k ∷ os) (p ∷ reduced n k os))
    go true e rest = let i : p ≡ o = cc in let l : p.lots ≡ o.lots = ap (λ (q : Order). q.lots) i in ((omega arith, omega (arith, a.0.1), a.0.2), a.1)
    go false e rest = (a.0, rest e)

reduced_length : (n k : ℕ) (os : List Order) → length (reduced n k os) ≡ length os
reduced_length n k [] = refl
reduced_length n k (o ∷ os) = cond_both (eqb o.number n) (less o k ∷ os) (o ∷ reduced n k os) (λ l. length l ≡ length (o ∷ os)) (λ _. refl) (λ _. omega (arith, reduced_length n k os))

pub reduced_book : (n k : ℕ) (os : List Order) (o : Order) → order_of n os ≡ Some o → k < o.lots → Book os → Book (reduced n k os)
reduced_book n k os o e lt b = record { sound = reduced_sound n k os o e lt b.sound; few = omega (arith, b.few, reduced_length n k os) }

-- A line that goes down leaves a book.
passed_sound : (id heir : ℕ) (os : List Order) → Sound os → Sound (map (λ o. cond (drops id o) (passed heir o) o) os)
passed_sound id heir [] a = tt
passed_sound id heir (o ∷ os) a = ((cond_both (drops id o) (passed heir o) o (λ p. Sound (p ∷ [])) (λ _. (a.0, tt)) (λ _. (a.0, tt))).0, passed_sound id heir os a.1)

passed_length : (id heir : ℕ) (os : List Order) → length (map (λ o. cond (drops id o) (passed heir o) o) os) ≡ length os
passed_length id heir [] = refl
passed_length id heir (o ∷ os) = omega (arith, passed_length id heir os)

pub handed_book : (id : ℕ) (h : Option ℕ) (os : List Order) → Book os → Book (handed id h os)
handed_book id None os b = kept_book (λ o. not (drops id o)) os b
handed_book id (Some heir) os b = record { sound = passed_sound id heir os b.sound; few = omega (arith, b.few, passed_length id heir os) }
