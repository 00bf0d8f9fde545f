-- Lists of orders that fit: what keeps them so, and what they are by the rules.
use Rattle.std.proofs.Common.{◌≡◌, ℕ, ◌<◌, ◌≤◌, Bool, true, false, cond, ◌&&◌, eqb, ltb, leb, List, [], ◌∷◌, ◌++◌, map, length, get_or, take, set, Some, filter, sym, refl, subst, arith}
use Rattle.std.specs.List.{AllByRecursion}
use Rattle.std.specs.List.Retain.{RetainsInTurn}
use Rattle.std.proofs.ByRecursion.{All-get_or, All-append, All-set, All-take, All-map, all_kept_by, All-weaker, Decides-by_and}
use Rattle.std.proofs.lemmas.Bool.{and_parts, and_from, leb-true, le-leb, ltb-true, cond_both}
use Rattle.rules.specs.declared.order.Side.{Side}
use Rattle.rules.specs.declared.order.Kind.{Kind}
use Rattle.rules.specs.declared.order.Kind.TheVariants.{Limit, OnOpen}
use Rattle.rules.specs.declared.order.Order.{Order}
use Rattle.rules.specs.Limits.{lowest_price, highest_price, most_lots}
use Rattle.rules.specs.Orders.{at, InRange, Sound, Book}
use Rattle.rules.specs.Checks.{order_of, open_lots}
use Rattle.rules.specs.Lines.{drops, passed}
use Rattle.rules.specs.Opening.{limit_at, turn}
use Rattle.rules.specs.Trades.{less, taken, standing}
use Rattle.rules.specs.Steps.{without, reduced}
use Rattle.table.specs.declared.table.Table.{Table}
use Rattle.table.specs.Fits.{price_fits, kind_fits, fits, all_fit}
use Rattle.table.specs.Tables.{open_orders}

abbrev pub Fits : Order → Type 0
Fits o = fits o ≡ true

abbrev pub AllFit : List Order → Type 0
AllFit os = all_fit os ≡ true

-- ---- the test of all, and what holds of each

pub each_fits : (os : List Order) → all_fit os ≡ true → AllByRecursion Fits os
each_fits os h = (Decides-by_and fits Fits all_fit (λ o. (λ e. e, λ e. e)) refl (λ _ _. refl) os).0 h

pub all_fits : (os : List Order) → AllByRecursion Fits os → all_fit os ≡ true
all_fits os h = (Decides-by_and fits Fits all_fit (λ o. (λ e. e, λ e. e)) refl (λ _ _. refl) os).1 h

pub fit_append : (os ps : List Order) → all_fit os ≡ true → all_fit ps ≡ true → all_fit (os ++ ps) ≡ true
fit_append os ps h k = all_fits (os ++ ps) (All-append Fits os ps (each_fits os h) (each_fits ps k))

pub fit_push : (os : List Order) (o : Order) → all_fit os ≡ true → Fits o → all_fit (os ++ o ∷ []) ≡ true
fit_push os o h k = fit_append os (o ∷ []) h (and_from (fits o) true k refl)

pub fit_take : (n : ℕ) (os : List Order) → all_fit os ≡ true → all_fit (take n os) ≡ true
fit_take n os h = all_fits (take n os) (All-take Fits n os (each_fits os h))

pub fit_kept : (t : Order → Bool) (os : List Order) → all_fit os ≡ true → all_fit (filter t os) ≡ true
fit_kept t os h = all_fits (filter t os) (all_kept_by t Fits os (each_fits os h))

-- What a closure keeps, where it changes neither itself nor an order.
fit_retained_step : (b : Bool) (o : Order) (os ps qs : List Order) → qs ≡ cond b (o ∷ ps) ps → Fits o → AllFit ps → AllFit qs
fit_retained_step true o os ps qs e h k = rw e (and_from (fits o) (all_fit ps) h k)
fit_retained_step false o os ps qs e h k = rw e k

pub fit_retained : {F : Type 0} (R : F → Order → Bool → F → Order → Type 0) (f : F) → ((o : Order) (b : Bool) (f' : F) (p : Order) → R f o b f' p → (f' ≡ f) × (p ≡ o)) → (os ps : List Order) → RetainsInTurn R f os ps → AllFit os → AllFit ps
fit_retained R f same [] ps h k = rw h refl
fit_retained R f same (o ∷ os) ps h k =
    let kept = same o h.0 h.1 h.2 h.3 in
    let parts = and_parts (fits o) (all_fit os) k in
    let rest = fit_retained R f same os h.4 (subst (λ g. RetainsInTurn R g os h.4) kept.0 h.5) parts.1 in
    fit_retained_step h.0 h.2 os h.4 ps h.6 (subst Fits (sym kept.1) parts.0) rest

pub fit_set : (os : List Order) (i : ℕ) (o : Order) → Fits o → all_fit os ≡ true → all_fit (set os i o) ≡ true
fit_set os i o k h = all_fits (set os i o) (All-set Fits os i o k (each_fits os h))

pub fit_map : (f : Order → Order) → ((o : Order) → Fits o → Fits (f o)) → (os : List Order) → all_fit os ≡ true → all_fit (map f os) ≡ true
fit_map f keeps os h = all_fits (map f os) (All-map Fits f os (All-weaker Fits (λ o. Fits (f o)) keeps os (each_fits os h)))

pub fit_read : (os : List Order) (i : ℕ) (d : Order) → i < length os → all_fit os ≡ true → Fits (get_or os i d)
fit_read os i d lt h = All-get_or Fits os i d lt (each_fits os h)

-- ---- one order

-- An order that fits has from 1 lot to the largest volume.
pub lots_fit : (o : Order) → Fits o → (1 ≤ o.lots) × (o.lots ≤ most_lots)
lots_fit o h =
    let a = and_parts (leb 1 o.lots) (leb o.lots most_lots && kind_fits o.kind) h in
    let b = and_parts (leb o.lots most_lots) (kind_fits o.kind) a.1 in
    (leb-true 1 o.lots a.0, leb-true o.lots most_lots b.0)

pub kind_of_fit : (o : Order) → Fits o → kind_fits o.kind ≡ true
kind_of_fit o h =
    (and_parts (leb o.lots most_lots) (kind_fits o.kind) (and_parts (leb 1 o.lots) (leb o.lots most_lots && kind_fits o.kind) h).1).1

pub fits_from : (o : Order) → 1 ≤ o.lots → o.lots ≤ most_lots → kind_fits o.kind ≡ true → Fits o
fits_from o low high k =
    and_from (leb 1 o.lots) (leb o.lots most_lots && kind_fits o.kind) (le-leb 1 o.lots low) (and_from (leb o.lots most_lots) (kind_fits o.kind) (le-leb o.lots most_lots high) k)

-- An order that keeps a lot fits as before.
pub less_fits : (o : Order) (n : ℕ) → n < o.lots → Fits o → Fits (less o n)
less_fits o n lt h =
    let l = lots_fit o h in
    fits_from (less o n) (omega arith) (omega (arith, l.1)) (kind_of_fit o h)

turned_fits : (p : ℕ) (k : Kind) → price_fits p ≡ true → kind_fits k ≡ true → kind_fits (limit_at p k) ≡ true
turned_fits p (Limit x) h k = k
turned_fits p OnOpen h k = h

-- An order passed on, or turned to a price that fits, fits as before.
pub passed_fits : (from to : ℕ) (o : Order) → Fits o → Fits (cond (drops from o) (passed to o) o)
passed_fits from to o k = cond_both (drops from o) (passed to o) o Fits (λ _. k) (λ _. k)

pub turn_fits : (price : ℕ) → price_fits price ≡ true → (o : Order) → Fits o → Fits (turn price o)
turn_fits price h o k =
    let l = lots_fit o k in
    fits_from (turn price o) l.0 l.1 (turned_fits price o.kind h (kind_of_fit o k))

-- ---- an order of a number

without_each : (n : ℕ) (os : List Order) → AllByRecursion Fits os → AllByRecursion Fits (without n os)
without_each n [] h = tt
without_each n (o ∷ os) h = cond_both (eqb o.number n) os (o ∷ without n os) (AllByRecursion Fits) (λ _. h.1) (λ _. (h.0, without_each n os h.1))

pub fit_without : (n : ℕ) (os : List Order) → all_fit os ≡ true → all_fit (without n os) ≡ true
fit_without n os h = all_fits (without n os) (without_each n os (each_fits os h))

reduced_step : (n k : ℕ) (o : Order) (os : List Order) (b : Bool) → k < open_lots (cond b (Some o) (order_of n os)) → AllByRecursion Fits (o ∷ os) → (k < open_lots (order_of n os) → AllByRecursion Fits (reduced n k os)) → AllByRecursion Fits (cond b (less o k ∷ os) (o ∷ reduced n k os))
reduced_step n k o os true lt h rest = (less_fits o k lt h.0, h.1)
reduced_step n k o os false lt h rest = (h.0, rest lt)

reduced_each : (n k : ℕ) (os : List Order) → k < open_lots (order_of n os) → AllByRecursion Fits os → AllByRecursion Fits (reduced n k os)
reduced_each n k [] lt h = tt
reduced_each n k (o ∷ os) lt h = reduced_step n k o os (eqb o.number n) lt h (λ less. reduced_each n k os less h.1)

-- A reduction that leaves a lot.
pub fit_reduced : (n k : ℕ) (os : List Order) → k < open_lots (order_of n os) → all_fit os ≡ true → all_fit (reduced n k os) ≡ true
fit_reduced n k os lt h = all_fits (reduced n k os) (reduced_each n k os lt (each_fits os h))

-- ---- a trade

-- All that is asked of an order but that it has lots.
abbrev Loose : Order → Type 0
Loose o = (o.lots ≤ most_lots) × (kind_fits o.kind ≡ true)

taken_loose : (s : Side) (k : Kind) (gs : List ℕ) (os : List Order) → AllByRecursion Loose os → AllByRecursion Loose (taken s k gs os)
taken_loose s k gs [] h = tt
taken_loose s k [] (o ∷ os) h = h
taken_loose s k (g ∷ gs) (o ∷ os) h =
    cond_both (at s k o) (less o g ∷ taken s k gs os) (o ∷ taken s k (g ∷ gs) os) (AllByRecursion Loose) (λ _. ((omega (arith, h.0.0), h.0.1), taken_loose s k gs os h.1)) (λ _. (h.0, taken_loose s k (g ∷ gs) os h.1))

standing_fits : (os : List Order) → AllByRecursion Loose os → AllByRecursion Fits (standing os)
standing_fits [] h = tt
standing_fits (o ∷ os) h =
    cond_both (ltb 0 o.lots) (o ∷ standing os) (standing os) (AllByRecursion Fits) (λ e. (fits_from o (omega (arith, ltb-true 0 o.lots e)) h.0.0 h.0.1, standing_fits os h.1)) (λ _. standing_fits os h.1)

-- What stands after shares are taken off.
pub fit_traded : (s : Side) (k : Kind) (gs : List ℕ) (os : List Order) → all_fit os ≡ true → all_fit (standing (taken s k gs os)) ≡ true
fit_traded s k gs os h =
    let loose = All-weaker Fits Loose (λ o f. ((lots_fit o f).1, kind_of_fit o f)) os (each_fits os h) in
    all_fits (standing (taken s k gs os)) (standing_fits (taken s k gs os) (taken_loose s k gs os loose))

-- ---- what the rules ask of open orders

in_range : (k : Kind) → kind_fits k ≡ true → InRange k
in_range (Limit x) h =
    let a = and_parts (leb lowest_price x) (leb x highest_price) h in
    (leb-true lowest_price x a.0, leb-true x highest_price a.1)
in_range OnOpen h = tt

pub fit_sound : (os : List Order) → all_fit os ≡ true → Sound os
fit_sound os h =
    All-weaker Fits (λ (o : Order). (1 ≤ o.lots) × (o.lots ≤ most_lots) × InRange o.kind) (λ o k. ((lots_fit o k).0, (lots_fit o k).1, in_range o.kind (kind_of_fit o k))) os (each_fits os h)

pub fit_book : (os : List Order) → all_fit os ≡ true → length os ≤ 256 → Book os
fit_book os h few = record { sound = fit_sound os h; few = few }

pub table_book : (t : Table) → Book (open_orders t)
table_book t = fit_book (open_orders t) t.fit t.within
