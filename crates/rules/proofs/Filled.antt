-- What a level's fill leaves, and that it loses no lot.
use Rattle.std.proofs.Common.{◌≡◌, ℕ, suc, ◌+◌, ◌-◌, ◌≤◌, min, Bool, true, false, cond, ◌&&◌, ltb, List, [], ◌∷◌, ◌++◌, map, length, filter, sym, refl, ap, ◌∙◌, arith}
use Rattle.std.specs.List.{AllByRecursion}
use Rattle.std.proofs.lemmas.List.{append-nil, length-map}
use Rattle.std.proofs.lemmas.List.Sums.{length-filter, count_by-le-length}
use Rattle.std.proofs.lemmas.Bool.{cond_both, cond-true, cond-false, ltb-true, ltb-false, eqb-true, lt-ltb, le-ltb, eq-eqb}
use Rattle.std.proofs.ByRecursion.{kept_by_passes, All-weaker, all_kept_by, All-append}
use Rattle.policy.specs.Queue.{Queue}
use Rattle.policy.specs.Fair.{total, Within, Fair, Rule, Fairly}
use Rattle.rules.specs.declared.order.Side.{Side}
use Rattle.rules.specs.declared.order.Side.TheVariants.{Bid, Offer}
use Rattle.rules.specs.declared.order.Kind.{Kind}
use Rattle.rules.specs.declared.order.Kind.TheVariants.{Limit, OnOpen}
use Rattle.rules.specs.declared.order.Order.{Order}
use Rattle.rules.specs.declared.tape.TapeLine.{TapeLine}
use Rattle.rules.specs.declared.tape.Terms.{Terms}
use Rattle.rules.specs.declared.tape.Terms.TheVariants.{Opening, Entry}
use Rattle.rules.specs.Limits.{most_lots}
use Rattle.rules.specs.Sides.{is, other}
use Rattle.rules.specs.Orders.{held, same, at, level, queue, InRange, Sound, Book}
use Rattle.rules.specs.Trades.{shares, less, taken, standing, line, lines, written, Step, fill, lined}
use Rattle.rules.proofs.Shared.{shares_fair, shares_all}

-- the shares of the orders that pass
abbrev pub shared : (Order → Bool) → List Order → List ℕ → ℕ
shared t [] gs = 0
shared t (o ∷ os) [] = 0
shared t (o ∷ os) (g ∷ gs) = cond (t o) g 0 + shared t os gs

shared_nil : (t : Order → Bool) (os : List Order) → shared t os [] ≡ 0
shared_nil t [] = refl
shared_nil t (o ∷ os) = refl

cond_less : (b c : Bool) (n g : ℕ) → c ≡ b → g ≤ n → cond c (n - g) 0 + cond b g 0 ≡ cond b n 0
cond_less true true n g e h = omega arith
cond_less true false n g e h = let z : ◌≡◌ {A = ℕ} 0 1 = cc in absurd (omega arith)
cond_less false true n g e h = let z : ◌≡◌ {A = ℕ} 0 1 = cc in absurd (omega arith)
cond_less false false n g e h = refl

module _ (t : Order → Bool) (steady : (o : Order) (g : ℕ) → t (less o g) ≡ t o) (s : Side) (k : Kind) where
  taken_one : (b : Bool) (o : Order) (g : ℕ) (gs : List ℕ) (os : List Order) → Within (map (λ o. o.lots) (cond b (o ∷ level s k os) (level s k os))) (g ∷ gs) →
      (Within (queue s k os) gs → held t (taken s k gs os) + shared t (level s k os) gs ≡ held t os) →
      (Within (queue s k os) (g ∷ gs) → held t (taken s k (g ∷ gs) os) + shared t (level s k os) (g ∷ gs) ≡ held t os) →
      held t (cond b (less o g ∷ taken s k gs os) (o ∷ taken s k (g ∷ gs) os)) + shared t (cond b (o ∷ level s k os) (level s k os)) (g ∷ gs) ≡ cond (t o) o.lots 0 + held t os
  taken_one true o g gs os u this other = omega (arith, cond_less (t o) (t (less o g)) o.lots g (steady o g) u.0, this u.1)
  taken_one false o g gs os u this other = omega (arith, other u)

  taken_held : (gs : List ℕ) (os : List Order) → Within (queue s k os) gs → held t (taken s k gs os) + shared t (level s k os) gs ≡ held t os
  taken_held gs [] u = refl
  taken_held [] (o ∷ os) u = omega (arith, shared_nil t (level s k (o ∷ os)))
  taken_held (g ∷ gs) (o ∷ os) u = taken_one (at s k o) o g gs os u (taken_held gs os) (taken_held (g ∷ gs) os)

standing_held : (t : Order → Bool) (os : List Order) → held t (standing os) ≡ held t os
standing_held t [] = refl
standing_held t (o ∷ os) = cond_both (ltb 0 o.lots) (o ∷ standing os) (standing os) (λ z. held t z ≡ cond (t o) o.lots 0 + held t os)
    (λ _. omega (arith, standing_held t os))
    (λ none. omega (arith, standing_held t os, ltb-false 0 o.lots none, cond_both (t o) o.lots 0 (λ n. n ≤ o.lots) (λ _. omega arith) (λ _. omega arith)))

cond_sum : (b : Bool) (n m : ℕ) → cond b n 0 + cond b m 0 ≡ cond b (n + m) 0
cond_sum true n m = refl
cond_sum false n m = refl

pub lined_append : (t : ℕ → Side → Bool) (xs ys : List TapeLine) → lined t (xs ++ ys) ≡ lined t xs + lined t ys
lined_append t [] ys = omega arith
lined_append t (x ∷ xs) ys = omega (arith, lined_append t xs ys)

lined_line : (t : ℕ → Side → Bool) (number : ℕ) (s : Side) (p n : ℕ) → lined t (line number s p n) ≡ cond (t number s) n 0
lined_line t number s p n = cond_both (ltb 0 n) (record { number = number; side = s; price = p; lots = n } ∷ []) [] (λ ls. lined t ls ≡ cond (t number s) n 0)
    (λ _. omega arith)
    (λ none. omega (arith, ltb-false 0 n none, cond_both (t number s) n 0 (λ m. m ≤ n) (λ _. omega arith) (λ _. omega arith)))

lined_lines : (t : ℕ → Side → Bool) (p : ℕ) (os : List Order) (gs : List ℕ) → lined t (lines p os gs) ≡ shared (λ o. t o.number o.side) os gs
lined_lines t p [] gs = refl
lined_lines t p (o ∷ os) [] = refl
lined_lines t p (o ∷ os) (g ∷ gs) = omega (arith, lined_append t (line o.number o.side p g) (lines p os gs), lined_line t o.number o.side p g, lined_lines t p os gs)

-- A level whose trades are written: a session entry meets limit orders only.
abbrev pub Writes : Terms → Kind → Type 0
Writes (Opening p) k = Unit {0}
Writes (Entry number) (Limit x) = Unit {0}
Writes (Entry number) OnOpen = ⊥

pub limit_writes : (terms : Terms) (x : ℕ) → Writes terms (Limit x)
limit_writes (Opening p) x = tt
limit_writes (Entry number) x = tt

-- Of n lots traded with a side's orders, those of the entry's own line that pass.
abbrev pub own : Terms → (ℕ → Side → Bool) → Side → ℕ → ℕ
own (Opening p) t s n = 0
own (Entry number) t s n = cond (t number (other s)) n 0

pub own_none : (terms : Terms) (t : ℕ → Side → Bool) (s : Side) → own terms t s 0 ≡ 0
own_none (Opening p) t s = refl
own_none (Entry number) t s = cond_both (t number (other s)) 0 0 (λ n. n ≡ 0) (λ _. refl) (λ _. refl)

pub own_sum : (terms : Terms) (t : ℕ → Side → Bool) (s : Side) (n m : ℕ) → own terms t s n + own terms t s m ≡ own terms t s (n + m)
own_sum (Opening p) t s n m = refl
own_sum (Entry number) t s n m = cond_sum (t number (other s)) n m

lined_written : (t : ℕ → Side → Bool) (terms : Terms) (s : Side) (v : ℕ) (k : Kind) (os : List Order) (gs : List ℕ) → Writes terms k → lined t (written terms s v k os gs) ≡ shared (λ o. t o.number o.side) (level s k os) gs + own terms t s (min v (held (at s k) os))
lined_written t (Opening p) s v k os gs w = omega (arith, lined_lines t p (level s k os) gs)
lined_written t (Entry number) s v (Limit x) os gs w =
    let n : ℕ = min v (held (at s (Limit x)) os) in
    omega (arith, lined_append t (lines x (level s (Limit x) os) gs) (line number (other s) x n), lined_lines t x (level s (Limit x) os) gs, lined_line t number (other s) x n)
lined_written t (Entry number) s v OnOpen os gs w = absurd w

-- ---- the orders of one level are alike

pub at_side : (s s' : Side) (k k' : Kind) → (is s s' && same k k') ≡ true → s' ≡ s
at_side Bid Bid k k' e = refl
at_side Bid Offer k k' e = let z : ◌≡◌ {A = ℕ} 0 1 = cc in absurd (omega arith)
at_side Offer Bid k k' e = let z : ◌≡◌ {A = ℕ} 0 1 = cc in absurd (omega arith)
at_side Offer Offer k k' e = refl

same_kind : (k k' : Kind) → same k k' ≡ true → k' ≡ k
same_kind (Limit x) (Limit y) e = ap Limit (sym (eqb-true x y e))
same_kind (Limit x) OnOpen e = let z : ◌≡◌ {A = ℕ} 0 1 = cc in absurd (omega arith)
same_kind OnOpen (Limit y) e = let z : ◌≡◌ {A = ℕ} 0 1 = cc in absurd (omega arith)
same_kind OnOpen OnOpen e = refl

pub at_kind : (s s' : Side) (k k' : Kind) → (is s s' && same k k') ≡ true → k' ≡ k
at_kind Bid Bid k k' e = same_kind k k' e
at_kind Bid Offer k k' e = let z : ◌≡◌ {A = ℕ} 0 1 = cc in absurd (omega arith)
at_kind Offer Bid k k' e = let z : ◌≡◌ {A = ℕ} 0 1 = cc in absurd (omega arith)
at_kind Offer Offer k k' e = same_kind k k' e

pub is_self : (s : Side) → is s s ≡ true
is_self Bid = refl
is_self Offer = refl

at_self : (s : Side) (k : Kind) → (is s s && same k k) ≡ true
at_self Bid (Limit x) = eq-eqb x x refl
at_self Bid OnOpen = refl
at_self Offer (Limit x) = eq-eqb x x refl
at_self Offer OnOpen = refl

-- an entry's own line is of the other side
pub own_side : (terms : Terms) (s : Side) (n : ℕ) → own terms (λ i side. is s side) s n ≡ 0
own_side (Opening p) s n = refl
own_side (Entry number) Bid n = refl
own_side (Entry number) Offer n = refl

shared_alike : (t : Order → Bool) (c : Bool) (os : List Order) (gs : List ℕ) → AllByRecursion (λ o. t o ≡ c) os → Within (map (λ o. o.lots) os) gs → shared t os gs ≡ cond c (total gs) 0
shared_alike t true [] [] a u = refl
shared_alike t false [] [] a u = refl
shared_alike t c [] (g ∷ gs) a u = absurd u
shared_alike t c (o ∷ os) [] a u = absurd u
shared_alike t true (o ∷ os) (g ∷ gs) a u = rw a.0 (omega (arith, shared_alike t true os gs a.1 u.1))
shared_alike t false (o ∷ os) (g ∷ gs) a u = rw a.0 (omega (arith, shared_alike t false os gs a.1 u.1))

level_alike : (T : Side → Kind → Bool) (s : Side) (k : Kind) (os : List Order) → AllByRecursion (λ o. T o.side o.kind ≡ T s k) (level s k os)
level_alike T s k os = All-weaker (λ o. at s k o ≡ true) (λ o. T o.side o.kind ≡ T s k)
    (λ o e. ap (λ (x : Side). T x o.kind) (at_side s o.side k o.kind e) ∙ ap (λ (x : Kind). T s x) (at_kind s o.side k o.kind e))
    (level s k os) (kept_by_passes (at s k) os)

pub queue_total : (s : Side) (k : Kind) (os : List Order) → total (queue s k os) ≡ held (at s k) os
queue_total s k [] = refl
queue_total s k (o ∷ os) = cond_both (at s k o) (o ∷ level s k os) (level s k os) (λ z. total (map (λ o. o.lots) z) ≡ cond (at s k o) o.lots 0 + held (at s k) os)
    (λ e. rw e (omega (arith, queue_total s k os)))
    (λ e. rw e (omega (arith, queue_total s k os)))

-- ---- bounds

abbrev Loose : List Order → Type 0
Loose os = AllByRecursion (λ o. (o.lots ≤ most_lots) × InRange o.kind) os

loose : (os : List Order) → Sound os → Loose os
loose os a = All-weaker (λ o. (1 ≤ o.lots) × (o.lots ≤ most_lots) × InRange o.kind) (λ o. (o.lots ≤ most_lots) × InRange o.kind) (λ o h. (h.1, h.2)) os a

taken_loose : (s : Side) (k : Kind) (gs : List ℕ) (os : List Order) → Loose os → Loose (taken s k gs os)
taken_loose s k gs [] a = tt
taken_loose s k [] (o ∷ os) a = a
taken_loose s k (g ∷ gs) (o ∷ os) a = cond_both (at s k o) (less o g ∷ taken s k gs os) (o ∷ taken s k (g ∷ gs) os) Loose
    (λ _. ((omega (arith, a.0.0), a.0.1), taken_loose s k gs os a.1))
    (λ _. (a.0, taken_loose s k (g ∷ gs) os a.1))

standing_sound : (os : List Order) → Loose os → Sound (standing os)
standing_sound [] a = tt
standing_sound (o ∷ os) a = cond_both (ltb 0 o.lots) (o ∷ standing os) (standing os) Sound
    (λ e. ((ltb-true 0 o.lots e, a.0.0, a.0.1), standing_sound os a.1))
    (λ _. standing_sound os a.1)

taken_length : (s : Side) (k : Kind) (gs : List ℕ) (os : List Order) → length (taken s k gs os) ≡ length os
taken_length s k gs [] = refl
taken_length s k [] (o ∷ os) = refl
taken_length s k (g ∷ gs) (o ∷ os) = cond_both (at s k o) (less o g ∷ taken s k gs os) (o ∷ taken s k (g ∷ gs) os) (λ z. length z ≡ suc (length os))
    (λ _. ap suc (taken_length s k gs os))
    (λ _. ap suc (taken_length s k (g ∷ gs) os))

kept_length : (t : Order → Bool) (os : List Order) → length (filter t os) ≤ length os
kept_length t os = omega (arith, length-filter t os, count_by-le-length t os)

pub kept_sound : (t : Order → Bool) (os : List Order) → Sound os → Sound (filter t os)
kept_sound t os a = all_kept_by t (λ o. (1 ≤ o.lots) × (o.lots ≤ most_lots) × InRange o.kind) os a

pub kept_book : (t : Order → Bool) (os : List Order) → Book os → Book (filter t os)
kept_book t os b = record { sound = kept_sound t os b.sound; few = omega (arith, kept_length t os, b.few) }

queue_small : (os : List Order) → Sound os → AllByRecursion (λ place. place ≤ most_lots) (map (λ (o : Order). o.lots) os)
queue_small [] a = tt
queue_small (o ∷ os) a = (a.0.1, queue_small os a.1)

-- ---- a fill by a fair rule

-- the lots of some orders, with those on the tape
abbrev pub account : (ℕ → Side → Bool) → Step → ℕ
account t m = held (λ o. t o.number o.side) m.orders + lined t m.tape

-- the lots of a side's orders
abbrev pub side_held : Side → List Order → ℕ
side_held s os = held (λ o. is s o.side) os

-- the lots of orders of one kind
abbrev pub of_kind : (Side → Kind → Bool) → List Order → ℕ
of_kind T os = held (λ o. T o.side o.kind) os

module _ (rule : Rule) (fair : Fairly rule) (s : Side) (v : ℕ) (k : Kind) (os : List Order) (b : Book os) where
  level_queue : Queue (queue s k os)
  level_queue = record {
    few = omega (arith, length-map (level s k os) (λ (o : Order). o.lots), kept_length (at s k) os, b.few);
    small = queue_small (level s k os) (kept_sound (at s k) os b.sound);
  }

  answer : Fair (queue s k os) v (shares rule (queue s k os) v)
  answer = shares_fair rule fair (queue s k os) v level_queue

  -- they give the lesser of v and what they hold
  pub shares_sum : total (shares rule (queue s k os) v) ≡ min v (held (at s k) os)
  shares_sum = answer.adds ∙ ap (min v) (queue_total s k os)

module _ (rule : Rule) (fair : Fairly rule) (terms : Terms) (s : Side) (v : ℕ) (k : Kind) (m : Step) (b : Book m.orders) where
  pub fill_length : length (fill rule terms s v k m).orders ≤ length m.orders
  fill_length =
      let gs : List ℕ = shares rule (queue s k m.orders) v in
      omega (arith, kept_length (λ o. ltb 0 o.lots) (taken s k gs m.orders), taken_length s k gs m.orders)

  pub fill_book : Book (fill rule terms s v k m).orders
  fill_book =
      let gs : List ℕ = shares rule (queue s k m.orders) v in
      record {
        sound = standing_sound (taken s k gs m.orders) (taken_loose s k gs m.orders (loose m.orders b.sound));
        few = omega (arith, fill_length, b.few);
      }

  -- no lot is lost: what an order has no more is on its line, and as much on the entry's
  pub fill_account : Writes terms k → (t : ℕ → Side → Bool) → account t (fill rule terms s v k m) ≡ account t m + own terms t s (min v (held (at s k) m.orders))
  fill_account w t =
      let gs : List ℕ = shares rule (queue s k m.orders) v in
      let u : Order → Bool = λ o. t o.number o.side in
      omega (
        arith,
        standing_held u (taken s k gs m.orders),
        taken_held u (λ o g. refl) s k gs m.orders (answer rule fair s v k m.orders b).within,
        lined_append t m.tape (written terms s v k m.orders gs),
        lined_written t terms s v k m.orders gs w,
      )

  -- the level has min v L lots less, and no other level has
  pub fill_kind : (T : Side → Kind → Bool) → of_kind T (fill rule terms s v k m).orders + cond (T s k) (min v (held (at s k) m.orders)) 0 ≡ of_kind T m.orders
  fill_kind T =
      let gs : List ℕ = shares rule (queue s k m.orders) v in
      let u : Order → Bool = λ o. T o.side o.kind in
      let a = answer rule fair s v k m.orders b in
      let alike : shared u (level s k m.orders) gs ≡ cond (T s k) (min v (held (at s k) m.orders)) 0 =
      shared_alike u (T s k) (level s k m.orders) gs (level_alike T s k m.orders) a.within ∙ ap (λ n. cond (T s k) n 0) (shares_sum rule fair s v k m.orders b) in
      omega (arith, standing_held u (taken s k gs m.orders), taken_held u (λ o g. refl) s k gs m.orders a.within)

  -- of the level itself
  pub fill_level : held (at s k) (fill rule terms s v k m).orders + min v (held (at s k) m.orders) ≡ held (at s k) m.orders
  fill_level = omega (arith, fill_kind (λ side kind. is s side && same k kind), cond-true (is s s && same k k) (min v (held (at s k) m.orders)) 0 (at_self s k))

  -- the lots of the side on the tape rise by those the level traded
  pub fill_trades : Writes terms k → lined (λ n side. is s side) (fill rule terms s v k m).tape ≡ lined (λ n side. is s side) m.tape + min v (held (at s k) m.orders)
  fill_trades w =
      let n : ℕ = min v (held (at s k) m.orders) in
      omega (arith, fill_account w (λ n side. is s side), own_side terms s n, fill_kind (λ side kind. is s side), cond-true (is s s) n 0 (is_self s))

-- ---- the prices of the lines

-- At which price a level's trade is written; an entry writes none with On-Open orders.
abbrev pub line_price : Terms → Kind → ℕ
line_price (Opening p) k = p
line_price (Entry number) (Limit x) = x
line_price (Entry number) OnOpen = 0

module _ (P : ℕ → Type 0) where
  line_at : (number : ℕ) (s : Side) (p n : ℕ) → P p → AllByRecursion (λ l. P l.price) (line number s p n)
  line_at number s p n h = cond_both (ltb 0 n) (record { number = number; side = s; price = p; lots = n } ∷ []) [] (AllByRecursion (λ l. P l.price)) (λ _. (h, tt)) (λ _. tt)

  lines_at : (p : ℕ) (os : List Order) (gs : List ℕ) → P p → AllByRecursion (λ l. P l.price) (lines p os gs)
  lines_at p [] gs h = tt
  lines_at p (o ∷ os) [] h = tt
  lines_at p (o ∷ os) (g ∷ gs) h = All-append (λ l. P l.price) (line o.number o.side p g) (lines p os gs) (line_at o.number o.side p g h) (lines_at p os gs h)

  written_at : (terms : Terms) (s : Side) (v : ℕ) (k : Kind) (os : List Order) (gs : List ℕ) → P (line_price terms k) → AllByRecursion (λ l. P l.price) (written terms s v k os gs)
  written_at (Opening p) s v k os gs h = lines_at p (level s k os) gs h
  written_at (Entry number) s v (Limit x) os gs h = All-append (λ l. P l.price) (lines x (level s (Limit x) os) gs) (line number (other s) x (min v (held (at s (Limit x)) os))) (lines_at x (level s (Limit x) os) gs h) (line_at number (other s) x (min v (held (at s (Limit x)) os)) h)
  written_at (Entry number) s v OnOpen os gs h = tt

  pub fill_price : (rule : Rule) (terms : Terms) (s : Side) (v : ℕ) (k : Kind) (m : Step) → P (line_price terms k) → AllByRecursion (λ l. P l.price) m.tape → AllByRecursion (λ l. P l.price) (fill rule terms s v k m).tape
  fill_price rule terms s v k m h a =
      let gs : List ℕ = shares rule (queue s k m.orders) v in
      All-append (λ l. P l.price) m.tape (written terms s v k m.orders gs) a (written_at terms s v k m.orders gs h)

-- ---- where the rule has no choice

-- a level that holds no more than trades gives all it holds
pub trades_out : (rule : Rule) (s : Side) (v : ℕ) (k : Kind) (os : List Order) → held (at s k) os ≤ v → shares rule (queue s k os) v ≡ queue s k os
trades_out rule s v k os h = shares_all rule (queue s k os) v (omega (arith, queue_total s k os))

-- no lot left to trade: nothing changes
nought : (gs : List ℕ) → total gs ≡ 0 → AllByRecursion (λ g. g ≡ 0) gs
nought [] e = tt
nought (g ∷ gs) e = (omega arith, nought gs (omega arith))

line_none : (number : ℕ) (s : Side) (p n : ℕ) → n ≡ 0 → line number s p n ≡ []
line_none number s p n e = cond-false (ltb 0 n) (record { number = number; side = s; price = p; lots = n } ∷ []) [] (le-ltb 0 n (omega arith))

lines_none : (p : ℕ) (os : List Order) (gs : List ℕ) → AllByRecursion (λ g. g ≡ 0) gs → lines p os gs ≡ []
lines_none p [] gs a = refl
lines_none p (o ∷ os) [] a = refl
lines_none p (o ∷ os) (g ∷ gs) a = let e = line_none o.number o.side p g a.0 in let f = lines_none p os gs a.1 in cc

written_none : (terms : Terms) (s : Side) (v : ℕ) (k : Kind) (os : List Order) (gs : List ℕ) → v ≡ 0 → AllByRecursion (λ g. g ≡ 0) gs → written terms s v k os gs ≡ []
written_none (Opening p) s v k os gs z a = lines_none p (level s k os) gs a
written_none (Entry number) s v (Limit x) os gs z a =
    let e = lines_none x (level s (Limit x) os) gs a in
    let f = line_none number (other s) x (min v (held (at s (Limit x)) os)) (omega arith) in
    cc
written_none (Entry number) s v OnOpen os gs z a = refl

less_none : (o : Order) (g : ℕ) → g ≡ 0 → less o g ≡ o
less_none o g e = ap (λ (n : ℕ). record { number = o.number; id = o.id; side = o.side; kind = o.kind; lots = n; lifetime = o.lifetime }) (omega arith)

taken_none : (s : Side) (k : Kind) (gs : List ℕ) (os : List Order) → AllByRecursion (λ g. g ≡ 0) gs → taken s k gs os ≡ os
taken_none s k gs [] a = refl
taken_none s k [] (o ∷ os) a = refl
taken_none s k (g ∷ gs) (o ∷ os) a = cond_both (at s k o) (less o g ∷ taken s k gs os) (o ∷ taken s k (g ∷ gs) os) (λ z. z ≡ o ∷ os)
    (λ _. let e = less_none o g a.0 in let f = taken_none s k gs os a.1 in cc)
    (λ _. ap (λ (z : List Order). o ∷ z) (taken_none s k (g ∷ gs) os a))

standing_all : (os : List Order) → Sound os → standing os ≡ os
standing_all [] a = refl
standing_all (o ∷ os) a = let e : ltb 0 o.lots ≡ true = lt-ltb 0 o.lots a.0.0 in rw e (ap (λ (z : List Order). o ∷ z) (standing_all os a.1))

pub fill_none : (rule : Rule) → Fairly rule → (terms : Terms) (s : Side) (v : ℕ) (k : Kind) (m : Step) → Book m.orders → v ≡ 0 → fill rule terms s v k m ≡ m
fill_none rule fair terms s v k m b z =
    let gs : List ℕ = shares rule (queue s k m.orders) v in
    let n = nought gs (omega (arith, (answer rule fair s v k m.orders b).adds)) in
    let x : standing (taken s k gs m.orders) ≡ m.orders = ap standing (taken_none s k gs m.orders n) ∙ standing_all m.orders b.sound in
    let y : m.tape ++ written terms s v k m.orders gs ≡ m.tape = ap (λ (t : List TapeLine). m.tape ++ t) (written_none terms s v k m.orders gs z n) ∙ append-nil m.tape in
    λ i. record { orders = x i; tape = y i }
