-- The loop that takes the shares off a level, one order at a time.
use Rattle.std.proofs.Common.{◌≡◌, ℕ, suc, ◌+◌, ◌<◌, ◌≤◌, Bool, true, false, ltb, List, [], ◌∷◌, ◌++◌, map, length, get_or, take, drop, set, sym, refl, ap, ◌∙◌, subst, arith}
use Rattle.std.proofs.lemmas.List.{take_more, take_more_set, append_assoc, at_drop_more, drop_more, length-append, drop-set-lt, length-set, nil_from_length}
use Rattle.std.proofs.lemmas.Bool.{cond-true, cond-false, cond_both}
use Rattle.policy.specs.Fair.{Within}
use Rattle.rules.specs.declared.order.Order.{Order}
use Rattle.rules.specs.declared.order.Side.{Side}
use Rattle.rules.specs.declared.order.Kind.{Kind}
use Rattle.rules.specs.declared.tape.TapeLine.{TapeLine}
use Rattle.rules.specs.Orders.{at, level, queue}
use Rattle.rules.specs.Trades.{less, taken, line, lines}
use Rattle.table.proofs.Open.{read_same, drop_next}

-- What is taken, and what is left to take: os is the list at the loop's start, and ys the list as it is.
pub record Taking (s : Side) (k : Kind) (shares : List ℕ) (os ys : List Order) (i : ℕ) (left : List ℕ) : Type 0 where
  pub front : take i ys ++ taken s k left (drop i os) ≡ taken s k shares os
  pub rest : drop i ys ≡ drop i os
  pub long : length ys ≡ length os
  pub covered : Within (queue s k (drop i os)) left

-- What is written, and what is left to write.
pub record Writing (s : Side) (k : Kind) (p : ℕ) (shares : List ℕ) (os : List Order) (before tape : List TapeLine) (i : ℕ) (left : List ℕ) : Type 0 where
  pub written : tape ++ lines p (level s k (drop i os)) left ≡ before ++ lines p (level s k os) shares
  pub room : length tape + length left ≤ 512

within_rest : (q : ℕ) (qs : List ℕ) (g : ℕ) (gs : List ℕ) → Within (q ∷ qs) (g ∷ gs) → Within qs gs
within_rest q qs g gs h = h.1

taken_none : (s : Side) (k : Kind) (os : List Order) → taken s k [] os ≡ os
taken_none s k [] = refl
taken_none s k (o ∷ os) = refl

-- An order of another level stays as it is.
pub taken_no : (s : Side) (k : Kind) (gs : List ℕ) (o : Order) (os : List Order) → at s k o ≡ false → taken s k gs (o ∷ os) ≡ o ∷ taken s k gs os
taken_no s k [] o os off = ap (λ l. o ∷ l) (sym (taken_none s k os))
taken_no s k (g ∷ gs) o os off = cond-false (at s k o) _ _ off

pub taken_yes : (s : Side) (k : Kind) (g : ℕ) (gs : List ℕ) (o : Order) (os : List Order) → at s k o ≡ true → taken s k (g ∷ gs) (o ∷ os) ≡ less o g ∷ taken s k gs os
taken_yes s k g gs o os on = cond-true (at s k o) _ _ on

-- As many orders as before.
pub taken_length : (s : Side) (k : Kind) (gs : List ℕ) (os : List Order) → length (taken s k gs os) ≡ length os
taken_length s k gs [] = refl
taken_length s k [] (o ∷ os) = refl
taken_length s k (g ∷ gs) (o ∷ os) = cond_both (at s k o) (less o g ∷ taken s k gs os) (o ∷ taken s k (g ∷ gs) os) (λ l. length l ≡ suc (length os))
    (λ _. omega (arith, taken_length s k gs os))
    (λ _. omega (arith, taken_length s k (g ∷ gs) os))

pub short_line : (number : ℕ) (s : Side) (p lots : ℕ) → length (line number s p lots) ≤ 1
short_line number s p lots = cond_both (ltb 0 lots) _ _ (λ (l : List TapeLine). length l ≤ 1) (λ e. omega arith) (λ e. omega arith)

-- A line at most for each share.
pub lines_few : (p : ℕ) (os : List Order) (gs : List ℕ) → length (lines p os gs) ≤ length gs
lines_few p [] gs = omega arith
lines_few p (o ∷ os) [] = omega arith
lines_few p (o ∷ os) (g ∷ gs) =
    omega (arith, length-append (line o.number o.side p g) (lines p os gs), short_line o.number o.side p g, lines_few p os gs)

module _ (s : Side) (k : Kind) (os : List Order) (i : ℕ) (d : Order) (in' : i < length os) where
  level_yes : at s k (get_or os i d) ≡ true → level s k (drop i os) ≡ get_or os i d ∷ level s k (drop (i + 1) os)
  level_yes on = at_drop_more (level s k) os i d in' ∙ cond-true (at s k (get_or os i d)) _ _ on

  level_no : at s k (get_or os i d) ≡ false → level s k (drop i os) ≡ level s k (drop (i + 1) os)
  level_no off = at_drop_more (level s k) os i d in' ∙ cond-false (at s k (get_or os i d)) _ _ off

  level_queue : at s k (get_or os i d) ≡ true → queue s k (drop i os) ≡ (get_or os i d).lots ∷ queue s k (drop (i + 1) os)
  level_queue on = ap (map (λ (o : Order). o.lots)) (level_yes on)

  -- The level's next order has a share.
  pub some_share : (left : List ℕ) → Within (queue s k (drop i os)) left → at s k (get_or os i d) ≡ true → left ≡ [] → ⊥
  some_share left h on none =
      let here : Within ((get_or os i d).lots ∷ queue s k (drop (i + 1) os)) left = rw (level_queue on) at h in
      let w : Within ((get_or os i d).lots ∷ queue s k (drop (i + 1) os)) [] = rw none at here in
      w

  -- The order that is read is the one that stood there.
  pub read_at : (shares left : List ℕ) (ys : List Order) (b : Bool) → Taking s k shares os ys i left → at s k (get_or ys i d) ≡ b → at s k (get_or os i d) ≡ b
  read_at shares left ys b t e = ap (at s k) (sym (read_same os ys i d t.rest)) ∙ e

  pub taking_no : (shares left : List ℕ) (ys : List Order) → Taking s k shares os ys i left → at s k (get_or os i d) ≡ false → Taking s k shares os ys (i + 1) left
  taking_no shares left ys t off =
      let one = ap (taken s k left) (drop_more os i d in') ∙ taken_no s k left (get_or os i d) (drop (i + 1) os) off in
      let same = read_same os ys i d t.rest in
      let more = take_more ys i d (omega (arith, t.long)) in
      let assoc = append_assoc (take i ys) (get_or ys i d ∷ []) (taken s k left (drop (i + 1) os)) in
      record {
        front = (let f = t.front in cc);
        rest = drop_next os ys i t.rest;
        long = t.long;
        covered = rw (ap (map (λ (o : Order). o.lots)) (level_no off)) at t.covered;
      }

  pub taking_yes : (shares : List ℕ) (g : ℕ) (gs : List ℕ) (ys : List Order) → Taking s k shares os ys i (g ∷ gs) → at s k (get_or os i d) ≡ true → Taking s k shares os (set ys i (less (get_or ys i d) g)) (i + 1) gs
  taking_yes shares g gs ys t on =
      let y = less (get_or ys i d) g in
      let same = read_same os ys i d t.rest in
      let one = ap (taken s k (g ∷ gs)) (drop_more os i d in') in
      let two = taken_yes s k g gs (get_or os i d) (drop (i + 1) os) on in
      let new = ap (λ (o : Order). less o g) same in
      let more = take_more_set ys i y (omega (arith, t.long)) in
      let assoc = append_assoc (take i ys) (y ∷ []) (taken s k gs (drop (i + 1) os)) in
      record {
        front = (let f = t.front in cc);
        rest = drop-set-lt (i + 1) ys i y (omega arith) ∙ drop_next os ys i t.rest;
        long = length-set ys i y ∙ t.long;
        covered = within_rest (get_or os i d).lots (queue s k (drop (i + 1) os)) g gs (rw (level_queue on) at t.covered);
      }

  pub writing_no : (p : ℕ) (shares left : List ℕ) (before tape : List TapeLine) → Writing s k p shares os before tape i left → at s k (get_or os i d) ≡ false → Writing s k p shares os before tape (i + 1) left
  writing_no p shares left before tape w off =
      let one = ap (λ l. tape ++ lines p l left) (level_no off) in
      record { written = sym one ∙ w.written; room = w.room }

  pub writing_yes : (p : ℕ) (shares : List ℕ) (g : ℕ) (gs : List ℕ) (before tape : List TapeLine) → Writing s k p shares os before tape i (g ∷ gs) → at s k (get_or os i d) ≡ true → Writing s k p shares os before (tape ++ line (get_or os i d).number (get_or os i d).side p g) (i + 1) gs
  writing_yes p shares g gs before tape w on =
      let o = get_or os i d in
      let new = line o.number o.side p g in
      let later = lines p (level s k (drop (i + 1) os)) gs in
      let one : lines p (level s k (drop i os)) (g ∷ gs) ≡ new ++ later = ap (λ l. lines p l (g ∷ gs)) (level_yes on) in
      record {
        written = append_assoc tape new later ∙ ap (λ l. tape ++ l) (sym one) ∙ w.written;
        room = omega (arith, w.room, length-append tape new, short_line o.number o.side p g);
      }

  -- One turn of the loop: an order of the level takes the first share that is left, another passes.
  pub turn_yes : (p : ℕ) (shares left : List ℕ) (g : ℕ) (gs : List ℕ) (ys : List Order) (before tape now : List TapeLine) (y : Order) → left ≡ g ∷ gs → y ≡ less (get_or ys i d) g → now ≡ tape ++ line (get_or ys i d).number (get_or ys i d).side p g → at s k (get_or ys i d) ≡ true →
      Taking s k shares os ys i left × Writing s k p shares os before tape i left → Taking s k shares os (set ys i y) (i + 1) gs × Writing s k p shares os before now (i + 1) gs
  turn_yes p shares left g gs ys before tape now y cut took wrote on h =
      let t = subst (Taking s k shares os ys i) cut h.0 in
      let w = subst (Writing s k p shares os before tape i) cut h.1 in
      let on0 = read_at shares (g ∷ gs) ys true t on in
      let same = ap (λ (o : Order). tape ++ line o.number o.side p g) (read_same os ys i d t.rest) in (
        subst (λ (z : Order). Taking s k shares os (set ys i z) (i + 1) gs) (sym took) (taking_yes shares g gs ys t on0),
        subst (λ (l : List TapeLine). Writing s k p shares os before l (i + 1) gs) (sym (wrote ∙ same)) (writing_yes p shares g gs before tape w on0),
      )

  pub turn_no : (p : ℕ) (shares left : List ℕ) (ys : List Order) (before tape : List TapeLine) → at s k (get_or ys i d) ≡ false →
      Taking s k shares os ys i left × Writing s k p shares os before tape i left → Taking s k shares os ys (i + 1) left × Writing s k p shares os before tape (i + 1) left
  turn_no p shares left ys before tape off h =
      let off0 = read_at shares left ys false h.0 off in
      (taking_no shares left ys h.0 off0, writing_no p shares left before tape h.1 off0)

  -- An order of the level finds a share.
  pub share_left : (shares left : List ℕ) (ys : List Order) → Taking s k shares os ys i left → at s k (get_or ys i d) ≡ true → length left ≡ 0 → ⊥
  share_left shares left ys t on none = some_share left t.covered (read_at shares left ys true t on) (nil_from_length left none)
