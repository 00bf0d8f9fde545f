-- Every book of a run is a good one.
use Rattle.std.proofs.Common.{◌≡◌, ℕ, ◌+◌, ◌-◌, ◌<◌, ◌≤◌, min, Bool, true, not, ◌&&◌, eqb, List, [], ◌∷◌, ◌++◌, map, length, Some, filter, Option, sym, refl, subst, arith, length-append}
use Rattle.std.proofs.lemmas.List.{append-nil}
use Rattle.std.proofs.lemmas.Bool.{cond_both}
use Rattle.std.proofs.ByRecursion.{All-append}
use Rattle.policy.specs.Fair.{Rule, Fairly}
use Rattle.rules.specs.declared.order.Side.{Side}
use Rattle.rules.specs.declared.order.Side.TheVariants.{Bid, Offer}
use Rattle.rules.specs.declared.order.Kind.{Kind}
use Rattle.rules.specs.declared.order.Kind.TheVariants.{Limit, OnOpen}
use Rattle.rules.specs.declared.order.Order.{Order}
use Rattle.rules.specs.declared.incoming.Incoming.{Incoming}
use Rattle.rules.specs.declared.tape.Terms.TheVariants.{Entry}
use Rattle.rules.specs.declared.ladder.Ladder.{Ladder}
use Rattle.rules.specs.declared.line.Line.{Line}
use Rattle.rules.specs.declared.line.LineEvent.TheVariants.{GoesDown, ComesUp, Names}
use Rattle.rules.specs.declared.calls.Phase.{Phase}
use Rattle.rules.specs.declared.calls.Phase.TheVariants.{PreOpen, Open}
use Rattle.rules.specs.declared.calls.TimeInForce.{TimeInForce}
use Rattle.rules.specs.declared.calls.Call.{Call}
use Rattle.rules.specs.Limits.{most_lots, most_orders}
use Rattle.rules.specs.Sides.{is, other}
use Rattle.rules.specs.Orders.{held, priced, prices, same, on_open, InRange, Sound, Book}
use Rattle.rules.specs.Numbers.{numbers, below, rising}
use Rattle.rules.specs.Trades.{ranked}
use Rattle.rules.specs.Session.{accepts, reach, enough, met, Matched, matched}
use Rattle.rules.specs.Laws.{In}
use Rattle.rules.specs.Lines.{heir, moved}
use Rattle.rules.specs.Checks.{order_of}
use Rattle.rules.specs.Machine.{Rules, Machine, made, with_orders, with_lines}
use Rattle.rules.specs.Steps.{wait, meet, limit_incoming, market_incoming, lifetime_in, without, reduced, handed, open_book, close_book, lapses, step}
use Rattle.rules.proofs.Held.{level_in, in_level}
use Rattle.rules.proofs.Filled.{kept_book, of_kind}
use Rattle.rules.proofs.Served.{serve_le}
use Rattle.rules.proofs.Openings.{opening_keeps}
use Rattle.rules.proofs.Sessions.{LimitInRange, Room, held_append, rest_order, rest_both, matching_book, matching_uncrossed}
use Rattle.rules.proofs.Numbered.{thin_below, thin_rising, numbers_reduced, thin_kept, thin_without, rising_more, below_more, below_next, thin_opened, thin_met, thin_handed}
use Rattle.laws.specs.Laws.{Uncrossed}
use Rattle.laws.specs.Runs.{after}
use Rattle.laws.proofs.Good.{Good}
use Rattle.laws.proofs.Ways.{TakenLots, HasRoom, every_way}
use Rattle.laws.proofs.Changed.{held_without, held_reduced, held_handed, without_book, reduced_book, handed_book}

-- ---- fewer lots

-- No kind of order has more lots than before.
abbrev pub Fewer : List Order → List Order → Type 0
Fewer os left = (T : Side → Kind → Bool) → of_kind T left ≤ of_kind T os

-- A price that is left was there before.
fewer_in : (os left : List Order) → Sound left → Fewer os left → (s : Side) (x : ℕ) → In x (prices s left) → In x (prices s os)
fewer_in os left sound less s x i = level_in s os x (omega (arith, in_level s left sound x i, less (λ side kind. is s side && priced (λ y. eqb x y) kind)))

-- So a book with fewer lots is crossed no more than before.
pub uncrossed_fewer : (os left : List Order) → Sound left → Fewer os left → Uncrossed os → Uncrossed left
uncrossed_fewer os left sound less u = record {
  apart = λ x y i j. u.apart x y (fewer_in os left sound less Bid x i) (fewer_in os left sound less Offer y j);
  none_waits = omega (arith, u.none_waits, less (λ side kind. same OnOpen kind));
}

-- ---- a book with one order more, and an entry that meets the book

-- A book is not in both phases.
never_open : (P : Type 0) (phase : Phase) → phase ≡ PreOpen → phase ≡ Open → P
never_open P phase p q = let z : ◌≡◌ {A = ℕ} 0 1 = cc in absurd (omega arith)

-- A book with room takes one order more.
more_book : (os : List Order) (o : Order) → Book os → TakenLots o.lots → InRange o.kind → length os < most_orders → Book (os ++ o ∷ [])
more_book os o b lots range room = record {
  sound = All-append (λ o. (1 ≤ o.lots) × (o.lots ≤ most_lots) × InRange o.kind) os (o ∷ []) b.sound ((lots.0, lots.1, range), tt);
  few = omega (arith, length-append os (o ∷ []));
}

-- Numbers rise and are below n.
abbrev InTurn : ℕ → List ℕ → Type 0
InTurn n xs = (rising xs ≡ true) × (below n xs ≡ true)

-- The next number goes to the order behind all others.
in_turn_more : (n : ℕ) (os : List Order) (o : Order) → o.number ≡ n → InTurn n (numbers os) → InTurn (n + 1) (numbers (os ++ o ∷ []))
in_turn_more n os o is h =
    (rising_more os o (subst (λ (k : ℕ). below k (numbers os) ≡ true) (sym is) h.1) h.0, below_more (n + 1) os o (omega arith) (below_next n (numbers os) h.1))

-- Before the opening an entry waits.
wait_good : (m : Machine) → Good m → m.phase ≡ PreOpen → (id : ℕ) (side : Side) (kind : Kind) (lots : ℕ) (t : TimeInForce) → TakenLots lots → InRange kind → HasRoom m → Good (wait m id side kind lots t).after
wait_good m g pre id side kind lots t size range room =
    let o : Order = record { number = m.next; id = id; side = side; kind = kind; lots = lots; lifetime = lifetime_in m t } in
    let numbered = in_turn_more m.next m.orders o refl (g.rises, g.fresh) in
    record {
      book = more_book m.orders o g.book size range room;
      rises = numbered.0;
      fresh = numbered.1;
      session = λ is. never_open (Uncrossed (m.orders ++ o ∷ [])) m.phase pre is;
    }

-- The entry's rest has the last number.
matched_numbers : (rule : Rule) (e : Incoming) (os : List Order) (n : ℕ) → e.number ≡ n → InTurn n (numbers os) → InTurn (n + 1) (numbers (matched rule e os).orders)
matched_numbers rule e os n is h =
    let left : List Order = (met rule e os).orders in
    let rest : ℕ = e.lots - min e.lots (reach e os) in
    let l = thin_met (InTurn n) (λ a b x k. (thin_rising a b x k.0, thin_below n a b x k.1)) rule e os h in
    let next : (ps : List Order) → InTurn n (numbers ps) → InTurn (n + 1) (numbers ps) = λ ps k. (k.0, below_next n (numbers ps) k.1) in
    cond_both (enough e.condition e.lots (reach e os)) _ _ (λ (d : Matched). InTurn (n + 1) (numbers d.orders))
    (λ _. rest_both (λ ps. InTurn (n + 1) (numbers (left ++ ps))) e e.limit rest
    (subst (λ (ps : List Order). InTurn (n + 1) (numbers ps)) (sym (append-nil left)) (next left l))
    (λ q _ _. in_turn_more n left (rest_order e q rest) is l))
    (λ _. next os h)

-- An entry in session leaves no On-Open order where there was none.
matched_none : (rule : Rule) → Fairly rule → (e : Incoming) (os : List Order) → Book os → held on_open os ≡ 0 → held on_open (matched rule e os).orders ≡ 0
matched_none rule fair e os b z =
    let n : ℕ = min e.lots (reach e os) in
    let left : List Order = (met rule e os).orders in
    let less = serve_le rule fair (Entry e.number) (other e.side) e.lots (map Limit (filter (accepts e.side e.limit) (ranked (other e.side) os))) (record { orders = os; tape = [] }) b (λ side kind. same OnOpen kind) in
    cond_both (enough e.condition e.lots (reach e os)) _ _ (λ (d : Matched). held on_open d.orders ≡ 0)
    (λ _. rest_both (λ ps. held on_open (left ++ ps) ≡ 0) e e.limit (e.lots - n)
    (omega (arith, held_append on_open left []))
    (λ q _ _. omega (arith, held_append on_open left (rest_order e q (e.lots - n) ∷ []))))
    (λ _. z)

-- In session an entry meets the book.
meet_good : (R : Rules) → Fairly R.session → (m : Machine) → Good m → m.phase ≡ Open → (e : Incoming) → e.number ≡ m.next → e.lots ≤ most_lots → LimitInRange e.limit → Room e.limit m.orders → Good (meet R m e).after
meet_good R fair m g is_open e last size range room =
    let u = g.session is_open in
    let numbered = matched_numbers R.session e m.orders m.next last (g.rises, g.fresh) in
    record {
      book = matching_book R.session fair e m.orders g.book size range room;
      rises = numbered.0;
      fresh = numbered.1;
      session = λ _. record {
        apart = matching_uncrossed R.session fair e m.orders g.book size range room u.apart;
        none_waits = matched_none R.session fair e m.orders g.book u.none_waits;
      };
    }

-- ---- the other calls

-- An opening leaves a book that is not crossed.
open_good : (R : Rules) → Fairly R.opening → (m : Machine) → Good m → Good (open_book R m).after
open_good R fair m g =
    let k = opening_keeps R.opening fair m.orders g.book in
    record {
      book = k.book_left;
      rises = thin_opened (λ xs. rising xs ≡ true) thin_rising R.opening m.orders g.rises;
      fresh = thin_opened (λ xs. below m.next xs ≡ true) (thin_below m.next) R.opening m.orders g.fresh;
      session = λ _. record { apart = k.uncrossed; none_waits = k.none_on_open };
    }

-- A cancellation, a reduction, a lost line and a close leave fewer lots.
cancel_good : (m : Machine) → Good m → (n : ℕ) → Good (with_orders m (without n m.orders))
cancel_good m g n =
    let b = without_book n m.orders g.book in
    record {
      book = b;
      rises = thin_without (λ xs. rising xs ≡ true) thin_rising n m.orders g.rises;
      fresh = thin_without (λ xs. below m.next xs ≡ true) (thin_below m.next) n m.orders g.fresh;
      session = λ is. uncrossed_fewer m.orders (without n m.orders) b.sound (λ T. omega (arith, held_without (λ o. T o.side o.kind) n m.orders g.rises)) (g.session is);
    }

reduce_good : (m : Machine) → Good m → (n lots : ℕ) (o : Order) → order_of n m.orders ≡ Some o → lots < o.lots → Good (with_orders m (reduced n lots m.orders))
reduce_good m g n lots o is less =
    let b = reduced_book n lots m.orders o is less g.book in
    record {
      book = b;
      rises = subst (λ (xs : List ℕ). rising xs ≡ true) (sym (numbers_reduced n lots m.orders)) g.rises;
      fresh = subst (λ (xs : List ℕ). below m.next xs ≡ true) (sym (numbers_reduced n lots m.orders)) g.fresh;
      session = λ op. uncrossed_fewer m.orders (reduced n lots m.orders) b.sound (λ T. omega (arith, held_reduced (λ o. T o.side o.kind) (λ o k. refl) n lots m.orders o is (omega arith))) (g.session op);
    }

hand_good : (m : Machine) → Good m → (id : ℕ) (h : Option ℕ) (ls : List Line) → Good (with_lines m ls (handed id h m.orders))
hand_good m g id h ls =
    let b = handed_book id h m.orders g.book in
    record {
      book = b;
      rises = thin_handed (λ xs. rising xs ≡ true) thin_rising id h m.orders g.rises;
      fresh = thin_handed (λ xs. below m.next xs ≡ true) (thin_below m.next) id h m.orders g.fresh;
      session = λ op. uncrossed_fewer m.orders (handed id h m.orders) b.sound (λ T. omega (arith, held_handed (λ o. T o.side o.kind) (λ o k. refl) id h m.orders)) (g.session op);
    }

close_good : (m : Machine) → Good m → Good (close_book m).after
close_good m g =
    let stays : Order → Bool = λ o. not (lapses m.hours m.today o.lifetime) in
    record {
      book = kept_book stays m.orders g.book;
      rises = thin_kept (λ xs. rising xs ≡ true) thin_rising stays m.orders g.rises;
      fresh = thin_kept (λ xs. below m.next xs ≡ true) (thin_below m.next) stays m.orders g.fresh;
      session = λ is. never_open (Uncrossed (filter stays m.orders)) PreOpen refl is;
    }

-- The lines do not matter.
lines_good : (m : Machine) → Good m → (ls : List Line) → Good (with_lines m ls m.orders)
lines_good m g ls = record { book = g.book; rises = g.rises; fresh = g.fresh; session = g.session }

-- ---- every call, and every run

pub good_made : (ladder : Ladder) (today last first : ℕ) → Good (made ladder today last first)
good_made ladder today last first = record {
  book = record { sound = tt; few = omega arith };
  rises = refl;
  fresh = refl;
  session = λ is. never_open (Uncrossed []) PreOpen refl is;
}

pub good_kept : (R : Rules) → Fairly R.opening → Fairly R.session → (m : Machine) → Good m → (c : Call) → Good (step R m c).after
good_kept R opening session m g = every_way R m (λ _ o. Good o.after) (record {
  refused = λ c r. g;
  wrong_phase = λ c. g;
  limit_waits = λ e is lots range room. wait_good m g is e.id e.side (Limit e.price) e.lots e.lifetime lots range room;
  on_open_waits = λ e is lots room. wait_good m g is e.id e.side OnOpen e.lots e.lifetime lots tt room;
  limit_meets = λ e is lots range room _. meet_good R session m g is (limit_incoming m e) refl lots.1 range room;
  market_meets = λ e is lots _. meet_good R session m g is (market_incoming m e) refl lots.1 tt tt;
  cancels = λ id n o is. cancel_good m g n;
  reduces = λ id n lots o is some less. reduce_good m g n lots o is less;
  goes_down = λ id. hand_good m g id (heir id m.lines) (moved id GoesDown m.lines);
  comes_up = λ id. lines_good m g (moved id ComesUp m.lines);
  names = λ id successor. lines_good m g (moved id (Names successor) m.lines);
  tries = λ t _. g;
  opens = λ is. open_good R opening m g;
  closes = λ is. close_good m g;
})

pub good_after : (R : Rules) → Fairly R.opening → Fairly R.session → (start : Machine) → Good start → (cs : List Call) → Good (after R start cs)
good_after R opening session start g [] = g
good_after R opening session start g (c ∷ cs) = good_after R opening session (step R start c).after (good_kept R opening session start g c) cs
