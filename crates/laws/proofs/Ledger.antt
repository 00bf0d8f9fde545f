-- The ledger: of each order the accepted lots are those traded, withdrawn and open.
use Rattle.std.proofs.Common.{◌≡◌, ℕ, ◌+◌, Bool, false, cond, ◌&&◌, eqb, List, [], ◌∷◌, ◌++◌, Some, None, Option, sym, refl, ap, arith}
use Rattle.std.proofs.lemmas.Bool.{and_right}
use Rattle.policy.specs.Fair.{Fairly}
use Rattle.rules.specs.declared.order.Side.{Side}
use Rattle.rules.specs.declared.order.Kind.{Kind}
use Rattle.rules.specs.declared.order.Kind.TheVariants.{Limit, OnOpen}
use Rattle.rules.specs.declared.order.Order.{Order}
use Rattle.rules.specs.declared.incoming.Incoming.{Incoming}
use Rattle.rules.specs.declared.ladder.Ladder.{Ladder}
use Rattle.rules.specs.declared.calls.TimeInForce.{TimeInForce}
use Rattle.rules.specs.declared.calls.Call.{Call}
use Rattle.rules.specs.Orders.{held, on_open}
use Rattle.rules.specs.Price.{price}
use Rattle.rules.specs.Trades.{lined}
use Rattle.rules.specs.Session.{matched}
use Rattle.rules.specs.Lines.{heir}
use Rattle.rules.specs.Machine.{Rules, Machine, made}
use Rattle.rules.specs.Steps.{Outcome, lifetime_in, limit_incoming, market_incoming, lapses, step}
use Rattle.rules.proofs.Openings.{withdrawn_of, held_kept, opening_keeps}
use Rattle.rules.proofs.Sessions.{held_append, cond_none, matching_keeps}
use Rattle.laws.specs.Runs.{run, after, sum}
use Rattle.laws.specs.Lots.{is_none, lots_accepted as accepted, lots_traded as traded, lots_withdrawn as withdrawn, lots_open as open_of}
use Rattle.laws.proofs.Good.{Good}
use Rattle.laws.proofs.Ways.{seen, every_way}
use Rattle.laws.proofs.Tapes.{closed_tape, open_tape}
use Rattle.laws.proofs.Changed.{held_none, held_without, order_number, held_reduced, held_handed}
use Rattle.laws.proofs.Kept.{good_made, good_kept}

-- No lot of the order of number n is lost in a call.
abbrev Balanced : ℕ → Machine → Call → Outcome → Type 0
Balanced n m c o = open_of n m.orders + accepted n (seen m c o) ≡ open_of n o.after.orders + traded n (seen m c o) + withdrawn n (seen m c o)

-- ---- parts of the sums

-- A call that takes no order off the book.
none_off : (n : ℕ) (os : List Order) → held (λ o. eqb n o.number && false) os ≡ 0
none_off n os = held_none (λ o. eqb n o.number && false) os (λ o. and_right (eqb n o.number) false refl)

-- An opening without a price takes the On-Open orders off.
withdrawn_is : (p : Option ℕ) (n : ℕ) (os : List Order) → withdrawn_of p n os ≡ held (λ o. eqb n o.number && (is_none p && on_open o)) os
withdrawn_is None n os = refl
withdrawn_is (Some p) n os = sym (none_off n os)

-- ---- every call

module _ (R : Rules) (opening : Fairly R.opening) (session : Fairly R.session) (n : ℕ) (m : Machine) (g : Good m) where
  abbrev mine : Order → Bool
  mine o = eqb n o.number

  -- an entry that waits, and one that meets the book
  waits : (id : ℕ) (side : Side) (kind : Kind) (lots : ℕ) (t : TimeInForce) → open_of n m.orders + cond (eqb n m.next) lots 0 ≡ open_of n (m.orders ++ record { number = m.next; id = id; side = side; kind = kind; lots = lots; lifetime = lifetime_in m t } ∷ [])
  waits id side kind lots t = omega (arith, held_append mine m.orders (record { number = m.next; id = id; side = side; kind = kind; lots = lots; lifetime = lifetime_in m t } ∷ []))

  meets : (e : Incoming) → let d = matched R.session e m.orders in open_of n m.orders + cond (eqb n e.number) e.lots 0 ≡ open_of n d.orders + lined (λ i s. eqb n i) d.tape + cond (eqb n e.number) d.withdrawn 0
  meets e = (matching_keeps R.session session e m.orders g.book).conserved (λ i s. eqb n i)

  balance : (c : Call) → Balanced n m c (step R m c)
  balance = every_way R m (Balanced n m) (record {
    refused = λ c r. omega arith;
    wrong_phase = λ c. omega arith;
    limit_waits = λ e is _ _ _. omega (arith, waits e.id e.side (Limit e.price) e.lots e.lifetime, closed_tape m.phase (λ i s. eqb n i) m.tape is, none_off n m.orders, cond_none (eqb n m.next));
    on_open_waits = λ e is _ _. omega (arith, waits e.id e.side OnOpen e.lots e.lifetime, none_off n m.orders, cond_none (eqb n m.next));
    limit_meets = λ e is _ _ _ _. omega (arith, meets (limit_incoming m e), open_tape m.phase (λ i s. eqb n i) (matched R.session (limit_incoming m e) m.orders).tape is, none_off n m.orders);
    market_meets = λ e is _ _. omega (arith, meets (market_incoming m e), none_off n m.orders);
    cancels = λ id k o is. omega (arith, held_without mine k m.orders g.rises);
    reduces = λ id k lots o is some less.
        let same : cond (eqb n o.number) lots 0 ≡ cond (eqb n k) lots 0 = ap (λ (i : ℕ). cond (eqb n i) lots 0) (order_number k m.orders o is) in
        omega (arith, held_reduced mine (λ o j. refl) k lots m.orders o is (omega arith), none_off n m.orders);
    goes_down = λ id. omega (arith, held_handed mine (λ o j. refl) id (heir id m.lines) m.orders);
    comes_up = λ id. omega (arith, none_off n m.orders);
    names = λ id successor. omega (arith, none_off n m.orders);
    tries = λ t _. omega (arith, none_off n m.orders);
    opens = λ is. omega (arith, (opening_keeps R.opening opening m.orders g.book).conserved n, withdrawn_is (price m.orders) n m.orders);
    closes = λ is. omega (arith, held_kept mine (λ o. lapses m.hours m.today o.lifetime) m.orders);
  })

-- ---- every run

-- From any good book on: what was open before counts as accepted.
ledger_from : (R : Rules) → Fairly R.opening → Fairly R.session → (n : ℕ) (cs : List Call) (m : Machine) → Good m → open_of n m.orders + sum (accepted n) (run R m cs) ≡ sum (traded n) (run R m cs) + sum (withdrawn n) (run R m cs) + open_of n (after R m cs).orders
ledger_from R opening session n [] m g = omega arith
ledger_from R opening session n (c ∷ cs) m g =
    omega (arith, balance R opening session n m g c, ledger_from R opening session n cs (step R m c).after (good_kept R opening session m g c))

-- Of each order the accepted lots are those traded, withdrawn and open.
pub ledger_kept : (R : Rules) → Fairly R.opening → Fairly R.session → (ladder : Ladder) (today last first : ℕ) (cs : List Call) (n : ℕ) → let start = made ladder today last first in let es = run R start cs in sum (accepted n) es ≡ sum (traded n) es + sum (withdrawn n) es + open_of n (after R start cs).orders
ledger_kept R opening session ladder today last first cs n =
    omega (arith, ledger_from R opening session n cs (made ladder today last first) (good_made ladder today last first))
