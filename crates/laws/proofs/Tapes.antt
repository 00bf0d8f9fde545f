-- What a call writes: on each tape as many lots are bought as sold.
use Rattle.std.proofs.Common.{◌≡◌, ℕ, Bool, cond, List, [], refl, ap, arith}
use Rattle.policy.specs.Fair.{Fairly}
use Rattle.rules.specs.declared.order.Side.{Side}
use Rattle.rules.specs.declared.order.Side.TheVariants.{Bid, Offer}
use Rattle.rules.specs.declared.incoming.Incoming.{Incoming}
use Rattle.rules.specs.declared.tape.TapeLine.{TapeLine}
use Rattle.rules.specs.declared.ladder.Ladder.{Ladder}
use Rattle.rules.specs.declared.calls.Phase.{Phase}
use Rattle.rules.specs.declared.calls.Phase.TheVariants.{PreOpen, Open}
use Rattle.rules.specs.declared.calls.Call.{Call}
use Rattle.rules.specs.Sides.{is}
use Rattle.rules.specs.Trades.{lined}
use Rattle.rules.specs.Session.{matched}
use Rattle.rules.specs.Machine.{Rules, Machine, made}
use Rattle.rules.specs.Steps.{Outcome, limit_incoming, market_incoming, step}
use Rattle.rules.proofs.Openings.{opening_even}
use Rattle.rules.proofs.Sessions.{matching_keeps}
use Rattle.laws.specs.Runs.{event, after}
use Rattle.laws.specs.Lots.{is_open, tape_of as written, side_lots}
use Rattle.laws.proofs.Good.{Good}
use Rattle.laws.proofs.Ways.{seen, every_way}
use Rattle.laws.proofs.Kept.{good_made, good_after}

-- Before the opening an entry writes nothing; in session it writes its tape.
pub closed_tape : (phase : Phase) (t : ℕ → Side → Bool) (tape : List TapeLine) → phase ≡ PreOpen → lined t (cond (is_open phase) tape []) ≡ 0
closed_tape phase t tape is = ap (λ (p : Phase). lined t (cond (is_open p) tape [])) is

pub open_tape : (phase : Phase) (t : ℕ → Side → Bool) (tape : List TapeLine) → phase ≡ Open → lined t (cond (is_open phase) tape []) ≡ lined t tape
open_tape phase t tape is = ap (λ (p : Phase). lined t (cond (is_open p) tape [])) is

-- As many lots are bought as sold by what the call wrote.
abbrev Even : Machine → Call → Outcome → Type 0
Even m c o = side_lots Bid (written (seen m c o)) ≡ side_lots Offer (written (seen m c o))

module _ (R : Rules) (opening : Fairly R.opening) (session : Fairly R.session) (m : Machine) (g : Good m) where
  -- an entry in session, and every call
  entry_even : (e : Incoming) → let d = matched R.session e m.orders in side_lots Bid d.tape ≡ side_lots Offer d.tape
  entry_even e = let k = matching_keeps R.session session e m.orders g.book in omega (arith, k.even Bid, k.even Offer)

  even : (c : Call) → Even m c (step R m c)
  even = every_way R m (Even m) (record {
    refused = λ c r. refl;
    wrong_phase = λ c. refl;
    limit_waits = λ e shut _ _ _. omega (arith, closed_tape m.phase (λ n side. is Bid side) m.tape shut, closed_tape m.phase (λ n side. is Offer side) m.tape shut);
    on_open_waits = λ e _ _ _. refl;
    limit_meets = λ e trading _ _ _ _.
        let tape : List TapeLine = (matched R.session (limit_incoming m e) m.orders).tape in
        omega (arith, entry_even (limit_incoming m e), open_tape m.phase (λ n side. is Bid side) tape trading, open_tape m.phase (λ n side. is Offer side) tape trading);
    market_meets = λ e _ _ _. entry_even (market_incoming m e);
    cancels = λ id n o _. refl;
    reduces = λ id n lots o _ _ _. refl;
    goes_down = λ id. refl;
    comes_up = λ id. refl;
    names = λ id successor. refl;
    tries = λ t _. refl;
    opens = λ _. omega (arith, opening_even R.opening opening m.orders g.book Bid, opening_even R.opening opening m.orders g.book Offer);
    closes = λ _. refl;
  })

-- After any calls, and any one call more.
pub tapes_kept : (R : Rules) → Fairly R.opening → Fairly R.session → (ladder : Ladder) (today last first : ℕ) (cs : List Call) (c : Call) → let e = event R (after R (made ladder today last first) cs) c in side_lots Bid (written e) ≡ side_lots Offer (written e)
tapes_kept R opening session ladder today last first cs c =
    let start : Machine = made ladder today last first in
    even R opening session (after R start cs) (good_after R opening session start (good_made ladder today last first) cs) c
