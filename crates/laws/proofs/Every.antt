-- The laws of every run, put together.
use Rattle.std.proofs.Common.{◌≡◌, ℕ, ◌+◌, ◌≤◌, false, ◌⊎◌, List, [], ◌∷◌, ◌++◌, Some, sym, subst}
use Rattle.std.proofs.ByRecursion.{All-weaker}
use Rattle.rules.specs.declared.calls.Phase.{Phase}
use Rattle.rules.specs.declared.calls.Phase.TheVariants.{Open}
use Rattle.rules.specs.declared.calls.Call.{Call}
use Rattle.rules.specs.Machine.{Machine, made}
use Rattle.laws.specs.Runs.{Event, event, run, after, sum}
use Rattle.laws.specs.Lots.{tape_of, given, given_on, lots_accepted, lots_traded, lots_withdrawn, lots_open}
use Rattle.laws.specs.Limits.{limit_after, beyond}
use Rattle.laws.specs.Laws.{Opens, Uncrossed, NoneBetter, AsEntered, LawsOfEveryRun}
use Rattle.laws.proofs.Good.{Good}
use Rattle.laws.proofs.Kept.{good_made, good_after}
use Rattle.laws.proofs.Tapes.{tapes_kept}
use Rattle.laws.proofs.Ledger.{ledger_kept}
use Rattle.laws.proofs.Given.{given_once_kept}
use Rattle.laws.proofs.Opens.{opening_kept}
use Rattle.laws.proofs.Firsts.{limits_first}
use Rattle.laws.proofs.Known.{Of, Rests, LinedWell}
use Rattle.laws.proofs.Histories.{run_more, after_more, fine_after}
use Rattle.laws.proofs.EachPrice.{each_price_kept}
use Rattle.laws.proofs.Entries.{LawsOf, entries_kept, waiting_kept}
use Rattle.laws.proofs.Phases.{in_phase, close_taken}
use Rattle.laws.proofs.Unchanged.{unchanged_kept}

pub laws_of_every_run : LawsOfEveryRun
laws_of_every_run R opening session ladder today last first cs c =
    let start : Machine = made ladder today last first in
    let good : (ds : List Call) → Good (after R start ds) = good_after R opening session start (good_made ladder today last first) in
    let m : Machine = after R start cs in
    let e : Event = event R m c in
    let es : List Event = run R start cs ++ e ∷ [] in
    let more = run_more R start cs c in
    let fine = fine_after R opening session ladder today last first good cs c in
    let At : ℕ → ℕ → Type 0 = Rests m.phase e es in
    record {
      opening = λ called waits. subst (λ (d : Call). Opens (event R m d)) (sym called) (opening_kept R opening m (good cs) (limits_first R.opening opening m.orders (good cs).book) waits);
      uncrossed = subst (λ (x : Machine). x.phase ≡ Open → Uncrossed x.orders) (after_more R start cs c) (good (cs ++ c ∷ [])).session;
      limits = All-weaker (λ l. LinedWell At es e.after.orders l.number l.side l.price) (λ l. (q : ℕ) → limit_after l.number es ≡ Some q → beyond l.side q l.price ≡ false) (λ l k. k.kept) (tape_of e) fine.lines;
      precedence = All-weaker (λ l. LinedWell At es e.after.orders l.number l.side l.price) (λ l. (q : ℕ) → limit_after l.number es ≡ Some q → NoneBetter l.side q e.after.orders) (λ l k. k.first) (tape_of e) fine.lines;
      ledger = λ n.
          let whole = ledger_kept R opening session ladder today last first (cs ++ c ∷ []) n in
          subst (λ (x : Machine). sum (lots_accepted n) es ≡ sum (lots_traded n) es + sum (lots_withdrawn n) es + lots_open n x.orders) (after_more R start cs c)
          (subst (λ (h : List Event). sum (lots_accepted n) h ≡ sum (lots_traded n) h + sum (lots_withdrawn n) h + lots_open n (after R start (cs ++ c ∷ [])).orders) more whole);
      tapes = tapes_kept R opening session ladder today last first cs c;
      at_each_price = λ x. each_price_kept R opening session m (good cs) x c;
      resting_price = λ trading. All-weaker (λ l. LinedWell At es e.after.orders l.number l.side l.price) (λ l. (given l.number e ≡ 1) ⊎ (limit_after l.number es ≡ Some l.price)) (λ l k. subst (λ (phase : Phase). Rests phase e es l.number l.price) trading k.rests) (tape_of e) fine.lines;
      waiting_entry = waiting_kept R m (good cs) c;
      limit_entry = λ x a called trading taken. subst (λ (d : Call). LawsOf d e a) called (entries_kept R session m (good cs) c a taken) trading;
      market_entry = λ x a called taken. subst (λ (d : Call). LawsOf d e a) called (entries_kept R session m (good cs) c a taken);
      given_once = λ n. subst (λ (h : List Event). sum (given n) h ≤ 1) more (given_once_kept R start (cs ++ c ∷ []) n);
      sides = All-weaker (λ l. LinedWell At es e.after.orders l.number l.side l.price) (λ l. sum (given_on l.side l.number) es ≡ 1) (λ l k. k.entered) (tape_of e) fine.lines;
      as_entered = All-weaker (λ o. Of es o.number o.side o.kind) (AsEntered es) (λ o k. record { entered = k.1; limit = k.0 }) e.after.orders fine.known.each;
      offered = (in_phase R m c).offered;
      moves = (in_phase R m c).moves;
      closes = close_taken R m c;
      unchanged = unchanged_kept R m c;
    }
