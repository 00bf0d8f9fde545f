-- Every call keeps what is known of the open orders, and its lines keep the laws.
use Rattle.std.proofs.Common.{◌≡◌, ℕ, ◌+◌, ◌-◌, ◌≤◌, min, Bool, true, false, cond, not, ◌&&◌, eqb, ◌⊎◌, List, [], ◌++◌, map, Some, None, filter, Option, sym, refl, ap, ◌∙◌, subst, inl, inr, arith}
use Rattle.std.proofs.lemmas.Bool.{cond_both, cond-true, cond-false, eq-eqb, ne_eqb, and_right}
use Rattle.std.proofs.lemmas.Bool.Decides.{nat_tests}
use Rattle.std.proofs.ByRecursion.{All-weaker, All-append, All-push}
use Rattle.policy.specs.Fair.{Rule, Fairly}
use Rattle.rules.specs.declared.order.Side.{Side}
use Rattle.rules.specs.declared.order.Side.TheVariants.{Bid, Offer}
use Rattle.rules.specs.declared.order.Kind.{Kind}
use Rattle.rules.specs.declared.order.Kind.TheVariants.{Limit, OnOpen}
use Rattle.rules.specs.declared.order.Order.{Order}
use Rattle.rules.specs.declared.incoming.Incoming.{Incoming}
use Rattle.rules.specs.declared.tape.Terms.TheVariants.{Entry}
use Rattle.rules.specs.declared.calls.Phase.{Phase}
use Rattle.rules.specs.declared.calls.Phase.TheVariants.{PreOpen, Open}
use Rattle.rules.specs.declared.calls.TimeInForce.{TimeInForce}
use Rattle.rules.specs.declared.calls.Call.{Call}
use Rattle.rules.specs.declared.calls.Call.TheVariants.{EnterLimit, EnterOnOpen, EnterMarket, Cancel, Reduce, TakeLineDown, BringLineUp, NameSuccessor, Try, OpenBook, CloseBook}
use Rattle.rules.specs.declared.calls.Answer.{Answer}
use Rattle.rules.specs.declared.calls.Answer.TheVariants.{Refused, WrongPhase}
use Rattle.rules.specs.Sides.{is, other, as_good_as}
use Rattle.rules.specs.Orders.{same, on_open}
use Rattle.rules.specs.Price.{volume, price}
use Rattle.rules.specs.Trades.{Step, ranked}
use Rattle.rules.specs.Opening.{stage_one, cross, turned, limit_at, opened_at, opened}
use Rattle.rules.specs.Session.{accepts, reach, enough, met, resting, Matched}
use Rattle.rules.specs.Lines.{heir}
use Rattle.rules.specs.Machine.{Rules, Machine}
use Rattle.rules.specs.Steps.{Outcome, outcome, wait, meet, limit_incoming, market_incoming, lapses, open_book, close_book, step}
use Rattle.rules.proofs.Filled.{is_self}
use Rattle.rules.proofs.Openings.{start}
use Rattle.rules.proofs.Sessions.{rest_both}
use Rattle.laws.specs.Runs.{Event, sum}
use Rattle.laws.specs.Lots.{was_taken as taken, entry_of, is_open, writes, given, given_on}
use Rattle.laws.specs.Limits.{waits, turned_to, limit_by, limit_after, limit_said, beyond}
use Rattle.laws.proofs.Good.{Good}
use Rattle.laws.proofs.Ways.{seen, every_way}
use Rattle.laws.proofs.Lines.{Everywhere, Lined, each_kept, each_serve, each_cross, each_one, each_without, each_reduced, each_handed, each_turned}
use Rattle.laws.proofs.OpeningLines.{opening_precedes, opening_lines}
use Rattle.laws.proofs.EntryLines.{none_better_met, none_better_own, met_lines}
use Rattle.laws.proofs.Known.{Of, Unused, Known, LinedWell, lined_at, Rests, longer, limit_more, sum_more, Silent, silent_of, silent_unused, Fine, all_both, below_each, waits_is, waits_not}

-- ---- calls refused, and calls that neither enter nor open

-- nothing is written, no number is given, and no order is new
quiet : (es : List Event) (c : Call) (m : Machine) (o : Outcome) → Known es m → ((n : ℕ) → Silent c m o n) → o.after.next ≡ m.next → (Everywhere (Of (longer es c m o)) m.orders → Everywhere (Of (longer es c m o)) o.after.orders) → (taken o.answer && writes m.phase c) ≡ false → Fine es c m o
quiet es c m o k silent next keeps none = record {
  known = record {
    each = keeps (All-weaker (λ z. Of es z.number z.side z.kind) (λ z. Of (longer es c m o) z.number z.side z.kind) (λ z h. silent_of es c m o z.number z.side z.kind (silent z.number) h) m.orders k.each);
    unused = λ n le. silent_unused es c m o n (silent n) (k.unused n (omega arith));
  };
  lines = rw none tt;
}

-- an opening that is not taken turns no order
never_turned : (o old : Option ℕ) → turned_to o false old ≡ old
never_turned None old = refl
never_turned (Some p) old = refl

-- a call that is not taken gives no limit
idle_limit : (n : ℕ) (e : Event) (c : Call) (old : Option ℕ) → entry_of e.answer ≡ None → taken e.answer ≡ false → limit_by n e c old ≡ old
idle_limit n e (EnterLimit x) old h t = rw h
idle_limit n e (EnterOnOpen x) old h t = refl
idle_limit n e (EnterMarket x) old h t = refl
idle_limit n e (Cancel id number) old h t = refl
idle_limit n e (Reduce id number lots) old h t = refl
idle_limit n e (TakeLineDown id) old h t = refl
idle_limit n e (BringLineUp id) old h t = refl
idle_limit n e (NameSuccessor id successor) old h t = refl
idle_limit n e (Try x) old h t = refl
idle_limit n e OpenBook old h t = rw t (never_turned (price e.before.orders) old)
idle_limit n e CloseBook old h t = refl

-- a call that is not taken
idle : (es : List Event) (c : Call) (m : Machine) (a : Answer) → Known es m → entry_of a ≡ None → taken a ≡ false → Fine es c m (outcome a m)
idle es c m a k none not_taken =
    quiet es c m (outcome a m) k (λ n. ((λ old. idle_limit n (seen m c (outcome a m)) c old none not_taken), λ s. rw none)) refl (λ h. h) (rw not_taken)

-- ---- entries

-- An entry of a side with a limit, under the next number.
pub record Enters (c : Call) (m : Machine) (o : Outcome) (side : Side) (limit : Option ℕ) : Type 0 where
  pub gives : (s : Side) (n : ℕ) → given_on s n (seen m c o) ≡ cond (eqb n m.next) (cond (is s side) 1 0) 0
  pub others : (n : ℕ) (old : Option ℕ) → eqb n m.next ≡ false → limit_by n (seen m c o) c old ≡ old
  pub own : limit_by m.next (seen m c o) c None ≡ limit
  pub counts : o.after.next ≡ m.next + 1

module _ (es : List Event) (c : Call) (m : Machine) (o : Outcome) (g : Good m) (k : Known es m) (side : Side) (limit : Option ℕ) (enters : Enters c m o side limit) where
  -- it says nothing of other numbers, so what is open, and what is not yet given, stays known
  others_silent : (n : ℕ) → (n ≡ m.next → ⊥) → Silent c m o n
  others_silent n ne =
      let e = ne_eqb n m.next ne in
      ((λ old. enters.others n old e), λ s. enters.gives s n ∙ cond-false (eqb n m.next) (cond (is s side) 1 0) 0 e)

  old_each : Everywhere (Of (longer es c m o)) m.orders
  old_each = below_each m.next m.orders (λ z. Of es z.number z.side z.kind) (λ z. Of (longer es c m o) z.number z.side z.kind) g.fresh
      (λ z l h. silent_of es c m o z.number z.side z.kind (others_silent z.number (λ e. let never : ⊥ = omega arith in never)) h) k.each

  new_unused : (n : ℕ) → o.after.next ≤ n → Unused (longer es c m o) n
  new_unused n le = silent_unused es c m o n (others_silent n (λ e. let never : ⊥ = omega (arith, enters.counts) in never)) (k.unused n (omega (arith, enters.counts)))

  -- and of its own number the limit and the one entry
  new_limit : limit_after m.next (longer es c m o) ≡ limit
  new_limit = limit_more m.next None es (seen m c o) ∙ (ap (limit_by m.next (seen m c o) c) (k.unused m.next (omega arith)).0 ∙ enters.own)

  new_given : sum (given_on side m.next) (longer es c m o) ≡ 1
  new_given =
      let one : given_on side m.next (seen m c o) ≡ 1 = enters.gives side m.next ∙ (cond-true (eqb m.next m.next) (cond (is side side) 1 0) 0 (eq-eqb m.next m.next refl) ∙ cond-true (is side side) 1 0 (is_self side)) in
      omega (arith, sum_more (given_on side m.next) es (seen m c o), (k.unused m.next (omega arith)).1 side)

-- before the opening the entry waits, and writes nothing
wait_fine : (es : List Event) (c : Call) (m : Machine) (id : ℕ) (side : Side) (kind : Kind) (lots : ℕ) (t : TimeInForce) → Good m → Known es m → Enters c m (wait m id side kind lots t) side (limit_said kind) → writes m.phase c ≡ false → Fine es c m (wait m id side kind lots t)
wait_fine es c m id side kind lots t g k enters none =
    let o : Outcome = wait m id side kind lots t in
    record {
      known = record {
        each = All-push (λ z. Of (longer es c m o) z.number z.side z.kind) m.orders _ (old_each es c m o g k side (limit_said kind) enters) (new_limit es c m o g k side (limit_said kind) enters, new_given es c m o g k side (limit_said kind) enters);
        unused = new_unused es c m o g k side (limit_said kind) enters;
      };
      lines = rw none tt;
    }

-- what an entry accepts is within its limit
accepts_within : (s : Side) (q x : ℕ) → accepts s (Some q) x ≡ true → beyond s q x ≡ false
accepts_within Bid q x h = grind (arith, nat_tests)
accepts_within Offer q x h = grind (arith, nat_tests)

within_self : (s : Side) (x : ℕ) → beyond s x x ≡ false
within_self Bid x = grind (arith, nat_tests)
within_self Offer x = grind (arith, nat_tests)

-- in session it meets the book
meet_fine : (R : Rules) → Fairly R.session → (es : List Event) (c : Call) (m : Machine) (e : Incoming) → Good m → Known es m → m.phase ≡ Open → e.number ≡ m.next → Enters c m (meet R m e) e.side e.limit → Fine es c m (meet R m e)
meet_fine R fair es c m e g k trading is-next enters =
    let o : Outcome = meet R m e in
    let os : List Order = m.orders in
    let rule : Rule = R.session in
    let n : ℕ = min e.lots (reach e os) in
    let ok : Bool = enough e.condition e.lots (reach e os) in
    let old = old_each es c m o g k e.side e.limit enters in
    let is-limit : limit_after e.number (longer es c m o) ≡ e.limit = subst (λ i. limit_after i (longer es c m o) ≡ e.limit) (sym is-next) (new_limit es c m o g k e.side e.limit enters) in
    let is-given : sum (given_on e.side e.number) (longer es c m o) ≡ 1 = subst (λ i. sum (given_on e.side i) (longer es c m o) ≡ 1) (sym is-next) (new_given es c m o g k e.side e.limit enters) in
    let left : List Order = (met rule e os).orders ++ resting e e.limit (e.lots - n) in
    let u = g.session trading in
    let At : ℕ → ℕ → Type 0 = Rests m.phase (seen m c o) (longer es c m o) in
    let at_rest : (i p : ℕ) → (given i (seen m c o) ≡ 1) ⊎ (limit_after i (longer es c m o) ≡ Some p) → At i p = λ i p h. subst (λ (phase : Phase). Rests phase (seen m c o) (longer es c m o) i p) (sym trading) h in
    let met-each : Everywhere (Of (longer es c m o)) (met rule e os).orders = each_serve (Of (longer es c m o)) rule (Entry e.number) (other e.side) e.lots (map Limit (filter (accepts e.side e.limit) (ranked (other e.side) os))) (record { orders = os; tape = [] }) old in
    let rest-each : Everywhere (Of (longer es c m o)) (resting e e.limit (e.lots - n)) = rest_both (Everywhere (Of (longer es c m o))) e e.limit (e.lots - n) tt (λ q is-q _. ((is-limit ∙ is-q, is-given), tt)) in
    record {
      known = record {
        each = cond_both ok _ _ (λ (d : Matched). Everywhere (Of (longer es c m o)) d.orders) (λ _. All-append (λ z. Of (longer es c m o) z.number z.side z.kind) (met rule e os).orders (resting e e.limit (e.lots - n)) met-each rest-each) (λ _. old);
        unused = new_unused es c m o g k e.side e.limit enters;
      };
      lines = cond_both (writes m.phase c) o.after.tape [] (Lined (LinedWell At (longer es c m o) o.after.orders))
          (λ _. cond_both ok _ _ (λ (d : Matched). Lined (LinedWell At (longer es c m o) d.orders) d.tape)
          (λ _. met_lines rule fair e os g.book (Of (longer es c m o)) (LinedWell At (longer es c m o) left) old
          (λ x i none h. lined_at At (longer es c m o) left i (other e.side) x x h (within_self (other e.side) x) (none_better_met rule fair e os g.book (e.lots - n) x none) (at_rest i x (inr h.0)))
          (λ x a lots. record {
            entered = is-given;
            kept = λ q is-q. accepts_within e.side q x (subst (λ (l : Option ℕ). accepts e.side l x ≡ true) (sym is-limit ∙ is-q) a);
            first = λ q is-q. none_better_own rule fair e os g.book u (e.lots - n) q x (sym is-limit ∙ is-q) a lots;
            rests = at_rest e.number x (inl (cond-true (eqb e.number m.next) 1 0 (eq-eqb e.number m.next is-next)));
          }))
          (λ _. tt))
          (λ _. tt);
    }

-- ---- an opening

-- a price that a limit is as good as is within it
good_within : (s : Side) (p x : ℕ) → as_good_as s p x ≡ true → beyond s x p ≡ false
good_within Bid p x h = grind (arith, nat_tests)
good_within Offer p x h = grind (arith, nat_tests)

-- the limit after an opening with a price
turned_limit : (p : ℕ) (k : Kind) (w : Bool) (old : Option ℕ) → old ≡ limit_said k → w ≡ same OnOpen k → turned_to (Some p) w old ≡ limit_said (limit_at p k)
turned_limit p (Limit x) w old h e = cond-false w (Some p) old e ∙ h
turned_limit p OnOpen w old h e = cond-true w (Some p) old e

module _ (R : Rules) (fair : Fairly R.opening) (es : List Event) (m : Machine) (g : Good m) (k : Known es m) (shut : m.phase ≡ PreOpen) where
  abbrev opens : Outcome
  opens = open_book R m

  abbrev history : List Event
  history = longer es OpenBook m opens

  -- what the opening says of a number
  limit_opened : (o : Option ℕ) → price m.orders ≡ o → (n : ℕ) → limit_after n history ≡ turned_to o (waits n m.orders) (limit_after n es)
  limit_opened o e n = limit_more n None es (seen m OpenBook opens) ∙ ap (λ (z : Option ℕ). turned_to z (waits n m.orders) (limit_after n es)) e

  given_opened : (s : Side) (n : ℕ) → sum (given_on s n) history ≡ sum (given_on s n) es
  given_opened s n = omega (arith, sum_more (given_on s n) es (seen m OpenBook opens))

  unused_opened : (o : Option ℕ) → price m.orders ≡ o → (n : ℕ) → m.next ≤ n → Unused history n
  unused_opened o e n le =
      let h = k.unused n le in
      let w = waits_not n m.next m.orders g.fresh le in
      (limit_opened o e n ∙ (ap (λ (b : Bool). turned_to o b (limit_after n es)) w ∙ (never_turned o (limit_after n es) ∙ h.0)), λ s. given_opened s n ∙ h.1 s)

  -- before the stages, with the limits as the opening gives them
  each_before : (p : ℕ) → price m.orders ≡ Some p → Everywhere (λ n s kind. Of history n s (limit_at p kind)) m.orders
  each_before p e =
      All-weaker (λ z. Of es z.number z.side z.kind × (waits z.number m.orders ≡ on_open z)) (λ z. Of history z.number z.side (limit_at p z.kind))
      (λ z h. (limit_opened (Some p) e z.number ∙ turned_limit p z.kind (waits z.number m.orders) (limit_after z.number es) h.0.0 h.1, given_opened z.side z.number ∙ h.0.1))
      m.orders (all_both (λ z. Of es z.number z.side z.kind) (λ z. waits z.number m.orders ≡ on_open z) m.orders k.each (waits_is m.orders g.rises g.book.sound))

  -- and behind them
  each_opened : (o : Option ℕ) → price m.orders ≡ o → Everywhere (Of history) (opened_at R.opening m.orders (volume m.orders) o).orders
  each_opened None e = each_kept (Of history) (λ z. not (on_open z)) m.orders
      (All-weaker (λ z. Of es z.number z.side z.kind) (λ z. Of history z.number z.side z.kind) (λ z h. (limit_opened None e z.number ∙ h.0, given_opened z.side z.number ∙ h.1)) m.orders k.each)
  each_opened (Some p) e =
      let rule : Rule = R.opening in
      let P : ℕ → Side → Kind → Type 0 = λ n s kind. Of history n s (limit_at p kind) in
      let one : Step = stage_one rule p (volume m.orders) (start m.orders) in
      let two : Step = cross rule p OnOpen one in
      each_cross (Of history) rule p (Limit p) (turned p two)
      (each_turned P (Of history) p (λ n s x h. h) (λ n s h. h) two.orders (each_cross P rule p OnOpen one (each_one P rule p (volume m.orders) (start m.orders) (each_before p e))))

  -- the lines that the stages wrote
  lines_opened : (o : Option ℕ) → price m.orders ≡ o → Lined (LinedWell (Rests m.phase (seen m OpenBook opens) history) history (opened R.opening m.orders).orders) (opened R.opening m.orders).tape
  lines_opened None e = rw e tt
  lines_opened (Some p) e =
      let left : List Order = (opened R.opening m.orders).orders in
      let At : ℕ → ℕ → Type 0 = Rests m.phase (seen m OpenBook opens) history in
      opening_lines R.opening fair m.orders g.book p e (λ n s kind. Of history n s (limit_at p kind)) (LinedWell At history left) (each_before p e) (λ n s h. h)
      (λ s x good n h. lined_at At history left n s x p h (good_within s p x good) (opening_precedes R.opening fair m.orders g.book p e s x good) (subst (λ (phase : Phase). Rests phase (seen m OpenBook opens) history n p) (sym shut) tt))

  open_fine : Fine es OpenBook m opens
  open_fine = record {
    known = record { each = each_opened (price m.orders) refl; unused = unused_opened (price m.orders) refl };
    lines = lines_opened (price m.orders) refl;
  }

-- ---- every call

module _ (R : Rules) (opening : Fairly R.opening) (session : Fairly R.session) (es : List Event) (m : Machine) (g : Good m) (k : Known es m) where
  -- an entry before the opening, and one in session
  waiting : (c : Call) (id : ℕ) (side : Side) (kind : Kind) (lots : ℕ) (t : TimeInForce) → Enters c m (wait m id side kind lots t) side (limit_said kind) → writes m.phase c ≡ false → Fine es c m (wait m id side kind lots t)
  waiting c id side kind lots t = wait_fine es c m id side kind lots t g k

  meeting : (c : Call) (e : Incoming) → m.phase ≡ Open → e.number ≡ m.next → Enters c m (meet R m e) e.side e.limit → Fine es c m (meet R m e)
  meeting c e = meet_fine R session es c m e g k

  -- a limit entry gives its number its price; the others give none
  own_limit : (x n : ℕ) (old : Option ℕ) → eqb n m.next ≡ false → cond (eqb n m.next) (Some x) old ≡ old
  own_limit x n old ne = cond-false (eqb n m.next) (Some x) old ne

  its_limit : (x : ℕ) → cond (eqb m.next m.next) (Some x) None ≡ Some x
  its_limit x = cond-true (eqb m.next m.next) (Some x) None (eq-eqb m.next m.next refl)

  -- a call that neither enters nor opens
  silently : (c : Call) (o : Outcome) → ((n : ℕ) → Silent c m o n) → o.after.next ≡ m.next → (Everywhere (Of (longer es c m o)) m.orders → Everywhere (Of (longer es c m o)) o.after.orders) → writes m.phase c ≡ false → Fine es c m o
  silently c o silent next keeps none = quiet es c m o k silent next keeps (and_right (taken o.answer) (writes m.phase c) none)

  -- and any call
  pub fine : (c : Call) → Fine es c m (step R m c)
  fine = every_way R m (λ c o. Fine es c m o) (record {
    refused = λ c r. idle es c m (Refused r) k refl refl;
    wrong_phase = λ c. idle es c m WrongPhase k refl refl;
    limit_waits = λ e shut _ _ _. waiting (EnterLimit e) e.id e.side (Limit e.price) e.lots e.lifetime (record { gives = λ s n. refl; others = own_limit e.price; own = its_limit e.price; counts = refl }) (ap is_open shut);
    on_open_waits = λ e _ _ _. waiting (EnterOnOpen e) e.id e.side OnOpen e.lots e.lifetime (record { gives = λ s n. refl; others = λ n old ne. refl; own = refl; counts = refl }) refl;
    limit_meets = λ e trading _ _ _ _. meeting (EnterLimit e) (limit_incoming m e) trading refl (record { gives = λ s n. refl; others = own_limit e.price; own = its_limit e.price; counts = refl });
    market_meets = λ e trading _ _. meeting (EnterMarket e) (market_incoming m e) trading refl (record { gives = λ s n. refl; others = λ n old ne. refl; own = refl; counts = refl });
    cancels = λ id number o _. silently (Cancel id number) _ (λ n. ((λ old. refl), λ s. refl)) refl (each_without _ number m.orders) refl;
    reduces = λ id number lots o _ _ _. silently (Reduce id number lots) _ (λ n. ((λ old. refl), λ s. refl)) refl (each_reduced _ number lots m.orders) refl;
    goes_down = λ id. silently (TakeLineDown id) _ (λ n. ((λ old. refl), λ s. refl)) refl (each_handed _ id (heir id m.lines) m.orders) refl;
    comes_up = λ id. silently (BringLineUp id) _ (λ n. ((λ old. refl), λ s. refl)) refl (λ h. h) refl;
    names = λ id successor. silently (NameSuccessor id successor) _ (λ n. ((λ old. refl), λ s. refl)) refl (λ h. h) refl;
    tries = λ t _. silently (Try t) _ (λ n. ((λ old. refl), λ s. refl)) refl (λ h. h) refl;
    opens = open_fine R opening es m g k;
    closes = λ _. silently CloseBook (close_book m) (λ n. ((λ old. refl), λ s. refl)) refl (each_kept _ (λ z. not (lapses m.hours m.today z.lifetime)) m.orders) refl;
  })
