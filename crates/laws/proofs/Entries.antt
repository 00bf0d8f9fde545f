-- An entry in session: its answer is what the tape and the book say, and it trades on as long as it may.
use Rattle.std.proofs.Common.{◌≡◌, ℕ, ◌-◌, ◌<◌, min, Bool, true, false, cond, eqb, ltb, List, [], ◌∷◌, ◌++◌, Some, None, Option, sym, refl, ap, ◌∙◌, subst, inl, inr, arith}
use Rattle.std.proofs.lemmas.Bool.{cond_both, cond-true, cond-false, leb-true, leb-false, ltb-true, eq-eqb, ne_eqb, and_parts}
use Rattle.policy.specs.Fair.{Rule, Fairly}
use Rattle.rules.specs.declared.order.Side.{Side}
use Rattle.rules.specs.declared.order.Side.TheVariants.{Bid, Offer}
use Rattle.rules.specs.declared.order.Kind.{Kind}
use Rattle.rules.specs.declared.order.Kind.TheVariants.{Limit, OnOpen}
use Rattle.rules.specs.declared.order.Order.{Order}
use Rattle.rules.specs.declared.incoming.Incoming.{Incoming}
use Rattle.rules.specs.declared.tape.TapeLine.{TapeLine}
use Rattle.rules.specs.declared.calls.Condition.{Condition}
use Rattle.rules.specs.declared.calls.Condition.TheVariants.{Unconditional, Ic, Cv, Mv}
use Rattle.rules.specs.declared.calls.Phase.TheVariants.{PreOpen, Open}
use Rattle.rules.specs.declared.calls.TimeInForce.{TimeInForce}
use Rattle.rules.specs.declared.calls.Call.{Call}
use Rattle.rules.specs.declared.calls.Call.TheVariants.{EnterLimit, EnterOnOpen, EnterMarket, Cancel, Reduce, TakeLineDown, BringLineUp, NameSuccessor, Try, OpenBook, CloseBook}
use Rattle.rules.specs.declared.calls.EntryAnswer.{EntryAnswer}
use Rattle.rules.specs.declared.calls.Answer.{Answer}
use Rattle.rules.specs.declared.calls.Answer.TheVariants.{Entered}
use Rattle.rules.specs.Sides.{is, other}
use Rattle.rules.specs.Orders.{held, prices, Book}
use Rattle.rules.specs.Numbers.{numbers, below}
use Rattle.rules.specs.Trades.{lined}
use Rattle.rules.specs.Session.{accepts, reach, enough, met, rests, resting, Matched, matched}
use Rattle.rules.specs.Laws.{In}
use Rattle.rules.specs.Machine.{Rules, Machine}
use Rattle.rules.specs.Checks.{minimum_outside}
use Rattle.rules.specs.Steps.{lifetime_in, wait, meet, limit_incoming, market_incoming}
use Rattle.rules.proofs.Filled.{is_self}
use Rattle.rules.proofs.Sessions.{held_append, rest_both, met_even, met_clear, matching_keeps}
use Rattle.laws.specs.Runs.{Event, event}
use Rattle.laws.specs.Lots.{was_taken, entry_of, is_open, writes, volume_asked}
use Rattle.laws.specs.Laws.{MayTrade, ConditionKept, EntryLaws, Waits}
use Rattle.laws.proofs.Good.{Good}
use Rattle.laws.proofs.Ways.{seen, inside, every_way}
use Rattle.laws.proofs.Unchanged.{never}
use Rattle.laws.proofs.Lines.{Lined, all_any}
use Rattle.laws.proofs.EntryLines.{in_either, in_one, never_other, met_lines}
use Rattle.laws.proofs.Known.{below_each}

-- ---- lots by number

-- Tests that agree on every line find the same lots.
lined_same : (t u : ℕ → Side → Bool) (ls : List TapeLine) → Lined (λ n s p. t n s ≡ u n s) ls → lined t ls ≡ lined u ls
lined_same t u [] a = refl
lined_same t u (l ∷ ls) a = rw (a.0, lined_same t u ls a.1)

-- No line of one side is of the other.
is_not_other : (s : Side) → is s (other s) ≡ false
is_not_other Bid = refl
is_not_other Offer = refl

-- A number above those of all orders holds no lots.
held_fresh : (n : ℕ) (os : List Order) → below n (numbers os) ≡ true → held (λ o. eqb n o.number) os ≡ 0
held_fresh n [] b = refl
held_fresh n (o ∷ os) b =
    let r = and_parts (ltb o.number n) (below n (numbers os)) b in
    let l = ltb-true o.number n r.0 in
    rw (ne_eqb n o.number (λ i. let no : ⊥ = omega arith in no)) (omega (arith, held_fresh n os r.1))

-- ---- answers and conditions

-- What an entry is answered under a number.
abbrev answered : ℕ → ℕ → ℕ → ℕ → EntryAnswer
answered number traded withdrawn «open» = record { number = number; traded = traded; withdrawn = withdrawn; «open» = «open» }

-- An entry whose condition is not met may not trade.
may_not : (c : Condition) (number lots r : ℕ) → enough c lots r ≡ false → MayTrade c (answered number 0 lots 0) → ⊥
may_not Unconditional number lots r e m = never e
may_not Ic number lots r e m = never e
may_not Cv number lots r e m = omega arith
may_not (Mv minimum) number lots r e m = omega arith

-- Under IC nothing rests.
none_rests : (limit : Option ℕ) (n : ℕ) → cond (rests limit Ic) n 0 ≡ 0
none_rests None n = refl
none_rests (Some q) n = refl

-- The condition is kept where lots enough are within reach, and where they are not.
kept_met : (c : Condition) (limit : Option ℕ) (number lots r w : ℕ) → minimum_outside c lots ≡ false → enough c lots r ≡ true → ConditionKept c r lots (answered number (min lots r) w (cond (rests limit c) (lots - min lots r) 0))
kept_met Unconditional limit number lots r w i e = tt
kept_met Ic limit number lots r w i e = none_rests limit (lots - min lots r)
kept_met Cv limit number lots r w i e = inl (omega (arith, leb-true lots r e))
kept_met (Mv minimum) limit number lots r w i e = inl (omega (arith, leb-true minimum r e, inside 1 lots minimum i))

kept_unmet : (c : Condition) (number lots r : ℕ) → enough c lots r ≡ false → ConditionKept c r lots (answered number 0 lots 0)
kept_unmet Unconditional number lots r e = tt
kept_unmet Ic number lots r e = refl
kept_unmet Cv number lots r e = inr (refl, leb-false lots r e)
kept_unmet (Mv minimum) number lots r e = inr (refl, leb-false minimum r e)

-- What is left of an entry stays open, or is withdrawn.
rest_stays : (r : Bool) (n : ℕ) → r ≡ true → cond r 0 n ≡ 0
rest_stays r n e = cond-true r 0 n e

rest_goes : (r : Bool) (n : ℕ) → r ≡ false → cond r n 0 ≡ 0
rest_goes r n e = cond-false r n 0 e

-- ---- an entry that meets a book

module _ (rule : Rule) (fair : Fairly rule) (e : Incoming) (os : List Order) (b : Book os) (fresh : below e.number (numbers os) ≡ true) where
  abbrev own : ℕ → Side → Bool
  own n s = eqb e.number n

  abbrev ok : Bool
  ok = enough e.condition e.lots (reach e os)

  abbrev answer : Matched → EntryAnswer
  answer d = answered e.number d.traded d.withdrawn d.«open»

  -- the lines under its number are those of its side
  met_own : lined own (met rule e os).tape ≡ lined (λ n s. is e.side s) (met rule e os).tape
  met_own = lined_same own (λ n s. is e.side s) (met rule e os).tape
      (met_lines rule fair e os b (λ n s k. n < e.number) (λ n s p. eqb e.number n ≡ is e.side s)
      (below_each e.number os (λ o. Unit {0}) (λ o. o.number < e.number) fresh (λ o l _. l) (all_any os))
      (λ x n _ l. ne_eqb e.number n (λ i. let no : ⊥ = omega arith in no) ∙ sym (is_not_other e.side))
      (λ x _ _. eq-eqb e.number e.number refl ∙ sym (is_self e.side)))

  -- what it traded is on the tape under its number
  own_traded : lined own (matched rule e os).tape ≡ (matched rule e os).traded
  own_traded = cond_both ok _ _ (λ (d : Matched). lined own d.tape ≡ d.traded) (λ _. met_own ∙ (met_even rule fair e os b).1) (λ _. refl)

  -- what it has open is on the book under its number
  own_open : held (λ o. eqb e.number o.number) (matched rule e os).orders ≡ (matched rule e os).«open»
  own_open =
      let k = matching_keeps rule fair e os b in
      let self : eqb e.number e.number ≡ true = eq-eqb e.number e.number refl in
      omega (arith, k.conserved own, k.all_lots, own_traded, held_fresh e.number os fresh, cond-true (eqb e.number e.number) e.lots 0 self, cond-true (eqb e.number e.number) (matched rule e os).withdrawn 0 self)

  -- it trades on as long as an order is left that it accepts
  met_on : (n : ℕ) → min e.lots (reach e os) < e.lots → (x : ℕ) → In x (prices (other e.side) ((met rule e os).orders ++ resting e e.limit n)) → accepts e.side e.limit x ≡ false
  met_on n more x i = elim (in_either (other e.side) x (met rule e os).orders (resting e e.limit n) i) [
    | inl left ↦ met_clear rule fair e os b (omega arith) x left
    | inr rest ↦ rest_both (λ ps. In x (prices (other e.side) ps) → accepts e.side e.limit x ≡ false) e e.limit n (λ j. absurd j) (λ q _ _ j. absurd (never_other e.side (in_one (other e.side) e.side x q j).0)) rest
  ]

  trades_on : MayTrade e.condition (answer (matched rule e os)) → (matched rule e os).traded < e.lots → (x : ℕ) → In x (prices (other e.side) (matched rule e os).orders) → accepts e.side e.limit x ≡ false
  trades_on = cond_both ok _ _ (λ (d : Matched). MayTrade e.condition (answer d) → d.traded < e.lots → (x : ℕ) → In x (prices (other e.side) d.orders) → accepts e.side e.limit x ≡ false)
      (λ _ _. met_on (e.lots - min e.lots (reach e os)))
      (λ unmet may _ x _. absurd (may_not e.condition e.number e.lots (reach e os) unmet may))

  -- its condition is kept
  condition_kept : minimum_outside e.condition e.lots ≡ false → ConditionKept e.condition (reach e os) e.lots (answer (matched rule e os))
  condition_kept within = cond_both ok _ _ (λ (d : Matched). ConditionKept e.condition (reach e os) e.lots (answer d))
      (λ enough-lots. kept_met e.condition e.limit e.number e.lots (reach e os) (cond (rests e.limit e.condition) 0 (e.lots - min e.lots (reach e os))) within enough-lots)
      (λ too_few. kept_unmet e.condition e.number e.lots (reach e os) too_few)

  -- its rest stays open, or is withdrawn
  stays : MayTrade e.condition (answer (matched rule e os)) → rests e.limit e.condition ≡ true → (matched rule e os).withdrawn ≡ 0
  stays = cond_both ok _ _ (λ (d : Matched). MayTrade e.condition (answer d) → rests e.limit e.condition ≡ true → d.withdrawn ≡ 0)
      (λ _ _ r. rest_stays (rests e.limit e.condition) (e.lots - min e.lots (reach e os)) r)
      (λ unmet may _. absurd (may_not e.condition e.number e.lots (reach e os) unmet may))

  goes : rests e.limit e.condition ≡ false → (matched rule e os).«open» ≡ 0
  goes = cond_both ok _ _ (λ (d : Matched). rests e.limit e.condition ≡ false → d.«open» ≡ 0)
      (λ _ r. rest_goes (rests e.limit e.condition) (e.lots - min e.lots (reach e os)) r)
      (λ _ _. refl)

-- ---- every call

-- Answers to two entries that are equal say the same of both.
entered_is : (a b : EntryAnswer) → Entered a ≡ Entered b → a ≡ b
entered_is a b e = cc

module _ (R : Rules) (session : Fairly R.session) (m : Machine) (g : Good m) where
  -- any entry that meets the book under the next number keeps the laws
  meets : (c : Call) (i : Incoming) → writes m.phase c ≡ true → i.number ≡ m.next → minimum_outside i.condition i.lots ≡ false → (a : EntryAnswer) → (meet R m i).answer ≡ Entered a → EntryLaws (seen m c (meet R m i)) a i.side i.limit i.lots i.condition
  meets c i open-now is-next within a answer_is =
      let rule : Rule = R.session in
      let os : List Order = m.orders in
      let d : Matched = matched rule i os in
      let fresh : below i.number (numbers os) ≡ true = rw is-next g.fresh in
      let is-a : answered i.number d.traded d.withdrawn d.«open» ≡ a = ap (λ (n : ℕ). answered n d.traded d.withdrawn d.«open») is-next ∙ entered_is (answered m.next d.traded d.withdrawn d.«open») a answer_is in
      subst (λ (z : EntryAnswer). EntryLaws (seen m c (meet R m i)) z i.side i.limit i.lots i.condition) is-a (record {
        all_lots = (matching_keeps rule session i os g.book).all_lots;
        traded = ap (λ (w : Bool). lined (λ n s. eqb i.number n) (cond w d.tape [])) open-now ∙ own_traded rule session i os g.book fresh;
        open_left = own_open rule session i os g.book fresh;
        trades_on = trades_on rule session i os g.book fresh;
        condition_kept = condition_kept rule session i os g.book fresh within;
        stays = stays rule session i os g.book fresh;
        goes = goes rule session i os g.book fresh;
      })

-- The laws of an entry that is taken in session; of other calls none are asked.
abbrev pub LawsOf : Call → Event → EntryAnswer → Type 0
LawsOf (EnterLimit x) e a = e.before.phase ≡ Open → EntryLaws e a x.side (Some x.price) x.lots x.condition
LawsOf (EnterOnOpen x) e a = Unit {0}
LawsOf (EnterMarket x) e a = EntryLaws e a x.side None x.lots x.condition
LawsOf (Cancel id number) e a = Unit {0}
LawsOf (Reduce id number lots) e a = Unit {0}
LawsOf (TakeLineDown id) e a = Unit {0}
LawsOf (BringLineUp id) e a = Unit {0}
LawsOf (NameSuccessor id successor) e a = Unit {0}
LawsOf (Try t) e a = Unit {0}
LawsOf OpenBook e a = Unit {0}
LawsOf CloseBook e a = Unit {0}

-- Every entry that is taken in session keeps its laws.
pub entries_kept : (R : Rules) → Fairly R.session → (m : Machine) → Good m → (c : Call) (a : EntryAnswer) → (event R m c).answer ≡ Entered a → LawsOf c (event R m c) a
entries_kept R session m g = every_way R m (λ c o. (a : EntryAnswer) → o.answer ≡ Entered a → LawsOf c (seen m c o) a) (record {
  refused = λ c r a h. never (ap was_taken (sym h));
  wrong_phase = λ c a h. never (ap was_taken (sym h));
  limit_waits = λ e shut _ _ _ a _ trading. never (ap is_open (sym trading ∙ shut));
  on_open_waits = λ e _ _ _ a _. tt;
  limit_meets = λ e trading _ _ _ within a h _. meets R session m g (EnterLimit e) (limit_incoming m e) (ap is_open trading) refl within a h;
  market_meets = λ e trading _ within a h. meets R session m g (EnterMarket e) (market_incoming m e) refl refl within a h;
  cancels = λ id k o _ a _. tt;
  reduces = λ id k lots o _ _ _ a _. tt;
  goes_down = λ id a _. tt;
  comes_up = λ id a _. tt;
  names = λ id successor a _. tt;
  tries = λ t _ a _. tt;
  opens = λ _ a _. tt;
  closes = λ _ a _. tt;
})

-- ---- before the opening

-- Whether an answer is that of an entry.
abbrev some_entry : Option EntryAnswer → Bool
some_entry None = false
some_entry (Some a) = true

abbrev is_entry : Answer → Bool
is_entry a = some_entry (entry_of a)

-- An entry that is taken waits whole.
module _ (R : Rules) (m : Machine) (g : Good m) where
  waits : (c : Call) (id : ℕ) (side : Side) (kind : Kind) (t : TimeInForce) (a : EntryAnswer) → (wait m id side kind (volume_asked c) t).answer ≡ Entered a → Waits (seen m c (wait m id side kind (volume_asked c) t)) a
  waits c id side kind t a h =
      let lots : ℕ = volume_asked c in
      let own : Order → Bool = λ o. eqb m.next o.number in
      let new : Order = record { number = m.next; id = id; side = side; kind = kind; lots = lots; lifetime = lifetime_in m t } in
      let self = cond-true (eqb m.next m.next) lots 0 (eq-eqb m.next m.next refl) in
      subst (λ (z : EntryAnswer). Waits (seen m c (wait m id side kind lots t)) z) (entered_is (answered m.next 0 0 lots) a h)
      (record {
        none_traded = refl;
        none_withdrawn = refl;
        all_open = refl;
        on_book = omega (arith, held_append own m.orders (new ∷ []), held_fresh m.next m.orders g.fresh, self);
      })

  pub waiting_kept : (c : Call) (a : EntryAnswer) → m.phase ≡ PreOpen → (event R m c).answer ≡ Entered a → Waits (event R m c) a
  waiting_kept = every_way R m (λ c o. (a : EntryAnswer) → m.phase ≡ PreOpen → o.answer ≡ Entered a → Waits (seen m c o) a) (record {
    refused = λ c r a _ h. never (ap was_taken (sym h));
    wrong_phase = λ c a _ h. never (ap was_taken (sym h));
    limit_waits = λ e _ _ _ _ a _ h. waits (EnterLimit e) e.id e.side (Limit e.price) e.lifetime a h;
    on_open_waits = λ e _ _ _ a _ h. waits (EnterOnOpen e) e.id e.side OnOpen e.lifetime a h;
    limit_meets = λ e trading _ _ _ _ a shut h. never (ap is_open (sym trading ∙ shut));
    market_meets = λ e trading _ _ a shut h. never (ap is_open (sym trading ∙ shut));
    cancels = λ id k o _ a _ h. never (ap is_entry (sym h));
    reduces = λ id k lots o _ _ _ a _ h. never (ap is_entry (sym h));
    goes_down = λ id a _ h. never (ap is_entry (sym h));
    comes_up = λ id a _ h. never (ap is_entry (sym h));
    names = λ id successor a _ h. never (ap is_entry (sym h));
    tries = λ t _ a _ h. never (ap is_entry (sym h));
    opens = λ _ a _ h. never (ap is_entry (sym h));
    closes = λ _ a _ h. never (ap is_entry (sym h));
  })
