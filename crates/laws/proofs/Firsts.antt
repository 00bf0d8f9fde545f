-- The first lines of an opening are those of limit orders, and hold V lots of each side.
use Rattle.std.proofs.Common.{◌≡◌, ℕ, true, ◌&&◌, eqb, List, [], ◌∷◌, ◌++◌, Some, None, Option, refl, ap, ◌∙◌, arith}
use Rattle.std.proofs.lemmas.List.{append_assoc}
use Rattle.std.proofs.lemmas.Bool.{eq-eqb, and_from, or_left, or_right}
use Rattle.std.proofs.ByRecursion.{All-weaker}
use Rattle.policy.specs.Fair.{Rule, Fairly}
use Rattle.rules.specs.declared.order.Side.{Side}
use Rattle.rules.specs.declared.order.Side.TheVariants.{Bid, Offer}
use Rattle.rules.specs.declared.order.Kind.{Kind}
use Rattle.rules.specs.declared.order.Kind.TheVariants.{Limit, OnOpen}
use Rattle.rules.specs.declared.order.Order.{Order}
use Rattle.rules.specs.declared.tape.TapeLine.{TapeLine}
use Rattle.rules.specs.declared.tape.Terms.TheVariants.{Opening}
use Rattle.rules.specs.Sides.{is}
use Rattle.rules.specs.Orders.{priced, queue, Book}
use Rattle.rules.specs.Price.{volume, price}
use Rattle.rules.specs.Trades.{shares, written, Step, fill}
use Rattle.rules.specs.Opening.{stage_one, lesser, cross, turned, stages, opened_at, opened}
use Rattle.rules.proofs.Prices.{no_price}
use Rattle.rules.proofs.Filled.{is_self}
use Rattle.rules.proofs.Openings.{start, opening_keeps}
use Rattle.laws.specs.Laws.{line_of_limit, LimitOrdersFirst}
use Rattle.laws.proofs.Lines.{Everywhere, Lined, one_lines}

-- ---- stages only append

-- What a step writes stands behind the tape as it was.
abbrev pub Adds : Step → Step → Type 0
Adds m m' = (more : List TapeLine) × (m'.tape ≡ m.tape ++ more)

adds_both : (a b c : Step) → Adds a b → Adds b c → Adds a c
adds_both a b c x y = (x.0 ++ y.0, y.1 ∙ (ap (λ (t : List TapeLine). t ++ y.0) x.1 ∙ append_assoc a.tape x.0 y.0))

cross_adds : (rule : Rule) (p : ℕ) (k : Kind) (m : Step) → Adds m (cross rule p k m)
cross_adds rule p k m =
    let w : ℕ = lesser k m.orders in
    let h : Step = fill rule (Opening p) Bid w k m in
    adds_both m h (fill rule (Opening p) Offer w k h)
    (written (Opening p) Bid w k m.orders (shares rule (queue Bid k m.orders) w), refl)
    (written (Opening p) Offer w k h.orders (shares rule (queue Offer k h.orders) w), refl)

-- ---- the lines of stage one

-- A line of that number and side is that of a limit order of os.
abbrev IsLimit : List Order → ℕ → Side → ℕ → Type 0
IsLimit os n s p = (lots : ℕ) → line_of_limit os (record { number = n; side = s; price = p; lots = lots }) ≡ true

abbrev IfLimit : List Order → ℕ → Side → Kind → Type 0
IfLimit os n s k = priced (λ x. true) k ≡ true → (p : ℕ) → IsLimit os n s p

-- each limit order of os is one
own_lines : (os : List Order) → Everywhere (IfLimit os) os
own_lines [] = tt
own_lines (o ∷ os) = (
  (λ is-limit p lots. or_left _ (line_of_limit os (record { number = o.number; side = o.side; price = p; lots = lots })) (and_from (eqb o.number o.number) _ (eq-eqb o.number o.number refl) (and_from (is o.side o.side) _ (is_self o.side) is-limit))),
  All-weaker (λ z. IfLimit os z.number z.side z.kind) (λ z. IfLimit (o ∷ os) z.number z.side z.kind) (λ z h is-limit p lots. or_right (eqb o.number z.number && (is o.side z.side && priced (λ x. true) o.kind)) _ (h is-limit p lots)) os (own_lines os),
)

module _ (rule : Rule) (fair : Fairly rule) (os : List Order) (b : Book os) where
  first_lines : (p : ℕ) → Lined (IsLimit os) (stage_one rule p (volume os) (start os)).tape
  first_lines p = one_lines (IfLimit os) (IsLimit os) rule fair p (volume os) (start os) b (own_lines os) (λ x _ n h. h refl p) (λ x _ n h. h refl p) tt

  stages_add : (p : ℕ) → Adds (stage_one rule p (volume os) (start os)) (stages rule p (volume os) os)
  stages_add p =
      let one : Step = stage_one rule p (volume os) (start os) in
      let two : Step = cross rule p OnOpen one in
      let more = cross_adds rule p (Limit p) (turned p two) in
      adds_both one two (stages rule p (volume os) os) (cross_adds rule p OnOpen one) (more.0, more.1)

  first_at : (o : Option ℕ) → price os ≡ o → LimitOrdersFirst os (opened_at rule os (volume os) o).tape (volume os)
  first_at None e = record {
    first = [];
    rest = [];
    splits = refl;
    of_limits = tt;
    lots = λ s. omega (arith, (no_price os e).0);
  }
  first_at (Some p) e =
      let one : Step = stage_one rule p (volume os) (start os) in
      let more = stages_add p in
      record {
        first = one.tape;
        rest = more.0;
        splits = more.1;
        of_limits = All-weaker (λ l. IsLimit os l.number l.side l.price) (λ l. line_of_limit os l ≡ true) (λ l h. h l.lots) one.tape (first_lines p);
        lots = λ s. omega (arith, ((opening_keeps rule fair os b).even p e).first s);
      }

  -- the opening as a whole
  pub limits_first : LimitOrdersFirst os (opened rule os).tape (volume os)
  limits_first = first_at (price os) refl
