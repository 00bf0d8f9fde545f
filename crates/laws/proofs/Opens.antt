-- An opening trades as much as a price allows.
use Rattle.std.proofs.Common.{◌≡◌, ℕ, suc, ◌≤◌, List, Some, None, Option, sym, refl, ap, ◌∙◌, subst, inl, inr, arith}
use Rattle.std.specs.List.{AllByRecursion}
use Rattle.std.proofs.lemmas.Bool.{cases_lt}
use Rattle.std.proofs.ByRecursion.{All-weaker}
use Rattle.policy.specs.Fair.{Rule, Fairly}
use Rattle.rules.specs.declared.order.Order.{Order}
use Rattle.rules.specs.declared.tape.TapeLine.{TapeLine}
use Rattle.rules.specs.declared.calls.Phase.{Phase}
use Rattle.rules.specs.declared.calls.Phase.TheVariants.{PreOpen}
use Rattle.rules.specs.declared.calls.Call.TheVariants.{OpenBook}
use Rattle.rules.specs.declared.calls.OpeningAnswer.{OpeningAnswer}
use Rattle.rules.specs.Limits.{lowest_price, highest_price}
use Rattle.rules.specs.Orders.{Sound, Book}
use Rattle.rules.specs.Price.{tradable, volume, price}
use Rattle.rules.specs.Opening.{opened_at, opened}
use Rattle.rules.specs.Machine.{Rules, Machine}
use Rattle.rules.specs.Steps.{only_in, open_book}
use Rattle.rules.proofs.Held.{demand_le, supply_le, demand_end, supply_start}
use Rattle.rules.proofs.Volumes.{never_more, attained}
use Rattle.rules.proofs.Prices.{no_price}
use Rattle.rules.proofs.Openings.{opening_keeps, opening_even}
use Rattle.laws.specs.Runs.{event}
use Rattle.laws.specs.Laws.{LimitOrdersFirst, OpeningLaws, Opens}
use Rattle.laws.proofs.Good.{Good}
use Rattle.laws.proofs.Ways.{seen}

-- Outside the range of prices nothing could trade.
pub never_more_at_all : (os : List Order) → Sound os → (q : ℕ) → tradable os q ≤ volume os
never_more_at_all os sound q = elim (cases_lt q lowest_price) [
  | inl low ↦ omega (arith, supply_le os q 0 (omega arith), supply_start os sound)
  | inr from ↦ elim (cases_lt highest_price q) [
    | inl high ↦ omega (arith, demand_le os (suc highest_price) q (omega arith), demand_end os sound)
    | inr upto ↦ never_more os q from upto
  ]
]

-- ---- what the answer says, with a price or without

volume_is : (rule : Rule) (os : List Order) (v : ℕ) (p : Option ℕ) → (opened_at rule os v p).volume ≡ v
volume_is rule os v None = refl
volume_is rule os v (Some p) = refl

price_is : (rule : Rule) (os : List Order) (v : ℕ) (p : Option ℕ) → (opened_at rule os v p).price ≡ p
price_is rule os v None = refl
price_is rule os v (Some p) = refl

none_trades : (rule : Rule) (os : List Order) (v : ℕ) (p : Option ℕ) → p ≡ None → (opened_at rule os v p).total ≡ 0
none_trades rule os v p is = ap (λ (o : Option ℕ). (opened_at rule os v o).total) is

-- Every line is at the price; without one there is none.
lines_at : (rule : Rule) (os : List Order) (o : Option ℕ) → price os ≡ o → ((p : ℕ) → price os ≡ Some p → AllByRecursion (λ l. l.price ≡ p) (opened rule os).tape) → AllByRecursion (λ l. price os ≡ Some l.price) (opened rule os).tape
lines_at rule os None e keeps = subst (λ (p : Option ℕ). AllByRecursion (λ (l : TapeLine). price os ≡ Some l.price) (opened_at rule os (volume os) p).tape) (sym e) tt
lines_at rule os (Some p) e keeps = All-weaker (λ (l : TapeLine). l.price ≡ p) (λ l. price os ≡ Some l.price) (λ l h. e ∙ ap Some (sym h)) (opened rule os).tape (keeps p e)

-- What an opening answers.
abbrev answer_of : Rule → List Order → OpeningAnswer
answer_of rule os = let o = opened rule os in record { volume = o.volume; total = o.total; withdrawn = o.withdrawn; price = o.price }

-- The opening of any book.
opens_as : (rule : Rule) → Fairly rule → (os : List Order) → Book os → LimitOrdersFirst os (opened rule os).tape (volume os) → OpeningLaws os (opened rule os).tape (answer_of rule os)
opens_as rule fair os b first =
    let v = volume_is rule os (volume os) (price os) in
    let p : (opened rule os).price ≡ price os = price_is rule os (volume os) (price os) in
    let most = attained os in
    record {
      never_more = λ q. omega (arith, never_more_at_all os b.sound q, v);
      attained = (most.0, omega (arith, most.3, v));
      limit_orders_first = subst (LimitOrdersFirst os (opened rule os).tape) (sym v) first;
      the_price = p;
      at_the_price = All-weaker (λ (l : TapeLine). price os ≡ Some l.price) (λ l. (opened rule os).price ≡ Some l.price) (λ l h. p ∙ h) (opened rule os).tape (lines_at rule os (price os) refl (opening_keeps rule fair os b).at_price);
      total = opening_even rule fair os b;
      in_all = λ q is. (opening_keeps rule fair os b).total_is q (sym p ∙ is);
      without_price = λ is. ((no_price os (sym p ∙ is)).1, none_trades rule os (volume os) (price os) (sym p ∙ is));
    }

-- ---- the call

-- A good book before its opening opens, once its limit orders are known to trade first.
pub opening_kept : (R : Rules) → Fairly R.opening → (m : Machine) → Good m → LimitOrdersFirst m.orders (opened R.opening m.orders).tape (volume m.orders) → m.phase ≡ PreOpen → Opens (event R m OpenBook)
opening_kept R fair m g first waits = subst (λ (phase : Phase). Opens (seen m OpenBook (only_in PreOpen m (open_book R m) phase))) (sym waits)
    (record { answer = answer_of R.opening m.orders; answered = refl; now_open = refl; laws = opens_as R.opening fair m.orders g.book first })
