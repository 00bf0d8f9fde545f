-- The levels of a book are queues that a policy answers.
use Rattle.std.proofs.Common.{◌≡◌, ℕ, ◌+◌, ◌<◌, ◌≤◌, true, false, List, [], ◌∷◌, ◌++◌, map, length, get_or, take, sym, ap, ◌∙◌, arith}
use Rattle.std.proofs.ByRecursion.{all_kept_by, All-map, All-weaker}
use Rattle.std.proofs.lemmas.Bool.{cond-true, cond-false}
use Rattle.std.proofs.lemmas.List.{length-map, length-take, map-append, append-nil, take_all}
use Rattle.std.proofs.lemmas.List.Elements.{filter_more}
use Rattle.std.proofs.lemmas.List.Sums.{length-filter, count_by-le-length}
use Rattle.policy.specs.Queue.{Queue, most_lots}
use Rattle.rules.specs.declared.order.Order.{Order}
use Rattle.rules.specs.declared.order.Side.{Side}
use Rattle.rules.specs.declared.order.Kind.{Kind}
use Rattle.rules.specs.Orders.{at, level, queue, InRange, Book}
use Rattle.table.specs.declared.table.Table.{Table}
use Rattle.table.specs.Tables.{open_orders}
use Rattle.table.proofs.Fit.{table_book}

pub level_few : (s : Side) (k : Kind) (os : List Order) → length (level s k os) ≤ length os
level_few s k os = omega (arith, length-filter (at s k) os, count_by-le-length (at s k) os)

pub queue_length : (s : Side) (k : Kind) (os : List Order) → length (queue s k os) ≡ length (level s k os)
queue_length s k os = length-map (level s k os) (λ (o : Order). o.lots)

pub book_queue : (s : Side) (k : Kind) (os : List Order) → Book os → Queue (queue s k os)
book_queue s k os b =
    let sound = all_kept_by (at s k) (λ (o : Order). (1 ≤ o.lots) × (o.lots ≤ most_lots) × InRange o.kind) os b.sound in
    let small = All-weaker (λ (o : Order). (1 ≤ o.lots) × (o.lots ≤ most_lots) × InRange o.kind) (λ (o : Order). o.lots ≤ most_lots) (λ o h. h.1) (level s k os) sound in
    record {
      few = omega (arith, queue_length s k os, level_few s k os, b.few);
      small = All-map (λ (place : ℕ). place ≤ most_lots) (λ (o : Order). o.lots) (level s k os) small;
    }

pub table_queue : (t : Table) (s : Side) (k : Kind) → Queue (queue s k (open_orders t))
table_queue t s k = book_queue s k (open_orders t) (table_book t)

-- ---- the loop that gathers a queue

module _ (s : Side) (k : Kind) (os : List Order) (i : ℕ) (d : Order) (in' : i < length os) where
  pub queue_more_yes : at s k (get_or os i d) ≡ true → (xs : List ℕ) → xs ≡ queue s k (take i os) → xs ++ (get_or os i d).lots ∷ [] ≡ queue s k (take (i + 1) os)
  queue_more_yes on xs e =
      let more : level s k (take (i + 1) os) ≡ level s k (take i os) ++ get_or os i d ∷ [] =
      filter_more (at s k) os i d in' ∙ ap (λ l. level s k (take i os) ++ l) (cond-true (at s k (get_or os i d)) _ _ on) in
      let both = map-append (λ (o : Order). o.lots) (level s k (take i os)) (get_or os i d ∷ []) in
      let all = ap (map (λ (o : Order). o.lots)) more in
      let first = ap (λ (l : List ℕ). l ++ (get_or os i d).lots ∷ []) e in
      first ∙ sym (all ∙ both)

  pub queue_more_no : at s k (get_or os i d) ≡ false → (xs : List ℕ) → xs ≡ queue s k (take i os) → xs ≡ queue s k (take (i + 1) os)
  queue_more_no off xs e =
      let more : level s k (take (i + 1) os) ≡ level s k (take i os) =
      filter_more (at s k) os i d in' ∙ ap (λ l. level s k (take i os) ++ l) (cond-false (at s k (get_or os i d)) _ _ off) ∙ append-nil (level s k (take i os)) in
      e ∙ sym (ap (map (λ (o : Order). o.lots)) more)

pub queue_within : (s : Side) (k : Kind) (i : ℕ) (os : List Order) → length (queue s k (take i os)) ≤ i
queue_within s k i os = omega (arith, queue_length s k (take i os), level_few s k (take i os), length-take i os)

pub queue_end : (s : Side) (k : Kind) (os ys : List Order) (i : ℕ) (xs : List ℕ) → ys ≡ os → length ys ≤ i → xs ≡ queue s k (take i ys) → xs ≡ queue s k os
queue_end s k os ys i xs e past h = h ∙ ap (queue s k) (take_all i ys past ∙ e)
