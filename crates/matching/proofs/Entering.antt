-- How many orders an entry leaves, and what one that meets its condition comes to.
use Rattle.std.proofs.Common.{◌≡◌, ℕ, ◌-◌, ◌≤◌, min, true, cond, List, [], ◌++◌, map, length, Some, None, filter, Option, refl, ap, ◌∙◌, arith}
use Rattle.std.proofs.lemmas.Bool.{cond_both}
use Rattle.std.proofs.lemmas.Bool.Decides.{nat_tests}
use Rattle.policy.specs.Fair.{Rule, Fairly}
use Rattle.rules.specs.declared.order.Kind.TheVariants.{Limit}
use Rattle.rules.specs.declared.order.Order.{Order}
use Rattle.rules.specs.declared.incoming.Incoming.{Incoming}
use Rattle.rules.specs.declared.tape.TapeLine.{TapeLine}
use Rattle.rules.specs.declared.tape.Terms.TheVariants.{Entry}
use Rattle.rules.specs.declared.calls.EntryAnswer.{EntryAnswer}
use Rattle.rules.specs.Sides.{other}
use Rattle.rules.specs.Orders.{Book}
use Rattle.rules.specs.Trades.{Step, ranked}
use Rattle.rules.specs.Session.{accepts, reach, enough, met, rests, resting, matched}
use Rattle.rules.proofs.Served.{serve_length}
use Rattle.matching.specs.Entries.{allowed, room_for, entry_answer, settled_answer}

-- room stays where orders go
pub room_stays : (limit : Option ℕ) (os ps : List Order) → length ps ≤ length os → room_for limit os ≡ true → room_for limit ps ≡ true
room_stays None os ps h r = refl
room_stays (Some q) os ps h r = grind (arith, nat_tests)

-- an entry leaves no more orders than there were
pub allowed_length : (rule : Rule) → Fairly rule → (e : Incoming) (os : List Order) → Book os → length (allowed rule e os).orders ≤ length os
allowed_length rule fair e os b = cond_both (enough e.condition e.lots (reach e os)) (met rule e os) (record { orders = os; tape = [] }) (λ (m : Step). length m.orders ≤ length os)
    (λ _. serve_length rule fair (Entry e.number) (other e.side) e.lots (map Limit (filter (accepts e.side e.limit) (ranked (other e.side) os))) (record { orders = os; tape = [] }) b)
    (λ _. omega arith)

-- an entry that met its condition: it walked over the orders os, which makes the step n, and leaves some lots
pub record Met (rule : Rule) (e : Incoming) (os : List Order) (n : Step) (left : ℕ) : Type 0 where
  pub ok : enough e.condition e.lots (reach e os) ≡ true
  pub left_is : left ≡ e.lots - reach e os
  pub walked : n ≡ met rule e os

-- what an entry whose condition is met comes to
pub record Done (rule : Rule) (e : Incoming) (os orders : List Order) (tape : List TapeLine) (answer : EntryAnswer) : Type 0 where
  pub orders_are : orders ≡ (matched rule e os).orders
  pub tape_is : tape ≡ (matched rule e os).tape
  pub answer_is : answer ≡ entry_answer e.number (matched rule e os)

pub done : (rule : Rule) (e : Incoming) (os orders : List Order) (tape : List TapeLine) (answer : EntryAnswer) (n : Step) (left : ℕ) → Met rule e os n left →
    orders ≡ n.orders ++ resting e e.limit left → tape ≡ n.tape → answer ≡ settled_answer e left → Done rule e os orders tape answer
done rule e os orders tape answer n left m eo et ea =
    let ok = m.ok in
    let l = m.left_is in
    let rest : left ≡ e.lots - min e.lots (reach e os) = omega arith in
    let traded : e.lots - left ≡ min e.lots (reach e os) = omega arith in
    record {
      orders_are = rw ok (eo ∙ ap (λ (x : Step). x.orders ++ resting e e.limit left) m.walked ∙ ap (λ (x : ℕ). (met rule e os).orders ++ resting e e.limit x) rest);
      tape_is = rw ok (et ∙ ap (λ (x : Step). x.tape) m.walked);
      answer_is = rw ok (ea ∙ (λ i. record { number = e.number; traded = traded i; withdrawn = cond (rests e.limit e.condition) 0 (rest i); «open» = cond (rests e.limit e.condition) (rest i) 0 }));
    }
