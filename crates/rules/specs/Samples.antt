-- Twelve small books and queues, with what the rules make of them.
use Rattle.std.specs.Prelude.{◌≡◌, ℕ, List, [], ◌∷◌, Some, None, Option}
use Rattle.policy.specs.PriceTime.{price_time}
use Rattle.policy.specs.Samples.{SampleQueues}
use Rattle.rules.specs.declared.order.Side.{Side}
use Rattle.rules.specs.declared.order.Side.TheVariants.{Bid, Offer}
use Rattle.rules.specs.declared.order.Kind.TheVariants.{Limit}
use Rattle.rules.specs.declared.order.Lifetime.TheVariants as life
use Rattle.rules.specs.declared.order.Order.{Order}
use Rattle.rules.specs.declared.ladder.Ladder.{Ladder}
use Rattle.rules.specs.declared.ladder.Ladder.TheVariants.{Bond, Index}
use Rattle.rules.specs.declared.calls.TimeInForce.TheVariants.{Plain}
use Rattle.rules.specs.declared.calls.Condition.TheVariants.{Unconditional}
use Rattle.rules.specs.declared.calls.Call.{Call}
use Rattle.rules.specs.declared.calls.Call.TheVariants.{EnterLimit, EnterOnOpen, OpenBook}
use Rattle.rules.specs.declared.calls.Answer.TheVariants.{Opened}
use Rattle.rules.specs.Machine.{Rules, Machine, made}
use Rattle.rules.specs.Steps.{step}

-- Both policies share by price/time.
abbrev pub rules : Rules
rules = record { opening = price_time; session = price_time }

-- The book after calls.
abbrev pub after_calls : Machine → List Call → Machine
after_calls m [] = m
after_calls m (c ∷ cs) = after_calls (step rules m c).after cs

-- Entries of ID 1.
abbrev pub limit : Side → ℕ → ℕ → Call
limit s lots price = EnterLimit (record { id = 1; side = s; price = price; lots = lots; lifetime = Plain; condition = Unconditional })

abbrev pub bid : ℕ → ℕ → Call
bid = limit Bid

abbrev pub offer : ℕ → ℕ → Call
offer = limit Offer

abbrev pub on_open : Side → ℕ → Call
on_open s lots = EnterOnOpen (record { id = 1; side = s; lots = lots; lifetime = Plain })

-- What is left open of the entry of a number.
abbrev pub left : ℕ → Side → ℕ → ℕ → Order
left number s lots price = record { number = number; id = 1; side = s; kind = Limit price; lots = lots; lifetime = life.Plain }

-- A new book takes the entries, numbered from 1, and opens: its price, V, the total, the lots withdrawn, and what is left.
pub record Opens (ladder : Ladder) (entries : List Call) (price : Option ℕ) (volume total withdrawn : ℕ) (orders : List Order) : Type 0 where
  pub answer : (step rules (after_calls (made ladder 1 9 1) entries) OpenBook).answer ≡ Opened (record { volume = volume; total = total; withdrawn = withdrawn; price = price })
  pub leaves : (step rules (after_calls (made ladder 1 9 1) entries) OpenBook).after.orders ≡ orders

pub record SampleOpenings : Type 0 where
  pub book_1 : Opens Bond (bid 5 102 ∷ offer 5 100 ∷ []) (Some 101) 5 5 0 []
  pub book_2 : Opens Bond (bid 5 103 ∷ offer 5 100 ∷ []) (Some 101) 5 5 0 []
  pub book_3 : Opens Bond (bid 4 103 ∷ offer 3 100 ∷ offer 3 101 ∷ []) (Some 101) 4 4 0 (left 3 Offer 2 101 ∷ [])
  pub book_4 : Opens Bond (bid 3 103 ∷ bid 3 102 ∷ offer 4 100 ∷ []) (Some 102) 4 4 0 (left 2 Bid 2 102 ∷ [])
  pub book_5 : Opens Bond (bid 4 104 ∷ bid 2 100 ∷ offer 4 99 ∷ offer 2 103 ∷ []) (Some 101) 4 4 0 (left 2 Bid 2 100 ∷ left 4 Offer 2 103 ∷ [])
  pub book_6 : Opens Bond (bid 1 100 ∷ offer 1 101 ∷ on_open Offer 1 ∷ []) (Some 100) 0 1 0 (left 2 Offer 1 101 ∷ [])
  pub book_7 : Opens Bond (bid 1 100 ∷ on_open Offer 1 ∷ []) None 0 0 1 (left 1 Bid 1 100 ∷ [])
  pub book_8 : Opens Bond (bid 1 10 ∷ bid 5 8 ∷ offer 1 8 ∷ on_open Offer 5 ∷ []) (Some 10) 1 1 0 (left 2 Bid 5 8 ∷ left 4 Offer 5 10 ∷ [])
  pub book_9 : Opens Index (bid 1 210 ∷ offer 1 205 ∷ on_open Bid 2 ∷ []) (Some 207) 1 1 0 (left 3 Bid 2 207 ∷ [])

-- The nine openings and the three queues, as one statement.
abbrev pub TwelveSamples : Type 0
TwelveSamples = SampleOpenings × SampleQueues
