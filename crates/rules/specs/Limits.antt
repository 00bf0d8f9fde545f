-- The ranges and capacities of a book, each in one place. The largest volume of an order is that of a queue's place.
use Rattle.std.specs.Prelude.{ℕ}
use Rattle.policy.specs.Queue as queue

abbrev pub lowest_price : ℕ
lowest_price = 1

abbrev pub highest_price : ℕ
highest_price = 4_000_000

abbrev pub most_lots : ℕ
most_lots = queue.most_lots

abbrev pub most_orders : ℕ
most_orders = 256

abbrev pub most_ids : ℕ
most_ids = 64

abbrev pub last_number : ℕ
last_number = 4_294_967_294

abbrev pub first_day : ℕ
first_day = 1

abbrev pub last_day : ℕ
last_day = 65_534
