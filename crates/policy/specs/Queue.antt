-- A queue: the open lots at one level, earliest entry first. Assumes nothing.
use Rattle.std.specs.Prelude.{ℕ, ◌≤◌, Bool, ◌&&◌, List, length, nat_le}
use Rattle.std.specs.List.{AllByRecursion, list_all}

abbrev pub most_places : ℕ
most_places = 256

abbrev pub most_lots : ℕ
most_lots = 9999

pub record Queue (queue : List ℕ) : Type 0 where
  pub few : length queue ≤ most_places
  pub small : AllByRecursion (λ place. place ≤ most_lots) queue

-- The same as a test.
abbrev pub small_places : List ℕ → Bool
small_places = list_all (λ place. nat_le place most_lots)

abbrev pub is_queue : List ℕ → Bool
is_queue queue = nat_le (length queue) most_places && small_places queue
