-- The words that name a thing that is one of a few. Assumes nothing.
use Rattle.std.specs.Prelude.{◌≡◌, ℕ, List, Some, None, codes, Option, ◌≢◌}
use Rattle.rules.specs.declared.ladder.Ladder.{Ladder}
use Rattle.rules.specs.declared.ladder.Ladder.TheVariants.{Securities, Index, Bond}
use Rattle.rules.specs.declared.order.Side.{Side}
use Rattle.rules.specs.declared.order.Side.TheVariants.{Bid, Offer}

-- What the word names, if it names one: each thing by its one name.
module _ {X : Type 0} where
  abbrev pub Names : (X → List ℕ) → List ℕ → Option X → Type 0
  Names name word (Some x) = word ≡ name x
  Names name word None = (x : X) → word ≢ name x

abbrev pub ladder_name : Ladder → List ℕ
ladder_name Securities = codes "securities"
ladder_name Index = codes "index"
ladder_name Bond = codes "bond"

abbrev pub side_name : Side → List ℕ
side_name Bid = codes "bid"
side_name Offer = codes "offer"
