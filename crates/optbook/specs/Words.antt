-- The words that are printed. Assumes nothing.
use Rattle.std.specs.Prelude.{ℕ, List, ◌++◌, Some, None, codes, decimal, Option}
use Rattle.rules.specs.declared.calls.Hours.{Hours}
use Rattle.rules.specs.declared.calls.Hours.TheVariants.{Day, Evening}
use Rattle.rules.specs.declared.calls.Phase.{Phase}
use Rattle.rules.specs.declared.calls.Phase.TheVariants.{PreOpen, Open}
use Rattle.rules.specs.declared.order.Kind.{Kind}
use Rattle.rules.specs.declared.order.Kind.TheVariants.{Limit, OnOpen}
use Rattle.rules.specs.declared.order.Lifetime.{Lifetime}
use Rattle.rules.specs.declared.order.Lifetime.TheVariants.{Plain, Gis, Gtc}
use Rattle.rules.specs.declared.order.Side.{Side}
use Rattle.rules.specs.declared.tape.TapeLine.{TapeLine}
use Rattle.rules.specs.declared.order.Side.TheVariants.{Bid, Offer}

abbrev pub side_word : Side → List ℕ
side_word Bid = codes "bid"
side_word Offer = codes "offer"

abbrev pub kind_word : Kind → List ℕ
kind_word (Limit price) = decimal price
kind_word OnOpen = codes "on-open"

abbrev pub price_word : Option ℕ → List ℕ
price_word (Some price) = decimal price
price_word None = codes "none"

abbrev pub lifetime_word : Lifetime → List ℕ
lifetime_word Plain = codes "plain"
lifetime_word Gis = codes "gis"
lifetime_word (Gtc day) = codes "gtc:" ++ decimal day

abbrev pub phase_word : Phase → List ℕ
phase_word PreOpen = codes "pre-open"
phase_word Open = codes "open"

abbrev pub hours_word : Hours → List ℕ
hours_word Day = codes "day"
hours_word Evening = codes "evening"

abbrev pub tape_word : TapeLine → List ℕ
tape_word l = codes "tape " ++ (decimal l.number ++ (codes " " ++ (side_word l.side ++ (codes " " ++ (decimal l.price ++ (codes " " ++ decimal l.lots))))))
