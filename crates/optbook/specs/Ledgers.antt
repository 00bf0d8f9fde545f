-- How the lots of a book are counted. Assumes nothing.
use Rattle.std.specs.Prelude.{ℕ, ◌+◌, ◌-◌, ◌^◌, min, cond, List, ◌++◌, map, fold, codes, decimal}
use Rattle.rules.specs.declared.calls.Answer.{Answer}
use Rattle.rules.specs.declared.calls.Answer.TheVariants.{Entered, Cancelled, Reduced, Dropped, Opened, Closed}
use Rattle.rules.specs.declared.calls.Call.{Call}
use Rattle.rules.specs.declared.calls.Call.TheVariants.{EnterLimit, EnterOnOpen, EnterMarket, Reduce}
use Rattle.rules.specs.declared.order.Order.{Order}
use Rattle.rules.specs.declared.order.Side.{Side}
use Rattle.rules.specs.declared.order.Side.TheVariants.{Bid, Offer}
use Rattle.rules.specs.declared.tape.TapeLine.{TapeLine}
use Rattle.rules.specs.Sides.{is}
use Rattle.optbook.specs.declared.ledger.Ledger.{Ledger}
use Rattle.optbook.specs.declared.ledger.Balance.{Balance}

abbrev pub blank : Ledger
blank = record { accepted = 0; withdrawn = 0; bought = 0; sold = 0 }

-- A count stops at the largest number of 64 bits.
abbrev pub plus : ℕ → ℕ → ℕ
plus m n = min (m + n) (2 ^ 64 - 1)

abbrev pub volume_of : Call → ℕ
volume_of (EnterLimit e) = e.lots
volume_of (EnterOnOpen e) = e.lots
volume_of (EnterMarket e) = e.lots
volume_of call = 0

-- What a reduction that was taken took off.
abbrev pub taken_off : Call → ℕ
taken_off (Reduce id number lots) = lots
taken_off call = 0

abbrev pub withdrawn_by : Call → Answer → ℕ
withdrawn_by call (Entered e) = e.withdrawn
withdrawn_by call (Cancelled lots) = lots
withdrawn_by call (Reduced left) = taken_off call
withdrawn_by call (Dropped pair) = pair.0 + pair.1
withdrawn_by call (Closed pair) = pair.0 + pair.1
withdrawn_by call (Opened o) = o.withdrawn
withdrawn_by call answer = 0

abbrev pub accepted_by : Call → Answer → ℕ
accepted_by call (Entered e) = volume_of call
accepted_by call answer = 0

-- The lots of a line of the side, else none; a count with those of a tape.
abbrev pub line_lots : Side → TapeLine → ℕ
line_lots s l = cond (is s l.side) l.lots 0

abbrev pub traded_lots : Side → ℕ → List TapeLine → ℕ
traded_lots s count ls = fold plus count (map (line_lots s) ls)

abbrev pub noted : Ledger → Call → Answer → List TapeLine → Ledger
noted l call answer tape =
    record { accepted = plus l.accepted (accepted_by call answer); withdrawn = plus l.withdrawn (withdrawn_by call answer); bought = traded_lots Bid l.bought tape; sold = traded_lots Offer l.sold tape }

-- The lots of the orders, over those counted so far.
abbrev pub open_lots : ℕ → List Order → ℕ
open_lots n os = fold plus n (map (λ o. o.lots) os)

abbrev pub balance_text : Balance → List ℕ
balance_text b =
    codes "lots accepted " ++ (decimal b.ledger.accepted ++ (codes " traded " ++ (decimal (plus b.ledger.bought b.ledger.sold) ++ (codes " withdrawn " ++ (decimal b.ledger.withdrawn ++ (codes " open " ++ (decimal b.«open» ++ (codes " bought " ++ (decimal b.ledger.bought ++ (codes " sold " ++ decimal b.ledger.sold))))))))))
