-- An entry that meets an open book.
use Rattle.std.specs.Prelude.{ℕ, ◌-◌, min, Bool, true, false, cond, ◌&&◌, List, [], ◌∷◌, ◌++◌, map, Some, None, filter, Option, nat_le, nat_lt}
use Rattle.policy.specs.Fair.{Rule}
use Rattle.rules.specs.declared.order.Side.{Side}
use Rattle.rules.specs.declared.order.Kind.TheVariants.{Limit}
use Rattle.rules.specs.declared.order.Order.{Order}
use Rattle.rules.specs.declared.tape.TapeLine.{TapeLine}
use Rattle.rules.specs.declared.tape.Terms.TheVariants.{Entry}
use Rattle.rules.specs.declared.calls.Condition.{Condition}
use Rattle.rules.specs.declared.incoming.Incoming.{Incoming}
use Rattle.rules.specs.declared.calls.Condition.TheVariants.{Unconditional, Ic, Cv, Mv}
use Rattle.rules.specs.Sides.{other, as_good_as}
use Rattle.rules.specs.Orders.{limits}
use Rattle.rules.specs.Trades.{Step, serve, ranked}

-- Whether an order of the side may trade at the price x of a resting order.
abbrev pub accepts : Side → Option ℕ → ℕ → Bool
accepts s None x = true
accepts s (Some q) x = as_good_as (other s) q x

-- The lots that the entry could trade: those of the other side at prices it accepts.
abbrev pub reach : Incoming → List Order → ℕ
reach e os = limits (other e.side) (accepts e.side e.limit) os

-- Whether the condition is met by the lots that could trade.
abbrev pub enough : Condition → ℕ → ℕ → Bool
enough Unconditional lots n = true
enough Ic lots n = true
enough Cv lots n = nat_le lots n
enough (Mv minimum) lots n = nat_le minimum n

-- The entry meets the other side level by level, best first, at the resting price.
abbrev pub met : Rule → Incoming → List Order → Step
met rule e os = serve rule (Entry e.number) (other e.side) e.lots (map Limit (filter (accepts e.side e.limit) (ranked (other e.side) os))) (record { orders = os; tape = [] })

-- Whether the untraded rest of an entry stays open: not that of a market order, nor under IC.
abbrev pub rests : Option ℕ → Condition → Bool
rests None c = false
rests (Some q) Unconditional = true
rests (Some q) Ic = false
rests (Some q) Cv = true
rests (Some q) (Mv minimum) = true

-- The rest as an open order, if there is any.
abbrev pub resting : Incoming → Option ℕ → ℕ → List Order
resting e None n = []
resting e (Some q) n = cond (rests (Some q) e.condition && nat_lt 0 n) (record { number = e.number; id = e.id; side = e.side; kind = Limit q; lots = n; lifetime = e.lifetime } ∷ []) []

-- What becomes of the entry's lots, of the open orders and of the tape.
pub record Matched : Type 0 where
  pub orders : List Order
  pub tape : List TapeLine
  pub traded : ℕ
  pub withdrawn : ℕ
  pub «open» : ℕ

-- Counted first: where the condition is not met, all lots are withdrawn untraded. Else the lesser of the volume and the
-- lots within reach trades, and the rest stays open or is withdrawn.
abbrev pub matched : Rule → Incoming → List Order → Matched
matched rule e os =
    let n = min e.lots (reach e os) in
    cond (enough e.condition e.lots (reach e os))
    (record {
      orders = (met rule e os).orders ++ resting e e.limit (e.lots - n);
      tape = (met rule e os).tape;
      traded = n;
      withdrawn = cond (rests e.limit e.condition) 0 (e.lots - n);
      «open» = cond (rests e.limit e.condition) (e.lots - n) 0;
    })
    (record { orders = os; tape = []; traded = 0; withdrawn = e.lots; «open» = 0 })
