use Rattle.std.proofs.Common.{◌<◌, ◌≤◌, ⊎_elim, length, sym, ◌∙◌, arith}
use Rattle.std.proofs.lemmas.List.{append-nil, at_drop_all, set-get_or, take_all}
use Rattle.std.proofs.lemmas.Bool.{cases_lt}
use Rattle.rules.specs.Orders.{level}
use Rattle.rules.specs.Trades.{taken, lines}
use Rattle.table.specs.Tables.{tape_lines}
use Rattle.table.proofs.Open.{no_order}
use Rattle.table.proofs.Taking.{turn_yes, turn_no, share_left}
use Rattle.table.proofs.table.trades.take_off.Goals as goal
use Rattle.table.proofs.table.trades.take_off.Goals.{then-at, else-at}

pub unwrap-requires : goal.unwrap-requires
unwrap-requires c =
    let none = share_left c.args.level.side c.args.level.kind c.args.orders.now c.loop-o.o-index no_order c.loop-o-test.true c.args.shares.now c.loop-o.left.now c.loop-o.orders c.loop-o.invariant.0 (sym c.at.ensures ∙ c.if-at.true) in
    let some : 0 < length c.loop-o.left.now = ⊎_elim (λ lt. lt) (λ le. absurd (none (omega arith))) (cases_lt 0 (length c.loop-o.left.now)) in
    c.split_first.ensures.variant.1 some

pub trade-requires : goal.trade-requires
trade-requires c =
    let first = rw c.unwrap.ensures at c.split_first.ensures.cases in
    omega (arith, c.loop-o.invariant.1.room, first.1)

pub loop-o-preserved : goal.loop-o-preserved
loop-o-preserved c =
    let s = c.args.level.side in
    let k = c.args.level.kind in
    let os = c.args.orders.now in
    let ys = c.loop-o.orders in
    let i = c.loop-o.o-index in
    let shares = c.args.shares.now in
    let before = tape_lines c.args.tape.now in
    elim c.if-at.branch [
      | then-at w ↦
          let first = rw w.unwrap.ensures at w.split_first.ensures.cases in
          rw (w.orders-is, w.tape-is, w.left-is)
          (turn_yes s k os i no_order c.loop-o-test.true c.args.price shares c.loop-o.left.now w.unwrap.result.0.now w.unwrap.result.1.now ys before (tape_lines c.loop-o.tape) (tape_lines w.trade.new.tape) w.trade.result
          first.0 w.trade.ensures.left w.trade.ensures.written (sym c.at.ensures ∙ w.if-at.true) c.loop-o.invariant)
      | else-at w ↦
          rw (w.orders-is ∙ set-get_or ys i no_order, w.tape-is, w.left-is)
          (turn_no s k os i no_order c.loop-o-test.true c.args.price shares c.loop-o.left.now ys before (tape_lines c.loop-o.tape) (sym c.at.ensures ∙ w.if-at.false) c.loop-o.invariant)
    ]

pub returns : goal.returns
returns c =
    let s = c.args.level.side in
    let k = c.args.level.kind in
    let os = c.args.orders.now in
    let i = c.loop-o.o-index in
    let left = c.loop-o.left.now in
    let past : length os ≤ i = c.loop-o-test.false in
    let past-now : length c.loop-o.orders ≤ i = omega (arith, c.loop-o.invariant.0.long) in
    let a = at_drop_all (taken s k left) os i past in
    let b = at_drop_all (λ l. lines c.args.price (level s k l) left) os i past in
    let all = take_all i c.loop-o.orders past-now in
    let x = append-nil c.loop-o.orders in
    let y = append-nil (tape_lines c.loop-o.tape) in
    let f = c.loop-o.invariant.0.front in
    let g = c.loop-o.invariant.1.written in
    record { orders = (cc); written = (cc) }
