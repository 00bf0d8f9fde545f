use Rattle.std.proofs.Common.{sym, ap, ◌∙◌, length, lit<, arith}
use Rattle.table.specs.Tables.{open_orders}
use Rattle.table.proofs.Open.{no_order}
use Rattle.table.proofs.Queues.{queue_more_yes, queue_more_no, queue_within, queue_end}
use Rattle.table.proofs.table.Table.queue.Goals as goal
use Rattle.table.proofs.table.Table.queue.Goals.{then-at, else-at}

pub push-requires : goal.push-requires
push-requires c =
    let t = c.args.self.now in
    (lit< tt, omega (arith, ap length c.loop-o.invariant, queue_within c.args.level.side c.args.level.kind c.loop-o.o-index c.deref-o-items.result.now, ap length c.deref-o-items.ensures.0, t.within, c.loop-o-test.true))

pub loop-o-preserved : goal.loop-o-preserved
loop-o-preserved c =
    let s = c.args.level.side in
    let k = c.args.level.kind in
    let os = c.deref-o-items.result.now in
    elim c.if-at.branch [
      | then-at w ↦ rw w.queue-is (w.push.ensures.items ∙ queue_more_yes s k os c.loop-o.o-index no_order c.loop-o-test.true (sym c.at.ensures ∙ w.if-at.true) c.loop-o.queue.items c.loop-o.invariant)
      | else-at w ↦ rw w.queue-is (queue_more_no s k os c.loop-o.o-index no_order c.loop-o-test.true (sym c.at.ensures ∙ w.if-at.false) c.loop-o.queue.items c.loop-o.invariant)
    ]

pub returns : goal.returns
returns c = queue_end c.args.level.side c.args.level.kind (open_orders c.args.self.now) c.deref-o-items.result.now c.loop-o.o-index c.loop-o.queue.items c.deref-o-items.ensures.0 c.loop-o-test.false c.loop-o.invariant
