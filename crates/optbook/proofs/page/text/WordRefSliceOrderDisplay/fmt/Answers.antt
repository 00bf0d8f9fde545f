use Rattle.std.proofs.Common.{true, refl, ap}
use Rattle.std.proofs.Output.{has_written_of_eq}
use Rattle.std.proofs.lemmas.List.{take_all}
use Rattle.table.proofs.Open.{no_order}
use Rattle.optbook.specs.Pages.{order_text, orders_text}
use Rattle.optbook.proofs.Printing.{printed_more}
use Rattle.optbook.proofs.page.text.WordRefSliceOrderDisplay.fmt.Goals as goal

pub loop-order-preserved : goal.loop-order-preserved
loop-order-preserved g c plain =
    let sofar = c.loop-order.invariant plain in
    printed_more g.W.Write.write_str_gives order_text c.args.self.now.0.now no_order c.loop-order.order-index c.args.f.now c.loop-order.f c.write.new.self c.loop-order-test.true sofar (c.in_ok-write.ensures.writes sofar.plain (refl {a = true}))

pub returns-clause-writes : goal.returns-clause-writes
returns-clause-writes g c plain ok =
    has_written_of_eq g.W.Write.write_str_gives c.args.f.now _ _ c.loop-order.f (ap orders_text (take_all _ _ c.loop-order-test.false)) (c.loop-order.invariant plain)
