use Rattle.std.proofs.Common.{◌+◌, length, get_or, sym, ap, ◌∙◌, arith}
use Rattle.table.specs.Fits.{all_fit}
use Rattle.table.proofs.Fit.{lots_fit, fit_read}
use Rattle.table.proofs.Open.{no_order}
use Rattle.table.proofs.Sums.{held_yes, held_no}
use Rattle.table.proofs.table.Table.held.Goals as goal
use Rattle.table.proofs.table.Table.held.Goals.{then-passes, else-passes}

pub overflow_add-sum : goal.overflow_add-sum
overflow_add-sum g c =
    let xs = c.deref-o-items.result.now in
    let few = lots_fit (get_or xs c.loop-o.o-index no_order) (fit_read xs c.loop-o.o-index no_order c.loop-o-test.true (ap all_fit c.deref-o-items.ensures.0 ∙ c.args.self.now.fit)) in
    elim c.if-passes.branch [
      | then-passes w ↦ omega (arith, few.1, w.sum-is, c.loop-o.invariant.1, ap length c.deref-o-items.ensures.0, c.args.self.now.within)
      | else-passes w ↦ omega (arith, w.sum-is, c.loop-o.invariant.1, ap length c.deref-o-items.ensures.0, c.args.self.now.within)
    ]

pub loop-o-preserved : goal.loop-o-preserved
loop-o-preserved g c =
    let xs = c.deref-o-items.result.now in
    let i = c.loop-o.o-index in
    let few = lots_fit (get_or xs i no_order) (fit_read xs i no_order c.loop-o-test.true (ap all_fit c.deref-o-items.ensures.0 ∙ c.args.self.now.fit)) in
    elim c.if-passes.branch [
      | then-passes w ↦ (
        (λ test tells. held_yes test xs i no_order c.loop-o-test.true c.loop-o.sum (c.loop-o.sum + c.if-passes.sum) (sym (tells _ _ c.passes.ensures) ∙ w.if-passes.true) (omega (arith, w.sum-is)) (c.loop-o.invariant.0 test tells)),
        omega (arith, few.1, w.sum-is, c.loop-o.invariant.1),
      )
      | else-passes w ↦ (
        (λ test tells. held_no test xs i no_order c.loop-o-test.true c.loop-o.sum (c.loop-o.sum + c.if-passes.sum) (sym (tells _ _ c.passes.ensures) ∙ w.if-passes.false) (omega (arith, w.sum-is)) (c.loop-o.invariant.0 test tells)),
        omega (arith, w.sum-is, c.loop-o.invariant.1),
      )
    ]
