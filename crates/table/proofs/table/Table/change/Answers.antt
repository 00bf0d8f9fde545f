use Rattle.std.proofs.Common.{get_or, set, ap, ◌∙◌, arith}
use Rattle.std.proofs.lemmas.List.{get_or_default}
use Rattle.std.proofs.lemmas.List.Edits.{map_over_more}
use Rattle.table.proofs.Fit.{fit_set, fit_read}
use Rattle.table.proofs.Open.{no_order}
use Rattle.table.proofs.table.Table.change.Goals as goal

pub loop-o-preserved : goal.loop-o-preserved
loop-o-preserved g c =
    let xs = c.deref_mut-o-items.result.now in
    let ys = c.loop-o.o-items in
    let i = c.loop-o.o-index in
    let o = get_or ys i no_order in
    let here = get_or_default ys i no_order o (omega arith) in (
      (λ f tells. ap (set ys i) (tells _ _ c.to.ensures) ∙ map_over_more f xs ys i o c.loop-o-test.true (c.loop-o.invariant.0 f tells) here),
      fit_set ys i c.to.result (c.requires.fit _ _ (fit_read ys i no_order (omega arith) c.loop-o.invariant.1) c.to.ensures) c.loop-o.invariant.1,
    )
