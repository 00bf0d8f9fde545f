use Rattle.std.proofs.Common.{◌≡◌, ℕ, List, length, get_or, set, Some, None, Option, refl, sym, ◌∙◌, ap, arith}
use Rattle.std.specs.List.{refill, position}
use Rattle.std.specs.Option.{IsSome}
use Rattle.std.proofs.lemmas.List.{length-set}
use Rattle.rules.specs.declared.order.Order.{Order}
use Rattle.rules.specs.Trades.{less}
use Rattle.rules.specs.Steps.{reduced}
use Rattle.table.specs.Fits.{all_fit}
use Rattle.table.specs.Tables.{open_orders}
use Rattle.table.proofs.Fit.{fit_reduced}
use Rattle.table.proofs.Open.{no_order, numbered, reduced_at, reduced_length, some_lots, refilled}
use Rattle.table.proofs.table.Table.reduce.Goals as goal

-- The list after the write: ys is the list as it was lent, and o what is put at the place.
written : (n k at : ℕ) (os ys : List Order) (o : Order) → position (numbered n) os ≡ Some at → ys ≡ os → o ≡ less (get_or os at no_order) k → refill (length os) os (set ys at o) ≡ reduced n k os
written n k at os ys o found e read =
    refilled os (set ys at o) (length-set ys at o ∙ ap length e)
    ∙ (ap (λ (l : List Order). set l at o) e ∙ (ap (set os at) read ∙ sym (reduced_at n k os at found)))

some_place : (o : Option ℕ) → (o ≡ None → ⊥) → IsSome o
some_place None h = absurd (h refl)
some_place (Some x) h = refl

pub unwrap-at-requires : goal.unwrap-at-requires
unwrap-at-requires c = some_place c.place.result (λ e. some_lots c.args.number c.args.lots (open_orders c.args.self.now) c.requires (sym c.place.ensures ∙ e))

pub returns : goal.returns
returns c =
    let os = open_orders c.args.self.now in
    written c.args.number c.args.lots c.unwrap-at.result os c.deref_mut.result.now c.less.result (sym c.place.ensures ∙ c.unwrap-at.ensures) c.deref_mut.ensures.value
    (c.less.ensures ∙ ap (λ (l : List Order). less (get_or l c.unwrap-at.result no_order) c.args.lots) c.deref.ensures.0)

pub invariant_of-self : goal.invariant_of-self
invariant_of-self c =
    let t = c.args.self.now in
    let os = open_orders t in
    let is = written c.args.number c.args.lots c.unwrap-at.result os c.deref_mut.result.now c.less.result (sym c.place.ensures ∙ c.unwrap-at.ensures) c.deref_mut.ensures.value
    (c.less.ensures ∙ ap (λ (l : List Order). less (get_or l c.unwrap-at.result no_order) c.args.lots) c.deref.ensures.0) in
    record {
      within = omega (arith, ap length is, reduced_length c.args.number c.args.lots os, t.within);
      fit = ap all_fit is ∙ fit_reduced c.args.number c.args.lots os c.requires t.fit;
    }
