use Rattle.std.proofs.Common.{sym, ◌∙◌, ap, arith}
use Rattle.table.specs.Fits.{all_fit}
use Rattle.table.specs.Tables.{open_orders}
use Rattle.table.proofs.Fit.{fit_without}
use Rattle.table.proofs.Open.{without_at, without_none}
use Rattle.table.proofs.table.Table.remove.Goals as goal

pub invariant_of-self : goal.invariant_of-self
invariant_of-self c =
    let os = open_orders c.args.self.now in
    let without = without_at c.args.number os c.in-Some.at (sym c.place.ensures ∙ c.in-Some.is) in
    record {
      within = omega (arith, c.remove.ensures.len, c.args.self.now.within);
      fit = ap all_fit (c.remove.ensures.items ∙ sym without) ∙ fit_without c.args.number os c.args.self.now.fit;
    }

pub returns-in-Some : goal.returns-in-Some
returns-in-Some c =
    c.remove.ensures.items ∙ sym (without_at c.args.number (open_orders c.args.self.now) c.in-Some.at (sym c.place.ensures ∙ c.in-Some.is))

pub returns-in_default : goal.returns-in_default
returns-in_default c = sym (without_none c.args.number (open_orders c.args.self.now) (sym c.place.ensures ∙ c.in_default.is))
