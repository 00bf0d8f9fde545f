use Rattle.std.proofs.Common.{◌∙◌, eqb, rules, tests}
use Rattle.std.proofs.lemmas.Iterator.{YieldsList-from_slice}
use Rattle.std.proofs.lemmas.Iterator.Search.{find_from_yields_List}
use Rattle.table.specs.Tables.{open_orders}
use Rattle.table.proofs.table.Table.find.Goals as goal

pub returns : goal.returns
returns c =
    c.copied.ensures
    ∙ find_from_yields_List (λ o. eqb o.number c.args.number) _ _ _ c.find.ensures.ran (YieldsList-from_slice (open_orders c.args.self.now) cc) (λ x b q k. search (rules, tests))
