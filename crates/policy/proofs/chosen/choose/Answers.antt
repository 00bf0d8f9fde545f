use Rattle.std.proofs.Common.{◌≡◌, ap, ◌∙◌, arith}
use Rattle.policy.specs.Chosen.{laid, chosen_rule}
use Rattle.policy.specs.Choosing.{laid_nested}
use Rattle.policy.proofs.chosen.choose.Goals as goal

pub returns : goal.returns
returns c =
    let base = c.args.base in
    let fs = c.args.favours.now in
    let is : c.lay.result ≡ laid (laid (laid (laid base fs 3) fs 2) fs 1) fs 0 = cc in
    (omega arith, ap chosen_rule is ∙ laid_nested base fs (omega arith))
