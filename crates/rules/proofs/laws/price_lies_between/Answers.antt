use Rattle.rules.proofs.Kept.{price_lies_between}
use Rattle.rules.proofs.laws.price_lies_between.Goals as goal

pub returns : goal.returns
returns c = price_lies_between
