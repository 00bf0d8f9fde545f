use Rattle.rules.proofs.Kept.{fill_keeps_lots}
use Rattle.rules.proofs.laws.fill_keeps_lots.Goals as goal

pub returns : goal.returns
returns c = fill_keeps_lots
