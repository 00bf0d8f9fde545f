use Rattle.rules.proofs.Kept.{volume_is_largest}
use Rattle.rules.proofs.laws.volume_is_largest.Goals as goal

pub returns : goal.returns
returns c = volume_is_largest
