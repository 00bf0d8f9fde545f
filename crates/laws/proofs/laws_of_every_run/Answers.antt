use Rattle.laws.proofs.Every.{laws_of_every_run}
use Rattle.laws.proofs.laws_of_every_run.Goals as goal

pub returns : goal.returns
returns c = laws_of_every_run
