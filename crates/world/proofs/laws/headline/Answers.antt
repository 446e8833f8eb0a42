use Rattle.world.proofs.Runs.{headline_of_runs}
use Rattle.world.proofs.laws.headline.Goals as goal

pub returns : goal.returns
returns c = headline_of_runs
