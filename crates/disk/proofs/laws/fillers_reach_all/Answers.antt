use Rattle.disk.proofs.Reaching.{fillers_reach_all}
use Rattle.disk.proofs.laws.fillers_reach_all.Goals as goal

pub returns : goal.returns
returns c = fillers_reach_all
