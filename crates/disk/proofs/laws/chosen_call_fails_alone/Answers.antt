use Rattle.disk.proofs.Choosing.{chosen_call_fails_alone}
use Rattle.disk.proofs.laws.chosen_call_fails_alone.Goals as goal

pub returns : goal.returns
returns c = chosen_call_fails_alone
