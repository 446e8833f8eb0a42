use Rattle.machine.proofs.Remaining.{comes_to_an_end}
use Rattle.machine.proofs.laws.serve_comes_to_an_end.Goals as goal

pub returns : goal.returns
returns c = comes_to_an_end
