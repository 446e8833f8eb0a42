use Rattle.world.proofs.Lasting.{in_order_of_runs}
use Rattle.world.proofs.laws.replies_in_order.Goals as goal

pub returns : goal.returns
returns c = in_order_of_runs
