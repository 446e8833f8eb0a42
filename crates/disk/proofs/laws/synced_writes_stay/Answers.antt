use Rattle.disk.proofs.Stopping.{synced_writes_stay}
use Rattle.disk.proofs.laws.synced_writes_stay.Goals as goal

pub returns : goal.returns
returns c = synced_writes_stay
