use Rattle.rpmb_client.proofs.WriteLemmas.{made_writes}
use Rattle.rpmb_client.proofs.laws.made_writes_are_accepted.Goals as goal

pub returns : goal.returns
returns c = made_writes
