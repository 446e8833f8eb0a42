use Rattle.rpmb_client.proofs.AskLemmas.{made_reads}
use Rattle.rpmb_client.proofs.laws.made_reads_succeed.Goals as goal

pub returns : goal.returns
returns c = made_reads
