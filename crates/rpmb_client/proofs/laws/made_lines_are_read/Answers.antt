use Rattle.rpmb_client.proofs.ChainLemmas.{lines_are_read}
use Rattle.rpmb_client.proofs.laws.made_lines_are_read.Goals as goal

pub returns : goal.returns
returns c = lines_are_read
