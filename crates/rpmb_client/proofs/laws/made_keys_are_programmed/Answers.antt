use Rattle.rpmb_client.proofs.AskLemmas.{programs_key}
use Rattle.rpmb_client.proofs.laws.made_keys_are_programmed.Goals as goal

pub returns : goal.returns
returns c = programs_key
