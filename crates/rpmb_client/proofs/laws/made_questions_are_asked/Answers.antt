use Rattle.rpmb_client.proofs.AskLemmas.{made_counter, made_result}
use Rattle.rpmb_client.proofs.laws.made_questions_are_asked.Goals as goal

pub returns : goal.returns
returns c = record { counter = made_counter; outcome = made_result }
