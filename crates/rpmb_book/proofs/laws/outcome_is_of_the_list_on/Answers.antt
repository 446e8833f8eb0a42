use Rattle.rpmb_book.proofs.OutcomeLemmas.{alone, in_parts, of_the_list_on}
use Rattle.rpmb_book.proofs.laws.outcome_is_of_the_list_on.Goals as goal

pub returns : goal.returns
returns c = record { on = of_the_list_on; alone = alone; parts = in_parts }
