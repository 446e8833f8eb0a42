use Rattle.rpmb_book.proofs.Living.{lived}
use Rattle.rpmb_book.proofs.OutcomeLemmas.{of_the_list_on}
use Rattle.rpmb_book.proofs.laws.outcome_over_a_life.Goals as goal

pub returns : goal.returns
returns c = λ g first x y turns lives at last.
    of_the_list_on g first x y turns at (lived g first turns c.args.book.now y lives last)
