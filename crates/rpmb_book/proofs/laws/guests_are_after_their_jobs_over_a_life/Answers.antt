use Rattle.rpmb_book.proofs.AskedLemmas.{after_its_jobs}
use Rattle.rpmb_book.proofs.Living.{lived}
use Rattle.rpmb_book.proofs.laws.guests_are_after_their_jobs_over_a_life.Goals as goal

pub returns : goal.returns
returns c = λ g first x y turns lives at last.
    after_its_jobs g first x y turns at (lived g first turns c.args.book.now y lives last)
