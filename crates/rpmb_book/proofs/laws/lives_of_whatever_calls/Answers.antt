use Rattle.rpmb_book.proofs.Calling.{after_jobs_by_calls, alone_by_calls, lived_by_calls}
use Rattle.rpmb_book.proofs.Calling.{outcome_by_calls}
use Rattle.rpmb_book.proofs.laws.lives_of_whatever_calls.Goals as goal

pub returns : goal.returns
returns c = record {
  lives = lived_by_calls;
  alone = alone_by_calls;
  outcome = outcome_by_calls;
  after = after_jobs_by_calls;
}
