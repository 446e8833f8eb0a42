use Rattle.rpmb_book.proofs.Living.{begins}
use Rattle.rpmb_book.proofs.laws.a_life_begins.Goals as goal

pub returns : goal.returns
returns c = begins
