use Rattle.rpmb_book.proofs.IsolationLemmas.{as_alone}
use Rattle.rpmb_book.proofs.Living.{all_legal}
use Rattle.rpmb_book.proofs.laws.told_as_alone_over_a_life.Goals as goal

pub returns : goal.returns
returns c = λ g first x turns lives whole lasts at.
    as_alone g first x turns whole lasts at
    (all_legal first turns c.args.book.now lives c.what_always_holds.ensures.legal)
