use Rattle.rpmb_book.proofs.Living.{all_legal, leads_here}
use Rattle.rpmb_book.proofs.laws.a_life_leads_here.Goals as goal

pub returns-clause-state : goal.returns-clause-state
returns-clause-state c = λ first turns lives. leads_here first turns c.args.book.now lives

pub returns-clause-legal : goal.returns-clause-legal
returns-clause-legal c = λ first turns lives.
    all_legal first turns c.args.book.now lives c.what_always_holds.ensures.legal
