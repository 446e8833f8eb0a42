use Rattle.std.proofs.Common.{arith}
use Rattle.rpmb_book.proofs.Common.{is_some, due_of, Break, Collect}
use Rattle.rpmb_book.specs.Book.{state}
use Rattle.rpmb_book.proofs.Living.{one_if_not, one_if_so, room_goes_on, submit_goes_on}
use Rattle.rpmb_book.proofs.laws.a_life_goes_on.Goals as goal

pub returns-clause-submit : goal.returns-clause-submit
returns-clause-submit c = λ job.
    submit_goes_on c.args.book.now job c.what_always_holds.ensures.legal

pub returns-clause-take : goal.returns-clause-take
returns-clause-take c = grind (arith, one_if_so)

pub returns-clause-settle : goal.returns-clause-settle
returns-clause-settle c = grind (arith, one_if_so)

pub returns-clause-break_off : goal.returns-clause-break_off
returns-clause-break_off c = one_if_not (state c.args.book.now).broken c.args.book.now Break

pub returns-clause-collect : goal.returns-clause-collect
returns-clause-collect c = λ n. one_if_so (is_some (due_of c.args.book.now n)) c.args.book.now
    (Collect n)

pub returns-clause-room : goal.returns-clause-room
returns-clause-room c = room_goes_on c.args.book.now c.what_always_holds.ensures.legal
