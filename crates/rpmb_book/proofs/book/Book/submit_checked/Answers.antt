use Rattle.std.proofs.Common.{◌∙◌, ◌+◌, ap, length, arith}
use Rattle.rpmb_book.proofs.Common.{roomy}
use Rattle.rpmb_book.proofs.Rolling.{count_one, rolls, named_by}
use Rattle.rpmb_book.proofs.book.Book.submit_checked.Goals as goal

pub answer-requires-clause-plan : goal.answer-requires-clause-plan
answer-requires-clause-plan c = grind (arith, rolls)

pub answer-requires-clause-failure : goal.answer-requires-clause-failure
answer-requires-clause-failure c = grind (arith, rolls)

pub returns-clause-made : goal.returns-clause-made
returns-clause-made c = grind (arith, rolls)

pub returns-clause-named : goal.returns-clause-named
returns-clause-named c =
    c.answer.ensures.named ∙ named_by c.args.self.now c.make_room.new.self
    c.parts-job.result.0.guest (c.make_room.ensures.made ∙ ap roomy c.plan.ensures.same)
    ∙ ap (λ job. record {
      life = c.args.self.now.life;
      guest = job.guest;
      number =
          c.args.self.now.folded + length c.args.self.now.history;
    }) c.parts-job.ensures.job

pub returns-clause-total : goal.returns-clause-total
returns-clause-total c = grind (arith, count_one)
