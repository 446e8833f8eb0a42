use Rattle.std.proofs.Common.{◌∷◌, ap, sym, ◌∙◌, rules}
use Rattle.std.specs.Prelude.{slice_get}
use Rattle.workers.proofs.Flowing.{flows_first, flows_same, last_pushed}
use Rattle.rpmb_book.specs.Book.{guest_of, is_full}
use Rattle.workers.proofs.Receipts.{is_own, own_pushed}
use Rattle.workers.proofs.backlog.Backlog.submit.Goals as goal

pub returns-in-Ok-clause-jobs : goal.returns-in-Ok-clause-jobs
returns-in-Ok-clause-jobs g c = flows_first _ c.in-Some.job _ (sym c.try_reserve.ensures.items
    ∙ c.in-Some.ensures.items)

pub returns-in-Ok-clause-receipt : goal.returns-in-Ok-clause-receipt
returns-in-Ok-clause-receipt g c r there is =
    let last = last_pushed c.reserve.new.self.items c.in-Ok.receipt r _ (search rules)
    (sym (ap (λ xs. slice_get xs c.args.self.now.tally.count) c.push_reserved.ensures.items)
    ∙ there) ∙ c.in-Ok.ensures.named in
    (ap (λ x. x.life) last, ap (λ x. x.number) last)

pub returns-in-Busy-clause-jobs : goal.returns-in-Busy-clause-jobs
returns-in-Busy-clause-jobs g c = flows_same _ _ (c.push_front_reserved.ensures.items
    ∙ ap (λ j. j ∷ c.pop_front.new.self.items) c.in-Err.ensures.refused.0
    ∙ sym c.in-Some.ensures.items ∙ c.try_reserve.ensures.items)

pub returns-else-is_spent-clause-jobs : goal.returns-else-is_spent-clause-jobs
returns-else-is_spent-clause-jobs g c = flows_same _ _ (c.push_front_reserved.ensures.items
    ∙ ap (λ j. j ∷ c.pop_front.new.self.items) c.in-Err.ensures.refused.0
    ∙ sym c.in-Some.ensures.items ∙ c.try_reserve.ensures.items)

pub invariant_of-self-in-Ok-clause-own : goal.invariant_of-self-in-Ok-clause-own
invariant_of-self-in-Ok-clause-own g c =
    let b = c.args.desk.now in
    let allowed = is_own (is_full b) c.args.self.now.tally c.in-Some.job
    (guest_of b c.in-Some.job.guest) c.in-Ok.ensures.made.0 in
    let same = ap (λ t. t.guest) c.in-Ok.ensures.counted.1 in
    own_pushed c.submit.new.tally.guest c.reserve.new.self.items c.in-Ok.receipt
    c.push_reserved.new.self.items
    (search rules) (ap (λ r. r.guest) c.in-Ok.ensures.named ∙ allowed ∙ sym same)
    c.push_reserved.ensures.items
