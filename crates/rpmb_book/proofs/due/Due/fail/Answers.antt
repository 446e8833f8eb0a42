use Rattle.std.proofs.Common.{◌≡◌, ◌∙◌, ap, sym, List, ℕ, arith}
use Rattle.rpmb_book.proofs.Common.{Done, done_of, closed, failed}
use Rattle.rpmb_book.specs.Guest.{break_code}
use Rattle.rpmb_book.proofs.Closing.{failed_closed, failed_within, open_done}
use Rattle.rpmb_book.proofs.due.Due.fail.Goals as goal

pub invariant_of-self : goal.invariant_of-self
invariant_of-self c = grind (arith, failed_within)

pub returns : goal.returns
returns c =
    let d = c.self.inside in
    let kind = c.args.kind in
    let same : c.fail.new.reply.items ≡ failed kind (break_code kind) (closed d.key d.reply.items) =
    c.fail.ensures ∙ ap (λ k. failed kind k d.reply.items) c.break_code.ensures
    ∙ sym (failed_closed kind (break_code kind) d.key d.reply.items c.self.invariant.1) in
    open_done d.job c.fail.new.reply.items 0 ∙ ap (λ (b : List ℕ). done_of d.job b 0) same
    ∙ ap (λ (x : Done). record x { reply = failed kind (break_code kind) x.reply; need = 0 })
    c.self.view_is
