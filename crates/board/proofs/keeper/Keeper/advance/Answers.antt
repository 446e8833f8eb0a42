use Rattle.std.proofs.Common.{subst}
use Rattle.board.proofs.Common.{report_seen, AdvancesUnder, answer_by}
use Rattle.board.specs.State.{over}
use Rattle.board.specs.declared.step.StepFault.TheVariants as fault
use Rattle.board.proofs.Doing.{advances_of, none_seen}
use Rattle.board.proofs.keeper.Keeper.advance.Goals as goal

pub returns-clause-advances : goal.returns-clause-advances
returns-clause-advances g c book =
    let a = c.advance-made.ensures in
    let i = c.self.inside in
    subst (λ v. AdvancesUnder g.D.Disk.state g.D.Disk.makes v.report
    (answer_by fault.Store c.note.result) (over book v)
    (over book (record {
      shares = i.shares;
      store = c.advance-made.new.self;
      intents = i.intents.items;
      report = report_seen c.advance-made.new.self.guests c.note.new.report;
    }))) c.self.view_is
    (advances_of g.D.Disk.state g.D.Disk.makes _ c.advance-made.result c.advance-made.new.self
    (answer_by fault.Store c.note.result)
    (report_seen c.advance-made.new.self.guests c.note.new.report)
    (none_seen i.store.guests i.report c.is_some.result c.is_some.ensures c.if-is_some.false)
    a.round a.answers.refused a.answers.cause a.moves a.any_moment a.held a.front
    c.note.ensures.answer c.note.ensures.report)
