use Rattle.std.proofs.Common.{subst}
use Rattle.board.proofs.Common.{AdvancesUnder, answer_by}
use Rattle.board.specs.State.{over}
use Rattle.board.specs.declared.step.StepFault.TheVariants as fault
use Rattle.board.proofs.Lifting.{beside, advances}
use Rattle.board.proofs.rest.Rest.advance.Goals as goal

pub returns : goal.returns
returns g c =
    let i = c.self.inside in
    subst (λ v. AdvancesUnder g.D.Disk.state g.D.Disk.makes v.report
    (answer_by fault.Store c.advance.result) v
    (beside (λ d. d) (λ t. i.tallies.items) (λ j. i.jobs.items) (λ r. i.dones.items)
    (over i.book c.advance.new.self))) c.self.view_is
    (advances (λ d. d) (λ t. i.tallies.items) (λ j. i.jobs.items) (λ r. i.dones.items)
    (answer_by fault.Store c.advance.result) (over i.book i.keeper)
    (over i.book c.advance.new.self) g.D.Disk.state g.D.Disk.makes i.keeper.report
    (c.advance.ensures.advances i.book))
