use Rattle.std.proofs.Common.{subst, sym}
use Rattle.board.proofs.Common.{outbox_state, IsSound}
use Rattle.board.specs.Asking.{board_of}
use Rattle.board.proofs.AskingSteps.{asked}
use Rattle.board.proofs.ToldLinks.{told_linked}
use Rattle.board.proofs.asking.AskingBoard+OutboxDisk.tell.Goals as goal

pub invariant_of-self : goal.invariant_of-self
invariant_of-self c =
    let i = c.self.invariant in
    let ds = c.self.inside.devices.items in
    let b = board_of (asked ds c.self.inside.rest) in
    subst (λ r. IsSound outbox_state (board_of (asked ds r))) (sym c.tell.ensures)
    (record {
      config = i.config;
      bases = i.bases;
      accepted = i.accepted;
      parts = i.parts;
      linked = told_linked c.args.told i.config i.bases i.accepted i.parts b i.linked;
    })
