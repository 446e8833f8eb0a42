use Rattle.std.proofs.Common.{subst, sym}
use Rattle.board.proofs.Common.{outbox_state, IsSound}
use Rattle.board.proofs.ToldLinks.{told_linked}
use Rattle.board.specs.State.{with_devices}
use Rattle.board.proofs.board.Board+OutboxDisk.tell.Goals as goal

pub invariant_of-self : goal.invariant_of-self
invariant_of-self c =
    let i = c.self.invariant in
    let ds = c.self.inside.devices.items in
    let b = with_devices ds c.self.inside.rest in
    subst (λ r. IsSound outbox_state (with_devices ds r)) (sym c.tell.ensures)
    (record {
      config = i.config;
      bases = i.bases;
      accepted = i.accepted;
      parts = i.parts;
      linked =
          told_linked c.args.told i.config i.bases i.accepted i.parts b i.linked;
    })
