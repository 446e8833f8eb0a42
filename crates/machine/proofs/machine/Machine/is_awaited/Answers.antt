use Rattle.std.proofs.Common.{ap, ◌∙◌}
use Rattle.flusher.specs.Store.{next_call}
use Rattle.machine.proofs.Common.{is_none, is_awaited}
use Rattle.machine.proofs.Awaited.{awaited_at_none, awaited_at_sync, awaited_at_write}
use Rattle.machine.proofs.machine.Machine.is_awaited.Goals as goal

pub returns-in-Sync : goal.returns-in-Sync
returns-in-Sync c =
    awaited_at_sync c.self.inside.board.rest _
    (c.next_call.ensures ∙ ap (λ r. next_call r.store.broken r.store.guests) c.rest.ensures) _
    c.in-Sync.is
    (c.is_taken.ensures ∙ ap (λ d. is_none d.outbox.writes) (c.disk.ensures
    ∙ ap (λ r. r.store.disk) c.rest-in-Sync.ensures))
    ∙ ap (λ m. is_awaited m.board.rest) c.self.view_is

pub returns-in-Write : goal.returns-in-Write
returns-in-Write c =
    awaited_at_write c.self.inside.board.rest _
    (c.next_call.ensures ∙ ap (λ r. next_call r.store.broken r.store.guests) c.rest.ensures)
    c.in-Write.is
    ∙ ap (λ m. is_awaited m.board.rest) c.self.view_is

pub returns-in-None : goal.returns-in-None
returns-in-None c =
    awaited_at_none c.self.inside.board.rest _
    (c.next_call.ensures ∙ ap (λ r. next_call r.store.broken r.store.guests) c.rest.ensures)
    c.in-None.is
    ∙ ap (λ m. is_awaited m.board.rest) c.self.view_is
