-- Whether a sync is awaited, by the store's next call.
use Rattle.std.proofs.Common.{◌≡◌, ◌∙◌, ap, sym, Bool, false}
use Rattle.machine.proofs.Common.{◌&&◌, is_none, BoardState, is_awaited}
use Rattle.disk.specs.OutboxDisk.{OutboxState}
use Rattle.flusher.specs.Store.{next_call}
use Rattle.flusher.specs.declared.progress.Call.{Call}
use Rattle.flusher.specs.declared.progress.Call.TheVariants as call
use Rattle.machine.specs.Machine.{is_sync}

module _ (b : BoardState OutboxState) (c : Call) (is : c ≡ next_call b.store.broken b.store.guests)
  where
    by_call : is_awaited b ≡ is_sync c && is_none b.store.disk.outbox.writes
    unfolding is_awaited
    by_call = ap (λ (x : Call). is_sync x && is_none b.store.disk.outbox.writes) (sym is)

    pub awaited_at_sync : (taken : Bool) → c ≡ call.Sync → taken ≡ is_none
        b.store.disk.outbox.writes
        → taken ≡ is_awaited b
    awaited_at_sync taken here told = told
        ∙ sym (by_call ∙ ap (λ (x : Call). is_sync x && is_none b.store.disk.outbox.writes) here)

    pub awaited_at_write : c ≡ call.Write → false ≡ is_awaited b
    awaited_at_write here = sym (by_call
        ∙ ap (λ (x : Call). is_sync x && is_none b.store.disk.outbox.writes) here)

    pub awaited_at_none : c ≡ call.None → false ≡ is_awaited b
    awaited_at_none here = sym (by_call
        ∙ ap (λ (x : Call). is_sync x && is_none b.store.disk.outbox.writes) here)
