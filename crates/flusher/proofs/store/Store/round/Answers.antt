use Rattle.std.proofs.Common.{◌≡◌, ◌∙◌, ℕ, ◌++◌, List, length, take, drop, ap, sym, arith}
use Rattle.std.proofs.Common.{length-set}
use Rattle.flusher.proofs.Common.{common_steps}
use Rattle.flusher.proofs.store.Store.round.Goals as goal

-- the guests as the store has them, once a call that was lent them gave them back
put_back : {A : Type 0} (n : ℕ) (new lent items : List A) → lent ≡ items → length lent ≡ n
    → length new ≡ length lent → take n (new ++ drop (length new) items) ≡ new
put_back n new lent items is whole same = grind (arith, common_steps)

pub invariant_of-self : goal.invariant_of-self
invariant_of-self g c =
    let wrote = c.write_round-wrote.ensures in
    let whole = wrote.buffer ∙ sym (ap length c.deref_mut.ensures.value ∙ c.self.invariant.0) in
    rw (put_back _ _ _ _ c.deref_mut.ensures.value c.deref_mut.ensures.len whole)
    (rw (
      put_back _ _ _ _ c.deref_mut-in-WriteOf.ensures.value c.deref_mut-in-WriteOf.ensures.len
          (ap length wrote.wrote.slots ∙ length-set _ _ _),
      wrote.room,
    )
    (wrote.buffer, omega arith, wrote.fits))

pub invariant_of-self-in-SyncAll : goal.invariant_of-self-in-SyncAll
invariant_of-self-in-SyncAll g c =
    let synced = c.sync_round-synced.ensures in
    rw (
      put_back _ _ _ _ c.deref_mut-in-SyncAll.ensures.value c.deref_mut-in-SyncAll.ensures.len
          synced.same,
      synced.room,
    )
    (c.self.invariant.0, omega arith, synced.fits)

pub returns-in-WriteOf-clause-fits : goal.returns-in-WriteOf-clause-fits
returns-in-WriteOf-clause-fits g c =
    let wrote = c.write_round-wrote.ensures in
    rw (
      put_back _ _ _ _ c.deref_mut-in-WriteOf.ensures.value c.deref_mut-in-WriteOf.ensures.len
          (ap length wrote.wrote.slots ∙ length-set _ _ _),
      wrote.room,
    ) wrote.fits

pub returns-in-SyncAll-clause-fits : goal.returns-in-SyncAll-clause-fits
returns-in-SyncAll-clause-fits g c =
    let synced = c.sync_round-synced.ensures in
    rw (
      put_back _ _ _ _ c.deref_mut-in-SyncAll.ensures.value c.deref_mut-in-SyncAll.ensures.len
          synced.same,
      synced.room,
    ) synced.fits

pub returns-in-WriteOf-clause-round : goal.returns-in-WriteOf-clause-round
returns-in-WriteOf-clause-round g c = grind (arith, common_steps)

pub returns-in-SyncAll-clause-round : goal.returns-in-SyncAll-clause-round
returns-in-SyncAll-clause-round g c = grind (arith, common_steps)
