-- A board whose disk was told something between two steps is tied as before.
use Rattle.std.proofs.Common.{◌≡◌, ℕ, true, List, refl, subst, sym, arith}
use Rattle.board.proofs.Common.{Request, Partition, GuestConfig, CutState, DiskState, IsHeld}
use Rattle.board.proofs.Common.{cut_state, outbox_state, Part, IsLinkedBoard, BoardState}
use Rattle.disk.specs.OutboxDisk.{OutboxState, after_told}
use Rattle.disk.specs.declared.outbox_disk.Told.{Told}
use Rattle.disk.specs.declared.outbox_disk.Told.TheVariants.{Taken, Synced, Failed, Opened}
use Rattle.board.specs.Telling.{choosing_call, telling}

-- what is told changes nothing of what a stop leaves
told_shows : (told : Told) (d : OutboxState) → outbox_state (after_told told d) ≡ outbox_state d
unfolding after_told
told_shows Taken d = refl
told_shows Synced d = refl
told_shows Failed d = refl
told_shows Opened d = refl

pub told_linked : (told : Told) (config : List GuestConfig) (bases : ℕ → Partition) (accepted : ℕ
    → List Request) (parts : ℕ → Part) (b : BoardState OutboxState)
    → IsLinkedBoard outbox_state config bases accepted parts b
    → IsLinkedBoard outbox_state config bases accepted parts (telling told b)
told_linked told config bases accepted parts b l = record {
  each = l.each;
  kept = λ known. (let same = told_shows told b.store.disk in
      subst (λ (s : DiskState). IsHeld parts b.store.guests b.store.broken s) (sym same)
      (l.kept (subst (λ (s : DiskState). s.faithful ≡ true) same known)));
  many = l.many;
  held = l.held;
  counted = l.counted;
  places = (let p = l.places in record {
    devices = p.devices;
    jobs = p.jobs;
    dones = p.dones;
    intents = p.intents;
  });
  reported = l.reported;
}

pub chosen_linked : (k : ℕ) (config : List GuestConfig) (bases : ℕ → Partition) (accepted : ℕ
    → List Request) (parts : ℕ → Part) (b : BoardState CutState)
    → IsLinkedBoard cut_state config bases accepted parts b
    → IsLinkedBoard cut_state config bases accepted parts (choosing_call k b)
chosen_linked k config bases accepted parts b l = grind arith
