-- A board of which one device was moved.
use Rattle.std.proofs.Common.{◌≡◌, refl, ap, sym, subst, ◌∙◌, ℕ, Bool, true, false, List, [], Some}
use Rattle.machine.proofs.Common.{slice_get, slice_set, AskingState, Boards, Range, Runs}
use Rattle.machine.proofs.Common.{get_set_same, standing}
use Rattle.board.proofs.AskingSteps.{unseen}
use Rattle.guest_memory.specs.declared.fault.MemFault.{MemFault}
use Rattle.mmio_transport.specs.Asking.{after_told}
use Rattle.board.proofs.Doing.{set_same}
use Rattle.machine.specs.Ending.{TellsIn}
use Rattle.machine.specs.Serving.{IsToWrite, Learns, QueuesStay, SameDevices, Tells}
use Rattle.machine.proofs.Common.{Still}
use Rattle.std.specs.Prelude.{All, Result, Ok, Err, OnOk, OnErr, length, ◌≤◌}
use Rattle.machine.proofs.Runs.{runs_knows}

-- the board with another device of a guest
abbrev pub moved : Boards → ℕ → AskingState → Boards
moved b guest d = record b { devices = slice_set b.devices guest d }

module _ (guest : ℕ) (b : Boards) (d d' : AskingState)
    (its : slice_get b.devices guest ≡ Some d) where
  pub moved_runs : (most : ℕ) (ps : List Range) (g h v : Bool) → (g ≡ false → h ≡ true → ps ≡ [])
      → Learns guest b g d h d'
      → Runs guest most (standing ps g v) b (standing ps h v) (moved b guest d')
  moved_runs most ps g h v none learns = runs_knows guest most ps g h v b (moved b guest d') none
      (record {
        device = d;
        its = its;
        device' = d';
        learns = learns;
        after = refl;
      })

  pub moved_same : d'.device ≡ d.device → SameDevices b (moved b guest d')
  moved_same same = unseen (λ a. a.device) b.devices guest d d' its same

  pub moved_queues : d'.device.queue ≡ d.device.queue → QueuesStay b (moved b guest d')
  moved_queues same = unseen (λ a. a.device.queue) b.devices guest d d' its same

  pub moved_at : slice_get (moved b guest d').devices guest ≡ Some d'
  moved_at = get_set_same b.devices guest d d' its

  -- what changed nothing
  pub moved_none : d' ≡ d → moved b guest d' ≡ b
  moved_none same = ap (λ (ds : List AskingState).
      (let v : Boards = record b { devices = ds } in v))
      (ap (slice_set b.devices guest) same ∙ set_same b.devices guest d its)

  -- bytes were told, or there was no memory for them
  pub told_runs : {X : Type 0} (most : ℕ) (ps : List Range) (g v : Bool) (part : Range)
      (zeros : List ℕ) (r : Result X MemFault) → IsToWrite guest b d part → length zeros ≤ part.len
      → All (λ v. v ≡ 0) zeros → OnOk r (d' ≡ after_told d part.at zeros) → OnErr r (d' ≡ d)
      → Runs guest most (standing ps g v) b (standing ps g v) (moved b guest d')
  told_runs most ps g v part zeros (Ok x) own few all ok err =
      moved_runs most ps g g v (λ off on. absurd (let a = off in let b_ = on in cc))
      (Tells g d d' part zeros own few all ok)
  told_runs most ps g v part zeros (Err e) own few all ok err =
      subst (λ x. Runs guest most (standing ps g v) b (standing ps g v) x) (sym (moved_none err))
      (Still (standing ps g v) b)

  pub told_queues : {X : Type 0} (at : ℕ) (bytes : List ℕ) (r : Result X MemFault)
      → OnOk r (d' ≡ after_told d at bytes) → OnErr r (d' ≡ d) → QueuesStay b (moved b guest d')
  told_queues at bytes (Ok x) ok err = moved_queues (ap (λ a. a.device.queue) ok)
  told_queues at bytes (Err e) ok err = moved_queues (ap (λ a. a.device.queue) err)

  pub tells_ok : {X : Type 0} (at : ℕ) (bytes : List ℕ) (r : Result X MemFault)
      → OnOk r (d' ≡ after_told d at bytes)
      → OnOk r (TellsIn guest at bytes b (moved b guest d'))
  tells_ok at bytes (Ok x) ok =
      record { device = d; its = its; after = ap (λ a. moved b guest a) ok }
  tells_ok at bytes (Err e) ok = tt

  pub tells_err : {X : Type 0} (r : Result X MemFault) → OnErr r (d' ≡ d)
      → OnErr r (moved b guest d' ≡ b)
  tells_err (Ok x) err = tt
  tells_err (Err e) err = moved_none err
