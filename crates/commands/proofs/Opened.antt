-- The opening of an image for a run, and the last board of its host.
use Rattle.std.proofs.Common.{◌≡◌, ◌⊎◌, inl, inr, ℕ, zero, suc, true, List, [], ◌∷◌, Some, Result}
use Rattle.std.proofs.Common.{Err, length, map, refl, ap, ap₂, sym, subst, ◌∙◌, arith}
use Rattle.commands.proofs.Common.{is_ok, not, slice_get, length-map, Partition, Request}
use Rattle.commands.proofs.Common.{GuestConfig, DiskCall, DiskState, HasRisen, Within}
use Rattle.commands.proofs.Common.{capacities_of, region_at, part_of, AnswersFault, Untouched}
use Rattle.commands.proofs.Common.{OpenFault, GuestCore, GuestState, StaysLinked, Begins, bases_of}
use Rattle.commands.proofs.Common.{BoardState, guests, HostState, Moves, runner_of, OpeningEnds}
use Rattle.commands.proofs.Common.{fault_of_image, AreOf, IsOpened, MovesTo, Fault}
use Rattle.disk.specs.declared.disk.DiskFault.{DiskFault}
use Rattle.guest_driver.specs.Config.{SetupState}
use Rattle.intent_slots.specs.Recovered as recovered
use Rattle.recovery.specs.Opening.{IsImage}
use Rattle.recovery.specs.declared.fault.OpenFault.TheVariants as image
use Rattle.rpmb_book.specs.Replay.{fresh_guests}
use Rattle.rpmb_book.proofs.OpeningLemmas.{uncounted}
use Rattle.board.specs.Opening.{Stands}
use Rattle.host.specs.Finishing.{Finishes as HostFinishes}
use Rattle.host.specs.Opening.{IsFirstHost}
use Rattle.commands.specs.Transcript.{first_cores}
use Rattle.commands.specs.declared.fault.Fault.TheVariants as fault

-- 1. The opening

fresh_cores : (cs : List GuestConfig) (ps : List Partition)
    → map (λ (g : GuestState). g.core) (fresh_guests cs ps) ≡ first_cores cs ps
fresh_cores [] ps = refl
fresh_cores (c ∷ cs) [] = refl
fresh_cores (c ∷ cs) (p ∷ ps) = ap₂ (λ (x : GuestCore) xs. x ∷ xs) refl (fresh_cores cs ps)

-- the guest of a partition
fresh_at : (cs : List GuestConfig) (ps : List Partition) (g : ℕ) (p : Partition)
    → length ps ≡ length cs → slice_get ps g ≡ Some p → (x : GuestState)
    × (slice_get (fresh_guests cs ps) g ≡ Some x) × (x.core.partition ≡ p)
fresh_at cs [] g p many at = absurd (cc)
fresh_at [] (q ∷ ps) g p many at = absurd (omega (arith, many))
fresh_at (c ∷ cs) (q ∷ ps) zero p many at = (_, refl, (let same : q ≡ p = cc in same))
fresh_at (c ∷ cs) (q ∷ ps) (suc g) p many at = fresh_at cs ps g p (omega (arith, many)) at

as_many_cores : (cs : List GuestConfig) (ps : List Partition) → length ps ≡ length cs
    → length (first_cores cs ps) ≡ length cs
as_many_cores [] ps many = refl
as_many_cores (c ∷ cs) [] many = absurd (omega (arith, many))
as_many_cores (c ∷ cs) (p ∷ ps) many = ap suc (as_many_cores cs ps (omega (arith, many)))

pub image_of : {D : Type 0} (shows : D → DiskState) (board : List GuestConfig) (disk : D)
    (b : BoardState D) (life : ℕ) (begins : Begins shows life board b)
    → ((shows disk).faithful ≡ true → Stands board (shows disk).seen b)
    → ((shows disk).faithful ≡ true → IsImage (capacities_of board) (shows disk).len
    (shows disk).seen) → AreOf board (shows disk) begins.partitions
unfolding capacities_of
image_of {D = D} shows board disk b life begins stand whole_image = record {
  count = many;
  image = whole_image;
  held = λ known g p at. (let x = fresh_at board begins.partitions g p many at in
      subst (λ q. recovered.Stands (region_at (capacities_of board) g) (shows disk).seen
      (part_of q)) x.2 (stand known g x.0 (ap (λ v. slice_get (guests v) g) begins.is ∙ x.1)));
}
  where
    many : length begins.partitions ≡ length board
    many = begins.begun.all_partitions ∙ length-map board (λ g. g.capacity)

pub opened_host : {D : Type 0} (shows : D → DiskState) (makes : D → DiskCall → D → Type 0)
    (setup : SetupState) (disk : D) (b : BoardState D) (h : HostState D) (life : ℕ)
    → Begins shows life setup.board b
    → ((shows disk).faithful ≡ true → Stands setup.board (shows disk).seen b)
    → ((shows disk).faithful ≡ true → IsImage (capacities_of setup.board) (shows disk).len
    (shows disk).seen)
    → Within shows makes (Untouched (shows disk)) disk b.store.disk → (shows b.store.disk).failures
    ≡ (shows disk).failures → IsFirstHost setup b h
    → ((bases : ℕ → Partition) (accepted : ℕ → List Request)
    → StaysLinked shows setup.board bases accepted b
    → StaysLinked shows setup.board bases accepted h.board)
    → IsOpened shows makes setup disk h
unfolding capacities_of
opened_host {D = D} shows makes setup disk b h life begins stand whole_image untouched unfailed
    first links = record {
      partitions = begins.partitions;
      of_image = image_of shows setup.board disk b life begins stand whole_image;
      cores = cores;
      ready = record { cores = cores; ready = first.ready };
      answered = ap (λ r. r.answered) first.runner ∙ ap (λ v. (runner_of v).answered) begins.is
          ∙ (uncounted setup.board begins.partitions).0;
      linked = links (bases_of begins.partitions) (λ g. [])
          (record { parts = _; linked = begins.linked });
      whole = ap (λ s. s.broken) first.store ∙ ap (λ v. v.store.broken) begins.is ∙ begins.whole;
      untouched = subst (λ s. Within shows makes (Untouched (shows disk)) disk s.disk)
          (sym first.store) untouched;
      unfailed = ap (λ s. (shows s.disk).failures) first.store ∙ unfailed;
      host = record {
        fit = first.fit;
        own = first.own;
        clear = first.clear;
      };
    }
  where
    cores : (runner_of h.board).cores ≡ first_cores setup.board begins.partitions
    cores = ap (λ r. r.cores) first.runner ∙ ap (λ v. (runner_of v).cores) begins.is
        ∙ fresh_cores setup.board begins.partitions

-- why it isn't opened
pub opening_ends : (capacities : List ℕ) (old new : DiskState) (f : OpenFault)
    → (f ≡ image.DiskFault → HasRisen old.failures new.failures)
    → (old.faithful ≡ true → AnswersFault capacities old.len old.seen f)
    → OpeningEnds capacities old new (fault_of_image f)
opening_ends capacities old new image.NoMemory cause answers = tt
opening_ends capacities old new image.DiskFault cause answers = cause refl
opening_ends capacities old new image.NotFormatted cause answers = answers
opening_ends capacities old new image.OtherConfig cause answers = answers

-- 2. The end

-- the last board of a host, and whether its calls went well
pub moves_to : {D : Type 0} (shows : D → DiskState) (makes : D → DiskCall → D → Type 0)
    (h : HostState D) (ended : Result (Unit {0}) DiskFault) (r : Result (Unit {0}) Fault) (disk : D)
    → HostFinishes shows makes h ended disk
    → is_ok r ≡ is_ok ended → ((e : Fault) → r ≡ Err e → e ≡ fault.DiskFault)
    → MovesTo shows makes h.board r disk
moves_to shows makes h ended r disk f same only =
    record {
      only = only;
      last = f.last;
      moves = f.moves;
      disk = f.disk;
      told = same ∙ f.told
          ∙ ap not (sym f.finished.rests.listened.broken);
      runner = f.finished.rests.runner;
    }

-- a store that broke since the image was opened
pub risen : {D : Type 0} (shows : D → DiskState) (makes : D → DiskCall → D → Type 0)
    (setup : SetupState) (disk : D) (h0 h : HostState D) → IsOpened shows makes setup disk h0
    → Moves shows makes h0.board h.board
    → h.board.store.broken ≡ true
    → HasRisen (shows disk).failures (shows h.board.store.disk).failures
risen shows makes setup disk h0 h opened moves broke =
    subst (λ n. HasRisen n (shows h.board.store.disk).failures) opened.unfailed
    (by (moves.cause broke))
  where
    by : (h0.board.store.broken ≡ true) ⊎ HasRisen (shows h0.board.store.disk).failures
        (shows h.board.store.disk).failures → HasRisen (shows h0.board.store.disk).failures
        (shows h.board.store.disk).failures
    by (inl was) = absurd (let no = opened.whole in cc)
    by (inr rose) = rose

-- a core of the book
pub found_core : (gs : List GuestState) (g : ℕ) (p : Partition)
    → slice_get (map (λ (c : GuestCore). c.partition) (map (λ (x : GuestState). x.core) gs)) g
    ≡ Some p
    → (x : GuestState) × (slice_get gs g ≡ Some x) × (x.core.partition ≡ p)
found_core [] g p at = absurd (cc)
found_core (x ∷ gs) zero p at = (x, refl, (let same : x.core.partition ≡ p = cc in same))
found_core (x ∷ gs) (suc g) p at = found_core gs g p at
