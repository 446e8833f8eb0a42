-- What the calls on a disk whose writes wait in an outbox do to the owner's file.
use Rattle.std.proofs.Common.{◌≡◌, inl, inr, ℕ, zero, suc, ◌+◌, ◌-◌, ◌^◌, ◌≤◌, ◌<◌, Bool, true}
use Rattle.std.proofs.Common.{false, List, [], ◌∷◌, length, refl, ap₂, sym, ◌∙◌, subst, arith}
use Rattle.std.specs.Prelude.{nat_le, slice_index}
use Rattle.std.proofs.lemmas.Bool.Decides.{nat_tests}
use Rattle.disk.specs.Content.{Content, IsOutside, bytes_at, in_range, over}
use Rattle.disk.specs.Disk.{Counts, DiskState, Sync, Write}
use Rattle.disk.specs.Kept.{Note, file_after, synced, wrote}
use Rattle.disk.specs.Outbox.{OutboxView, put_in}
use Rattle.disk.specs.OutboxDisk.{IsReadable, OutboxMakes, OutboxState, after_sync, after_write}
use Rattle.disk.specs.OutboxDisk.{counted, ends, failures_after, sync_succeeds, write_succeeds}

-- 1. What reads give

pub readable_opened : (image kept : List ℕ) (log earlier : List Note) → log ≡ (0 ∷ 0 ∷ [], kept)
    ∷ earlier → kept ≡ image → IsReadable image (file_after log)
unfolding file_after
readable_opened image kept log earlier is same =
    subst (λ l. IsReadable image (file_after l)) (sym is)
    (subst (λ b. IsReadable image (file_after ((0 ∷ 0 ∷ [], b) ∷ earlier))) (sym same)
    (record { faithful = refl; same = λ k below. refl }))

pub readable_synced : (image : List ℕ) (log now : List Note) → now ≡ synced ∷ log
    → IsReadable image (file_after log) → IsReadable image (file_after now)
unfolding file_after
readable_synced image log now is r = subst (λ l. IsReadable image (file_after l)) (sym is)
    (record { faithful = r.faithful; same = r.same })

pub readable_wrote : (image before : List ℕ) (log now : List Note) (at : ℕ) (bytes : List ℕ)
    → image ≡ [] → now ≡ wrote at bytes ∷ log → IsReadable before (file_after log)
    → IsReadable image (file_after now)
unfolding file_after
readable_wrote image before log now at bytes none is r =
    subst (λ i. IsReadable i (file_after now)) (sym none)
    (subst (λ l. IsReadable [] (file_after l)) (sym is)
    (record { faithful = r.faithful; same = λ k below. absurd (omega (arith, below)) }))

pub reads_same : (c d : Content) (len at n : ℕ) → ((k : ℕ) → k < len → c k ≡ d k) → at + n ≤ len
    → bytes_at c at n ≡ bytes_at d at n
unfolding bytes_at
reads_same c d len at zero same inside = refl
reads_same c d len at (suc n) same inside = ap₂ (λ x xs. x ∷ xs) (same at (omega (arith, inside)))
    (reads_same c d len (suc at) n same (omega (arith, inside)))

-- 2. What calls that succeed leave

pub few_of : (may failed : Bool) (failures : ℕ) → true ≡ ends may failed failures
    → failures < 2 ^ 64 - 1
unfolding ends
few_of may failed failures ok = grind (arith, nat_tests, ok)

pub there_of : (at n len : ℕ) (may failed : Bool) (failures : ℕ) → may ≡ nat_le (at + n) len
    → true ≡ ends may failed failures → at + n ≤ len
unfolding ends
there_of at n len may failed failures is ok = grind (arith, nat_tests, is, ok)

counts : (old new : DiskState) → new.len ≡ old.len → new.faithful ≡ old.faithful
    → new.failures ≡ old.failures → old.failures < 2 ^ 64 - 1 → Counts true old new
counts old new len faithful same few = record {
  len = len;
  faithful = faithful;
  later = omega (arith, same);
  unfailed = λ ok. same;
  cause = λ bad. absurd (cc);
  ended = λ full. absurd (omega (arith, full, few));
}

kept_count : (n : ℕ) → failures_after true n ≡ n
unfolding failures_after
kept_count n = refl

pub makes_sync : (now old : OutboxState) (log : List Note) (failed : Bool) (failures : ℕ)
    → old ≡ now → log ≡ synced ∷ old.kept → failed ≡ false
    → failures ≡ failures_after true old.failures → old.failures < 2 ^ 64 - 1
    → true ≡ sync_succeeds old
    → OutboxMakes now (Sync true) (record {
      len = old.len;
      image = old.image;
      kept = log;
      outbox =
          old.outbox;
      synced = false;
      failed = failed;
      failures = failures;
    })
unfolding file_after after_sync counted
makes_sync now old log failed failures is noted told count few due =
    let same = count ∙ kept_count old.failures in
    subst (λ o. OutboxMakes o (Sync true) (record {
      len = old.len;
      image = old.image;
      kept = log;
      outbox = old.outbox;
      synced = false;
      failed = failed;
      failures = failures;
    })) is
    (subst (λ l. OutboxMakes old (Sync true) (record {
      len = old.len;
      image = old.image;
      kept = l;
      outbox = old.outbox;
      synced = false;
      failed = failed;
      failures = failures;
    })) (sym noted)
    (record {
      effect = record {
        counts = counts _ _ refl refl same few;
        seen = λ known k. refl;
        unsynced =
            λ known k clear. refl;
        durable = λ known ok k. refl;
      };
      value = ap₂ (λ (f : Bool) (n : ℕ). record {
        len = old.len;
        image = old.image;
        kept = synced
            ∷ old.kept;
        outbox = old.outbox;
        synced = false;
        failed = f;
        failures = n;
      }) told count;
      due = due;
    }))

over_inside : (at : ℕ) (bytes : List ℕ) (c : Content) (k : ℕ) → k < length bytes
    → over at bytes c (at + k) ≡ slice_index bytes k
unfolding over
over_inside at bytes c k below =
    let within : in_range at (length bytes) (at + k) ≡ true = grind (arith, nat_tests, below) in
    let back : at + k - at ≡ k = omega arith in
    rw (within, back) refl

outside_range : (at n k : ℕ) → IsOutside at n k → in_range at n k ≡ false
outside_range at n k (inl before) = grind (arith, nat_tests, before)
outside_range at n k (inr behind) = grind (arith, nat_tests, behind)

over_outside : (at : ℕ) (bytes : List ℕ) (c : Content) (k : ℕ) → IsOutside at (length bytes) k
    → over at bytes c k ≡ c k
unfolding over
over_outside at bytes c k out = (let beyond = outside_range at (length bytes) k out in
    rw beyond refl)

pub makes_write : (now old : OutboxState) (at : ℕ) (bytes image : List ℕ) (log : List Note)
    (outbox : OutboxView) (failed : Bool) (failures : ℕ) → old ≡ now → image ≡ []
    → log ≡ wrote at bytes ∷ old.kept → outbox ≡ put_in at bytes old.outbox → failed ≡ false
    → failures ≡ failures_after true old.failures
    → old.failures < 2 ^ 64 - 1 → true ≡ write_succeeds (length bytes) old
    → OutboxMakes now (Write at bytes true) (record {
      len = old.len;
      image = image;
      kept = log;
      outbox = outbox;
      synced = false;
      failed = failed;
      failures = failures;
    })
unfolding file_after after_write counted
makes_write now old at bytes image log outbox failed failures is none noted put told count few due =
    let same = count ∙ kept_count old.failures in
    subst (λ o. OutboxMakes o (Write at bytes true)
    (record {
      len = old.len;
      image = image;
      kept = log;
      outbox = outbox;
      synced = false;
      failed = failed;
      failures = failures;
    })) is
    (subst (λ l. OutboxMakes old (Write at bytes true)
    (record {
      len = old.len;
      image = image;
      kept = l;
      outbox = outbox;
      synced = false;
      failed =
          failed;
      failures = failures;
    })) (sym noted) (record {
      effect = record {
        counts = counts _ _ refl refl same few;
        written = λ known ok k below. over_inside at bytes (file_after old.kept).seen k below;
        outside = λ known k out. over_outside at bytes (file_after old.kept).seen k out;
        unsynced = λ known k out clear. (let beyond = outside_range at (length bytes) k out in
            rw beyond clear);
      };
      value = ap₂ (λ (f : Bool) (n : ℕ).
          record {
            len = old.len;
            image = image;
            kept = wrote at bytes ∷ old.kept;
            outbox = outbox;
            synced = false;
            failed = f;
            failures = n;
          }) told count
          ∙ ap₂ (λ (i : List ℕ) (o : OutboxView).
          record {
            len = old.len;
            image = i;
            kept = wrote at bytes ∷ old.kept;
            outbox = o;
            synced = false;
            failed = false;
            failures = failures_after true old.failures;
          }) none
          put;
      due = due;
    }))
