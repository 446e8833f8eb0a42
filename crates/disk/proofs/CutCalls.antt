-- What the calls on the disk that can be cut do is what a call may do.
use Rattle.std.proofs.Common.{◌≡◌, inl, inr, ⊎_elim, Bool, true, false, ℕ, ◌+◌, ◌-◌, ◌^◌, ◌≤◌, ◌<◌}
use Rattle.std.proofs.Common.{List, length, get_or, replicate, refl, ap, sym, ◌∙◌, subst, arith}
use Rattle.std.specs.Prelude.{if◌then◌else◌, slice_index}
use Rattle.std.proofs.lemmas.Bool.{cases_lt}
use Rattle.std.proofs.lemmas.List.{length-replicate, get_or-replicate, get_or_past}
use Rattle.disk.specs.Content.{IsOutside, content_of, overwritten}
use Rattle.disk.specs.Disk.{HasRisen, MayLeave, Read, Write, Sync, Counts, Reads, Writes, Syncs}
use Rattle.disk.specs.CutDisk.{CutState, IsCutDisk, CutMakes, Stops, left_by, cut_state, goes_on}
use Rattle.disk.specs.CutDisk.{next_chosen, next_failures, succeeds, counted, after_write}
use Rattle.disk.specs.CutDisk.{after_sync}
use Rattle.disk.specs.declared.filler.Filler.{Filler}
use Rattle.disk.specs.declared.filler.Filler.TheVariants.{Old, New, Fill}
use Rattle.disk.proofs.Fills.{filled_clear}
use Rattle.disk.proofs.Overwriting.{length-overwritten, get_or-overwritten_inside}
use Rattle.disk.proofs.Overwriting.{get_or-overwritten_outside}

-- 1. The count, and a read

later : (chosen failures : ℕ) → failures ≤ next_failures chosen failures
unfolding next_failures
later chosen failures = grind arith

unfailed : (chosen failures : ℕ) → goes_on chosen failures ≡ true → next_failures chosen failures
    ≡ failures
unfolding goes_on next_failures
unfailed chosen failures goes = grind arith

cause : (chosen failures : ℕ) → goes_on chosen failures ≡ false
    → HasRisen failures (next_failures chosen failures)
unfolding goes_on next_failures
cause chosen failures stays = grind arith

ended : (chosen failures : ℕ) → 2 ^ 64 ≤ failures + 1 → goes_on chosen failures ≡ false
unfolding goes_on
ended chosen failures full = grind arith

counts_so : (d new : CutState) → length new.seen ≡ length d.seen
    → new.failures ≡ next_failures d.chosen d.failures
    → Counts (succeeds d) (cut_state d) (cut_state new)
unfolding succeeds
counts_so d new long is = record {
  len = long;
  faithful = refl;
  later = subst (λ (n : ℕ). d.failures ≤ n) (sym is) (later d.chosen d.failures);
  unfailed = λ ok. is ∙ unfailed d.chosen d.failures ok;
  cause = λ not_ok. subst (λ (n : ℕ). HasRisen d.failures n) (sym is)
      (cause d.chosen d.failures not_ok);
  ended = ended d.chosen d.failures;
}

reads : (d : CutState) → Reads (succeeds d) (cut_state d) (cut_state (counted d))
unfolding succeeds counted
reads d = record {
  counts = counts_so d (counted d) refl refl;
  seen = λ _ _. refl;
  unsynced = λ _ _ clear. clear;
}

makes_read : (d : CutState) → CutMakes d (Read (succeeds d)) (counted d)
makes_read d = record { effect = reads d; value = refl; success = refl }

-- the same, as the body of a read finds it
pub read_made : (d old : CutState) → d ≡ old → (chosen failures : ℕ) (ok : Bool)
    → ok ≡ goes_on d.chosen d.failures
    → chosen ≡ next_chosen d.chosen d.failures → failures ≡ next_failures d.chosen d.failures
    → CutMakes old (Read ok) (record d { chosen = chosen; failures = failures })
unfolding succeeds counted
read_made d old same chosen failures ok is_ok is_chosen is_failures =
    let new : record d { chosen = chosen; failures = failures } ≡ counted d
    = ap (λ (n : ℕ). record d { chosen = n; failures = failures }) is_chosen
    ∙ ap (λ (n : ℕ). record d { chosen = next_chosen d.chosen d.failures; failures = n })
    is_failures in
    subst (λ (s : CutState).
    CutMakes s (Read ok) (record d { chosen = chosen; failures = failures })) same
    (subst (λ (s : CutState). CutMakes d (Read ok) s) (sym new)
    (subst (λ (b : Bool). CutMakes d (Read b) (counted d)) (sym is_ok) (makes_read d)))

-- 2. A write

-- what reads give after a write that ended so
abbrev written_seen : Bool → ℕ → List ℕ → List ℕ → List ℕ
written_seen ok at bytes seen = if ok then overwritten at bytes seen else seen

length-written_seen : (ok : Bool) (at : ℕ) (bytes seen : List ℕ) → at + length bytes ≤ length seen
    → length (written_seen ok at bytes seen) ≡ length seen
length-written_seen true at bytes seen fits = length-overwritten at bytes seen fits
length-written_seen false at bytes seen fits = refl

written_inside : (ok : Bool) (at : ℕ) (bytes seen : List ℕ) (k : ℕ)
    → at + length bytes ≤ length seen → ok ≡ true → k < length bytes
    → slice_index (written_seen ok at bytes seen) (at + k) ≡ slice_index bytes k
written_inside true at bytes seen k fits is below = get_or-overwritten_inside at bytes seen k 0 fits
    below
written_inside false at bytes seen k fits is below = cc

written_outside : (ok : Bool) (at : ℕ) (bytes seen : List ℕ) (k : ℕ)
    → at + length bytes ≤ length seen → IsOutside at (length bytes) k
    → slice_index (written_seen ok at bytes seen) k ≡ slice_index seen k
written_outside true at bytes seen k fits outside =
    get_or-overwritten_outside at bytes seen k 0 fits outside
written_outside false at bytes seen k fits outside = refl

-- the flags after a write of n bytes
abbrev marked : ℕ → ℕ → List Bool → List Bool
marked at n flags = overwritten at (replicate n true) flags

length-marked : (at n : ℕ) (flags : List Bool) → at + n ≤ length flags → length (marked at n flags)
    ≡ length flags
length-marked at n flags fits =
    (let long = length-replicate n true in
    length-overwritten at (replicate n true) flags (omega (arith, long)))

marked_outside : (at n : ℕ) (flags : List Bool) (k : ℕ) → at + n ≤ length flags → IsOutside at n k
    → get_or (marked at n flags) k false ≡ get_or flags k false
marked_outside at n flags k fits outside = (let long = length-replicate n true in
    get_or-overwritten_outside at (replicate n true) flags k false (omega (arith, long))
    (subst (λ (m : ℕ). IsOutside at m k) (sym long) outside))

marked_inside : (at n : ℕ) (flags : List Bool) (k : ℕ) → at + n ≤ length flags → k < n
    → get_or (marked at n flags) (at + k) false ≡ true
marked_inside at n flags k fits below = (let long = length-replicate n true in
    get_or-overwritten_inside at (replicate n true) flags k false (omega (arith, long))
    (omega (arith, long, below)) ∙ get_or-replicate n k true false below)

-- a place whose flag is clear lies outside the range
clear_outside : (at n : ℕ) (flags : List Bool) (k : ℕ) → at + n ≤ length flags
    → get_or (marked at n flags) k false ≡ false → IsOutside at n k
clear_outside at n flags k fits clear = ⊎_elim
    (λ (below : k < at). inl below)
    (λ (from : at ≤ k). ⊎_elim
    (λ (inside : k < at + n). (let same : at + (k - at) ≡ k = omega arith in let set =
    marked_inside at n flags (k - at) fits (omega arith) in let set_here =
    ap (λ (m : ℕ). get_or (marked at n flags) m false) (sym same) ∙ set in cc))
    (λ (past : at + n ≤ k). inr past)
    (cases_lt k (at + n)))
    (cases_lt k at)

writes : (d : CutState) (at : ℕ) (bytes : List ℕ) → IsCutDisk d → at + length bytes ≤ length d.seen
    → Writes at bytes (succeeds d) (cut_state d) (cut_state (after_write at bytes d))
unfolding succeeds counted after_write
writes d at bytes sound fits = (let fits_flags : at + length bytes ≤ length d.unsynced =
    omega (arith, sound.flag_each) in record {
      counts = counts_so d (after_write at bytes d) (length-written_seen (succeeds d) at bytes
          d.seen
          fits) refl;
      written = λ _ is k below. written_inside (succeeds d) at bytes d.seen k fits is below;
      outside = λ _ k outside. written_outside (succeeds d) at bytes d.seen k fits outside;
      unsynced = λ _ k outside clear. marked_outside at (length bytes) d.unsynced k fits_flags
          outside
          ∙ clear;
    })

makes_write : (d : CutState) (at : ℕ) (bytes : List ℕ) → IsCutDisk d
    → at + length bytes ≤ length d.seen
    → CutMakes d (Write at bytes (succeeds d)) (after_write at bytes d)
makes_write d at bytes sound fits = record {
  effect = writes d at bytes sound fits;
  value = refl;
  success = refl;
}

-- a write, as its body finds it
pub write_made : (d old : CutState) → d ≡ old → (at : ℕ) (bytes : List ℕ) → IsCutDisk d
    → at + length bytes ≤ length old.seen
    → (seen : List ℕ) (flags : List Bool) (chosen failures : ℕ) (ok : Bool)
    → ok ≡ goes_on d.chosen d.failures
    → seen ≡ written_seen ok at bytes d.seen → flags ≡ marked at (length bytes) d.unsynced
    → chosen ≡ next_chosen d.chosen d.failures → failures ≡ next_failures d.chosen d.failures
    → CutMakes old (Write at bytes ok) (record d {
      seen = seen;
      unsynced = flags;
      chosen = chosen;
      failures = failures;
    })
unfolding succeeds counted after_write
write_made d old same at bytes sound fits seen flags chosen failures ok is_ok is_seen is_flags
    is_chosen is_failures =
    let new : record d { seen = seen; unsynced = flags; chosen = chosen; failures = failures }
    ≡ after_write at bytes d = cc in
    let fits_d : at + length bytes ≤ length d.seen =
    subst (λ (s : CutState). at + length bytes ≤ length s.seen) (sym same) fits in
    subst (λ (s : CutState).
    CutMakes s (Write at bytes ok) (record d {
      seen = seen;
      unsynced = flags;
      chosen = chosen;
      failures = failures;
    })) same
    (subst (λ (s : CutState). CutMakes d (Write at bytes ok) s) (sym new)
    (subst (λ (b : Bool). CutMakes d (Write at bytes b) (after_write at bytes d)) (sym is_ok)
    (makes_write d at bytes sound fits_d)))

pub write_sound : (d old : CutState) → d ≡ old → (at : ℕ) (bytes : List ℕ) → IsCutDisk d
    → at + length bytes ≤ length old.seen
    → (seen : List ℕ) (flags : List Bool) (chosen failures : ℕ) (ok : Bool)
    → seen ≡ written_seen ok at bytes d.seen → flags ≡ marked at (length bytes) d.unsynced
    → IsCutDisk (record d { seen = seen; unsynced = flags; chosen = chosen; failures = failures })
write_sound d old same at bytes sound fits_old seen flags chosen failures ok is_seen is_flags =
    let fits : at + length bytes ≤ length d.seen =
    subst (λ (s : CutState). at + length bytes ≤ length s.seen) (sym same) fits_old in
    let fits_flags : at + length bytes ≤ length d.unsynced = omega (arith, sound.flag_each) in
    let seen_long = ap length is_seen ∙ length-written_seen ok at bytes d.seen fits in
    let flags_long = ap length is_flags ∙ length-marked at (length bytes) d.unsynced fits_flags in
    record {
      same_len = sound.same_len ∙ sym seen_long;
      flag_each = flags_long ∙ sound.flag_each ∙ sym seen_long;
      agree = λ k clear. (let clear_mark = ap (λ (l : List Bool). get_or l k false) (sym is_flags)
          ∙ clear in
          let outside = clear_outside at (length bytes) d.unsynced k fits_flags clear_mark in
          sound.agree k (sym (marked_outside at (length bytes) d.unsynced k fits_flags outside)
          ∙ clear_mark)
          ∙ sym (ap (λ (l : List ℕ). slice_index l k) is_seen
          ∙ written_outside ok at bytes d.seen k fits outside));
    }

-- 3. A sync

clear_all : (n k : ℕ) → get_or (replicate n false) k false ≡ false
clear_all n k = ⊎_elim (λ (below : k < n). get_or-replicate n k false false below)
    (λ (past : n ≤ k). get_or_past (replicate n false) k false (let long =
    length-replicate n false in omega (arith, long, past))) (cases_lt k n)

-- the flags after a sync that ended so
abbrev synced_flags : Bool → List Bool → List Bool
synced_flags ok flags = if ok then replicate (length flags) false else flags

synced_clear : (ok : Bool) (flags : List Bool) (k : ℕ) → ok ≡ true
    → get_or (synced_flags ok flags) k false ≡ false
synced_clear true flags k is = clear_all (length flags) k
synced_clear false flags k is = cc

synced_fewer : (ok : Bool) (flags : List Bool) (k : ℕ) → get_or flags k false ≡ false
    → get_or (synced_flags ok flags) k false ≡ false
synced_fewer true flags k clear = clear_all (length flags) k
synced_fewer false flags k clear = clear

syncs : (d : CutState) → Syncs (succeeds d) (cut_state d) (cut_state (after_sync d))
unfolding succeeds counted after_sync
syncs d = record {
  counts = counts_so d (after_sync d) refl refl;
  seen = λ _ _. refl;
  durable = λ _ is k. synced_clear (succeeds d) d.unsynced k is;
  unsynced = λ _ k clear. synced_fewer (succeeds d) d.unsynced k clear;
}

makes_sync : (d : CutState) → CutMakes d (Sync (succeeds d)) (after_sync d)
makes_sync d = record { effect = syncs d; value = refl; success = refl }

-- a sync, as its body finds it
pub sync_made : (d old : CutState) → d ≡ old
    → (synced : List ℕ) (flags : List Bool) (chosen failures : ℕ) (ok : Bool)
    → ok ≡ goes_on d.chosen d.failures
    → synced ≡ (if ok then d.seen else d.synced) → flags ≡ synced_flags ok d.unsynced
    → chosen ≡ next_chosen d.chosen d.failures → failures ≡ next_failures d.chosen d.failures
    → CutMakes old (Sync ok) (record d {
      synced = synced;
      unsynced = flags;
      chosen = chosen;
      failures = failures;
    })
unfolding succeeds counted after_sync
sync_made d old same synced flags chosen failures ok is_ok is_synced is_flags is_chosen is_failures
    =
    let new : record d { synced = synced; unsynced = flags; chosen = chosen; failures = failures }
    ≡ after_sync d = cc in
    subst (λ (s : CutState).
    CutMakes s (Sync ok) (record d {
      synced = synced;
      unsynced = flags;
      chosen = chosen;
      failures = failures;
    })) same
    (subst (λ (s : CutState). CutMakes d (Sync ok) s) (sym new)
    (subst (λ (b : Bool). CutMakes d (Sync b) (after_sync d)) (sym is_ok) (makes_sync d)))

-- 4. A stop

-- what every filler leaves is what a stop may leave
left_may : (filler : Filler) (d : CutState) → IsCutDisk d → (k : ℕ) → get_or d.unsynced k false
    ≡ false → left_by filler d.seen d.synced d.unsynced k ≡ slice_index d.seen k
unfolding left_by
left_may Old d sound k clear = sound.agree k clear
left_may New d sound k clear = refl
left_may (Fill bytes) d sound k clear = filled_clear bytes.items d.unsynced d.seen k clear

-- a stop, as its body finds it
pub stop_made : (filler : Filler) (d old : CutState) → d ≡ old
    → (seen synced : List ℕ) (flags given_flags : List Bool) (given : List ℕ)
    → length seen ≡ length d.seen
    → ((k : ℕ) → slice_index seen k ≡ left_by filler d.seen given given_flags k)
    → given ≡ d.synced → given_flags ≡ d.unsynced
    → synced ≡ seen → flags ≡ replicate (length d.unsynced) false
    → Stops filler old (record d { seen = seen; synced = synced; unsynced = flags })
stop_made filler d old same seen synced flags given_flags given long left is_given is_given_flags
    is_synced is_flags =
    subst (λ (s : CutState).
    Stops filler s (record d { seen = seen; synced = synced; unsynced = flags })) same (record {
      len = long;
      left = λ k. left k ∙ ap (λ (l : List ℕ). left_by filler d.seen l given_flags k) is_given
          ∙ ap (λ (l : List Bool). left_by filler d.seen d.synced l k) is_given_flags;
      synced = is_synced;
      unsynced = is_flags;
      chosen = refl;
      failures = refl;
    })

pub stop_leaves : (filler : Filler) (d old new : CutState) → d ≡ old → IsCutDisk d
    → Stops filler old new → MayLeave (cut_state old) (content_of new.seen)
stop_leaves filler d old new same sound stops =
    let sound_old = subst IsCutDisk same sound in
    λ k clear. stops.left k ∙ left_may filler old sound_old k clear
