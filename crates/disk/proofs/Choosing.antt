-- The call that was chosen to fail.
use Rattle.std.proofs.Common.{◌≡◌, true, not, ◌==◌, ℕ, zero, suc, ◌+◌, ◌^◌, ◌<◌, List, [], ◌∷◌}
use Rattle.std.proofs.Common.{length, refl, ◌∙◌, arith}
use Rattle.disk.specs.Disk.{DiskCall, Read, Write, Sync}
use Rattle.disk.specs.CutDisk.{CutState, cut_after, counted, after_write, after_sync, succeeds}
use Rattle.disk.specs.CutDisk.{goes_on, next_chosen, next_failures}
use Rattle.disk.specs.Laws.{ChosenCallFailsAlone, cut_after_calls}

after-chosen : (call : DiskCall) (d : CutState) → (cut_after call d).chosen
    ≡ next_chosen d.chosen d.failures
unfolding counted after_write after_sync
after-chosen (Read ok) d = refl
after-chosen (Write at bytes ok) d = refl
after-chosen (Sync ok) d = refl

after-failures : (call : DiskCall) (d : CutState) → (cut_after call d).failures
    ≡ next_failures d.chosen d.failures
unfolding counted after_write after_sync
after-failures (Read ok) d = refl
after-failures (Write at bytes ok) d = refl
after-failures (Sync ok) d = refl

next_of_none : (chosen failures : ℕ) → chosen ≡ 0 → (next_chosen chosen failures ≡ 0)
    × (next_failures chosen failures ≡ failures)
unfolding next_chosen next_failures
next_of_none chosen failures none = (grind arith, grind arith)

next_of_last : (chosen failures : ℕ) → chosen ≡ 1 → failures + 2 < 2 ^ 64
    → (next_chosen chosen failures ≡ 0) × (next_failures chosen failures ≡ failures + 1)
unfolding next_chosen next_failures
next_of_last chosen failures last few = (grind arith, grind arith)

next_of_more : (chosen failures k : ℕ) → chosen ≡ suc (suc k) → failures + 2 < 2 ^ 64
    → (next_chosen chosen failures ≡ suc k) × (next_failures chosen failures ≡ failures)
unfolding next_chosen next_failures
next_of_more chosen failures k more few = (grind arith, grind arith)

-- nothing chosen: nothing fails
none_chosen : (calls : List DiskCall) (d : CutState) → d.chosen ≡ 0 → d.failures + 1 < 2 ^ 64
    → succeeds (cut_after_calls calls d) ≡ true
unfolding cut_after_calls succeeds goes_on
none_chosen [] d none few = grind arith
none_chosen (call ∷ calls) d none few =
    let next = next_of_none d.chosen d.failures none in
    let same = after-failures call d ∙ next.1 in
    none_chosen calls (cut_after call d) (after-chosen call d ∙ next.0) (omega (arith, same, few))

-- the chosen one fails, and no other
chosen_alone : (calls : List DiskCall) (d : CutState) (k : ℕ) → d.chosen ≡ k
    → d.failures + 2 < 2 ^ 64 → succeeds (cut_after_calls calls d) ≡ not (length calls + 1 == k)
unfolding cut_after_calls succeeds goes_on
chosen_alone [] d k is few = grind arith
chosen_alone (call ∷ calls) d zero is few =
    let next = next_of_none d.chosen d.failures is in
    let same = after-failures call d ∙ next.1 in
    none_chosen calls (cut_after call d) (after-chosen call d ∙ next.0) (omega (arith, same, few))
    ∙ grind arith
chosen_alone (call ∷ calls) d (suc zero) is few =
    let next = next_of_last d.chosen d.failures is few in
    let risen = after-failures call d ∙ next.1 in
    none_chosen calls (cut_after call d) (after-chosen call d ∙ next.0) (omega (arith, risen, few))
    ∙ grind arith
chosen_alone (call ∷ calls) d (suc (suc k)) is few =
    let next = next_of_more d.chosen d.failures k is few in
    let same = after-failures call d ∙ next.1 in
    chosen_alone calls (cut_after call d) (suc k) (after-chosen call d ∙ next.0)
    (omega (arith, same, few)) ∙ grind arith

pub chosen_call_fails_alone : ChosenCallFailsAlone
chosen_call_fails_alone d k calls few = chosen_alone calls (record d { chosen = k }) k refl few
