-- What the calls on a disk over a file do, by what its file does.
use Rattle.std.proofs.Common.{◌≡◌, Result, Ok, Err, is_ok, ℕ, ◌+◌, ◌^◌, ◌<◌, Bool, true, false}
use Rattle.std.proofs.Common.{refl, ap, subst, sym, ◌∙◌, arith, inl}
use Rattle.disk.specs.Disk.{Counts, DiskCall, HasRisen, is_success}
use Rattle.disk.specs.FileDisk.{FileCall, FileEffect, FileMakes, FileShows, FileState, disk_call}
use Rattle.disk.specs.FileDisk.{is_done, shown_as}

-- one more failure, or none
pub record Settled (ok : Bool) (old new : ℕ) : Type 0 where
  pub few : old + 1 < 2 ^ 64
  pub unfailed : ok ≡ true → new ≡ old
  pub failed : ok ≡ false → new ≡ old + 1

counts : (f g : FileShows) (len old new : ℕ) (ok : Bool) → g.faithful ≡ f.faithful
    → Settled ok old new → Counts ok (shown_as f len old) (shown_as g len new)
counts f g len old new true faithful s = (let same = s.unfailed refl in let few = s.few in record {
  len = refl;
  faithful = faithful;
  later = omega (arith, same);
  unfailed = s.unfailed;
  cause = λ not_ok. absurd (cc);
  ended = λ full. absurd (omega (arith, few, full));
})
counts f g len old new false faithful s = (let more = s.failed refl in record {
  len = refl;
  faithful = faithful;
  later = omega (arith, more);
  unfailed = λ ok. absurd (cc);
  cause = λ not_ok. inl (omega (arith, more));
  ended = λ full. refl;
})

pub made_of : {F : Type 0} (shows : F → FileShows) (made : F → FileCall → F → Type 0)
    → ((a b : F) (c : FileCall) → made a c b → FileEffect (shows a) c (shows b))
    → (old new : FileState F) (call : FileCall) (done : DiskCall) → (was : FileState F) → was ≡ old
    → made old.file call new.file → disk_call call ≡ done → new.len ≡ old.len
    → Settled (is_success done) old.failures new.failures → FileMakes shows was done new
made_of shows made effect old new call done was seen makes is len settled =
    let e = effect old.file new.file call makes in
    subst (λ o. FileMakes shows o done new) (sym seen)
    (subst (λ d. FileMakes shows old d new) is (record {
      effect = subst (λ n. Rattle.disk.specs.Disk.Effect
          (shown_as (shows old.file) old.len old.failures) (disk_call call)
          (shown_as (shows new.file) n new.failures)) (sym len)
          (e.effect old.len old.failures new.failures
          (counts (shows old.file) (shows new.file) old.len old.failures new.failures
          (is_success (disk_call call)) e.faithful
          (subst (λ d. Settled (is_success d) old.failures new.failures) (sym is) settled)));
      len = len;
      unfailed = λ ok. settled.unfailed (ap is_success (sym is) ∙ ok);
      failed = λ bad few. settled.failed (ap is_success (sym is) ∙ bad);
    }))

pub done_is_ok : {V E : Type 0} (r : Result V E) → is_done r ≡ is_ok r
done_is_ok (Ok v) = refl
done_is_ok (Err e) = refl
