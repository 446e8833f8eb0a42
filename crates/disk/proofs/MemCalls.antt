-- What the calls on a disk in memory do is what a call may do.
use Rattle.std.proofs.Common.{◌≡◌, true, ℕ, ◌+◌, ◌≤◌, List, length, get_or, refl, ap, ◌∙◌, arith}
use Rattle.disk.specs.Content.{overwritten}
use Rattle.disk.specs.Disk.{Write}
use Rattle.disk.specs.MemDisk.{MemMakes}
use Rattle.disk.proofs.Overwriting.{length-overwritten, get_or-overwritten_inside}
use Rattle.disk.proofs.Overwriting.{get_or-overwritten_outside}

pub makes_write : (old new : List ℕ) (at : ℕ) (bytes : List ℕ) → at + length bytes ≤ length old
    → new ≡ overwritten at bytes old → MemMakes old (Write at bytes true) new
makes_write old new at bytes fits is = record {
  effect = record {
    counts = record {
      len = ap length is ∙ length-overwritten at bytes old fits;
      faithful = refl;
      later = omega arith;
      unfailed = λ _. refl;
      cause = λ not_ok. cc;
      ended = λ full. absurd (omega arith);
    };
    written = λ _ _ k below. ap (λ (l : List ℕ). get_or l (at + k) 0) is
        ∙ get_or-overwritten_inside at bytes old k 0 fits below;
    outside = λ _ k outside. ap (λ (l : List ℕ). get_or l k 0) is
        ∙ get_or-overwritten_outside at bytes old k 0 fits outside;
    unsynced = λ _ _ _ _. refl;
  };
  value = is;
  success = refl;
}
