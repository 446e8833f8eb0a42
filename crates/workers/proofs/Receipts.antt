-- A receipt is of the guest whose job it was.
use Rattle.std.proofs.Common.{◌≡◌, ◌≤◌, ℕ, zero, suc, Bool, true, false, List, [], ◌∷◌, ◌++◌}
use Rattle.std.proofs.Common.{Option, None, Some, arith, length, refl, get_or}
use Rattle.std.specs.Prelude.{All, ◌==◌, ◌||◌, not}
use Rattle.std.proofs.lemmas.Bool.Decides.{nat_tests}
use Rattle.std.proofs.lemmas.List.Elements.{All-append}
use Rattle.rpmb_frame.specs.Table.{first_row}
use Rattle.mmio_transport.specs.Job.{Job}
use Rattle.rpmb_book.specs.Book.{refusal_at}
use Rattle.rpmb_book.specs.Guest.{GuestState}
use Rattle.rpmb_book.specs.Job.{Tally}
use Rattle.rpmb_book.specs.declared.receipt.Receipt.{Receipt}
use Rattle.rpmb_book.specs.declared.refused.Refused.{Refused}
use Rattle.rpmb_book.specs.declared.refused.Refused.TheVariants.{Busy, Foreign, HistoryFull}

first_fails : (same other : Bool) (rest : List (Bool × Option Refused))
    → first_row ((not same || other, Some Foreign) ∷ rest) None ≡ None → same ≡ true
first_fails true other rest is = refl
first_fails false other rest is = cc

equal : (m n : ℕ) → (m == n) ≡ true → n ≡ m
equal m n is = grind (arith, nat_tests)

-- a job that isn't refused is of the tally's guest
pub is_own : (full : Bool) (tally : Tally) (job : Job) (guest : Option GuestState)
    → refusal_at full tally job guest ≡ None → job.guest ≡ tally.guest
is_own full tally job None is = cc
is_own full tally job (Some g) is =
    equal tally.guest job.guest
    (first_fails (tally.guest == job.guest) (not (tally.count == g.submits))
    ((length g.held == 64, Some Busy) ∷ (full, Some HistoryFull) ∷ []) is)

-- one more receipt of the guest
pub own_pushed : (guest : ℕ) (old : List Receipt) (r : Receipt) (new : List Receipt)
    → All (λ x. x.guest ≡ guest) old → r.guest ≡ guest → new ≡ old ++ r ∷ []
    → All (λ x. x.guest ≡ guest) new
own_pushed guest old r new all own is =
    rw is (All-append (λ x. x.guest ≡ guest) old (r ∷ []) all last)
  where
    last : (k : ℕ) (d : Receipt) → suc k ≤ 1 → (get_or (r ∷ []) k d).guest ≡ guest
    last zero d below = own
    last (suc k) d below = absurd (omega (arith, below))
