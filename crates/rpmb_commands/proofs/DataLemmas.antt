-- Lines that are known, and blocks that are too few.
use Rattle.std.proofs.Common.{◌≡◌, ◌<◌, ℕ, Bool, true, false, List, Option, Some, None, IfSome}
use Rattle.std.proofs.Common.{length, leb, refl, ◌∙◌, arith}
use Rattle.std.proofs.lemmas.Bool.Decides.{nat_tests}
use Rattle.std.specs.Prelude.{slice_range}
use Rattle.rpmb_client.specs.Blocks.{cut}

by_test : {P : Type 0} (b : Bool) → (b ≡ true → P) → (b ≡ false → P) → P
by_test true f g = f refl
by_test false f g = g refl

pub each_text : {A : Type 0} (o : Option A) (P : A → Type 0) → ((x : A) → P x) → IfSome o P
each_text None P all = tt
each_text (Some x) P all = all x

pub map_some : {A : Type 0} (o : Option A) (P Q : A → Type 0) → IfSome o P → ((x : A) → P x → Q x)
    → IfSome o Q
map_some None P Q p all = tt
map_some (Some x) P Q p all = all x p

is_cut : (n : ℕ) (all : List ℕ) → leb n (length all) ≡ true → cut n all ≡ Some (slice_range all 0 n)
is_cut n all is = rw is refl

pub too_few : (n : ℕ) (all : List ℕ) → None ≡ cut n all → length all < n
too_few n all none = by_test (leb n (length all)) (λ is.
    absurd (let e = none ∙ is_cut n all is in cc)) (λ is. grind (arith, nat_tests, is))
