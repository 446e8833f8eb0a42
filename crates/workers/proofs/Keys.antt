-- The keys that are known of guests, one after another.
use Rattle.std.proofs.Common.{◌≡◌, ℕ, zero, suc, ◌<◌, List, [], ◌∷◌, ◌++◌, Some}
use Rattle.std.proofs.Common.{length, refl, arith}
use Rattle.std.specs.Prelude.{slice_get}
use Rattle.rpmb_book.specs.Book.{BookView}
use Rattle.workers.specs.Keeping.{HasKeys}

get_before : {X : Type 0} (xs : List X) (y : X) (g : ℕ) → g < length xs → slice_get (xs ++ y ∷ []) g
    ≡ slice_get xs g
get_before [] y g below = absurd (omega (arith, below))
get_before (x ∷ xs) y zero below = refl
get_before (x ∷ xs) y (suc g) below = get_before xs y g (omega (arith, below))

get_last : {X : Type 0} (xs : List X) (y : X) → slice_get (xs ++ y ∷ []) (length xs) ≡ Some y
get_last [] y = refl
get_last (x ∷ xs) y = get_last xs y

pub no_keys : (book : BookView) → HasKeys 0 book []
no_keys book g x below at = absurd (omega (arith, below))
