-- What a list holds, place by place, after some of its items were overwritten.
use Rattle.std.proofs.Common.{◌≡◌, ℕ, zero, suc, ◌+◌, ◌≤◌, ◌<◌, List, ◌∷◌, ◌++◌, length, take, drop}
use Rattle.std.proofs.Common.{get_or, refl, ap, ◌∙◌, arith, drop-cons, length-append, length-drop}
use Rattle.std.proofs.lemmas.List.{places, length-take-le}
use Rattle.disk.specs.Content.{IsOutside, bytes_at, content_of, overwritten}

pub length-overwritten : {A : Type 0} (at : ℕ) (items list : List A)
    → at + length items ≤ length list
    → length (overwritten at items list) ≡ length list
unfolding overwritten
length-overwritten at items list fits =
    omega (
      arith,
      length-append (take at list) (items ++ drop (length items) (drop at list)),
      length-append items (drop (length items) (drop at list)),
      length-take-le at list (omega arith),
      length-drop (length items) (drop at list),
      length-drop at list,
    )

-- within the range, the new items
pub get_or-overwritten_inside : {A : Type 0} (at : ℕ) (items list : List A) (k : ℕ) (d : A)
    → at + length items ≤ length list
    → k < length items → get_or (overwritten at items list) (at + k) d ≡ get_or items k d
unfolding overwritten
get_or-overwritten_inside at items list k d fits below = grind (arith, places)

-- elsewhere, what was there
pub get_or-overwritten_outside : {A : Type 0} (at : ℕ) (items list : List A) (k : ℕ) (d : A)
    → at + length items ≤ length list
    → IsOutside at (length items) k → get_or (overwritten at items list) k d ≡ get_or list k d
unfolding overwritten
get_or-overwritten_outside at items list k d fits outside = grind (arith, places)

-- a range of a list is the bytes of its content
pub range_bytes : (list : List ℕ) (at n : ℕ) → at + n ≤ length list → take n (drop at list)
    ≡ bytes_at (content_of list) at n
unfolding bytes_at
range_bytes list at zero fits = refl
range_bytes list at (suc n) fits =
    let here : at < length list = omega arith in
    ap (take (suc n)) (drop-cons list at 0 here)
    ∙ ap (λ (l : List ℕ). get_or list at 0 ∷ l) (range_bytes list (suc at) n (omega arith))
