-- Contents of a disk: the byte at each place.
use Rattle.std.specs.Prelude.{◌⊎◌, ℕ, zero, suc, ◌+◌, ◌-◌, ◌<◌, ◌≤◌, Bool, List, [], ◌∷◌, ◌++◌}
use Rattle.std.specs.Prelude.{length, take, drop, slice_index, nat_le, nat_lt, ◌&&◌, if◌then◌else◌}

-- the byte at each place
abbrev pub Content : Type 0
Content = ℕ → ℕ

-- zeros at each place
abbrev pub zeros : Content
zeros k = 0

-- the n bytes from a place on
unfoldable pub bytes_at : Content → ℕ → ℕ → List ℕ
bytes_at content at zero = []
bytes_at content at (suc n) = content at ∷ bytes_at content (suc at) n

-- a place outside the n bytes from another place on
abbrev pub IsOutside : ℕ → ℕ → ℕ → Type 0
IsOutside at n k = (k < at) ⊎ (at + n ≤ k)

-- whether a place is one of the n bytes from another place on
abbrev pub in_range : ℕ → ℕ → ℕ → Bool
in_range at n k = nat_le at k && nat_lt k (at + n)

-- a content with these bytes from a place on
unfoldable pub over : ℕ → List ℕ → Content → Content
over at bytes c = λ k. if in_range at (length bytes) k then slice_index bytes (k - at) else c k

-- the bytes of a list, from place 0 on
abbrev pub content_of : List ℕ → Content
content_of bytes = λ k. slice_index bytes k

-- a list with these in place of its own from a place on
unfoldable pub overwritten : {A : Type 0} → ℕ → List A → List A → List A
overwritten at items list = take at list ++ (items ++ drop (length items) (drop at list))
