-- The keys of several guests.
use Rattle.std.specs.Prelude.{ℕ, ◌==◌, if◌then◌else◌, List, [], ◌∷◌, map, Option, Some, None}
use Rattle.rpmb_client.specs.declared.keys.GuestKey.{GuestKey}

-- a guest's number beside its key
abbrev pub pairs_of : List GuestKey → List (ℕ × List ℕ)
pairs_of keys = map (λ k. (k.guest, k.key)) keys

-- the first key of a guest
unfoldable pub key_at : List (ℕ × List ℕ) → ℕ → Option (List ℕ)
key_at [] guest = None
key_at (entry ∷ keys) guest = if entry.0 == guest then Some entry.1 else key_at keys guest

-- the key of a guest: its own, or else that of all others
abbrev pub or_else : Option (List ℕ) → Option (List ℕ) → Option (List ℕ)
or_else None others = others
or_else (Some key) others = Some key

abbrev pub key_for : List (ℕ × List ℕ) → Option (List ℕ) → ℕ → Option (List ℕ)
key_for keys others guest = or_else (key_at keys guest) others
