-- What is kept of lines that come one after another, to find the answer among them.
use Rattle.std.specs.Prelude.{ℕ, ◌≡◌, ◌+◌, Bool, false, true, if◌then◌else◌, List, [], ◌∷◌, Option}
use Rattle.std.specs.Prelude.{None, Some, length, min, option_map}
use Rattle.rpmb_client.specs.Answer.{Used, replies_of}
use Rattle.rpmb_client.specs.Seen.{used_seen}
use Rattle.rpmb_client.specs.declared.choosing.Finder.{Finder}
use Rattle.rpmb_client.specs.declared.choosing.Kept as rust

-- of replies the first, and whether there are more
pub record Kept : Type 0 where
  pub first : Option Used
  pub has_more : Bool

unfoldable pub kept_of : List Used → Kept
kept_of [] = record { first = None; has_more = false }
kept_of (used ∷ []) = record { first = Some used; has_more = false }
kept_of (used ∷ next ∷ rest) = record { first = Some used; has_more = true }

-- with one reply more, where there is one
abbrev pub with_reply : Kept → Option Used → Used → Kept
with_reply kept None used = record kept { first = Some used }
with_reply kept (Some first) used = record kept { has_more = true }

abbrev pub kept_after : Kept → Option Used → Kept
kept_after kept None = kept
kept_after kept (Some used) = with_reply kept kept.first used

-- the only one
abbrev pub only_kept : Kept → Option Used
only_kept kept = if kept.has_more then None else kept.first

-- the answer is the only one of all, or else the only one with the nonce
abbrev pub or_else : Option Used → Option Used → Option Used
or_else None asked = asked
or_else (Some used) asked = Some used

abbrev pub kept_seen : rust.Kept → Kept
kept_seen kept = record { first = option_map used_seen kept.first; has_more = kept.has_more }

-- how many there are, as far as 64 bits have numbers
abbrev pub most : ℕ
most = 18446744073709551615

abbrev pub counted : List Used → ℕ
counted useds = min (length useds) most

-- with one more, where there is one
abbrev pub count_after : ℕ → Bool → ℕ
count_after count is_one = if is_one then min (count + 1) most else count

-- what comes of lines for a nonce: what is kept of all their replies, and of those with the nonce,
-- and how many there are of each
pub record IsFinder (nonce : List ℕ) (lines : List (List ℕ)) (finder : Finder) : Type 0 where
  pub nonce_is : finder.nonce ≡ nonce
  pub all_is : kept_seen finder.all ≡ kept_of (replies_of None lines)
  pub asked_is : kept_seen finder.asked ≡ kept_of (replies_of (Some nonce) lines)
  pub count_is : finder.counts.0 ≡ counted (replies_of None lines)
  pub asked_count_is : finder.counts.1 ≡ counted (replies_of (Some nonce) lines)
