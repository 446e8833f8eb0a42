-- What threads wait on: how often each was rung for.
use Rattle.std.specs.Prelude.{◌≡◌, ℕ, ◌+◌, ◌%◌, ◌<◌, ◌==◌, ◌&&◌, ◌-◌, not, nat_le, nat_lt, Bool}
use Rattle.std.specs.Prelude.{true, false}
use Rattle.std.specs.Prelude.{if◌then◌else◌, List, length, slice_index, slice_index_or, slice_set}
use Rattle.workers.specs.declared.bell.Line.{Line}

-- a thread that was rung for once more, of 2^64 times; whether it waits stays
abbrev pub rung : Line → Line
rung l = record l { count = (l.count + 1) % 18446744073709551616 }

-- the lines with this one rung for
abbrev pub rung_at : List Line → ℕ → Line → List Line
rung_at lines n l = slice_set lines n (rung l)

-- whether a guest's number has changed
abbrev pub has_moved : List ℕ → List ℕ → ℕ → Bool
has_moved before now i = nat_lt i (length before) && (nat_lt i (length now)
    && not (slice_index before i == slice_index now i))

-- rung for where that is said
abbrev pub rung_if : Bool → Line → Line
rung_if said l = if said then rung l else l

-- Each of these lines is rung for just where that is said, up to the n-th; and where it isn't told
-- that one waits, none of those that were rung for does.
pub record TellsBelow (n : ℕ) (said : ℕ → Bool) (old : List Line) (told : Bool) (new : List Line)
    : Type 0 where
  pub count : length new ≡ length old
  pub each : (i : ℕ) (l : Line) → i < length old → slice_index_or new i l
      ≡ rung_if (nat_lt i n && said i) (slice_index_or old i l)
  pub quiet : told ≡ false → (i : ℕ) (l : Line) → i < n → i < length old → said i ≡ true
      → (slice_index_or old i l).waits ≡ false

-- Of the workers' lines, which stand from 64 on behind those of as many drivers, just those are
-- rung for of whose guest that is said.
abbrev pub TellsWorkers : (ℕ → Bool) → List Line → Bool → List Line → Type 0
TellsWorkers said old told new = TellsBelow 128 (λ i. nat_le 64 i && said (i - 64)) old told new

-- all of them
abbrev pub TellsAll : ℕ → ℕ → List Line → Bool → List Line → Type 0
TellsAll from until old told new = TellsBelow until (λ i. nat_le from i) old told new
