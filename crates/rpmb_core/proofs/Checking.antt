-- The frames of a write are the first of those that its bytes are cut into, so what a check says of
-- the bytes it says
-- of the request.
use Rattle.std.proofs.Common.{◌≡◌, ◌≢◌, ◌-◌, ◌*◌, ◌+◌, ◌≤◌, ℕ, zero, suc, Bool, true, false, ◌&&◌}
use Rattle.std.proofs.Common.{◌||◌, List, [], ◌∷◌, length, take, refl, ap, sym, ◌∙◌, subst, eqb}
use Rattle.std.proofs.Common.{leb, ltb, arith}
use Rattle.rpmb_core.proofs.Common.{not, nat_tests, req_program_key, req_get_write_counter}
use Rattle.rpmb_core.proofs.Common.{req_data_write, req_data_read, req_result_read, req_resp_of}
use Rattle.rpmb_core.proofs.Common.{first_of, last_of, Limits, Request, Command, ProgramKey}
use Rattle.rpmb_core.proofs.Common.{GetWriteCounter, DataWrite, DataRead, ResultRead, Malformed}
use Rattle.rpmb_core.proofs.Common.{command_of, frames_of, first_row, Says}
use Rattle.rpmb_frame.specs.Request.{request}
use Rattle.rpmb_core.specs.Verdict.{has_mac}
use Rattle.rpmb_core.specs.MacCheck.{SaysOf, SaysOfWrite, SaysOfCommand, Covers}
use Rattle.rpmb_core.specs.declared.mac_check.MacCheck.{MacCheck}

-- a fact of the frames of a write
abbrev pub OfWrite : (List (List ℕ) → Type 0) → Command → Type 0
OfWrite P (DataWrite frames combined) = P frames
OfWrite P _ = Unit {0}

of_table : (P : List (List ℕ) → Type 0) (a b c d e f g h : Bool) (first : List ℕ)
    (initial all : List (List ℕ))
    → (a ≡ false → d ≡ true → P initial) → (a ≡ false → e ≡ true → P all)
    → OfWrite P (first_row ((a, Malformed) ∷ (b, ProgramKey first false)
    ∷ (c, ProgramKey first true) ∷ (d, DataWrite initial true) ∷ (e, DataWrite all false)
    ∷ (f, GetWriteCounter first) ∷ (g, DataRead first) ∷ (h, ResultRead) ∷ []) Malformed)
of_table P true b c d e f g h first initial all combined alone = tt
of_table P false true c d e f g h first initial all combined alone = tt
of_table P false false true d e f g h first initial all combined alone = tt
of_table P false false false true e f g h first initial all combined alone = combined refl refl
of_table P false false false false true f g h first initial all combined alone = alone refl refl
of_table P false false false false false true g h first initial all combined alone = tt
of_table P false false false false false false true h first initial all combined alone = tt
of_table P false false false false false false false true first initial all combined alone = tt
of_table P false false false false false false false false first initial all combined alone = tt

-- what is known of frames that ask for a write, and of how many the write has
pub record AsksForWrite (all : List (List ℕ)) : Type 0 where
  pub some : 1 ≤ length all
  pub type_is : req_resp_of (first_of all) ≡ req_data_write

pub record IsCombined (all : List (List ℕ)) : Type 0 where
  pub asks : AsksForWrite all
  pub two : 2 ≤ length all
  pub asks_result : req_resp_of (last_of all) ≡ req_result_read

pub record IsAlone (all : List (List ℕ)) : Type 0 where
  pub asks : AsksForWrite all
  pub no_result : 2 ≤ length all → req_resp_of (last_of all) ≢ req_result_read

some_of : (n : ℕ) (b c : Bool) → (eqb n 0 || b || c) ≡ false → 1 ≤ n
some_of n b c is = grind (arith, nat_tests)

combined_of : (type n last writable : ℕ) → (eqb type 3 && leb 2 n && eqb last 5 && leb 512 writable)
    ≡ true → (type ≡ 3) × (2 ≤ n) × (last ≡ 5)
combined_of type n last writable is = (
  grind (arith, nat_tests),
  grind (arith, nat_tests),
  grind (arith, nat_tests),
)

type_of : (type n last : ℕ) → (eqb type 3 && (eqb n 1 || not (eqb last 5))) ≡ true → type ≡ 3
type_of type n last is = grind (arith, nat_tests)

alone_of : (type n last : ℕ) → (eqb type 3 && (eqb n 1 || not (eqb last 5))) ≡ true → 2 ≤ n
    → last ≡ 5 → ⊥
alone_of type n last is two asks = grind (arith, nat_tests)

of_write : (P : List (List ℕ) → Type 0) (bytes : List ℕ) (writable : ℕ) (limits : Limits)
    → (IsCombined (frames_of bytes) → P (take (length (frames_of bytes) - 1) (frames_of bytes)))
    → (IsAlone (frames_of bytes) → P (frames_of bytes))
    → OfWrite P (command_of bytes writable limits)
unfolding command_of
of_write P bytes writable limits combined alone =
    let frames = frames_of bytes in
    let n = length frames in
    let type = req_resp_of (first_of frames) in
    let last = req_resp_of (last_of frames) in
    let asks = eqb last req_result_read in
    of_table P (eqb n 0 || not (eqb (512 * n) (length bytes)) || ltb (limits.max_wr_cnt + 1) n)
    (eqb type req_program_key && eqb n 1)
    (eqb type req_program_key && eqb n 2 && asks && leb 512 writable) (eqb type req_data_write
    && leb 2 n && asks && leb 512 writable)
    (eqb type req_data_write && (eqb n 1 || not asks)) (eqb type req_get_write_counter && eqb n 1)
    (eqb type req_data_read && eqb n 1) (eqb type req_result_read && eqb n 1) (first_of frames)
    (take (n - 1) frames) frames
    (λ whole is. (let are = combined_of type n last writable is in
    combined (record {
      asks = record { some = some_of n _ _ whole; type_is = are.0 };
      two = are.1;
      asks_result = are.2;
    })))
    (λ whole is. alone (record {
      asks =
          record { some = some_of n _ _ whole; type_is = type_of type n last is };
      no_result =
          alone_of type n last is;
    }))

-- the first frames of these, as many as they are
abbrev pub AreFirst : List (List ℕ) → List (List ℕ) → Type 0
AreFirst all frames = frames ≡ take (length frames) all

first_taken : (n : ℕ) (all : List (List ℕ)) → AreFirst all (take n all)
first_taken zero all = refl
first_taken (suc n) [] = refl
first_taken (suc n) (f ∷ fs) = ap (λ rest. f ∷ rest) (first_taken n fs)

all_taken : (all : List (List ℕ)) → AreFirst all all
all_taken [] = refl
all_taken (f ∷ fs) = ap (λ rest. f ∷ rest) (all_taken fs)

are_first : (bytes : List ℕ) (writable : ℕ) (limits : Limits)
    → OfWrite (AreFirst (frames_of bytes)) (command_of bytes writable limits)
are_first bytes writable limits =
    of_write (AreFirst (frames_of bytes)) bytes writable limits (λ combined.
    first_taken (length (frames_of bytes) - 1) (frames_of bytes)) (λ alone.
    all_taken (frames_of bytes))

-- the frames of a write are the first of all that stand in its bytes
pub write_frames : (bytes : List ℕ) (writable : ℕ) (limits : Limits) (frames : List (List ℕ))
    (combined : Bool)
    → command_of bytes writable limits ≡ DataWrite frames combined
    → frames ≡ take (length frames) (frames_of bytes)
write_frames bytes writable limits frames combined is =
    subst (OfWrite (AreFirst (frames_of bytes))) is (are_first bytes writable limits)

says_of_command : (all : List (List ℕ)) (command : Command) (check : MacCheck)
    → OfWrite (AreFirst all) command → Says all check → SaysOfCommand command check
unfolding Says SaysOfWrite
says_of_command all (DataWrite frames combined) check first says =
    λ some many. says some ∙ ap (has_mac check.key) (ap (λ n. take n all) many ∙ sym first)
says_of_command all (ProgramKey frame combined) check first says = tt
says_of_command all (GetWriteCounter frame) check first says = tt
says_of_command all (DataRead frame) check first says = tt
says_of_command all ResultRead check first says = tt
says_of_command all Malformed check first says = tt

-- what a check says of bytes it says of each request that they may be, whatever their chain's room
-- and the guest's limits
pub says_of : (bytes : List ℕ) (writable : ℕ) (limits : Limits) (check : MacCheck)
    → Says (frames_of bytes) check → SaysOf (request bytes writable limits) check
unfolding SaysOf request
says_of bytes writable limits check says =
    says_of_command (frames_of bytes) (command_of bytes writable limits) check
    (are_first bytes writable limits) says

-- a check of no frames says nothing
pub says_nothing : (frames : List (List ℕ)) (check : MacCheck) → check.count ≡ 0 → Says frames check
unfolding Says
says_nothing frames check none = λ some. absurd (omega (arith, none, some))

nothing_of_command : (command : Command) (check : MacCheck) → check.count ≡ 0
    → SaysOfCommand command check
unfolding SaysOfWrite
nothing_of_command (DataWrite frames combined) check none = λ some many.
    absurd (omega (arith, none, some))
nothing_of_command (ProgramKey frame combined) check none = tt
nothing_of_command (GetWriteCounter frame) check none = tt
nothing_of_command (DataRead frame) check none = tt
nothing_of_command ResultRead check none = tt
nothing_of_command Malformed check none = tt

pub says_nothing_of : (r : Request) (check : MacCheck) → check.count ≡ 0 → SaysOf r check
unfolding SaysOf
says_nothing_of r check none = nothing_of_command r.command check none

-- a check of some first frames says as much of all of them
pub says_first : (n : ℕ) (all : List (List ℕ)) (check : MacCheck) → Says (take n all) check
    → check.count ≡ length (take n all) → Says all check
unfolding Says
says_first n all check says many =
    let taken : take check.count (take n all) ≡ take check.count all =
    ap (λ k. take k (take n all)) many ∙ sym (all_taken (take n all)) ∙ first_taken n all
    ∙ ap (λ k. take k all) (sym many) in
    λ some. says some ∙ ap (has_mac check.key) taken

-- a check of these frames under this key
abbrev pub IsCovered : List ℕ → MacCheck → List (List ℕ) → Type 0
IsCovered key check frames = (check.count ≡ length frames) × (check.key ≡ key)

covers_by : (bytes key : List ℕ) (check : MacCheck) (all : List (List ℕ)) → all ≡ frames_of bytes
    → (IsCombined all → IsCovered key check (take (length all - 1) all))
    → (IsAlone all → IsCovered key check all) → Covers bytes key check
unfolding Covers
covers_by bytes key check all cut combined alone = λ writable limits frames combines is.
    (let P = λ (fs : List (List ℕ)). (IsCombined fs → IsCovered key check (take (length fs - 1) fs))
    × (IsAlone fs → IsCovered key check fs) in
    let both : P (frames_of bytes) = subst P cut (combined, alone) in
    subst (OfWrite (IsCovered key check)) is (of_write (IsCovered key check) bytes writable limits
    both.0 both.1))

-- no frames ask for no write
pub covers_empty : (bytes key : List ℕ) (check : MacCheck) (all : List (List ℕ))
    → all ≡ frames_of bytes → length all ≡ 0 → Covers bytes key check
covers_empty bytes key check all cut none =
    covers_by bytes key check all cut (λ is. absurd (omega (arith, is.asks.some, none))) (λ is.
    absurd (omega (arith, is.asks.some, none)))

-- nor do frames of another type
pub covers_other : (bytes key : List ℕ) (check : MacCheck) (all : List (List ℕ))
    → all ≡ frames_of bytes → req_resp_of (first_of all) ≢ req_data_write → Covers bytes key check
covers_other bytes key check all cut other =
    covers_by bytes key check all cut (λ is. absurd (other is.asks.type_is)) (λ is.
    absurd (other is.asks.type_is))

-- the frame that asks for the result isn't one of the write's
pub covers_first : (bytes key : List ℕ) (check : MacCheck) (all : List (List ℕ))
    → all ≡ frames_of bytes → 2 ≤ length all → req_resp_of (last_of all) ≡ req_result_read
    → IsCovered key check (take (length all - 1) all) → Covers bytes key check
covers_first bytes key check all cut two asks covered =
    covers_by bytes key check all cut (λ is. covered) (λ is. absurd (is.no_result two asks))

-- without one, all frames are
pub covers_all : (bytes key : List ℕ) (check : MacCheck) (all : List (List ℕ))
    → all ≡ frames_of bytes → (2 ≤ length all → req_resp_of (last_of all) ≢ req_result_read)
    → IsCovered key check all → Covers bytes key check
covers_all bytes key check all cut none covered =
    covers_by bytes key check all cut (λ is. absurd (none is.two is.asks_result)) (λ is. covered)
