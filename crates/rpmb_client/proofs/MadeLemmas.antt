-- The frames of made requests, by their fields.
use Rattle.std.proofs.Common.{◌≡◌, ◌<◌, ◌≤◌, ◌-◌, ◌^◌, ℕ, zero, suc, true, List, [], ◌∷◌, length}
use Rattle.std.proofs.Common.{set, get_or, refl, ap, ◌∙◌, arith}
use Rattle.std.specs.List.{list_all, AllByRecursion}
use Rattle.std.proofs.lemmas.Bool.Decides.{nat_tests}
use Rattle.rpmb_frame.specs.Codes.{req_data_write, req_result_read}
use Rattle.rpmb_frame.specs.Combined.{IsFrameOf}
use Rattle.rpmb_frame.specs.Fields.{Fields, HasFields, fields_of}
use Rattle.rpmb_frame.specs.Frame.{write_counter_of, block_count_of, address_of, req_resp_of}
use Rattle.rpmb_frame.specs.Frame.{zero_frame, with_key_mac, with_block_data, with_write_counter}
use Rattle.rpmb_frame.specs.Frame.{with_address, with_block_count}
use Rattle.rpmb_frame.proofs.FieldLemmas.{fields_of-with_key_mac, fields_of-with_block_data}
use Rattle.rpmb_frame.proofs.FieldLemmas.{fields_of-with_write_counter, fields_of-with_address}
use Rattle.rpmb_frame.proofs.FieldLemmas.{fields_of-with_block_count, fields_of-with_req_resp}
use Rattle.rpmb_frame.proofs.Lengths.{length-zero_frame}
use Rattle.hmac256.specs.Hmac.{mac}
use Rattle.hmac256.proofs.Lengths.{length-mac}
use Rattle.rpmb_core.specs.Reply.{sealed}
use Rattle.rpmb_core.specs.Verdict.{same_header}
use Rattle.rpmb_client.specs.Made.{frames_like, result_frame, write_frames, write_header}
use Rattle.rpmb_client.specs.Laws.{AreBlocks}

-- the numbers of a frame
pub record IsFrame (type counter address count : ℕ) (frame : List ℕ) : Type 0 where
  pub long : length frame ≡ 512
  pub type_is : req_resp_of frame ≡ type
  pub counted : write_counter_of frame ≡ counter
  pub at : address_of frame ≡ address
  pub many : block_count_of frame ≡ count

-- frames whose numbers don't differ
same_numbers : (type counter address count : ℕ) (before after : List ℕ) (fields : Fields)
    → IsFrame type counter address count before → HasFields after fields
    → fields.req_resp ≡ req_resp_of before → fields.write_counter ≡ write_counter_of before
    → fields.address ≡ address_of before → fields.block_count ≡ block_count_of before
    → IsFrame type counter address count after
unfolding fields_of
same_numbers type counter address count before after fields is has t c a n = record {
  long = has.long;
  type_is = ap (λ f. f.req_resp) has.each ∙ t ∙ is.type_is;
  counted = ap (λ f. f.write_counter) has.each ∙ c ∙ is.counted;
  at = ap (λ f. f.address) has.each ∙ a ∙ is.at;
  many = ap (λ f. f.block_count) has.each ∙ n ∙ is.many;
}

keeps_block : (type counter address count : ℕ) (block frame : List ℕ) → length block ≡ 256
    → IsFrame type counter address count frame
    → IsFrame type counter address count (with_block_data block frame)
unfolding fields_of
keeps_block type counter address count block frame size is =
    same_numbers type counter address count frame (with_block_data block frame) _ is
    (fields_of-with_block_data block frame size is.long) refl refl refl refl

keeps_mac : (type counter address count : ℕ) (tag frame : List ℕ) → length tag ≡ 32
    → IsFrame type counter address count frame
    → IsFrame type counter address count (with_key_mac tag frame)
unfolding fields_of
keeps_mac type counter address count tag frame size is =
    same_numbers type counter address count frame (with_key_mac tag frame) _ is
    (fields_of-with_key_mac tag frame size is.long) refl refl refl refl

pub header_is : (counter address count : ℕ) → counter < 256 ^ 4 → address < 256 ^ 2
    → count < 256 ^ 2 → IsFrame 3 counter address count (write_header counter address count)
unfolding fields_of write_header
header_is counter address count c a n =
    let first = fields_of-with_write_counter counter zero_frame c length-zero_frame in
    let second = fields_of-with_address address (with_write_counter counter zero_frame) a first.long
    in
    let third = fields_of-with_block_count count
    (with_address address (with_write_counter counter zero_frame)) n second.long in
    let last = fields_of-with_req_resp 3
    (with_block_count count (with_address address (with_write_counter counter zero_frame)))
    (omega arith) third.long in
    record {
      long = last.long;
      type_is = ap (λ f. f.req_resp) last.each;
      counted = ap (λ f. f.write_counter) last.each ∙ ap (λ f. f.write_counter) third.each
          ∙ ap (λ f. f.write_counter) second.each ∙ ap (λ f. f.write_counter) first.each;
      at = ap (λ f. f.address) last.each ∙ ap (λ f. f.address) third.each
          ∙ ap (λ f. f.address) second.each;
      many = ap (λ f. f.block_count) last.each ∙ ap (λ f. f.block_count) third.each;
    }

abbrev pub AreWrites : (counter address count : ℕ) → List (List ℕ) → Type 0
AreWrites counter address count frames = AllByRecursion (IsFrame 3 counter address count) frames

pub like_are : (counter address count : ℕ) (header : List ℕ) (blocks : List (List ℕ))
    → AreBlocks blocks → IsFrame 3 counter address count header
    → AreWrites counter address count (frames_like header blocks)
unfolding frames_like
like_are counter address count header [] sizes is = tt
like_are counter address count header (b ∷ bs) sizes is = (
  keeps_block 3 counter address count b header sizes.0 is,
  like_are counter address count header bs sizes.1 is,
)

pub like_long : (header : List ℕ) (blocks : List (List ℕ)) → length (frames_like header blocks)
    ≡ length blocks
unfolding frames_like
like_long header [] = refl
like_long header (b ∷ bs) = ap suc (like_long header bs)

set_all : (counter address count : ℕ) (frames : List (List ℕ)) (m : ℕ) (f : List ℕ)
    → AreWrites counter address count frames → IsFrame 3 counter address count f
    → AreWrites counter address count (set frames m f)
set_all counter address count [] m f all is = tt
set_all counter address count (g ∷ fs) zero f all is = (is, all.1)
set_all counter address count (g ∷ fs) (suc m) f all is =
    (all.0, set_all counter address count fs m f all.1 is)

pub set_long : (frames : List (List ℕ)) (m : ℕ) (f : List ℕ) → length (set frames m f)
    ≡ length frames
set_long [] m f = refl
set_long (g ∷ fs) zero f = refl
set_long (g ∷ fs) (suc m) f = ap suc (set_long fs m f)

pub at_all : (counter address count : ℕ) (frames : List (List ℕ)) (m : ℕ)
    → AreWrites counter address count frames → m < length frames
    → IsFrame 3 counter address count (get_or frames m [])
at_all counter address count [] m all lt = absurd (omega arith)
at_all counter address count (f ∷ fs) zero all lt = all.0
at_all counter address count (f ∷ fs) (suc m) all lt =
    at_all counter address count fs m all.1 (omega arith)

-- the frames of a made write
pub record AreMade (counter address : ℕ) (blocks frames : List (List ℕ)) : Type 0 where
  pub each : AreWrites counter address (length blocks) frames
  pub many : length frames ≡ length blocks

pub made_are : (key : List ℕ) (counter address : ℕ) (blocks : List (List ℕ)) → AreBlocks blocks
    → 1 ≤ length blocks → counter < 256 ^ 4 → address < 256 ^ 2 → length blocks < 256 ^ 2
    → AreMade counter address blocks (write_frames key counter address blocks)
unfolding write_frames sealed
made_are key counter address blocks sizes some c a n =
    let header = write_header counter address (length blocks) in
    let frames = frames_like header blocks in
    let count = length blocks in
    let are = like_are counter address count header blocks sizes
    (header_is counter address count c a n) in
    let long = like_long header blocks in
    let m = length frames - 1 in
    let last = keeps_mac 3 counter address count (mac key frames) (get_or frames m [])
    (length-mac key frames) (at_all counter address count frames m are
    (omega (arith, long, some))) in
    record {
      each = set_all counter address count frames m
          (with_key_mac (mac key frames) (get_or frames m [])) are last;
      many = set_long frames m (with_key_mac (mac key frames) (get_or frames m [])) ∙ long;
    }

pub are_512 : (counter address count : ℕ) (frames : List (List ℕ))
    → AreWrites counter address count frames → AllByRecursion (λ frame. length frame ≡ 512) frames
are_512 counter address count [] all = tt
are_512 counter address count (f ∷ fs) all = (all.0.long, are_512 counter address count fs all.1)

pub are_typed : (counter address count : ℕ) (frames : List (List ℕ))
    → AreWrites counter address count frames → AllByRecursion (IsFrameOf req_data_write) frames
are_typed counter address count [] all = tt
are_typed counter address count (f ∷ fs) all = (
  record { long = all.0.long; type_is = all.0.type_is },
  are_typed counter address count fs all.1,
)

pub alike : (counter address count : ℕ) (first : List ℕ) (frames : List (List ℕ))
    → IsFrame 3 counter address count first → AreWrites counter address count frames
    → list_all (same_header first) frames ≡ true
alike counter address count first [] is all = refl
alike counter address count first (f ∷ fs) is all =
    let here : same_header first f ≡ true =
    rw (
      is.type_is,
      is.counted,
      is.at,
      is.many,
      all.0.type_is,
      all.0.counted,
      all.0.at,
      all.0.many,
    ) (grind (arith, nat_tests)) in
    rw here (alike counter address count first fs is all.1)

pub result_is : IsFrameOf req_result_read result_frame
unfolding fields_of result_frame
result_is =
    let has = fields_of-with_req_resp 5 zero_frame (omega arith) length-zero_frame in
    record { long = has.long; type_is = ap (λ f. f.req_resp) has.each }
