-- Made keys, reads and questions are the requests that their words say.
use Rattle.std.proofs.Common.{◌≡◌, ◌<◌, ◌≤◌, ◌+◌, ◌*◌, ◌^◌, ℕ, true, false, List, [], ◌∷◌, ◌++◌}
use Rattle.std.proofs.Common.{Some, length, refl, ap, ◌∙◌, arith, ltb}
use Rattle.std.proofs.lemmas.Bool.Decides.{nat_tests}
use Rattle.std.proofs.lemmas.List.{append-nil}
use Rattle.rpmb_frame.specs.Fields.{fields_of}
use Rattle.rpmb_frame.specs.Frame.{key_mac_of, block_count_of, address_of, req_resp_of, zero_frame}
use Rattle.rpmb_frame.specs.Frame.{with_key_mac, with_nonce, with_address, with_block_count}
use Rattle.rpmb_frame.specs.Limits.{Limits}
use Rattle.rpmb_frame.specs.Request.{ProgramKey, GetWriteCounter, DataRead, ResultRead, command_of}
use Rattle.rpmb_frame.specs.Request.{frames_of, request}
use Rattle.rpmb_frame.proofs.FieldLemmas.{fields_of-with_key_mac, fields_of-with_nonce}
use Rattle.rpmb_frame.proofs.FieldLemmas.{fields_of-with_address, fields_of-with_block_count}
use Rattle.rpmb_frame.proofs.FieldLemmas.{fields_of-with_req_resp}
use Rattle.rpmb_frame.proofs.Lengths.{length-zero_frame}
use Rattle.rpmb_frame.proofs.Joined.{frames_of-joined, length-joined}
use Rattle.rpmb_core.specs.Reply.{joined}
use Rattle.rpmb_core.proofs.Rightness.{gives_right_reads, programs_once}
use Rattle.rpmb_client.specs.Made.{counter_frame, key_frame, key_frames, read_frame, result_frame}
use Rattle.rpmb_client.specs.Laws.{MadeCounter, MadeReads, MadeResult, ProgramsKey}

-- a frame of this type that stands alone
abbrev One : ℕ → List ℕ → Type 0
One type frame = (length frame ≡ 512) × (req_resp_of frame ≡ type)

result_is : One 5 result_frame
unfolding fields_of result_frame
result_is =
    let has = fields_of-with_req_resp 5 zero_frame (omega arith) length-zero_frame in
    (has.long, ap (λ f. f.req_resp) has.each)

counter_is : (nonce : List ℕ) → length nonce ≡ 16 → One 2 (counter_frame nonce)
unfolding fields_of counter_frame
counter_is nonce size =
    let first = fields_of-with_nonce nonce zero_frame size length-zero_frame in
    let second = fields_of-with_block_count 1 (with_nonce nonce zero_frame) (omega arith) first.long
    in
    let last = fields_of-with_req_resp 2 (with_block_count 1 (with_nonce nonce zero_frame))
    (omega arith) second.long in
    (last.long, ap (λ f. f.req_resp) last.each)

-- a read's numbers
record IsRead (address count : ℕ) (frame : List ℕ) : Type 0 where
  pub one : One 4 frame
  pub at : address_of frame ≡ address
  pub many : block_count_of frame ≡ count

read_is : (address count : ℕ) (nonce : List ℕ) → length nonce ≡ 16 → address < 256 ^ 2
    → count < 256 ^ 2 → IsRead address count (read_frame address count nonce)
unfolding fields_of read_frame
read_is address count nonce size a n =
    let first = fields_of-with_nonce nonce zero_frame size length-zero_frame in
    let second = fields_of-with_address address (with_nonce nonce zero_frame) a first.long in
    let third = fields_of-with_block_count count
    (with_address address (with_nonce nonce zero_frame)) n second.long in
    let last = fields_of-with_req_resp 4
    (with_block_count count (with_address address (with_nonce nonce zero_frame))) (omega arith)
    third.long in
    record {
      one = (last.long, ap (λ f. f.req_resp) last.each);
      at = ap (λ f. f.address) last.each ∙ ap (λ f. f.address) third.each
          ∙ ap (λ f. f.address) second.each;
      many = ap (λ f. f.block_count) last.each ∙ ap (λ f. f.block_count) third.each;
    }

-- a key's frame
record IsKey (key frame : List ℕ) : Type 0 where
  pub one : One 1 frame
  pub many : block_count_of frame ≡ 1
  pub carries : key_mac_of frame ≡ key

key_is : (key : List ℕ) → length key ≡ 32 → IsKey key (key_frame key)
unfolding fields_of key_frame
key_is key size =
    let first = fields_of-with_key_mac key zero_frame size length-zero_frame in
    let second = fields_of-with_block_count 1 (with_key_mac key zero_frame) (omega arith) first.long
    in
    let last = fields_of-with_req_resp 1 (with_block_count 1 (with_key_mac key zero_frame))
    (omega arith) second.long in
    record {
      one = (last.long, ap (λ f. f.req_resp) last.each);
      many = ap (λ f. f.block_count) last.each ∙ ap (λ f. f.block_count) second.each;
      carries = ap (λ f. f.key_mac) last.each ∙ ap (λ f. f.key_mac) second.each
          ∙ ap (λ f. f.key_mac) first.each;
    }

-- one frame, by its type
asks_counter : (frame : List ℕ) (writable : ℕ) (limits : Limits) → One 2 frame
    → command_of (joined (frame ∷ [])) writable limits ≡ GetWriteCounter frame
unfolding command_of
asks_counter frame writable limits one =
    let cut : frames_of (joined (frame ∷ [])) ≡ frame ∷ [] =
    frames_of-joined (frame ∷ []) (one.0, tt) in
    let long : length (joined (frame ∷ [])) ≡ 512 = length-joined (frame ∷ []) (one.0, tt) in
    let few : ltb (limits.max_wr_cnt + 1) 1 ≡ false = grind (arith, nat_tests) in
    rw (cut, long, one.1, few) refl

asks_read : (frame : List ℕ) (writable : ℕ) (limits : Limits) → One 4 frame
    → command_of (joined (frame ∷ [])) writable limits ≡ DataRead frame
unfolding command_of
asks_read frame writable limits one =
    let cut : frames_of (joined (frame ∷ [])) ≡ frame ∷ [] =
    frames_of-joined (frame ∷ []) (one.0, tt) in
    let long : length (joined (frame ∷ [])) ≡ 512 = length-joined (frame ∷ []) (one.0, tt) in
    let few : ltb (limits.max_wr_cnt + 1) 1 ≡ false = grind (arith, nat_tests) in
    rw (cut, long, one.1, few) refl

asks_result : (frame : List ℕ) (writable : ℕ) (limits : Limits) → One 5 frame
    → command_of (joined (frame ∷ [])) writable limits ≡ ResultRead
unfolding command_of
asks_result frame writable limits one =
    let cut : frames_of (joined (frame ∷ [])) ≡ frame ∷ [] =
    frames_of-joined (frame ∷ []) (one.0, tt) in
    let long : length (joined (frame ∷ [])) ≡ 512 = length-joined (frame ∷ []) (one.0, tt) in
    let few : ltb (limits.max_wr_cnt + 1) 1 ≡ false = grind (arith, nat_tests) in
    rw (cut, long, one.1, few) refl

pub made_counter : MadeCounter
made_counter nonce limits size =
    asks_counter (counter_frame nonce) 512 limits (counter_is nonce size)

pub made_result : MadeResult
made_result limits = asks_result result_frame 512 limits result_is

pub made_reads : MadeReads
unfolding request
made_reads address count nonce limits size places some few most =
    let is = read_is address count nonce size (omega arith) (omega arith) in
    let frame = read_frame address count nonce in
    let class = asks_read frame (512 * count) limits is.one in
    record {
      classified = class;
      succeeds = λ p key keyed inside.
          (gives_right_reads p (request (joined (frame ∷ [])) (512 * count) limits) frame
          class).succeeds
          (record {
            keyed = rw keyed refl;
            some = rw is.many some;
            few = rw is.many few;
            room = rw is.many (omega arith);
            inside = rw (is.at, is.many) inside;
          });
    }

pub programs_key : (key : List ℕ) (limits : Limits) → length key ≡ 32 → 1 ≤ limits.max_wr_cnt
    → ProgramsKey key limits
unfolding command_of request
programs_key key limits size some =
    let is = key_is key size in
    let first = key_frame key in
    let two : joined (key_frames key) ≡ first ++ result_frame =
    ap (λ rest. first ++ rest) (append-nil result_frame) in
    let cut : frames_of (joined (key_frames key)) ≡ first ∷ result_frame ∷ [] =
    frames_of-joined (first ∷ result_frame ∷ []) (is.one.0, (result_is.0, tt)) in
    let long : length (joined (key_frames key)) ≡ 1024 =
    length-joined (first ∷ result_frame ∷ []) (is.one.0, (result_is.0, tt)) in
    let few : ltb (limits.max_wr_cnt + 1) 2 ≡ false = grind (arith, nat_tests) in
    let class : command_of (joined (key_frames key)) 512 limits ≡ ProgramKey first true =
    rw (cut, long, few, is.one.1, result_is.1) refl in
    record {
      classified = class;
      accepted = λ p none. (programs_once p (request (joined (key_frames key)) 512 limits) first
          true class).accepted is.many none;
      programmed = λ p none.
          let once = programs_once p (request (joined (key_frames key)) 512 limits) first true class
          in
          ap (λ q. q.key) (once.programmed (once.accepted is.many none)) ∙ ap Some is.carries;
    }
