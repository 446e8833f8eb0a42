-- Made writes are the writes that their words say, and right ones.
use Rattle.std.proofs.Common.{◌≡◌, ◌<◌, ◌≤◌, ◌+◌, ◌-◌, ◌*◌, ◌^◌, ℕ, suc, Bool, true, false, List}
use Rattle.std.proofs.Common.{[], ◌∷◌, Some, length, get_or, refl, ap, sym, ◌∙◌, arith, ltb, leb}
use Rattle.std.proofs.Common.{nat_eq}
use Rattle.std.proofs.lemmas.Bool.Decides.{nat_tests}
use Rattle.rpmb_frame.specs.Frame.{key_mac_of, req_resp_of, last_of}
use Rattle.rpmb_frame.specs.Limits.{Limits}
use Rattle.rpmb_frame.specs.Partition.{Partition, block_count}
use Rattle.rpmb_frame.specs.Request.{DataWrite, command_of, frames_of, request}
use Rattle.rpmb_frame.proofs.Joined.{frames_of-joined, length-joined}
use Rattle.rpmb_frame.proofs.CombinedLemmas.{combines_writes}
use Rattle.hmac256.specs.Hmac.{mac}
use Rattle.rpmb_core.specs.Laws.{IsRightWrite}
use Rattle.rpmb_core.specs.Reply.{joined}
use Rattle.rpmb_core.proofs.Frames.{joined-more}
use Rattle.rpmb_core.proofs.Rightness.{accepts_right_writes}
use Rattle.rpmb_client.specs.Made.{asking, frames_like, result_frame, write_frames, write_header}
use Rattle.rpmb_client.specs.Laws.{AreBlocks, MadeWrites, room_of}
use Rattle.rpmb_core.proofs.Sent.{sealed_verifies}
use Rattle.rpmb_client.proofs.MadeLemmas.{AreMade, AreWrites, alike, are_512, are_typed, at_all}
use Rattle.rpmb_client.proofs.MadeLemmas.{header_is, like_are, like_long, made_are, result_is}

by_test : {P : Type 0} (b : Bool) → (b ≡ true → P) → (b ≡ false → P) → P
by_test true f g = f refl
by_test false f g = g refl

-- frames of writes alone
alone : (counter address count : ℕ) (frames : List (List ℕ)) (limits : Limits)
    → AreWrites counter address count frames → 1 ≤ length frames → length frames ≤ limits.max_wr_cnt
    → command_of (joined frames) 0 limits ≡ DataWrite frames false
unfolding command_of
alone counter address count [] limits all some few = absurd (omega arith)
alone counter address count (f ∷ fs) limits all some few =
    let each = are_512 counter address count (f ∷ fs) all in
    let cut : frames_of (joined (f ∷ fs)) ≡ f ∷ fs = frames_of-joined (f ∷ fs) each in
    let long : length (joined (f ∷ fs)) ≡ 512 * suc (length fs) = length-joined (f ∷ fs) each in
    let last : req_resp_of (get_or (f ∷ fs) (suc (length fs) - 1) []) ≡ 3 =
    (at_all counter address count (f ∷ fs) (suc (length fs) - 1) all (omega arith)).type_is in
    let nonzero : nat_eq (suc (length fs)) 0 ≡ false = grind (arith, nat_tests) in
    let whole : nat_eq (512 * suc (length fs)) (512 * suc (length fs)) ≡ true =
    grind (arith, nat_tests) in
    let fits : ltb (limits.max_wr_cnt + 1) (suc (length fs)) ≡ false = grind (arith, nat_tests) in
    by_test (leb 2 (suc (length fs))) (λ two. by_test (nat_eq (suc (length fs)) 1)
    (λ one. rw (cut, long, last, all.0.type_is, nonzero, whole, fits, two, one) refl)
    (λ more. rw (cut, long, last, all.0.type_is, nonzero, whole, fits, two, more) refl))
    (λ few. by_test (nat_eq (suc (length fs)) 1)
    (λ one. rw (cut, long, last, all.0.type_is, nonzero, whole, fits, few, one) refl)
    (λ more. rw (cut, long, last, all.0.type_is, nonzero, whole, fits, few, more) refl))

right_is : (key : List ℕ) (counter address : ℕ) (blocks frames : List (List ℕ)) (limits : Limits)
    (p : Partition) → AreMade counter address blocks frames → 1 ≤ length blocks
    → length blocks ≤ limits.max_wr_cnt
    → key_mac_of (last_of frames) ≡ mac key frames → p.key ≡ Some key → p.counter ≡ counter
    → address + length blocks ≤ block_count p
    → IsRightWrite p frames limits
right_is key counter address blocks [] limits p made some few sealed_is keyed counted inside =
    absurd (omega (arith, made.many, some))
right_is key counter address blocks (f ∷ fs) limits p made some few sealed_is keyed counted inside =
    record {
      keyed = rw keyed refl;
      header = record {
        some = rw made.each.0.many some;
        few = rw made.each.0.many few;
        many = made.each.0.many ∙ sym made.many;
        alike = alike counter address (length blocks) f (f ∷ fs) made.each.0 made.each;
      };
      inside = rw (made.each.0.at, made.many) inside;
      authentic = rw keyed sealed_is;
      counted = made.each.0.counted ∙ sym counted;
    }

classified_by : (asks : Bool) (key : List ℕ) (counter address : ℕ) (blocks : List (List ℕ))
    (limits : Limits) → AreMade counter address blocks (write_frames key counter address blocks)
    → 1 ≤ length blocks → length blocks ≤ limits.max_wr_cnt
    → command_of (joined (asking asks (write_frames key counter address blocks))) (room_of asks)
    limits ≡ DataWrite (write_frames key counter address blocks) asks
classified_by true key counter address blocks limits made some few =
    let frames = write_frames key counter address blocks in
    ap (λ bytes. command_of bytes 512 limits) (joined-more frames result_frame)
    ∙ combines_writes frames result_frame 512 limits
    (are_typed counter address (length blocks) frames made.each) result_is (rw made.many some)
    (rw made.many few) (omega arith)
classified_by false key counter address blocks limits made some few =
    alone counter address (length blocks) (write_frames key counter address blocks) limits made.each
    (rw made.many some) (rw made.many few)

verifies : (key : List ℕ) (counter address : ℕ) (blocks : List (List ℕ)) → AreBlocks blocks
    → 1 ≤ length blocks → counter < 256 ^ 4 → address < 256 ^ 2 → length blocks < 256 ^ 2
    → key_mac_of (last_of (write_frames key counter address blocks))
    ≡ mac key (write_frames key counter address blocks)
unfolding write_frames
verifies key counter address blocks sizes some c a n =
    let header = write_header counter address (length blocks) in
    sealed_verifies key (frames_like header blocks)
    (are_512 counter address (length blocks) (frames_like header blocks)
    (like_are counter address (length blocks) header blocks sizes
    (header_is counter address (length blocks) c a n)))
    (omega (arith, like_long header blocks, some))

pub made_writes : MadeWrites
unfolding request
made_writes key counter address blocks asks limits sizes some few most counts places =
    let c : counter < 256 ^ 4 = omega arith in
    let a : address < 256 ^ 2 = omega arith in
    let n : length blocks < 256 ^ 2 = omega arith in
    let made = made_are key counter address blocks sizes some c a n in
    let class = classified_by asks key counter address blocks limits made some few in
    record {
      classified = class;
      accepted = λ p keyed counted below inside.
          (accepts_right_writes p (request
          (joined (asking asks (write_frames key counter address blocks))) (room_of asks)
          limits) (write_frames key counter address blocks) asks class).accepted
          (right_is key counter address blocks (write_frames key counter address blocks) limits p
          made some few (verifies key counter address blocks sizes some c a n) keyed counted
          inside)
          (λ ends. below (sym counted ∙ ends));
    }
