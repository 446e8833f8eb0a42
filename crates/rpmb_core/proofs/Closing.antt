-- A reply that gets its MAC at last.
use Rattle.std.proofs.Common.{◌≡◌, ◌≤◌, ◌+◌, ◌-◌, ◌*◌, ◌/◌, ◌∙◌, ℕ, zero, suc, Bool, true, false}
use Rattle.std.proofs.Common.{List, [], ◌∷◌, ◌++◌, Option, None, Some, length, take, drop, refl, ap}
use Rattle.std.proofs.Common.{sym, arith, append-nil, length-drop}
use Rattle.rpmb_core.proofs.Common.{if◌then◌else◌, take-append-drop, take_at, first_chunks}
use Rattle.rpmb_core.proofs.Common.{frames_of, frames_of-joined, length-joined, mac, joined, sealed}
use Rattle.rpmb_core.specs.Reply.{closed}
use Rattle.rpmb_core.proofs.Frames.{Are512}
use Rattle.rpmb_core.proofs.Sealing.{put, seal_is}
use Rattle.rpmb_core.proofs.Sent.{cut_are, sealed_are}

pub closes : (key : Option (List ℕ)) (frames : List (List ℕ)) → Are512 frames
    → closed key (joined frames) ≡ joined (sealed key frames)
unfolding closed sealed
closes None frames whole = refl
closes (Some k) frames whole = rw (frames_of-joined frames whole) refl

pub one_closes : (key : Option (List ℕ)) (frame : List ℕ) (answered : Bool)
    → (answered ≡ true → length frame ≡ 512)
    → closed key (joined (if answered then frame ∷ [] else []))
    ≡ joined (sealed key (if answered then frame ∷ [] else []))
one_closes key frame true long = closes key (frame ∷ []) (long refl, tt)
one_closes key frame false long = closes key [] tt

-- whole bytes are their frames
pub joined_chunks : (n : ℕ) (bytes : List ℕ) → length bytes ≡ 512 * n
    → joined (first_chunks 512 n bytes) ≡ bytes
joined_chunks zero [] long = refl
joined_chunks zero (b ∷ bs) long = absurd (omega arith)
joined_chunks (suc n) bytes long =
    ap (λ r. take 512 bytes ++ r)
    (joined_chunks n (drop 512 bytes) (omega (arith, length-drop 512 bytes)))
    ∙ take-append-drop 512 bytes

first_long : (n : ℕ) (bytes : List ℕ) → length (first_chunks 512 n bytes) ≡ n
first_long zero bytes = refl
first_long (suc n) bytes = omega (arith, first_long n (drop 512 bytes))

pub close_is : (key : List ℕ) (n count : ℕ) (chunks : List (List ℕ)) (tag bytes : List ℕ)
    → 1 ≤ count → count ≡ length bytes / 512 → length bytes ≡ 512 * (length bytes / 512) → n ≡ 32
    → chunks ≡ frames_of bytes → tag ≡ mac key chunks → put (512 * (count - 1) + 196) n tag bytes
    ≡ closed (Some key) bytes
unfolding closed
close_is key n count chunks tag bytes some counted long n_is chunks_is tag_is =
    let frames = frames_of bytes in
    let whole : length bytes ≡ 512 * count = omega (arith, counted, long) in
    let are : length frames ≡ count = first_long (length bytes / 512) bytes
    ∙ omega (arith, counted) in
    let back : joined frames ≡ bytes = joined_chunks (length bytes / 512) bytes long in
    let out_is : bytes ≡ joined frames ++ [] = sym back ∙ sym (append-nil (joined frames)) in
    let all : take (512 * count) bytes ≡ bytes = ap (take (512 * count)) (sym (append-nil bytes))
    ∙ take_at bytes [] (512 * count) whole in
    let cut : chunks ≡ first_chunks 512 (length (take (512 * count) bytes) / 512)
    (take (512 * count) bytes) =
    chunks_is ∙ ap (λ b. first_chunks 512 (length b / 512) b) (sym all) in
    seal_is key count n frames chunks tag [] bytes (cut_are bytes) are some n_is out_is cut tag_is
    ∙ append-nil (joined (sealed (Some key) frames))

-- what is closed has as many bytes
pub length-closed : (key : Option (List ℕ)) (bytes : List ℕ)
    → length bytes ≡ 512 * (length bytes / 512) → length (closed key bytes) ≡ length bytes
unfolding closed
length-closed None bytes whole = refl
length-closed (Some key) bytes whole =
    let are = sealed_are (Some key) (frames_of bytes) (length bytes / 512)
    (record { whole = cut_are bytes; many = first_long (length bytes / 512) bytes }) in
    length-joined (sealed (Some key) (frames_of bytes)) are.whole ∙ ap (λ n. 512 * n) are.many
    ∙ sym whole

-- nothing gets no MAC
pub closed_nothing : (key bytes : List ℕ) → length bytes ≡ 0 → bytes ≡ closed (Some key) bytes
closed_nothing key bytes none =
    let long = length-closed (Some key) bytes (omega (arith, none)) in
    both bytes (closed (Some key) bytes) none (long ∙ none)
  where
    both : (xs ys : List ℕ) → length xs ≡ 0 → length ys ≡ 0 → xs ≡ ys
    both [] [] p q = refl
    both [] (y ∷ ys) p q = absurd (omega (arith, q))
    both (x ∷ xs) ys p q = absurd (omega (arith, p))
