-- What is said of frames, one after another, and the lines of writes.
use Rattle.std.proofs.Common.{◌≡◌, ℕ, suc, ◌+◌, List, Option, Result, Ok, Err, OnOk, arith, subst}
use Rattle.std.proofs.KnownBytes.{Appends-nil, Appends-trans}
use Rattle.std.specs.Io.KnownBytes.{Appends}
use Rattle.std.specs.Prelude.{Bool, [], ◌*◌, get_or, length}
use Rattle.rpmb_frame.specs.Frame.{address_of, block_count_of, block_data_of}
use Rattle.rpmb_client.specs.Lines.{part_of, write_line, write_lines}
use Rattle.rpmb_client.specs.Explained.{checks_of, counter_told, end_told, fields_told, frame_told}
use Rattle.rpmb_client.specs.Explained.{frames_told, kinds_told, place_told}

-- the parts of what is said of a frame, the last of which may fail
pub frame_of_parts : {E : Type 0} (r : Result (Unit {0}) E)
    (start first second third fourth fifth end : Option (List ℕ)) (as_json : Bool) (guest i : ℕ)
    (frames : List (List ℕ)) (key asked : Option (List ℕ))
    → Appends start first (place_told as_json guest (i + 1) (length frames))
    → Appends first second (kinds_told as_json (get_or frames i []))
    → Appends second third (counter_told as_json (get_or frames i []))
    → Appends third fourth (fields_told as_json (address_of (get_or frames i []))
    (block_count_of (get_or frames i [])))
    → Appends fourth fifth (checks_of as_json i frames key asked)
    → OnOk r (Appends fifth end (end_told as_json (block_data_of (get_or frames i []))))
    → OnOk r (Appends start end (frame_told as_json guest i frames key asked))
unfolding frame_told
frame_of_parts (Ok u) start first second third fourth fifth end as_json guest i frames key asked
    place kinds counter fields checks block =
    Appends-trans start first end _ _ place
    (Appends-trans first second end _ _ kinds (Appends-trans second third end _ _ counter
    (Appends-trans third fourth end _ _ fields (Appends-trans fourth fifth end _ _ checks block))))
frame_of_parts (Err e) start first second third fourth fifth end as_json guest i frames key asked
    place kinds counter fields checks block = tt

pub no_frames_yet : (start : Option (List ℕ)) (as_json : Bool) (guest : ℕ)
    (frames : List (List ℕ)) (key asked : Option (List ℕ))
    → Appends start start (frames_told as_json guest 0 frames key asked)
unfolding frames_told
no_frames_yet start as_json guest frames key asked = Appends-nil start

pub one_frame_more : (start now next : Option (List ℕ)) (as_json : Bool) (guest i : ℕ)
    (frames : List (List ℕ)) (key asked : Option (List ℕ))
    → Appends start now (frames_told as_json guest i frames key asked)
    → Appends now next (frame_told as_json guest i frames key asked)
    → Appends start next (frames_told as_json guest (i + 1) frames key asked)
unfolding frames_told
one_frame_more start now next as_json guest i frames key asked before frame =
    let same : suc i ≡ i + 1 = omega arith in
    subst (λ n. Appends start next (frames_told as_json guest n frames key asked)) same
    (Appends-trans start now next (frames_told as_json guest i frames key asked)
    (frame_told as_json guest i frames key asked) before frame)

-- the lines of writes, one after another
pub no_writes_yet : (start : Option (List ℕ)) (guest : ℕ) (key : List ℕ) (counter address most : ℕ)
    (blocks : List (List ℕ)) (asks : Bool)
    → Appends start start (write_lines 0 guest key counter address most blocks asks)
unfolding write_lines
no_writes_yet start guest key counter address most blocks asks = Appends-nil start

pub one_write_more : (start now next : Option (List ℕ)) (k guest : ℕ) (key : List ℕ)
    (counter address most : ℕ) (blocks part : List (List ℕ)) (asks : Bool)
    → Appends start now (write_lines k guest key counter address most blocks asks)
    → part ≡ part_of most k blocks
    → Appends now next (write_line guest key (counter + k) (address + most * k) part asks)
    → Appends start next (write_lines (k + 1) guest key counter address most blocks asks)
unfolding write_lines
one_write_more start now next k guest key counter address most blocks part asks before is line =
    let same : suc k ≡ k + 1 = omega arith in
    let own = subst (λ b. Appends now next (write_line guest key (counter + k) (address + most * k)
    b asks)) is line in
    subst (λ n. Appends start next (write_lines n guest key counter address most blocks asks)) same
    (Appends-trans start now next (write_lines k guest key counter address most blocks asks)
    (write_line guest key (counter + k) (address + most * k) (part_of most k blocks) asks)
    before own)
