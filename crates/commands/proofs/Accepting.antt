-- What the lines of a run have accepted, and of which guest.
use Rattle.std.proofs.Common.{◌≡◌, ◌<◌, ◌+◌, ℕ, Bool, true, false, List, [], ◌∷◌, ◌++◌, Option}
use Rattle.std.proofs.Common.{Some, None, Result, Ok, Err, length, map, refl, ap, sym, ◌∙◌, arith}
use Rattle.commands.proofs.Common.{slice_get, append-nil, length-append, slice_get-get_or}
use Rattle.commands.proofs.Common.{Partition, sequence, Request, GuestConfig, sequence_of_all}
use Rattle.commands.proofs.Common.{DiskState, GuestCore, GuestState, Said, chain, nothing, reset}
use Rattle.commands.proofs.Common.{store, StaysLinked, BoardState, guests, is_broken, GuestView}
use Rattle.commands.proofs.Common.{HostState, HostView, ResetsAt, StoresAt, seen, GoOn, runner_of}
use Rattle.commands.proofs.Common.{HostFault, LineDone, LineFails, NextFails, Fault}
use Rattle.std.specs.Prelude.{option_map}
use Rattle.std.proofs.lemmas.List.{nil_from_length}
use Rattle.std.proofs.lemmas.Option.{slice_get-map}
use Rattle.queue_looks.specs.Runner.{since}
use Rattle.commands.specs.Moments.{AcceptsOwn, NextAccepts}

pub guest_at : (xs : List GuestState) (g : ℕ) → g < length xs → (x : GuestState)
    × (slice_get xs g ≡ Some x)
guest_at [] g inside = absurd (omega (arith, inside))
guest_at (x ∷ xs) g inside = (_, slice_get-get_or (x ∷ xs) g x inside)

-- a guest's partition, by what its answers depend on
abbrev pub partition_in : List GuestCore → ℕ → Option Partition
partition_in cores g = option_map (λ (c : GuestCore). c.partition) (slice_get cores g)

partition_at : (xs : List GuestState) (g : ℕ) (x : GuestState) → slice_get xs g ≡ Some x
    → partition_in (map (λ (y : GuestState). y.core) xs) g ≡ Some x.core.partition
partition_at xs g x at = ap (option_map (λ (c : GuestCore). c.partition))
    (slice_get-map (λ (y : GuestState). y.core) xs g
    ∙ ap (option_map (λ (y : GuestState). y.core)) at)

-- where a guest's partition stayed, nothing more of it was accepted
pub none_more : {D : Type 0} (shows : D → DiskState) (board : List GuestConfig) (bases : ℕ
    → Partition) (accepted now : ℕ → List Request) (b c : BoardState D)
    → StaysLinked shows board bases accepted b
    → StaysLinked shows board bases now c → GoOn accepted now → (g : ℕ) → g < length board
    → partition_in (runner_of c).cores g ≡ partition_in (runner_of b).cores g
    → now g ≡ accepted g
none_more shows board bases accepted now b c old new more g inside same =
    let many = old.linked.many in
    let many_then = new.linked.many in
    let x = guest_at (guests b) g (omega (arith, inside, many)) in
    let y = guest_at (guests c) g (omega (arith, inside, many_then)) in
    let t = (old.linked.each g x.0 x.1).link in
    let u = (new.linked.each g y.0 y.1).link in
    let stays : y.0.core.partition ≡ x.0.core.partition =
    some_is (sym (partition_at (guests c) g y.0 y.1) ∙ same ∙ partition_at (guests b) g x.0 x.1)
    in
    let before : sequence x.0.core.partition ≡ sequence (bases g) + length (accepted g) =
    ap sequence t.partition ∙ sequence_of_all (bases g) (accepted g) t.in_turn in
    let after : sequence x.0.core.partition ≡ sequence (bases g) + length (now g) =
    ap sequence (sym stays ∙ u.partition) ∙ sequence_of_all (bases g) (now g) u.in_turn in
    let r = more g in
    let sum : length (now g) ≡ length (accepted g) + length r.0 = ap length r.1
    ∙ length-append (accepted g) r.0 in
    r.1 ∙ ap (λ rest. accepted g ++ rest) (nil_from_length r.0 (omega (arith, before, after, sum)))
    ∙ append-nil (accepted g)
  where
    some_is : {X : Type 0} {a b : X} → Some a ≡ Some b → a ≡ b
    some_is e = cc

-- a chain of another guest leaves its partition
spared : (was broke : Bool) (o : Option GuestCore)
    → option_map (λ (c : GuestCore). c.partition) (option_map (since was broke) o)
    ≡ option_map (λ (c : GuestCore). c.partition) o
spared was broke None = refl
spared true broke (Some c) = refl
spared false true (Some c) = refl
spared false false (Some c) = refl

-- and a break leaves all of them
pub parted : (was broke : Bool) (cores : List GuestCore) (g : ℕ)
    → partition_in (map (since was broke) cores) g ≡ partition_in cores g
parted was broke cores g = ap (option_map (λ (c : GuestCore). c.partition))
    (slice_get-map (since was broke) cores g) ∙ spared was broke (slice_get cores g)

store_rests : (o : Option GuestView) (h h' : HostView) (guest at : ℕ) (bytes : List ℕ)
    (told : Result (Unit {0}) HostFault) → StoresAt o h guest at bytes told h'
    → h'.runner ≡ h.runner
store_rests None h h' guest at bytes told s = ap (λ x. x.runner) s.1
store_rests (Some g) h h' guest at bytes told s = ap (λ x. x.runner) s.2

reset_rests : (o : Option GuestView) (h h' : HostView) (guest : ℕ)
    (told : Result (Unit {0}) HostFault) → ResetsAt o h guest told h' → h'.runner ≡ h.runner
reset_rests None h h' guest told r = ap (λ x. x.runner) r.1
reset_rests (Some g) h h' guest told r = ap (λ x. x.runner) r.1

-- of which guest a line has requests accepted
pub accepts_own : {D : Type 0} (shows : D → DiskState) (board : List GuestConfig) (bases : ℕ
    → Partition) (accepted now : ℕ → List Request) (h h' : HostState D)
    (start next : Option (List ℕ)) (line : Said)
    → StaysLinked shows board bases accepted h.board → StaysLinked shows board bases now h'.board
    → GoOn accepted now → LineDone line h start next h' → AcceptsOwn board line accepted now
accepts_own shows board bases accepted now h h' start next nothing old new more done =
    λ g inside. none_more shows board bases accepted now h.board h'.board old new more g inside
    (ap (λ x. partition_in (seen x).runner.cores g) done.0)
accepts_own shows board bases accepted now h h' start next (chain guest readable writable) old new
    more done =
    λ g inside other. none_more shows board bases accepted now h.board h'.board old new more g
    inside
    (ap (option_map (λ (c : GuestCore). c.partition)) (done.call.others.cores g other)
    ∙ spared (is_broken h.board) (is_broken h'.board) (slice_get (runner_of h.board).cores g))
accepts_own shows board bases accepted now h h' start next (store guest at bytes) old new more done
    =
    λ g inside. none_more shows board bases accepted now h.board h'.board old new more g inside
    (ap (λ r. partition_in r.cores g) (store_rests (slice_get (seen h).guests guest) (seen h)
    (seen h') guest at bytes (Ok tt) done.0.own))
accepts_own shows board bases accepted now h h' start next (reset guest) old new more done =
    λ g inside. none_more shows board bases accepted now h.board h'.board old new more g inside
    (ap (λ r. partition_in r.cores g) (reset_rests (slice_get (seen h).guests guest) (seen h)
    (seen h') guest (Ok tt) done.0.own))

-- and of which one that ended the run
fails_own : {D : Type 0} (shows : D → DiskState) (board : List GuestConfig) (bases : ℕ → Partition)
    (accepted now : ℕ → List Request) (h h' : HostState D) (f : Fault) (line : Said)
    → StaysLinked shows board bases accepted h.board → StaysLinked shows board bases now h'.board
    → GoOn accepted now → LineFails line h f h' → AcceptsOwn board line accepted now
fails_own shows board bases accepted now h h' f nothing old new more fails = absurd fails
fails_own shows board bases accepted now h h' f (chain guest readable writable) old new more fails =
    λ g inside other. none_more shows board bases accepted now h.board h'.board old new more g
    inside
    (ap (option_map (λ (c : GuestCore). c.partition)) (fails.call.others.cores g other)
    ∙ spared (is_broken h.board) (is_broken h'.board) (slice_get (runner_of h.board).cores g))
fails_own shows board bases accepted now h h' f (store guest at bytes) old new more fails =
    λ g inside. none_more shows board bases accepted now h.board h'.board old new more g inside
    (ap (λ r. partition_in r.cores g) (store_rests (slice_get (seen h).guests guest) (seen h)
    (seen h') guest at bytes (Err fails.0) fails.1.own))
fails_own shows board bases accepted now h h' f (reset guest) old new more fails =
    λ g inside. none_more shows board bases accepted now h.board h'.board old new more g inside
    (ap (λ r. partition_in r.cores g) (reset_rests (slice_get (seen h).guests guest) (seen h)
    (seen h') guest (Err fails.0) fails.1.own))

pub next_own : {D : Type 0} (shows : D → DiskState) (board : List GuestConfig) (bases : ℕ
    → Partition) (accepted now : ℕ → List Request) (h h' : HostState D) (f : Fault)
    (rest : List Said)
    → StaysLinked shows board bases accepted h.board → StaysLinked shows board bases now h'.board
    → GoOn accepted now → NextFails rest h f h' → NextAccepts board rest accepted now
next_own shows board bases accepted now h h' f [] old new more fails = absurd fails
next_own shows board bases accepted now h h' f (line ∷ rest) old new more fails =
    fails_own shows board bases accepted now h h' f line old new more fails
