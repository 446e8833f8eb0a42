-- Prefixes of requests that go on, and marks that rise.
use Rattle.std.proofs.Common.{◌≡◌, ◌≤◌, ◌+◌, ℕ, zero, suc, Bool, true, false, List, [], ◌∷◌, ◌++◌}
use Rattle.std.proofs.Common.{Option, Some, None, length, refl, ap, sym, ◌∙◌, arith, append_assoc}
use Rattle.std.proofs.Common.{append-nil, length-append}
use Rattle.board.proofs.Common.{if◌then◌else◌, ◌==◌, slice_get, Request, Partition, sequence}
use Rattle.board.proofs.Common.{GuestConfig, DiskState, Intent, Part, Guest, marks_of}
use Rattle.board.proofs.Common.{guest_after_sync, mark_of, given, Job, GuestState, accepts}
use Rattle.board.proofs.Common.{request_of, IsOfBoard, LeavesPrefixes, accepted_by, joined_when}
use Rattle.board.proofs.Common.{IsLinked, IsPrefix}
use Rattle.std.proofs.lemmas.List.{length-drop, take-append-le}
use Rattle.flusher.specs.Marks.{mark}
use Rattle.rpmb_book.specs.Turn.{State}
use Rattle.board.specs.Link.{due}
use Rattle.board.proofs.Links.{length-entries}
use Rattle.board.specs.Moving.{GoOn}
use Rattle.board.proofs.Linked.{same_marks}

-- 1. Requests that go on

pub goes_none : (accepted : ℕ → List Request) → GoOn accepted accepted
goes_none accepted g = ([], sym (append-nil (accepted g)))

pub goes_twice : (a b c : ℕ → List Request) → GoOn a b → GoOn b c → GoOn a c
goes_twice a b c first second g =
    let p = first g in
    let q = second g in
    (p.0 ++ q.0, q.1 ∙ ap (λ l. l ++ q.0) p.1 ∙ append_assoc (a g) p.0 q.0)

joined_goes : (b : Bool) (x : Option GuestState) (job : Job) (rs : List Request)
    → (rest : List Request) × (joined_when b x job rs ≡ rs ++ rest)
joined_goes true x job rs = ([], sym (append-nil rs))
joined_goes false None job rs = ([], sym (append-nil rs))
joined_goes false (Some x) job rs = by (accepts x.core job)
  where
    by : (c : Bool) → (rest : List Request)
        × ((if c then rs ++ request_of x.core job ∷ [] else rs) ≡ rs ++ rest)
    by true = (request_of x.core job ∷ [], refl)
    by false = ([], sym (append-nil rs))

-- a step accepts one request or none
pub accepted_goes : (s : State) (o : Option Job) (accepted : ℕ → List Request)
    → GoOn accepted (accepted_by s o accepted)
accepted_goes s None accepted g = ([], sym (append-nil (accepted g)))
accepted_goes s (Some job) accepted g = by (g == job.guest)
  where
    by : (c : Bool) → (rest : List Request)
        × ((if c then joined_when s.broken (slice_get s.guests g) job (accepted g) else accepted g)
        ≡ accepted g ++ rest)
    by true = joined_goes s.broken (slice_get s.guests g) job (accepted g)
    by false = ([], sym (append-nil (accepted g)))

longer : (base : Partition) (before now rest : List Request) (least less : ℕ) (q : Part)
    → now ≡ before ++ rest → less ≤ least → IsPrefix base before least q → IsPrefix base now less q
longer base before now rest least less q is le p = grind (arith, length-append, take-append-le)

-- what leaves prefixes of some requests leaves prefixes of more of them, with less that is counted
pub leaves_longer : (config : List GuestConfig) (bases : ℕ → Partition) (before now : ℕ
    → List Request) (least less : ℕ → ℕ) (s : DiskState) → GoOn before now
    → ((g : ℕ) → less g ≤ least g)
    → LeavesPrefixes config bases before least s → LeavesPrefixes config bases now less s
leaves_longer config bases before now least less s more le all g below c left =
    let p = all g below c left in
    let r = more g in
    (p.0, p.1, longer (bases g) (before g) (now g) r.0 (least g) (less g) p.0 r.1 (le g) p.2)

-- 2. Marks that rise

pub marks_rise : (old new : List Guest) → length new ≡ length old
    → ((g : ℕ) (y z : Guest) → slice_get old g ≡ Some y → slice_get new g ≡ Some z
    → mark_of y ≤ mark_of z)
    → (g : ℕ) → mark (marks_of old) g ≤ mark (marks_of new) g
unfolding marks_of
marks_rise [] [] many each g = omega arith
marks_rise [] (z ∷ zs) many each g = absurd (omega arith)
marks_rise (y ∷ ys) [] many each g = absurd (omega arith)
marks_rise (y ∷ ys) (z ∷ zs) many each zero = each 0 y z refl refl
marks_rise (y ∷ ys) (z ∷ zs) many each (suc g) = marks_rise ys zs (omega arith) (λ k a b at there.
    each (suc k) a b at there) g

-- an intent that is given moves no mark
pub given_rise : (held : List Guest) (i : Intent) (g : ℕ) → mark (marks_of held) g
    ≤ mark (marks_of (given held i)) g
unfolding given
given_rise held i g = grind (arith, same_marks)

-- what is settled, and what isn't, is all that was accepted
counted : (n : ℕ) (base : Partition) (accepted : List Request) (part : Part) (x : GuestState)
    (held : Guest) (between : Option Intent) → IsLinked n base accepted part x held between
    → mark_of held + length (due held between x) ≡ sequence base + length accepted
counted n base accepted part x held between link = grind (arith, length-drop, length-entries)

-- so a sync moves a mark only up
pub sync_rises : (n : ℕ) (base : Partition) (accepted : List Request) (part : Part) (x : GuestState)
    (held : Guest) (between : Option Intent) → IsOfBoard base
    → IsLinked n base accepted part x held between
    → mark_of held ≤ mark_of (guest_after_sync held)
sync_rises n base accepted part x held between board link = grind arith
