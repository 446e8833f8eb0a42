-- The headline over every run.
use Rattle.std.proofs.Common.{◌≡◌, ◌⊎◌, inl, inr, ℕ, zero, suc, ◌-◌, ◌<◌, ◌≤◌, Bool, true, false}
use Rattle.std.proofs.Common.{List, [], ◌∷◌, ◌++◌, Option, Some, None, length, drop, get_or, refl}
use Rattle.std.proofs.Common.{ap, sym, subst, ◌∙◌, arith}
use Rattle.world.proofs.Common.{slice_get, if◌then◌else◌, ◌==◌, ◌&&◌, is_some, replicate}
use Rattle.world.proofs.Common.{append-nil, nat_tests, get_or_from_slice_get, slice_get_within}
use Rattle.world.proofs.Common.{Request, Partition, sequence, GuestConfig, sequence_of_all, Content}
use Rattle.world.proofs.Common.{CutMakes, CutState, cut_state, DiskCall, Effect, MayLeave, Filler}
use Rattle.world.proofs.Common.{Call, marks_of, mark_of, next_call, Intent, Part, Job, Done}
use Rattle.world.proofs.Common.{parts_of, due_of, may_settle, next_intent, state, submit_of}
use Rattle.world.proofs.Common.{with_turn, submit_rolls, Tally, marks_for, Turn, Collect, Take}
use Rattle.world.proofs.Common.{Settle, Break, move_some, GuestState, Step, BoardState, Fault}
use Rattle.world.proofs.Common.{Marks, Report, guests, in_place, Answer, CollectsInto, Does}
use Rattle.world.proofs.Common.{SettlesBy, SubmitsFrom, TakesInto, IsLinkedBoard, LeavesPrefixes}
use Rattle.world.proofs.Common.{accepted_after, marks_in, Begins, GoesOn, kept_by, kept_of, Event}
use Rattle.world.proofs.Common.{Refusal, Home, Up, Down, Publication, CutBy, CutWithin, CutsTo}
use Rattle.world.proofs.Common.{Happens, LacksRoom, OpensOrNot, StepsAt, StepsIn, EndsUpgrade}
use Rattle.world.proofs.Common.{UpgradesTo, WorldState, choosing, choosing_call, disk_of}
use Rattle.world.proofs.Common.{opened_world, popped_after, published_after, raised}
use Rattle.world.proofs.Common.{with_publication, IsConsistent, IsConsistentAt, IsNew, IsOpen}
use Rattle.flusher.specs.declared.progress.Call.TheVariants as call
use Rattle.world.specs.declared.event.Event.TheVariants as event
use Rattle.world.specs.World.{Opens, Refuses, UpgradesDisk, is_met}
use Rattle.world.specs.Kept.{AllRequests, IsClosed, WasOpened}
use Rattle.world.specs.Headline.{Gives, GivesAt, Headline, HeadlineOfRuns, Holds, HoldsAt}
use Rattle.board.proofs.Linked.{in_book, turned}
use Rattle.board.proofs.Links.{halves}
use Rattle.board.proofs.Opened.{fresh_at, within_end}
use Rattle.board.proofs.Prefixes.{advance_moments, leaves_now}
use Rattle.world.proofs.Upgraded.{prefixes_upgraded}
use Rattle.board.proofs.Stays.{does_stay, marks_at}
use Rattle.board.proofs.ToldLinks.{chosen_linked}

-- 1. An open world

-- what is accepted is what the bases accept
requests_of : (w : WorldState) (b : BoardState CutState) (parts : ℕ → Part)
    → IsLinkedBoard cut_state w.config w.bases w.accepted parts b → AllRequests w
requests_of w b parts linked = λ g below.
    (let x = in_book cut_state w.config w.bases w.accepted parts b linked g below in
    let t = linked.each g x.0 x.1 in
    record {
      board = t.board;
      capacity = t.capacity;
      in_turn = t.link.in_turn;
      asked =
          t.link.asked;
    })

pub gives_of : (w : WorldState) (b : BoardState CutState) (parts : ℕ → Part)
    → IsLinkedBoard cut_state w.config w.bases w.accepted parts b → Gives w b
gives_of w b parts linked = record { each = λ g x at. (linked.each g x at).link.partition }

-- an open world, stopped now, is a closed one
closed_with : (w : WorldState) (b : BoardState CutState) → IsOpen w b → (d : CutState)
    → LeavesPrefixes w.config w.bases w.accepted (marks_in b) (cut_state d) → IsClosed w d
closed_with w b up d leaves = record {
  least = marks_in b;
  leaves = leaves;
  requests = up.requests;
  needs = λ g k p below at.
      (let x = in_book cut_state w.config w.bases w.accepted up.parts b up.linked g below in
      let t = up.linked.each g x.0 x.1 in
      let need = up.needs g k p x.0 at x.1 in
      let mark : marks_in b g ≡ mark_of t.stored = get_or_from_slice_get (marks_of b.store.guests) g
      (mark_of t.stored) 0 (marks_at b.store.guests g t.stored t.in_store) in
      omega arith);
}

closes : (w : WorldState) (b : BoardState CutState) → IsOpen w b → IsClosed w b.store.disk
closes w b up = closed_with w b up b.store.disk (leaves_now cut_state w.config w.bases w.accepted
    up.parts b up.linked refl)

-- 2. A world that stops

get_or-false : (n k : ℕ) → get_or (replicate n false) k false ≡ false
get_or-false zero k = refl
get_or-false (suc n) zero = refl
get_or-false (suc n) (suc k) = get_or-false n k

-- what is cut leaves no more than what it was cut from
pub cut_leaves : (d left : CutState) (filler : Filler) → CutsTo filler d left → (c : Content)
    → MayLeave (cut_state left) c → MayLeave (cut_state d) c
cut_leaves d left filler cuts c may k un = may k (ap (λ l. get_or l k false) cuts.stops.unsynced
    ∙ get_or-false (length d.unsynced) k) ∙ cuts.leaves k un

cut_closed : (w : WorldState) (d left : CutState) (filler : Filler) → IsClosed w d
    → CutsTo filler d left → IsClosed w left
cut_closed w d left filler closed cuts = record {
  least = closed.least;
  leaves = λ g below c may. closed.leaves g below c (cut_leaves d left filler cuts c may);
  requests = closed.requests;
  needs = closed.needs;
}

-- before an opening: a world that is new, or was opened
abbrev Before : WorldState → CutState → Type 0
Before w d = IsNew w ⊎ WasOpened w d

before_cut : (w : WorldState) (d left : CutState) (filler : Filler) → Before w d
    → CutsTo filler d left → Before w left
before_cut w d left filler before cuts = elim before [
  | inl new ↦ inl new
  | inr was ↦ inr (record {
    closed = cut_closed w d left filler was.closed cuts;
    openings =
        was.openings;
  })
]

upgraded_closed : (w : WorldState) (d left : CutState) (said : Option Refusal) → IsClosed w d
    → UpgradesDisk w.config d said left → IsClosed w left
upgraded_closed w d left said closed up = record {
  least = closed.least;
  leaves = prefixes_upgraded w.config w.bases w.accepted closed.least (cut_state d) (cut_state left)
      refl up.back closed.leaves;
  requests = closed.requests;
  needs = closed.needs;
}

before_upgraded : (w : WorldState) (d left : CutState) (said : Option Refusal) → Before w d
    → UpgradesDisk w.config d said left → Before w left
before_upgraded w d left said before up = elim before [
  | inl new ↦ inl new
  | inr was ↦ inr (record {
    closed = upgraded_closed w d left said was.closed up;
    openings =
        was.openings;
  })
]

-- what call is to fail is nothing that a stop leaves
before_chosen : (w : WorldState) (d : CutState) (k : ℕ) → Before w d
    → Before w (record d { chosen = k })
before_chosen w d k before = grind arith

before_ended : (w : WorldState) (met : Bool) (filler : Filler) (reached left : CutState)
    (answered said : Option Refusal) → Before w reached
    → EndsUpgrade met filler reached answered said left → Before w left
before_ended w true filler reached left answered said before ends =
    before_cut w reached left filler before ends.0
before_ended w false filler reached left answered said before ends =
    subst (Before w) (sym ends.0) (before_chosen w reached 0 before)

before_upgrade : (w : WorldState) (d left : CutState) (said : Option Refusal)
    (stop : Option (ℕ × Filler)) → Before w d → UpgradesTo w.config stop d said left → Before w left
before_upgrade w d left said None before up = before_upgraded w d left said before up
before_upgrade w d left said (Some stop) before s =
    before_ended w (is_met stop.0 d.failures s.reached.failures) stop.1 s.reached left s.answered
    said
    (before_upgraded w (record d { chosen = stop.0 }) s.reached s.answered
    (before_chosen w d stop.0 before) s.upgrades) s.ends

stopped : (w : WorldState) (home : Home) → IsConsistentAt w home → Before w (disk_of home)
stopped w (Up b) kept = inr (record { closed = closes w b kept.0; openings = kept.1 })
stopped w (Down d) kept = kept

cut_by : (c : Call) (w : WorldState) (b : BoardState CutState) (filler : Filler) (left : CutState)
    → IsConsistentAt w (Up b) → CutBy c b filler left → Before w left
cut_by call.Write w b filler left kept cuts =
    let up = kept.0 in
    let moments = advance_moments cut_state CutMakes w.config w.bases w.accepted up.parts b
    up.linked refl cuts.answer cuts.after cuts.advances in
    let leaves = within_end cut_state CutMakes
    (LeavesPrefixes w.config w.bases w.accepted (marks_in b)) b.store.disk cuts.after.store.disk
    moments in
    inr (record {
      closed = cut_closed w cuts.after.store.disk left filler
          (closed_with w b up cuts.after.store.disk leaves) cuts.cuts;
      openings = kept.1;
    })
cut_by call.Sync w b filler left kept cuts =
    before_cut w b.store.disk left filler (stopped w (Up b) kept) cuts
cut_by call.None w b filler left kept cuts =
    before_cut w b.store.disk left filler (stopped w (Up b) kept) cuts

cut_within : (w : WorldState) (home : Home) (filler : Filler) (left : CutState)
    → IsConsistentAt w home → CutWithin home filler left → Before w left
cut_within w (Up b) filler left kept cuts = cut_by (next_call b.store.broken b.store.guests) w b
    filler left kept cuts
cut_within w (Down d) filler left kept cuts = before_cut w d left filler kept cuts

-- 3. Openings

-- nothing was settled of an opened guest but its partition
fresh_settled : (life : ℕ) (config : List GuestConfig) (b : BoardState CutState)
    (start : Begins cut_state life config b) (g : ℕ) (x : GuestState) → slice_get (guests b) g
    ≡ Some x → x.settled ≡ sequence x.core.partition
fresh_settled life config b start g x at =
    let f = fresh_at config start.partitions g x (ap (λ v. slice_get (guests v) g) (sym start.is)
    ∙ at) in
    ap (λ v. v.settled) f.is ∙ sym (ap (λ v. sequence v.core.partition) f.is)

prefix_of : (o : Option GuestState) (base : Partition) (rs : List Request) → (rest : List Request)
    × (rs ≡ kept_by o base rs ++ rest)
prefix_of None base rs = ([], sym (append-nil rs))
prefix_of (Some x) base rs = (
  drop (sequence x.core.partition - sequence base) rs,
  sym (halves (sequence x.core.partition - sequence base) rs),
)

first_open : (old : WorldState) (b : BoardState CutState)
    (start : Begins cut_state (raised old.openings) old.config b) → IsNew old
    → (IsOpen (opened_world zero old b start.partitions) b)
    × Holds old (opened_world zero old b start.partitions) b
first_open old b start new =
    let w = opened_world zero old b start.partitions in (
      record {
        parts = parts_of start.partitions;
        linked = start.linked;
        requests = requests_of w b (parts_of start.partitions) start.linked;
        needs = λ g k p x at there. absurd (nothing g k p at);
      },
      record {
        gives = gives_of w b (parts_of start.partitions) start.linked;
        prefix = λ g. ([], new.accepted g);
        holds = λ g k p below at. absurd (nothing g k p at);
        published = refl;
      },
    )
  where
    nothing : (g k : ℕ) (p : Publication) → slice_get (old.published g) k ≡ Some p → ⊥
    nothing g k p at = none [] k p refl (ap (λ l. slice_get l k) (sym (new.published g)) ∙ at)
      where
        none : (l : List Publication) (n : ℕ) (q : Publication) → l ≡ [] → slice_get l n ≡ Some q
            → ⊥
        none [] zero q empty is = cc
        none [] (suc n) q empty is = cc
        none (x ∷ l) n q empty is = cc

later_open : (n : ℕ) (d : CutState) (old : WorldState) (b : BoardState CutState)
    (start : Begins cut_state (raised old.openings) old.config b) (closed : IsClosed old d)
    → GoesOn cut_state old.config old.bases old.accepted closed.least b
    → (IsOpen (opened_world (suc n) old b start.partitions) b)
    × Holds old (opened_world (suc n) old b start.partitions) b
later_open n d old b start closed on =
    let w = opened_world (suc n) old b start.partitions in
    let linked = on.linked.linked in (
      record {
        parts = on.linked.parts;
        linked = linked;
        requests = requests_of w b on.linked.parts linked;
        needs = λ g k p x at there.
            (let t = linked.each g x there in
            let below = slice_get_within (guests b) g x there in
            let need = closed.needs g k p (omega arith) at in
            let settled = fresh_settled (raised old.openings) old.config b start g x there in
            let is = ap sequence (on.gives g x there)
            ∙ sequence_of_all (old.bases g) (kept_of old.bases old.accepted b g) t.link.in_turn
            in
            omega arith);
      },
      record {
        gives = gives_of w b on.linked.parts linked;
        prefix = λ g. prefix_of (slice_get (guests b) g) (old.bases g) (old.accepted g);
        holds = λ g k p below at. (let need = closed.needs g k p below at in let holds =
            on.holds g below in omega arith);
        published = refl;
      },
    )

new_stays : (w : WorldState) (home : Home) → IsNew w → IsNew (record w { home = home })
new_stays w home new = record {
  accepted = new.accepted;
  published = new.published;
  popped =
      new.popped;
  openings = new.openings;
}

closed_stays : (w : WorldState) (home : Home) (d : CutState) → IsClosed w d
    → IsClosed (record w { home = home }) d
closed_stays w home d closed = record {
  least = closed.least;
  leaves = closed.leaves;
  requests =
      closed.requests;
  needs = closed.needs;
}

abbrev Kept : WorldState → WorldState → Type 0
Kept old w = IsConsistent w × HoldsAt old w w.home

-- an opening is counted
pub some_raised : (n : ℕ) → 0 < raised n
unfolding raised
some_raised n = grind (arith, nat_tests)

opens_kept : (d : CutState) (old new : WorldState) (told : Option Refusal) → Before old d
    → Opens d old told new → Kept old new
opens_kept d old new told before o = by old.openings refl o.after before
  where
    by : (n : ℕ) → old.openings ≡ n → new ≡ opened_world n old o.board o.begins.partitions
        → Before old d → Kept old new
    by zero is after (inl first) = (let both = first_open old o.board o.begins first in
        subst (Kept old) (sym after) ((both.0, some_raised old.openings), both.1))
    by zero is after (inr was) = absurd (omega (arith, is))
    by (suc n) is after (inl first) = absurd (omega (arith, is))
    by (suc n) is after (inr was) =
        let closed = was.closed in
        let both = later_open n d old o.board o.begins closed
        (o.goes_on old.bases old.accepted closed.least closed.requests closed.leaves) in
        subst (Kept old) (sym after) ((both.0, some_raised old.openings), both.1)

refuses_kept : (d : CutState) (old new : WorldState) (told : Option Refusal) → Before old d
    → Refuses d old told new → Kept old new
refuses_kept d old new told before r = grind (arith, closed_stays)

opening_kept : (d : CutState) (old new : WorldState) (told : Option Refusal) → Before old d
    → OpensOrNot d old told new → Kept old new
opening_kept d old new told before (inl o) = opens_kept d old new told before o
opening_kept d old new told before (inr r) = refuses_kept d old new told before r

-- 4. Steps

-- a step makes at most one turn of the book
abbrev Turned : BoardState CutState → BoardState CutState → Type 0
Turned old new = (new.book ≡ old.book)
    ⊎ ((t : Turn) × (state new.book ≡ state (with_turn old.book t)))

when : (old new : BoardState CutState) (c : Bool) (t : Turn)
    → new.book ≡ (if c then with_turn old.book t else old.book) → Turned old new
when old new true t is = inr (t, ap state is)
when old new false t is = inl is

unless : (old new : BoardState CutState) (c : Bool) (t : Turn)
    → new.book ≡ (if c then old.book else with_turn old.book t) → Turned old new
unless old new true t is = inl is
unless old new false t is = inr (t, ap state is)

module _ (old new : BoardState CutState) (answer : Answer) where
  book_of : (to : BoardState CutState) → new ≡ to → new.book ≡ to.book
  book_of to is = ap (λ v. v.book) is

  submit_turn : (g : ℕ) (job : Option Job) (tally : Option Tally)
      → SubmitsFrom g job tally answer old new → Turned old new
  submit_turn g job None does = inl (book_of old does.1)
  submit_turn g None (Some tally) does = inl (book_of old does.1)
  submit_turn g (Some job) (Some tally) does = elim does [
    | inl went ↦ inr (
      submit_of old.book job,
      ap state (book_of _ went.2)
          ∙ submit_rolls old.book job,
    )
    | inr refused ↦ inl (book_of old refused.1)
  ]

  collect_turn : (g : ℕ) (place : Option (Option Done)) → CollectsInto g place answer old new
      → Turned old new
  collect_turn g None does = inl (book_of old does.1)
  collect_turn g (Some (Some r)) does = inl (book_of old does.1)
  collect_turn g (Some None) does = when old new (is_some (due_of old.book g)) (Collect g)
      (book_of _ does.1)

  take_turn : (g : ℕ) (place : Option (Option Intent)) → TakesInto g place answer old new
      → Turned old new
  take_turn g None does = inl (book_of old does.1)
  take_turn g (Some (Some i)) does = inl (book_of old does.1)
  take_turn g (Some None) does = when old new (is_some (next_intent old.book old.shares g)) (Take g)
      (book_of _ does.1)

  settle_turn : (report : Option Report) → SettlesBy report answer old new → Turned old new
  settle_turn None does = inl (book_of old does.1)
  settle_turn (Some (Marks marks)) does = when old new (may_settle old.book old.shares marks
      && move_some (guests old) marks) (Settle (marks_for (length (guests old)) marks))
      (book_of _ does.1)
  settle_turn (Some Fault) does = unless old new (state old.book).broken Break (book_of _ does.1)

  one_turn : (s : Step) → Does cut_state CutMakes s answer old new → Turned old new
  one_turn s does = grind (arith, collect_turn, settle_turn, submit_turn, take_turn)

  -- nothing that is settled falls
  settled_before : Turned old new → (g : ℕ) (y : GuestState) → slice_get (guests new) g ≡ Some y
      → (x : GuestState) × (slice_get (guests old) g ≡ Some x) × (x.settled ≤ y.settled)
  settled_before (inl same) g y at = (
    y,
    ap (λ b. slice_get (state b).guests g) (sym same) ∙ at,
    omega arith,
  )
  settled_before (inr turn) g y at = grind (arith, turned)

-- a publication is an earlier one, or that of the reply in the guest's place
last_or_before : (l : List Publication) (p q : Publication) (k : ℕ) → slice_get (l ++ p ∷ []) k
    ≡ Some q → (slice_get l k ≡ Some q) ⊎ (q ≡ p)
last_or_before [] p q zero at = inr (let e : p ≡ q = cc in sym e)
last_or_before [] p q (suc k) at = absurd (cc)
last_or_before (x ∷ l) p q zero at = inl at
last_or_before (x ∷ l) p q (suc k) at = last_or_before l p q k at

record IsNoted (b : BoardState CutState) (published : ℕ → List Publication) (g k : ℕ)
    (p : Publication) : Type 0 where
  pub noted : (slice_get (published g) k ≡ Some p)
      ⊎ ((d : Done) × (slice_get b.dones g ≡ Some (Some d)) × (p.need ≡ d.need))

noted_at : (life : ℕ) (b : BoardState CutState) (published : ℕ → List Publication) (n g k : ℕ)
    (p : Publication) → slice_get
    (if g == n then with_publication life (in_place (slice_get b.dones n)) (published g) else
    published g) k ≡ Some p → IsNoted b published g k p
noted_at life b published n g k p at = grind (arith, last_or_before)

noted_by : (life : ℕ) (s : Step) (answer : Answer) (b : BoardState CutState) (published : ℕ
    → List Publication) (g k : ℕ) (p : Publication)
    → slice_get (published_after life s answer b published g) k ≡ Some p → IsNoted b published g k p
noted_by life s answer b published g k p at = grind (arith, noted_at)

cut_effect : (a b : CutState) (call : DiskCall) → CutMakes a call b
    → Effect (cut_state a) call (cut_state b)
cut_effect a b call made = made.effect

step_open : (s : Step) (b : BoardState CutState) (old new : WorldState) (told : Option Refusal)
    → IsOpen old b → 0 < old.openings → StepsIn s b old told new → IsConsistent new
    × GivesAt new new.home
step_open s b old new told up some st =
    let k = does_stay cut_state CutMakes cut_effect old.config old.bases old.accepted up.parts b
    up.linked st.sound st.of_board s st.answer st.board st.does in
    let w : WorldState = record old {
      home = Up st.board;
      accepted =
          accepted_after s st.answer b old.accepted;
      published =
          published_after old.openings s st.answer b old.published;
      popped =
          popped_after old.openings s st.answer st.board old.popped;
    } in
    let open_now : IsOpen w st.board = record {
      parts = k.parts;
      linked = k.linked;
      requests =
          requests_of w st.board k.parts k.linked;
      needs = needs;
    } in
    subst (λ v. IsConsistent v × GivesAt v v.home) (sym st.after) (
      (open_now, some),
      gives_of w st.board k.parts k.linked,
    )
  where
    needs : (g k : ℕ) (p : Publication) (y : GuestState)
        → slice_get (published_after old.openings s st.answer b old.published g) k ≡ Some p
        → slice_get (guests st.board) g ≡ Some y → p.need ≤ y.settled
    needs g k p y at there =
        let x = settled_before b st.board st.answer (one_turn b st.board st.answer s st.does) g y
        there in
        elim (noted_by old.openings s st.answer b old.published g k p at).noted [
          | inl before ↦ (let need = up.needs g k p x.0 before x.1 in omega (arith, x.2))
          | inr last ↦ (let leaves = (up.linked.each g x.0 x.1).leaves last.0 last.1 in
              omega (arith, x.2))
        ]

-- 5. Events

pub lacks_same : (s : Step) (b : BoardState CutState) (old new : WorldState) (told : Option Refusal)
    → LacksRoom s b old told new → new ≡ old
lacks_same s b old new told lacks = grind arith

step_kept : (s : Step) (old new : WorldState) (told : Option Refusal) (home : Home)
    → old.home ≡ home → IsConsistentAt old home → StepsAt s home old told new → IsConsistent new
    × GivesAt new new.home
step_kept s old new told (Up b) is kept (inl st) = step_open s b old new told kept.0 kept.1 st
step_kept s old new told (Up b) is kept (inr lacks) =
    subst (λ v. IsConsistent v × GivesAt v v.home) (sym (lacks_same s b old new told lacks))
    (subst (λ h. IsConsistentAt old h × GivesAt old h) (sym is) (
      kept,
      gives_of old b kept.0.parts kept.0.linked,
    ))
step_kept s old new told (Down d) is kept same =
    subst (λ v. IsConsistent v × GivesAt v v.home) (sym same.1)
    (subst (λ h. IsConsistentAt old h × GivesAt old h) (sym is) (kept, tt))

fail_kept : (k : ℕ) (old new : WorldState) (home : Home) → IsConsistentAt old home
    → new ≡ record old { home = choosing k home } → IsConsistent new × GivesAt new new.home
fail_kept k old new (Up b) kept after =
    let up = kept.0 in
    let w : WorldState = record old { home = Up (choosing_call k b) } in
    let linked = chosen_linked k old.config old.bases old.accepted up.parts b up.linked in
    subst (λ v. IsConsistent v × GivesAt v v.home) (sym after) (
      (
        record { parts = up.parts; linked = linked; requests = up.requests; needs = up.needs },
        kept.1,
      ),
      gives_of w (choosing_call k b) up.parts linked,
    )
fail_kept k old new (Down d) kept after = subst (λ v. IsConsistent v × GivesAt v v.home) (sym after)
    (stays kept, tt)
  where
    stays : IsNew old ⊎ WasOpened old d
        → IsConsistent (record old { home = Down (record d { chosen = k }) })
    stays (inl first) = inl (new_stays old _ first)
    stays (inr was) = (let c = was.closed in
        inr (record {
          closed = record {
            least = c.least;
            leaves = c.leaves;
            requests = c.requests;
            needs = c.needs;
          };
          openings = was.openings;
        }))

pub event_kept : (old new : WorldState) (e : Event) (told : Option Refusal) → IsConsistent old
    → Happens old e told new → IsConsistent new × Headline old e new
event_kept old new (event.Do s) told kept h = step_kept s old new told old.home refl kept h
event_kept old new (event.Fail k) told kept h = fail_kept k old new old.home kept h.1
event_kept old new (event.Stop filler) told kept h =
    opening_kept h.0 old new told
    (before_cut old (disk_of old.home) h.0 filler (stopped old old.home kept) h.1) h.2
event_kept old new (event.StopIn filler) told kept h =
    opening_kept h.0 old new told (cut_within old old.home filler h.0 kept h.1) h.2
event_kept old new event.Open told kept h =
    opening_kept (disk_of old.home) old new told (stopped old old.home kept) h
event_kept old new (event.Upgrade stop) told kept h =
    opening_kept h.left old new h.opened (before_upgrade old (disk_of old.home) h.left h.said stop
    (stopped old old.home kept) h.upgrades) h.opens

pub headline_of_runs : HeadlineOfRuns
headline_of_runs old new [] told kept run = (tt, subst IsConsistent (sym run.1) kept)
headline_of_runs old new (e ∷ es) told kept run =
    grind (
      arith,
      event_kept,
      (headline_of_runs run.mid new es run.later
          (event_kept old run.mid e run.first.one kept run.first.happens).0 run.rest),
    )
