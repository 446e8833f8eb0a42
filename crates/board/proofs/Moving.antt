-- What one step of a board does to its disk, and what steps one after another do.
use Rattle.std.proofs.Common.{◌≡◌, ◌≤◌, ◌<◌, ◌⊎◌, ◌+◌, ◌^◌, inl, inr, ℕ, Bool, true, false, List}
use Rattle.std.proofs.Common.{Option, Some, None, Result, length, refl, ap, sym, subst, ◌∙◌, arith}
use Rattle.std.proofs.Common.{length-set}
use Rattle.board.proofs.Common.{slice_get, slice_set, slice_get_within, Request, Partition}
use Rattle.board.proofs.Common.{GuestConfig, DiskCall, DiskState, Effect, HasRisen, Still, Within}
use Rattle.board.proofs.Common.{within_weaker, Intent, Part, Guest, Progress, StoreFault}
use Rattle.board.proofs.Common.{pending_stays, MovedBy, Round, planned, settles, guest_after_sync}
use Rattle.board.proofs.Common.{mark_of, given, DeviceState, Done, Job, state, by_test}
use Rattle.board.proofs.Common.{IsLinkedBoard, IsSound, LeavesPrefixes, StaysLinked, accepted_after}
use Rattle.board.proofs.Common.{answered, marks_in, BoardState, Advances, Answer, Does, Step}
use Rattle.std.specs.Prelude.{position}
use Rattle.std.specs.List.{list_any}
use Rattle.disk.proofs.Ways.{within_both}
use Rattle.flusher.specs.Round.{plan_at}
use Rattle.flusher.specs.Pair.{guest_awaits, guest_has_write}
use Rattle.board.specs.Board.{IsKnown}
use Rattle.board.proofs.Headers.{header_stays, header_still, header_twice}
use Rattle.board.proofs.Linked.{in_book, publishes_linked}
use Rattle.board.proofs.Prefixes.{does_moments, leaves_now}
use Rattle.board.proofs.Stays.{does_stay}
use Rattle.board.proofs.Stores.{of_store}
use Rattle.board.specs.Moving.{Moves, Steps}
use Rattle.board.proofs.Rising.{accepted_goes, given_rise, goes_none, goes_twice, leaves_longer}
use Rattle.board.proofs.Rising.{marks_rise, sync_rises}

-- two clauses of a step
abbrev pub LinksBy : {D : Type 0} → (D → DiskState) → Step → Answer → BoardState D → BoardState D
    → Type 0
LinksBy shows s answer old new = (config : List GuestConfig) (bases : ℕ → Partition) (accepted : ℕ
    → List Request) (parts : ℕ → Part) → IsLinkedBoard shows config bases accepted parts old
    → StaysLinked shows config bases (accepted_after s answer old accepted) new

abbrev pub KeepsPrefixes : {D : Type 0} → (D → DiskState) → (D → DiskCall → D → Type 0)
    → BoardState D → BoardState D → Type 0
KeepsPrefixes shows makes old new = (config : List GuestConfig) (bases : ℕ → Partition)
    (accepted : ℕ → List Request) (parts : ℕ → Part)
    → IsLinkedBoard shows config bases accepted parts old
    → (shows old.store.disk).faithful ≡ true
    → Within shows makes (LeavesPrefixes config bases accepted (marks_in old)) old.store.disk
    new.store.disk

-- 1. One call of the disk

-- What moved of a board but for the requests of its guests.
pub record Goes {D : Type 0} (shows : D → DiskState) (old new : BoardState D) : Type 0 where
  pub len : (shows new.store.disk).len ≡ (shows old.store.disk).len
  pub faithful : (shows new.store.disk).faithful ≡ (shows old.store.disk).faithful
  pub later : (shows old.store.disk).failures ≤ (shows new.store.disk).failures
  pub whole : new.store.broken ≡ false → old.store.broken ≡ false
  pub cause : new.store.broken ≡ true → (old.store.broken ≡ true)
      ⊎ HasRisen (shows old.store.disk).failures (shows new.store.disk).failures
  pub marks : (g : ℕ) → marks_in old g ≤ marks_in new g

-- the disk's length and failures after a call of it, or none
pub record Shown (old new : DiskState) : Type 0 where
  pub len : new.len ≡ old.len
  pub faithful : new.faithful ≡ old.faithful
  pub later : old.failures ≤ new.failures

module _ {D : Type 0} (shows : D → DiskState) (makes : D → DiskCall → D → Type 0)
    (effect : (a b : D) (call : DiskCall) → makes a call b → Effect (shows a) call (shows b)) where
  pub shown_round : (o : Option ℕ) (w : Bool) (od : D) (old : List Guest)
      (result : Result Progress StoreFault) (nd : D) (new : List Guest) (broken : Bool)
      → Round makes (plan_at o w) od old result nd new broken → Shown (shows od) (shows nd)
  shown_round o w od old result nd new broken r = grind arith

  pub failed_round : (p : Result Progress StoreFault) (od : D) (old : List Guest) (nd : D)
      (new : List Guest) (broken : Bool) → Round makes (planned old) od old p nd new broken
      → broken ≡ true → HasRisen (shows od).failures (shows nd).failures
  failed_round p od old nd new broken r is = grind arith

  -- 2. Each step

  module _ (old : BoardState D) (sound : IsSound shows old) where
    still : (new : BoardState D) → new.store ≡ old.store → Goes shows old new
    still new same = grind arith

    moved_up : (s : Bool) (g : ℕ) (y z : Guest) → slice_get old.store.guests g ≡ Some y
        → MovedBy s y z → mark_of y ≤ mark_of z
    moved_up true g y z at is =
        let ok = sound.linked in
        let below = slice_get_within old.store.guests g y at in
        let x = in_book shows sound.config sound.bases sound.accepted sound.parts old ok g
        (omega arith) in
        let t = ok.each g x.0 x.1 in
        let same : t.stored ≡ y = cc in
        let up = sync_rises g (sound.bases g) (sound.accepted g) (sound.parts g) x.0 t.stored
        t.intent t.board t.link in
        let last : mark_of z ≡ mark_of (guest_after_sync t.stored) = ap mark_of is
        ∙ ap (λ v. mark_of (guest_after_sync v)) (sym same) in
        let first = ap mark_of same in
        omega arith
    moved_up false g y z at (inl is) = (let same = ap mark_of is in omega arith)
    moved_up false g y z at (inr is) = (let same : mark_of z ≡ mark_of y = ap mark_of is
        ∙ (pending_stays y).1 in omega arith)

    given_goes : (i : Intent) (new : BoardState D)
        → new.store ≡ record old.store { guests = given old.store.guests i } → Goes shows old new
    given_goes i new is = grind (arith, given_rise)

    called_goes : (answer : Answer) (new : BoardState D) → Advances shows makes answer old new
        → Goes shows old new
    called_goes answer new a = by_test old.store.broken
        (λ broken. still new (ap (λ v. v.store) a.after ∙ (a.refused broken).1))
        (λ whole. called whole)
      where
        called : old.store.broken ≡ false → Goes shows old new
        called whole =
            let round = a.round whole in
            let d = shown_round (position guest_has_write old.store.guests)
            (list_any guest_awaits old.store.guests) old.store.disk old.store.guests a.progress
            a.store.disk a.store.guests a.store.broken round in
            subst (Goes shows old) (sym a.after) (record {
              len = d.len;
              faithful = d.faithful;
              later = d.later;
              whole = λ now. whole;
              cause = λ broken. inr (failed_round a.progress old.store.disk old.store.guests
                  a.store.disk a.store.guests a.store.broken round broken);
              marks = λ g. marks_rise old.store.guests a.store.guests a.moves.count
                  (λ k y z at there. moved_up (settles a.progress) k y z at
                  (a.moves.each k y z at there)) g;
            })

    does_goes : (s : Step) (answer : Answer) (new : BoardState D)
        → Does shows makes s answer old new → Goes shows old new
    does_goes s answer new does = grind (arith, called_goes, given_goes, of_store)

  -- 3. What a board moves by

  -- one step, by its clauses
  pub step_moves : (s : Step) (answer : Answer) (old new : BoardState D) → IsSound shows old
      → Does shows makes s answer old new → LinksBy shows s answer old new
      → KeepsPrefixes shows makes old new → Moves shows makes old new
  step_moves s answer old new sound does linked moments =
      let go = does_goes old sound s answer new does in
      record {
        len = go.len;
        faithful = go.faithful;
        later = go.later;
        whole = go.whole;
        cause = go.cause;
        marks = go.marks;
        header = header_stays shows makes s answer old new does;
        reaches = λ config bases accepted was. (
            let more = accepted_goes (state old.book) (answered s answer old) accepted in record {
              now = accepted_after s answer old accepted;
              more = more;
              linked = linked config bases accepted was.parts was.linked;
              moments = λ known. within_weaker shows makes
                  (LeavesPrefixes config bases accepted (marks_in old))
                  (LeavesPrefixes config bases (accepted_after s answer old accepted)
                  (marks_in old)) old.store.disk new.store.disk
                  (λ moment. leaves_longer config bases accepted
                  (accepted_after s answer old accepted) (marks_in old) (marks_in old) moment
                  more (λ g. omega arith)) (moments config bases accepted was.parts was.linked
                  known);
            });
      }

-- where nothing but devices and jobs changed, as many as they were
pub still_moves : {D : Type 0} (shows : D → DiskState) (makes : D → DiskCall → D → Type 0)
    (old : BoardState D) (devices' : List DeviceState) (jobs' : List (Option Job))
    → length devices' ≡ length old.devices → length jobs' ≡ length old.jobs
    → Moves shows makes old (record old { devices = devices'; jobs = jobs' })
still_moves shows makes old devices' jobs' many wide = record {
  len = refl;
  faithful = refl;
  later = omega arith;
  whole = λ whole. whole;
  cause = λ broken. inl broken;
  marks = λ g. omega arith;
  header = header_still shows makes old.store.disk old.store.disk refl;
  reaches = λ config bases accepted was. record {
    now = accepted;
    more = goes_none accepted;
    linked = grind arith;
    moments = λ known. Still old.store.disk (leaves_now shows config bases accepted was.parts old
        was.linked known);
  };
}

-- where a reply left its place, and devices changed, as many as they were
pub left_moves : {D : Type 0} (shows : D → DiskState) (makes : D → DiskCall → D → Type 0)
    (old : BoardState D) (n : ℕ) (d : Done) (devices' : List DeviceState)
    → slice_get old.dones n ≡ Some (Some d) → length devices' ≡ length old.devices
    → Moves shows makes old (record old { devices = devices'; dones = slice_set old.dones n None })
left_moves shows makes old n d devices' full many = record {
  len = refl;
  faithful = refl;
  later = omega arith;
  whole = λ whole. whole;
  cause = λ broken. inl broken;
  marks = λ g. omega arith;
  header = header_still shows makes old.store.disk old.store.disk refl;
  reaches = λ config bases accepted was. record {
    now = accepted;
    more = goes_none accepted;
    linked = record {
      parts = was.parts;
      linked = publishes_linked shows config bases accepted was.parts old was.linked n d full
          devices' (many ∙ was.linked.places.devices);
    };
    moments = λ known. Still old.store.disk (leaves_now shows config bases accepted was.parts old
        was.linked known);
  };
}

-- a device that was lent
pub lent_moves : {D : Type 0} (shows : D → DiskState) (makes : D → DiskCall → D → Type 0) (g : ℕ)
    (b : BoardState D) (d : DeviceState)
    → Moves shows makes b (record b { devices = slice_set b.devices g d })
lent_moves shows makes g b d = still_moves shows makes b (slice_set b.devices g d) b.jobs
    (length-set b.devices g d) refl

pub moves_none : {D : Type 0} (shows : D → DiskState) (makes : D → DiskCall → D → Type 0)
    (b : BoardState D) → Moves shows makes b b
moves_none shows makes b = still_moves shows makes b b.devices b.jobs refl refl

-- a count at its end stands at it from before, or rose
pub ended : (most a b c : ℕ) → a ≤ b → b ≤ c → most ≤ b + 1 → (a < c) ⊎ (most ≤ a + 1)
ended most a b c first second end = grind arith

-- one after another
pub moves_twice : {D : Type 0} (shows : D → DiskState) (makes : D → DiskCall → D → Type 0)
    (a b c : BoardState D) → Moves shows makes a b → Moves shows makes b c → Moves shows makes a c
moves_twice {D = D} shows makes a b c p q = record {
  len = q.len ∙ p.len;
  faithful = q.faithful ∙ p.faithful;
  later = (omega arith);
  whole = λ whole. p.whole (q.whole whole);
  cause = λ broken. from (q.cause broken);
  marks = up;
  header = header_twice shows makes a.store.disk b.store.disk c.store.disk p.faithful p.header
      q.header;
  reaches = λ config bases accepted was. (
      let r = p.reaches config bases accepted was in
      let s = q.reaches config bases r.now r.linked in record {
        now = s.now;
        more = goes_twice accepted r.now s.now r.more s.more;
        linked = s.linked;
        moments = λ known. within_both shows makes (LeavesPrefixes config bases r.now (marks_in a))
            (LeavesPrefixes config bases s.now (marks_in b))
            (LeavesPrefixes config bases s.now (marks_in a)) a.store.disk b.store.disk c.store.disk
            (λ moment. leaves_longer config bases r.now s.now (marks_in a) (marks_in a) moment
            s.more (λ g. omega arith))
            (λ moment. leaves_longer config bases s.now s.now (marks_in b) (marks_in a) moment
            (goes_none s.now) p.marks)
            (r.moments known) (s.moments (p.faithful ∙ known));
      });
}
  where
    up : (g : ℕ) → marks_in a g ≤ marks_in c g
    up g = (let first = p.marks g in let second = q.marks g in omega arith)

    risen : HasRisen (shows b.store.disk).failures (shows c.store.disk).failures
        → HasRisen (shows a.store.disk).failures (shows c.store.disk).failures
    risen (inl more) = inl (omega arith)
    risen (inr end) = ended (2 ^ 64) (shows a.store.disk).failures (shows b.store.disk).failures
        (shows c.store.disk).failures p.later q.later end

    kept : HasRisen (shows a.store.disk).failures (shows b.store.disk).failures
        → HasRisen (shows a.store.disk).failures (shows c.store.disk).failures
    kept (inl more) = inl (omega arith)
    kept (inr end) = inr end

    from : (b.store.broken ≡ true)
        ⊎ HasRisen (shows b.store.disk).failures (shows c.store.disk).failures
        → (a.store.broken ≡ true)
        ⊎ HasRisen (shows a.store.disk).failures (shows c.store.disk).failures
    from (inr rose) = inr (risen rose)
    from (inl broken) = elim (p.cause broken) [
      | inl was ↦ inl was
      | inr rose ↦ inr (kept rose)
    ]

-- what moved stays sound
pub sound_moved : {D : Type 0} (shows : D → DiskState) (makes : D → DiskCall → D → Type 0)
    (a b : BoardState D) → IsSound shows a → Moves shows makes a b → IsSound shows b
sound_moved shows makes a b s m =
    let r = m.reaches s.config s.bases s.accepted (record { parts = s.parts; linked = s.linked }) in
    record {
      config = s.config;
      bases = s.bases;
      accepted = r.now;
      parts = r.linked.parts;
      linked =
          r.linked.linked;
    }

-- all that a step of a sound board gives
steps : {D : Type 0} (shows : D → DiskState) (makes : D → DiskCall → D → Type 0)
    (effect : (a b : D) (call : DiskCall) → makes a call b → Effect (shows a) call (shows b))
    (s : Step) (answer : Answer) (old new : BoardState D)
    → IsSound shows old → IsKnown old.book → Does shows makes s answer old new
    → Steps shows makes s answer old new
steps {D = D} shows makes effect s answer old new sound book does = record {
  does = does;
  history = book.history;
  moves = step_moves shows makes effect s answer old new sound does linked moments;
  linked = linked;
  moments = moments;
  after = λ config bases accepted parts ok known. (
      let k = linked config bases accepted parts ok in
      leaves_now shows config bases (accepted_after s answer old accepted) k.parts new k.linked
      known);
}
  where
    linked : LinksBy shows s answer old new
    linked config bases accepted parts ok = does_stay shows makes effect config bases accepted parts
        old ok book.sound book.of_board s answer new does

    moments : KeepsPrefixes shows makes old new
    moments config bases accepted parts ok known =
        does_moments shows makes config bases accepted parts old ok known s answer new does

-- as its contract sees the board that it began with
pub made : {D : Type 0} (shows : D → DiskState) (makes : D → DiskCall → D → Type 0)
    (effect : (a b : D) (call : DiskCall) → makes a call b → Effect (shows a) call (shows b))
    (s : Step) (answer : Answer) (old seen new : BoardState D) → old ≡ seen
    → IsSound shows old → IsKnown old.book → Does shows makes s answer old new
    → Steps shows makes s answer seen new
made shows makes effect s answer old seen new same sound book does =
    subst (λ v. Steps shows makes s answer v new) same
    (steps shows makes effect s answer old new sound book does)

-- after which it is sound
pub steps_sound : {D : Type 0} (shows : D → DiskState) (makes : D → DiskCall → D → Type 0)
    (effect : (a b : D) (call : DiskCall) → makes a call b → Effect (shows a) call (shows b))
    (s : Step) (answer : Answer) (old new : BoardState D)
    → IsSound shows old → IsKnown old.book → Does shows makes s answer old new → IsSound shows new
steps_sound shows makes effect s answer old new sound book does =
    sound_moved shows makes old new sound (steps shows makes effect s answer old new sound book
    does).moves
