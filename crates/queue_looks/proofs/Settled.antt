-- Steps over which a guest goes on waiting.
use Rattle.std.proofs.Common.{◌≡◌, ◌≤◌, ℕ, suc, ◌+◌, true, false, List, [], ◌∷◌, Some, None, length}
use Rattle.std.proofs.Common.{map, refl, ap, ap₂, sym, subst, ◌∙◌, arith}
use Rattle.queue_looks.proofs.Common.{option_map, Settle, slice_get, nat_tests, slice_get_within}
use Rattle.queue_looks.proofs.Common.{sequence, sequence_of_all, DiskState, Guest, marks_of}
use Rattle.queue_looks.proofs.Common.{mark_of, answered_in, BookView, state, waiting_of, with_turn}
use Rattle.queue_looks.proofs.Common.{GuestCore, GuestState, Held, after_turn, update, IsSound}
use Rattle.queue_looks.proofs.Common.{BoardState, Marks, guests, as_many, there_is, turned}
use Rattle.queue_looks.proofs.Common.{marks_at, is_broken, RunnerView, held_since, runner_of}
use Rattle.queue_looks.proofs.Common.{runner_since, since, IsLate, Waits, StoreState, after_settle}
use Rattle.queue_looks.proofs.Common.{may_settle, broken_off, failed_held, kept_or_failed, Break}
use Rattle.queue_looks.proofs.Common.{Turn, move_some, settled_all, may_settle_them, AreMarked}
use Rattle.rpmb_book.specs.Marks.{settled_to}
use Rattle.rpmb_book.proofs.ByGuest.{by_guest}
use Rattle.rpmb_book.proofs.Replay.{replay-push}
use Rattle.rpmb_book.proofs.Settling.{length-settled_all}
use Rattle.rpmb_book.proofs.Marking.{settled_for}
use Rattle.queue_looks.proofs.Since.{since_whole}

-- where there are as many, there is one
pub also_there : {X Y : Type 0} (xs : List X) (ys : List Y) (k : ℕ) (x : X)
    → slice_get xs k ≡ Some x → length ys ≡ length xs → (y : Y) × (slice_get ys k ≡ Some y)
also_there xs ys k x at many = there_is ys k (let below = slice_get_within xs k x at in omega arith)

-- a mark is at most the guest's sequence, and what is settled at most the mark
pub record IsBelow {D : Type 0} (b : BoardState D) (k : ℕ) (x : GuestState) : Type 0 where
  pub stored : Guest
  pub at : slice_get b.store.guests k ≡ Some stored
  pub settled : x.settled ≤ mark_of stored
  pub mark : mark_of stored ≤ sequence x.core.partition

pub below : {D : Type 0} (shows : D → DiskState) (b : BoardState D) (k : ℕ) (x : GuestState)
    → IsSound shows b → slice_get (guests b) k ≡ Some x → IsBelow b k x
below shows b k x s at =
    let t = s.linked.each k x at in
    let l = t.link in
    let all : sequence x.core.partition ≡ sequence (s.bases k) + length (s.accepted k) =
    ap sequence l.partition ∙ sequence_of_all (s.bases k) (s.accepted k) l.in_turn in
    record { stored = t.stored; at = t.in_store; settled = l.settled; mark = omega arith }

-- 1. What answers depend on, after a turn

pub state_of : (b : BookView) (t : Turn) → state (with_turn b t) ≡ after_turn (state b) t
state_of b t = replay-push b.opening b.history t

abbrev pub cores_in : List GuestState → List GuestCore
cores_in gs = map (λ g. g.core) gs

abbrev pub runner_in : List GuestState → RunnerView
runner_in gs = record { cores = cores_in gs; answered = answered_in gs }

-- of one guest more
abbrev joined : GuestCore → ℕ → RunnerView → RunnerView
joined c n v = record { cores = c ∷ v.cores; answered = n + v.answered }

pub runner_update : (gs : List GuestState) (n : ℕ) (f : GuestState → GuestState)
    → ((x : GuestState) → (f x).core ≡ x.core) → ((x : GuestState) → (f x).submits ≡ x.submits)
    → runner_in (update gs n f) ≡ runner_in gs
runner_update (g ∷ gs) (suc n) f core count =
    ap (joined g.core g.submits) (runner_update gs n f core count)
runner_update gs n f core count = grind arith

pub runner_more : (gs : List GuestState) (n : ℕ) (f : GuestState → GuestState) (h : GuestCore
    → GuestCore) (x : GuestState) → slice_get gs n ≡ Some x
    → ((y : GuestState) → (f y).core ≡ h y.core)
    → ((y : GuestState) → (f y).submits ≡ y.submits + 1)
    → runner_in (update gs n f) ≡ record {
      cores = update (cores_in gs) n h;
      answered =
          answered_in gs + 1;
    }
runner_more (g ∷ gs) (suc n) f h x at core more =
    grind (arith, (runner_more gs n f h x at core more))
runner_more gs n f h x at core more = grind arith

pub runner_settled : (gs : List GuestState) (ms : List ℕ) → runner_in (settled_all gs ms)
    ≡ runner_in gs
runner_settled (g ∷ gs) (m ∷ ms) = ap (joined g.core g.submits) (runner_settled gs ms)
runner_settled gs ms = grind arith

runner_broken : (gs : List GuestState) → runner_in (map broken_off gs) ≡ runner_since false true
    (runner_in gs)
runner_broken [] = refl
runner_broken (g ∷ gs) = ap (joined (since false true g.core) g.submits) (runner_broken gs)

-- what a book that heard of a failure keeps
pub record Breaks (b : BookView) : Type 0 where
  pub broken : (state (with_turn b Break)).broken ≡ true
  pub runner : runner_in (state (with_turn b Break)).guests ≡ runner_since false true
      (runner_in (state b).guests)

pub break_breaks : (b : BookView) → (state b).broken ≡ false → Breaks b
break_breaks b whole = record {
  broken = ap (λ s. s.broken) (state_of b Break) ∙ rw whole refl;
  runner = ap (λ s. runner_in s.guests) (state_of b Break)
      ∙ rw whole (runner_broken (state b).guests);
}

-- what a book that heard of a sync keeps
pub record KeepsRunner (b b' : BookView) : Type 0 where
  pub broken : (state b').broken ≡ (state b).broken
  pub runner : runner_in (state b').guests ≡ runner_in (state b).guests

pub settle_keeps : (b : BookView) (shares marks : List ℕ)
    → KeepsRunner b (after_settle b shares marks)
settle_keeps b shares marks = grind (arith, runner_settled, state, state_of, with_turn)

-- 2. Nothing changes that a waiting guest shows, but that more may be settled

pub record IsSameGuest (x x' : GuestState) : Type 0 where
  pub held : x'.held ≡ x.held
  pub core : x'.core ≡ x.core
  pub settled : x.settled ≤ x'.settled

pub record Same {D : Type 0} (b b' : BoardState D) : Type 0 where
  pub each : (k : ℕ) (x' : GuestState) → slice_get (guests b') k ≡ Some x' → (x : GuestState)
      × (slice_get (guests b) k ≡ Some x) × IsSameGuest x x'
  pub count : length (guests b') ≡ length (guests b)
  pub marked : AreMarked b → AreMarked b'
  pub broken : is_broken b' ≡ is_broken b
  pub store : b'.store.broken ≡ b.store.broken
  pub devices : b'.devices ≡ b.devices
  pub jobs : b'.jobs ≡ b.jobs
  pub dones : b'.dones ≡ b.dones
  pub report : b'.report ≡ b.report
  pub runner : runner_of b' ≡ runner_of b

-- where the book stays, and the store alone moved, and no mark
pub stored_same : {D : Type 0} (b b' : BoardState D) → b'.book ≡ b.book
    → ((k : ℕ) (y' : Guest) → slice_get b'.store.guests k ≡ Some y' → (y : Guest)
    × (slice_get b.store.guests k ≡ Some y) × (mark_of y' ≡ mark_of y))
    → b'.store.broken ≡ b.store.broken
    → b'.devices ≡ b.devices → b'.jobs ≡ b.jobs → b'.dones ≡ b.dones → b'.report ≡ b.report
    → Same b b'
stored_same b b' book marks broken devices jobs dones report = record {
  each = λ k x at. (
    x,
    ap (λ v. slice_get (state v).guests k) (sym book) ∙ at,
    record { held = refl; core = refl; settled = omega arith },
  );
  count = ap (λ v. length (state v).guests) book;
  marked = λ marked k x y' at there.
      (let y = marks k y' there in marked k x y.0 (ap (λ v. slice_get (state v).guests k) (sym book)
      ∙ at) y.1 ∙ sym y.2);
  broken = ap (λ v. (state v).broken) book;
  store = broken;
  devices = devices;
  jobs = jobs;
  dones = dones;
  report = report;
  runner = ap (λ v. runner_in (state v).guests) book;
}

pub still : {D : Type 0} (b b' : BoardState D) → b' ≡ b → Same b b'
still b b' is = subst (λ v. Same b v) (sym is) (stored_same b b refl (λ k y at. (y, at, refl)) refl
    refl refl refl refl)

pub same_waits : {D : Type 0} (shows : D → DiskState) (g : ℕ) (start : BoardState D) (reply : Held)
    (b b' : BoardState D)
    → Waits shows g start reply b → Same b b' → IsSound shows b' → Waits shows g start reply b'
same_waits shows g start reply b b' w s sound =
    let y = also_there (guests b) (guests b') g w.guest w.there s.count in
    let x = s.each g y.0 y.1 in
    let is : x.0 ≡ w.guest = (let c = w.there in cc) in
    let whole = λ (known : is_broken b' ≡ false). sym s.broken ∙ known in
    record {
      sound = sound;
      guest = y.0;
      there = y.1;
      held = w.held;
      holds = x.2.held ∙ ap (λ v. v.held) is ∙ w.holds;
      same = w.same ∙ ap (λ k. held_since (is_broken start) k reply) (sym s.broken);
      need = λ known. w.need (whole known)
          ∙ ap (λ c. sequence c.partition) (sym (x.2.core ∙ ap (λ v. v.core) is));
      late = λ broken. (let le = w.late (sym s.broken ∙ broken) in let settled =
          ap (λ v. v.settled) is in omega arith);
      others = λ k v other at.
          grind (arith, (s.each k v at), (w.others k), (below shows b' k v sound at));
      marked = λ known. s.marked (w.marked (whole known));
      replies = λ k o at. w.replies k o (ap (λ l. slice_get l k) (sym s.dones) ∙ at);
      dones = s.dones ∙ w.dones;
      report = s.report ∙ w.report;
      broken = s.store ∙ w.broken ∙ sym s.broken;
      stays = grind arith;
    }

-- 3. A sync, of which the book hears

-- where no mark moves anything, a Settle changes nothing
unmoved : (gs : List GuestState) (ms : List ℕ) → move_some gs ms ≡ false → settled_all gs ms ≡ gs
unmoved (g ∷ gs) (m ∷ ms) is = grind (arith, nat_tests, (unmoved gs ms))
unmoved gs ms is = grind arith

settled_guests : (b : BookView) (shares marks : List ℕ) → may_settle b shares marks ≡ true
    → (state (after_settle b shares marks)).guests ≡ settled_all (state b).guests marks
settled_guests b shares marks may = grind (arith, settled_for, state, state_of, unmoved)

settled_there : (gs : List GuestState) (ms : List ℕ) (k : ℕ) → slice_get (settled_all gs ms) k
    ≡ option_map (settled_to (slice_get ms k)) (slice_get gs k)
settled_there gs ms k = by_guest (record { guests = gs; broken = false }) (Settle ms) k

settled_same : (gs : List GuestState) (ms : List ℕ) (k : ℕ) (x' : GuestState)
    → slice_get (settled_all gs ms) k ≡ Some x' → (x : GuestState) × (slice_get gs k ≡ Some x)
    × IsSameGuest x x'
settled_same gs ms k x' at = grind (arith, settled_there)

settled_least : (gs : List GuestState) (ms : List ℕ) (k : ℕ) (x' : GuestState) (m : ℕ)
    → slice_get (settled_all gs ms) k ≡ Some x' → slice_get ms k ≡ Some m → m ≤ x'.settled
settled_least gs ms k x' m at mark = grind (arith, settled_there)

module _ {D : Type 0} (shows : D → DiskState) (b : BoardState D) (store : StoreState D)
    (told : List ℕ) (before : IsSound shows
    (record b { store = store; report = Some (Marks told) })) where
  abbrev heard_of : BoardState D
  heard_of = record b { store = store; report = None; book = after_settle b.book b.shares told }

  named : told ≡ marks_of store.guests
  named = before.linked.reported told refl

  known : guests heard_of ≡ settled_all (guests b) told
  known = settled_guests b.book b.shares told (may_settle_them shows before.config before.bases
      before.accepted before.parts (record b { store = store; report = Some (Marks told) })
      before.linked told refl)

  pub waiting_heard : (g : ℕ) → waiting_of (slice_get (guests heard_of) g)
      ≡ waiting_of (slice_get (guests b) g)
  waiting_heard g = ap (λ l. waiting_of (slice_get l g)) known ∙ grind (arith, settled_there)

  pub synced_same : b.report ≡ None → store.broken ≡ b.store.broken → IsSound shows heard_of
      → Same b heard_of
  synced_same report broken sound = record {
    each = λ k x' at. settled_same (guests b) told k x' (ap (λ l. slice_get l k) (sym known) ∙ at);
    count = ap length known ∙ length-settled_all (guests b) told;
    marked = λ marked k x' y at there. (
        let least = settled_least (guests b) told k x' (mark_of y)
        (ap (λ l. slice_get l k) (sym known) ∙ at) (ap (λ l. slice_get l k) named
        ∙ marks_at store.guests k y there) in
        grind (arith, (below shows heard_of k x' sound at)));
    broken = kept.broken;
    store = broken;
    devices = refl;
    jobs = refl;
    dones = refl;
    report = sym report;
    runner = kept.runner;
  }
    where
      kept : KeepsRunner b.book (after_settle b.book b.shares told)
      kept = settle_keeps b.book b.shares told

-- 4. A call that failed, of which the book hears

kept_need : (settled : ℕ) (h : Held) → (kept_or_failed settled h).done.need ≤ settled
kept_need settled h = grind arith

module _ {D : Type 0} (shows : D → DiskState) (g : ℕ) (start : BoardState D) (reply : Held)
    (b : BoardState D) (store : StoreState D) where
  abbrev broken_of : BoardState D
  broken_of = record b { store = store; report = None; book = with_turn b.book Break }

  pub broken_waits : Waits shows g start reply b → IsLate g b → store.broken ≡ true
      → IsSound shows broken_of → Waits shows g start reply broken_of
  broken_waits w is_late broken sound = record {
    sound = sound;
    guest = y.0;
    there = y.1;
    held = kept_or_failed w.guest.settled w.held;
    holds = ap (λ v. v.held) x.2 ∙ ap (λ v. map (kept_or_failed v.settled) v.held) same
        ∙ ap (map (kept_or_failed w.guest.settled)) w.holds;
    same = failed_late ∙ ap failed_held (w.same ∙ ap₂ (λ was now. held_since was now reply) started
        whole) ∙ ap₂ (λ was now. held_since was now reply) (sym started) (sym broke);
    need = λ known. absurd (unbroken known);
    late = λ yes. (let le = kept_need w.guest.settled w.held in let settled =
        ap (λ v. v.settled) x.2 in let mine = ap (λ v. v.settled) same in omega arith);
    others = λ k v other at. (let u = each k v at in record {
      none = ap (λ q. q.held) u.2
          ∙ ap (map (kept_or_failed u.0.settled)) (w.others k u.0 other u.1).none;
      settled = λ known. absurd (unbroken known);
    });
    marked = λ known. absurd (unbroken known);
    replies = w.replies;
    dones = w.dones;
    report = refl;
    broken = broken ∙ sym broke;
    stays = record {
      devices = w.stays.devices;
      jobs = w.stays.jobs;
      runner = (break_breaks b.book whole).runner
          ∙ ap (runner_since false true) (w.stays.runner
          ∙ since_whole (is_broken start) (is_broken b) (runner_of start) whole)
          ∙ ap₂ (λ was now. runner_since was now (runner_of start)) (sym started) (sym broke);
      whole = λ known. absurd (unbroken known);
    };
  }
    where
      whole : is_broken b ≡ false
      whole = is_late.whole

      started : is_broken start ≡ false
      started = w.stays.whole whole

      broke : is_broken broken_of ≡ true
      broke = (break_breaks b.book whole).broken

      unbroken : is_broken broken_of ≡ false → ⊥
      unbroken known = (let yes = broke in cc)

      each : (k : ℕ) (x' : GuestState) → slice_get (guests broken_of) k ≡ Some x' → (x : GuestState)
          × (slice_get (guests b) k ≡ Some x) × (x' ≡ broken_off x)
      each k x' at = (let x = turned b.book Break k x' at in (x.0, x.1, x.2 ∙ rw whole refl))

      y : (v : GuestState) × (slice_get (guests broken_of) g ≡ Some v)
      y = also_there (guests b) (guests broken_of) g w.guest w.there (as_many b.book Break)

      x : (v : GuestState) × (slice_get (guests b) g ≡ Some v) × (y.0 ≡ broken_off v)
      x = each g y.0 y.1

      same : x.0 ≡ w.guest
      same = (let a = x.1 in let c = w.there in cc)

      -- a reply that is late is not kept
      failed_late : kept_or_failed w.guest.settled w.held ≡ failed_held w.held
      failed_late = (let late : suc w.guest.settled ≤ w.held.done.need = omega arith in
          grind (arith, nat_tests))
