-- One look at a guest's queue, step by step of the board.
use Rattle.std.proofs.Common.{◌≡◌, ℕ, ◌+◌, ◌++◌, Bool, true, false, [], ◌∷◌, Option, Some, None}
use Rattle.std.proofs.Common.{Result, Ok, Err, length, unwrap_or, refl, ap, sym, subst, ◌∙◌, arith}
use Rattle.std.proofs.Common.{length-set}
use Rattle.queue_looks.proofs.Common.{slice_get-map, if◌then◌else◌, ◌==◌, slice_get, slice_set}
use Rattle.queue_looks.proofs.Common.{option_map, DiskState, Guest, mark_of, get_set_same}
use Rattle.queue_looks.proofs.Common.{get_set_other, DeviceState, Job, done_of, GivesJob}
use Rattle.queue_looks.proofs.Common.{DeviceFault, answered_in, BookView, guest_of, refusal, state}
use Rattle.queue_looks.proofs.Common.{GuestCore, GuestState, Held, core_after, Tally, after_turn}
use Rattle.queue_looks.proofs.Common.{update, Refused, IsSound, BoardState, guests, in_place}
use Rattle.queue_looks.proofs.Common.{PopsInto, PublishesFrom, PublishesReply, SubmitsFrom, as_many}
use Rattle.queue_looks.proofs.Common.{at_each, other_guest, own, turned, IsCalm, is_broken}
use Rattle.queue_looks.proofs.Common.{RunnerView, after_when, cores_after, cores_when, held_since}
use Rattle.queue_looks.proofs.Common.{runner_of, Leaves, Waits, Did, is_full, submit_of, held_when}
use Rattle.queue_looks.proofs.Common.{submitted, pop_answer, of_guest}
use Rattle.rpmb_book.specs.Fold.{after_submit}
use Rattle.rpmb_book.proofs.Rolling.{submit_rolls}
use Rattle.rpmb_book.specs.declared.refused.Refused.TheVariants as refused
use Rattle.board.specs.Steps.{Answer, job_of}
use Rattle.board.specs.declared.step.Seen.TheVariants.{Nothing}
use Rattle.board.specs.declared.step.StepFault.TheVariants as fault
use Rattle.queue_looks.proofs.Settled.{also_there, below, cores_in, runner_in, runner_more}
use Rattle.queue_looks.proofs.Settled.{state_of}
use Rattle.queue_looks.proofs.Since.{since_still}
use Rattle.rpmb_book.proofs.Places.{set-nothing, update-nothing}

-- 1. Pop

-- what is taken: the job that lay there, or what the device gives
abbrev pub PopTakes : Option Job → DeviceState → Answer → Option Job → DeviceState → Type 0
PopTakes (Some lay) d answer job d' = (answer ≡ Ok Nothing) × (job ≡ Some lay) × (d' ≡ d)
PopTakes None d answer job d' = (popped : Result (Option Job) DeviceFault) × GivesJob d popped d'
    × (answer ≡ pop_answer popped) × (job ≡ job_of popped)

-- the guest's device and job alone may be others
pub record Popped {D : Type 0} (g : ℕ) (d : DeviceState) (o : Option Job) (answer : Answer)
    (b b' : BoardState D) : Type 0 where
  pub job : Option Job
  pub device : DeviceState
  pub takes : PopTakes o d answer job device
  pub is : b' ≡ record b { devices = slice_set b.devices g device; jobs = slice_set b.jobs g job }

pub popped : {D : Type 0} (g : ℕ) (d : DeviceState) (o : Option Job) (answer : Answer)
    (b b' : BoardState D) → slice_get b.devices g ≡ Some d → slice_get b.jobs g ≡ Some o
    → PopsInto g (Some o) (Some d) answer b b' → Popped g d o answer b b'
popped g d (Some lay) answer b b' at place pops = grind (arith, place, set-nothing)
popped g d None answer b b' at place pops = grind (arith, place, set-nothing, slice_get)

-- 2. Submit

-- a job of this guest was answered
pub record Submitted {D : Type 0} (g : ℕ) (b b' : BoardState D) : Type 0 where
  pub job : Job
  pub place : in_place (slice_get b.jobs g) ≡ Some job
  pub tally : Tally
  pub counted : slice_get b.tallies g ≡ Some tally
  pub allowed : refusal b.book tally job ≡ None
  pub is : b' ≡ record b {
    book = after_submit b.book job;
    tallies =
        slice_set b.tallies g (record tally { count = tally.count + 1 });
    jobs =
        slice_set b.jobs g None;
  }

pub submit_did : {D : Type 0} (g : ℕ) (place : Option Job) (t : Option Tally) (b b' : BoardState D)
    → in_place (slice_get b.jobs g) ≡ place → slice_get b.tallies g ≡ t
    → SubmitsFrom g place t (Ok Did) b b' → Submitted g b b'
submit_did g place t b b' there at submits = grind arith

-- there was none
pub submit_nothing : {D : Type 0} (g : ℕ) (place : Option Job) (t : Tally) (b b' : BoardState D)
    → SubmitsFrom g place (Some t) (Ok Nothing) b b' → (b' ≡ b) × (place ≡ None)
submit_nothing g place t b b' submits = grind arith

-- it was refused
pub record SubmitRefused {D : Type 0} (g : ℕ) (why : Refused) (place : Option Job)
    (t : Option Tally) (b b' : BoardState D) : Type 0 where
  pub job : Job
  pub there : place ≡ Some job
  pub tally : Tally
  pub counted : t ≡ Some tally
  pub cause : why ≡ unwrap_or (refusal b.book tally job) refused.NoMemory
  pub is : b' ≡ b

pub submit_refused : {D : Type 0} (g : ℕ) (place : Option Job) (t : Option Tally) (why : Refused)
    (b b' : BoardState D) → SubmitsFrom g place t (Err (fault.Book why)) b b'
    → SubmitRefused g why place t b b'
submit_refused g place t why b b' submits = grind arith

-- 3. From a Submit to the reply that the guest waits for

-- the reply that is held for a job
abbrev pub held_at : Bool → Job → Option GuestCore → Held
held_at broken job None = record { done = done_of job [] 0; kind = 0 }
held_at broken job (Some c) = held_when broken c job

abbrev pub reply_in : {D : Type 0} → BoardState D → Job → Held
reply_in b job = held_at (is_broken b) job (slice_get (runner_of b).cores job.guest)

held_still : (was : Bool) (h : Held) → held_since was was h ≡ h
held_still was h = grind arith

-- a job that was answered, whether or not the history rolled
submit_state : (b : BookView) (job : Job) → state (after_submit b job)
    ≡ after_turn (state b) (submit_of b job)
submit_state b job = submit_rolls b job ∙ state_of b (submit_of b job)

module _ {D : Type 0} (shows : D → DiskState) (g : ℕ) (b b' : BoardState D) (calm : IsCalm shows b)
    (s : Submitted g b b') where
  -- the guest of the job, in the book
  x : (v : GuestState) × (slice_get (guests b) g ≡ Some v)
  x = also_there b.tallies (guests b) g s.tally s.counted (calm.sound.linked.many
      ∙ sym calm.sound.linked.counted)

  pub named : s.job.guest ≡ g
  named = grind (
    arith,
    (of_guest (is_full b.book) s.tally s.job (guest_of b.book s.job.guest)
        s.allowed),
    (calm.sound.linked.each g x.0 x.1),
  )

  here : slice_get (guests b) s.job.guest ≡ Some x.0
  here = ap (slice_get (guests b)) named ∙ x.1

  answered : BoardState D
  answered = record b {
    book = after_submit b.book s.job;
    tallies =
        slice_set b.tallies g (record s.tally { count = s.tally.count + 1 });
    jobs =
        slice_set b.jobs g None;
  }

  pub same_broken : is_broken b' ≡ is_broken b
  same_broken = ap is_broken s.is ∙ ap (λ v. v.broken) (submit_state b.book s.job)

  after_broken : (c : Bool) → is_broken b ≡ c → (state (after_submit b.book s.job)).guests
      ≡ update (guests b) s.job.guest (submitted c s.job)
  after_broken c is = ap (λ v. v.guests) (submit_state b.book s.job)
      ∙ ap (λ k. update (guests b) s.job.guest (submitted k s.job)) is

  -- what answers depend on, after it
  core_here : slice_get (runner_of b).cores s.job.guest ≡ Some x.0.core
  core_here = slice_get-map (λ v. v.core) (guests b) s.job.guest
      ∙ ap (option_map (λ v. v.core)) here

  runner_made : (c : Bool) → is_broken b ≡ c → runner_of answered ≡ after_when c c (runner_of b)
      s.job
  unfolding answered after_when cores_when cores_after
  runner_made true is =
      ap runner_in (after_broken true is)
      ∙ runner_more (guests b) s.job.guest (submitted true s.job) (λ c. c) x.0 here (λ y. refl)
      (λ y. refl)
      ∙ ap (λ cs. (let r : RunnerView = record { cores = cs; answered = answered_in (guests b) + 1 }
      in r)) (update-nothing (cores_in (guests b)) s.job.guest (λ c. c) x.0.core core_here refl)
  runner_made false is = ap runner_in (after_broken false is)
      ∙ runner_more (guests b) s.job.guest (submitted false s.job) (λ c. core_after c s.job) x.0
      here (λ y. refl) (λ y. refl)

  pub runner_after : runner_of b' ≡ after_when (is_broken b) (is_broken b) (runner_of b) s.job
  unfolding answered
  runner_after = ap runner_of s.is ∙ runner_made (is_broken b) refl

  reply_here : reply_in b s.job ≡ held_when (is_broken b) x.0.core s.job
  reply_here = ap (held_at (is_broken b) s.job) core_here

  pub submit_waits : IsSound shows b' → Waits shows g b' (reply_in b s.job) b'
  unfolding answered
  submit_waits sound = subst (λ n. Waits shows n b' (reply_in b s.job) b') named
      (subst (λ v. Waits shows s.job.guest v (reply_in b s.job) v) (sym s.is) waits)
    where
      n : ℕ
      n = s.job.guest

      none : x.0.held ≡ []
      none = (calm.quiet g x.0 x.1).none

      y : (v : GuestState) × (slice_get (guests answered) n ≡ Some v)
      y = also_there (guests b) (guests answered) n x.0 here
          (ap (λ v. length v.guests) (submit_rolls b.book s.job)
          ∙ as_many b.book (submit_of b.book s.job))

      y_is : y.0 ≡ submitted (is_broken b) s.job x.0
      y_is = grind (
        arith,
        (own b.book (submit_of b.book s.job) n (submitted (is_broken b) s.job)
            (λ k v. refl) y.0 (ap (λ v. slice_get v.guests n) (sym (submit_rolls b.book s.job))
            ∙ y.1)),
        here,
      )

      broken_is : is_broken answered ≡ is_broken b
      broken_is = ap (λ v. v.broken) (submit_state b.book s.job)

      -- what is settled of a guest that is calm is its mark
      marked : (k : ℕ) (v : GuestState) (z : Guest) → slice_get (guests b) k ≡ Some v
          → slice_get b.store.guests k ≡ Some z → is_broken b ≡ false → v.settled ≡ mark_of z
      marked k v z at there whole = grind (
        arith,
        (below shows b k v calm.sound at),
        (calm.quiet k v at),
      )

      waits : Waits shows n answered (reply_in b s.job) answered
      waits = record {
        sound = subst (IsSound shows) s.is sound;
        guest = y.0;
        there = y.1;
        held = held_when (is_broken b) x.0.core s.job;
        holds = ap (λ v. v.held) y_is ∙ ap (λ h. h ++ held_when (is_broken b) x.0.core s.job ∷ [])
            none;
        same = sym reply_here ∙ sym (held_still (is_broken answered) (reply_in b s.job));
        need = grind (arith, broken_is, y_is);
        late = grind (arith, broken_is);
        others = λ k v other at.
            grind (
              arith,
              (calm.quiet k v
                  (other_guest b.book (submit_of b.book s.job) n (submitted (is_broken b) s.job)
                  (λ m u.
                  refl) k other v (ap (λ q. slice_get q.guests k) (sym (submit_rolls b.book s.job))
                  ∙ at))),
              broken_is,
            );
        marked = λ whole k v z at there.
            (let u = turned b.book (submit_of b.book s.job) k v
            (ap (λ q. slice_get q.guests k) (sym (submit_rolls b.book s.job)) ∙ at) in
            grind (
              arith,
              (settled_same (s.job.guest == k) u.0 v u.2),
              (marked k u.0 z u.1 there),
              broken_is,
            ));
        replies = calm.replies;
        dones = refl;
        report = calm.report;
        broken = calm.broken ∙ sym broken_is;
        stays = record {
          devices = refl;
          jobs = refl;
          runner =
              sym (since_still (is_broken answered) (runner_of answered));
          whole = λ whole. whole;
        };
      }
        where
          settled_same : (c : Bool) (u v : GuestState)
              → v ≡ (if c then submitted (is_broken b) s.job u else u) → v.settled ≡ u.settled
          settled_same c u v is = grind arith

-- 4. From the reply in its place to its publication

module _ {D : Type 0} (shows : D → DiskState) (g : ℕ) (start : BoardState D) (reply : Held)
    (b b' : BoardState D) (l : Leaves shows g start reply b) where
  place : (d : DeviceState) → slice_get b.devices g ≡ Some d
      → slice_get b.dones g ≡ Some (Some l.done)
  place d at = grind (arith, also_there, length-set, get_set_same)

  -- a reply in its place is published, whatever comes of it
  pub leaves_published : (d : DeviceState) (answer : Answer) → slice_get b.devices g ≡ Some d
      → PublishesFrom g (in_place (slice_get b.dones g)) (slice_get b.devices g) answer b b'
      → PublishesReply g d l.done answer b b'
  leaves_published d answer at from = subst (λ p. PublishesFrom g p (Some d) answer b b')
      (ap in_place (place d at))
      (subst (λ v. PublishesFrom g (in_place (slice_get b.dones g)) v answer b b') at from)

  -- and the board is calm then
  pub leaves_calm : (d : DeviceState) (answer : Answer) → slice_get b.devices g ≡ Some d
      → PublishesReply g d l.done answer b b' → IsSound shows b' → IsCalm shows b'
  leaves_calm d answer at p sound = subst (IsCalm shows) (sym p.after) (record {
    sound = subst (IsSound shows) p.after sound;
    quiet = l.quiet;
    replies = grind (arith, at_each, get_set_other, get_set_same, place, slice_get);
    report = l.report;
    broken = l.broken;
  })
