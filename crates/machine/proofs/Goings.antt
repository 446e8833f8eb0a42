-- One move of a serve after another.
use Rattle.std.proofs.Common.{◌≡◌, inl, inr, refl, ap, sym, subst, ◌∙◌, ℕ, Bool, true, false}
use Rattle.std.proofs.Common.{[], Option, Some, None, Ok, Err, length}
use Rattle.std.proofs.Common.{IfSome, arith}
use Rattle.std.specs.Prelude.{nat_le, nat_lt}
use Rattle.board.proofs.Common.{nat_tests}
use Rattle.guest_memory.specs.declared.ask.Ask.{Ask}
use Rattle.chains.specs.Needs.{OfArea}
use Rattle.mmio_transport.specs.Asking.{Asks, Notifies, NotifiesOf, NotifiesWhere, PopNeeds}
use Rattle.mmio_transport.specs.Queue.{QueueState}
use Rattle.board.specs.Asking.{ForPop}
use Rattle.board.specs.State.{in_place}
use Rattle.machine.proofs.Common.{slice_get, AskingState, Boards, MachineFault, Runs}
use Rattle.machine.specs.Ending.{EndsFor, FindsNone, GoesOnFor, HasEnded, HasReason, IsSettled}
use Rattle.machine.specs.Ending.{IsTaken}
use Rattle.machine.specs.declared.taking.Taken.{Taken}
use Rattle.machine.specs.declared.taking.Taken.TheVariants as taken
use Rattle.machine.specs.Ending.{BookRefused, Lacks, Looks, NeedsNext, NotifiesNext, PopRefused}
use Rattle.machine.specs.Ending.{RestsAt, SawAll, SawUsed}
use Rattle.machine.specs.Ending.{Went, left_by}
use Rattle.machine.specs.declared.fault.MachineFault.TheVariants as fault
use Rattle.machine.specs.Serving.{HasStopped, KeepsWaiting, SameDevices}
use Rattle.machine.specs.Serving.{standing}
use Rattle.machine.specs.Turn.{Stand, TurnState, stand_of}
use Rattle.machine.specs.declared.serving.Next.{Next}
use Rattle.machine.specs.declared.serving.Next.TheVariants as next
use Rattle.machine.proofs.Runs.{runs_twice, then_does, then_many}

-- 1. Whether the driver is to be notified

all_of : (n : ℕ) → nat_le n n ≡ true
all_of n = grind (arith, nat_tests)

module _ (a a' : AskingState) where
  err_where : (b : Bool) (q : QueueState) (ask : Ask) → NotifiesWhere b q a (Err ask) a'
      → Asks (PopNeeds (Some q) a.device.memory) ask a a'
  err_where true q ask does = absurd (let no = does.0 in cc)
  err_where false q ask does =
      record { missing = does.missing; needed = OfArea does.needed; same = does.same }

  err_of : (o : Option QueueState) (ask : Ask) → NotifiesOf o a (Err ask) a'
      → Asks (PopNeeds o a.device.memory) ask a a'
  err_of None ask does = absurd (let no = does.0 in cc)
  err_of (Some q) ask does = err_where _ q ask does

  pub notify_asks : (ask : Ask) → Notifies a (Err ask) a' → Asks (ForPop a) ask a a'
  notify_asks ask does = err_of a.device.queue ask does

  not_where : (b : Bool) (q : QueueState) → NotifiesWhere b q a (Ok false) a'
      → a'.device ≡ a.device
  not_where true q does = ap (λ x. x.device) does.1
  not_where false q does = ap (λ x. x.device) does.after

  not_of : (o : Option QueueState) → NotifiesOf o a (Ok false) a' → a'.device ≡ a.device
  not_of None does = ap (λ x. x.device) does.1
  not_of (Some q) does = not_where _ q does

  pub not_notified : Notifies a (Ok false) a' → a'.device ≡ a.device
  not_notified does = not_of a.device.queue does

  seen_where : (b : Bool) (q : QueueState) → a.device.queue ≡ Some q
      → nat_le q.ring.used a.told ≡ b → NotifiesWhere b q a (Ok false) a' → SawUsed a'
  seen_where true q its le does =
      subst SawUsed (sym does.1)
      (subst (λ o. IfSome o (λ k. nat_le k.ring.used a.told ≡ true)) (sym its) le)
  seen_where false q its le does =
      subst SawUsed (sym does.after)
      (subst (λ o. IfSome o (λ k. nat_le k.ring.used q.ring.used ≡ true)) (sym its)
      (all_of q.ring.used))

  seen_of : (o : Option QueueState) → a.device.queue ≡ o → NotifiesOf o a (Ok false) a'
      → SawUsed a'
  seen_of None its does =
      subst SawUsed (sym does.1)
      (subst (λ o. IfSome o (λ k. nat_le k.ring.used a.told ≡ true)) (sym its) tt)
  seen_of (Some q) its does = seen_where (nat_le q.ring.used a.told) q its refl does

  pub saw_all : Notifies a (Ok false) a' → SawAll a'
  saw_all does = λ going. seen_of a.device.queue refl does

-- 2. Moves

pub then_stopped : (guest most : ℕ) (s t u : Stand) (a b c : Boards) → Runs guest most s a t b
    → HasStopped guest most t b u c → HasStopped guest most s a u c
then_stopped guest most s t u a b c first stopped = record {
  before = stopped.before;
  parts = stopped.parts;
  going = stopped.going;
  looked = stopped.looked;
  runs = runs_twice guest most s t (standing stopped.parts stopped.going stopped.looked) a b
      stopped.before first
      stopped.runs;
  went_on = stopped.went_on;
  why = stopped.why;
  refuses = stopped.refuses;
  left = stopped.left;
}

-- a reason is one, too, with some steps more before it or behind it
module _ (guest most : ℕ) where
  then_looks : (s t v : Stand) (a b d : Boards) → Runs guest most s a t b → Looks guest most t b v d
      → Looks guest most s a v d
  then_looks s t v a b d first looks = record {
    before = looks.before;
    looked = looks.looked;
    first = runs_twice guest most s t (standing [] true looks.looked) a b looks.before first
        looks.first;
    looked' = looks.looked';
    after = looks.after;
    pops = looks.pops;
    rest = looks.rest;
  }

  looks_then : (s t v : Stand) (a b d : Boards) → Looks guest most s a t b → Runs guest most t b v d
      → Looks guest most s a v d
  looks_then s t v a b d looks more = record {
    before = looks.before;
    looked = looks.looked;
    first = looks.first;
    looked' = looks.looked';
    after = looks.after;
    pops = looks.pops;
    rest = runs_twice guest most (standing [] false looks.looked') t v looks.after b d looks.rest
        more;
  }

module _ (guest most : ℕ) (f : MachineFault) where
  pub then_reason : (s t v : Stand) (a b d : Boards) → Runs guest most s a t b
      → HasReason guest most f t b v d → HasReason guest most f s a v d
  then_reason s t v a b d first (PopRefused l x y e before makes is after) =
      PopRefused l x y e (runs_twice guest most s t
      (standing [] true l) a b x first before) makes is after
  then_reason s t v a b d first (BookRefused w x y e before makes is after) =
      BookRefused w x y e (runs_twice guest most s t w a b x first before) makes is after
  then_reason s t v a b d first (Lacks is) = Lacks is

  pub reason_then : (s t v : Stand) (a b d : Boards) → HasReason guest most f s a t b
      → Runs guest most t b v d → HasReason guest most f s a v d
  reason_then s t v a b d (PopRefused l x y e before makes is after) more =
      PopRefused l x y e before makes is
      (runs_twice guest most (standing [] false l) t v y b d after more)
  reason_then s t v a b d (BookRefused w x y e before makes is after) more =
      BookRefused w x y e before makes is (runs_twice guest most w t v y b d after more)
  reason_then s t v a b d (Lacks is) more = Lacks is

  pub ends_after : (s t : Stand) (a b : Boards) (u : TurnState) (c : Boards)
      → Runs guest most s a t b
      → EndsFor guest most f t b u c → EndsFor guest most f s a u c
  ends_after s t a b u c runs ends = record {
    reason = then_reason s t (stand_of u) a b c runs ends.reason;
    settled = ends.settled;
  }

  -- memory was refused
  pub lacks : (s : Stand) (a : Boards) (u : TurnState) (c : Boards) → f ≡ fault.NoMemory
      → EndsFor guest most f s a u c
  lacks s a u c is = record { reason = Lacks is; settled = λ other. absurd (other is) }

module _ (guest most : ℕ) where
  -- with some steps more before them
  pub busy_after : (s t : Stand) (a b c : Boards) (u : TurnState) (n : Option Next)
      → Runs guest most s a t b → GoesOnFor guest most t b u c n → GoesOnFor guest most s a u c n
  busy_after s t a b c u None runs does = then_does guest most s t (stand_of u) a b c runs does
  busy_after s t a b c u (Some next.Again) runs (inl does) =
      inl (then_many guest most 16 s t (stand_of u) a b c runs does)
  busy_after s t a b c u (Some next.Again) runs (inr (inl waits)) = inr (inl waits)
  busy_after s t a b c u (Some next.Again) runs (inr (inr stopped)) =
      inr (inr (then_stopped guest most s t (stand_of u) a b c runs stopped))
  busy_after s t a b c u (Some (next.Read ask)) runs busy = tt
  busy_after s t a b c u (Some (next.Write part)) runs busy = tt
  busy_after s t a b c u (Some next.Call) runs busy = tt
  busy_after s t a b c u (Some (next.Rest f)) runs busy = tt

  pub needs_after : (s t : Stand) (a b : Boards) (u : TurnState) (c : Boards) (n : Option Next)
      → Runs guest most s a t b → NeedsNext guest most t b u c n → NeedsNext guest most s a u c n
  needs_after s t a b u c None runs needs = tt
  needs_after s t a b u c (Some next.Again) runs needs = tt
  needs_after s t a b u c (Some (next.Read ask)) runs needs = needs
  needs_after s t a b u c (Some (next.Write part)) runs needs = tt
  needs_after s t a b u c (Some next.Call) runs needs = tt
  needs_after s t a b u c (Some (next.Rest None)) runs needs = (
    record {
      jobs = needs.0.jobs;
      taken = elim needs.0.taken [
        | inl found ↦ inl
            (found.0, then_looks guest most s t (stand_of u) a b c runs found.1)
        | inr full ↦ inr full
      ];
      settled = needs.0.settled;
    },
    needs.1,
  )
  needs_after s t a b u c (Some (next.Rest (Some f))) runs needs = ends_after guest most f s t a b u
      c
      runs needs

  -- where what is left to be copied out is as it was
  pub needs_same : (s : Stand) (a : Boards) (u w : TurnState) (c : Boards) (n : Option Next)
      → stand_of w ≡ stand_of u → NeedsNext guest most s a u c n → NeedsNext guest most s a w c n
  needs_same s a u w c None same needs = tt
  needs_same s a u w c (Some next.Again) same needs = tt
  needs_same s a u w c (Some (next.Read ask)) same needs = needs
  needs_same s a u w c (Some (next.Write part)) same needs = tt
  needs_same s a u w c (Some next.Call) same needs = tt
  needs_same s a u w c (Some (next.Rest None)) same needs = (
    subst (λ v. RestsAt guest most s a v c) (sym same) needs.0,
    ap (λ v. v.parts) same ∙ needs.1,
  )
  needs_same s a u w c (Some (next.Rest (Some f))) same needs = record {
    reason = subst (λ v. HasReason guest most f s a v c) (sym same) needs.reason;
    settled = λ other. (let is = needs.settled other in (is.0, ap (λ v. v.parts) same ∙ is.1));
  }

  -- and what became of the next chain
  pub taken_after : (s t : Stand) (a b : Boards) (u : TurnState) (c : Boards) (k : Taken)
      → Runs guest most s a t b → IsTaken guest most t b u c k → IsTaken guest most s a u c k
  taken_after s t a b u c (taken.Asks ask) runs is = is
  taken_after s t a b u c taken.Did runs is = tt
  taken_after s t a b u c taken.Nothing runs is = (
    (
      is.0.0,
      elim is.0.1 [
        | inl found ↦ inl
            (found.0, then_looks guest most s t (stand_of u) a b c runs found.1)
        | inr full ↦ inr full
      ],
    ),
    is.1,
  )
  taken_after s t a b u c (taken.Refused f) runs is =
      (then_reason guest most f s t (stand_of u) a b c runs is.0, is.1)

  -- the serve began before these steps, or with them
  pub went_on : (s : Stand) (z : Boards) (t0 t1 t2 : TurnState) (a b c : Boards) (n : Option Next)
      → Runs guest most (stand_of t0) a (stand_of t1) b → length b.devices ≡ length a.devices
      → t1.asked ≡ t0.asked → Went guest most s z t1 t2 b c n → Went guest most s z t0 t2 a c n
  went_on s z t0 t1 t2 a b c n runs count asked went = record {
    runs = runs_twice guest most (stand_of t0) (stand_of t1) (left_by n t2) a b c runs went.runs;
    needs = went.needs;
    busy = busy_after (stand_of t0) (stand_of t1) a b c t2 n runs went.busy;
    count = went.count ∙ count;
    asked = went.asked ∙ asked;
  }

  pub went_after : (t0 t1 t2 : TurnState) (a b c : Boards) (n : Option Next)
      → Runs guest most (stand_of t0) a (stand_of t1) b → length b.devices ≡ length a.devices
      → t1.asked ≡ t0.asked → Went guest most (stand_of t1) b t1 t2 b c n
      → Went guest most (stand_of t0) a t0 t2 a c n
  went_after t0 t1 t2 a b c n runs count asked went =
      went_on (stand_of t0) a t0 t1 t2 a b c n runs count asked (record {
        runs = went.runs;
        needs = needs_after (stand_of t0) (stand_of t1) a b t2 c n runs went.needs;
        busy = went.busy;
        count = went.count;
        asked = went.asked;
      })

  pub went_by : (s : Stand) (z : Boards) (t t' : TurnState) (a b : Boards) (n : Option Next)
      → Runs guest most (stand_of t) a (left_by n t') b → NeedsNext guest most s z t' b n
      → GoesOnFor guest most (stand_of t) a t' b n
      → length b.devices ≡ length a.devices → t'.asked ≡ t.asked
      → Went guest most s z t t' a b n
  went_by s z t t' a b n runs needs busy count asked = record {
    runs = runs;
    needs = needs;
    busy = busy;
    count = count;
    asked = asked;
  }

  -- 3. Where a guest rests

  pub finds_same : (a b : Boards) → SameDevices a b → FindsNone guest a → FindsNone guest b
  finds_same a b same found = record {
    device = found.device;
    its = ap (λ ds. slice_get ds guest) same ∙ found.its;
    before = found.before;
    none = found.none;
  }

  pub ended_on : (s u v : Stand) (z a b : Boards) (f : Option MachineFault)
      → Runs guest most u a v b
      → SameDevices a b → KeepsWaiting guest a.rest b.rest → HasEnded guest most s z u a f
      → HasEnded guest most s z v b f
  ended_on s u v z a b None runs same keeps ended = (
    ap (λ js. in_place (slice_get js guest)) keeps.0 ∙ ended.0,
    elim ended.1 [
      | inl found ↦ inl
          (finds_same a b same found.0, looks_then guest most s u v z a b found.1 runs)
      | inr full ↦ inr (ap (λ n. nat_lt n most) keeps.1 ∙ full)
    ],
  )
  ended_on s u v z a b (Some f) runs same keeps ended = reason_then guest most f s u v z a b ended
      runs

  pub rest_needs : (s : Stand) (z : Boards) (turn : TurnState) (b : Boards)
      (o : Option MachineFault) → HasEnded guest most s z (stand_of turn) b o → IsSettled guest b
      → turn.parts ≡ [] → NeedsNext guest most s z turn b (Some (next.Rest o))
  rest_needs s z turn b None ended settled none =
      (record { jobs = ended.0; taken = ended.1; settled = settled }, none)
  rest_needs s z turn b (Some f) ended settled none =
      record { reason = ended; settled = λ other. (settled, none) }

  pub notified_needs : (s : Stand) (z : Boards) (t : TurnState) (b : Boards) (o : Option Next)
      → NotifiesNext guest b o → NeedsNext guest most s z t b o
  notified_needs s z t b None needs = tt
  notified_needs s z t b (Some next.Again) needs = tt
  notified_needs s z t b (Some (next.Read ask)) needs = needs.0
  notified_needs s z t b (Some (next.Write part)) needs = tt
  notified_needs s z t b (Some next.Call) needs = tt
  notified_needs s z t b (Some (next.Rest f)) needs = absurd needs

  pub notified_busy : (s : Stand) (a b : Boards) (t : TurnState) (n : Next)
      → NotifiesNext guest b (Some n) → GoesOnFor guest most s a t b (Some n)
  notified_busy s a b t next.Again needs = absurd needs
  notified_busy s a b t (next.Read ask) needs = tt
  notified_busy s a b t (next.Write part) needs = tt
  notified_busy s a b t next.Call needs = tt
  notified_busy s a b t (next.Rest f) needs = tt
