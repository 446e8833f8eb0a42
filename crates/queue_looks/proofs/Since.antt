-- What answers depend on, before and after a job or a break.
use Rattle.std.proofs.Common.{◌≡◌, ℕ, List, [], ◌∷◌, map, refl, ap, Bool, false, ap₂, arith}
use Rattle.queue_looks.proofs.Common.{update, GuestCore, Job, RunnerView, after_when, cores_when}
use Rattle.queue_looks.proofs.Common.{runner_since, since, cores_after, reply_when, stored, room_of}
use Rattle.rpmb_frame.specs.Request.{request}
use Rattle.rpmb_core.specs.Verdict.{verdict}
use Rattle.rpmb_core.specs.Accept.{partition_after}
use Rattle.rpmb_core.specs.Outcome.{outcome_of}

since_none : (was : Bool) (c : GuestCore) → since was was c ≡ c
since_none was c = grind arith

each_same : (f : GuestCore → GuestCore) → ((c : GuestCore) → f c ≡ c) → (cs : List GuestCore)
    → map f cs ≡ cs
each_same f same [] = refl
each_same f same (c ∷ cs) = ap₂ (λ x xs. x ∷ xs) (same c) (each_same f same cs)

-- nothing broke
pub since_still : (was : Bool) (v : RunnerView) → runner_since was was v ≡ v
since_still was v = ap (λ cs. record v { cores = cs })
    (each_same (since was was) (since_none was) v.cores)

pub since_whole : (was now : Bool) (v : RunnerView) → now ≡ false → runner_since was now v ≡ v
since_whole was now v whole = grind (arith, each_same)

-- over one break at most, at one of two moments
since_twice : (was mid now : Bool) → (mid ≡ false → was ≡ false) → (now ≡ false → mid ≡ false)
    → (c : GuestCore) → since mid now (since was mid c) ≡ since was now c
since_twice was mid now before after c = grind arith

each_twice : (f g h : GuestCore → GuestCore) → ((c : GuestCore) → g (f c) ≡ h c)
    → (cs : List GuestCore) → map g (map f cs) ≡ map h cs
each_twice f g h same [] = refl
each_twice f g h same (c ∷ cs) = ap₂ (λ x xs. x ∷ xs) (same c) (each_twice f g h same cs)

pub runner_twice : (was mid now : Bool) (v : RunnerView) → (mid ≡ false → was ≡ false)
    → (now ≡ false → mid ≡ false) → runner_since mid now (runner_since was mid v)
    ≡ runner_since was now v
runner_twice was mid now v before after =
    ap (λ cs. record v { cores = cs }) (each_twice (since was mid) (since mid now) (since was now)
    (since_twice was mid now before after) v.cores)

-- after a job, and a break or none since
pub since_after : (was now : Bool) (v : RunnerView) (job : Job)
    → runner_since was now (after_when was was v job) ≡ after_when was now v job
unfolding after_when cores_when
since_after was now v job = grind (arith, each_same)

-- A reply depends on four things of its job: the guest, the session, the bytes and the room; also
-- where a call of the
-- disk failed.

-- the core after a request of these bytes in a session, and the reply to it
core_for : List ℕ → ℕ → ℕ → GuestCore → GuestCore
core_for bytes room session c =
    let r = request bytes room c.limits in
    let p = partition_after c.partition r in
    record {
      limits = c.limits;
      partition = p;
      last =
          stored c.last session (outcome_of r.command (verdict c.partition r) p.counter);
    }

-- the four things are the same
pub record IsAlike (j k : Job) : Type 0 where
  pub guest : j.guest ≡ k.guest
  pub session : j.session ≡ k.session
  pub request : j.request ≡ k.request
  pub room : room_of j ≡ room_of k

pub same_reply : (was now : Bool) (cores : List GuestCore) (j k : Job) → IsAlike j k
    → reply_when was now cores j ≡ reply_when was now cores k
unfolding reply_when
same_reply was now cores j k is = grind arith

alike_after : (cores : List GuestCore) (j k : Job) → IsAlike j k
    → cores_after cores j ≡ cores_after cores k
unfolding cores_after core_for
alike_after cores j k is = λ i.
    update cores (is.guest i) (core_for (is.request i) (is.room i) (is.session i))

pub same_cores : (was now : Bool) (cores : List GuestCore) (j k : Job) → IsAlike j k
    → cores_when was now cores j ≡ cores_when was now cores k
unfolding cores_when
same_cores was now cores j k is = grind (arith, alike_after)
