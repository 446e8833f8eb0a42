-- What is noted of a Submit and of a Publish is what they accepted and published.
use Rattle.std.proofs.Common.{◌≡◌, ◌≢◌, inl, inr, ℕ, ◌+◌, Bool, true, List, [], ◌∷◌, ◌++◌, Option}
use Rattle.std.proofs.Common.{Some, None, Ok, map, refl, ap, sym, ◌∙◌, arith}
use Rattle.world.proofs.Common.{is_some, option_map, slice_get, slice_set, limits_of, Request}
use Rattle.world.proofs.Common.{sequence, GuestConfig, after_refused, CutMakes, CutState, cut_state}
use Rattle.world.proofs.Common.{DeviceState, Job, guest_of, refusal_at, state, submit_of, is_full}
use Rattle.world.proofs.Common.{with_turn, after_submit, submit_rolls, GuestState, request_of}
use Rattle.world.proofs.Common.{submitted, guest_after, Tally, by_guest, replay-push, BoardState}
use Rattle.world.proofs.Common.{guests, in_place, Answer, Does, PopsInto, SubmitsFrom, Did}
use Rattle.world.proofs.Common.{accepted_after, accepted_by, joined_when, Asked, GuestLog, Up, Pop}
use Rattle.world.proofs.Common.{Publication, Step, popped_after, published_after, HaveRoom}
use Rattle.world.proofs.Common.{accepted_in, asked_by, popped_in, published_in, IsGuest, IsNoted}
use Rattle.rpmb_frame.specs.Request.{request}
use Rattle.rpmb_core.proofs.Sequence.{sequence_accepted}
use Rattle.mmio_transport.specs.Job.{room_of}
use Rattle.rpmb_book.specs.Book.{refusal}
use Rattle.rpmb_book.specs.Guest.{core_when}
use Rattle.board.specs.declared.step.Step.TheVariants as step
use Rattle.world.specs.Logs.{asked_of}
use Rattle.world.specs.Noting.{sequence_of}
use Rattle.board.proofs.Linked.{chosen, of_guest}
use Rattle.world.proofs.Rooms.{WaitForNoMore, advances, collects, drives, gives, idles, settles}
use Rattle.world.proofs.Rooms.{takes}

-- 1. A Submit

-- nothing is accepted where no job lies
pub unanswered : (n : ℕ) (answer : Answer) (b : BoardState CutState) (rs : ℕ → List Request) (g : ℕ)
    → in_place (slice_get b.jobs n) ≡ None → accepted_after (step.Submit n) answer b rs g ≡ rs g
unanswered n answer b rs g none = grind arith

-- what an answered job adds: where its guest's sequence grew, its request
pub record Adds (before now : ℕ) (rs list : List Request) (r : Request) : Type 0 where
  pub grew : now ≢ before → list ≡ rs ++ r ∷ []
  pub same : now ≡ before → list ≡ rs

joins : (broken : Bool) (x : GuestState) (job : Job) (rs : List Request)
    → Adds (sequence x.core.partition) (sequence (core_when broken x.core job).partition) rs
    (joined_when broken (Some x) job rs) (request_of x.core job)
joins broken x job rs = grind (arith, after_refused, sequence_accepted)

-- a guest that a job isn't refused for
known : (full : Bool) (tally : Tally) (job : Job) (o : Option GuestState)
    → refusal_at full tally job o ≡ None → (x : GuestState) × (o ≡ Some x)
known full tally job None is = absurd (cc)
known full tally job (Some x) is = (x, refl)

went_as : (c : GuestConfig) (n : ℕ) (b b' : BoardState CutState) (is : IsGuest c n b) (job : Job)
    (answer : Answer) (asked : Job) → Some asked ≡ Some job → in_place (slice_get b.jobs n)
    ≡ Some asked → (rs : ℕ → List Request)
    → (x : GuestState) → guest_of b.book asked.guest ≡ Some x → asked.guest ≡ n → answer ≡ Ok Did
    → state b'.book ≡ state (with_turn b.book (submit_of b.book asked))
    → Adds (sequence_of (slice_get (guests b) n)) (sequence_of (slice_get (guests b') n)) (rs n)
    (accepted_after (step.Submit n) answer b rs n)
    (request job.request (room_of job) (limits_of c))
went_as c n b b' is job answer asked full lies rs x found its did book =
    let same : asked ≡ job = cc in
    let broken = (state b.book).broken in
    let at : slice_get (guests b) n ≡ Some x = ap (slice_get (guests b)) (sym its) ∙ found in
    let before : sequence_of (slice_get (guests b) n) ≡ sequence x.core.partition =
    ap sequence_of at in
    let turned : slice_get (guests b') n
    ≡ option_map (guest_after n broken (submit_of b.book asked)) (slice_get (guests b) n) =
    ap (λ s. slice_get s.guests n) book
    ∙ ap (λ s. slice_get s.guests n)
    (replay-push b.book.opening b.book.history (submit_of b.book asked))
    ∙ by_guest (state b.book) (submit_of b.book asked) n in
    let now : sequence_of (slice_get (guests b') n)
    ≡ sequence (core_when broken x.core asked).partition =
    ap sequence_of (turned ∙ ap (option_map (guest_after n broken (submit_of b.book asked))) at)
    ∙ ap (λ v. sequence v.core.partition)
    (chosen asked.guest n its x (submitted broken asked x)) in
    let first : accepted_after (step.Submit n) answer b rs n ≡ accepted_by (state b.book)
    (Some asked) rs n =
    ap (λ a. accepted_after (step.Submit n) a b rs n) did
    ∙ ap (λ p. accepted_by (state b.book) p rs n) lies in
    let second : accepted_by (state b.book) (Some asked) rs n
    ≡ joined_when broken (slice_get (guests b) n) asked (rs n) =
    chosen n asked.guest (sym its) (rs n) (joined_when broken (slice_get (guests b) n) asked (rs n))
    in
    let list : accepted_after (step.Submit n) answer b rs n ≡ joined_when broken (Some x) asked
    (rs n) = first ∙ second ∙ ap (λ g. joined_when broken g asked (rs n)) at in
    let one = joins broken x asked (rs n) in
    let asks : request_of x.core asked ≡ request job.request (room_of job) (limits_of c) =
    ap (λ l. request asked.request (room_of asked) l) (is.limits x at)
    ∙ ap (λ j. request j.request (room_of j) (limits_of c)) same in
    record {
      grew = λ differs. list ∙ one.grew (λ e. differs (now ∙ e ∙ sym before))
          ∙ ap (λ r. rs n ++ r ∷ []) asks;
      same = λ e. list ∙ one.same (sym now ∙ e ∙ before);
    }

module _ (c : GuestConfig) (n : ℕ) (b b' : BoardState CutState) (is : IsGuest c n b) where
  answered_adds : (job : Job) (answer : Answer) (o : Option Job) (tally : Option Tally)
      → slice_get b.tallies n ≡ tally → o ≡ Some job → in_place (slice_get b.jobs n) ≡ o
      → SubmitsFrom n o tally answer b b' → (rs : ℕ → List Request)
      → Adds (sequence_of (slice_get (guests b) n)) (sequence_of (slice_get (guests b') n)) (rs n)
      (accepted_after (step.Submit n) answer b rs n)
      (request job.request (room_of job) (limits_of c))
  answered_adds job answer o None there full lies does rs = grind arith
  answered_adds job answer None (Some tally) there full lies does rs = absurd (cc)
  answered_adds job answer (Some asked) (Some tally) there full lies does rs = elim does [
    | inl went ↦ went_adds went
    | inr refused ↦ record {
      grew = λ differs. absurd (differs (ap (λ v. sequence_of (slice_get (guests v) n)) refused.1));
      same = λ e. ap (λ a. accepted_after (step.Submit n) a b rs n) refused.0;
    }
  ]
    where
      went_adds : (refusal b.book tally asked ≡ None) × (answer ≡ Ok Did)
          × (b' ≡ record b {
            book = after_submit b.book asked;
            tallies =
                slice_set b.tallies n (record tally { count = tally.count + 1 });
            jobs =
                slice_set b.jobs n None;
          })
          → Adds (sequence_of (slice_get (guests b) n)) (sequence_of (slice_get (guests b') n))
          (rs n) (accepted_after (step.Submit n) answer b rs n)
          (request job.request (room_of job) (limits_of c))
      went_adds went =
          let x = known (is_full b.book) tally asked (guest_of b.book asked.guest) went.0 in
          let its : asked.guest ≡ n =
          sym (of_guest (is_full b.book) tally asked (guest_of b.book asked.guest) went.0)
          ∙ is.tallied tally.guest (ap (option_map (λ v. v.guest)) there) in
          went_as c n b b' is job answer asked full lies rs x.0 x.1 its went.1
          (ap (λ v. state v.book) went.2 ∙ submit_rolls b.book asked)

-- 2. The log of a guest whose job was answered

map_one : (c : GuestConfig) (list : List Asked) (a : Asked) → map (asked_by c) (list ++ a ∷ [])
    ≡ map (asked_by c) list ++ asked_by c a ∷ []
map_one c [] a = refl
map_one c (x ∷ list) a = ap (λ l. asked_by c x ∷ l) (map_one c list a)

module _ (n : ℕ) (b b' : BoardState CutState) (job : Job) (answer : Answer) (log log' : GuestLog)
    (lies : in_place (slice_get b.jobs n) ≡ Some job)
    (does : Does cut_state CutMakes (step.Submit n) answer b b') where
  abbrev Sequence : BoardState CutState → ℕ
  Sequence v = sequence_of (slice_get (guests v) n)

  abbrev Says : Type 0
  Says = (c : GuestConfig) → IsGuest c n b → map (asked_by c) log'.accepted
      ≡ accepted_after (step.Submit n) answer b (λ h. map (asked_by c) log.accepted) n

  adds : (c : GuestConfig) → IsGuest c n b
      → Adds (Sequence b) (Sequence b') (map (asked_by c) log.accepted)
      (accepted_after (step.Submit n) answer b (λ h. map (asked_by c) log.accepted) n)
      (asked_by c (asked_of job))
  adds c is = answered_adds c n b b' is job answer (in_place (slice_get b.jobs n))
      (slice_get b.tallies n) refl lies refl does (λ h. map (asked_by c) log.accepted)

  pub says_more : ¬ (Sequence b' ≡ Sequence b) → log'.accepted ≡ log.accepted ++ asked_of job ∷ []
      → Says
  says_more grew list c is = ap (map (asked_by c)) list ∙ map_one c log.accepted (asked_of job)
      ∙ sym ((adds c is).grew grew)

  pub says_same : Sequence b' ≡ Sequence b → log'.accepted ≡ log.accepted → Says
  says_same same list c is = ap (map (asked_by c)) list ∙ sym ((adds c is).same same)

-- a Pop of a full place gives nothing, and nothing is noted of it
pub pops_full : (life n : ℕ) (answer : Answer) (b b' : BoardState CutState)
    (o : Option (Option Job)) (d : Option DeviceState) (popped : List Pop)
    → is_some (in_place o) ≡ true
    → PopsInto n o d answer b b' → popped ≡ popped_after life (step.Pop n) answer b' (λ h. popped) n
pops_full life n answer b b' o d popped full does = grind arith

-- 3. A step of which nothing is noted

-- it isn't a Submit of a job, nor a Publish of a reply, nor a Pop of a guest of the board
abbrev pub IsQuiet : Step → BoardState CutState → Type 0
IsQuiet (step.Submit n) b = in_place (slice_get b.jobs n) ≡ None
IsQuiet (step.Publish n) b = in_place (slice_get b.dones n) ≡ None
IsQuiet (step.Drive n act) b = Unit {0}
IsQuiet (step.Pop n) b = (slice_get b.jobs n ≡ None)
IsQuiet (step.Collect n) b = Unit {0}
IsQuiet (step.Take n) b = Unit {0}
IsQuiet (step.Give n) b = Unit {0}
IsQuiet step.Advance b = Unit {0}
IsQuiet step.Settle b = Unit {0}

-- there is room as before, where the guests wait for no more
pub still_room : (b b' : BoardState CutState) (logs : List GuestLog) → HaveRoom (Up b) logs
    → WaitForNoMore b b' → HaveRoom (Up b') logs
still_room b b' logs room waits g log y at there =
    let w = waits g y there in
    let r = room g log w.before at w.there in
    record {
      few = (omega arith);
      room = (omega arith);
    }

record Quiet (life : ℕ) (s : Step) (answer : Answer) (b b' : BoardState CutState) : Type 0 where
  pub accepted : (rs : ℕ → List Request) (g : ℕ) → rs g ≡ accepted_after s answer b rs g
  pub published : (us : ℕ → List Publication) (g : ℕ) → us g ≡ published_after life s answer b us g
  pub popped : (ps : ℕ → List Pop) (g : ℕ) → ps g ≡ popped_after life s answer b' ps g
  pub waits : WaitForNoMore b b'

quiet : (life : ℕ) (s : Step) (answer : Answer) (b b' : BoardState CutState) → IsQuiet s b
    → Does cut_state CutMakes s answer b b' → Quiet life s answer b b'
quiet life s answer b b' is does =
    grind (arith, advances, collects, drives, gives, idles, settles, takes)

pub quiet_noted : (config : List GuestConfig) (life : ℕ) (s : Step) (answer : Answer)
    (b b' : BoardState CutState) (logs : List GuestLog) → IsQuiet s b
    → Does cut_state CutMakes s answer b b' → HaveRoom (Up b) logs
    → IsNoted config life s answer b b' logs logs
quiet_noted config life s answer b b' logs is does room =
    let q = quiet life s answer b b' is does in record {
      steps = inl (
        does,
        record {
          accepted = q.accepted (accepted_in config logs);
          published =
              q.published (published_in logs);
          popped = q.popped (popped_in logs);
        },
      );
      room = still_room b b' logs room q.waits;
    }
