-- Of all that is to be copied out a device has copies.
use Rattle.std.proofs.Common.{◌≡◌, ◌≢◌, ◌<◌, ◌-◌, ◌∙◌, ℕ, Bool, true, false, ◌||◌, List}
use Rattle.std.proofs.Common.{[], ◌∷◌, ◌++◌, Option, Some, None, Ok, IfSome, if◌then◌else◌, length}
use Rattle.std.proofs.Common.{map, min, refl, ap, sym, subst, arith, inl, inr}
use Rattle.std.proofs.lemmas.Bool.Decides.{nat_tests}
use Rattle.std.specs.Prelude.{◌==◌, nat_le}
use Rattle.std.specs.List.{list_any}
use Rattle.std.proofs.lemmas.List.Folds.{list_any-append}
use Rattle.guest_memory.specs.Memory.{IsHeld, Known, Span, has_part, holds, told}
use Rattle.guest_memory.proofs.Copies.{holds_by}
use Rattle.chains.specs.Range.{AreHeld}
use Rattle.chains.specs.Ring.{RingState}
use Rattle.mmio_transport.specs.declared.ring_kind.RingKind.{RingKind}
use Rattle.mmio_transport.specs.declared.ring_kind.RingKind.TheVariants.{Packed, Split}
use Rattle.mmio_transport.specs.declared.done.Published.{Published}
use Rattle.mmio_transport.specs.declared.done.Published.TheVariants.{Dropped, Wrote}
use Rattle.mmio_transport.specs.Asking.{HasRoomIn, HoldsEvent, NotifiesOf, NotifiesWhere}
use Rattle.mmio_transport.specs.Asking.{PublishesAsked, WritesAskedIn, after_told, known}
use Rattle.mmio_transport.specs.Popping.{live_queue}
use Rattle.mmio_transport.specs.Publishing.{IsDueIn}
use Rattle.mmio_transport.specs.Queue.{QueueState, event_held, indexed_of, popped_by, popped_of}
use Rattle.mmio_transport.specs.Queue.{used_held, written_of}
use Rattle.mmio_transport.specs.Written.{queue_parts, range_in}
use Rattle.board.specs.Asking.{SeesBy, knowledge}
use Rattle.machine.proofs.Common.{slice_get, slice_set, Answer, AskingState, Boards, Calls, Done}
use Rattle.machine.proofs.Common.{DeviceState, GivesUp, Hands, HandsOne, Learns, LearnsOf}
use Rattle.machine.proofs.Common.{Pops, PopsOne, Range, Runs, Stand, Still, Then, Voids}
use Rattle.machine.proofs.Common.{get_set_other, get_set_same, standing}
use Rattle.board.proofs.Common.{slice_get-map, option_map}
use Rattle.machine.specs.Ending.{Begins, GoesOn, Stops, Tells}
use Rattle.machine.specs.Serving.{Forgets, HasParts, Sees, Tells as TellsZeros}
use Rattle.machine.specs.Turn.{AreCopied, filled_part, filled_parts, pop_parts, reply_parts}

-- 1. Parts of a memory

pub copied_by : (k k' : Known) (ps : List Range) → k'.held ≡ k.held → AreCopied k ps
    → AreCopied k' ps
copied_by k k' [] same are = tt
copied_by k k' (p ∷ ps) same are =
    (holds_by k k' p.at p.len same are.0, copied_by k k' ps same are.1)

copied_both : (k : Known) (ps qs : List Range) → AreCopied k ps → AreCopied k qs
    → AreCopied k (ps ++ qs)
copied_both k [] qs first rest = rest
copied_both k (p ∷ ps) qs first rest = (first.0, copied_both k ps qs first.1 rest)

or_left : (a b : Bool) → a ≡ true → (a || b) ≡ true
or_left true b is = refl
or_left false b is = absurd (let no = is in cc)

any_more : (asks : Bool) (f : Span → Bool) (xs ys : List Span) → list_any f xs ≡ true
    → list_any f (if asks then xs ++ ys else xs) ≡ true
any_more true f xs ys is = list_any-append f xs ys ∙ or_left (list_any f xs) (list_any f ys) is
any_more false f xs ys is = is

-- what was held is held still where more was told
told_holds : (k : Known) (at : ℕ) (bytes : List ℕ) (p q : ℕ) → holds k p q ≡ true
    → holds (told k at bytes) p q ≡ true
unfolding holds
told_holds k at bytes p q is =
    any_more k.asks (has_part p q) k.held (record { at = at; len = length bytes } ∷ []) is

copied_told : (k : Known) (at : ℕ) (bytes : List ℕ) (ps : List Range) → AreCopied k ps
    → AreCopied (told k at bytes) ps
copied_told k at bytes [] are = tt
copied_told k at bytes (p ∷ ps) are =
    (told_holds k at bytes p.at p.len are.0, copied_told k at bytes ps are.1)

-- a device that was told more
after_copied : (a : AskingState) (at : ℕ) (bytes : List ℕ) (ps : List Range)
    → AreCopied (known a) ps → AreCopied (known (after_told a at bytes)) ps
after_copied a at bytes ps are =
    copied_by (told (known a) at bytes) (known (after_told a at bytes)) ps refl
    (copied_told (known a) at bytes ps are)

-- 2. What a pop writes, and a publication

event_part : (k : Known) (b : Bool) (part : Range) → (b ≡ true → IsHeld k part.at part.len)
    → AreCopied k (range_in (if b then Some part else None))
event_part k true part held = (held refl, tt)
event_part k false part held = tt

event_of : (k : Known) (kind : RingKind) (ring : RingState) → event_held kind k ring
    → AreCopied k (range_in (popped_of kind ring))
event_of k Split ring held = event_part k ring.places.event_idx _ held
event_of k Packed ring held = tt

event_in : (k : Known) (o : Option QueueState) → IfSome o (λ q. event_held q.kind k q.ring)
    → AreCopied k (range_in (popped_by o))
event_in k None held = tt
event_in k (Some q) held = event_of k q.kind q.ring held

used_of : (k : Known) (kind : RingKind) (ring : RingState) → used_held kind k ring
    → AreCopied k (range_in (Some (written_of kind ring)) ++ range_in (indexed_of kind ring))
used_of k Split ring held = (held.element, (held.idx, tt))
used_of k Packed ring held = (held, tt)

filled_by : (k : Known) (at len : ℕ) (b : Bool) → (b ≡ false → IsHeld k at len)
    → AreCopied k (if b then [] else record { at = at; len = len } ∷ [])
filled_by k at len true held = tt
filled_by k at len false held = (held refl, tt)

filled_one : (k : Known) (at len : ℕ) → (0 < len → IsHeld k at len)
    → AreCopied k (if len == 0 then [] else record { at = at; len = len } ∷ [])
filled_one k at len held = filled_by k at len (len == 0)
    (λ some. held (let below : 0 < len = grind (arith, nat_tests) in below))

filled : (k : Known) (rs : List Range) (count : ℕ) → AreHeld k rs count
    → AreCopied k (filled_parts rs count)
filled k [] count are = tt
filled k (r ∷ rs) count are =
    copied_both k (filled_part r count) (filled_parts rs (count - r.len))
    (filled_one k r.at (min r.len count) are.0) (filled k rs (count - r.len) are.1)

wrote_in : (a : AskingState) (o : Option QueueState) (done : Done) (notify : Bool)
    (a' : AskingState) → WritesAskedIn o a done notify a'
    → (IsDueIn o a.device done → HasRoomIn o a done)
    → (a'.held ≡ a.held)
    × AreCopied (known a) (filled_parts done.writable (length done.reply) ++ queue_parts o)
wrote_in a None done notify a' writes room = absurd writes
wrote_in a (Some q) done notify a' writes room =
    let has = room writes.due in (
      ap (λ (x : AskingState). x.held) writes.same,
      copied_both (known a) (filled_parts done.writable (length done.reply)) (queue_parts (Some q))
          (filled (known a) done.writable (length done.reply) has.reply)
          (used_of (known a) q.kind q.ring has.used),
    )

reply_copied : (a a' : AskingState) (done : Done) (published : Published)
    → PublishesAsked a done published a'
    → (IsDueIn a.device.queue a.device done → HasRoomIn a.device.queue a done)
    → AreCopied (known a') (reply_parts a.device done published)
reply_copied a a' done (Wrote notify) publishes room =
    let wrote = wrote_in a a.device.queue done notify a' publishes room in
    copied_by (known a) (known a') _ wrote.0 wrote.1
reply_copied a a' done Dropped publishes room = tt

-- 3. Devices of a board

pub none_copied : (guest : ℕ) (b : Boards) → HasParts guest [] b
none_copied guest b = in_any (slice_get b.devices guest)
  where
    in_any : (o : Option AskingState) → IfSome o (λ d. AreCopied (known d) [])
    in_any None = tt
    in_any (Some d) = tt

pub copied_of : (guest : ℕ) (ps : List Range) (b : Boards) (d : AskingState)
    → slice_get b.devices guest ≡ Some d → HasParts guest ps b → AreCopied (known d) ps
copied_of guest ps b d its has = subst (λ o. IfSome o (λ x. AreCopied (known x) ps)) its has

pub copied_at : (guest : ℕ) (ps : List Range) (b : Boards) (d : AskingState)
    → slice_get b.devices guest ≡ Some d → AreCopied (known d) ps → HasParts guest ps b
copied_at guest ps b d its are = subst (λ o. IfSome o (λ x. AreCopied (known x) ps)) (sym its) are

pub copied_set : (guest : ℕ) (ps : List Range) (a b : Boards) (d d' : AskingState)
    → slice_get a.devices guest ≡ Some d → b.devices ≡ slice_set a.devices guest d'
    → AreCopied (known d') ps → HasParts guest ps b
copied_set guest ps a b d d' its after are =
    copied_at guest ps b d' (ap (λ ds. slice_get ds guest) after
    ∙ get_set_same a.devices guest d d' its) are

known_same : (ps : List Range) (o p : Option AskingState)
    → option_map knowledge p ≡ option_map knowledge o
    → IfSome o (λ d. AreCopied (known d) ps) → IfSome p (λ d. AreCopied (known d) ps)
known_same ps o None same are = tt
known_same ps None (Some y) same are = absurd (let no = same in cc)
known_same ps (Some x) (Some y) same are =
    let is : knowledge y ≡ knowledge x = (let all = same in cc) in
    copied_by (known x) (known y) ps (ap (λ k. k.0) is) are

-- what a device knows is as it was
pub copied_same : (guest : ℕ) (ps : List Range) (a b : Boards)
    → slice_get (map knowledge b.devices) guest ≡ slice_get (map knowledge a.devices) guest
    → HasParts guest ps a → HasParts guest ps b
copied_same guest ps a b same are =
    known_same ps (slice_get a.devices guest) (slice_get b.devices guest)
    (sym (slice_get-map knowledge b.devices guest) ∙ same
    ∙ slice_get-map knowledge a.devices guest) are

-- 4. The steps of a guest

live_is : (d : DeviceState) → d.registers.status.driver_ok ≡ true → live_queue d ≡ d.queue
live_is d live = ap (λ b. if b then d.queue else None) live

event_copied : (a : AskingState) → a.device.registers.status.driver_ok ≡ true → HoldsEvent a
    → AreCopied (known a) (pop_parts a.device)
event_copied a live held =
    event_in (known a) a.device.queue
    (subst (λ o. IfSome o (λ q. event_held q.kind (known a) q.ring)) (live_is a.device live) held)

notified_where : (b : Bool) (q : QueueState) (a : AskingState) (notify : Bool) (a' : AskingState)
    → NotifiesWhere b q a (Ok notify) a' → a'.held ≡ a.held
notified_where true q a notify a' sees = ap (λ (x : AskingState). x.held) sees.1
notified_where false q a notify a' sees = ap (λ (x : AskingState). x.held) sees.after

notified_of : (o : Option QueueState) (a : AskingState) (notify : Bool) (a' : AskingState)
    → NotifiesOf o a (Ok notify) a' → a'.held ≡ a.held
notified_of None a notify a' sees = ap (λ (x : AskingState). x.held) sees.1
notified_of (Some q) a notify a' sees =
    notified_where (nat_le q.ring.used a.told) q a notify a' sees

module _ (guest : ℕ) where
  learned : (b : Boards) (g : Bool) (a : AskingState) (h : Bool) (a' : AskingState)
      (ps : List Range) → (g ≡ false → h ≡ true → ps ≡ []) → Learns guest b g a h a'
      → AreCopied (known a) ps → AreCopied (known a') ps
  learned b g a h a' ps none (TellsZeros g' x x' part zeros write few nil after) are =
      subst (λ (v : AskingState). AreCopied (known v) ps) (sym after)
      (after_copied a part.at zeros ps are)
  learned b g a h a' ps none (Forgets x x' after) are =
      subst (λ qs. AreCopied (known a') qs) (sym (none refl refl)) tt
  learned b g a h a' ps none (Sees x x' sees) are =
      copied_by (known a) (known a') ps (notified_of a.device.queue a false a' sees) are

  popped : (most : ℕ) (v w : Bool) (answer : Answer) (b : Boards) (qs : List Range) (c : Boards)
      → PopsOne guest most v answer b qs w c → HasParts guest qs b
  popped most v w answer b qs c pops = elim pops.parts_are [
    | inl writes ↦ subst (λ ps. HasParts guest ps b) (sym writes.0.all)
        (copied_at guest (pop_parts pops.device.device) b pops.device pops.its
        (event_copied pops.device writes.0.live
        (subst (λ (x : Answer). SeesBy x pops.device) writes.0.gave
        (subst (λ o. IfSome o (SeesBy answer)) pops.its (pops.makes.sees pops.empty))).1))
    | inr leaves ↦ subst (λ ps. HasParts guest ps b) (sym leaves.none) (none_copied guest b)
  ]

  handed : (b : Boards) (qs : List Range) (c : Boards) → HandsOne guest b qs c
      → HasParts guest qs c
  handed b qs c hands =
      let h = hands.hands in
      subst (λ ps. HasParts guest ps c) (sym hands.parts_are)
      (copied_set guest (reply_parts h.device.device h.done hands.published) b c h.device h.device'
      h.its (ap (λ (x : Boards). x.devices) h.after)
      (reply_copied h.device h.device' h.done hands.published h.publishes h.room))

  -- all along a guest's steps there are copies of what is to be copied out
  pub runs_copied : (most : ℕ) (s t : Stand) (a b : Boards) → Runs guest most s a t b
      → HasParts guest s.parts a
      → HasParts guest t.parts b
  runs_copied most s t a b (Still r d) has = has
  runs_copied most s t a b (Then q r x y z o answer runs share makes) has =
      copied_same guest r.parts y z (ap (λ ks. slice_get ks guest) makes.held)
      (runs_copied most q r x y runs has)
  runs_copied most s t a b (Pops q r l m x y z answer runs pops) has =
      copied_same guest r y z (ap (λ ks. slice_get ks guest) pops.makes.held)
      (popped most l m answer y r z pops)
  runs_copied most s t a b (Hands q r l x y z runs hands) has = handed y r z hands
  runs_copied most s t a b (LearnsOf q r g h l x y z none runs knows) has =
      copied_set guest r y z knows.device knows.device' knows.its
      (ap (λ (v : Boards). v.devices) knows.after)
      (learned y g knows.device h knows.device' r none knows.learns
      (copied_of guest r y knows.device knows.its (runs_copied most q (standing r g l) x y runs
      has)))
  runs_copied most s t a b (GivesUp q r g l x y runs) has = runs_copied most q
      (standing r g l) x y runs has
  runs_copied most s t a b (Calls q r l x y z runs notified) has =
      copied_set guest r y z notified.device notified.device' notified.its
      (ap (λ (v : Boards). v.devices) notified.after)
      (copied_by (known notified.device) (known notified.device') r
      (notified_of notified.device.device.queue notified.device true notified.device' notified.sees)
      (copied_of guest r y notified.device notified.its
      (runs_copied most q (standing r true l) x y runs has)))
  runs_copied most s t a b (Voids q r g l x y z runs why refuses) has = none_copied guest z

  pub begins_copied : (s t : Stand) (a b : Boards) → Begins guest s a t b
      → HasParts guest s.parts a → HasParts guest t.parts b
  begins_copied s t a b (GoesOn same left) has =
      subst (λ (u : Stand). HasParts guest u.parts b) (sym left)
      (subst (HasParts guest s.parts) (sym same) has)
  begins_copied s t a b (Tells at bytes tells left) has =
      subst (λ (u : Stand). HasParts guest u.parts b) (sym left)
      (copied_set guest s.parts a b tells.device (after_told tells.device at bytes) tells.its
      (ap (λ (v : Boards). v.devices) tells.after)
      (after_copied tells.device at bytes s.parts
      (copied_of guest s.parts a tells.device tells.its has)))
  begins_copied s t a b (Stops refuses left) has =
      subst (λ (u : Stand). HasParts guest u.parts b) (sym left) (none_copied guest b)

-- 5. The other guests

module _ (guest k : ℕ) (other : k ≢ guest) where
  abbrev Know : Boards → Boards → Type 0
  Know a b = slice_get (map knowledge b.devices) k ≡ slice_get (map knowledge a.devices) k

  pub set_know : (a b : Boards) (d : AskingState) → b.devices ≡ slice_set a.devices guest d
      → Know a b
  set_know a b d after =
      slice_get-map knowledge b.devices k
      ∙ ap (option_map knowledge) (ap (λ ds. slice_get ds k) after
      ∙ get_set_other a.devices guest k d other)
      ∙ sym (slice_get-map knowledge a.devices k)

  pub runs_know : (most : ℕ) (s t : Stand) (a b : Boards) → Runs guest most s a t b → Know a b
  runs_know most s t a b (Still r d) = refl
  runs_know most s t a b (Then q r x y z o answer runs share makes) =
      ap (λ ks. slice_get ks k) makes.held ∙ runs_know most q r x y runs
  runs_know most s t a b (Pops q r l m x y z answer runs pops) =
      ap (λ ks. slice_get ks k) pops.makes.held ∙ runs_know most q (standing [] true l) x y runs
  runs_know most s t a b (Hands q r l x y z runs hands) =
      set_know y z hands.hands.device' (ap (λ (v : Boards). v.devices) hands.hands.after)
      ∙ runs_know most q (standing [] true l) x y runs
  runs_know most s t a b (LearnsOf q r g h l x y z none runs knows) =
      set_know y z knows.device' (ap (λ (v : Boards). v.devices) knows.after)
      ∙ runs_know most q (standing r g l) x y runs
  runs_know most s t a b (GivesUp q r g l x y runs) = runs_know most q (standing r g l) x y runs
  runs_know most s t a b (Calls q r l x y z runs notified) =
      set_know y z notified.device' (ap (λ (v : Boards). v.devices) notified.after)
      ∙ runs_know most q (standing r true l) x y runs
  runs_know most s t a b (Voids q r g l x y z runs why refuses) =
      set_know y z _ (ap (λ (v : Boards). v.devices) refuses.after)
      ∙ runs_know most q (standing r g l) x y runs

  pub begins_know : (s t : Stand) (a b : Boards) → Begins guest s a t b → Know a b
  begins_know s t a b (GoesOn same left) =
      ap (λ (v : Boards). slice_get (map knowledge v.devices) k) same
  begins_know s t a b (Tells at bytes tells left) =
      set_know a b _ (ap (λ (v : Boards). v.devices) tells.after)
  begins_know s t a b (Stops refuses left) =
      set_know a b _ (ap (λ (v : Boards). v.devices) refuses.after)
