-- An image of a board stays one.
use Rattle.std.proofs.Common.{◌≡◌, ◌⊎◌, inl, inr, ℕ, zero, suc, ◌+◌, ◌≤◌, ◌<◌, Bool, true, false}
use Rattle.std.proofs.Common.{List, [], ◌∷◌, Option, Some, None, Ok, Err, length, refl, ap, sym}
use Rattle.std.proofs.Common.{subst, ◌∙◌, arith}
use Rattle.world.proofs.Common.{if◌then◌else◌, nat_lt, nat_tests, length-map, Partition, Request}
use Rattle.world.proofs.Common.{GuestConfig, Content, content_of, CutMakes, CutState, cut_state}
use Rattle.world.proofs.Common.{DiskCall, DiskState, Effect, MayLeave, Still, Then, Within, Filler}
use Rattle.world.proofs.Common.{Call, FrontStays, next_call, Part, Step, capacities_of}
use Rattle.world.proofs.Common.{AnswersFault, IsImage, Untouched, OpenFault, BoardState}
use Rattle.world.proofs.Common.{IsLinkedBoard, LeavesPrefixes, marks_in, IsConsistent}
use Rattle.world.proofs.Common.{IsConsistentAt, Advances, Answer, Does, CutBy, CutWithin, CutsTo}
use Rattle.world.proofs.Common.{EndsUpgrade, UpgradesTo, Happens, LacksRoom, OpensOrNot, Runs}
use Rattle.world.proofs.Common.{StepsAt, WorldState, choosing, disk_of, opened_world, refusal_of}
use Rattle.world.proofs.Common.{Event, Refusal, Home, Up, Down}
use Rattle.flusher.specs.declared.progress.Call.TheVariants as call
use Rattle.intent_slots.specs.Fields.{Agree}
use Rattle.intent_slots.specs.Layout.{image_length}
use Rattle.intent_slots.proofs.ReadsBack.{header_own}
use Rattle.recovery.specs.Opening.{HasParts, HoldsEach}
use Rattle.recovery.specs.Format.{IsFormatted}
use Rattle.recovery.proofs.Fresh.{fresh_image}
use Rattle.std.specs.Prelude.{Result}
use Rattle.std.specs.Option.{option_or}
use Rattle.recovery.specs.Front.{TellsVersionFault}
use Rattle.recovery.specs.Upgrade.{AnswersUpgrade}
use Rattle.recovery.specs.declared.upgrading.Upgraded.{Upgraded}
use Rattle.world.specs.Images.{AllKnown, HasImage, IsKnown, IsKnownAt}
use Rattle.world.specs.World.{UpgradesAndOpens, UpgradesDisk, is_met, refusal_of_upgrade}
use Rattle.world.specs.declared.event.Event.TheVariants as event
use Rattle.world.specs.declared.event.Refusal.TheVariants as refusal
use Rattle.board.proofs.Opened.{within_end}
use Rattle.board.proofs.Prefixes.{advance_moments}
use Rattle.world.proofs.Runs.{cut_leaves, event_kept, lacks_same}
use Rattle.world.proofs.Upgraded.{images_upgraded}

-- 1. A disk whose every stop leaves an image

abbrev Images : List ℕ → CutState → Type 0
Images cs d = (c : Content) → MayLeave (cut_state d) c → IsImage cs (length d.seen) c

resized : (cs : List ℕ) (c : Content) (n m : ℕ) → n ≡ m → IsImage cs n c → IsImage cs m c
resized cs c n m same image = subst (λ k. IsImage cs k c) same image

cut_images : (cs : List ℕ) (d left : CutState) (filler : Filler) → Images cs d
    → CutsTo filler d left → Images cs left
cut_images cs d left filler images cuts c may = resized cs c (length d.seen) (length left.seen)
    (sym cuts.stops.len) (images c (cut_leaves d left filler cuts c may))

untouched_images : (cs : List ℕ) (d left : CutState) → Images cs d
    → Untouched (cut_state d) (cut_state left) → Images cs left
untouched_images cs d left images same c may =
    resized cs c (length d.seen) (length left.seen) (sym same.len)
    (images c (λ k un. may k (same.unsynced refl k un) ∙ same.seen refl k))

-- the first bytes of one content before another
front_of : Content → Content → Content
front_of c rest k = if nat_lt k 1024 then c k else rest k

-- the header that a stop leaves is one that it could leave before
kept_header : (cs : List ℕ) (d e : CutState) → length cs ≤ 64 → Images cs d
    → FrontStays (cut_state d) (cut_state e) → length e.seen ≡ length d.seen → (c : Content)
    → MayLeave (cut_state e) c
    → HasParts cs (length e.seen) c → IsImage cs (length e.seen) c
unfolding front_of
kept_header cs d e few images stays long c may parts =
    let image = images (front_of c (content_of d.seen)) before in
    let own = header_own (front_of c (content_of d.seen)) c agree in
    record {
      front = record { long = (omega arith); magic = own.same_magic image.front.magic };
      header = own.same_capacities cs few image.header;
      parts = parts;
    }
  where
    before : MayLeave (cut_state d) (front_of c (content_of d.seen))
    before k un = by (nat_lt k 1024) refl
      where
        below : (n : ℕ) → nat_lt n 1024 ≡ true → n < 1024
        below n is = grind (arith, nat_tests)

        by : (b : Bool) → nat_lt k 1024 ≡ b → (if nat_lt k 1024 then c k else content_of d.seen k)
            ≡ content_of d.seen k
        by true is = ap (λ t. if t then c k else content_of d.seen k) is
            ∙ (let s = stays k (below k is) in may k (s.1 un) ∙ s.0)
        by false is = ap (λ t. if t then c k else content_of d.seen k) is

    agree : Agree (front_of c (content_of d.seen)) 0 c 0 74
    agree k lower = ap (λ t. if t then c (0 + k) else content_of d.seen (0 + k))
        (yes (0 + k) (omega (arith, lower)))
      where
        yes : (n : ℕ) → n < 74 → nat_lt n 1024 ≡ true
        yes n le = grind (arith, nat_tests)

-- a call leaves the length as it is
call_len : (a b : DiskState) (c : DiskCall) → Effect a c b → b.len ≡ a.len
call_len a b c e = grind arith

within_len : (P : DiskState → Type 0) (a b : CutState) → Within cut_state CutMakes P a b
    → length b.seen ≡ length a.seen
within_len P a b (Still d p) = refl
within_len P a b (Then x m y c way made mid p) = call_len (cut_state m) (cut_state y) c made.effect
    ∙ within_len P x m way

-- 2. A step

length-capacities : (config : List GuestConfig) → length (capacities_of config) ≡ length config
unfolding capacities_of
length-capacities config = length-map config (λ c. c.capacity)

-- prefixes of what was accepted are parts
parts_of_prefixes : (config : List GuestConfig) (bases : ℕ → Partition) (accepted : ℕ
    → List Request) (least : ℕ → ℕ) (s : DiskState) → LeavesPrefixes config bases accepted least s
    → (c : Content) → MayLeave s c → HoldsEach (capacities_of config) c
parts_of_prefixes config bases accepted least s leaves c may g below =
    let long = length-capacities config in
    let q = leaves g (omega arith) c may in
    record { part = q.0; stands = q.1 }

module _ (config : List GuestConfig) (bases : ℕ → Partition) (accepted : ℕ → List Request)
    (parts : ℕ → Part) (b : BoardState CutState)
    (linked : IsLinkedBoard cut_state config bases accepted parts b) (few : length config ≤ 64)
  where
    advance_images : (answer : Answer) (b' : BoardState CutState)
        → Advances cut_state CutMakes answer b b' → Images (capacities_of config) b.store.disk
        → Images (capacities_of config) b'.store.disk
    advance_images answer b' a images = subst (λ v. Images (capacities_of config) v.store.disk)
        (sym a.after) stays
      where
        stays : Images (capacities_of config) a.store.disk
        stays c may =
            let front = a.front refl in
            let long = within_len (FrontStays (cut_state b.store.disk)) b.store.disk a.store.disk
            front in
            let leaves = within_end cut_state CutMakes
            (LeavesPrefixes config bases accepted (marks_in b)) b.store.disk b'.store.disk
            (advance_moments cut_state CutMakes config bases accepted parts b linked refl answer
            b' a) in
            let wide = length-capacities config in
            kept_header (capacities_of config) b.store.disk a.store.disk (omega (arith, few)) images
            (within_end cut_state CutMakes (FrontStays (cut_state b.store.disk)) b.store.disk
            a.store.disk front) long c may
            (record {
              long = long ∙ (images (content_of b.store.disk.seen) (λ k un. refl)).parts.long;
              each = parts_of_prefixes config bases accepted (marks_in b) (cut_state a.store.disk)
                  (subst (λ v. LeavesPrefixes config bases accepted (marks_in b)
                  (cut_state v.store.disk)) a.after leaves) c may;
            })

    same_images : (b' : BoardState CutState) → b'.store.disk ≡ b.store.disk
        → Images (capacities_of config) b.store.disk → Images (capacities_of config) b'.store.disk
    same_images b' same images = subst (Images (capacities_of config)) (sym same) images

    -- the disk is as it was, but after an Advance
    disk_same : (s : Step) (answer : Answer) (b' : BoardState CutState)
        → Does cut_state CutMakes s answer b b' → (b'.store.disk ≡ b.store.disk)
        ⊎ Advances cut_state CutMakes answer b b'
    disk_same s answer b' does = grind arith

    step_images : (s : Step) (answer : Answer) (b' : BoardState CutState)
        → Does cut_state CutMakes s answer b b' → Images (capacities_of config) b.store.disk
        → Images (capacities_of config) b'.store.disk
    step_images s answer b' does images = elim (disk_same s answer b' does) [
      | inl same ↦ same_images b' same images
      | inr a ↦ advance_images answer b' a images
    ]

-- 3. What is told

told_nothing : (told : Option Refusal) → told ≡ None → IsKnown told
told_nothing told is = record {
  formatted = λ e. absurd (cc);
  same = λ e. absurd (cc);
  upgrade_formatted = λ e. absurd (cc);
  upgrade_same = λ e. absurd (cc);
}

told_step : (told : Option Refusal) (answer : Answer) → told ≡ refusal_of answer → IsKnown told
told_step told (Ok seen) is = told_nothing told is
told_step told (Err fault) is = record {
  formatted = λ e. absurd (cc);
  same = λ e. absurd (cc);
  upgrade_formatted = λ e. absurd (cc);
  upgrade_same = λ e. absurd (cc);
}

told_fault : (fault : OpenFault) (told : Option Refusal) (cs : List ℕ) (len : ℕ) (c : Content)
    → told ≡ Some (refusal.Open fault) → AnswersFault cs len c fault → IsImage cs len c
    → IsKnown told
told_fault fault told cs len c is reason image = grind arith

told_version : (fault : OpenFault) (told : Option Refusal) (cs : List ℕ) (len : ℕ) (c : Content)
    → told ≡ Some (refusal.Upgrade fault) → TellsVersionFault cs len c fault → IsImage cs len c
    → IsKnown told
told_version fault told cs len c is reason image = grind arith

told_first : (said opened : Option Refusal) → IsKnown said → IsKnown opened
    → IsKnown (option_or said opened)
told_first None opened one two = two
told_first (Some r) opened one two = one

-- 4. Events

opening_images : (d : CutState) (old new : WorldState) (told : Option Refusal)
    → length old.config ≤ 64 → Images (capacities_of old.config) d → OpensOrNot d old told new
    → HasImage new × IsKnown told
opening_images d old new told few images (inl o) = (
  subst HasImage (sym o.after) (by old.openings),
  told_nothing told o.tells,
)
  where
    by : (n : ℕ) → HasImage (opened_world n old o.board o.begins.partitions)
    by zero = record { few = few; leaves = o.rest.image }
    by (suc n) = record { few = few; leaves = o.rest.image }
opening_images d old new told few images (inr r) = (
  subst HasImage (sym r.after)
      (record {
        few = few;
        leaves = untouched_images (capacities_of old.config) d r.disk images
            r.untouched;
      }),
  told_fault r.fault told (capacities_of old.config) (length d.seen) (content_of d.seen) r.tells
      r.reason (images (content_of d.seen) (λ k un. refl)),
)

lacks_known : (s : Step) (b : BoardState CutState) (old new : WorldState) (told : Option Refusal)
    → LacksRoom s b old told new → IsKnown told
lacks_known s b old new told lacks = grind arith

step_event : (s : Step) (old new : WorldState) (told : Option Refusal) (home : Home)
    → old.home ≡ home → HasImage old → IsConsistentAt old home
    → Images (capacities_of old.config) (disk_of home) → StepsAt s home old told new → HasImage new
    × IsKnown told
step_event s old new told (Up b) is has kept images (inl st) = (
  subst HasImage (sym st.after)
      (record {
        few = has.few;
        leaves = step_images old.config old.bases old.accepted kept.0.parts b
            kept.0.linked has.few s st.answer st.board st.does images;
      }),
  told_step told st.answer st.tells,
)
step_event s old new told (Up b) is has kept images (inr lacks) = (
  subst HasImage (sym (lacks_same s b old new told lacks)) has,
  lacks_known s b old new told lacks,
)
step_event s old new told (Down d) is has kept images same =
    (subst HasImage (sym same.1) has, told_nothing told same.0)

fail_event : (k : ℕ) (old new : WorldState) (home : Home) → old.home ≡ home → HasImage old
    → Images (capacities_of old.config) (disk_of home) → new ≡ record old { home = choosing k home }
    → HasImage new
fail_event k old new (Up b) is has images after =
    subst HasImage (sym after) (record { few = has.few; leaves = images })
fail_event k old new (Down d) is has images after =
    subst HasImage (sym after) (record { few = has.few; leaves = images })

cut_event : (home : Home) (w : WorldState) (filler : Filler) (left : CutState)
    → length w.config ≤ 64 → IsConsistentAt w home → Images (capacities_of w.config) (disk_of home)
    → CutWithin home filler left → Images (capacities_of w.config) left
cut_event (Up b) w filler left few kept images cuts =
    by (next_call b.store.broken b.store.guests) cuts
  where
    by : (c : Call) → CutBy c b filler left → Images (capacities_of w.config) left
    by call.Write cuts = cut_images (capacities_of w.config) cuts.after.store.disk left filler
        (advance_images w.config w.bases w.accepted kept.0.parts b kept.0.linked few cuts.answer
        cuts.after cuts.advances images) cuts.cuts
    by call.Sync cuts = cut_images (capacities_of w.config) b.store.disk left filler images cuts
    by call.None cuts = cut_images (capacities_of w.config) b.store.disk left filler images cuts
cut_event (Down d) w filler left few kept images cuts =
    cut_images (capacities_of w.config) d left filler images cuts

abbrev KnownOn : List GuestConfig → CutState → Option Refusal → Type 0
KnownOn config left said = Images (capacities_of config) left × IsKnown said

upgrades_known : (config : List GuestConfig) (d left : CutState) (said : Option Refusal)
    → Images (capacities_of config) d → UpgradesDisk config d said left → IsKnown said
upgrades_known config d left said images up = by up.answer up.answers up.tells
  where
    by : (answer : Result Upgraded OpenFault)
        → AnswersUpgrade (capacities_of config) (length d.seen) (content_of d.seen) answer
        → said ≡ refusal_of_upgrade answer → IsKnown said
    by (Ok done) reason is = told_nothing said is
    by (Err fault) reason is = told_version fault said (capacities_of config) (length d.seen)
        (content_of d.seen) is reason (images (content_of d.seen) (λ k un. refl))

upgrades_disk : (config : List GuestConfig) (d left : CutState) (said : Option Refusal)
    → length config ≤ 64 → Images (capacities_of config) d → UpgradesDisk config d said left
    → KnownOn config left said
upgrades_disk config d left said few images up = (
  images_upgraded config (cut_state d) (cut_state left) few refl up.back images,
  upgrades_known config d left said images up,
)

upgrade_ended : (config : List GuestConfig) (met : Bool) (filler : Filler) (reached left : CutState)
    (answered said : Option Refusal) → KnownOn config reached answered
    → EndsUpgrade met filler reached answered said left → KnownOn config left said
upgrade_ended config true filler reached left answered said up ends =
    (cut_images (capacities_of config) reached left filler up.0 ends.0, told_nothing said ends.1)
upgrade_ended config false filler reached left answered said up ends =
    (subst (Images (capacities_of config)) (sym ends.0) up.0, subst IsKnown (sym ends.1) up.1)

upgrade_event : (config : List GuestConfig) (d left : CutState) (said : Option Refusal)
    (stop : Option (ℕ × Filler)) → length config ≤ 64 → Images (capacities_of config) d
    → UpgradesTo config stop d said left → KnownOn config left said
upgrade_event config d left said None few images up = upgrades_disk config d left said few images up
upgrade_event config d left said (Some stop) few images s =
    upgrade_ended config (is_met stop.0 d.failures s.reached.failures) stop.1 s.reached left
    s.answered said (upgrades_disk config (record d { chosen = stop.0 }) s.reached s.answered
    few images s.upgrades) s.ends

upgraded_then_opened : (old new : WorldState) (stop : Option (ℕ × Filler)) (told : Option Refusal)
    → HasImage old → (h : UpgradesAndOpens old stop told new) → HasImage new
    × (IsKnown told × IsKnown h.opened)
upgraded_then_opened old new stop told has h =
    let up = upgrade_event old.config (disk_of old.home) h.left h.said stop has.few has.leaves
    h.upgrades in
    let opens = opening_images h.left old new h.opened has.few up.0 h.opens in
    (opens.0, (subst IsKnown (sym h.tells) (told_first h.said h.opened up.1 opens.1), opens.1))

event_images : (old new : WorldState) (e : Event) (told : Option Refusal) → IsConsistent old
    → HasImage old → (h : Happens old e told new) → HasImage new × IsKnownAt old e told new h
event_images old new (event.Do s) told kept has h = step_event s old new told old.home refl has kept
    has.leaves h
event_images old new (event.Fail k) told kept has h =
    (fail_event k old new old.home refl has has.leaves h.1, told_nothing told h.0)
event_images old new (event.Stop filler) told kept has h =
    opening_images h.0 old new told has.few
    (cut_images (capacities_of old.config) (disk_of old.home) h.0 filler has.leaves h.1) h.2
event_images old new (event.StopIn filler) told kept has h =
    opening_images h.0 old new told has.few (cut_event old.home old filler h.0 has.few kept
    has.leaves h.1) h.2
event_images old new event.Open told kept has h =
    opening_images (disk_of old.home) old new told has.few has.leaves h
event_images old new (event.Upgrade stop) told kept has h =
    upgraded_then_opened old new stop told has h

pub images_of_runs : (old new : WorldState) (events : List Event) (told : Option Refusal)
    → IsConsistent old → HasImage old → (run : Runs old events told new)
    → AllKnown old events told new run × HasImage new
images_of_runs old new [] told kept has run = (tt, subst HasImage (sym run.1) has)
images_of_runs old new (e ∷ es) told kept has run =
    let now = event_images old run.mid e run.first.one kept has run.first.happens in
    let later = images_of_runs run.mid new es run.later
    (event_kept old run.mid e run.first.one kept run.first.happens).0 now.0 run.rest in
    ((now.1, later.0), later.1)

-- 5. A world over a fresh image

pub formatted_image : (version : ℕ) (config : List GuestConfig) (d : CutState) → length config ≤ 64
    → length d.seen ≡ image_length (capacities_of config)
    → IsFormatted version (capacities_of config) (cut_state d)
    → (c : Content) → MayLeave (cut_state d) c → IsImage (capacities_of config) (length d.seen) c
formatted_image version config d few long fresh c may =
    let wide = length-capacities config in
    let same : content_of d.seen ≡ c = λ i k. sym (may k (fresh.synced k)) i in
    subst (IsImage (capacities_of config) (length d.seen)) same
    (resized (capacities_of config) (content_of d.seen) (image_length (capacities_of config))
    (length d.seen) (sym long)
    (fresh_image version (capacities_of config) (content_of d.seen) (omega arith) fresh.seen))
