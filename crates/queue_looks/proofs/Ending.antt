-- A call of the store, and what a host that is finished keeps over it.
use Rattle.std.proofs.Common.{◌≡◌, ◌<◌, Bool, true, false, None, Some, Result, Ok, Err, refl, ap}
use Rattle.std.proofs.Common.{ap₂, sym, subst, ◌∙◌, ◌+◌, ℕ, List, length, take, arith}
use Rattle.queue_looks.proofs.Common.{DiskCall, DiskState, called, left_of, Progress, Synced, Idle}
use Rattle.queue_looks.proofs.Common.{AllEmpty, StoreFault, IsSound, Moves, BoardState, guests}
use Rattle.queue_looks.proofs.Common.{report_of, sound_moved, GoesBy, GoesOn, Hears, IsListened}
use Rattle.queue_looks.proofs.Common.{book_heard, is_broken, IsCalm, Rests, runner_of, runner_since}
use Rattle.queue_looks.proofs.Common.{slice_get, length-map, get_or_from_slice_get}
use Rattle.queue_looks.proofs.Common.{slice_get_within, sequence, sequence_of_all, marks_of}
use Rattle.queue_looks.proofs.Common.{mark_of, GuestState, marks_at, Wrote, Round, planned}
use Rattle.queue_looks.proofs.Common.{round_lowers, marks_in, Advances, AdvancesUnder, SettlesBy}
use Rattle.queue_looks.proofs.Common.{advance_answer, went_by, LeavesAll, take_all, slice_get-map}
use Rattle.flusher.proofs.Endings.{round_badly, round_idle, round_well}
use Rattle.board.specs.Steps.{Answer}
use Rattle.queue_looks.proofs.Settled.{break_breaks, settle_keeps, state_of, also_there, below}
use Rattle.queue_looks.proofs.Settled.{cores_in}
use Rattle.queue_looks.proofs.Since.{runner_twice, since_still, since_whole}
use Rattle.rpmb_core.specs.Requests.{partition_after_all}
use Rattle.intent_slots.specs.Layout.{capacities_of, region_at}
use Rattle.intent_slots.specs.Recovered.{Stands, part_of}
use Rattle.board.proofs.Prefixes.{leaves_now}

-- 1. Advance, and then Settle

as_called : (q : Result Progress StoreFault) → went_by (advance_answer q) ≡ called q
as_called q = grind arith

module _ {D : Type 0} (shows : D → DiskState) (makes : D → DiskCall → D → Type 0)
    (b b1 b2 : BoardState D) (a1 a2 : Answer) where
  pub goes : IsListened b → Moves shows makes b b1 → AdvancesUnder shows makes b.report a1 b b1
      → SettlesBy b1.report a2 b1 b2 → GoesOn shows makes (went_by a1) b b2
  goes listened moves under told_so = from (is_broken b) refl
    where
      a : Advances shows makes a1 b b1
      a = subst (λ r. AdvancesUnder shows makes r a1 b b1) listened.report under

      settled : (v : BoardState D) → b1 ≡ v → SettlesBy v.report a2 v b2
      settled v is = subst (λ u. SettlesBy u.report a2 u b2) is told_so

      from : (k : Bool) → is_broken b ≡ k → GoesBy shows makes k (went_by a1) b b2
      from true broken = grind (arith, settled)
      from false whole = record {
        progress = a.progress;
        store = a.store;
        round = a.round (listened.broken ∙ whole);
        moves = a.moves;
        told = ap went_by a.answers ∙ as_called a.progress;
        between = λ sound. subst (IsSound shows) a.after (sound_moved shows makes b b1 sound moves);
        is = by a.progress (settled (record b { store = a.store; report = report_of a.progress })
            a.after);
      }
        where
          by : (p : Result Progress StoreFault)
              → SettlesBy (report_of p) a2 (record b { store = a.store; report = report_of p }) b2
              → b2 ≡ record b {
                store = a.store;
                report = None;
                book =
                    book_heard b.book b.shares p;
              }
          by p so = grind arith

-- 2. What the book makes of it

module _ {D : Type 0} (shows : D → DiskState) (makes : D → DiskCall → D → Type 0) (went : Bool)
    (b b' : BoardState D) (whole : is_broken b ≡ false) (h : Hears shows makes went b b') where
  abbrev At : Result Progress StoreFault → Type 0
  At p = Round makes (planned b.store.guests) b.store.disk b.store.guests p h.store.disk
      h.store.guests h.store.broken

  pub heard_at : (p : Result Progress StoreFault) → h.progress ≡ p
      → b' ≡ record b { store = h.store; report = None; book = book_heard b.book b.shares p }
  heard_at p is = h.is ∙ ap (λ q. record b {
    store = h.store;
    report = None;
    book =
        book_heard b.book b.shares q;
  }) is

  pub heard_well : (p : Progress) → h.progress ≡ Ok p → h.store.broken ≡ false
  heard_well p is = round_well makes b.store.disk h.store.disk b.store.guests h.store.guests p
      h.store.broken (subst At is h.round)

  pub heard_idle : h.progress ≡ Ok Idle → AllEmpty b.store.guests
  heard_idle is = round_idle makes b.store.disk h.store.disk b.store.guests h.store.guests
      h.store.broken (subst At is h.round)

  pub heard_badly : (e : StoreFault) → h.progress ≡ Err e → h.store.broken ≡ true
  heard_badly e is = (round_badly makes b.store.disk h.store.disk b.store.guests h.store.guests e
      h.store.broken (subst At is h.round)).0

  -- each call that is made leaves fewer
  pub heard_lowers : called h.progress ≡ true → left_of h.store.guests < left_of b.store.guests
  heard_lowers made = round_lowers makes b.store.disk b.store.guests h.progress h.store.disk
      h.store.guests h.store.broken h.round made

  -- what answers depend on stays, where nothing broke
  stayed : runner_of b' ≡ runner_of b → is_broken b' ≡ is_broken b
      → runner_of b' ≡ runner_since (is_broken b) (is_broken b') (runner_of b)
  stayed runner broken = runner ∙ sym (since_still (is_broken b) (runner_of b))
      ∙ ap (λ k. runner_since (is_broken b) k (runner_of b)) (sym broken)

  heard_runner : runner_of b' ≡ runner_since (is_broken b) (is_broken b') (runner_of b)
  heard_runner = by h.progress refl
    where
      by : (p : Result Progress StoreFault) → h.progress ≡ p
          → runner_of b' ≡ runner_since (is_broken b) (is_broken b') (runner_of b)
      by (Ok Wrote) is = stayed (ap runner_of (heard_at (Ok Wrote) is))
          (ap is_broken (heard_at (Ok Wrote) is))
      by (Ok Idle) is = stayed (ap runner_of (heard_at (Ok Idle) is))
          (ap is_broken (heard_at (Ok Idle) is))
      by (Ok (Synced marks)) is =
          let kept = settle_keeps b.book b.shares marks in
          stayed (ap runner_of (heard_at (Ok (Synced marks)) is) ∙ kept.runner)
          (ap is_broken (heard_at (Ok (Synced marks)) is) ∙ kept.broken)
      by (Err e) is =
          let breaks = break_breaks b.book whole in
          ap runner_of (heard_at (Err e) is) ∙ breaks.runner
          ∙ ap₂ (λ was now. runner_since was now (runner_of b)) (sym whole)
          (sym (ap is_broken (heard_at (Err e) is) ∙ breaks.broken))

  heard_rests : Rests b b'
  heard_rests = grind (arith, settle_keeps, heard_well, state_of, heard_runner)

-- 3. One call more. Where there was none to make, or it failed, no slot holds anything, or the
-- store is broken.

pub record Rested {D : Type 0} (went : Bool) (b b' : BoardState D) : Type 0 where
  pub rests : Rests b b'
  pub less : went ≡ true → left_of b'.store.guests < left_of b.store.guests
  pub idle : went ≡ false → is_broken b' ≡ false → AllEmpty b'.store.guests

pub rests_on : {D : Type 0} (a b c : BoardState D) → Rests a b → Rests b c → Rests a c
rests_on {D = D} a b c p q = record {
  listened = q.listened;
  others = q.others ∙ ap (λ (v : BoardState D).
      record v { store = c.store; report = c.report; book = c.book }) p.others;
  whole = λ known. p.whole (q.whole known);
  runner = q.runner ∙ ap (runner_since (is_broken b) (is_broken c)) p.runner
      ∙ runner_twice (is_broken a) (is_broken b) (is_broken c) (runner_of a) p.whole q.whole;
}

pub rests_still : {D : Type 0} (b : BoardState D) → IsListened b → Rests b b
rests_still b listened = record {
  listened = listened;
  others = refl;
  whole = λ yes. yes;
  runner =
      sym (since_still (is_broken b) (runner_of b));
}

-- where no call failed, all of it stays
pub rests_whole : {D : Type 0} (b b' : BoardState D) → Rests b b' → is_broken b' ≡ false
    → runner_of b' ≡ runner_of b
rests_whole b b' rests known = rests.runner ∙ since_whole (is_broken b) (is_broken b') (runner_of b)
    known

pub rested : {D : Type 0} (shows : D → DiskState) (makes : D → DiskCall → D → Type 0) (went : Bool)
    (b b' : BoardState D) → IsListened b → GoesOn shows makes went b b' → Rested went b b'
rested shows makes went b b' listened goes_on = from (is_broken b) refl goes_on
  where
    from : (k : Bool) → is_broken b ≡ k → GoesBy shows makes k went b b' → Rested went b b'
    from true broken same = subst (Rested went b) (sym same.1) (record {
      rests = rests_still b listened;
      less = λ yes. absurd cc;
      idle = λ none whole. absurd (let no = broken in cc);
    })
    from false whole h = record {
      rests = heard_rests shows makes went b b' whole h;
      less = λ yes. subst (λ v. left_of v.store.guests < left_of b.store.guests) (sym h.is)
          (heard_lowers shows makes went b b' whole h (sym h.told ∙ yes));
      idle = by h.progress refl;
    }
      where
        by : (p : Result Progress StoreFault) → h.progress ≡ p → went ≡ false → is_broken b' ≡ false
            → AllEmpty b'.store.guests
        by (Ok Idle) is none known =
            subst AllEmpty (sym (ap (λ v. v.store.guests) h.is ∙ h.moves.idle is))
            (heard_idle shows makes went b b' whole h is)
        by (Ok p) is none known = absurd (let yes = h.told ∙ ap called is in cc)
        by (Err e) is none known =
            absurd (let bad = heard_badly shows makes went b b' whole h e is in let same =
            (heard_rests shows makes went b b' whole h).listened.broken in let store =
            ap (λ v. v.store.broken) h.is in cc)

-- What every stop leaves of a board all of whose requests are settled.

-- the cores of a list of guests, by their places
core_at : (xs ys : List GuestState) (g : ℕ) (x y : GuestState) → cores_in xs ≡ cores_in ys
    → slice_get xs g ≡ Some x → slice_get ys g ≡ Some y → x.core ≡ y.core
core_at xs ys g x y same here there = grind (
  arith,
  (slice_get-map (λ s. s.core) xs g),
  (slice_get-map (λ s. s.core) ys g),
)

-- A board that came from a calm one, and whose guests have the same partitions: all of it is
-- settled.
pub leaves_all : {D : Type 0} (shows : D → DiskState) (makes : D → DiskCall → D → Type 0)
    (old last : BoardState D) → IsCalm shows old → Moves shows makes old last
    → is_broken old ≡ false
    → runner_of last ≡ runner_of old → LeavesAll shows last
leaves_all shows makes old last calm moves whole same config bases accepted linked known g x at c
    may =
    let t = linked.linked.each g x at in
    let cores : cores_in (guests last) ≡ cores_in (guests old) = ap (λ r. r.cores) same in
    let many : length (guests old) ≡ length (guests last) =
    sym (length-map (guests old) (λ s. s.core)) ∙ sym (ap length cores)
    ∙ length-map (guests last) (λ s. s.core) in
    let y = also_there (guests last) (guests old) g x at many in
    let core : x.core ≡ y.0.core = core_at (guests last) (guests old) g x y.0 cores at y.1 in
    let s = below shows old g y.0 calm.sound y.1 in
    let settled = (calm.quiet g y.0 y.1).settled whole in
    let marked : marks_in old g ≡ mark_of s.stored =
    get_or_from_slice_get (marks_of old.store.guests) g (mark_of s.stored) 0
    (marks_at old.store.guests g s.stored s.at) in
    let all : sequence x.core.partition ≡ sequence (bases g) + length (accepted g) =
    ap sequence t.link.partition ∙ sequence_of_all (bases g) (accepted g) t.link.in_turn in
    let sequences : sequence x.core.partition ≡ sequence y.0.core.partition =
    ap (λ k. sequence k.partition) core in
    let there : g < length config = (let inside = slice_get_within (guests last) g x at in
    omega arith) in
    let left = leaves_now shows config bases accepted linked.parts last linked.linked known g there
    c may in
    let full : take left.2.count (accepted g) ≡ accepted g =
    take_all left.2.count (accepted g) (omega arith) in
    let is : left.0 ≡ part_of x.core.partition = left.2.is
    ∙ ap (λ rs. part_of (partition_after_all (bases g) rs)) full
    ∙ ap part_of (sym t.link.partition) in
    subst (Stands (region_at (capacities_of config) g) c) is left.1
