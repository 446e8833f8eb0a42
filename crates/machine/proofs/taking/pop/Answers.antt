use Rattle.std.proofs.Common.{◌≡◌, ◌≢◌, inl, inr, refl, ap, sym, subst, ◌∙◌, [], Ok, Err, true}
use Rattle.std.proofs.Common.{false}
use Rattle.machine.proofs.Common.{Makes, outbox_state, OutboxMakes, Still, stand_of, standing}
use Rattle.board.specs.Asking.{PopsAsked}
use Rattle.board.specs.Steps.{did_answer}
use Rattle.board.specs.declared.step.Seen.TheVariants.{Did, Nothing}
use Rattle.board.specs.declared.step.Step.TheVariants as step
use Rattle.board.specs.declared.step.StepFault.TheVariants as fault
use Rattle.machine.specs.Ending.{IsTaken, PopRefused}
use Rattle.machine.specs.declared.taking.Taken.{Taken}
use Rattle.machine.specs.declared.taking.Taken.TheVariants as taken
use Rattle.machine.proofs.Popping.{empty_place, finds_none, found_none, gives_up, looked_live}
use Rattle.machine.proofs.Popping.{noted_at, popped_live, pops_by, pops_does, some_at, still_by}
use Rattle.machine.proofs.Popping.{writes_none}
use Rattle.machine.proofs.taking.pop.Goals as goal

pub returns-then-not-note_event-clause-runs : goal.returns-then-not-note_event-clause-runs
returns-then-not-note_event-clause-runs c most fewer =
    let w = c.args.turn.now.looked in
    gives_up c.args.guest most [] true w _ c.args.board.now
    (ap (λ t. standing t.parts false t.looked)
    (c.turn.view_is ∙ c.note_event.ensures.stays c.if-not-note_event.true)
    ∙ ap (λ ps. standing ps false w) c.requires.parts)

pub returns-in-Err-Missing-clause-runs : goal.returns-in-Err-Missing-clause-runs
returns-in-Err-Missing-clause-runs c most fewer =
    let g = c.args.guest in
    let asks = subst (λ e. PopsAsked outbox_state OutboxMakes g (Err e) c.args.board.now
    c.pop.new.self) c.in-Err-Missing.field-0-is c.in-Err-Missing.ensures.pops in
    let w = c.args.turn.now.looked in
    still_by g most true w (stand_of c.void.new.self) c.args.board.now c.pop.new.self
    (ap stand_of c.void.ensures
    ∙ ap (λ t. standing [] t.going t.looked) c.note_event.ensures.rest
    ∙ ap (λ v. standing [] v w) c.requires.begun) asks.same

pub returns-in-Err-Refused-clause-runs : goal.returns-in-Err-Refused-clause-runs
returns-in-Err-Refused-clause-runs c most fewer =
    let g = c.args.guest in
    let device = some_at c.args.board.now.devices g c.requires.guest in
    let makes = subst (λ e. PopsAsked outbox_state OutboxMakes g (Err e) c.args.board.now
    c.pop.new.self) c.in-Err-Refused.field-0-is c.in-Err-Refused.ensures.pops in
    let w = c.args.turn.now.looked in
    pops_by g most w w [] (stand_of c.stop.new.self) (Err (fault.Device c.in-Err-Refused.fault))
    c.args.board.now c.pop.new.self (record {
      makes = makes;
      device = device.0;
      its = device.1;
      empty = empty_place g c.args.board.now c.what_always_holds.ensures c.requires.guest
          c.requires.job;
      fewer = fewer;
      parts_are = inr (record {
        none = refl;
        gave_none = λ same. absurd (let no = same in cc);
        same = refl;
        nothing = λ is. absurd (let no = is in cc);
      });
    }) (ap stand_of c.stop.ensures ∙ ap (λ t. standing [] false t.looked) c.note_event.ensures.rest)

pub returns-in-Err-Refused-clause-taken : goal.returns-in-Err-Refused-clause-taken
returns-in-Err-Refused-clause-taken c most fewer =
    let makes = subst (λ e. PopsAsked outbox_state OutboxMakes c.args.guest (Err e)
    c.args.board.now c.pop.new.self) c.in-Err-Refused.field-0-is c.in-Err-Refused.ensures.pops in
    let w = c.args.turn.now.looked in (
      PopRefused w c.args.board.now c.pop.new.self (fault.Device c.in-Err-Refused.fault)
          (Still (standing [] true w) c.args.board.now) makes c.of_device.ensures
          (still_by c.args.guest most false w (stand_of c.stop.new.self) c.pop.new.self
          c.pop.new.self (ap stand_of c.stop.ensures
          ∙ ap (λ t. standing [] false t.looked) c.note_event.ensures.rest) refl),
      ap (λ t. t.parts) c.stop.ensures,
    )

pub returns-in-Ok-true-clause-runs : goal.returns-in-Ok-true-clause-runs
returns-in-Ok-true-clause-runs c most fewer =
    let g = c.args.guest in
    let device = some_at c.args.board.now.devices g c.requires.guest in
    let makes = subst (λ did. Makes (step.Pop g) (did_answer did) c.args.board.now c.pop.new.self)
    c.in-Ok-true.field-0-test c.in-Ok-true.ensures.pops in
    let empty = empty_place g c.args.board.now c.what_always_holds.ensures c.requires.guest
    c.requires.job in
    pops_by g most c.args.turn.now.looked true c.note_event.new.turn.parts _ (Ok Did)
    c.args.board.now c.pop.new.self (record {
      makes = makes;
      device = device.0;
      its = device.1;
      empty = empty;
      fewer = fewer;
      parts_are = inl (
        record {
          seen = Did;
          gave = refl;
          live = popped_live g c.args.board.now c.pop.new.self device.0 device.1 empty makes;
          all = noted_at _ device.0 _ _ device.1 c.requires.parts
              (c.note_event.ensures.noted c.if-not-note_event.false);
        },
        refl,
      );
    }) (ap (λ v. standing v.parts false true) c.turn.view_is)

pub returns-in-Ok-true-clause-did : goal.returns-in-Ok-true-clause-did
returns-in-Ok-true-clause-did c is most fewer =
    let g = c.args.guest in
    let device = some_at c.args.board.now.devices g c.requires.guest in
    let makes = subst (λ did. Makes (step.Pop g) (did_answer did) c.args.board.now c.pop.new.self)
    c.in-Ok-true.field-0-test c.in-Ok-true.ensures.pops in
    let empty = empty_place g c.args.board.now c.what_always_holds.ensures c.requires.guest
    c.requires.job in
    inl (pops_does g most c.args.turn.now.looked true c.note_event.new.turn.parts _
    c.args.board.now c.pop.new.self (record {
      makes = makes;
      device = device.0;
      its = device.1;
      empty = empty;
      fewer = fewer;
      parts_are = inl (
        record {
          seen = Did;
          gave = refl;
          live = popped_live g c.args.board.now c.pop.new.self device.0 device.1 empty makes;
          all = noted_at _ device.0 _ _ device.1 c.requires.parts
              (c.note_event.ensures.noted c.if-not-note_event.false);
        },
        refl,
      );
    }) (ap (λ v. standing v.parts false true) c.turn.view_is))

pub returns-in-Ok-false-clause-runs : goal.returns-in-Ok-false-clause-runs
returns-in-Ok-false-clause-runs c most fewer =
    let g = c.args.guest in
    let b = c.args.board.now in
    let b' = c.pop.new.self in
    let w = c.args.turn.now.looked in
    let t = stand_of c.found_none.new.turn in
    let noted = c.note_event.ensures in
    let found = c.found_none.ensures in
    let d = some_at b.devices g c.requires.guest in
    let makes = subst (λ did. Makes (step.Pop g) (did_answer did) b b') c.in-Ok-false.field-0-test
    c.in-Ok-false.ensures.pops in
    let empty = empty_place g b c.what_always_holds.ensures c.requires.guest c.requires.job in
    let looked = ap (λ t. t.looked) noted.rest in
    let all = noted_at _ d.0 _ _ d.1 c.requires.parts (noted.noted c.if-not-note_event.false) in
    let live = looked_live g b b' d.0 d.1 empty c.is_live-is_live.result makes
    c.is_live-is_live.ensures in
    elim found.either [
      | inl nothing ↦
          (let no : c.found_none.result ≢ taken.Did =
          λ did. absurd (let is = nothing in let yes = did in cc) in
          pops_by g most w w [] t (Ok Nothing) b b'
          (finds_none g most w b b' d.0 makes d.1 empty fewer
          (writes_none w c.is_live-is_live.result c.note_event.new.turn.looked
          c.note_event.new.turn.parts d.0 looked all (λ off. live ∙ off) (found.why no)))
          (ap stand_of (found.nothing no) ∙ ap (λ v. standing [] false v) looked))
      | inr did ↦ pops_by g most w true c.note_event.new.turn.parts t (Ok Nothing) b b' (record {
        makes = makes;
        device = d.0;
        its = d.1;
        empty = empty;
        fewer = fewer;
        parts_are = inl (
          record {
            seen = Nothing;
            gave = refl;
            live = live ∙ found.live did;
            all = all;
          },
          refl,
        );
      }) (ap stand_of (found.did did).0)
    ]

pub returns-in-Ok-false-clause-taken : goal.returns-in-Ok-false-clause-taken
returns-in-Ok-false-clause-taken c most fewer =
    let g = c.args.guest in
    let b = c.args.board.now in
    let b' = c.pop.new.self in
    let w = c.args.turn.now.looked in
    let noted = c.note_event.ensures in
    let found = c.found_none.ensures in
    let d = some_at b.devices g c.requires.guest in
    let makes = subst (λ did. Makes (step.Pop g) (did_answer did) b b') c.in-Ok-false.field-0-test
    c.in-Ok-false.ensures.pops in
    let empty = empty_place g b c.what_always_holds.ensures c.requires.guest c.requires.job in
    let looked = ap (λ t. t.looked) noted.rest in
    let all = noted_at _ d.0 _ _ d.1 c.requires.parts (noted.noted c.if-not-note_event.false) in
    let live = looked_live g b b' d.0 d.1 empty c.is_live-is_live.result makes
    c.is_live-is_live.ensures in
    let none = found_none g b b' c.what_always_holds.ensures c.requires.guest c.requires.job
    makes in
    let taken_ : Taken → Type 0 = λ t. IsTaken g most (standing [] true w) b
    c.found_none.new.turn b' t in
    elim found.either [
      | inl nothing ↦
          (let no : c.found_none.result ≢ taken.Did =
          λ did. absurd (let is = nothing in let yes = did in cc) in
          subst taken_ (sym nothing) (
            (
              none.1,
              inl (
                none.0,
                record {
                  before = b;
                  looked = w;
                  first = Still (standing [] true w) b;
                  looked' = w;
                  after = b';
                  pops = finds_none g most w b b' d.0 makes d.1 empty fewer
                      (writes_none w c.is_live-is_live.result c.note_event.new.turn.looked
                      c.note_event.new.turn.parts d.0 looked all (λ off. live ∙ off)
                      (found.why no));
                  rest = still_by g most false w (stand_of c.found_none.new.turn) b' b'
                      (ap stand_of (found.nothing no) ∙ ap (λ v. standing [] false v) looked)
                      refl;
                },
              ),
            ),
            ap (λ t. t.parts) (found.nothing no),
          ))
      | inr did ↦ subst taken_ (sym did) tt
    ]

pub returns-in-Ok-false-clause-did : goal.returns-in-Ok-false-clause-did
returns-in-Ok-false-clause-did c is most fewer =
    let did = c.found_none.ensures.did is in
    inr (λ none. did.1 (sym (ap (λ t. t.parts) did.0) ∙ none))
