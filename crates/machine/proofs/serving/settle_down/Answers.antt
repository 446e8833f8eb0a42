use Rattle.std.proofs.Common.{◌≡◌, ℕ, [], Some, refl, ap, sym, subst, ◌∙◌, length, map}
use Rattle.board.specs.State.{waiting}
use Rattle.machine.proofs.Common.{Boards, Runs, Stand, stand_of, standing}
use Rattle.machine.specs.Ending.{IsHandedOn, NotifiesNext, left_by}
use Rattle.machine.specs.declared.fault.MachineFault.TheVariants as fault
use Rattle.machine.specs.Serving.{DoesSome, HasNoReply}
use Rattle.machine.proofs.Goings.{ended_on, lacks, notified_busy, notified_needs, went_by, went_on}
use Rattle.machine.proofs.Handed.{handed_same}
use Rattle.machine.proofs.Popping.{gives_up}
use Rattle.machine.proofs.Runs.{runs_twice, then_does}
use Rattle.machine.proofs.Waiting.{same_waits}
use Rattle.machine.specs.Turn.{TurnState}
use Rattle.machine.proofs.serving.settle_down.Goals as goal

-- what was accepted is handed on first
module _ (guest most : ℕ) (a b d : Boards) (t : TurnState) (u : Stand) (none : t.parts ≡ [])
    (first : (most : ℕ) (s : Stand) → Runs guest most s a s b) where
  handed : Runs guest most (standing [] t.going t.looked) b u d → Runs guest most (stand_of t) a u d
  handed rest = runs_twice guest most (stand_of t) (stand_of t) u a b d (first most (stand_of t))
      (subst (λ ps. Runs guest most (standing ps t.going t.looked) b u d) (sym none) rest)

  handed_does : DoesSome guest most (standing [] t.going t.looked) b u d
      → DoesSome guest most (stand_of t) a u d
  handed_does rest = then_does guest most (stand_of t) (stand_of t) u a b d (first most
      (stand_of t))
      (subst (λ ps. DoesSome guest most (standing ps t.going t.looked) b u d) (sym none) rest)

pub returns-then-hand_all : goal.returns-then-hand_all
returns-then-hand_all c =
    let t = c.args.turn.now in
    record {
      went = λ most s z ended. went_by c.args.guest most s z t t c.args.board.now
          c.hand_all.new.board _
          (c.hand_all.ensures.runs most (stand_of t)) tt
          (c.hand_all.ensures.did c.if-hand_all.true most (stand_of t))
          (ap length c.hand_all.ensures.devices) refl;
    }

pub returns-in-Asks : goal.returns-in-Asks
returns-in-Asks c =
    let g = c.args.guest in
    let a = c.args.board.now in
    let h = c.hand_all in
    let l = c.leave_one in
    let t = c.args.turn.now in
    let t' = c.go_to.new.self in
    record {
      went = λ most s z ended. went_by g most s z t t' a l.new.board _
          (subst (λ rs. Runs g most (stand_of t) a rs l.new.board) (sym
          (ap stand_of c.go_to.ensures))
          (handed g most a h.new.board l.new.board t _ c.requires.parts h.ensures.runs
          (l.ensures.runs most)))
          (l.ensures.asks c.in-Asks.ask c.in-Asks.is) tt
          (l.ensures.count ∙ ap length h.ensures.devices)
          (ap (λ v. v.asked) c.go_to.ensures ∙ l.ensures.keeps.1);
    }

pub returns-in-Did : goal.returns-in-Did
returns-in-Did c =
    let g = c.args.guest in
    let a = c.args.board.now in
    let h = c.hand_all in
    let l = c.leave_one in
    let t = c.args.turn.now in
    let t' = c.go_to-in-Did.new.self in
    let same = sym (ap stand_of c.go_to-in-Did.ensures) in
    record {
      went = λ most s z ended. went_by g most s z t t' a l.new.board _
          (subst (λ rs. Runs g most (stand_of t) a rs l.new.board) same
          (handed g most a h.new.board l.new.board t _ c.requires.parts h.ensures.runs
          (l.ensures.runs most)))
          tt
          (subst (λ rs. DoesSome g most (stand_of t) a rs l.new.board) same
          (handed_does g most a h.new.board l.new.board t _ c.requires.parts h.ensures.runs
          (l.ensures.did c.in-Did.is most)))
          (l.ensures.count ∙ ap length h.ensures.devices)
          (ap (λ v. v.asked) c.go_to-in-Did.ensures ∙ l.ensures.keeps.1);
    }

pub returns-in-NoMemory : goal.returns-in-NoMemory
returns-in-NoMemory c =
    let g = c.args.guest in
    let a = c.args.board.now in
    let h = c.hand_all in
    let l = c.leave_one in
    let t = c.args.turn.now in
    let t' = c.take_next.new.self in
    let d = l.new.board in
    record {
      went = λ most s z ended. went_by g most s z t t' a d _
          (runs_twice g most (stand_of t) (stand_of l.new.turn) (stand_of t') a d d
          (handed g most a h.new.board d t _ c.requires.parts h.ensures.runs (l.ensures.runs most))
          (gives_up g most l.new.turn.parts l.new.turn.going l.new.turn.looked (stand_of t') d
          (ap stand_of c.take_next.ensures)))
          (lacks g most fault.NoMemory s z t' d refl) tt (l.ensures.count
          ∙ ap length h.ensures.devices)
          (ap (λ v. v.asked) c.take_next.ensures ∙ l.ensures.keeps.1);
    }

-- the driver was notified, or isn't to be
module _ (guest most : ℕ) (a b d e : Boards) (t l : TurnState) (u : Stand) (none : t.parts ≡ [])
    (first : (most : ℕ) (s : Stand) → Runs guest most s a s b)
    (second : Runs guest most (standing [] t.going t.looked) b (stand_of l) d)
    (empty : l.parts ≡ []) where
  notified : Runs guest most (standing [] l.going l.looked) d u e → Runs guest most (stand_of t) a
      u e
  notified third = runs_twice guest most (stand_of t) (stand_of l) u a d e
      (handed guest most a b d t (stand_of l) none first second)
      (subst (λ ps. Runs guest most (standing ps l.going l.looked) d u e) (sym empty) third)

pub notify-requires-clause-parts : goal.notify-requires-clause-parts
notify-requires-clause-parts c =
    c.leave_one.ensures.idle (λ did. absurd (let a = c.in-Nothing.is in let b = did in cc))

pub returns-in-Some : goal.returns-in-Some
returns-in-Some c =
    let g = c.args.guest in
    let a = c.args.board.now in
    let h = c.hand_all in
    let l = c.leave_one in
    let n = c.notify in
    let t = c.args.turn.now in
    let t' = n.new.turn in
    let e = n.new.board in
    let none = l.ensures.idle (λ did. absurd (let x = c.in-Nothing.is in let y = did in cc)) in
    let needs = subst (λ o. NotifiesNext g e o) c.in-Some.is n.ensures.needs in
    record {
      went = λ most s z ended. went_by g most s z t t' a e _
          (subst (λ o. Runs g most (stand_of t) a (left_by o t') e) c.in-Some.is
          (notified g most a h.new.board l.new.board e t l.new.turn _ c.requires.parts
          h.ensures.runs
          (l.ensures.runs most) none (n.ensures.runs most)))
          (notified_needs g most s z t' e (Some c.in-Some.next) needs)
          (notified_busy g most (stand_of t) a e t' c.in-Some.next needs)
          (n.ensures.count ∙ l.ensures.count ∙ ap length h.ensures.devices)
          (n.ensures.asked ∙ l.ensures.keeps.1);
    }

pub rest-requires-clause-left : goal.rest-requires-clause-left
rest-requires-clause-left c =
    let g = c.args.guest in
    let l = c.leave_one.ensures.nothing c.in-Nothing.is in
    let same = c.notify.ensures.rest in (
      subst (λ r. IsHandedOn g r) (sym same)
          (handed_same g c.hand_all.new.board c.leave_one.new.board l.2
          (c.hand_all.ensures.done c.if-hand_all.false)),
      subst (λ r. HasNoReply g r) (sym same) l.0,
      (c.notify.ensures.none c.in-None.is).1,
    )

pub returns-in-None : goal.returns-in-None
returns-in-None c =
    let g = c.args.guest in
    let a = c.args.board.now in
    let h = c.hand_all in
    let l = c.leave_one in
    let n = c.notify in
    let t = c.args.turn.now in
    let t' = n.new.turn in
    let b = h.new.board in
    let d = l.new.board in
    let e = n.new.board in
    let f = c.args.fault in
    let none = l.ensures.idle (λ did. absurd (let x = c.in-Nothing.is in let y = did in cc)) in
    let nothing = l.ensures.nothing c.in-Nothing.is in
    let rest = n.ensures.rest in
    let keeps = same_waits g b d nothing.2 in
    let runs : (most : ℕ) → Runs g most (stand_of t) a (stand_of t') e =
    λ most. subst (λ o. Runs g most (stand_of t) a (left_by o t') e) c.in-None.is
    (notified g most a b d e t l.new.turn _ c.requires.parts h.ensures.runs (l.ensures.runs most)
    none (n.ensures.runs most)) in
    record {
      went = λ most s z ended. went_on g most s z t t' c.rest.new.turn a e c.rest.new.board _
          (runs most)
          (n.ensures.count ∙ l.ensures.count ∙ ap length h.ensures.devices)
          (n.ensures.asked ∙ l.ensures.keeps.1)
          (c.rest.ensures.went most s z
          (ended_on g most s (stand_of t) (stand_of t') z a e f (runs most)
          ((n.ensures.none c.in-None.is).0
          ∙ ap (λ ds. map (λ x. x.device) ds) (nothing.1 ∙ h.ensures.devices)) (
            ap (λ r. r.jobs) rest ∙ keeps.0 ∙ h.ensures.keeps.0,
            ap (λ r. waiting g r) rest ∙ keeps.1 ∙ h.ensures.keeps.1,
          ) ended));
    }
