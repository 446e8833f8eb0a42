use Rattle.std.proofs.Common.{Ok, Err, inl, inr, refl, subst, sym, ap, ◌∙◌}
use Rattle.queue_looks.proofs.Common.{Starved, Spoiled, NeedsReset, Looks, OnShare, HostFault}
use Rattle.queue_looks.proofs.Common.{NoMemory, Stopped, publish_answer}
use Rattle.queue_looks.proofs.Looks.{look_answered, look_failed, look_nothing, look_refused}
use Rattle.queue_looks.proofs.Looks.{look_waits}
use Rattle.queue_looks.proofs.looking.look_once.Goals as goal

pub returns-in-Err-NoMemory : goal.returns-in-Err-NoMemory
returns-in-Err-NoMemory g c =
    let w = c.in-Err-NoMemory in
    look_failed g.D.Disk.state g.D.Disk.makes c.args.guest c.args.board.now c.pop.new.self
    c.pop.result c.requires.calm c.requires.there c.pop.ensures
    Starved (Err NoMemory) (w.is ∙ ap Err w.field-0-is) (λ s s' p. inr (refl, p))

pub returns-in-Err-Refused : goal.returns-in-Err-Refused
returns-in-Err-Refused g c =
    let w = c.in-Err-Refused in
    look_failed g.D.Disk.state g.D.Disk.makes c.args.guest c.args.board.now c.pop.new.self
    c.pop.result c.requires.calm c.requires.there c.pop.ensures
    (Spoiled w.field-0-0) (Ok Stopped) (w.is ∙ ap Err w.field-0-is) (λ s s' p.
    record { empty = p.empty; gave = inr (w.field-0-0, p.gave); rest = p.rest })

pub returns-in-Err-NeedsReset : goal.returns-in-Err-NeedsReset
returns-in-Err-NeedsReset g c =
    let w = c.in-Err-NeedsReset in
    look_failed g.D.Disk.state g.D.Disk.makes c.args.guest c.args.board.now c.pop.new.self
    c.pop.result c.requires.calm c.requires.there c.pop.ensures
    NeedsReset (Ok Stopped) (w.is ∙ ap Err w.field-0-is) (λ s s' p.
    record { empty = p.empty; gave = inl p.gave; rest = p.rest })

pub returns-in-Ok-false : goal.returns-in-Ok-false
returns-in-Ok-false g c =
    look_nothing g.D.Disk.state g.D.Disk.makes c.args.guest c.args.board.now c.pop.new.self
    c.pop.result c.requires.calm c.requires.there c.pop.ensures
    c.in-Ok.field-0 c.in-Ok.is c.submit.new.self c.submit.result c.submit.ensures (c.in-Ok-false.is
    ∙ ap Ok c.in-Ok-false.field-0-test)

pub returns-in-Err : goal.returns-in-Err
returns-in-Err g c =
    let told : HostFault → Type 0 = λ f. OnShare g.D.Disk.state g.D.Disk.makes c.args.guest (λ s s'.
    Looks c.args.guest s (Err f) s') c.args.board.now c.submit.new.self in
    subst told (sym c.of.ensures)
    (look_refused g.D.Disk.state g.D.Disk.makes c.args.guest c.args.board.now c.pop.new.self
    c.pop.result c.requires.calm c.requires.there c.pop.ensures
    c.in-Ok.field-0 c.in-Ok.is c.submit.new.self c.submit.result c.submit.ensures c.in-Err.refused
    c.in-Err.is)

pub settle_reply-requires : goal.settle_reply-requires
settle_reply-requires g c = record {
  waits = record {
    start = c.submit.new.self;
    reply = _;
    waits = look_waits g.D.Disk.state g.D.Disk.makes c.args.guest c.args.board.now c.pop.new.self
        c.pop.result c.requires.calm c.requires.there c.pop.ensures
        c.in-Ok.field-0 c.in-Ok.is c.submit.new.self c.submit.result c.submit.ensures
        (c.in-Ok-true.is ∙ ap Ok c.in-Ok-true.field-0-test);
  };
}

pub returns : goal.returns
returns g c =
    let accepted = c.in-Ok-true.is ∙ ap Ok c.in-Ok-true.field-0-test in
    let waits = look_waits g.D.Disk.state g.D.Disk.makes c.args.guest c.args.board.now
    c.pop.new.self c.pop.result c.requires.calm c.requires.there c.pop.ensures
    c.in-Ok.field-0 c.in-Ok.is c.submit.new.self c.submit.result c.submit.ensures accepted in
    look_answered g.D.Disk.state g.D.Disk.makes c.args.guest c.args.board.now c.pop.new.self
    c.pop.result c.requires.calm c.requires.there c.pop.ensures
    c.in-Ok.field-0 c.in-Ok.is c.submit.new.self c.submit.result c.submit.ensures accepted
    c.settle_reply.new.board c.publish.new.self (publish_answer c.publish.result)
    (c.settle_reply.ensures.leaves _ waits) c.settle_reply.ensures.moves c.publish.ensures.does
    c.publish.ensures.moves
