use Rattle.std.proofs.Common.{◌+◌, subst, sym}
use Rattle.std.proofs.lemmas.List.{take_rest}
use Rattle.commands.proofs.Telling.{Took, takes, takes_kept, took_more, took_kept}
use Rattle.commands.proofs.fault_lines.write_front.Goals.{in-Ok, in-Err+else-ne}
use Rattle.commands.proofs.fault_lines.write_front.Goals as goal

pub loop-preserved : goal.loop-preserved
loop-preserved g c =
    let start = g.E.Write.contents c.args.err.now in
    let before = g.E.Write.contents c.loop.err in
    let next = g.E.Write.contents c.write.new.self in
    let text = c.args.text.now in
    elim c.match-write.branch [
      | in-Ok w ↦ subst (Took start next text) (sym w.taken-is)
          (took_more start before next text _ c.loop.taken w.in-Ok.count c.loop.invariant
          (take_rest text c.loop.taken) w.in-Ok.ensures.bound w.in-Ok.ensures.bytes)
      | in-Err+else-ne w ↦ subst (Took start next text) (sym w.taken-is)
          (took_kept start before next text c.loop.taken c.loop.invariant w.in-Err.ensures.bytes)
    ]

pub returns-in-Ok-eq0 : goal.returns-in-Ok-eq0
returns-in-Ok-eq0 g c =
    let start = g.E.Write.contents c.args.err.now in
    let before = g.E.Write.contents c.loop.err in
    let next = g.E.Write.contents c.write.new.self in
    let text = c.args.text.now in
    takes start next text (c.loop.taken + c.in-Ok-eq0.field-0)
    (took_more start before next text _ c.loop.taken c.in-Ok-eq0.field-0 c.loop.invariant
    (take_rest text c.loop.taken) c.in-Ok-eq0.ensures.bound c.in-Ok-eq0.ensures.bytes)

pub returns-then-ne : goal.returns-then-ne
returns-then-ne g c =
    takes_kept (g.E.Write.contents c.args.err.now) (g.E.Write.contents c.loop.err)
    (g.E.Write.contents c.write.new.self) c.args.text.now c.loop.taken c.loop.invariant
    c.in-Err.ensures.bytes

pub returns-then-taken-text : goal.returns-then-taken-text
returns-then-taken-text g c =
    takes (g.E.Write.contents c.args.err.now) (g.E.Write.contents c.loop.err) c.args.text.now
    c.loop.taken c.loop.invariant

pub returns : goal.returns
returns g c = takes (g.E.Write.contents c.args.err.now) (g.E.Write.contents c.loop.err)
    c.args.text.now c.loop.taken c.loop.invariant
