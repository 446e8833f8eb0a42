use Rattle.std.proofs.Common.{◌≡◌, ◌%◌, ap, length, map, refl, subst, sym, arith}
use Rattle.commands.proofs.Common.{IfErr-weaker, on_ok_weaker, HaveAll, IsOfTelling}
use Rattle.script.specs.Line.{said}
use Rattle.workers.specs.Keeping.{KeepsGuests}
use Rattle.commands.proofs.EachTold.{EndsServe, opening_serve, prints_each, served_print}
use Rattle.commands.proofs.EachTold.{telling_serve, threads_serve}
use Rattle.commands.proofs.Opened.{image_of}
use Rattle.commands.proofs.ServedImage.{few_guests, serves_image, told_keeps, told_of}
use Rattle.commands.proofs.ServedImage.{uncalled_keeps, unserved_keeps}
use Rattle.commands.proofs.serving.serve_on.Goals as goal

pub returns-in-Err-open-clause-ends : goal.returns-in-Err-open-clause-ends
returns-in-Err-open-clause-ends g c =
    let s = g.D.Disk.state c.args.disk in
    subst (EndsServe c.args.board.now s) (sym c.of_image.ensures)
    (opening_serve c.args.board.now s c.in-Err-open.fault c.in-Err-open.ensures.answers)

pub returns-in-Ok-serve-clause-ends : goal.returns-in-Ok-serve-clause-ends
returns-in-Ok-serve-clause-ends g c =
    let s = g.D.Disk.state c.args.disk in
    IfErr-weaker c.tell.result.0 IsOfTelling (EndsServe c.args.board.now s) (λ f of.
    telling_serve c.args.board.now s f of) c.tell.ensures.ends

pub returns-clause-ends : goal.returns-clause-ends
returns-clause-ends g c =
    let s = g.D.Disk.state c.args.disk in
    subst (EndsServe c.args.board.now s) (sym c.of.ensures)
    (threads_serve c.args.board.now s c.in-Err-serve.fault)

pub returns-in-Ok-serve-clause-printed : goal.returns-in-Ok-serve-clause-printed
returns-in-Ok-serve-clause-printed g c =
    let drivers = c.in-Ok-serve.ended.drivers in
    let scripts = c.in-Ok.scripts in
    let guests : length c.guests.result.now ≡ length c.args.board.now =
    ap length c.guests.ensures.value in
    let parted : length c.as_slice.result.now ≡ length scripts.items =
    ap length c.as_slice.ensures.value in
    let as_many : length scripts.items ≡ length c.args.board.now =
    omega (arith, scripts.ok, c.in-Ok.ensures.many, guests) in
    on_ok_weaker c.tell.result.0 (λ printed.
    prints_each drivers.items c.args.configs.now scripts.items (map said c.args.lines.items)
    (length c.args.board.now) (g.W.Write.contents c.args.out.now)
    (g.W.Write.contents c.tell.new.out)
    (omega (arith, c.in-Ok-serve.ensures.leaves.drivers, drivers.ok, parted, as_many)) as_many
    (c.requires.drivers) (subst (HaveAll drivers.items c.args.configs.now) c.as_slice.ensures.value
    c.in-Ok-serve.ensures.leaves.answers) (λ k below.
    c.in-Ok.ensures.each k (omega (arith, guests, below))) printed)
    c.tell.ensures.printed

pub returns-in-Ok-serve-clause-prints : goal.returns-in-Ok-serve-clause-prints
returns-in-Ok-serve-clause-prints g c =
    let drivers = c.in-Ok-serve.ended.drivers in
    let scripts = c.in-Ok.scripts in
    let guests : length c.guests.result.now ≡ length c.args.board.now =
    ap length c.guests.ensures.value in
    let parted : length c.as_slice.result.now ≡ length scripts.items =
    ap length c.as_slice.ensures.value in
    let as_many : length scripts.items ≡ length c.args.board.now =
    omega (arith, scripts.ok, c.in-Ok.ensures.many, guests) in
    served_print (length c.args.board.now) c.args.configs.now (map said c.args.lines.items)
    (g.W.Write.contents c.args.out.now) (g.W.Write.contents c.tell.new.out) c.tell.result.0
    c.tell.ensures.ends
    (λ failed. prints_each drivers.items c.args.configs.now scripts.items
    (map said c.args.lines.items)
    (length c.args.board.now) (g.W.Write.contents c.args.out.now)
    (g.W.Write.contents c.tell.new.out)
    (omega (arith, c.in-Ok-serve.ensures.leaves.drivers, drivers.ok, parted, as_many)) as_many
    (c.requires.drivers) (subst (HaveAll drivers.items c.args.configs.now) c.as_slice.ensures.value
    c.in-Ok-serve.ensures.leaves.answers) (λ k below.
    c.in-Ok.ensures.each k (omega (arith, guests, below))) (c.tell.ensures.failed failed))

pub returns-in-Err-clause-keeps : goal.returns-in-Err-clause-keeps
returns-in-Err-clause-keeps g c = uncalled_keeps g.D.Disk.state g.D.Disk.makes c.args.board.now
    c.args.disk c.in-Err.fault (λ told. (let memory = c.in-Err.ensures.memory in absurd (cc)))

pub returns-in-Err-open-clause-keeps : goal.returns-in-Err-open-clause-keeps
returns-in-Err-open-clause-keeps g c =
    unserved_keeps g.D.Disk.state g.D.Disk.makes c.args.board.now c.args.disk c.in-Err-open.fault
    c.of_image.result c.in-Err-open.disk c.of_image.ensures c.in-Err-open.ensures.any_moment
    c.in-Err-open.ensures.cause

pub returns-in-Ok-serve-clause-keeps : goal.returns-in-Ok-serve-clause-keeps
returns-in-Ok-serve-clause-keeps g c =
    let shows = g.D.Disk.state in
    let makes = g.D.Disk.makes in
    let e = c.in-Ok-open.ensures in
    let parts = c.parts_of-parts in
    let ended = c.in-Ok-serve.ended in
    let left = c.in-Ok-serve.ensures in
    let b = c.in-Ok-open.opened in
    let guests : length c.guests.result.now ≡ length c.args.board.now =
    ap length c.guests.ensures.value in
    let parted : length c.as_slice.result.now ≡ length c.in-Ok.scripts.items =
    ap length c.as_slice.ensures.value in
    let many : length c.as_slice.result.now % 65536 ≡ length c.args.board.now =
    few_guests _ _ (omega (arith, c.in-Ok.scripts.ok, c.in-Ok.ensures.many, guests, parted))
    c.requires.servable.in_range.count.1 in
    let kept = subst (λ n. KeepsGuests shows makes n b.book b.store ended.store) many
    (subst (λ v. KeepsGuests shows makes (length c.as_slice.result.now % 65536) v b.store
    ended.store) parts.ensures.book
    (subst (λ s. KeepsGuests shows makes (length c.as_slice.result.now % 65536) parts.result.book s
    ended.store) parts.ensures.store left.keeps)) in
    let heard = left.heard (told_of shows c.args.board.now b parts.result.book parts.result.store 1
    e.begins parts.ensures.book parts.ensures.store) in
    told_keeps shows makes c.args.board.now c.args.disk c.tell.result.0 c.tell.result.1
    ended.store.disk ended.broken c.tell.ensures.back c.tell.ensures.whole c.tell.ensures.cause
    (serves_image shows makes c.args.board.now c.args.disk b 1 e.begins e.any_moment
    (e.unfailed refl) ended.store kept
    (image_of shows c.args.board.now c.args.disk b 1 e.begins (λ known. (e.found known).stands)
    e.answers) ended.rests ended.broken heard)
