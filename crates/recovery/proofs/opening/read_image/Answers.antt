use Rattle.recovery.proofs.Common.{err_from_is_err_and}
use Rattle.std.proofs.Common.{◌∙◌, refl, sym}
use Rattle.recovery.proofs.Ways.{untouched_here, opens_on, opens_end, pass_end, gives_on, reads_on}
use Rattle.recovery.proofs.Guests.{front_answers, on_found, all_answers}
use Rattle.recovery.proofs.Zeros.{of_ok, on_ok}
use Rattle.recovery.proofs.opening.read_image.Goals as goal

pub returns-clause-opens : goal.returns-clause-opens
returns-clause-opens g c =
    opens_on g.D.Disk.state g.D.Disk.makes _ _ _ _ c.in_ok-paired.ensures.opens
    (c.in_ok-paired.ensures.went refl) c.read_guests.ensures.passes

pub returns-in_err-paired-clause-answers : goal.returns-in_err-paired-clause-answers
returns-in_err-paired-clause-answers g c content gives =
    let p = err_from_is_err_and c.from_residual.result c.from_residual.ensures.1 in
    rw (p.1, p.2) (front_answers c.args.layout.now _ content c.in_err-paired.field-0.0
    (c.in_err-paired.ensures.tells content gives))

pub returns-clause-answers : goal.returns-clause-answers
returns-clause-answers g c content gives =
    let u = opens_end g.D.Disk.state g.D.Disk.makes _ _ _ c.in_ok-paired.ensures.opens in
    let told = c.in_ok-paired.ensures.tells content gives in
    all_answers c.args.layout.now _ _ content c.read_guests.new.guests.items
    c.read_guests.new.partitions.items c.read_guests.result refl told.0.front told.0.header
    told.0.long
    c.read_guests.ensures.begun (c.read_guests.ensures.finds content (gives_on _ _ content u gives)
    (sym told.1))

pub returns-clause-read : goal.returns-clause-read
returns-clause-read g c = on_ok c.read_guests.result _ (λ ok.
    let u = opens_end g.D.Disk.state g.D.Disk.makes _ _ _ c.in_ok-paired.ensures.opens in
    let w = pass_end g.D.Disk.state g.D.Disk.makes _ _ _ c.read_guests.ensures.passes in
    let went = c.in_ok-paired.ensures.went refl in
    record {
      begun = of_ok c.read_guests.result _ ok c.read_guests.ensures.begun;
      long = sym u.len ∙ c.in_ok-paired.ensures.long;
      went = record {
        before = c.args.disk.now;
        after = went.synced;
        sync = went.sync;
        reads =
            reads_on g.D.Disk.state g.D.Disk.makes _ _ _ went.reads
            c.read_guests.ensures.passes.reads;
      };
      synced = λ known k. w.unsynced (u.faithful ∙ known) k (c.in_ok-paired.ensures.synced known k);
      found = of_ok c.read_guests.result _ ok
          (on_found c.args.layout.now c.read_guests.new.guests.items
          c.read_guests.new.partitions.items _ _ c.read_guests.result
          (untouched_here (g.D.Disk.state c.args.disk.now)) (λ content gives. (
          let told = c.in_ok-paired.ensures.tells content gives in
          c.read_guests.ensures.finds content (gives_on _ _ content u gives) (sym told.1))));
    })
