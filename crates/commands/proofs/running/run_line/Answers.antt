use Rattle.std.proofs.Common.{Ok, Err, refl, subst, sym, ◌∙◌}
use Rattle.commands.proofs.Common.{Keeps-refl, chain, store, Line, moves_none, LineRuns}
use Rattle.script.specs.Line.{said}
use Rattle.commands.proofs.running.run_line.Goals as goal

pub returns-in-Nothing : goal.returns-in-Nothing
returns-in-Nothing g c =
    let start = g.W.Write.contents c.args.out.now in
    let h = c.args.host.now in
    subst (λ (l : Line). LineRuns g.D.Disk.state g.D.Disk.makes (said l) h start (Ok tt) start h)
    (sym c.in-Nothing.is)
    (record {
      did = (refl, Keeps-refl start);
      moves =
          moves_none g.D.Disk.state g.D.Disk.makes h.board;
      whole = λ is. is;
      calm = λ is. is;
    })

pub returns-in-Chain : goal.returns-in-Chain
returns-in-Chain g c =
    let start = g.W.Write.contents c.args.out.now in
    let r = c.run_chain in
    subst (λ (l : Line). LineRuns g.D.Disk.state g.D.Disk.makes (said l) c.args.host.now start
    r.result (g.W.Write.contents r.new.out) r.new.host) (sym c.in-Chain.is)
    (subst (λ b. LineRuns g.D.Disk.state g.D.Disk.makes
    (chain c.in-Chain.guest b c.in-Chain.writable) c.args.host.now start r.result
    (g.W.Write.contents r.new.out) r.new.host) c.as_slice.ensures.value r.ensures)

pub returns-in-Ok : goal.returns-in-Ok
returns-in-Ok g c =
    let start = g.W.Write.contents c.args.out.now in
    let h = c.args.host.now in
    let s = c.store.ensures in
    subst (λ (l : Line). LineRuns g.D.Disk.state g.D.Disk.makes (said l) h start (Ok tt) start
    c.store.new.self) (sym c.in-Store.is)
    (subst (λ b. LineRuns g.D.Disk.state g.D.Disk.makes (store c.in-Store.guest c.in-Store.at b) h
    start (Ok tt) start c.store.new.self) c.as_slice-in-Store.ensures.value
    (record {
      did = (c.in-Ok.ensures.call, Keeps-refl start);
      moves = s.moves;
      whole = λ whole.
          sym s.call.same ∙ whole;
      calm = λ before. s.calm;
    }))

pub returns-in-Store : goal.returns-in-Store
returns-in-Store g c =
    let start = g.W.Write.contents c.args.out.now in
    let h = c.args.host.now in
    let s = c.store.ensures in
    subst (λ (l : Line). LineRuns g.D.Disk.state g.D.Disk.makes (said l) h start (Err c.of.result)
    start c.store.new.self) (sym c.in-Store.is)
    (subst (λ b. LineRuns g.D.Disk.state g.D.Disk.makes (store c.in-Store.guest c.in-Store.at b) h
    start (Err c.of.result) start c.store.new.self) c.as_slice-in-Store.ensures.value
    (record {
      did = (
        (c.in-Err.fault, c.in-Err.ensures.call, c.of.ensures),
        λ not.
            Keeps-refl start,
      );
      moves = s.moves;
      whole = λ whole. sym s.call.same ∙ whole;
      calm =
          λ before. s.calm;
    }))

pub returns-in-Ok-reset : goal.returns-in-Ok-reset
returns-in-Ok-reset g c =
    let start = g.W.Write.contents c.args.out.now in
    let h = c.args.host.now in
    let s = c.reset.ensures in
    let e = c.in-Ok-reset.ensures in
    subst (λ (l : Line). LineRuns g.D.Disk.state g.D.Disk.makes (said l) h start (Ok tt) start
    c.reset.new.self) (sym c.in-Reset.is)
    (record {
      did = (e.call, Keeps-refl start);
      moves = s.moves;
      whole = λ whole. sym s.call.same
          ∙ whole;
      calm = λ before. s.calm;
    })

pub returns : goal.returns
returns g c =
    let start = g.W.Write.contents c.args.out.now in
    let h = c.args.host.now in
    let s = c.reset.ensures in
    let e = c.in-Err-reset.ensures in
    subst (λ (l : Line). LineRuns g.D.Disk.state g.D.Disk.makes (said l) h start
    (Err c.of-in-Err-reset.result) start c.reset.new.self) (sym c.in-Reset.is)
    (record {
      did = (
        (c.in-Err-reset.fault, e.call, c.of-in-Err-reset.ensures),
        λ not.
            Keeps-refl start,
      );
      moves = s.moves;
      whole = λ whole. sym s.call.same ∙ whole;
      calm =
          λ before. s.calm;
    })
