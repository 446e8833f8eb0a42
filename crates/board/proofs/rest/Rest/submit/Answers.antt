use Rattle.std.proofs.Common.{[], arith, subst, sym, ◌∙◌, Err, Ok}
use Rattle.board.proofs.Common.{slice_get, slice_set, in_place, SubmitsFrom, Did}
use Rattle.std.specs.Prelude.{Some}
use Rattle.board.specs.declared.step.StepFault.TheVariants as fault
use Rattle.board.proofs.Doing.{did_of, refused_of}
use Rattle.board.proofs.rest.Rest.submit.Goals as goal

pub returns-in-Err : goal.returns-in-Err
returns-in-Err g c =
    let e = c.in-Err.ensures in
    let i = c.self.inside in
    subst (λ v. SubmitsFrom c.args.guest (in_place (slice_get v.jobs c.args.guest))
    (slice_get v.tallies c.args.guest) (Err (fault.Book c.in-Err.refused)) v
    (record {
      devices = [];
      book = c.submit.new.self;
      tallies =
          slice_set i.tallies.items c.from-at.result c.submit.new.tally;
      shares = i.keeper.shares;
      store =
          i.keeper.store;
      jobs = slice_set c.take_from.new.places.items c.from-at.result (Some c.in-Err.job);
      dones = i.dones.items;
      intents = i.keeper.intents;
      report =
          i.keeper.report;
    })) c.self.view_is
    (refused_of _ c.args.guest c.from-at.result c.in-Some.job c.in-Err.job
    c.take_from.new.places.items c.index_mut.result.now c.submit.new.tally c.submit.new.self
    c.in-Err.refused
    c.from-at.ensures (sym c.in-Some.is ∙ c.take_from.ensures.taken) c.take_from.ensures.rest
    (let below = c.if-at-len.false in let long = c.len.ensures in omega (arith, below, long))
    c.index_mut.ensures.value
    e.refused.1 e.refused.0 e.unchanged.0 e.unchanged.1)

pub returns-in-Ok : goal.returns-in-Ok
returns-in-Ok g c =
    let e = c.in-Ok.ensures in
    let i = c.self.inside in
    subst (λ v. SubmitsFrom c.args.guest (in_place (slice_get v.jobs c.args.guest))
    (slice_get v.tallies c.args.guest) (Ok Did) v
    (record {
      devices = [];
      book = c.submit.new.self;
      tallies =
          slice_set i.tallies.items c.from-at.result c.submit.new.tally;
      shares = i.keeper.shares;
      store =
          i.keeper.store;
      jobs = c.take_from.new.places.items;
      dones = i.dones.items;
      intents =
          i.keeper.intents;
      report = i.keeper.report;
    })) c.self.view_is
    (did_of _ c.args.guest c.from-at.result c.in-Some.job c.take_from.new.places.items
    c.index_mut.result.now c.submit.new.tally c.submit.new.self
    c.from-at.ensures (sym c.in-Some.is ∙ c.take_from.ensures.taken) c.take_from.ensures.rest
    (let below = c.if-at-len.false in let long = c.len.ensures in omega (arith, below, long))
    c.index_mut.ensures.value
    e.allowed e.made e.counted)
