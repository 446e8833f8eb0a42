use Rattle.std.proofs.Common.{◌∙◌, ap, sym}
use Rattle.world.proofs.Common.{cut_log, bases_of}
use Rattle.world.proofs.Keeping.{cut_all, cut_more, cut_none}
use Rattle.world.proofs.stage.keep_prefixes.Goals as goal

pub loop-guest-init : goal.loop-guest-init
loop-guest-init c = cut_none (bases_of c.args.bases.now) c.args.board.now c.args.logs.now

pub loop-guest-preserved : goal.loop-guest-preserved
loop-guest-preserved c = cut_more c.loop-guest.guest (bases_of c.args.bases.now) c.args.board.now
    c.args.logs.now c.loop-guest.logs c.index-logs-guest.result c.keep.new.self c.kept.result
    c.loop-guest.invariant c.loop-guest-test.true c.index-logs-guest.is c.kept.ensures
    (c.keep.ensures ∙ ap (cut_log c.kept.result) (sym c.index-logs-guest.is))

pub returns : goal.returns
returns c = cut_all c.loop-guest.guest (bases_of c.args.bases.now) c.args.board.now c.args.logs.now
    c.loop-guest.logs c.loop-guest.invariant c.loop-guest-test.false
