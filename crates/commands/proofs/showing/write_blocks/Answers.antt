use Rattle.std.proofs.Common.{subst}
use Rattle.commands.proofs.Common.{Appends, block_shown}
use Rattle.commands.proofs.Listed.{no_blocks, one_block}
use Rattle.commands.proofs.showing.write_blocks.Goals as goal

pub loop-address-init : goal.loop-address-init
loop-address-init g c = no_blocks _ _ _ _

pub loop-address-preserved : goal.loop-address-preserved
loop-address-preserved g c =
    let before = g.W.Write.contents c.loop-address.out in
    let next = g.W.Write.contents c.write_block.new.out in
    one_block _ before next c.args.as_json c.loop-address.address c.args.guest c.args.partition.now
    c.loop-address.invariant
    (subst (λ b. Appends before next (block_shown c.args.as_json c.args.guest
    c.loop-address.address b))
    c.block.ensures c.in_ok-write_block.ensures.printed)
