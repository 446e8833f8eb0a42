use Rattle.std.proofs.Common.{◌∙◌, ◌++◌, ◌∷◌, [], ap, arith, sym}
use Rattle.world.proofs.Common.{option_copied}
use Rattle.world.proofs.Keeping.{copied_all, copied_more}
use Rattle.world.proofs.stage.copies.Goals as goal

pub loop-guest-init : goal.loop-guest-init
loop-guest-init c = c.in_ok-partitions.ensures.items

pub loop-guest-preserved : goal.loop-guest-preserved
loop-guest-preserved c =
    copied_more c.loop-guest.guest c.args.board.now c.loop-guest.partitions.items
    c.push.new.self.items c.in-Some.partition.now c.loop-guest.invariant
    (sym (ap option_copied c.in-Some.is) ∙ c.partition.ensures) (c.in_ok-push.ensures.items
    ∙ ap (λ p. c.loop-guest.partitions.items ++ p ∷ []) c.in_ok-copy.ensures)

pub returns : goal.returns
returns c =
    let over = c.loop-guest-test.false in
    let count = c.requires.count in
    copied_all c.loop-guest.guest c.args.board.now c.loop-guest.partitions.items
    c.loop-guest.invariant (omega (arith, over, count))
