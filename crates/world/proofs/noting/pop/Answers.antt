use Rattle.std.proofs.Common.{◌∙◌, ap, inl, refl, sym}
use Rattle.world.proofs.Common.{is_some, option_copied, slice_get}
use Rattle.world.proofs.Noted.{pops_full}
use Rattle.world.proofs.noting.pop.Goals as goal

pub returns-in-Some : goal.returns-in-Some
returns-in-Some c =
    let lies = sym c.job.ensures ∙ ap option_copied c.in-Some.is in
    let b = c.args.board.now in
    let n = c.args.guest in
    record {
      pops = record {
        made = inl (
          c.step.ensures.does,
          pops_full c.args.life n c.step.result b c.step.new.self
              (slice_get b.jobs n) (slice_get b.devices n) c.args.log.now.popped (ap is_some lies)
              c.step.ensures.does,
        );
        accepted = refl;
        published = refl;
        capacity = refl;
      };
    }
