use Rattle.std.proofs.Common.{rules}
use Rattle.rpmb_client.proofs.Printing.{frame_of_parts}
use Rattle.rpmb_client.proofs.explaining.write_frame.Goals as goal

pub returns : goal.returns
returns g c =
    frame_of_parts c.write_end.result _ (g.W.Write.contents c.write_place.new.out)
    (g.W.Write.contents c.write_kinds.new.out) (g.W.Write.contents c.write_counter.new.out)
    (g.W.Write.contents c.write_fields.new.out) (g.W.Write.contents c.judge.new.out) _ _ _ _ _ _ _
    (search rules) (search rules) (search rules) (search rules) (search rules) (search rules)
