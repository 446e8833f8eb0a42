use Rattle.std.proofs.Common.{◌∙◌, ap, length, arith}
use Rattle.chains.proofs.BytesLemmas.{length-bytes_at}
use Rattle.chains.proofs.reads.Reads.descriptor.Goals as goal

pub copy_from_slice-requires : goal.copy_from_slice-requires
copy_from_slice-requires c =
    let l = ap length c.bytes.ensures ∙ length-bytes_at c.args.memory.now.bytes c.args.at 16
    c.requires.inside in
    omega (arith, l)
