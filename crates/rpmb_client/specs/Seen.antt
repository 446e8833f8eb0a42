-- What the code's answers say.
use Rattle.std.specs.Prelude.{Option, Some, None}
use Rattle.rpmb_client.specs.Answer as spec
use Rattle.rpmb_client.specs.declared.answer.Used as used
use Rattle.rpmb_client.specs.declared.answer.ReadAnswer as rust
use Rattle.rpmb_client.specs.declared.choosing.Choice as choice

abbrev pub used_seen : used.Used → spec.Used
used_seen u = record { guest = u.guest; reply = u.reply.items }

abbrev pub read_seen : rust.ReadAnswer → spec.Read
read_seen (rust.TheVariants.Blocks bytes) = spec.blocks bytes.items
read_seen rust.TheVariants.NoFrames = spec.no_frames
read_seen rust.TheVariants.WrongMac = spec.wrong_mac
read_seen rust.TheVariants.WrongNonce = spec.wrong_nonce
read_seen (rust.TheVariants.OtherResponse kind) = spec.other_response kind
read_seen (rust.TheVariants.Refused code) = spec.refused code

abbrev pub chosen : choice.Choice → Option spec.Used
chosen (choice.TheVariants.Answer used) = Some (used_seen used)
chosen (choice.TheVariants.Replies count asked) = None
