-- The names that most proofs cite, passed on from one place. Declares nothing.
pub use Rattle.std.proofs.lemmas.Bool.Decides.{nat_tests}
pub use Rattle.std.proofs.lemmas.Grind.{flat_map-append}
pub use Rattle.std.proofs.lemmas.List.{take-append-drop, take_at, drop-drop, drop_at}
pub use Rattle.std.proofs.lemmas.Slice.Eq.{bytes_eq-Decides}
pub use Rattle.std.specs.List.{flat_map, list_all}
pub use Rattle.std.specs.Prelude.{not, if◌then◌else◌, is_none, is_some}
pub use Rattle.std.specs.Simd.{first_chunks}
pub use Rattle.rpmb_frame.proofs.Joined.{frames_of-joined, length-joined}
pub use Rattle.rpmb_frame.proofs.Lengths.{length-zero_frame, length-with_result}
pub use Rattle.rpmb_frame.proofs.Lengths.{length-with_req_resp}
pub use Rattle.rpmb_frame.specs.Codes.{req_program_key, req_get_write_counter, req_data_write}
pub use Rattle.rpmb_frame.specs.Codes.{req_data_read, req_result_read, res_ok, res_addr_failure}
pub use Rattle.rpmb_frame.specs.Codes.{res_general_failure, res_no_auth_key}
pub use Rattle.rpmb_frame.specs.Codes.{res_write_counter_expired, res_write_failure}
unfoldable pub use Rattle.rpmb_frame.specs.Frame.{zero_frame, block_data_of, with_key_mac}
pub use Rattle.rpmb_frame.specs.Frame.{req_resp_of, first_of, last_of, block_count_of, address_of}
pub use Rattle.rpmb_frame.specs.Frame.{key_mac_of}
pub use Rattle.rpmb_frame.specs.Limits.{Limits}
unfoldable pub use Rattle.rpmb_frame.specs.Partition.{block_of, overwritten}
pub use Rattle.rpmb_frame.specs.Partition.{Partition, sequence, block_count, IsWhole}
unfoldable pub use Rattle.rpmb_frame.specs.Request.{command_of}
pub use Rattle.rpmb_frame.specs.Request.{Request, Command, ProgramKey, GetWriteCounter, DataWrite}
pub use Rattle.rpmb_frame.specs.Request.{DataRead, ResultRead, Malformed, frames_of}
pub use Rattle.rpmb_frame.specs.Seen.{command_seen}
pub use Rattle.rpmb_frame.specs.Table.{first_row}
unfoldable pub use Rattle.hmac256.specs.Hmac.{mac}
unfoldable pub use Rattle.rpmb_core.specs.Accept.{is_accepted, partition_after, data_of}
pub use Rattle.rpmb_core.specs.Accept.{changed, is_change}
unfoldable pub use Rattle.rpmb_core.specs.MacCheck.{Says}
unfoldable pub use Rattle.rpmb_core.specs.Reply.{sealed, reply, blocks_from, read_frames, frame_of}
pub use Rattle.rpmb_core.specs.Reply.{joined, GivesBlocks, is_answered, reply_length, response_to}
pub use Rattle.rpmb_core.specs.Reply.{read_response}
unfoldable pub use Rattle.rpmb_core.specs.Verdict.{verdict}
pub use Rattle.rpmb_core.specs.Verdict.{verdict_on, data_write_verdict, data_read_verdict}
pub use Rattle.rpmb_core.specs.Verdict.{same_header}
