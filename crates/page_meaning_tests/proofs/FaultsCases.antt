-- Each case is as its definition computes it.
use Rattle.std.proofs.Common.{refl}
use Rattle.el_coercion.specs.Text.{null_text, true_text, false_text, separator}
use Rattle.form_urlencoded.specs.Form.{raw_pairs, split, byte_serialize}
use Rattle.http_in.specs.Params.{params_in}
use Rattle.http_in.specs.Request.{request_of}
use Rattle.http_in.specs.Target.{path_of}
use Rattle.httparse.specs.Grammar.{trim_ows}
use Rattle.out_buffer.specs.Writer.{put_limit}
use Rattle.page_meaning.specs.Respond.{level_limit}
use Rattle.page_meaning.specs.Work.{visit_limit, charge_limit}
use Rattle.percent_encoding.specs.Percent.{percent_encode_byte, percent_decode}
use Rattle.pg_text.specs.Escape.{escape_of}
use Rattle.pg_text.specs.Path.{segments}
use Rattle.std.specs.Fmt.{digits}
use Rattle.std.specs.Int.{int_wrap}
use Rattle.std.specs.Str.{is_utf8, chars}
use Rattle.std.specs.Str.Lossy.{utf8_lossy, utf8_valid_len, utf8_error_len}
use lib.Utf8.{encode}
use Rattle.page_meaning_tests.specs.Faults.{OutFaults, SetFaults, TestFaults, LoopFaults, AddressFaults, PageFaults, ActionFaults, ObjectFaults}

pub out_faults : OutFaults
unfolding put_limit visit_limit charge_limit level_limit escape_of null_text true_text false_text separator segments raw_pairs split byte_serialize int_wrap is_utf8 chars utf8_lossy digits encode percent_encode_byte percent_decode utf8_valid_len utf8_error_len trim_ows params_in path_of request_of
out_faults = refl

pub set_faults : SetFaults
unfolding put_limit visit_limit charge_limit level_limit escape_of null_text true_text false_text separator segments raw_pairs split byte_serialize int_wrap is_utf8 chars utf8_lossy digits encode percent_encode_byte percent_decode utf8_valid_len utf8_error_len trim_ows params_in path_of request_of
set_faults = refl

pub test_faults : TestFaults
unfolding put_limit visit_limit charge_limit level_limit escape_of null_text true_text false_text separator segments raw_pairs split byte_serialize int_wrap is_utf8 chars utf8_lossy digits encode percent_encode_byte percent_decode utf8_valid_len utf8_error_len trim_ows params_in path_of request_of
test_faults = refl

pub loop_faults : LoopFaults
unfolding put_limit visit_limit charge_limit level_limit escape_of null_text true_text false_text separator segments raw_pairs split byte_serialize int_wrap is_utf8 chars utf8_lossy digits encode percent_encode_byte percent_decode utf8_valid_len utf8_error_len trim_ows params_in path_of request_of
loop_faults = refl

pub address_faults : AddressFaults
unfolding put_limit visit_limit charge_limit level_limit escape_of null_text true_text false_text separator segments raw_pairs split byte_serialize int_wrap is_utf8 chars utf8_lossy digits encode percent_encode_byte percent_decode utf8_valid_len utf8_error_len trim_ows params_in path_of request_of
address_faults = refl

pub page_faults : PageFaults
unfolding put_limit visit_limit charge_limit level_limit escape_of null_text true_text false_text separator segments raw_pairs split byte_serialize int_wrap is_utf8 chars utf8_lossy digits encode percent_encode_byte percent_decode utf8_valid_len utf8_error_len trim_ows params_in path_of request_of
page_faults = refl

pub action_faults : ActionFaults
unfolding put_limit visit_limit charge_limit level_limit escape_of null_text true_text false_text separator segments raw_pairs split byte_serialize int_wrap is_utf8 chars utf8_lossy digits encode percent_encode_byte percent_decode utf8_valid_len utf8_error_len trim_ows params_in path_of request_of
action_faults = refl

pub object_faults : ObjectFaults
unfolding put_limit visit_limit charge_limit level_limit escape_of null_text true_text false_text separator segments raw_pairs split byte_serialize int_wrap is_utf8 chars utf8_lossy digits encode percent_encode_byte percent_decode utf8_valid_len utf8_error_len trim_ows params_in path_of request_of
object_faults = refl
