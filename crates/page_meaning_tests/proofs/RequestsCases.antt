-- Each case is as its definition computes it.
use Rattle.std.proofs.Common.{refl}
use Rattle.el_coercion.specs.Text.{null_text, true_text, false_text, separator}
use Rattle.form_urlencoded.specs.Form.{raw_pairs, split, byte_serialize}
use Rattle.http_in.specs.Params.{params_in}
use Rattle.http_in.specs.Request.{request_of}
use Rattle.http_in.specs.Target.{path_of}
use Rattle.httparse.specs.Grammar.{trim_ows}
use Rattle.out_buffer.specs.Writer.{put_limit}
use Rattle.page_meaning.specs.Respond.{level_limit}
use Rattle.page_meaning.specs.Work.{visit_limit, charge_limit}
use Rattle.percent_encoding.specs.Percent.{percent_encode_byte, percent_decode}
use Rattle.pg_text.specs.Escape.{escape_of}
use Rattle.pg_text.specs.Path.{segments}
use Rattle.std.specs.Fmt.{digits}
use Rattle.std.specs.Int.{int_wrap}
use Rattle.std.specs.Str.{is_utf8, chars}
use Rattle.std.specs.Str.Lossy.{utf8_lossy, utf8_valid_len, utf8_error_len}
use lib.Utf8.{encode}
use Rattle.page_meaning_tests.specs.Requests.{ErrorPage, OneSession, LateSession, LateSessionAwaits, NoSessionCommitted, FaultInErrorPage, StaticErrorPage, AbsentErrorPage, ErrorPageForwards, Hidden, AbsentFile, StaticFile}

pub error_page : ErrorPage
unfolding put_limit visit_limit charge_limit level_limit escape_of null_text true_text false_text separator segments raw_pairs split byte_serialize int_wrap is_utf8 chars utf8_lossy digits encode percent_encode_byte percent_decode utf8_valid_len utf8_error_len trim_ows params_in path_of request_of
error_page = refl

pub one_session : OneSession
unfolding put_limit visit_limit charge_limit level_limit escape_of null_text true_text false_text separator segments raw_pairs split byte_serialize int_wrap is_utf8 chars utf8_lossy digits encode percent_encode_byte percent_decode utf8_valid_len utf8_error_len trim_ows params_in path_of request_of
one_session = refl

pub late_session : LateSession
unfolding put_limit visit_limit charge_limit level_limit escape_of null_text true_text false_text separator segments raw_pairs split byte_serialize int_wrap is_utf8 chars utf8_lossy digits encode percent_encode_byte percent_decode utf8_valid_len utf8_error_len trim_ows params_in path_of request_of
late_session = refl

pub late_session_awaits : LateSessionAwaits
unfolding put_limit visit_limit charge_limit level_limit escape_of null_text true_text false_text separator segments raw_pairs split byte_serialize int_wrap is_utf8 chars utf8_lossy digits encode percent_encode_byte percent_decode utf8_valid_len utf8_error_len trim_ows params_in path_of request_of
late_session_awaits = refl

pub no_session_committed : NoSessionCommitted
unfolding put_limit visit_limit charge_limit level_limit escape_of null_text true_text false_text separator segments raw_pairs split byte_serialize int_wrap is_utf8 chars utf8_lossy digits encode percent_encode_byte percent_decode utf8_valid_len utf8_error_len trim_ows params_in path_of request_of
no_session_committed = refl

pub fault_in_error_page : FaultInErrorPage
unfolding put_limit visit_limit charge_limit level_limit escape_of null_text true_text false_text separator segments raw_pairs split byte_serialize int_wrap is_utf8 chars utf8_lossy digits encode percent_encode_byte percent_decode utf8_valid_len utf8_error_len trim_ows params_in path_of request_of
fault_in_error_page = refl

pub static_error_page : StaticErrorPage
unfolding put_limit visit_limit charge_limit level_limit escape_of null_text true_text false_text separator segments raw_pairs split byte_serialize int_wrap is_utf8 chars utf8_lossy digits encode percent_encode_byte percent_decode utf8_valid_len utf8_error_len trim_ows params_in path_of request_of
static_error_page = refl

pub absent_error_page : AbsentErrorPage
unfolding put_limit visit_limit charge_limit level_limit escape_of null_text true_text false_text separator segments raw_pairs split byte_serialize int_wrap is_utf8 chars utf8_lossy digits encode percent_encode_byte percent_decode utf8_valid_len utf8_error_len trim_ows params_in path_of request_of
absent_error_page = refl

pub error_page_forwards : ErrorPageForwards
unfolding put_limit visit_limit charge_limit level_limit escape_of null_text true_text false_text separator segments raw_pairs split byte_serialize int_wrap is_utf8 chars utf8_lossy digits encode percent_encode_byte percent_decode utf8_valid_len utf8_error_len trim_ows params_in path_of request_of
error_page_forwards = refl

pub hidden : Hidden
unfolding put_limit visit_limit charge_limit level_limit escape_of null_text true_text false_text separator segments raw_pairs split byte_serialize int_wrap is_utf8 chars utf8_lossy digits encode percent_encode_byte percent_decode utf8_valid_len utf8_error_len trim_ows params_in path_of request_of
hidden = refl

pub absent_file : AbsentFile
unfolding put_limit visit_limit charge_limit level_limit escape_of null_text true_text false_text separator segments raw_pairs split byte_serialize int_wrap is_utf8 chars utf8_lossy digits encode percent_encode_byte percent_decode utf8_valid_len utf8_error_len trim_ows params_in path_of request_of
absent_file = refl

pub static_file : StaticFile
unfolding put_limit visit_limit charge_limit level_limit escape_of null_text true_text false_text separator segments raw_pairs split byte_serialize int_wrap is_utf8 chars utf8_lossy digits encode percent_encode_byte percent_decode utf8_valid_len utf8_error_len trim_ows params_in path_of request_of
static_file = refl
