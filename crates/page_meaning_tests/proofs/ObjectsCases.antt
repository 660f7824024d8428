-- Each case is as its definition computes it.
use Rattle.std.proofs.Common.{refl}
use Rattle.el_coercion.specs.Text.{null_text, true_text, false_text, separator}
use Rattle.form_urlencoded.specs.Form.{raw_pairs, split, byte_serialize}
use Rattle.http_in.specs.Params.{params_in}
use Rattle.http_in.specs.Request.{request_of}
use Rattle.http_in.specs.Target.{path_of}
use Rattle.httparse.specs.Grammar.{trim_ows}
use Rattle.out_buffer.specs.Writer.{put_limit}
use Rattle.page_meaning.specs.Respond.{level_limit}
use Rattle.page_meaning.specs.Work.{visit_limit, charge_limit}
use Rattle.percent_encoding.specs.Percent.{percent_encode_byte, percent_decode}
use Rattle.pg_text.specs.Escape.{escape_of}
use Rattle.pg_text.specs.Path.{segments}
use Rattle.std.specs.Fmt.{digits}
use Rattle.std.specs.Int.{int_wrap}
use Rattle.std.specs.Str.{is_utf8, chars}
use Rattle.std.specs.Str.Lossy.{utf8_lossy, utf8_valid_len, utf8_error_len}
use lib.Utf8.{encode}
use Rattle.page_meaning_tests.specs.Objects.{SessionStarts, SessionAwaits, SessionGoesOn, ImplicitObjects, ScopeObjects, ApplicationObject, ApplicationEntries, ApplicationAwaits, NotFound, NoSession, SessionAttributes}

pub session_starts : SessionStarts
unfolding put_limit visit_limit charge_limit level_limit escape_of null_text true_text false_text separator segments raw_pairs split byte_serialize int_wrap is_utf8 chars utf8_lossy digits encode percent_encode_byte percent_decode utf8_valid_len utf8_error_len trim_ows params_in path_of request_of
session_starts = refl

pub session_awaits : SessionAwaits
unfolding put_limit visit_limit charge_limit level_limit escape_of null_text true_text false_text separator segments raw_pairs split byte_serialize int_wrap is_utf8 chars utf8_lossy digits encode percent_encode_byte percent_decode utf8_valid_len utf8_error_len trim_ows params_in path_of request_of
session_awaits = refl

pub session_goes_on : SessionGoesOn
unfolding put_limit visit_limit charge_limit level_limit escape_of null_text true_text false_text separator segments raw_pairs split byte_serialize int_wrap is_utf8 chars utf8_lossy digits encode percent_encode_byte percent_decode utf8_valid_len utf8_error_len trim_ows params_in path_of request_of
session_goes_on = refl

pub implicit_objects : ImplicitObjects
unfolding put_limit visit_limit charge_limit level_limit escape_of null_text true_text false_text separator segments raw_pairs split byte_serialize int_wrap is_utf8 chars utf8_lossy digits encode percent_encode_byte percent_decode utf8_valid_len utf8_error_len trim_ows params_in path_of request_of
implicit_objects = refl

pub scope_objects : ScopeObjects
unfolding put_limit visit_limit charge_limit level_limit escape_of null_text true_text false_text separator segments raw_pairs split byte_serialize int_wrap is_utf8 chars utf8_lossy digits encode percent_encode_byte percent_decode utf8_valid_len utf8_error_len trim_ows params_in path_of request_of
scope_objects = refl

pub application_object : ApplicationObject
unfolding put_limit visit_limit charge_limit level_limit escape_of null_text true_text false_text separator segments raw_pairs split byte_serialize int_wrap is_utf8 chars utf8_lossy digits encode percent_encode_byte percent_decode utf8_valid_len utf8_error_len trim_ows params_in path_of request_of
application_object = refl

pub application_entries : ApplicationEntries
unfolding put_limit visit_limit charge_limit level_limit escape_of null_text true_text false_text separator segments raw_pairs split byte_serialize int_wrap is_utf8 chars utf8_lossy digits encode percent_encode_byte percent_decode utf8_valid_len utf8_error_len trim_ows params_in path_of request_of
application_entries = refl

pub application_awaits : ApplicationAwaits
unfolding put_limit visit_limit charge_limit level_limit escape_of null_text true_text false_text separator segments raw_pairs split byte_serialize int_wrap is_utf8 chars utf8_lossy digits encode percent_encode_byte percent_decode utf8_valid_len utf8_error_len trim_ows params_in path_of request_of
application_awaits = refl

pub not_found : NotFound
unfolding put_limit visit_limit charge_limit level_limit escape_of null_text true_text false_text separator segments raw_pairs split byte_serialize int_wrap is_utf8 chars utf8_lossy digits encode percent_encode_byte percent_decode utf8_valid_len utf8_error_len trim_ows params_in path_of request_of
not_found = refl

pub no_session : NoSession
unfolding put_limit visit_limit charge_limit level_limit escape_of null_text true_text false_text separator segments raw_pairs split byte_serialize int_wrap is_utf8 chars utf8_lossy digits encode percent_encode_byte percent_decode utf8_valid_len utf8_error_len trim_ows params_in path_of request_of
no_session = refl

pub session_attributes : SessionAttributes
unfolding put_limit visit_limit charge_limit level_limit escape_of null_text true_text false_text separator segments raw_pairs split byte_serialize int_wrap is_utf8 chars utf8_lossy digits encode percent_encode_byte percent_decode utf8_valid_len utf8_error_len trim_ows params_in path_of request_of
session_attributes = refl
