-- Each case is as its definition computes it.
use Rattle.std.proofs.Common.{refl}
use Rattle.el_coercion.specs.Text.{null_text, true_text, false_text, separator}
use Rattle.form_urlencoded.specs.Form.{raw_pairs, split, byte_serialize}
use Rattle.http_in.specs.Params.{params_in}
use Rattle.http_in.specs.Request.{request_of}
use Rattle.http_in.specs.Target.{path_of}
use Rattle.httparse.specs.Grammar.{trim_ows}
use Rattle.out_buffer.specs.Writer.{put_limit}
use Rattle.page_meaning.specs.Respond.{level_limit}
use Rattle.page_meaning.specs.Work.{visit_limit, charge_limit}
use Rattle.percent_encoding.specs.Percent.{percent_encode_byte, percent_decode}
use Rattle.pg_text.specs.Escape.{escape_of}
use Rattle.pg_text.specs.Path.{segments}
use Rattle.std.specs.Fmt.{digits}
use Rattle.std.specs.Int.{int_wrap}
use Rattle.std.specs.Str.{is_utf8, chars}
use Rattle.std.specs.Str.Lossy.{utf8_lossy, utf8_valid_len, utf8_error_len}
use lib.Utf8.{encode}
use Rattle.page_meaning_tests.specs.Bodies.{BodyInCallersFrame, Fragments, DependentBody, NoBody, FaultInBody, CaughtInside, NestedBodies}

pub body_in_callers_frame : BodyInCallersFrame
unfolding put_limit visit_limit charge_limit level_limit escape_of null_text true_text false_text separator segments raw_pairs split byte_serialize int_wrap is_utf8 chars utf8_lossy digits encode percent_encode_byte percent_decode utf8_valid_len utf8_error_len trim_ows params_in path_of request_of
body_in_callers_frame = refl

pub fragments : Fragments
unfolding put_limit visit_limit charge_limit level_limit escape_of null_text true_text false_text separator segments raw_pairs split byte_serialize int_wrap is_utf8 chars utf8_lossy digits encode percent_encode_byte percent_decode utf8_valid_len utf8_error_len trim_ows params_in path_of request_of
fragments = refl

pub dependent_body : DependentBody
unfolding put_limit visit_limit charge_limit level_limit escape_of null_text true_text false_text separator segments raw_pairs split byte_serialize int_wrap is_utf8 chars utf8_lossy digits encode percent_encode_byte percent_decode utf8_valid_len utf8_error_len trim_ows params_in path_of request_of
dependent_body = refl

pub no_body : NoBody
unfolding put_limit visit_limit charge_limit level_limit escape_of null_text true_text false_text separator segments raw_pairs split byte_serialize int_wrap is_utf8 chars utf8_lossy digits encode percent_encode_byte percent_decode utf8_valid_len utf8_error_len trim_ows params_in path_of request_of
no_body = refl

pub fault_in_body : FaultInBody
unfolding put_limit visit_limit charge_limit level_limit escape_of null_text true_text false_text separator segments raw_pairs split byte_serialize int_wrap is_utf8 chars utf8_lossy digits encode percent_encode_byte percent_decode utf8_valid_len utf8_error_len trim_ows params_in path_of request_of
fault_in_body = refl

pub caught_inside : CaughtInside
unfolding put_limit visit_limit charge_limit level_limit escape_of null_text true_text false_text separator segments raw_pairs split byte_serialize int_wrap is_utf8 chars utf8_lossy digits encode percent_encode_byte percent_decode utf8_valid_len utf8_error_len trim_ows params_in path_of request_of
caught_inside = refl

pub nested_bodies : NestedBodies
unfolding put_limit visit_limit charge_limit level_limit escape_of null_text true_text false_text separator segments raw_pairs split byte_serialize int_wrap is_utf8 chars utf8_lossy digits encode percent_encode_byte percent_decode utf8_valid_len utf8_error_len trim_ows params_in path_of request_of
nested_bodies = refl
