-- Each case is as its definition computes it.
use Rattle.std.proofs.Common.{refl}
use Rattle.el_coercion.specs.Text.{null_text, true_text, false_text, separator}
use Rattle.form_urlencoded.specs.Form.{raw_pairs, split, byte_serialize}
use Rattle.http_in.specs.Params.{params_in}
use Rattle.http_in.specs.Request.{request_of}
use Rattle.http_in.specs.Target.{path_of}
use Rattle.httparse.specs.Grammar.{trim_ows}
use Rattle.out_buffer.specs.Writer.{put_limit}
use Rattle.page_meaning.specs.Respond.{level_limit}
use Rattle.page_meaning.specs.Work.{visit_limit, charge_limit}
use Rattle.percent_encoding.specs.Percent.{percent_encode_byte, percent_decode}
use Rattle.pg_text.specs.Escape.{escape_of}
use Rattle.pg_text.specs.Path.{segments}
use Rattle.std.specs.Fmt.{digits}
use Rattle.std.specs.Int.{int_wrap}
use Rattle.std.specs.Str.{is_utf8, chars}
use Rattle.std.specs.Str.Lossy.{utf8_lossy, utf8_valid_len, utf8_error_len}
use lib.Utf8.{encode}
use Rattle.page_meaning_tests.specs.Buffers.{ExactlyFull, OneOver, Committed, Broken, FullByTwo, OverByTwo, Overflow, Unbuffered}

pub exactly_full : ExactlyFull
unfolding put_limit visit_limit charge_limit level_limit escape_of null_text true_text false_text separator segments raw_pairs split byte_serialize int_wrap is_utf8 chars utf8_lossy digits encode percent_encode_byte percent_decode utf8_valid_len utf8_error_len trim_ows params_in path_of request_of
exactly_full = refl

pub one_over : OneOver
unfolding put_limit visit_limit charge_limit level_limit escape_of null_text true_text false_text separator segments raw_pairs split byte_serialize int_wrap is_utf8 chars utf8_lossy digits encode percent_encode_byte percent_decode utf8_valid_len utf8_error_len trim_ows params_in path_of request_of
one_over = refl

pub committed : Committed
unfolding put_limit visit_limit charge_limit level_limit escape_of null_text true_text false_text separator segments raw_pairs split byte_serialize int_wrap is_utf8 chars utf8_lossy digits encode percent_encode_byte percent_decode utf8_valid_len utf8_error_len trim_ows params_in path_of request_of
committed = refl

pub broken : Broken
unfolding put_limit visit_limit charge_limit level_limit escape_of null_text true_text false_text separator segments raw_pairs split byte_serialize int_wrap is_utf8 chars utf8_lossy digits encode percent_encode_byte percent_decode utf8_valid_len utf8_error_len trim_ows params_in path_of request_of
broken = refl

pub full_by_two : FullByTwo
unfolding put_limit visit_limit charge_limit level_limit escape_of null_text true_text false_text separator segments raw_pairs split byte_serialize int_wrap is_utf8 chars utf8_lossy digits encode percent_encode_byte percent_decode utf8_valid_len utf8_error_len trim_ows params_in path_of request_of
full_by_two = refl

pub over_by_two : OverByTwo
unfolding put_limit visit_limit charge_limit level_limit escape_of null_text true_text false_text separator segments raw_pairs split byte_serialize int_wrap is_utf8 chars utf8_lossy digits encode percent_encode_byte percent_decode utf8_valid_len utf8_error_len trim_ows params_in path_of request_of
over_by_two = refl

pub overflow : Overflow
unfolding put_limit visit_limit charge_limit level_limit escape_of null_text true_text false_text separator segments raw_pairs split byte_serialize int_wrap is_utf8 chars utf8_lossy digits encode percent_encode_byte percent_decode utf8_valid_len utf8_error_len trim_ows params_in path_of request_of
overflow = refl

pub unbuffered : Unbuffered
unfolding put_limit visit_limit charge_limit level_limit escape_of null_text true_text false_text separator segments raw_pairs split byte_serialize int_wrap is_utf8 chars utf8_lossy digits encode percent_encode_byte percent_decode utf8_valid_len utf8_error_len trim_ows params_in path_of request_of
unbuffered = refl
