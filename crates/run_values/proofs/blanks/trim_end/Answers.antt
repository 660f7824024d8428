use Rattle.std.proofs.Common.{◌-◌, length, sym, ap, ◌∙◌, subst, take}
use Rattle.std.specs.List.{suffix_len}
use Rattle.std.specs.Str.{IsCharBoundary}
use Rattle.httparse.specs.Grammar.{is_ows}
use Rattle.run_values.proofs.CookieLemmas.{blank_end_cut, ended_is}
use Rattle.run_values.proofs.blanks.trim_end.Goals as goal

pub split_at-requires : goal.split_at-requires
split_at-requires c =
    subst (λ blanks. IsCharBoundary c.args.text.now (length c.args.text.now - blanks)) (sym (c.blanks_last.ensures.value ∙ ap (suffix_len is_ows) c.as_bytes.ensures.value)) (blank_end_cut c.args.text.now)

pub returns : goal.returns
returns c =
    c.split_at.ensures.front
    ∙ ap (λ blanks. take (length c.args.text.now - blanks) c.args.text.now) (c.blanks_last.ensures.value ∙ ap (suffix_len is_ows) c.as_bytes.ensures.value)
    ∙ ended_is c.args.text.now
