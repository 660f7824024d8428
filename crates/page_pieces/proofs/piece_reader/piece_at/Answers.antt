use Rattle.std.proofs.Common.{◌≡◌, sym, ap, ◌∙◌, subst, refl, Some, None, Result, Bor, List, ℕ, codes, take}
use Rattle.page_pieces.specs.declared.piece.Piece.{Piece}
use Rattle.page_pieces.specs.declared.piece.Break.{Break}
use Rattle.pg_text.specs.declared.failure.Failure.{Failure}
use Rattle.page_pieces.specs.declared.mark.Mark.TheVariants as marks
use Rattle.pg_text.specs.Failure.{AnswersAs}
use Rattle.page_pieces.specs.Pieces.{text_len}
use Rattle.page_pieces.specs.ReadPiece.{text_piece, piece_by}
use Rattle.page_pieces.proofs.AtFront.Rows.{mark_stands}
use Rattle.page_pieces.proofs.PieceLemmas.{is_text}
use Rattle.page_pieces.proofs.piece_reader.piece_at.Goals as goal

-- what was returned is what is read, where that is so much text
gives : (result : Result (Piece × Bor (List ℕ)) (Failure Break)) {read other : Result (Piece × List ℕ) Break} → read ≡ other → AnswersAs (λ x. (x.0, x.1.now)) read result → AnswersAs (λ x. (x.0, x.1.now)) other result
gives result same answers = subst (λ read. AnswersAs (λ x. (x.0, x.1.now)) read result) same answers

pub comment_at-requires : goal.comment_at-requires
comment_at-requires c = mark_stands c.args.setting.now c.args.text.now marks.Comment (sym c.mark_at.ensures ∙ c.in-Some-Comment.is ∙ ap Some c.in-Some-Comment.field-0-is)

pub directive_at-requires-clause-begins : goal.directive_at-requires-clause-begins
directive_at-requires-clause-begins c = mark_stands c.args.setting.now c.args.text.now marks.Directive (sym c.mark_at.ensures ∙ c.in-Some-Directive.is ∙ ap Some c.in-Some-Directive.field-0-is)

pub behind-requires : goal.behind-requires
behind-requires c = mark_stands c.args.setting.now c.args.text.now marks.EscapedScripting (sym c.mark_at.ensures ∙ c.in-Some-EscapedScripting.is ∙ ap Some c.in-Some-EscapedScripting.field-0-is)

pub behind-requires-in-Some-EscapedDollar : goal.behind-requires-in-Some-EscapedDollar
behind-requires-in-Some-EscapedDollar c = mark_stands c.args.setting.now c.args.text.now marks.EscapedDollar (sym c.mark_at.ensures ∙ c.in-Some-EscapedDollar.is ∙ ap Some c.in-Some-EscapedDollar.field-0-is)

pub behind-requires-in-Some-EscapedHash : goal.behind-requires-in-Some-EscapedHash
behind-requires-in-Some-EscapedHash c = mark_stands c.args.setting.now c.args.text.now marks.EscapedHash (sym c.mark_at.ensures ∙ c.in-Some-EscapedHash.is ∙ ap Some c.in-Some-EscapedHash.field-0-is)

pub expression_at-requires : goal.expression_at-requires
expression_at-requires c = mark_stands c.args.setting.now c.args.text.now marks.Expression (sym c.mark_at.ensures ∙ c.in-Some-Expression.is ∙ ap Some c.in-Some-Expression.field-0-is)

pub behind-requires-in-Some-Hash : goal.behind-requires-in-Some-Hash
behind-requires-in-Some-Hash c = mark_stands c.args.setting.now c.args.text.now marks.Hash (sym c.mark_at.ensures ∙ c.in-Some-Hash.is ∙ ap Some c.in-Some-Hash.field-0-is)

pub start_at-requires-clause-begins : goal.start_at-requires-clause-begins
start_at-requires-clause-begins c = mark_stands c.args.setting.now c.args.text.now marks.Start (sym c.mark_at.ensures ∙ c.in-Some-Start.is ∙ ap Some c.in-Some-Start.field-0-is)

pub end_at-requires : goal.end_at-requires
end_at-requires c = mark_stands c.args.setting.now c.args.text.now marks.End (sym c.mark_at.ensures ∙ c.in-Some-End.is ∙ ap Some c.in-Some-End.field-0-is)

pub returns-in-Some-EscapedScripting-clause-value : goal.returns-in-Some-EscapedScripting-clause-value
unfolding piece_by
returns-in-Some-EscapedScripting-clause-value c =
    gives _ (is_text c.args.setting.now c.args.file.now c.args.spot c.args.text.now (Some marks.EscapedScripting) (codes "<%") 3 c.behind.result.now (sym c.mark_at.ensures ∙ c.in-Some-EscapedScripting.is ∙ ap Some c.in-Some-EscapedScripting.field-0-is) refl c.behind.ensures.value)
    c.text_piece.ensures.value

pub returns-in-Some-EscapedDollar-clause-value : goal.returns-in-Some-EscapedDollar-clause-value
unfolding piece_by
returns-in-Some-EscapedDollar-clause-value c =
    gives _ (is_text c.args.setting.now c.args.file.now c.args.spot c.args.text.now (Some marks.EscapedDollar) (codes "$") 2 c.behind-in-Some-EscapedDollar.result.now (sym c.mark_at.ensures ∙ c.in-Some-EscapedDollar.is ∙ ap Some c.in-Some-EscapedDollar.field-0-is) refl c.behind-in-Some-EscapedDollar.ensures.value)
    c.text_piece-in-Some-EscapedDollar.ensures.value

pub returns-in-Some-EscapedHash-clause-value : goal.returns-in-Some-EscapedHash-clause-value
unfolding piece_by
returns-in-Some-EscapedHash-clause-value c =
    gives _ (is_text c.args.setting.now c.args.file.now c.args.spot c.args.text.now (Some marks.EscapedHash) (codes "#") 2 c.behind-in-Some-EscapedHash.result.now (sym c.mark_at.ensures ∙ c.in-Some-EscapedHash.is ∙ ap Some c.in-Some-EscapedHash.field-0-is) refl c.behind-in-Some-EscapedHash.ensures.value)
    c.text_piece-in-Some-EscapedHash.ensures.value

pub returns-in-None-clause-value : goal.returns-in-None-clause-value
unfolding piece_by
returns-in-None-clause-value c =
    let len = text_len c.args.setting.now c.args.text.now in
    gives _ (ap (λ means. text_piece means 0 c.text_at.result.1.now) c.text_at.ensures.front ∙ is_text c.args.setting.now c.args.file.now c.args.spot c.args.text.now None (take len c.args.text.now) len c.text_at.result.1.now (sym c.mark_at.ensures ∙ c.in-None.is) refl c.text_at.ensures.rest)
    c.text_piece-in-None.ensures.value
