-- The bytes with which a mark begins stand where the mark does.
use Rattle.std.proofs.Common.{◌≡◌, ℕ, Bool, true, false, not, cond, List, [], codes, refl, subst, Option, Some, None}
use Rattle.std.proofs.lemmas.Bool.{and_parts}
use Rattle.page_pieces.specs.declared.setting.Setting.{Setting}
use Rattle.page_pieces.specs.declared.mark.Mark.{Mark}
use Rattle.page_pieces.specs.declared.mark.Mark.TheVariants as marks
use Rattle.page_pieces.specs.Texts.{begins}
use Rattle.page_pieces.specs.Marks.{TagName, is_scripting, is_known, start_mark, end_mark, tag_name_after, or_else, mark_at}

-- the bytes with which each mark begins
abbrev pub mark_bytes : Mark → List ℕ
mark_bytes marks.Comment = codes "<%--"
mark_bytes marks.Directive = codes "<%@"
mark_bytes marks.Scripting = []
mark_bytes marks.EscapedScripting = codes "<\\%"
mark_bytes marks.EscapedDollar = codes "\\$"
mark_bytes marks.EscapedHash = codes "\\#"
mark_bytes marks.Expression = codes "${"
mark_bytes marks.Hash = codes "#{"
mark_bytes marks.Start = codes "<"
mark_bytes marks.End = codes "</"

abbrev pub Stands : List ℕ → Mark → Type 0
Stands text m = begins (mark_bytes m) text ≡ true

-- this row of the table, or one behind it
row : (text : List ℕ) (here : Bool) (m n : Mark) (other : Option Mark) → (here ≡ true → Stands text m) → (other ≡ Some n → Stands text n) → cond here (Some m) other ≡ Some n → Stands text n
row text true m n other now later is = let same : m ≡ n = cc in subst (Stands text) same (now refl)
row text false m n other now later is = later is

starts : (setting : Setting) (text : List ℕ) (n : Mark) (here : Bool) → begins (codes "<") text ≡ here → (rest : List ℕ) → start_mark setting (tag_name_after (cond here (Some rest) None)) ≡ Some n → Stands text n
starts setting text n false here rest is = cc
starts setting text n true here rest is = go (tag_name_after (Some rest)) is
  where
    known : (tag : TagName) (java registered : Bool) → cond java (Some marks.Scripting) (cond registered (Some marks.Start) None) ≡ Some n → Stands text n
    known tag java registered is = row text java marks.Scripting n _ (λ e. refl) (row text registered marks.Start n None (λ e. here) (λ e. cc)) is

    go : (tag : Option TagName) → start_mark setting tag ≡ Some n → Stands text n
    go None is = cc
    go (Some tag) is = known tag (is_scripting tag.prefix tag.name) (is_known setting tag.prefix) is

ends : (setting : Setting) (text : List ℕ) (n : Mark) (here : Bool) → begins (codes "</") text ≡ here → (rest : List ℕ) → end_mark setting (tag_name_after (cond here (Some rest) None)) ≡ Some n → Stands text n
ends setting text n false here rest is = cc
ends setting text n true here rest is = go (tag_name_after (Some rest)) is
  where
    go : (tag : Option TagName) → end_mark setting tag ≡ Some n → Stands text n
    go None is = cc
    go (Some tag) is = row text (is_known setting tag.prefix) marks.End n None (λ e. here) (λ e. cc) is

either : (text : List ℕ) (n : Mark) (start end : Option Mark) → (start ≡ Some n → Stands text n) → (end ≡ Some n → Stands text n) → or_else start end ≡ Some n → Stands text n
either text n None end now later is = later is
either text n (Some m) end now later is = now is

pub mark_stands : (setting : Setting) (text : List ℕ) (n : Mark) → mark_at setting text ≡ Some n → Stands text n
unfolding mark_at
mark_stands setting text n is =
    row text _ marks.Comment n _ (λ e. e)
    (row text _ marks.Directive n _ (λ e. e)
    (row text _ marks.Scripting n _ (λ e. refl)
    (row text _ marks.EscapedScripting n _ (λ e. e)
    (row text _ marks.EscapedDollar n _ (λ e. (and_parts setting.el _ e).1)
    (row text _ marks.EscapedHash n _ (λ e. (and_parts setting.el _ e).1)
    (row text _ marks.Expression n _ (λ e. (and_parts setting.el _ e).1)
    (row text _ marks.Hash n _ (λ e. (and_parts (not setting.hash_is_text) _ (and_parts setting.el _ e).1).1)
    (either text n _ _ (starts setting text n (begins (codes "<") text) refl _) (ends setting text n (begins (codes "</") text) refl _))))))))) is
