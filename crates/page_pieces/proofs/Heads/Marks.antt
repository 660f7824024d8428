-- What stands at the front of a text where the mark of a head begins.
use Rattle.std.proofs.Common.{◌≡◌, ℕ, ◌&&◌, not, Bool, true, false, cond, Option, Some, None, List, drop, length, codes, refl, sym, ap, ◌∙◌}
use Rattle.std.proofs.lemmas.Bool.{false≢true}
use Rattle.page_pieces.specs.declared.setting.Setting.{Setting}
use Rattle.page_pieces.specs.declared.mark.Mark.{Mark}
use Rattle.page_pieces.specs.declared.mark.Mark.TheVariants as marks
use Rattle.page_pieces.specs.Texts.{begins, after}
use Rattle.page_pieces.specs.Marks.{TagName, tag_name_after, start_mark, end_mark, is_known, is_scripting, or_else, mark_at}
use Rattle.page_pieces.proofs.AtFront.TagNames.{TagBehind}

-- the rows of the table, by what begins at the place
abbrev rows : Bool → Bool → Bool → Bool → Bool → Bool → Bool → Bool → Option Mark → Option Mark
rows comment directive scripting escaped dollar hash expression deferred last =
    cond comment (Some marks.Comment)
    (cond directive (Some marks.Directive)
    (cond scripting (Some marks.Scripting)
    (cond escaped (Some marks.EscapedScripting)
    (cond dollar (Some marks.EscapedDollar)
    (cond hash (Some marks.EscapedHash)
    (cond expression (Some marks.Expression)
    (cond deferred (Some marks.Hash) last)))))))

-- the marks of elements
abbrev is_last : Mark → Bool
is_last marks.Start = true
is_last marks.End = true
is_last _ = false

clash : (one other : Mark) → is_last one ≡ false → is_last other ≡ true → Some one ≡ Some other → ⊥
clash one other first last is =
    let same : one ≡ other = cc in
    let tests : false ≡ true = sym first ∙ ap is_last same ∙ last in
    false≢true tests

-- the mark of an element is no other row
last_row : (mark : Mark) → is_last mark ≡ true → (comment directive scripting escaped dollar hash expression deferred : Bool) (last : Option Mark) → rows comment directive scripting escaped dollar hash expression deferred last ≡ Some mark → last ≡ Some mark
last_row mark is true b c d e f g h last row = absurd (clash marks.Comment mark refl is row)
last_row mark is false true c d e f g h last row = absurd (clash marks.Directive mark refl is row)
last_row mark is false false true d e f g h last row = absurd (clash marks.Scripting mark refl is row)
last_row mark is false false false true e f g h last row = absurd (clash marks.EscapedScripting mark refl is row)
last_row mark is false false false false true f g h last row = absurd (clash marks.EscapedDollar mark refl is row)
last_row mark is false false false false false true g h last row = absurd (clash marks.EscapedHash mark refl is row)
last_row mark is false false false false false false true h last row = absurd (clash marks.Expression mark refl is row)
last_row mark is false false false false false false false true last row = absurd (clash marks.Hash mark refl is row)
last_row mark is false false false false false false false false last row = row

-- the mark of a directive is its own row
directive_row : (comment directive scripting escaped dollar hash expression deferred : Bool) (last : Option Mark) → (last ≡ Some marks.Directive → ⊥) → rows comment directive scripting escaped dollar hash expression deferred last ≡ Some marks.Directive → directive ≡ true
directive_row a true c d e f g h last other row = refl
directive_row true false c d e f g h last other row = cc
directive_row false false true d e f g h last other row = cc
directive_row false false false true e f g h last other row = cc
directive_row false false false false true f g h last other row = cc
directive_row false false false false false true g h last other row = cc
directive_row false false false false false false true h last other row = cc
directive_row false false false false false false false true last other row = cc
directive_row false false false false false false false false last other row = absurd (other row)

-- what an element's start can begin with
start_mark_is : (setting : Setting) (o : Option TagName) (mark : Mark) → start_mark setting o ≡ Some mark → (is_last mark ≡ true → mark ≡ marks.Start) × (mark ≡ marks.Directive → ⊥)
start_mark_is setting None mark is = cc
start_mark_is setting (Some tag) mark is = go (is_scripting tag.prefix tag.name) (is_known setting tag.prefix) is
  where
    go : (scripting known : Bool) → cond scripting (Some marks.Scripting) (cond known (Some marks.Start) None) ≡ Some mark → (is_last mark ≡ true → mark ≡ marks.Start) × (mark ≡ marks.Directive → ⊥)
    go true known is =
        let same : marks.Scripting ≡ mark = cc in
        (λ last. absurd (false≢true (ap is_last same ∙ last)), λ directive. apart (same ∙ directive))
      where
        apart : marks.Scripting ≡ marks.Directive → ⊥
        apart is = cc
    go false true is =
        let same : marks.Start ≡ mark = cc in
        (λ last. sym same, λ directive. apart (same ∙ directive))
      where
        apart : marks.Start ≡ marks.Directive → ⊥
        apart is = cc
    go false false is = cc

end_mark_is : (setting : Setting) (o : Option TagName) (mark : Mark) → end_mark setting o ≡ Some mark → mark ≡ marks.End
end_mark_is setting None mark is = cc
end_mark_is setting (Some tag) mark is = go (is_known setting tag.prefix) is
  where
    go : (known : Bool) → cond known (Some marks.End) None ≡ Some mark → mark ≡ marks.End
    go true is = cc
    go false is = cc

-- an element's name behind a mark
tag_behind : (mark text : List ℕ) (tag : TagName) → tag_name_after (after mark text) ≡ Some tag → TagBehind mark text
tag_behind mark text tag is = go (begins mark text) refl is
  where
    go : (here : Bool) → begins mark text ≡ here → tag_name_after (cond here (Some (drop (length mark) text)) None) ≡ Some tag → TagBehind mark text
    go true here is = record { tag = tag; stands = here; named = is }
    go false here is = cc

pub directive_begins_so : (setting : Setting) (text : List ℕ) → mark_at setting text ≡ Some marks.Directive → begins (codes "<%@") text ≡ true
unfolding mark_at
directive_begins_so setting text is =
    directive_row (begins (codes "<%--") text) (begins (codes "<%@") text) (begins (codes "<%") text) (begins (codes "<\\%") text) (setting.el && begins (codes "\\$") text) (setting.el && begins (codes "\\#") text) (setting.el && begins (codes "${") text) (setting.el && (not setting.hash_is_text && begins (codes "#{") text))
    (or_else start end) (other start end refl refl) is
  where
    start : Option Mark
    start = start_mark setting (tag_name_after (after (codes "<") text))

    end : Option Mark
    end = end_mark setting (tag_name_after (after (codes "</") text))

    other : (s e : Option Mark) → start_mark setting (tag_name_after (after (codes "<") text)) ≡ s → end_mark setting (tag_name_after (after (codes "</") text)) ≡ e → or_else s e ≡ Some marks.Directive → ⊥
    other (Some mark) e s_is e_is is = (start_mark_is setting (tag_name_after (after (codes "<") text)) mark s_is).1 cc
    other None (Some mark) s_is e_is is = apart (sym (end_mark_is setting (tag_name_after (after (codes "</") text)) mark e_is) ∙ same)
      where
        same : mark ≡ marks.Directive
        same = cc

        apart : marks.End ≡ marks.Directive → ⊥
        apart is = cc
    other None None s_is e_is is = cc

-- the mark of an element comes from the last rows
last_of : (setting : Setting) (text : List ℕ) (mark : Mark) → is_last mark ≡ true → mark_at setting text ≡ Some mark
    → or_else (start_mark setting (tag_name_after (after (codes "<") text))) (end_mark setting (tag_name_after (after (codes "</") text))) ≡ Some mark
unfolding mark_at
last_of setting text mark last is =
    last_row mark last (begins (codes "<%--") text) (begins (codes "<%@") text) (begins (codes "<%") text) (begins (codes "<\\%") text) (setting.el && begins (codes "\\$") text) (setting.el && begins (codes "\\#") text) (setting.el && begins (codes "${") text) (setting.el && (not setting.hash_is_text && begins (codes "#{") text))
    (or_else (start_mark setting (tag_name_after (after (codes "<") text))) (end_mark setting (tag_name_after (after (codes "</") text)))) is

start_named : (setting : Setting) (o : Option TagName) (end : Option Mark) → (end ≡ Some marks.Start → ⊥) → or_else (start_mark setting o) end ≡ Some marks.Start → (tag : TagName) × (o ≡ Some tag)
start_named setting None end other is = absurd (other is)
start_named setting (Some tag) end other is = (tag, refl)

end_named : (setting : Setting) (start : Option Mark) (o : Option TagName) → (start ≡ Some marks.End → ⊥) → or_else start (end_mark setting o) ≡ Some marks.End → (tag : TagName) × (o ≡ Some tag)
end_named setting (Some mark) o other is = absurd (other is)
end_named setting None None other is = cc
end_named setting None (Some tag) other is = (tag, refl)

pub start_begins_so : (setting : Setting) (text : List ℕ) → mark_at setting text ≡ Some marks.Start → TagBehind (codes "<") text
start_begins_so setting text is =
    let named = start_named setting (tag_name_after (after (codes "<") text)) (end_mark setting (tag_name_after (after (codes "</") text))) other (last_of setting text marks.Start refl is) in
    tag_behind (codes "<") text named.0 named.1
  where
    other : end_mark setting (tag_name_after (after (codes "</") text)) ≡ Some marks.Start → ⊥
    other is = apart (end_mark_is setting (tag_name_after (after (codes "</") text)) marks.Start is)
      where
        apart : marks.Start ≡ marks.End → ⊥
        apart is = cc

pub end_begins_so : (setting : Setting) (text : List ℕ) → mark_at setting text ≡ Some marks.End → TagBehind (codes "</") text
end_begins_so setting text is =
    let named = end_named setting (start_mark setting (tag_name_after (after (codes "<") text))) (tag_name_after (after (codes "</") text)) other (last_of setting text marks.End refl is) in
    tag_behind (codes "</") text named.0 named.1
  where
    other : start_mark setting (tag_name_after (after (codes "<") text)) ≡ Some marks.End → ⊥
    other is = apart ((start_mark_is setting (tag_name_after (after (codes "<") text)) marks.End is).0 refl)
      where
        apart : marks.End ≡ marks.Start → ⊥
        apart is = cc
