-- Operators and literals.
use Rattle.el_reader.specs.Tree as tree
use Rattle.http_out.specs.declared.status.Status.TheVariants as status_is
use Rattle.page_meaning.specs.Context.{Paged, bad}
use Rattle.page_meaning.specs.Page.{shown}
use Rattle.page_meaning.specs.Respond.{respond}
use Rattle.site_words.specs.PageSteps.{fetch}
use Rattle.page_meaning_tests.specs.Pages.{at, column, paged_in, get, html, line, seen, alone}
use Rattle.pg_text.specs.declared.translation_fault.TranslationFault.TheVariants as page_fault
use Rattle.pg_value.specs.Datum.{null, truth, number, text}
use Rattle.pg_value.specs.declared.operators.BinOp.TheVariants as binary_op
use Rattle.pg_value.specs.declared.operators.UnOp.TheVariants as unary_op
use Rattle.std.specs.Prelude.{◌≡◌, ℕ, List, [], ◌∷◌, codes, true, false, Some, None, pos}

-- /a.jsp: ${'a' += 1}
abbrev pub joined_texts_pages : List (List ℕ × Paged)
joined_texts_pages = alone (shown (tree.binary binary_op.Join (tree.literal (text (codes "a"))) (tree.literal (number (pos 1)))) (column 130) ∷ [])

-- `+=` joins the texts of its sides
abbrev pub JoinedTexts : Type 0
JoinedTexts =
    seen (respond (paged_in joined_texts_pages) (get (codes "/a.jsp")) None []) ≡ Some (html (codes "a1"), fetch (codes "/a.jsp") ∷ [], 4, 172, None)

-- /a.jsp: ${-7 mod 2}
abbrev pub remainder_sign_pages : List (List ℕ × Paged)
remainder_sign_pages =
    alone
    (shown (tree.binary binary_op.Rem (tree.unary unary_op.Neg (tree.literal (number (pos 7)))) (tree.literal (number (pos 2)))) (column 130) ∷ [])

-- a remainder has the sign of the left
abbrev pub RemainderSign : Type 0
RemainderSign =
    seen (respond (paged_in remainder_sign_pages) (get (codes "/a.jsp")) None []) ≡ Some (html (codes "-1"), fetch (codes "/a.jsp") ∷ [], 5, 172, None)

-- /a.jsp: ${1 == '1'}
abbrev pub number_and_text_pages : List (List ℕ × Paged)
number_and_text_pages = alone (shown (tree.binary binary_op.Eq (tree.literal (number (pos 1))) (tree.literal (text (codes "1")))) (column 130) ∷ [])

-- a number and a text are equal as numbers
abbrev pub NumberAndText : Type 0
NumberAndText =
    seen (respond (paged_in number_and_text_pages) (get (codes "/a.jsp")) None []) ≡ Some (html (codes "true"), fetch (codes "/a.jsp") ∷ [], 4, 172, None)

-- /a.jsp: ${empty ''}
abbrev pub empty_text_pages : List (List ℕ × Paged)
empty_text_pages = alone (shown (tree.unary unary_op.Empty (tree.literal (text []))) (column 130) ∷ [])

-- the empty text is empty
abbrev pub EmptyText : Type 0
EmptyText =
    seen (respond (paged_in empty_text_pages) (get (codes "/a.jsp")) None []) ≡ Some (html (codes "true"), fetch (codes "/a.jsp") ∷ [], 3, 172, None)

-- /a.jsp: ${'10' < 9}
abbrev pub order_as_numbers_pages : List (List ℕ × Paged)
order_as_numbers_pages = alone (shown (tree.binary binary_op.Lt (tree.literal (text (codes "10"))) (tree.literal (number (pos 9)))) (column 130) ∷ [])

-- where one side is a number, the order is that of numbers
abbrev pub OrderAsNumbers : Type 0
OrderAsNumbers =
    seen (respond (paged_in order_as_numbers_pages) (get (codes "/a.jsp")) None []) ≡ Some (html (codes "false"), fetch (codes "/a.jsp") ∷ [], 4, 172, None)

-- /a.jsp: ${'10' < '9'}
abbrev pub order_as_texts_pages : List (List ℕ × Paged)
order_as_texts_pages = alone (shown (tree.binary binary_op.Lt (tree.literal (text (codes "10"))) (tree.literal (text (codes "9")))) (column 130) ∷ [])

-- texts are ordered by their scalar values
abbrev pub OrderAsTexts : Type 0
OrderAsTexts =
    seen (respond (paged_in order_as_texts_pages) (get (codes "/a.jsp")) None []) ≡ Some (html (codes "true"), fetch (codes "/a.jsp") ∷ [], 4, 172, None)

-- /a.jsp: ${null <= 1}
abbrev pub order_of_null_pages : List (List ℕ × Paged)
order_of_null_pages = alone (shown (tree.binary binary_op.Le (tree.literal null) (tree.literal (number (pos 1)))) (column 130) ∷ [])

-- null stands in no order
abbrev pub OrderOfNull : Type 0
OrderOfNull =
    seen (respond (paged_in order_of_null_pages) (get (codes "/a.jsp")) None []) ≡ Some (html (codes "false"), fetch (codes "/a.jsp") ∷ [], 4, 172, None)

-- /a.jsp: ${9223372036854775807 + 1}
abbrev pub sum_wraps_pages : List (List ℕ × Paged)
sum_wraps_pages =
    alone (shown (tree.binary binary_op.Add (tree.literal (number (pos 9223372036854775807))) (tree.literal (number (pos 1)))) (column 130) ∷ [])

-- a sum wraps to 64 bits
abbrev pub SumWraps : Type 0
SumWraps =
    seen (respond (paged_in sum_wraps_pages) (get (codes "/a.jsp")) None []) ≡ Some (html (codes "-9223372036854775808"), fetch (codes "/a.jsp") ∷ [], 4, 172, None)

-- /a.jsp: ${param.x + 1}
abbrev pub no_number_pages : List (List ℕ × Paged)
no_number_pages =
    alone
    (shown (tree.binary binary_op.Add (tree.index (tree.name (codes "param")) (tree.literal (text (codes "x")))) (tree.literal (number (pos 1))))
    (column 130) ∷ [])

-- X1 of a text that is no number stands at the `$`
abbrev pub NoNumber : Type 0
NoNumber =
    seen (respond (paged_in no_number_pages) (get (codes "/a.jsp?x=q")) None [])
    ≡ Some (line status_is.InternalServerError (codes "X1 NotANumber /a.jsp:1:130"), fetch (codes "/a.jsp") ∷ [], 6, 172, None)

-- /a.jsp: ${param.x + 1}
abbrev pub decimal_text_pages : List (List ℕ × Paged)
decimal_text_pages =
    alone
    (shown (tree.binary binary_op.Add (tree.index (tree.name (codes "param")) (tree.literal (text (codes "x")))) (tree.literal (number (pos 1))))
    (column 130) ∷ [])

-- X4 of a decimal
abbrev pub DecimalText : Type 0
DecimalText =
    seen (respond (paged_in decimal_text_pages) (get (codes "/a.jsp?x=1.5")) None [])
    ≡ Some (line status_is.InternalServerError (codes "X4 Decimal /a.jsp:1:130"), fetch (codes "/a.jsp") ∷ [], 6, 172, None)

abbrev pub faulty_page_pages : List (List ℕ × Paged)
faulty_page_pages = (codes "/b.jsp", bad (record { fault = page_fault.Decimal; place = at (codes "/b.jsp") 1 29 })) ∷ []

-- nothing of a page with a fault runs; its line is answered
abbrev pub FaultyPage : Type 0
FaultyPage =
    seen (respond (paged_in faulty_page_pages) (get (codes "/b.jsp")) None [])
    ≡ Some (line status_is.InternalServerError (codes "E18 Decimal /b.jsp:1:29"), fetch (codes "/b.jsp") ∷ [], 0, 172, None)

-- /a.jsp: ${[1, 'x', null]}
abbrev pub list_text_pages : List (List ℕ × Paged)
list_text_pages =
    alone
    (shown
    (tree.list
    (tree.more_trees (tree.literal (number (pos 1)))
    (tree.more_trees (tree.literal (text (codes "x"))) (tree.more_trees (tree.literal null) tree.no_trees))))
    (column 130) ∷ [])

-- a list as a text
abbrev pub ListText : Type 0
ListText =
    seen (respond (paged_in list_text_pages) (get (codes "/a.jsp")) None []) ≡ Some (html (codes "[1, x, null]"), fetch (codes "/a.jsp") ∷ [], 5, 172, None)

-- /a.jsp: ${{'b': 2, 'a': 1}}
abbrev pub record_text_pages : List (List ℕ × Paged)
record_text_pages =
    alone
    (shown
    (tree.map
    (tree.more_pairs (tree.literal (text (codes "b"))) (tree.literal (number (pos 2)))
    (tree.more_pairs (tree.literal (text (codes "a"))) (tree.literal (number (pos 1))) tree.no_pairs)))
    (column 130) ∷ [])

-- a record as a text, its keys in order
abbrev pub RecordText : Type 0
RecordText =
    seen (respond (paged_in record_text_pages) (get (codes "/a.jsp")) None []) ≡ Some (html (codes "{a=1, b=2}"), fetch (codes "/a.jsp") ∷ [], 6, 172, None)

-- /a.jsp: ${false && 1 mod 0 == 1}${true || q}${null || false}${not null}${empty [] ? 'e' : q}
abbrev pub right_side_waits_pages : List (List ℕ × Paged)
right_side_waits_pages =
    alone
    (shown
    (tree.binary binary_op.And (tree.literal (truth false))
    (tree.binary binary_op.Eq (tree.binary binary_op.Rem (tree.literal (number (pos 1))) (tree.literal (number (pos 0))))
    (tree.literal (number (pos 1)))))
    (column 130)
    ∷ shown (tree.binary binary_op.Or (tree.literal (truth true)) (tree.name (codes "q"))) (column 156)
    ∷ shown (tree.binary binary_op.Or (tree.literal null) (tree.literal (truth false))) (column 168)
    ∷ shown (tree.unary unary_op.Not (tree.literal null)) (column 184)
    ∷ shown (tree.choice (tree.unary unary_op.Empty (tree.list tree.no_trees)) (tree.literal (text (codes "e"))) (tree.name (codes "q")))
    (column 195) ∷ [])

-- the right side of `&&` and `||` is evaluated only where it decides
abbrev pub RightSideWaits : Type 0
RightSideWaits =
    seen (respond (paged_in right_side_waits_pages) (get (codes "/a.jsp")) None [])
    ≡ Some (html (codes "falsetruefalsetruee"), fetch (codes "/a.jsp") ∷ [], 18, 172, None)
