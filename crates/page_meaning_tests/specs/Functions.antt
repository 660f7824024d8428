-- Functions.
use Rattle.el_reader.specs.Tree as tree
use Rattle.page_meaning.specs.Context.{Paged}
use Rattle.page_meaning.specs.Page.{template, shown, catch}
use Rattle.page_meaning.specs.Respond.{respond}
use Rattle.site_words.specs.PageSteps.{fetch}
use Rattle.page_meaning_tests.specs.Pages.{column, in_order, paged_in, get, html, seen, written_by, alone}
use Rattle.pg_value.specs.Datum.{null, number, text}
use Rattle.pg_value.specs.declared.operators.BinOp.TheVariants as binary_op
use Rattle.pg_value.specs.declared.operators.UnOp.TheVariants as unary_op
use Rattle.std.specs.Prelude.{◌≡◌, ℕ, List, [], ◌∷◌, codes, Some, None, pos}

-- /a.jsp: ${fn:join(fn:split('a;;b', ';'), '-')}
abbrev pub split_and_join_pages : List (List ℕ × Paged)
split_and_join_pages =
    alone
    (shown
    (tree.call (codes "fn") (codes "join")
    (tree.more_trees
    (tree.call (codes "fn") (codes "split")
    (tree.more_trees (tree.literal (text (codes "a;;b"))) (tree.more_trees (tree.literal (text (codes ";"))) tree.no_trees)))
    (tree.more_trees (tree.literal (text (codes "-"))) tree.no_trees)))
    (column 130) ∷ [])

-- `split` skips empty tokens, `join` joins
abbrev pub SplitAndJoin : Type 0
SplitAndJoin =
    seen (respond (paged_in split_and_join_pages) (get (codes "/a.jsp")) None []) ≡ Some (html (codes "a-b"), fetch (codes "/a.jsp") ∷ [], 6, 172, None)

-- /a.jsp: ${fn:substring('abc', -1, 2)}
abbrev pub substring_pages : List (List ℕ × Paged)
substring_pages =
    alone
    (shown
    (tree.call (codes "fn") (codes "substring")
    (tree.more_trees (tree.literal (text (codes "abc")))
    (tree.more_trees (tree.unary unary_op.Neg (tree.literal (number (pos 1))))
    (tree.more_trees (tree.literal (number (pos 2))) tree.no_trees))))
    (column 130) ∷ [])

-- `substring` from below 0
abbrev pub Substring : Type 0
Substring =
    seen (respond (paged_in substring_pages) (get (codes "/a.jsp")) None []) ≡ Some (html (codes "ab"), fetch (codes "/a.jsp") ∷ [], 6, 172, None)

-- /a.jsp: ${fn:indexOf('abc', 'z')}
abbrev pub index_of_absent_pages : List (List ℕ × Paged)
index_of_absent_pages =
    alone
    (shown
    (tree.call (codes "fn") (codes "indexOf")
    (tree.more_trees (tree.literal (text (codes "abc"))) (tree.more_trees (tree.literal (text (codes "z"))) tree.no_trees)))
    (column 130) ∷ [])

-- `indexOf` of what is absent
abbrev pub IndexOfAbsent : Type 0
IndexOfAbsent =
    seen (respond (paged_in index_of_absent_pages) (get (codes "/a.jsp")) None []) ≡ Some (html (codes "-1"), fetch (codes "/a.jsp") ∷ [], 4, 172, None)

-- /a.jsp: ${fn:toUpperCase('ä1a')}
abbrev pub upper_case_pages : List (List ℕ × Paged)
upper_case_pages =
    alone
    (shown (tree.call (codes "fn") (codes "toUpperCase") (tree.more_trees (tree.literal (text (195 ∷ 164 ∷ 49 ∷ 97 ∷ []))) tree.no_trees))
    (column 130) ∷ [])

-- `toUpperCase` changes ASCII letters alone
abbrev pub UpperCase : Type 0
UpperCase =
    seen (respond (paged_in upper_case_pages) (get (codes "/a.jsp")) None []) ≡ Some (html (195 ∷ 164 ∷ 49 ∷ 65 ∷ []), fetch (codes "/a.jsp") ∷ [], 3, 172, None)

-- /a.jsp: ${fn:length(fn:split('', ';'))}
abbrev pub split_empty_pages : List (List ℕ × Paged)
split_empty_pages =
    alone
    (shown
    (tree.call (codes "fn") (codes "length")
    (tree.more_trees
    (tree.call (codes "fn") (codes "split")
    (tree.more_trees (tree.literal (text [])) (tree.more_trees (tree.literal (text (codes ";"))) tree.no_trees)))
    tree.no_trees))
    (column 130) ∷ [])

-- `split` of an empty text
abbrev pub SplitEmpty : Type 0
SplitEmpty =
    seen (respond (paged_in split_empty_pages) (get (codes "/a.jsp")) None []) ≡ Some (html (codes "1"), fetch (codes "/a.jsp") ∷ [], 5, 172, None)

-- /a.jsp: ${fn:contains('abc', 'bc')}|${fn:containsIgnoreCase('abc', 'BC')}|${fn:endsWith('abc', 'bc')}|${fn:startsWith('abc',
--     'bc')}|${fn:escapeXml('<&>')}|${fn:indexOf('abc', 'c')}|${fn:join(7, '-')}|${fn:length([1, null])}|${fn:replace('aaa', 'aa', 'b')}|${fn:split('a,b',
--     '')}|${fn:substring('abc', 2, 1)}|${fn:substringAfter('a-b-c', '-')}|${fn:substringBefore('a-b-c',
--     '-')}|${fn:toLowerCase('AbC')}|${fn:toUpperCase('aBc')}|${fn:trim(' a b ')}|
abbrev pub each_function_pages : List (List ℕ × Paged)
each_function_pages =
    alone
    (shown
    (tree.call (codes "fn") (codes "contains")
    (tree.more_trees (tree.literal (text (codes "abc"))) (tree.more_trees (tree.literal (text (codes "bc"))) tree.no_trees)))
    (column 130)
    ∷ template (codes "|") (column 157)
    ∷ shown
    (tree.call (codes "fn") (codes "containsIgnoreCase")
    (tree.more_trees (tree.literal (text (codes "abc"))) (tree.more_trees (tree.literal (text (codes "BC"))) tree.no_trees)))
    (column 158)
    ∷ template (codes "|") (column 195)
    ∷ shown
    (tree.call (codes "fn") (codes "endsWith")
    (tree.more_trees (tree.literal (text (codes "abc"))) (tree.more_trees (tree.literal (text (codes "bc"))) tree.no_trees)))
    (column 196)
    ∷ template (codes "|") (column 223)
    ∷ shown
    (tree.call (codes "fn") (codes "startsWith")
    (tree.more_trees (tree.literal (text (codes "abc"))) (tree.more_trees (tree.literal (text (codes "bc"))) tree.no_trees)))
    (column 224)
    ∷ template (codes "|") (column 253)
    ∷ shown (tree.call (codes "fn") (codes "escapeXml") (tree.more_trees (tree.literal (text (codes "<&>"))) tree.no_trees)) (column 254)
    ∷ template (codes "|") (column 276)
    ∷ shown
    (tree.call (codes "fn") (codes "indexOf")
    (tree.more_trees (tree.literal (text (codes "abc"))) (tree.more_trees (tree.literal (text (codes "c"))) tree.no_trees)))
    (column 277)
    ∷ template (codes "|") (column 302)
    ∷ shown
    (tree.call (codes "fn") (codes "join")
    (tree.more_trees (tree.literal (number (pos 7))) (tree.more_trees (tree.literal (text (codes "-"))) tree.no_trees)))
    (column 303)
    ∷ template (codes "|") (column 321)
    ∷ shown
    (tree.call (codes "fn") (codes "length")
    (tree.more_trees (tree.list (tree.more_trees (tree.literal (number (pos 1))) (tree.more_trees (tree.literal null) tree.no_trees)))
    tree.no_trees))
    (column 322)
    ∷ template (codes "|") (column 345)
    ∷ shown
    (tree.call (codes "fn") (codes "replace")
    (tree.more_trees (tree.literal (text (codes "aaa")))
    (tree.more_trees (tree.literal (text (codes "aa"))) (tree.more_trees (tree.literal (text (codes "b"))) tree.no_trees))))
    (column 346)
    ∷ template (codes "|") (column 377)
    ∷ shown
    (tree.call (codes "fn") (codes "split")
    (tree.more_trees (tree.literal (text (codes "a,b"))) (tree.more_trees (tree.literal (text [])) tree.no_trees)))
    (column 378)
    ∷ template (codes "|") (column 400)
    ∷ shown
    (tree.call (codes "fn") (codes "substring")
    (tree.more_trees (tree.literal (text (codes "abc")))
    (tree.more_trees (tree.literal (number (pos 2))) (tree.more_trees (tree.literal (number (pos 1))) tree.no_trees))))
    (column 401)
    ∷ template (codes "|") (column 429)
    ∷ shown
    (tree.call (codes "fn") (codes "substringAfter")
    (tree.more_trees (tree.literal (text (codes "a-b-c"))) (tree.more_trees (tree.literal (text (codes "-"))) tree.no_trees)))
    (column 430)
    ∷ template (codes "|") (column 464)
    ∷ shown
    (tree.call (codes "fn") (codes "substringBefore")
    (tree.more_trees (tree.literal (text (codes "a-b-c"))) (tree.more_trees (tree.literal (text (codes "-"))) tree.no_trees)))
    (column 465)
    ∷ template (codes "|") (column 500)
    ∷ shown (tree.call (codes "fn") (codes "toLowerCase") (tree.more_trees (tree.literal (text (codes "AbC"))) tree.no_trees)) (column 501)
    ∷ template (codes "|") (column 525)
    ∷ shown (tree.call (codes "fn") (codes "toUpperCase") (tree.more_trees (tree.literal (text (codes "aBc"))) tree.no_trees)) (column 526)
    ∷ template (codes "|") (column 550)
    ∷ shown (tree.call (codes "fn") (codes "trim") (tree.more_trees (tree.literal (text (codes " a b "))) tree.no_trees)) (column 551)
    ∷ template (codes "|") (column 570) ∷ [])

-- each function once
abbrev pub EachFunction : Type 0
EachFunction =
    written_by (respond (paged_in each_function_pages) (get (codes "/a.jsp")) None [])
    ≡ Some (codes "true|true|true|false|&lt;&amp;&gt;|2|7|2|ba|[a,b]||b-c|a|abc|ABC|a b|")

-- /a.jsp: <c:catch var="e">${fn:contains(1 mod 0, 'a')}</c:catch>${e.message}|<c:catch var="e">${fn:containsIgnoreCase('a', 1 mod
--     0)}</c:catch>${e.message}|<c:catch var="e">${fn:endsWith(1 mod 0, 'a')}</c:catch>${e.message}|<c:catch var="e">${fn:startsWith(1 mod 0,
--     'a')}</c:catch>${e.message}|<c:catch var="e">${fn:escapeXml(1 mod 0)}</c:catch>${e.message}|<c:catch var="e">${fn:indexOf(1 mod 0,
--     'a')}</c:catch>${e.message}|<c:catch var="e">${fn:join(1 mod 0, 'a')}</c:catch>${e.message}|<c:catch var="e">${fn:length(1 mod
--     0)}</c:catch>${e.message}|<c:catch var="e">${fn:replace('a', 'a', 1 mod 0)}</c:catch>${e.message}|<c:catch var="e">${fn:split('a', 1 mod
--     0)}</c:catch>${e.message}|<c:catch var="e">${fn:substringAfter(1 mod 0, 'a')}</c:catch>${e.message}|<c:catch var="e">${fn:substringBefore(1 mod 0,
--     'a')}</c:catch>${e.message}|<c:catch var="e">${fn:toLowerCase(1 mod 0)}</c:catch>${e.message}|<c:catch var="e">${fn:toUpperCase(1 mod
--     0)}</c:catch>${e.message}|<c:catch var="e">${fn:trim(1 mod 0)}</c:catch>${e.message}|<c:catch var="e">${fn:substring('abc', 'x',
--     1)}</c:catch>${e.message}|
abbrev pub function_faults_pages : List (List ℕ × Paged)
function_faults_pages =
    alone
    (catch (Some (codes "e"))
    (in_order
    (shown
    (tree.call (codes "fn") (codes "contains")
    (tree.more_trees (tree.binary binary_op.Rem (tree.literal (number (pos 1))) (tree.literal (number (pos 0))))
    (tree.more_trees (tree.literal (text (codes "a"))) tree.no_trees)))
    (column 147) ∷ [])) (column 130)
    ∷ shown (tree.index (tree.name (codes "e")) (tree.literal (text (codes "message")))) (column 185)
    ∷ template (codes "|") (column 197)
    ∷ catch (Some (codes "e"))
    (in_order
    (shown
    (tree.call (codes "fn") (codes "containsIgnoreCase")
    (tree.more_trees (tree.literal (text (codes "a")))
    (tree.more_trees (tree.binary binary_op.Rem (tree.literal (number (pos 1))) (tree.literal (number (pos 0)))) tree.no_trees)))
    (column 215) ∷ [])) (column 198)
    ∷ shown (tree.index (tree.name (codes "e")) (tree.literal (text (codes "message")))) (column 263)
    ∷ template (codes "|") (column 275)
    ∷ catch (Some (codes "e"))
    (in_order
    (shown
    (tree.call (codes "fn") (codes "endsWith")
    (tree.more_trees (tree.binary binary_op.Rem (tree.literal (number (pos 1))) (tree.literal (number (pos 0))))
    (tree.more_trees (tree.literal (text (codes "a"))) tree.no_trees)))
    (column 293) ∷ [])) (column 276)
    ∷ shown (tree.index (tree.name (codes "e")) (tree.literal (text (codes "message")))) (column 331)
    ∷ template (codes "|") (column 343)
    ∷ catch (Some (codes "e"))
    (in_order
    (shown
    (tree.call (codes "fn") (codes "startsWith")
    (tree.more_trees (tree.binary binary_op.Rem (tree.literal (number (pos 1))) (tree.literal (number (pos 0))))
    (tree.more_trees (tree.literal (text (codes "a"))) tree.no_trees)))
    (column 361) ∷ [])) (column 344)
    ∷ shown (tree.index (tree.name (codes "e")) (tree.literal (text (codes "message")))) (column 401)
    ∷ template (codes "|") (column 413)
    ∷ catch (Some (codes "e"))
    (in_order
    (shown
    (tree.call (codes "fn") (codes "escapeXml")
    (tree.more_trees (tree.binary binary_op.Rem (tree.literal (number (pos 1))) (tree.literal (number (pos 0)))) tree.no_trees))
    (column 431) ∷ [])) (column 414)
    ∷ shown (tree.index (tree.name (codes "e")) (tree.literal (text (codes "message")))) (column 465)
    ∷ template (codes "|") (column 477)
    ∷ catch (Some (codes "e"))
    (in_order
    (shown
    (tree.call (codes "fn") (codes "indexOf")
    (tree.more_trees (tree.binary binary_op.Rem (tree.literal (number (pos 1))) (tree.literal (number (pos 0))))
    (tree.more_trees (tree.literal (text (codes "a"))) tree.no_trees)))
    (column 495) ∷ [])) (column 478)
    ∷ shown (tree.index (tree.name (codes "e")) (tree.literal (text (codes "message")))) (column 532)
    ∷ template (codes "|") (column 544)
    ∷ catch (Some (codes "e"))
    (in_order
    (shown
    (tree.call (codes "fn") (codes "join")
    (tree.more_trees (tree.binary binary_op.Rem (tree.literal (number (pos 1))) (tree.literal (number (pos 0))))
    (tree.more_trees (tree.literal (text (codes "a"))) tree.no_trees)))
    (column 562) ∷ [])) (column 545)
    ∷ shown (tree.index (tree.name (codes "e")) (tree.literal (text (codes "message")))) (column 596)
    ∷ template (codes "|") (column 608)
    ∷ catch (Some (codes "e"))
    (in_order
    (shown
    (tree.call (codes "fn") (codes "length")
    (tree.more_trees (tree.binary binary_op.Rem (tree.literal (number (pos 1))) (tree.literal (number (pos 0)))) tree.no_trees))
    (column 626) ∷ [])) (column 609)
    ∷ shown (tree.index (tree.name (codes "e")) (tree.literal (text (codes "message")))) (column 657)
    ∷ template (codes "|") (column 669)
    ∷ catch (Some (codes "e"))
    (in_order
    (shown
    (tree.call (codes "fn") (codes "replace")
    (tree.more_trees (tree.literal (text (codes "a")))
    (tree.more_trees (tree.literal (text (codes "a")))
    (tree.more_trees (tree.binary binary_op.Rem (tree.literal (number (pos 1))) (tree.literal (number (pos 0)))) tree.no_trees))))
    (column 687) ∷ [])) (column 670)
    ∷ shown (tree.index (tree.name (codes "e")) (tree.literal (text (codes "message")))) (column 729)
    ∷ template (codes "|") (column 741)
    ∷ catch (Some (codes "e"))
    (in_order
    (shown
    (tree.call (codes "fn") (codes "split")
    (tree.more_trees (tree.literal (text (codes "a")))
    (tree.more_trees (tree.binary binary_op.Rem (tree.literal (number (pos 1))) (tree.literal (number (pos 0)))) tree.no_trees)))
    (column 759) ∷ [])) (column 742)
    ∷ shown (tree.index (tree.name (codes "e")) (tree.literal (text (codes "message")))) (column 794)
    ∷ template (codes "|") (column 806)
    ∷ catch (Some (codes "e"))
    (in_order
    (shown
    (tree.call (codes "fn") (codes "substringAfter")
    (tree.more_trees (tree.binary binary_op.Rem (tree.literal (number (pos 1))) (tree.literal (number (pos 0))))
    (tree.more_trees (tree.literal (text (codes "a"))) tree.no_trees)))
    (column 824) ∷ [])) (column 807)
    ∷ shown (tree.index (tree.name (codes "e")) (tree.literal (text (codes "message")))) (column 868)
    ∷ template (codes "|") (column 880)
    ∷ catch (Some (codes "e"))
    (in_order
    (shown
    (tree.call (codes "fn") (codes "substringBefore")
    (tree.more_trees (tree.binary binary_op.Rem (tree.literal (number (pos 1))) (tree.literal (number (pos 0))))
    (tree.more_trees (tree.literal (text (codes "a"))) tree.no_trees)))
    (column 898) ∷ [])) (column 881)
    ∷ shown (tree.index (tree.name (codes "e")) (tree.literal (text (codes "message")))) (column 943)
    ∷ template (codes "|") (column 955)
    ∷ catch (Some (codes "e"))
    (in_order
    (shown
    (tree.call (codes "fn") (codes "toLowerCase")
    (tree.more_trees (tree.binary binary_op.Rem (tree.literal (number (pos 1))) (tree.literal (number (pos 0)))) tree.no_trees))
    (column 973) ∷ [])) (column 956)
    ∷ shown (tree.index (tree.name (codes "e")) (tree.literal (text (codes "message")))) (column 1009)
    ∷ template (codes "|") (column 1021)
    ∷ catch (Some (codes "e"))
    (in_order
    (shown
    (tree.call (codes "fn") (codes "toUpperCase")
    (tree.more_trees (tree.binary binary_op.Rem (tree.literal (number (pos 1))) (tree.literal (number (pos 0)))) tree.no_trees))
    (column 1039) ∷ [])) (column 1022)
    ∷ shown (tree.index (tree.name (codes "e")) (tree.literal (text (codes "message")))) (column 1075)
    ∷ template (codes "|") (column 1087)
    ∷ catch (Some (codes "e"))
    (in_order
    (shown
    (tree.call (codes "fn") (codes "trim")
    (tree.more_trees (tree.binary binary_op.Rem (tree.literal (number (pos 1))) (tree.literal (number (pos 0)))) tree.no_trees))
    (column 1105) ∷ [])) (column 1088)
    ∷ shown (tree.index (tree.name (codes "e")) (tree.literal (text (codes "message")))) (column 1134)
    ∷ template (codes "|") (column 1146)
    ∷ catch (Some (codes "e"))
    (in_order
    (shown
    (tree.call (codes "fn") (codes "substring")
    (tree.more_trees (tree.literal (text (codes "abc")))
    (tree.more_trees (tree.literal (text (codes "x"))) (tree.more_trees (tree.literal (number (pos 1))) tree.no_trees))))
    (column 1164) ∷ [])) (column 1147)
    ∷ shown (tree.index (tree.name (codes "e")) (tree.literal (text (codes "message")))) (column 1204)
    ∷ template (codes "|") (column 1216) ∷ [])

-- a fault of an argument, X1 of a number among them, stands at the `$`
abbrev pub FunctionFaults : Type 0
FunctionFaults =
    written_by (respond (paged_in function_faults_pages) (get (codes "/a.jsp")) None [])
    ≡ Some (codes "X3 ZeroDivisor /a.jsp:1:147|X3 ZeroDivisor /a.jsp:1:215|X3 ZeroDivisor /a.jsp:1:293|X3 ZeroDivisor /a.jsp:1:361|X3 ZeroDivisor /a.jsp:1:431|X3 ZeroDivisor /a.jsp:1:495|X3 ZeroDivisor /a.jsp:1:562|X3 ZeroDivisor /a.jsp:1:626|X3 ZeroDivisor /a.jsp:1:687|X3 ZeroDivisor /a.jsp:1:759|X3 ZeroDivisor /a.jsp:1:824|X3 ZeroDivisor /a.jsp:1:898|X3 ZeroDivisor /a.jsp:1:973|X3 ZeroDivisor /a.jsp:1:1039|X3 ZeroDivisor /a.jsp:1:1105|X1 NotANumber /a.jsp:1:1164|")
