-- Loops.
use Rattle.el_reader.specs.Tree as tree
use Rattle.page_meaning.specs.Context.{Paged}
use Rattle.page_meaning.specs.Page.{words, expression, template, shown, catch, each, each_token, no_attributes, written}
use Rattle.page_meaning.specs.Respond.{respond}
use Rattle.site_words.specs.PageSteps.{app, fetch}
use Rattle.page_meaning_tests.specs.Pages.{column, in_order, paged_in, get, tells, html, seen, alone}
use Rattle.pg_value.specs.Datum.{null, number, text}
use Rattle.pg_value.specs.declared.operators.BinOp.TheVariants as binary_op
use Rattle.pg_value.specs.declared.operators.UnOp.TheVariants as unary_op
use Rattle.site_words.specs.declared.words.AppStep.TheVariants as step
use Rattle.std.specs.Prelude.{◌≡◌, ℕ, List, [], ◌∷◌, codes, Some, None, pos}

-- /a.jsp: <c:forEach items="${[1, null, 3]}" var="x" varStatus="s">${s.index}:${x}:${s.count}:${s.first}:${s.last};</c:forEach>${x}${s}
abbrev pub each_list_pages : List (List ℕ × Paged)
each_list_pages =
    alone
    (each (Some (codes "x")) (Some (codes "s"))
    (written (codes "items")
    (expression
    (tree.list
    (tree.more_trees (tree.literal (number (pos 1)))
    (tree.more_trees (tree.literal null) (tree.more_trees (tree.literal (number (pos 3))) tree.no_trees)))) ∷ [])
    (column 148) no_attributes)
    (in_order
    (shown (tree.index (tree.name (codes "s")) (tree.literal (text (codes "index")))) (column 185)
    ∷ template (codes ":") (column 195)
    ∷ shown (tree.name (codes "x")) (column 196)
    ∷ template (codes ":") (column 200)
    ∷ shown (tree.index (tree.name (codes "s")) (tree.literal (text (codes "count")))) (column 201)
    ∷ template (codes ":") (column 211)
    ∷ shown (tree.index (tree.name (codes "s")) (tree.literal (text (codes "first")))) (column 212)
    ∷ template (codes ":") (column 222)
    ∷ shown (tree.index (tree.name (codes "s")) (tree.literal (text (codes "last")))) (column 223)
    ∷ template (codes ";") (column 232) ∷ [])) (column 130)
    ∷ shown (tree.name (codes "x")) (column 245)
    ∷ shown (tree.name (codes "s")) (column 249) ∷ [])

-- a loop over a list with its status; both variables are removed behind it
abbrev pub EachList : Type 0
EachList =
    seen (respond (paged_in each_list_pages) (get (codes "/a.jsp")) None (tells null ∷ tells null ∷ []))
    ≡ Some (
      html (codes "0:1:1:true:false;1::2:false:false;2:3:3:false:true;"),
      fetch (codes "/a.jsp") ∷ app (step.Get (codes "x")) ∷ app (step.Get (codes "s")) ∷ [],
      81,
      350,
      None,
    )

-- /a.jsp: <c:forEach items="${{'b': 2, 'a': 1}}" var="e">${e.key}=${e.value};</c:forEach>
abbrev pub each_record_pages : List (List ℕ × Paged)
each_record_pages =
    alone
    (each (Some (codes "e")) None
    (written (codes "items")
    (expression
    (tree.map
    (tree.more_pairs (tree.literal (text (codes "b"))) (tree.literal (number (pos 2)))
    (tree.more_pairs (tree.literal (text (codes "a"))) (tree.literal (number (pos 1))) tree.no_pairs))) ∷ []) (column 148)
    no_attributes)
    (in_order
    (shown (tree.index (tree.name (codes "e")) (tree.literal (text (codes "key")))) (column 174)
    ∷ template (codes "=") (column 182)
    ∷ shown (tree.index (tree.name (codes "e")) (tree.literal (text (codes "value")))) (column 183)
    ∷ template (codes ";") (column 193) ∷ [])) (column 130) ∷ [])

-- a loop over a record, whose items are its entries
abbrev pub EachRecord : Type 0
EachRecord =
    seen (respond (paged_in each_record_pages) (get (codes "/a.jsp")) None []) ≡ Some (html (codes "a=1;b=2;"), fetch (codes "/a.jsp") ∷ [], 28, 172, None)

-- /a.jsp: <c:forEach begin="1" end="7" step="3" var="i" varStatus="s">${i}${s.last}${s.step}${s.begin}${s.end},</c:forEach><c:forEach items="a,b,,c" begin="1"
--     var="t" varStatus="s">${t}${s.end}</c:forEach>
abbrev pub each_numbers_pages : List (List ℕ × Paged)
each_numbers_pages =
    alone
    (each (Some (codes "i")) (Some (codes "s"))
    (written (codes "begin") (words (codes "1") ∷ []) (column 148)
    (written (codes "end") (words (codes "7") ∷ []) (column 156) (written (codes "step") (words (codes "3") ∷ []) (column 165) no_attributes)))
    (in_order
    (shown (tree.name (codes "i")) (column 190)
    ∷ shown (tree.index (tree.name (codes "s")) (tree.literal (text (codes "last")))) (column 194)
    ∷ shown (tree.index (tree.name (codes "s")) (tree.literal (text (codes "step")))) (column 203)
    ∷ shown (tree.index (tree.name (codes "s")) (tree.literal (text (codes "begin")))) (column 212)
    ∷ shown (tree.index (tree.name (codes "s")) (tree.literal (text (codes "end")))) (column 222)
    ∷ template (codes ",") (column 230) ∷ [])) (column 130)
    ∷ each (Some (codes "t")) (Some (codes "s"))
    (written (codes "items") (words (codes "a,b,,c") ∷ []) (column 261)
    (written (codes "begin") (words (codes "1") ∷ []) (column 284) no_attributes))
    (in_order
    (shown (tree.name (codes "t")) (column 301)
    ∷ shown (tree.index (tree.name (codes "s")) (tree.literal (text (codes "end")))) (column 305) ∷ [])) (column 243) ∷ [])

-- loops over numbers, with steps
abbrev pub EachNumbers : Type 0
EachNumbers =
    seen (respond (paged_in each_numbers_pages) (get (codes "/a.jsp")) None [])
    ≡ Some (html (codes "1false317,4false317,7true317,bc"), fetch (codes "/a.jsp") ∷ [], 76, 172, None)

-- /a.jsp: <c:catch var="e"><c:forEach items="${1}">x</c:forEach></c:catch>${e.code}<c:catch var="e"><c:forEach begin="-1"
--     end="2">x</c:forEach></c:catch>${e.code}<c:catch var="e"><c:forEach items="${[1]}" step="0">x</c:forEach></c:catch>${e.code}
abbrev pub each_faults_pages : List (List ℕ × Paged)
each_faults_pages =
    alone
    (catch (Some (codes "e"))
    (in_order
    (each None None (written (codes "items") (expression (tree.literal (number (pos 1))) ∷ []) (column 165) no_attributes)
    (in_order (template (codes "x") (column 171) ∷ [])) (column 147) ∷ [])) (column 130)
    ∷ shown (tree.index (tree.name (codes "e")) (tree.literal (text (codes "code")))) (column 194)
    ∷ catch (Some (codes "e"))
    (in_order
    (each None None
    (written (codes "begin") (words (codes "-1") ∷ []) (column 238)
    (written (codes "end") (words (codes "2") ∷ []) (column 247) no_attributes))
    (in_order (template (codes "x") (column 250) ∷ []))
    (column 220) ∷ [])) (column 203)
    ∷ shown (tree.index (tree.name (codes "e")) (tree.literal (text (codes "code")))) (column 273)
    ∷ catch (Some (codes "e"))
    (in_order
    (each None None
    (written (codes "items") (expression (tree.list (tree.more_trees (tree.literal (number (pos 1))) tree.no_trees)) ∷ []) (column 317)
    (written (codes "step") (words (codes "0") ∷ []) (column 331) no_attributes))
    (in_order (template (codes "x") (column 334) ∷ []))
    (column 299) ∷ [])) (column 282)
    ∷ shown (tree.index (tree.name (codes "e")) (tree.literal (text (codes "code")))) (column 357) ∷ [])

-- X7 of what has no items, X8 of a bad begin or step
abbrev pub EachFaults : Type 0
EachFaults =
    seen (respond (paged_in each_faults_pages) (get (codes "/a.jsp")) None []) ≡ Some (html (codes "X7X8X8"), fetch (codes "/a.jsp") ∷ [], 21, 172, None)

-- /a.jsp: <c:catch var="e"><c:forEach items="${[1, 2]}" var="x">${x}${1 mod 0}</c:forEach></c:catch>${e.code}<c:forEach begin="1"
--     end="0">${x}</c:forEach>${empty pageScope.x}
abbrev pub each_fault_inside_pages : List (List ℕ × Paged)
each_fault_inside_pages =
    alone
    (catch (Some (codes "e"))
    (in_order
    (each (Some (codes "x")) None
    (written (codes "items")
    (expression
    (tree.list (tree.more_trees (tree.literal (number (pos 1))) (tree.more_trees (tree.literal (number (pos 2))) tree.no_trees))) ∷ [])
    (column 165) no_attributes)
    (in_order
    (shown (tree.name (codes "x")) (column 183)
    ∷ shown (tree.binary binary_op.Rem (tree.literal (number (pos 1))) (tree.literal (number (pos 0)))) (column 187) ∷ []))
    (column 147) ∷ [])) (column 130)
    ∷ shown (tree.index (tree.name (codes "e")) (tree.literal (text (codes "code")))) (column 219)
    ∷ each None None
    (written (codes "begin") (words (codes "1") ∷ []) (column 246) (written (codes "end") (words (codes "0") ∷ []) (column 254) no_attributes))
    (in_order (shown (tree.name (codes "x")) (column 257) ∷ []))
    (column 228)
    ∷ shown (tree.unary unary_op.Empty (tree.index (tree.name (codes "pageScope")) (tree.literal (text (codes "x"))))) (column 273) ∷ [])

-- a fault in a loop removes its variables
abbrev pub EachFaultInside : Type 0
EachFaultInside =
    seen (respond (paged_in each_fault_inside_pages) (get (codes "/a.jsp")) None []) ≡ Some (html (codes "1X3true"), fetch (codes "/a.jsp") ∷ [], 22, 172, None)

-- /a.jsp: <c:forTokens items="a;b,c;" delims=";," var="t" varStatus="s">${t}${s.index}</c:forTokens>
abbrev pub each_token_pages : List (List ℕ × Paged)
each_token_pages =
    alone
    (each_token (Some (codes "t")) (Some (codes "s"))
    (written (codes "items") (words (codes "a;b,c;") ∷ []) (column 150)
    (written (codes "delims") (words (codes ";,") ∷ []) (column 166) no_attributes))
    (in_order
    (shown (tree.name (codes "t")) (column 192)
    ∷ shown (tree.index (tree.name (codes "s")) (tree.literal (text (codes "index")))) (column 196) ∷ [])) (column 130) ∷ [])

-- a loop over tokens
abbrev pub EachToken : Type 0
EachToken =
    seen (respond (paged_in each_token_pages) (get (codes "/a.jsp")) None []) ≡ Some (html (codes "a0b1c2"), fetch (codes "/a.jsp") ∷ [], 22, 172, None)
