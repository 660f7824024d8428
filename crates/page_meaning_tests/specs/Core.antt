-- Output, variables, catches and choices.
use Rattle.el_reader.specs.Tree as tree
use Rattle.page_meaning.specs.Context.{Paged}
use Rattle.page_meaning.specs.Page.{words, expression, template, shown, out, set, set_entry, remove, catch, when_true, choose, no_nodes, no_attributes, written, no_branches, when, otherwise}
use Rattle.page_meaning.specs.Respond.{respond}
use Rattle.site_words.specs.PageSteps.{app, fetch}
use Rattle.page_meaning_tests.specs.Pages.{column, in_order, variable, paged_in, get, tells, tells_done, html, seen, awaited, alone}
use Rattle.pg_value.specs.Datum.{null, number, text}
use Rattle.pg_value.specs.declared.operators.BinOp.TheVariants as binary_op
use Rattle.pg_value.specs.declared.operators.UnOp.TheVariants as unary_op
use Rattle.pg_value.specs.declared.scope.Scope.TheVariants as scope
use Rattle.site_words.specs.declared.words.AppStep.TheVariants as step
use Rattle.std.specs.Prelude.{◌≡◌, ℕ, List, [], ◌∷◌, codes, Some, None, pos}

-- /a.jsp: <c:out value="${param.x}"/>
abbrev pub out_escapes_pages : List (List ℕ × Paged)
out_escapes_pages =
    alone
    (out
    (written (codes "value") (expression (tree.index (tree.name (codes "param")) (tree.literal (text (codes "x")))) ∷ []) (column 144)
    no_attributes)
    no_nodes
    (column 130) ∷ [])

-- `c:out` escapes
abbrev pub OutEscapes : Type 0
OutEscapes =
    seen (respond (paged_in out_escapes_pages) (get (codes "/a.jsp?x=%3C%27%22%26%3E")) None [])
    ≡ Some (html (codes "&lt;&#039;&#034;&amp;&gt;"), fetch (codes "/a.jsp") ∷ [], 4, 172, None)

-- /a.jsp: <c:set var="x" scope="application" value="${null}"/>
abbrev pub null_in_application_pages : List (List ℕ × Paged)
null_in_application_pages =
    alone
    (set (variable (codes "x") (Some scope.Application)) (written (codes "value") (expression (tree.literal null) ∷ []) (column 152) no_attributes)
    no_nodes (column 130) ∷ [])

-- null in application scope asks for a Remove
abbrev pub NullInApplication : Type 0
NullInApplication =
    seen (respond (paged_in null_in_application_pages) (get (codes "/a.jsp")) None (tells_done ∷ []))
    ≡ Some (html [], fetch (codes "/a.jsp") ∷ app (step.Remove (codes "x")) ∷ [], 2, 253, None)

-- the Remove is waited for
abbrev pub RemoveAwaits : Type 0
RemoveAwaits = awaited (respond (paged_in null_in_application_pages) (get (codes "/a.jsp")) None []) ≡ Some (app (step.Remove (codes "x")))

-- /a.jsp: <c:set var="x" scope="request" value="1"/><c:remove var="x"/>${x}
abbrev pub remove_in_all_pages : List (List ℕ × Paged)
remove_in_all_pages =
    alone
    (set (variable (codes "x") (Some scope.Request)) (written (codes "value") (words (codes "1") ∷ []) (column 152) no_attributes) no_nodes
    (column 130)
    ∷ remove (variable (codes "x") None) (column 172)
    ∷ shown (tree.name (codes "x")) (column 191) ∷ [])

-- `c:remove` without a scope removes in all four
abbrev pub RemoveInAll : Type 0
RemoveInAll =
    seen (respond (paged_in remove_in_all_pages) (get (codes "/a.jsp")) None (tells_done ∷ tells null ∷ []))
    ≡ Some (html [], fetch (codes "/a.jsp") ∷ app (step.Remove (codes "x")) ∷ app (step.Get (codes "x")) ∷ [], 4, 342, None)

-- /a.jsp: <c:set var="x" value="1"/><c:set var="x" value="${null}"/>${x}
abbrev pub null_removes_pages : List (List ℕ × Paged)
null_removes_pages =
    alone
    (set (variable (codes "x") None) (written (codes "value") (words (codes "1") ∷ []) (column 152) no_attributes) no_nodes (column 130)
    ∷ set (variable (codes "x") None) (written (codes "value") (expression (tree.literal null) ∷ []) (column 178) no_attributes) no_nodes
    (column 156)
    ∷ shown (tree.name (codes "x")) (column 188) ∷ [])

-- `c:set` of null without a scope removes in all four
abbrev pub NullRemoves : Type 0
NullRemoves =
    seen (respond (paged_in null_removes_pages) (get (codes "/a.jsp")) None (tells_done ∷ tells null ∷ []))
    ≡ Some (html [], fetch (codes "/a.jsp") ∷ app (step.Remove (codes "x")) ∷ app (step.Get (codes "x")) ∷ [], 5, 342, None)

-- a name that is no more is asked of application scope
abbrev pub LookUpAwaits : Type 0
LookUpAwaits = awaited (respond (paged_in null_removes_pages) (get (codes "/a.jsp")) None (tells_done ∷ [])) ≡ Some (app (step.Get (codes "x")))

-- /a.jsp: <c:catch var="e">a${1 mod 0}b</c:catch>${e.code}
abbrev pub catch_keeps_output_pages : List (List ℕ × Paged)
catch_keeps_output_pages =
    alone
    (catch (Some (codes "e"))
    (in_order
    (template (codes "a") (column 147)
    ∷ shown (tree.binary binary_op.Rem (tree.literal (number (pos 1))) (tree.literal (number (pos 0)))) (column 148)
    ∷ template (codes "b") (column 158) ∷ [])) (column 130)
    ∷ shown (tree.index (tree.name (codes "e")) (tree.literal (text (codes "code")))) (column 169) ∷ [])

-- a catch keeps the output and the code of the fault
abbrev pub CatchKeepsOutput : Type 0
CatchKeepsOutput =
    seen (respond (paged_in catch_keeps_output_pages) (get (codes "/a.jsp")) None []) ≡ Some (html (codes "aX3"), fetch (codes "/a.jsp") ∷ [], 10, 172, None)

-- /a.jsp: <c:out value="${null}" default="d&" escapeXml="false"/>|<c:out value="${null}"> b </c:out>|<c:out value="${null}" default="${1}"/>
abbrev pub out_default_pages : List (List ℕ × Paged)
out_default_pages =
    alone
    (out
    (written (codes "value") (expression (tree.literal null) ∷ []) (column 144)
    (written (codes "default") (words (codes "d&") ∷ []) (column 162)
    (written (codes "escapeXml") (words (codes "false") ∷ []) (column 177) no_attributes)))
    no_nodes
    (column 130)
    ∷ template (codes "|") (column 185)
    ∷ out (written (codes "value") (expression (tree.literal null) ∷ []) (column 200) no_attributes)
    (in_order (template (codes " b") (column 209) ∷ template (codes " ") (column 220) ∷ [])) (column 186)
    ∷ template (codes "|") (column 229)
    ∷ out
    (written (codes "value") (expression (tree.literal null) ∷ []) (column 244)
    (written (codes "default") (expression (tree.literal (number (pos 1))) ∷ []) (column 262) no_attributes))
    no_nodes
    (column 230) ∷ [])

-- `c:out`: the default, or else the trimmed body, where the value is null
abbrev pub OutDefault : Type 0
OutDefault =
    seen (respond (paged_in out_default_pages) (get (codes "/a.jsp")) None []) ≡ Some (html (codes "d&|b|1"), fetch (codes "/a.jsp") ∷ [], 11, 172, None)

-- /a.jsp: <c:set var="a" scope="request">  x ${1 == 1} </c:set>[${requestScope.a}][${a}]
abbrev pub set_body_pages : List (List ℕ × Paged)
set_body_pages =
    alone
    (set (variable (codes "a") (Some scope.Request)) no_attributes
    (in_order
    (template (codes "  x ") (column 161)
    ∷ shown (tree.binary binary_op.Eq (tree.literal (number (pos 1))) (tree.literal (number (pos 1)))) (column 165)
    ∷ template (codes " ") (column 174) ∷ [])) (column 130)
    ∷ template (codes "[") (column 183)
    ∷ shown (tree.index (tree.name (codes "requestScope")) (tree.literal (text (codes "a")))) (column 184)
    ∷ template (codes "][") (column 201)
    ∷ shown (tree.name (codes "a")) (column 203)
    ∷ template (codes "]") (column 207) ∷ [])

-- `c:set` of a trimmed body in request scope
abbrev pub SetBody : Type 0
SetBody =
    seen (respond (paged_in set_body_pages) (get (codes "/a.jsp")) None []) ≡ Some (html (codes "[x true][x true]"), fetch (codes "/a.jsp") ∷ [], 16, 172, None)

-- /a.jsp: <c:set var="r" value="${{'k': 1}}"/><c:set target="${r}" property="z" value="${2}"/>${r}<c:set target="${r}" property="k"
--     value="${null}"/>${r}<c:catch var="e"><c:set target="${n}" property="k" value="1"/></c:catch>${e.code}
abbrev pub set_entry_pages : List (List ℕ × Paged)
set_entry_pages =
    alone
    (set (variable (codes "r") None)
    (written (codes "value")
    (expression (tree.map (tree.more_pairs (tree.literal (text (codes "k"))) (tree.literal (number (pos 1))) tree.no_pairs)) ∷ []) (column 152)
    no_attributes) no_nodes (column 130)
    ∷ set_entry (codes "r")
    (written (codes "property") (words (codes "z") ∷ []) (column 196)
    (written (codes "value") (expression (tree.literal (number (pos 2))) ∷ []) (column 206) no_attributes)) no_nodes (column 165)
    ∷ shown (tree.name (codes "r")) (column 213)
    ∷ set_entry (codes "r")
    (written (codes "property") (words (codes "k") ∷ []) (column 248)
    (written (codes "value") (expression (tree.literal null) ∷ []) (column 258) no_attributes)) no_nodes (column 217)
    ∷ shown (tree.name (codes "r")) (column 268)
    ∷ catch (Some (codes "e"))
    (in_order
    (set_entry (codes "n")
    (written (codes "property") (words (codes "k") ∷ []) (column 320)
    (written (codes "value") (words (codes "1") ∷ []) (column 330) no_attributes)) no_nodes (column 289) ∷ [])) (column 272)
    ∷ shown (tree.index (tree.name (codes "e")) (tree.literal (text (codes "code")))) (column 344) ∷ [])

-- `c:set` of an entry; null removes it, and what is no record is X14
abbrev pub SetEntry : Type 0
SetEntry =
    seen (respond (paged_in set_entry_pages) (get (codes "/a.jsp")) None (tells null ∷ []))
    ≡ Some (html (codes "{k=1, z=2}{z=2}X14"), fetch (codes "/a.jsp") ∷ app (step.Get (codes "n")) ∷ [], 18, 261, None)

-- /a.jsp: <c:if test="${1 == 1}" var="t">yes</c:if>${t}<c:choose><c:when test="false">a</c:when><c:when test="${empty
--     q}">b</c:when><c:otherwise>c</c:otherwise></c:choose>
abbrev pub if_and_choose_pages : List (List ℕ × Paged)
if_and_choose_pages =
    alone
    (when_true (Some (variable (codes "t") None))
    (written (codes "test") (expression (tree.binary binary_op.Eq (tree.literal (number (pos 1))) (tree.literal (number (pos 1)))) ∷ [])
    (column 142) no_attributes) (in_order (template (codes "yes") (column 161) ∷ [])) (column 130)
    ∷ shown (tree.name (codes "t")) (column 171)
    ∷ choose
    (when (written (codes "test") (words (codes "false") ∷ []) (column 200) no_attributes) (in_order (template (codes "a") (column 207) ∷ []))
    (column 186)
    (when (written (codes "test") (expression (tree.unary unary_op.Empty (tree.name (codes "q"))) ∷ []) (column 231) no_attributes)
    (in_order (template (codes "b") (column 243) ∷ [])) (column 217)
    (otherwise (in_order (template (codes "c") (column 266) ∷ [])) (column 253) no_branches)))
    (column 175) ∷ [])

-- `c:if` sets its variable, and `c:choose` takes the first true branch
abbrev pub IfAndChoose : Type 0
IfAndChoose =
    seen (respond (paged_in if_and_choose_pages) (get (codes "/a.jsp")) None (tells null ∷ []))
    ≡ Some (html (codes "yestrueb"), fetch (codes "/a.jsp") ∷ app (step.Get (codes "q")) ∷ [], 13, 261, None)
