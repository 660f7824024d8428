-- Includes and forwards.
use Rattle.el_reader.specs.Tree as tree
use Rattle.http_out.specs.declared.status.Status.TheVariants as status_is
use Rattle.page_meaning.specs.Context.{Paged, plain, bad, good}
use Rattle.page_meaning.specs.Page.{words, template, shown, set, catch, import, redirect, include, forward, no_nodes, no_attributes, written, no_params, param}
use Rattle.page_meaning.specs.Respond.{respond}
use Rattle.site_words.specs.PageSteps.{app, fetch}
use Rattle.page_meaning_tests.specs.Pages.{at, column, in_order, variable, plain_page, paged_in, get, tells, response, html, line, seen, alone}
use Rattle.pg_text.specs.declared.translation_fault.TranslationFault.TheVariants as page_fault
use Rattle.pg_value.specs.Datum.{null, number, text}
use Rattle.pg_value.specs.declared.operators.BinOp.TheVariants as binary_op
use Rattle.pg_value.specs.declared.scope.Scope.TheVariants as scope
use Rattle.site_words.specs.declared.words.AppStep.TheVariants as step
use Rattle.std.specs.Prelude.{◌≡◌, ℕ, List, [], ◌∷◌, codes, true, false, Some, None, pos}

-- /a.jsp: lost<jsp:forward page="/f.jsp"><jsp:param name="A" value="bar"/></jsp:forward>
-- /f.jsp: ${paramValues.A}
abbrev pub forward_pages : List (List ℕ × Paged)
forward_pages = (
  codes "/a.jsp",
  good
      (plain_page (codes "/a.jsp")
      (in_order
      (template (codes "lost") (column 28)
      ∷ forward (written (codes "page") (words (codes "/f.jsp") ∷ []) (column 51) no_attributes)
      (param
      (written (codes "name") (words (codes "A") ∷ []) (column 76)
      (written (codes "value") (words (codes "bar") ∷ []) (column 86) no_attributes)) no_nodes (column 59) no_params)
      (column 32) ∷ []))),
)
    ∷ (
      codes "/f.jsp",
      good
          (plain_page (codes "/f.jsp")
          (in_order (shown (tree.index (tree.name (codes "paramValues")) (tree.literal (text (codes "A")))) (at (codes "/f.jsp") 1 28) ∷ []))),
    ) ∷ []

-- a forward's parameters come before the request's
abbrev pub Forward : Type 0
Forward =
    seen (respond (paged_in forward_pages) (get (codes "/a.jsp?A=foo")) None [])
    ≡ Some (html (codes "[bar, foo]"), fetch (codes "/a.jsp") ∷ fetch (codes "/f.jsp") ∷ [], 7, 344, None)

-- /a.jsp: <c:set var="x" scope="request" value="1"/>[<jsp:include page="d/b.jsp?q=1&p=z" flush="true"><jsp:param name="q"
--     value="2"/></jsp:include>]${y}${param.q}
-- /d/b.jsp: ${x}${paramValues.q}<c:set var="y" value="9"/><jsp:include page="../t.txt"/>
-- /t.txt: T
abbrev pub include_pages : List (List ℕ × Paged)
include_pages = (
  codes "/a.jsp",
  good
      (plain_page (codes "/a.jsp")
      (in_order
      (set (variable (codes "x") (Some scope.Request)) (written (codes "value") (words (codes "1") ∷ []) (column 98) no_attributes) no_nodes
      (column 76)
      ∷ template (codes "[") (column 118)
      ∷ include true (written (codes "page") (words (codes "d/b.jsp?q=1&p=z") ∷ []) (column 138) no_attributes)
      (param
      (written (codes "name") (words (codes "q") ∷ []) (column 185)
      (written (codes "value") (words (codes "2") ∷ []) (column 195) no_attributes)) no_nodes (column 168) no_params)
      (column 119)
      ∷ template (codes "]") (column 213)
      ∷ shown (tree.name (codes "y")) (column 214)
      ∷ shown (tree.index (tree.name (codes "param")) (tree.literal (text (codes "q")))) (column 218) ∷ []))),
)
    ∷ (
      codes "/d/b.jsp",
      good
          (plain_page (codes "/d/b.jsp")
          (in_order
          (shown (tree.name (codes "x")) (at (codes "/d/b.jsp") 1 76)
          ∷ shown (tree.index (tree.name (codes "paramValues")) (tree.literal (text (codes "q")))) (at (codes "/d/b.jsp") 1 80)
          ∷ set (variable (codes "y") None) (written (codes "value") (words (codes "9") ∷ []) (at (codes "/d/b.jsp") 1 118) no_attributes) no_nodes
          (at (codes "/d/b.jsp") 1 96)
          ∷ include false (written (codes "page") (words (codes "../t.txt") ∷ []) (at (codes "/d/b.jsp") 1 141) no_attributes) no_params
          (at (codes "/d/b.jsp") 1 122) ∷ []))),
    )
    ∷ (codes "/t.txt", plain (codes "T")) ∷ []

-- an include with its own page scope, params, a flush, and a file as text
abbrev pub Include : Type 0
Include =
    seen (respond (paged_in include_pages) (get (codes "/a.jsp?q=3")) None (tells null ∷ []))
    ≡ Some (
      response status_is.Ok (Some (codes "text/html;charset=UTF-8")) None None (codes "[" ∷ []) (codes "1[1, 2, 3]T]3") false,
      fetch (codes "/a.jsp") ∷ fetch (codes "/d/b.jsp") ∷ app (step.Get (codes "y")) ∷ [],
      19,
      437,
      None,
    )

-- /a.jsp: x<c:catch var="e"><jsp:include page="b.jsp"/></c:catch>${e.message}<c:catch var="e"><jsp:include page="no.jsp"/></c:catch>${e.code}<c:catch
--     var="e"><jsp:include page="../../x"/></c:catch>${e.code}<c:catch var="e"><jsp:include page="bad.jsp"/></c:catch>${e.code}
-- /b.jsp: in${1 mod 0}
abbrev pub include_fault_pages : List (List ℕ × Paged)
include_fault_pages = (
  codes "/a.jsp",
  good
      (plain_page (codes "/a.jsp")
      (in_order
      (template (codes "x") (column 76)
      ∷ catch (Some (codes "e"))
      (in_order (include false (written (codes "page") (words (codes "b.jsp") ∷ []) (column 113) no_attributes) no_params (column 94) ∷ []))
      (column 77)
      ∷ shown (tree.index (tree.name (codes "e")) (tree.literal (text (codes "message")))) (column 131)
      ∷ catch (Some (codes "e"))
      (in_order (include false (written (codes "page") (words (codes "no.jsp") ∷ []) (column 179) no_attributes) no_params (column 160) ∷ []))
      (column 143)
      ∷ shown (tree.index (tree.name (codes "e")) (tree.literal (text (codes "code")))) (column 198)
      ∷ catch (Some (codes "e"))
      (in_order (include false (written (codes "page") (words (codes "../../x") ∷ []) (column 243) no_attributes) no_params (column 224) ∷ []))
      (column 207)
      ∷ shown (tree.index (tree.name (codes "e")) (tree.literal (text (codes "code")))) (column 263)
      ∷ catch (Some (codes "e"))
      (in_order (include false (written (codes "page") (words (codes "bad.jsp") ∷ []) (column 308) no_attributes) no_params (column 289) ∷ []))
      (column 272)
      ∷ shown (tree.index (tree.name (codes "e")) (tree.literal (text (codes "code")))) (column 328) ∷ []))),
)
    ∷ (
      codes "/b.jsp",
      good
          (plain_page (codes "/b.jsp")
          (in_order
          (template (codes "in") (at (codes "/b.jsp") 1 28)
          ∷ shown (tree.binary binary_op.Rem (tree.literal (number (pos 1))) (tree.literal (number (pos 0)))) (at (codes "/b.jsp") 1 30) ∷ []))),
    )
    ∷ (codes "/bad.jsp", bad (record { fault = page_fault.Scripting; place = at (codes "/bad.jsp") 1 1 })) ∷ []

-- a fault of an included page stands at the include; X11 and X12
abbrev pub IncludeFault : Type 0
IncludeFault =
    seen (respond (paged_in include_fault_pages) (get (codes "/a.jsp")) None [])
    ≡ Some (
      html (codes "xinX3 ZeroDivisor /a.jsp:1:94X11X11X12"),
      fetch (codes "/a.jsp") ∷ fetch (codes "/b.jsp") ∷ fetch (codes "/bad.jsp") ∷ [],
      30,
      520,
      None,
    )

-- /a.jsp: [<c:import url="b.jsp" var="t"/>]${t}
-- /b.jsp: <c:set var="z">k<c:redirect url="/q"/></c:set>
abbrev pub include_redirect_pages : List (List ℕ × Paged)
include_redirect_pages = (
  codes "/a.jsp",
  good
      (plain_page (codes "/a.jsp")
      (in_order
      (template (codes "[") (column 76)
      ∷ import (Some (variable (codes "t") None)) (written (codes "url") (words (codes "b.jsp") ∷ []) (column 92) no_attributes) no_params
      (column 77)
      ∷ template (codes "]") (column 108)
      ∷ shown (tree.name (codes "t")) (column 109) ∷ []))),
)
    ∷ (
      codes "/b.jsp",
      good
          (plain_page (codes "/b.jsp")
          (in_order
          (set (variable (codes "z") None) no_attributes
          (in_order
          (template (codes "k") (at (codes "/b.jsp") 1 91)
          ∷ redirect (written (codes "url") (words (codes "/q") ∷ []) (at (codes "/b.jsp") 1 109) no_attributes) no_params
          (at (codes "/b.jsp") 1 92) ∷ [])) (at (codes "/b.jsp") 1 76) ∷ []))),
    ) ∷ []

-- a redirect ends an included page alone
abbrev pub IncludeRedirect : Type 0
IncludeRedirect =
    seen (respond (paged_in include_redirect_pages) (get (codes "/a.jsp")) None [])
    ≡ Some (html (codes "[]"), fetch (codes "/a.jsp") ∷ fetch (codes "/b.jsp") ∷ [], 8, 344, None)

-- /a.jsp: lost<c:catch><jsp:include page="b.jsp"/></c:catch>
-- /b.jsp: <jsp:forward page="f.txt"/>
-- /f.txt: F
abbrev pub include_forward_pages : List (List ℕ × Paged)
include_forward_pages = (
  codes "/a.jsp",
  good
      (plain_page (codes "/a.jsp")
      (in_order
      (template (codes "lost") (column 76)
      ∷ catch None
      (in_order (include false (written (codes "page") (words (codes "b.jsp") ∷ []) (column 108) no_attributes) no_params (column 89) ∷ []))
      (column 80) ∷ []))),
)
    ∷ (
      codes "/b.jsp",
      good
          (plain_page (codes "/b.jsp")
          (in_order
          (forward (written (codes "page") (words (codes "f.txt") ∷ []) (at (codes "/b.jsp") 1 47) no_attributes) no_params
          (at (codes "/b.jsp") 1 28) ∷ []))),
    )
    ∷ (codes "/f.txt", plain (codes "F")) ∷ []

-- a forward in an included page ends the whole, through a catch
abbrev pub IncludeForward : Type 0
IncludeForward =
    seen (respond (paged_in include_forward_pages) (get (codes "/a.jsp")) None [])
    ≡ Some (
      response status_is.Ok (Some (codes "text/plain;charset=UTF-8")) None None [] (codes "F") false,
      fetch (codes "/a.jsp") ∷ fetch (codes "/b.jsp") ∷ [],
      4,
      344,
      None,
    )

-- /a.jsp: <jsp:forward page="/a.jsp"/>
abbrev pub forward_loop_pages : List (List ℕ × Paged)
forward_loop_pages = alone (forward (written (codes "page") (words (codes "/a.jsp") ∷ []) (column 47) no_attributes) no_params (column 28) ∷ [])

-- the 101st forward is X17
abbrev pub ForwardLoop : Type 0
ForwardLoop =
    seen (respond (paged_in forward_loop_pages) (get (codes "/a.jsp")) None [])
    ≡ Some (
      line status_is.InternalServerError (codes "X17 TooDeep /a.jsp:1:28"),
      fetch (codes "/a.jsp")
          ∷ fetch (codes "/a.jsp")
          ∷ fetch (codes "/a.jsp")
          ∷ fetch (codes "/a.jsp")
          ∷ fetch (codes "/a.jsp")
          ∷ fetch (codes "/a.jsp")
          ∷ fetch (codes "/a.jsp")
          ∷ fetch (codes "/a.jsp")
          ∷ fetch (codes "/a.jsp")
          ∷ fetch (codes "/a.jsp")
          ∷ fetch (codes "/a.jsp")
          ∷ fetch (codes "/a.jsp")
          ∷ fetch (codes "/a.jsp")
          ∷ fetch (codes "/a.jsp")
          ∷ fetch (codes "/a.jsp")
          ∷ fetch (codes "/a.jsp")
          ∷ fetch (codes "/a.jsp")
          ∷ fetch (codes "/a.jsp")
          ∷ fetch (codes "/a.jsp")
          ∷ fetch (codes "/a.jsp")
          ∷ fetch (codes "/a.jsp")
          ∷ fetch (codes "/a.jsp")
          ∷ fetch (codes "/a.jsp")
          ∷ fetch (codes "/a.jsp")
          ∷ fetch (codes "/a.jsp")
          ∷ fetch (codes "/a.jsp")
          ∷ fetch (codes "/a.jsp")
          ∷ fetch (codes "/a.jsp")
          ∷ fetch (codes "/a.jsp")
          ∷ fetch (codes "/a.jsp")
          ∷ fetch (codes "/a.jsp")
          ∷ fetch (codes "/a.jsp")
          ∷ fetch (codes "/a.jsp")
          ∷ fetch (codes "/a.jsp")
          ∷ fetch (codes "/a.jsp")
          ∷ fetch (codes "/a.jsp")
          ∷ fetch (codes "/a.jsp")
          ∷ fetch (codes "/a.jsp")
          ∷ fetch (codes "/a.jsp")
          ∷ fetch (codes "/a.jsp")
          ∷ fetch (codes "/a.jsp")
          ∷ fetch (codes "/a.jsp")
          ∷ fetch (codes "/a.jsp")
          ∷ fetch (codes "/a.jsp")
          ∷ fetch (codes "/a.jsp")
          ∷ fetch (codes "/a.jsp")
          ∷ fetch (codes "/a.jsp")
          ∷ fetch (codes "/a.jsp")
          ∷ fetch (codes "/a.jsp")
          ∷ fetch (codes "/a.jsp")
          ∷ fetch (codes "/a.jsp")
          ∷ fetch (codes "/a.jsp")
          ∷ fetch (codes "/a.jsp")
          ∷ fetch (codes "/a.jsp")
          ∷ fetch (codes "/a.jsp")
          ∷ fetch (codes "/a.jsp")
          ∷ fetch (codes "/a.jsp")
          ∷ fetch (codes "/a.jsp")
          ∷ fetch (codes "/a.jsp")
          ∷ fetch (codes "/a.jsp")
          ∷ fetch (codes "/a.jsp")
          ∷ fetch (codes "/a.jsp")
          ∷ fetch (codes "/a.jsp")
          ∷ fetch (codes "/a.jsp")
          ∷ fetch (codes "/a.jsp")
          ∷ fetch (codes "/a.jsp")
          ∷ fetch (codes "/a.jsp")
          ∷ fetch (codes "/a.jsp")
          ∷ fetch (codes "/a.jsp")
          ∷ fetch (codes "/a.jsp")
          ∷ fetch (codes "/a.jsp")
          ∷ fetch (codes "/a.jsp")
          ∷ fetch (codes "/a.jsp")
          ∷ fetch (codes "/a.jsp")
          ∷ fetch (codes "/a.jsp")
          ∷ fetch (codes "/a.jsp")
          ∷ fetch (codes "/a.jsp")
          ∷ fetch (codes "/a.jsp")
          ∷ fetch (codes "/a.jsp")
          ∷ fetch (codes "/a.jsp")
          ∷ fetch (codes "/a.jsp")
          ∷ fetch (codes "/a.jsp")
          ∷ fetch (codes "/a.jsp")
          ∷ fetch (codes "/a.jsp")
          ∷ fetch (codes "/a.jsp")
          ∷ fetch (codes "/a.jsp")
          ∷ fetch (codes "/a.jsp")
          ∷ fetch (codes "/a.jsp")
          ∷ fetch (codes "/a.jsp")
          ∷ fetch (codes "/a.jsp")
          ∷ fetch (codes "/a.jsp")
          ∷ fetch (codes "/a.jsp")
          ∷ fetch (codes "/a.jsp")
          ∷ fetch (codes "/a.jsp")
          ∷ fetch (codes "/a.jsp")
          ∷ fetch (codes "/a.jsp")
          ∷ fetch (codes "/a.jsp")
          ∷ fetch (codes "/a.jsp")
          ∷ fetch (codes "/a.jsp")
          ∷ fetch (codes "/a.jsp")
          ∷ fetch (codes "/a.jsp") ∷ [],
      101,
      17372,
      None,
    )
