-- Calls of tag files.
use Rattle.el_reader.specs.Tree as tree
use Rattle.http_out.specs.declared.status.Status.TheVariants as status_is
use Rattle.page_meaning.specs.Context.{Paged, plain, good}
use Rattle.page_meaning.specs.Page.{words, expression, template, shown, set, catch, forward, do_body, call, no_nodes, no_attributes, written, no_params, no_body, given_body}
use Rattle.page_meaning.specs.Respond.{respond}
use Rattle.site_words.specs.PageSteps.{app, fetch}
use Rattle.page_meaning_tests.specs.Pages.{at, column, in_order, variable, plain_settings, with_session, page, tag_file, paged_in, get, tells, response, html, line, seen}
use Rattle.pg_value.specs.Datum.{null, number}
use Rattle.pg_value.specs.declared.operators.BinOp.TheVariants as binary_op
use Rattle.site_words.specs.declared.words.AppStep.TheVariants as step
use Rattle.std.specs.Prelude.{◌≡◌, ℕ, List, [], ◌∷◌, codes, true, false, Some, None, pos}
use Rattle.tag_decl.specs.declared.declaration.AttrKind.TheVariants as kind
use Rattle.tag_decl.specs.declared.declaration.BodyKind.TheVariants as body_kind
use Rattle.tag_decl.specs.declared.declaration.VarScope.TheVariants as var_scope

-- /WEB-INF/tags/r.tag: <%@ taglib prefix="r" tagdir="/WEB-INF/tags" %><r:r/>
-- /a.jsp: <c:catch><t:r/></c:catch>
abbrev pub nested_calls_pages : List (List ℕ × Paged)
nested_calls_pages =
    (codes "/WEB-INF/tags/r.tag", plain (codes "<%@ taglib prefix=\"r\" tagdir=\"/WEB-INF/tags\" %><r:r/>"))
    ∷ (
      codes "/a.jsp",
      good
          (page (codes "/a.jsp")
          (in_order (catch None (in_order (call (codes "/WEB-INF/tags/r.tag") no_attributes no_body (column 132) ∷ [])) (column 123) ∷ []))
          plain_settings
          (tag_file (codes "/WEB-INF/tags/r.tag") (record { attributes = []; variables = []; body = body_kind.Scriptless; dynamic = None })
          with_session (in_order (call (codes "/WEB-INF/tags/r.tag") no_attributes no_body (at (codes "/WEB-INF/tags/r.tag") 1 48) ∷ [])) ∷ [])
          []),
    ) ∷ []

-- the 101st nested call is X17, and no catch takes it
abbrev pub NestedCalls : Type 0
NestedCalls =
    seen (respond (paged_in nested_calls_pages) (get (codes "/a.jsp")) None [])
    ≡ Some (line status_is.InternalServerError (codes "X17 TooDeep /WEB-INF/tags/r.tag:1:48"), fetch (codes "/a.jsp") ∷ [], 102, 172, None)

-- /WEB-INF/tags/t.tag: <%@ tag dynamic-attributes="d" %><%@ attribute name="a" %><%@ attribute name="n" type="java.lang.Long" %>${a}${n + 1}${d}${pageScope}
-- /a.jsp: <t:t a="1" n="2" z="3" y="${[1]}"/>
abbrev pub dynamic_attributes_pages : List (List ℕ × Paged)
dynamic_attributes_pages = (
  codes "/WEB-INF/tags/t.tag",
  plain
      (codes
      "<%@ tag dynamic-attributes=\"d\" %><%@ attribute name=\"a\" %><%@ attribute name=\"n\" type=\"java.lang.Long\" %>${a}${n + 1}${d}${pageScope}"),
)
    ∷ (
      codes "/a.jsp",
      good
          (page (codes "/a.jsp")
          (in_order
          (call (codes "/WEB-INF/tags/t.tag")
          (written (codes "a") (words (codes "1") ∷ []) (column 83)
          (written (codes "n") (words (codes "2") ∷ []) (column 89)
          (written (codes "z") (words (codes "3") ∷ []) (column 95)
          (written (codes "y") (expression (tree.list (tree.more_trees (tree.literal (number (pos 1))) tree.no_trees)) ∷ []) (column 101)
          no_attributes)))) no_body (column 75) ∷ [])) plain_settings
          (tag_file (codes "/WEB-INF/tags/t.tag")
          (record {
            attributes = record { name = codes "a"; required = false; fragment = false; expression = true; kind = kind.Text }
                ∷ record { name = codes "n"; required = false; fragment = false; expression = true; kind = kind.Number } ∷ [];
            variables = [];
            body = body_kind.Scriptless;
            dynamic = Some (codes "d");
          }) with_session
          (in_order
          (shown (tree.name (codes "a")) (at (codes "/WEB-INF/tags/t.tag") 1 106)
          ∷ shown (tree.binary binary_op.Add (tree.name (codes "n")) (tree.literal (number (pos 1)))) (at (codes "/WEB-INF/tags/t.tag") 1 110)
          ∷ shown (tree.name (codes "d")) (at (codes "/WEB-INF/tags/t.tag") 1 118)
          ∷ shown (tree.name (codes "pageScope")) (at (codes "/WEB-INF/tags/t.tag") 1 122) ∷ [])) ∷ []) []),
    ) ∷ []

-- undeclared attributes come as one record
abbrev pub DynamicAttributes : Type 0
DynamicAttributes =
    seen (respond (paged_in dynamic_attributes_pages) (get (codes "/a.jsp")) None [])
    ≡ Some (html (codes "13{y=[1], z=3}{a=1, d={y=[1], z=3}, n=2}"), fetch (codes "/a.jsp") ∷ [], 13, 172, None)

-- /WEB-INF/tags/t.tag: <%@ taglib prefix="c" uri="jakarta.tags.core" %><%@ attribute name="x" required="true" rtexprvalue="false" %><%@ variable name-from-attribute="x"
--     alias="al" scope="AT_END" %><c:set var="al" value="7"/>
-- /a.jsp: <t:t x="mine"/>${mine}${al}
abbrev pub alias_pages : List (List ℕ × Paged)
alias_pages = (
  codes "/WEB-INF/tags/t.tag",
  plain
      (codes
      "<%@ taglib prefix=\"c\" uri=\"jakarta.tags.core\" %><%@ attribute name=\"x\" required=\"true\" rtexprvalue=\"false\" %><%@ variable name-from-attribute=\"x\" alias=\"al\" scope=\"AT_END\" %><c:set var=\"al\" value=\"7\"/>"),
)
    ∷ (
      codes "/a.jsp",
      good
          (page (codes "/a.jsp")
          (in_order
          (call (codes "/WEB-INF/tags/t.tag") (written (codes "x") (words (codes "mine") ∷ []) (column 131) no_attributes) no_body (column 123)
          ∷ shown (tree.name (codes "mine")) (column 138)
          ∷ shown (tree.name (codes "al")) (column 145) ∷ [])) plain_settings
          (tag_file (codes "/WEB-INF/tags/t.tag")
          (record {
            attributes = record { name = codes "x"; required = true; fragment = false; expression = false; kind = kind.Text } ∷ [];
            variables = record { name = codes "al"; from = Some (codes "x"); scope = var_scope.AtEnd } ∷ [];
            body = body_kind.Scriptless;
            dynamic = None;
          }) with_session
          (in_order
          (set (variable (codes "al") None)
          (written (codes "value") (words (codes "7") ∷ []) (at (codes "/WEB-INF/tags/t.tag") 1 198) no_attributes) no_nodes
          (at (codes "/WEB-INF/tags/t.tag") 1 175) ∷ [])) ∷ []) []),
    ) ∷ []

-- a variable under the caller's name for it
abbrev pub Alias : Type 0
Alias =
    seen (respond (paged_in alias_pages) (get (codes "/a.jsp")) None (tells null ∷ []))
    ≡ Some (html (codes "7"), fetch (codes "/a.jsp") ∷ app (step.Get (codes "al")) ∷ [], 6, 262, None)

-- /WEB-INF/tags/t.tag: <%@ variable name-given="w" scope="AT_BEGIN" %><jsp:doBody/>
-- /a.jsp: <c:set var="w" value="1"/><t:t>(${w})</t:t>${w}
abbrev pub absent_at_begin_pages : List (List ℕ × Paged)
absent_at_begin_pages =
    (codes "/WEB-INF/tags/t.tag", plain (codes "<%@ variable name-given=\"w\" scope=\"AT_BEGIN\" %><jsp:doBody/>"))
    ∷ (
      codes "/a.jsp",
      good
          (page (codes "/a.jsp")
          (in_order
          (set (variable (codes "w") None) (written (codes "value") (words (codes "1") ∷ []) (column 145) no_attributes) no_nodes (column 123)
          ∷ call (codes "/WEB-INF/tags/t.tag") no_attributes
          (given_body (codes "(${w})")
          (in_order (template (codes "(") (column 154) ∷ shown (tree.name (codes "w")) (column 155) ∷ template (codes ")") (column 159) ∷ [])))
          (column 149)
          ∷ shown (tree.name (codes "w")) (column 166) ∷ [])) plain_settings
          (tag_file (codes "/WEB-INF/tags/t.tag")
          (record {
            attributes = [];
            variables = record { name = codes "w"; from = None; scope = var_scope.AtBegin } ∷ [];
            body = body_kind.Scriptless;
            dynamic = None;
          }) with_session (in_order (do_body None (at (codes "/WEB-INF/tags/t.tag") 1 48) ∷ [])) ∷ []) []),
    ) ∷ []

-- a variable that is absent in the tag file is removed at the caller
abbrev pub AbsentAtBegin : Type 0
AbsentAtBegin =
    seen (respond (paged_in absent_at_begin_pages) (get (codes "/a.jsp")) None (tells null ∷ tells null ∷ []))
    ≡ Some (html (codes "()"), fetch (codes "/a.jsp") ∷ app (step.Get (codes "w")) ∷ app (step.Get (codes "w")) ∷ [], 9, 350, None)

-- /WEB-INF/tags/t.tag: <jsp:forward page="/f.txt"/>
-- /a.jsp: lost<t:t>x</t:t>
-- /f.txt: F
abbrev pub forward_in_tag_pages : List (List ℕ × Paged)
forward_in_tag_pages =
    (codes "/WEB-INF/tags/t.tag", plain (codes "<jsp:forward page=\"/f.txt\"/>"))
    ∷ (
      codes "/a.jsp",
      good
          (page (codes "/a.jsp")
          (in_order
          (template (codes "lost") (column 123)
          ∷ call (codes "/WEB-INF/tags/t.tag") no_attributes (given_body (codes "x") (in_order (template (codes "x") (column 132) ∷ []))) (column 127) ∷ []))
          plain_settings
          (tag_file (codes "/WEB-INF/tags/t.tag") (record { attributes = []; variables = []; body = body_kind.Scriptless; dynamic = None })
          with_session
          (in_order
          (forward (written (codes "page") (words (codes "/f.txt") ∷ []) (at (codes "/WEB-INF/tags/t.tag") 1 20) no_attributes) no_params
          (at (codes "/WEB-INF/tags/t.tag") 1 1) ∷ [])) ∷ []) []),
    )
    ∷ (codes "/f.txt", plain (codes "F")) ∷ []

-- a forward in a tag file ends the page
abbrev pub ForwardInTag : Type 0
ForwardInTag =
    seen (respond (paged_in forward_in_tag_pages) (get (codes "/a.jsp")) None [])
    ≡ Some (response status_is.Ok (Some (codes "text/plain;charset=UTF-8")) None None [] (codes "F") false, fetch (codes "/a.jsp") ∷ [], 3, 172, None)
