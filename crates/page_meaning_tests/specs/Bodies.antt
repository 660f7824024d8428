-- Bodies and fragments of calls.
use Rattle.el_reader.specs.Tree as tree
use Rattle.page_meaning.specs.Context.{Paged, plain, good}
use Rattle.page_meaning.specs.Page.{words, expression, template, shown, set, catch, when_true, each, do_body, invoke, call, no_nodes, no_attributes, written, given, no_body, given_body}
use Rattle.page_meaning.specs.Respond.{respond}
use Rattle.site_words.specs.PageSteps.{app, fetch}
use Rattle.page_meaning_tests.specs.Pages.{at, column, in_order, variable, plain_settings, with_session, page, tag_file, paged_in, get, tells, html, seen}
use Rattle.pg_value.specs.Datum.{null, number, text}
use Rattle.pg_value.specs.declared.operators.BinOp.TheVariants as binary_op
use Rattle.pg_value.specs.declared.scope.Scope.TheVariants as scope
use Rattle.site_words.specs.declared.words.AppStep.TheVariants as step
use Rattle.std.specs.Prelude.{◌≡◌, ℕ, List, [], ◌∷◌, codes, true, false, Some, None, pos}
use Rattle.tag_decl.specs.declared.declaration.AttrKind.TheVariants as kind
use Rattle.tag_decl.specs.declared.declaration.BodyKind.TheVariants as body_kind
use Rattle.tag_decl.specs.declared.declaration.VarScope.TheVariants as var_scope

-- /WEB-INF/tags/each.tag: <%@ taglib prefix="c" uri="jakarta.tags.core" %><%@ attribute name="items" type="java.lang.Object" %><%@ variable name-given="x" scope="NESTED"
--     %><c:forEach items="${items}" var="x"><jsp:doBody/></c:forEach>
-- /a.jsp: <c:set var="x" value="old"/><t:each items="${[1, 2]}">${x}${items};</t:each>${x}
abbrev pub body_in_callers_frame_pages : List (List ℕ × Paged)
body_in_callers_frame_pages = (
  codes "/WEB-INF/tags/each.tag",
  plain
      (codes
      "<%@ taglib prefix=\"c\" uri=\"jakarta.tags.core\" %><%@ attribute name=\"items\" type=\"java.lang.Object\" %><%@ variable name-given=\"x\" scope=\"NESTED\" %><c:forEach items=\"${items}\" var=\"x\"><jsp:doBody/></c:forEach>"),
)
    ∷ (
      codes "/a.jsp",
      good
          (page (codes "/a.jsp")
          (in_order
          (set (variable (codes "x") None) (written (codes "value") (words (codes "old") ∷ []) (column 145) no_attributes) no_nodes (column 123)
          ∷ call (codes "/WEB-INF/tags/each.tag")
          (written (codes "items")
          (expression
          (tree.list (tree.more_trees (tree.literal (number (pos 1))) (tree.more_trees (tree.literal (number (pos 2))) tree.no_trees))) ∷ [])
          (column 166) no_attributes)
          (given_body (codes "${x}${items};")
          (in_order
          (shown (tree.name (codes "x")) (column 176)
          ∷ shown (tree.name (codes "items")) (column 180)
          ∷ template (codes ";") (column 188) ∷ []))) (column 151)
          ∷ shown (tree.name (codes "x")) (column 198) ∷ [])) plain_settings
          (tag_file (codes "/WEB-INF/tags/each.tag")
          (record {
            attributes = record { name = codes "items"; required = false; fragment = false; expression = true; kind = kind.Any } ∷ [];
            variables = record { name = codes "x"; from = None; scope = var_scope.Nested } ∷ [];
            body = body_kind.Scriptless;
            dynamic = None;
          }) with_session
          (in_order
          (each (Some (codes "x")) None
          (written (codes "items") (expression (tree.name (codes "items")) ∷ []) (at (codes "/WEB-INF/tags/each.tag") 1 165) no_attributes)
          (in_order (do_body None (at (codes "/WEB-INF/tags/each.tag") 1 183) ∷ [])) (at (codes "/WEB-INF/tags/each.tag") 1 147) ∷ [])) ∷ [])
          []),
    ) ∷ []

-- a body runs in the caller's frame, and a NESTED variable is given back
abbrev pub BodyInCallersFrame : Type 0
BodyInCallersFrame =
    seen (respond (paged_in body_in_callers_frame_pages) (get (codes "/a.jsp")) None (tells null ∷ tells null ∷ []))
    ≡ Some (html (codes "1;2;old"), fetch (codes "/a.jsp") ∷ app (step.Get (codes "items")) ∷ app (step.Get (codes "items")) ∷ [], 23, 358, None)

-- /WEB-INF/tags/t.tag: <%@ taglib prefix="c" uri="jakarta.tags.core" %><%@ attribute name="f" fragment="true" %><%@ variable name-given="w" scope="AT_BEGIN" %><c:set
--     var="w" value="1"/><jsp:invoke fragment="f"/><c:set var="w" value="2"/><jsp:doBody var="k"/>[${k}]<jsp:invoke fragment="f" var="q"
--     scope="request"/>${q}
-- /a.jsp: <c:set var="v" value="p"/><t:t><jsp:attribute name="f"> ${v}${w} </jsp:attribute><jsp:body>b${v}</jsp:body></t:t>${w}
abbrev pub fragments_pages : List (List ℕ × Paged)
fragments_pages = (
  codes "/WEB-INF/tags/t.tag",
  plain
      (codes
      "<%@ taglib prefix=\"c\" uri=\"jakarta.tags.core\" %><%@ attribute name=\"f\" fragment=\"true\" %><%@ variable name-given=\"w\" scope=\"AT_BEGIN\" %><c:set var=\"w\" value=\"1\"/><jsp:invoke fragment=\"f\"/><c:set var=\"w\" value=\"2\"/><jsp:doBody var=\"k\"/>[${k}]<jsp:invoke fragment=\"f\" var=\"q\" scope=\"request\"/>${q}"),
)
    ∷ (
      codes "/a.jsp",
      good
          (page (codes "/a.jsp")
          (in_order
          (set (variable (codes "v") None) (written (codes "value") (words (codes "p") ∷ []) (column 145) no_attributes) no_nodes (column 123)
          ∷ call (codes "/WEB-INF/tags/t.tag")
          (given (codes "f") true
          (in_order
          (template (codes " ") (column 178)
          ∷ shown (tree.name (codes "v")) (column 179)
          ∷ shown (tree.name (codes "w")) (column 183)
          ∷ template (codes " ") (column 187) ∷ [])) (column 154) no_attributes)
          (given_body (codes "b${v}") (in_order (template (codes "b") (column 214) ∷ shown (tree.name (codes "v")) (column 215) ∷ [])))
          (column 149)
          ∷ shown (tree.name (codes "w")) (column 236) ∷ [])) plain_settings
          (tag_file (codes "/WEB-INF/tags/t.tag")
          (record {
            attributes = record { name = codes "f"; required = false; fragment = true; expression = true; kind = kind.Text } ∷ [];
            variables = record { name = codes "w"; from = None; scope = var_scope.AtBegin } ∷ [];
            body = body_kind.Scriptless;
            dynamic = None;
          }) with_session
          (in_order
          (set (variable (codes "w") None)
          (written (codes "value") (words (codes "1") ∷ []) (at (codes "/WEB-INF/tags/t.tag") 1 159) no_attributes) no_nodes
          (at (codes "/WEB-INF/tags/t.tag") 1 137)
          ∷ invoke (codes "f") None (at (codes "/WEB-INF/tags/t.tag") 1 163)
          ∷ set (variable (codes "w") None)
          (written (codes "value") (words (codes "2") ∷ []) (at (codes "/WEB-INF/tags/t.tag") 1 211) no_attributes) no_nodes
          (at (codes "/WEB-INF/tags/t.tag") 1 189)
          ∷ do_body (Some (variable (codes "k") None)) (at (codes "/WEB-INF/tags/t.tag") 1 215)
          ∷ template (codes "[") (at (codes "/WEB-INF/tags/t.tag") 1 236)
          ∷ shown (tree.name (codes "k")) (at (codes "/WEB-INF/tags/t.tag") 1 237)
          ∷ template (codes "]") (at (codes "/WEB-INF/tags/t.tag") 1 241)
          ∷ invoke (codes "f") (Some (variable (codes "q") (Some scope.Request))) (at (codes "/WEB-INF/tags/t.tag") 1 242)
          ∷ shown (tree.name (codes "q")) (at (codes "/WEB-INF/tags/t.tag") 1 292) ∷ [])) ∷ []) []),
    ) ∷ []

-- a fragment runs in the caller's frame, with its white space
abbrev pub Fragments : Type 0
Fragments =
    seen (respond (paged_in fragments_pages) (get (codes "/a.jsp")) None []) ≡ Some (html (codes " p1 [bp] p2 2"), fetch (codes "/a.jsp") ∷ [], 30, 172, None)

-- /WEB-INF/tags/t.tag: <%@ tag body-content="tagdependent" %>[<jsp:doBody/>]
-- /a.jsp: <t:t>a${1}<c:if test="true"/></t:t>
abbrev pub dependent_body_pages : List (List ℕ × Paged)
dependent_body_pages =
    (codes "/WEB-INF/tags/t.tag", plain (codes "<%@ tag body-content=\"tagdependent\" %>[<jsp:doBody/>]"))
    ∷ (
      codes "/a.jsp",
      good
          (page (codes "/a.jsp")
          (in_order
          (call (codes "/WEB-INF/tags/t.tag") no_attributes
          (given_body (codes "a${1}<c:if test=\"true\"/>")
          (in_order
          (template (codes "a") (column 128)
          ∷ shown (tree.literal (number (pos 1))) (column 129)
          ∷ when_true None (written (codes "test") (words (codes "true") ∷ []) (column 145) no_attributes) no_nodes (column 133) ∷ [])))
          (column 123) ∷ [])) plain_settings
          (tag_file (codes "/WEB-INF/tags/t.tag") (record { attributes = []; variables = []; body = body_kind.TagDependent; dynamic = None })
          with_session
          (in_order
          (template (codes "[") (at (codes "/WEB-INF/tags/t.tag") 1 39)
          ∷ do_body None (at (codes "/WEB-INF/tags/t.tag") 1 40)
          ∷ template (codes "]") (at (codes "/WEB-INF/tags/t.tag") 1 53) ∷ [])) ∷ []) []),
    ) ∷ []

-- a `tagdependent` body is passed as it is written
abbrev pub DependentBody : Type 0
DependentBody =
    seen (respond (paged_in dependent_body_pages) (get (codes "/a.jsp")) None [])
    ≡ Some (html (codes "[a${1}<c:if test=\"true\"/>]"), fetch (codes "/a.jsp") ∷ [], 4, 172, None)

-- /WEB-INF/tags/t.tag: [<jsp:doBody/>]<jsp:doBody var="x"/>${x}
-- /a.jsp: <t:t/>|<t:t/>
abbrev pub no_body_pages : List (List ℕ × Paged)
no_body_pages =
    (codes "/WEB-INF/tags/t.tag", plain (codes "[<jsp:doBody/>]<jsp:doBody var=\"x\"/>${x}"))
    ∷ (
      codes "/a.jsp",
      good
          (page (codes "/a.jsp")
          (in_order
          (call (codes "/WEB-INF/tags/t.tag") no_attributes no_body (column 123)
          ∷ template (codes "|") (column 129)
          ∷ call (codes "/WEB-INF/tags/t.tag") no_attributes (given_body [] no_nodes) (column 130) ∷ [])) plain_settings
          (tag_file (codes "/WEB-INF/tags/t.tag") (record { attributes = []; variables = []; body = body_kind.Scriptless; dynamic = None })
          with_session
          (in_order
          (template (codes "[") (at (codes "/WEB-INF/tags/t.tag") 1 1)
          ∷ do_body None (at (codes "/WEB-INF/tags/t.tag") 1 2)
          ∷ template (codes "]") (at (codes "/WEB-INF/tags/t.tag") 1 15)
          ∷ do_body (Some (variable (codes "x") None)) (at (codes "/WEB-INF/tags/t.tag") 1 16)
          ∷ shown (tree.name (codes "x")) (at (codes "/WEB-INF/tags/t.tag") 1 37) ∷ [])) ∷ []) []),
    ) ∷ []

-- a body that wasn't given gives nothing
abbrev pub NoBody : Type 0
NoBody =
    seen (respond (paged_in no_body_pages) (get (codes "/a.jsp")) None []) ≡ Some (html (codes "[]|[]"), fetch (codes "/a.jsp") ∷ [], 15, 172, None)

-- /WEB-INF/tags/t.tag: <%@ taglib prefix="c" uri="jakarta.tags.core" %><c:set var="x" value="5"/><jsp:doBody/>
-- /a.jsp: <c:set var="x" value="0"/><c:catch var="e"><t:t><c:set var="x" value="1"/>${1 mod 0}</t:t></c:catch>${x}${e.code}
abbrev pub fault_in_body_pages : List (List ℕ × Paged)
fault_in_body_pages =
    (codes "/WEB-INF/tags/t.tag", plain (codes "<%@ taglib prefix=\"c\" uri=\"jakarta.tags.core\" %><c:set var=\"x\" value=\"5\"/><jsp:doBody/>"))
    ∷ (
      codes "/a.jsp",
      good
          (page (codes "/a.jsp")
          (in_order
          (set (variable (codes "x") None) (written (codes "value") (words (codes "0") ∷ []) (column 145) no_attributes) no_nodes (column 123)
          ∷ catch (Some (codes "e"))
          (in_order
          (call (codes "/WEB-INF/tags/t.tag") no_attributes
          (given_body (codes "<c:set var=\"x\" value=\"1\"/>${1 mod 0}")
          (in_order
          (set (variable (codes "x") None) (written (codes "value") (words (codes "1") ∷ []) (column 193) no_attributes) no_nodes
          (column 171)
          ∷ shown (tree.binary binary_op.Rem (tree.literal (number (pos 1))) (tree.literal (number (pos 0)))) (column 197) ∷ [])))
          (column 166) ∷ [])) (column 149)
          ∷ shown (tree.name (codes "x")) (column 223)
          ∷ shown (tree.index (tree.name (codes "e")) (tree.literal (text (codes "code")))) (column 227) ∷ [])) plain_settings
          (tag_file (codes "/WEB-INF/tags/t.tag") (record { attributes = []; variables = []; body = body_kind.Scriptless; dynamic = None })
          with_session
          (in_order
          (set (variable (codes "x") None)
          (written (codes "value") (words (codes "5") ∷ []) (at (codes "/WEB-INF/tags/t.tag") 1 71) no_attributes) no_nodes
          (at (codes "/WEB-INF/tags/t.tag") 1 49)
          ∷ do_body None (at (codes "/WEB-INF/tags/t.tag") 1 75) ∷ [])) ∷ []) []),
    ) ∷ []

-- a fault in a body keeps what was set before it
abbrev pub FaultInBody : Type 0
FaultInBody =
    seen (respond (paged_in fault_in_body_pages) (get (codes "/a.jsp")) None []) ≡ Some (html (codes "1X3"), fetch (codes "/a.jsp") ∷ [], 16, 172, None)

-- /WEB-INF/tags/t.tag: <%@ taglib prefix="c" uri="jakarta.tags.core" %><c:set var="x" value="5"/><c:catch var="e"><jsp:doBody/></c:catch>${x}${e.message}
-- /a.jsp: <c:set var="x" value="0"/><t:t><c:set var="x" value="1"/>${1 mod 0}</t:t>${x}
abbrev pub caught_inside_pages : List (List ℕ × Paged)
caught_inside_pages = (
  codes "/WEB-INF/tags/t.tag",
  plain
      (codes
      "<%@ taglib prefix=\"c\" uri=\"jakarta.tags.core\" %><c:set var=\"x\" value=\"5\"/><c:catch var=\"e\"><jsp:doBody/></c:catch>${x}${e.message}"),
)
    ∷ (
      codes "/a.jsp",
      good
          (page (codes "/a.jsp")
          (in_order
          (set (variable (codes "x") None) (written (codes "value") (words (codes "0") ∷ []) (column 145) no_attributes) no_nodes (column 123)
          ∷ call (codes "/WEB-INF/tags/t.tag") no_attributes
          (given_body (codes "<c:set var=\"x\" value=\"1\"/>${1 mod 0}")
          (in_order
          (set (variable (codes "x") None) (written (codes "value") (words (codes "1") ∷ []) (column 176) no_attributes) no_nodes (column 154)
          ∷ shown (tree.binary binary_op.Rem (tree.literal (number (pos 1))) (tree.literal (number (pos 0)))) (column 180) ∷ [])))
          (column 149)
          ∷ shown (tree.name (codes "x")) (column 196) ∷ [])) plain_settings
          (tag_file (codes "/WEB-INF/tags/t.tag") (record { attributes = []; variables = []; body = body_kind.Scriptless; dynamic = None })
          with_session
          (in_order
          (set (variable (codes "x") None)
          (written (codes "value") (words (codes "5") ∷ []) (at (codes "/WEB-INF/tags/t.tag") 1 71) no_attributes) no_nodes
          (at (codes "/WEB-INF/tags/t.tag") 1 49)
          ∷ catch (Some (codes "e")) (in_order (do_body None (at (codes "/WEB-INF/tags/t.tag") 1 92) ∷ [])) (at (codes "/WEB-INF/tags/t.tag") 1 75)
          ∷ shown (tree.name (codes "x")) (at (codes "/WEB-INF/tags/t.tag") 1 115)
          ∷ shown (tree.index (tree.name (codes "e")) (tree.literal (text (codes "message")))) (at (codes "/WEB-INF/tags/t.tag") 1 119) ∷ [])) ∷ [])
          []),
    ) ∷ []

-- a fault of the caller's body that the tag file catches
abbrev pub CaughtInside : Type 0
CaughtInside =
    seen (respond (paged_in caught_inside_pages) (get (codes "/a.jsp")) None [])
    ≡ Some (html (codes "5X3 ZeroDivisor /a.jsp:1:1801"), fetch (codes "/a.jsp") ∷ [], 18, 172, None)

-- /WEB-INF/tags/n.tag: <jsp:doBody/><jsp:doBody/>
-- /WEB-INF/tags/o.tag: <%@ taglib prefix="t" tagdir="/WEB-INF/tags" %><t:n>(<jsp:doBody/>)</t:n>
-- /a.jsp: <t:o>i</t:o>
abbrev pub nested_bodies_pages : List (List ℕ × Paged)
nested_bodies_pages =
    (codes "/WEB-INF/tags/n.tag", plain (codes "<jsp:doBody/><jsp:doBody/>"))
    ∷ (codes "/WEB-INF/tags/o.tag", plain (codes "<%@ taglib prefix=\"t\" tagdir=\"/WEB-INF/tags\" %><t:n>(<jsp:doBody/>)</t:n>"))
    ∷ (
      codes "/a.jsp",
      good
          (page (codes "/a.jsp")
          (in_order
          (call (codes "/WEB-INF/tags/o.tag") no_attributes (given_body (codes "i") (in_order (template (codes "i") (column 128) ∷ []))) (column 123) ∷ []))
          plain_settings
          (tag_file (codes "/WEB-INF/tags/o.tag") (record { attributes = []; variables = []; body = body_kind.Scriptless; dynamic = None })
          with_session
          (in_order
          (call (codes "/WEB-INF/tags/n.tag") no_attributes
          (given_body (codes "(<jsp:doBody/>)")
          (in_order
          (template (codes "(") (at (codes "/WEB-INF/tags/o.tag") 1 53)
          ∷ do_body None (at (codes "/WEB-INF/tags/o.tag") 1 54)
          ∷ template (codes ")") (at (codes "/WEB-INF/tags/o.tag") 1 67) ∷ []))) (at (codes "/WEB-INF/tags/o.tag") 1 48) ∷ []))
          ∷ tag_file (codes "/WEB-INF/tags/n.tag") (record { attributes = []; variables = []; body = body_kind.Scriptless; dynamic = None })
          with_session (in_order (do_body None (at (codes "/WEB-INF/tags/n.tag") 1 1) ∷ do_body None (at (codes "/WEB-INF/tags/n.tag") 1 14) ∷ [])) ∷ [])
          []),
    ) ∷ []

-- a body within a body
abbrev pub NestedBodies : Type 0
NestedBodies =
    seen (respond (paged_in nested_bodies_pages) (get (codes "/a.jsp")) None []) ≡ Some (html (codes "(i)(i)"), fetch (codes "/a.jsp") ∷ [], 12, 172, None)
