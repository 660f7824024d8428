-- Worked pages with their ends: how each ended, what it wrote, the steps that it asked, its visits, and the bodies that are kept.
use Rattle.std.specs.Prelude.{ℕ, true, false, List, [], ◌∷◌, codes, Some, None}
use Rattle.el_reader.specs.Tree as tree
use Rattle.code_lowering_tests.specs.Words.{at, in_order, text_given, value_given, numeral, no_remainder, page, tag_file, Ends}
use Rattle.page_meaning.specs.Context.{Paged, good}
use Rattle.page_meaning.specs.Page.{template, shown, out, set, catch, choose, each, include, do_body, invoke, call, no_nodes, no_attributes, given, no_params, param, when, otherwise, no_branches, given_body, Page}
use Rattle.page_table_tests.specs.Codes.{column}
use Rattle.page_table_tests.specs.Steps.{well, fault}
use Rattle.pg_value.specs.Datum.{null, text}
use Rattle.pg_value.specs.Value.{value_of}
use Rattle.pg_value.specs.declared.operators.BinOp.TheVariants as binary
use Rattle.site_words.specs.Law.{told}
use Rattle.site_words.specs.PageSteps.{app, fetch}
use Rattle.site_words.specs.declared.words.AppReply.TheVariants as reply
use Rattle.site_words.specs.declared.words.AppStep.TheVariants as step
use Rattle.tag_decl.specs.declared.declaration.AttrKind.TheVariants as kind
use Rattle.tag_decl.specs.declared.declaration.BodyKind.TheVariants as body_kind

-- <c:forEach begin="1" end="3" var="i"><c:choose><c:when test="${i == 2}">two</c:when><c:otherwise>${i}</c:otherwise></c:choose>,</c:forEach>${i}
abbrev pub each_page : Page
each_page =
    page (codes "/a.jsp")
    (each (Some (codes "i")) None (text_given (codes "begin") (codes "1") (column 2) (text_given (codes "end") (codes "3") (column 3) no_attributes))
    (in_order
    (choose
    (when (value_given (codes "test") (tree.binary binary.Eq (tree.name (codes "i")) (numeral 2)) (column 5) no_attributes)
    (in_order (template (codes "two") (column 6) ∷ [])) (column 5)
    (otherwise (in_order (shown (tree.name (codes "i")) (column 8) ∷ [])) (column 7) no_branches)) (column 4)
    ∷ template (codes ",") (column 9) ∷ [])) (column 1)
    ∷ shown (tree.name (codes "i")) (column 10) ∷ []) []

-- a loop over numbers with a choice in each round; behind it the site is asked for its variable
abbrev pub EachNumber : Type 0
EachNumber = Ends [] each_page (told (reply.Value (value_of (text (codes "!")))) ∷ []) 100 (well, codes "1,two,3,!", app (step.Get (codes "i")) ∷ [], 31, [])

-- <c:catch var="x"><c:set var="y">a${1 % 0}</c:set></c:catch>${x.code}<c:out value="${null}"> <b> </c:out>
abbrev pub catch_page : Page
catch_page =
    page (codes "/a.jsp")
    (catch (Some (codes "x"))
    (in_order
    (set (record { name = codes "y"; scope = None }) no_attributes (in_order (template (codes "a") (column 3) ∷ shown no_remainder (column 4) ∷ [])) (column 2) ∷ [])) (column 1)
    ∷ shown (tree.index (tree.name (codes "x")) (tree.literal (text (codes "code")))) (column 5)
    ∷ out (value_given (codes "value") (tree.literal null) (column 7) no_attributes) (in_order (template (codes " <b> ") (column 8) ∷ [])) (column 6) ∷ []) []

-- a catch takes a fault in a body that is kept, and the body goes; the body of an output is trimmed and escaped
abbrev pub Caught : Type 0
Caught = Ends [] catch_page [] 100 (well, codes "X3&lt;b&gt;", [], 14, [])

-- /WEB-INF/tags/t.tag, with a fragment `f` and a text `a`: ${a}(<jsp:invoke fragment="f"/>)<jsp:doBody/>
-- /a.jsp, with an expression in the fragment: <t:t a="1"><jsp:attribute name="f">b${..}</jsp:attribute><jsp:body>c</jsp:body></t:t>
abbrev pub call_page : (in_fragment : tree.Tree) → Page
call_page e =
    page (codes "/a.jsp")
    (call (codes "/WEB-INF/tags/t.tag")
    (text_given (codes "a") (codes "1") (column 2) (given (codes "f") true (in_order (template (codes "b") (column 4) ∷ shown e (column 5) ∷ [])) (column 3) no_attributes))
    (given_body (codes "c") (in_order (template (codes "c") (column 6) ∷ []))) (column 1) ∷ [])
    (tag_file (codes "/WEB-INF/tags/t.tag")
    (record {
      attributes = record { name = codes "a"; required = false; fragment = false; expression = true; kind = kind.Text }
          ∷ record { name = codes "f"; required = false; fragment = true; expression = true; kind = kind.Text } ∷ [];
      variables = [];
      body = body_kind.Scriptless;
      dynamic = None;
    })
    (shown (tree.name (codes "a")) (at (codes "/WEB-INF/tags/t.tag") 11) ∷ template (codes "(") (at (codes "/WEB-INF/tags/t.tag") 12)
    ∷ invoke (codes "f") None (at (codes "/WEB-INF/tags/t.tag") 13)
    ∷ template (codes ")") (at (codes "/WEB-INF/tags/t.tag") 14) ∷ do_body None (at (codes "/WEB-INF/tags/t.tag") 15) ∷ []) ∷ [])

-- a call with a fragment and a body
abbrev pub Called : Type 0
Called = Ends [] (call_page (numeral 7)) [] 2 (well, codes "1(b7)c", [], 11, [])

-- a fault in the fragment stands where the fragment stands, and where no level is left for the fragment at the action that invokes it
abbrev pub FaultInFragment : Type 0
FaultInFragment = Ends [] (call_page no_remainder) [] 2 (fault 3 5, codes "1(b", [], 10, [])

abbrev pub NoLevel : Type 0
NoLevel = Ends [] (call_page (numeral 7)) [] 1 (fault 17 13, codes "1(", [], 5, [])

-- /a.jsp: [<jsp:include page="/b.jsp"><jsp:param name="n" value="v"/></jsp:include>]
-- /b.jsp, with another expression behind the parameter: ${param.n}${..}
abbrev pub include_page : Page
include_page =
    page (codes "/a.jsp")
    (template (codes "[") (column 1)
    ∷ include false (text_given (codes "page") (codes "/b.jsp") (column 3) no_attributes)
    (param (text_given (codes "name") (codes "n") (column 5) (text_given (codes "value") (codes "v") (column 6) no_attributes)) no_nodes (column 4) no_params) (column 2)
    ∷ template (codes "]") (column 7) ∷ []) []

abbrev pub included : (behind : tree.Tree) → List (List ℕ × Paged)
included e =
    (codes "/b.jsp", good (page (codes "/b.jsp") (shown (tree.index (tree.name (codes "param")) (tree.literal (text (codes "n")))) (at (codes "/b.jsp") 8) ∷ shown e (at (codes "/b.jsp") 9) ∷ []) [])) ∷ []

-- an include with a param
abbrev pub Included : Type 0
Included = Ends (included (numeral 5)) include_page [] 1 (well, codes "[v5]", fetch (codes "/b.jsp") ∷ [], 10, [])

-- the fault of an included page stands at the include
abbrev pub FaultIncluded : Type 0
FaultIncluded = Ends (included no_remainder) include_page [] 1 (fault 3 2, codes "[v", fetch (codes "/b.jsp") ∷ [], 11, [])
