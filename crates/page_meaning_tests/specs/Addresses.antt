-- Addresses, redirects and imports.
use Rattle.el_reader.specs.Tree as tree
use Rattle.http_out.specs.declared.status.Status.TheVariants as status_is
use Rattle.page_meaning.specs.Context.{Paged, good}
use Rattle.page_meaning.specs.Page.{words, expression, template, shown, catch, import, url, redirect, no_nodes, no_attributes, written, no_params, param}
use Rattle.page_meaning.specs.Respond.{respond}
use Rattle.site_words.specs.PageSteps.{fetch}
use Rattle.page_meaning_tests.specs.Pages.{at, column, in_order, variable, plain_page, paged_in, get, response, html, line, seen, alone}
use Rattle.pg_value.specs.Datum.{text}
use Rattle.std.specs.Prelude.{◌≡◌, ℕ, List, [], ◌∷◌, codes, false, Some, None}

-- /a.jsp: <c:url value="/a.jsp"><c:param name="q" value="x y&z"/></c:url>
abbrev pub url_params_pages : List (List ℕ × Paged)
url_params_pages =
    alone
    (url None (written (codes "value") (words (codes "/a.jsp") ∷ []) (column 144) no_attributes)
    (param
    (written (codes "name") (words (codes "q") ∷ []) (column 167)
    (written (codes "value") (words (codes "x y&z") ∷ []) (column 177) no_attributes)) no_nodes (column 152) no_params) (column 130) ∷ [])

-- `c:url` with a param
abbrev pub UrlParams : Type 0
UrlParams =
    seen (respond (paged_in url_params_pages) (get (codes "/a.jsp")) None []) ≡ Some (html (codes "/a.jsp?q=x+y%26z"), fetch (codes "/a.jsp") ∷ [], 2, 172, None)

-- /a.jsp: <c:redirect url="/b.jsp"/>
abbrev pub redirect_pages : List (List ℕ × Paged)
redirect_pages = alone (redirect (written (codes "url") (words (codes "/b.jsp") ∷ []) (column 147) no_attributes) no_params (column 130) ∷ [])

-- a redirect
abbrev pub Redirect : Type 0
Redirect =
    seen (respond (paged_in redirect_pages) (get (codes "/a.jsp")) None [])
    ≡ Some (response status_is.Found None (Some (codes "/b.jsp")) None [] [] false, fetch (codes "/a.jsp") ∷ [], 1, 172, None)

-- /a.jsp: <c:redirect url="${param.u}"/>
abbrev pub redirect_control_pages : List (List ℕ × Paged)
redirect_control_pages =
    alone
    (redirect
    (written (codes "url") (expression (tree.index (tree.name (codes "param")) (tree.literal (text (codes "u")))) ∷ []) (column 147)
    no_attributes)
    no_params
    (column 130) ∷ [])

-- X15 of a location with a control byte
abbrev pub RedirectControl : Type 0
RedirectControl =
    seen (respond (paged_in redirect_control_pages) (get (codes "/a.jsp?u=a%0Ab")) None [])
    ≡ Some (line status_is.InternalServerError (codes "X15 BadUrl /a.jsp:1:130"), fetch (codes "/a.jsp") ∷ [], 4, 172, None)

-- /a.jsp: <c:url value="/x?y" var="u"><c:param name="" value="1"/><c:param name="a"> b </c:param></c:url>${u}
abbrev pub url_variable_pages : List (List ℕ × Paged)
url_variable_pages =
    alone
    (url (Some (variable (codes "u") None)) (written (codes "value") (words (codes "/x?y") ∷ []) (column 144) no_attributes)
    (param (written (codes "name") [] (column 173) (written (codes "value") (words (codes "1") ∷ []) (column 182) no_attributes)) no_nodes
    (column 158)
    (param (written (codes "name") (words (codes "a") ∷ []) (column 201) no_attributes) (in_order (template (codes " b ") (column 204) ∷ []))
    (column 186) no_params)) (column 130)
    ∷ shown (tree.name (codes "u")) (column 225) ∷ [])

-- `c:url` into a variable; a param with an empty name does nothing
abbrev pub UrlVariable : Type 0
UrlVariable =
    seen (respond (paged_in url_variable_pages) (get (codes "/a.jsp")) None []) ≡ Some (html (codes "/x?y&a=b"), fetch (codes "/a.jsp") ∷ [], 6, 172, None)

-- /a.jsp: <c:catch var="e"><c:import url="http://x/"/></c:catch>${e.code}<c:import url="b.jsp"><c:param name="n" value="ä 1"/></c:import>
-- /b.jsp: ${param.n}
abbrev pub import_remote_pages : List (List ℕ × Paged)
import_remote_pages = (
  codes "/a.jsp",
  good
      (plain_page (codes "/a.jsp")
      (in_order
      (catch (Some (codes "e"))
      (in_order (import None (written (codes "url") (words (codes "http://x/") ∷ []) (column 108) no_attributes) no_params (column 93) ∷ []))
      (column 76)
      ∷ shown (tree.index (tree.name (codes "e")) (tree.literal (text (codes "code")))) (column 130)
      ∷ import None (written (codes "url") (words (codes "b.jsp") ∷ []) (column 154) no_attributes)
      (param
      (written (codes "name") (words (codes "n") ∷ []) (column 176)
      (written (codes "value") (words (195 ∷ 164 ∷ 32 ∷ 49 ∷ []) ∷ []) (column 186) no_attributes)) no_nodes (column 161)
      no_params) (column 139) ∷ []))),
)
    ∷ (
      codes "/b.jsp",
      good
          (plain_page (codes "/b.jsp")
          (in_order (shown (tree.index (tree.name (codes "param")) (tree.literal (text (codes "n")))) (at (codes "/b.jsp") 1 28) ∷ []))),
    ) ∷ []

-- X15 of `://`; params of an import come before those of the request
abbrev pub ImportRemote : Type 0
ImportRemote =
    seen (respond (paged_in import_remote_pages) (get (codes "/a.jsp")) None [])
    ≡ Some (html (88 ∷ 49 ∷ 53 ∷ 195 ∷ 164 ∷ 32 ∷ 49 ∷ []), fetch (codes "/a.jsp") ∷ fetch (codes "/b.jsp") ∷ [], 12, 344, None)
