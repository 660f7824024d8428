-- Implicit objects, scopes and sessions.
use Rattle.el_reader.specs.Tree as tree
use Rattle.http_in.specs.Request.{request_of}
use Rattle.http_out.specs.declared.status.Status.TheVariants as status_is
use Rattle.page_meaning.specs.Context.{Paged, good}
use Rattle.page_meaning.specs.Page.{words, expression, shown, set, catch, no_nodes, no_attributes, written}
use Rattle.page_meaning.specs.Respond.{respond}
use Rattle.site_words.specs.PageSteps.{app, fresh, fetch}
use Rattle.page_meaning_tests.specs.Pages.{at, column, in_order, variable, settings, with_session, page, paged_in, get, field, tells, tells_done, response, html, seen, awaited, alone}
use Rattle.pg_value.specs.Datum.{null, number, text, list, rec, no_items, item, no_entries, entry}
use Rattle.pg_value.specs.Value.{value_of}
use Rattle.pg_value.specs.declared.operators.BinOp.TheVariants as binary_op
use Rattle.pg_value.specs.declared.scope.Scope.TheVariants as scope
use Rattle.site_words.specs.Law.{id}
use Rattle.site_words.specs.declared.words.AppStep.TheVariants as step
use Rattle.std.specs.Prelude.{◌≡◌, ℕ, List, [], ◌∷◌, codes, true, false, Some, None, pos}

-- /s.jsp: <c:set var="n" scope="session" value="${n += 1}"/>${n}
abbrev pub session_starts_pages : List (List ℕ × Paged)
session_starts_pages = (
  codes "/s.jsp",
  good
      (page (codes "/s.jsp")
      (in_order
      (set (variable (codes "n") (Some scope.Session))
      (written (codes "value") (expression (tree.binary binary_op.Join (tree.name (codes "n")) (tree.literal (number (pos 1)))) ∷ [])
      (at (codes "/s.jsp") 1 71) no_attributes) no_nodes (at (codes "/s.jsp") 1 49)
      ∷ shown (tree.name (codes "n")) (at (codes "/s.jsp") 1 99) ∷ [])) with_session [] []),
) ∷ []

-- a page run starts a session, whose id goes with the response
abbrev pub SessionStarts : Type 0
SessionStarts =
    seen
    (respond (paged_in session_starts_pages) (get (codes "/s.jsp")) None
    (id (codes "0000000000000000ade0b876903df1a0e56a5d4028bd8653") ∷ tells null ∷ []))
    ≡ Some (
      response status_is.Ok (Some (codes "text/html;charset=UTF-8")) None (Some (codes "0000000000000000ade0b876903df1a0e56a5d4028bd8653")) []
          (codes "1") false,
      fetch (codes "/s.jsp") ∷ fresh ∷ app (step.Get (codes "n")) ∷ [],
      6,
      261,
      Some ((codes "n", text (codes "1")) ∷ []),
    )

-- the new session is the first step of the page run
abbrev pub SessionAwaits : Type 0
SessionAwaits = awaited (respond (paged_in session_starts_pages) (get (codes "/s.jsp")) None []) ≡ Some fresh

-- /s.jsp: <c:set var="n" scope="session" value="${n += 1}"/>${n}
abbrev pub session_goes_on_pages : List (List ℕ × Paged)
session_goes_on_pages = (
  codes "/s.jsp",
  good
      (page (codes "/s.jsp")
      (in_order
      (set (variable (codes "n") (Some scope.Session))
      (written (codes "value") (expression (tree.binary binary_op.Join (tree.name (codes "n")) (tree.literal (number (pos 1)))) ∷ [])
      (at (codes "/s.jsp") 1 71) no_attributes) no_nodes (at (codes "/s.jsp") 1 49)
      ∷ shown (tree.name (codes "n")) (at (codes "/s.jsp") 1 99) ∷ [])) with_session [] []),
) ∷ []

-- a session that was found keeps its attributes, and no cookie is set
abbrev pub SessionGoesOn : Type 0
SessionGoesOn =
    seen
    (respond (paged_in session_goes_on_pages) (get (codes "/s.jsp"))
    (Some (codes "0000000000000000ade0b876903df1a0e56a5d4028bd8653", (codes "n", number (pos 1)) ∷ [])) [])
    ≡ Some (html (codes "11"), fetch (codes "/s.jsp") ∷ [], 6, 172, Some ((codes "n", text (codes "11")) ∷ []))

-- /a.jsp: ${param}${paramValues.a}${header['X-A']}${headerValues['x-a']}${cookie.k.value}${initParam}${pageContext.request.method}${pageContext.request.queryStr
--     ing}${pageContext.request.requestURI}${pageContext.session}${pageContext.exception}
abbrev pub implicit_objects_pages : List (List ℕ × Paged)
implicit_objects_pages =
    alone
    (shown (tree.name (codes "param")) (column 130)
    ∷ shown (tree.index (tree.name (codes "paramValues")) (tree.literal (text (codes "a")))) (column 138)
    ∷ shown (tree.index (tree.name (codes "header")) (tree.literal (text (codes "X-A")))) (column 154)
    ∷ shown (tree.index (tree.name (codes "headerValues")) (tree.literal (text (codes "x-a")))) (column 170)
    ∷ shown (tree.index (tree.index (tree.name (codes "cookie")) (tree.literal (text (codes "k")))) (tree.literal (text (codes "value"))))
    (column 192)
    ∷ shown (tree.name (codes "initParam")) (column 209)
    ∷ shown
    (tree.index (tree.index (tree.name (codes "pageContext")) (tree.literal (text (codes "request")))) (tree.literal (text (codes "method"))))
    (column 221)
    ∷ shown
    (tree.index (tree.index (tree.name (codes "pageContext")) (tree.literal (text (codes "request"))))
    (tree.literal (text (codes "queryString"))))
    (column 250)
    ∷ shown
    (tree.index (tree.index (tree.name (codes "pageContext")) (tree.literal (text (codes "request")))) (tree.literal (text (codes "requestURI"))))
    (column 284)
    ∷ shown (tree.index (tree.name (codes "pageContext")) (tree.literal (text (codes "session")))) (column 317)
    ∷ shown (tree.index (tree.name (codes "pageContext")) (tree.literal (text (codes "exception")))) (column 339) ∷ [])

-- the implicit objects, and the visits of their keys
abbrev pub ImplicitObjects : Type 0
ImplicitObjects =
    seen
    (respond (paged_in implicit_objects_pages)
    (request_of (codes "GET") (codes "/a.jsp?a=1&a=2&b=%C3%A4")
    (field (codes "x-a") (codes "1") ∷ field (codes "x-a") (50 ∷ 255 ∷ []) ∷ field (codes "cookie") (codes " k=v; k=w;z") ∷ []) []) None
    [])
    ≡ Some (
      html
          (123
          ∷ 97
          ∷ 61
          ∷ 49
          ∷ 44
          ∷ 32
          ∷ 98
          ∷ 61
          ∷ 195
          ∷ 164
          ∷ 125
          ∷ 91
          ∷ 49
          ∷ 44
          ∷ 32
          ∷ 50
          ∷ 93
          ∷ 49
          ∷ 91
          ∷ 49
          ∷ 44
          ∷ 32
          ∷ 50
          ∷ 239
          ∷ 191
          ∷ 189
          ∷ 93
          ∷ 118
          ∷ 123
          ∷ 125
          ∷ 71
          ∷ 69
          ∷ 84
          ∷ 97
          ∷ 61
          ∷ 49
          ∷ 38
          ∷ 97
          ∷ 61
          ∷ 50
          ∷ 38
          ∷ 98
          ∷ 61
          ∷ 37
          ∷ 67
          ∷ 51
          ∷ 37
          ∷ 65
          ∷ 52
          ∷ 47
          ∷ 97
          ∷ 46
          ∷ 106
          ∷ 115
          ∷ 112 ∷ []),
      fetch (codes "/a.jsp") ∷ [],
      48,
      172,
      None,
    )

-- /a.jsp: <c:set var="a" value="1"/><c:set var="b" scope="request" value="2"/>${pageScope}${requestScope}${sessionScope}${pageScope.a}${pageScope[null]}${sessio
--     nScope.a}
abbrev pub scope_objects_pages : List (List ℕ × Paged)
scope_objects_pages =
    alone
    (set (variable (codes "a") None) (written (codes "value") (words (codes "1") ∷ []) (column 152) no_attributes) no_nodes (column 130)
    ∷ set (variable (codes "b") (Some scope.Request)) (written (codes "value") (words (codes "2") ∷ []) (column 178) no_attributes) no_nodes
    (column 156)
    ∷ shown (tree.name (codes "pageScope")) (column 198)
    ∷ shown (tree.name (codes "requestScope")) (column 210)
    ∷ shown (tree.name (codes "sessionScope")) (column 225)
    ∷ shown (tree.index (tree.name (codes "pageScope")) (tree.literal (text (codes "a")))) (column 240)
    ∷ shown (tree.index (tree.name (codes "pageScope")) (tree.literal null)) (column 254)
    ∷ shown (tree.index (tree.name (codes "sessionScope")) (tree.literal (text (codes "a")))) (column 272) ∷ [])

-- the scopes as objects
abbrev pub ScopeObjects : Type 0
ScopeObjects =
    seen (respond (paged_in scope_objects_pages) (get (codes "/a.jsp")) None []) ≡ Some (html (codes "{a=1}{b=2}{}1"), fetch (codes "/a.jsp") ∷ [], 20, 172, None)

-- /a.jsp: <c:set var="a" scope="application" value="1"/>${applicationScope.a}${a}${applicationScope}
abbrev pub application_object_pages : List (List ℕ × Paged)
application_object_pages =
    alone
    (set (variable (codes "a") (Some scope.Application)) (written (codes "value") (words (codes "1") ∷ []) (column 152) no_attributes) no_nodes
    (column 130)
    ∷ shown (tree.index (tree.name (codes "applicationScope")) (tree.literal (text (codes "a")))) (column 176)
    ∷ shown (tree.name (codes "a")) (column 197)
    ∷ shown (tree.name (codes "applicationScope")) (column 201) ∷ [])

-- application scope alone is one step, and X20 where it is too large
abbrev pub ApplicationObject : Type 0
ApplicationObject =
    seen
    (respond (paged_in application_object_pages) (get (codes "/a.jsp")) None
    (tells_done
    ∷ tells (text (codes "1"))
    ∷ tells (text (codes "1"))
    ∷ tells
    (rec
    (entry (codes "a") (text (codes "1"))
    (entry (codes "z") (list (item (number (pos 1)) (item (rec (entry (codes "k") null no_entries)) no_items))) no_entries))) ∷ []))
    ≡ Some (
      html (codes "11{a=1, z=[1, {k=null}]}"),
      fetch (codes "/a.jsp")
          ∷ app (step.Set (codes "a") (value_of (text (codes "1"))))
          ∷ app (step.Get (codes "a"))
          ∷ app (step.Get (codes "a"))
          ∷ app step.All ∷ [],
      9,
      670,
      None,
    )

-- /a.jsp: ${a}${b}
abbrev pub application_entries_pages : List (List ℕ × Paged)
application_entries_pages = alone (shown (tree.name (codes "a")) (column 130) ∷ shown (tree.name (codes "b")) (column 134) ∷ [])

-- an entry of application scope is one step
abbrev pub ApplicationEntries : Type 0
ApplicationEntries =
    seen (respond (paged_in application_entries_pages) (get (codes "/a.jsp")) None (tells (number (pos 1)) ∷ tells null ∷ []))
    ≡ Some (html (codes "1"), fetch (codes "/a.jsp") ∷ app (step.Get (codes "a")) ∷ app (step.Get (codes "b")) ∷ [], 4, 358, None)

-- a step without an answer is waited for
abbrev pub ApplicationAwaits : Type 0
ApplicationAwaits =
    awaited (respond (paged_in application_entries_pages) (get (codes "/a.jsp")) None (tells (number (pos 1)) ∷ [])) ≡ Some (app (step.Get (codes "b")))

-- /a.jsp: <c:catch var="e">${nope}</c:catch>${e.message}
abbrev pub not_found_pages : List (List ℕ × Paged)
not_found_pages = (
  codes "/a.jsp",
  good
      (page (codes "/a.jsp")
      (in_order
      (catch (Some (codes "e")) (in_order (shown (tree.name (codes "nope")) (column 183) ∷ [])) (column 166)
      ∷ shown (tree.index (tree.name (codes "e")) (tree.literal (text (codes "message")))) (column 200) ∷ []))
      (settings false (Some 8192) true None (codes "text/html;charset=UTF-8") true) [] []),
) ∷ []

-- a name that is found nowhere is X6 where the page asks for that
abbrev pub NotFound : Type 0
NotFound =
    seen (respond (paged_in not_found_pages) (get (codes "/a.jsp")) None (tells null ∷ []))
    ≡ Some (html (codes "X6 NotFound /a.jsp:1:183"), fetch (codes "/a.jsp") ∷ app (step.Get (codes "nope")) ∷ [], 7, 264, None)

-- /a.jsp: <c:catch var="e"><c:set var="x" scope="session" value="1"/></c:catch>${e.code}
abbrev pub no_session_pages : List (List ℕ × Paged)
no_session_pages =
    alone
    (catch (Some (codes "e"))
    (in_order
    (set (variable (codes "x") (Some scope.Session)) (written (codes "value") (words (codes "1") ∷ []) (column 169) no_attributes) no_nodes
    (column 147) ∷ [])) (column 130)
    ∷ shown (tree.index (tree.name (codes "e")) (tree.literal (text (codes "code")))) (column 199) ∷ [])

-- session scope without a session is empty, and writing there is X13
abbrev pub NoSession : Type 0
NoSession =
    seen (respond (paged_in no_session_pages) (get (codes "/a.jsp")) None []) ≡ Some (html (codes "X13"), fetch (codes "/a.jsp") ∷ [], 6, 172, None)

-- /a.jsp: <c:set var="x" scope="session" value="${[1]}"/>${pageContext.session.id}${sessionScope}
abbrev pub session_attributes_pages : List (List ℕ × Paged)
session_attributes_pages = (
  codes "/a.jsp",
  good
      (page (codes "/a.jsp")
      (in_order
      (set (variable (codes "x") (Some scope.Session))
      (written (codes "value") (expression (tree.list (tree.more_trees (tree.literal (number (pos 1))) tree.no_trees)) ∷ []) (column 71)
      no_attributes) no_nodes (column 49)
      ∷ shown
      (tree.index (tree.index (tree.name (codes "pageContext")) (tree.literal (text (codes "session")))) (tree.literal (text (codes "id"))))
      (column 96)
      ∷ shown (tree.name (codes "sessionScope")) (column 121) ∷ [])) with_session [] []),
) ∷ []

-- session attributes, and the id of a new session
abbrev pub SessionAttributes : Type 0
SessionAttributes =
    seen
    (respond (paged_in session_attributes_pages) (get (codes "/a.jsp")) None (id (codes "0000000000000000ade0b876903df1a0e56a5d4028bd8653") ∷ []))
    ≡ Some (
      response status_is.Ok (Some (codes "text/html;charset=UTF-8")) None (Some (codes "0000000000000000ade0b876903df1a0e56a5d4028bd8653")) []
          (codes "0000000000000000ade0b876903df1a0e56a5d4028bd8653{x=[1]}") false,
      fetch (codes "/a.jsp") ∷ fresh ∷ [],
      11,
      172,
      Some ((codes "x", list (item (number (pos 1)) no_items)) ∷ []),
    )
