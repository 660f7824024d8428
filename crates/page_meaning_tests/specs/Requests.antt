-- Requests: error pages, sessions and files.
use Rattle.el_reader.specs.Tree as tree
use Rattle.http_out.specs.declared.status.Status.TheVariants as status_is
use Rattle.page_meaning.specs.Context.{Paged, plain, good}
use Rattle.page_meaning.specs.Page.{words, template, shown, include, forward, no_attributes, written, no_params}
use Rattle.page_meaning.specs.Respond.{respond}
use Rattle.site_words.specs.PageSteps.{fresh, fetch}
use Rattle.page_meaning_tests.specs.Pages.{at, column, in_order, settings, with_session, page, plain_page, paged_in, get, response, line, seen, awaited}
use Rattle.pg_value.specs.Datum.{number, text}
use Rattle.pg_value.specs.declared.operators.BinOp.TheVariants as binary_op
use Rattle.site_words.specs.Law.{id}
use Rattle.std.specs.Prelude.{◌≡◌, ℕ, List, [], ◌∷◌, codes, true, false, Some, None, pos}

-- /a.jsp: abc${1 mod 0}
-- /err.jsp: ${pageContext.exception.code}
abbrev pub error_page_pages : List (List ℕ × Paged)
error_page_pages = (
  codes "/a.jsp",
  good
      (page (codes "/a.jsp")
      (in_order
      (template (codes "abc") (column 49)
      ∷ shown (tree.binary binary_op.Rem (tree.literal (number (pos 1))) (tree.literal (number (pos 0)))) (column 52) ∷ []))
      (settings false (Some 8192) true (Some (codes "/err.jsp")) (codes "text/html;charset=UTF-8") false) [] []),
)
    ∷ (
      codes "/err.jsp",
      good
          (plain_page (codes "/err.jsp")
          (in_order
          (shown
          (tree.index (tree.index (tree.name (codes "pageContext")) (tree.literal (text (codes "exception"))))
          (tree.literal (text (codes "code"))))
          (at (codes "/err.jsp") 1 47) ∷ []))),
    ) ∷ []

-- the error page sees the fault, and nothing of the failed page is left
abbrev pub ErrorPage : Type 0
ErrorPage =
    seen (respond (paged_in error_page_pages) (get (codes "/a.jsp")) None [])
    ≡ Some (
      response status_is.InternalServerError (Some (codes "text/html;charset=UTF-8")) None None [] (codes "X3") false,
      fetch (codes "/a.jsp") ∷ fetch (codes "/err.jsp") ∷ [],
      6,
      348,
      None,
    )

-- /a.jsp: x<jsp:include page="b.jsp"/>
-- /b.jsp: y${pageContext.session.id}
abbrev pub one_session_pages : List (List ℕ × Paged)
one_session_pages = (
  codes "/a.jsp",
  good
      (page (codes "/a.jsp")
      (in_order
      (template (codes "x") (column 1)
      ∷ include false (written (codes "page") (words (codes "b.jsp") ∷ []) (column 21) no_attributes) no_params (column 2) ∷ []))
      with_session [] []),
)
    ∷ (
      codes "/b.jsp",
      good
          (page (codes "/b.jsp")
          (in_order
          (template (codes "y") (at (codes "/b.jsp") 1 1)
          ∷ shown
          (tree.index (tree.index (tree.name (codes "pageContext")) (tree.literal (text (codes "session")))) (tree.literal (text (codes "id"))))
          (at (codes "/b.jsp") 1 2) ∷ [])) with_session [] []),
    ) ∷ []

-- one session for the page and what it includes
abbrev pub OneSession : Type 0
OneSession =
    seen (respond (paged_in one_session_pages) (get (codes "/a.jsp")) None (id (codes "0000000000000000ade0b876903df1a0e56a5d4028bd8653") ∷ []))
    ≡ Some (
      response status_is.Ok (Some (codes "text/html;charset=UTF-8")) None (Some (codes "0000000000000000ade0b876903df1a0e56a5d4028bd8653")) []
          (codes "xy0000000000000000ade0b876903df1a0e56a5d4028bd8653") false,
      fetch (codes "/a.jsp") ∷ fresh ∷ fetch (codes "/b.jsp") ∷ [],
      9,
      344,
      Some [],
    )

-- /a.jsp: x<jsp:include page="b.jsp"/>
-- /b.jsp: y${sessionScope}
abbrev pub late_session_pages : List (List ℕ × Paged)
late_session_pages = (
  codes "/a.jsp",
  good
      (plain_page (codes "/a.jsp")
      (in_order
      (template (codes "x") (column 28)
      ∷ include false (written (codes "page") (words (codes "b.jsp") ∷ []) (column 48) no_attributes) no_params (column 29) ∷ []))),
)
    ∷ (
      codes "/b.jsp",
      good
          (page (codes "/b.jsp")
          (in_order (template (codes "y") (at (codes "/b.jsp") 1 1) ∷ shown (tree.name (codes "sessionScope")) (at (codes "/b.jsp") 1 2) ∷ []))
          with_session [] []),
    ) ∷ []

-- an included page may start the session
abbrev pub LateSession : Type 0
LateSession =
    seen (respond (paged_in late_session_pages) (get (codes "/a.jsp")) None (id (codes "0000000000000000ade0b876903df1a0e56a5d4028bd8653") ∷ []))
    ≡ Some (
      response status_is.Ok (Some (codes "text/html;charset=UTF-8")) None (Some (codes "0000000000000000ade0b876903df1a0e56a5d4028bd8653")) []
          (codes "xy{}") false,
      fetch (codes "/a.jsp") ∷ fetch (codes "/b.jsp") ∷ fresh ∷ [],
      5,
      344,
      Some [],
    )

-- and waits for it
abbrev pub LateSessionAwaits : Type 0
LateSessionAwaits = awaited (respond (paged_in late_session_pages) (get (codes "/a.jsp")) None []) ≡ Some fresh

-- /a.jsp: x<jsp:include page="b.jsp"/>
-- /b.jsp: y
abbrev pub no_session_committed_pages : List (List ℕ × Paged)
no_session_committed_pages = (
  codes "/a.jsp",
  good
      (page (codes "/a.jsp")
      (in_order
      (template (codes "x") (column 42)
      ∷ include false (written (codes "page") (words (codes "b.jsp") ∷ []) (column 62) no_attributes) no_params (column 43) ∷ []))
      (settings false None true None (codes "text/html;charset=UTF-8") false) [] []),
)
    ∷ (codes "/b.jsp", good (page (codes "/b.jsp") (in_order (template (codes "y") (at (codes "/b.jsp") 1 1) ∷ [])) with_session [] [])) ∷ []

-- behind a commit no session is started
abbrev pub NoSessionCommitted : Type 0
NoSessionCommitted =
    seen (respond (paged_in no_session_committed_pages) (get (codes "/a.jsp")) None [])
    ≡ Some (
      response status_is.Ok (Some (codes "text/html;charset=UTF-8")) None None (codes "x" ∷ codes "y" ∷ []) [] false,
      fetch (codes "/a.jsp") ∷ fetch (codes "/b.jsp") ∷ [],
      3,
      344,
      None,
    )

-- /a.jsp: ${1 mod 0}
-- /e.jsp: ${1 mod 0}
abbrev pub fault_in_error_page_pages : List (List ℕ × Paged)
fault_in_error_page_pages = (
  codes "/a.jsp",
  good
      (page (codes "/a.jsp")
      (in_order (shown (tree.binary binary_op.Rem (tree.literal (number (pos 1))) (tree.literal (number (pos 0)))) (column 31) ∷ []))
      (settings true (Some 8192) true (Some (codes "/e.jsp")) (codes "text/html;charset=UTF-8") false) [] []),
)
    ∷ (
      codes "/e.jsp",
      good
          (page (codes "/e.jsp")
          (in_order (shown (tree.binary binary_op.Rem (tree.literal (number (pos 1))) (tree.literal (number (pos 0)))) (at (codes "/e.jsp") 1 1) ∷ []))
          with_session [] []),
    ) ∷ []

-- a fault in the error page: the line of the first fault
abbrev pub FaultInErrorPage : Type 0
FaultInErrorPage =
    seen
    (respond (paged_in fault_in_error_page_pages) (get (codes "/a.jsp")) None (id (codes "0000000000000000ade0b876903df1a0e56a5d4028bd8653") ∷ []))
    ≡ Some (
      response status_is.InternalServerError (Some (codes "text/plain;charset=UTF-8")) None
          (Some (codes "0000000000000000ade0b876903df1a0e56a5d4028bd8653")) [] (codes "X3 ZeroDivisor /a.jsp:1:31\n") false,
      fetch (codes "/a.jsp") ∷ fresh ∷ fetch (codes "/e.jsp") ∷ [],
      4,
      344,
      Some [],
    )

-- /a.jsp: ${1 mod 0}
-- /e.html: E
abbrev pub static_error_page_pages : List (List ℕ × Paged)
static_error_page_pages = (
  codes "/a.jsp",
  good
      (page (codes "/a.jsp")
      (in_order (shown (tree.binary binary_op.Rem (tree.literal (number (pos 1))) (tree.literal (number (pos 0)))) (column 47) ∷ []))
      (settings false (Some 8192) true (Some (codes "e.html")) (codes "text/html;charset=UTF-8") false) [] []),
)
    ∷ (codes "/e.html", plain (codes "E")) ∷ []

-- an error page that is a file
abbrev pub StaticErrorPage : Type 0
StaticErrorPage =
    seen (respond (paged_in static_error_page_pages) (get (codes "/a.jsp")) None [])
    ≡ Some (
      response status_is.InternalServerError (Some (codes "text/html;charset=UTF-8")) None None [] (codes "E") false,
      fetch (codes "/a.jsp") ∷ [],
      0,
      172,
      None,
    )

-- /a.jsp: ${1 mod 0}
abbrev pub absent_error_page_pages : List (List ℕ × Paged)
absent_error_page_pages = (
  codes "/a.jsp",
  good
      (page (codes "/a.jsp")
      (in_order (shown (tree.binary binary_op.Rem (tree.literal (number (pos 1))) (tree.literal (number (pos 0)))) (column 46) ∷ []))
      (settings false (Some 8192) true (Some (codes "e.jsp")) (codes "text/html;charset=UTF-8") false) [] []),
) ∷ []

-- an error page that is absent
abbrev pub AbsentErrorPage : Type 0
AbsentErrorPage =
    seen (respond (paged_in absent_error_page_pages) (get (codes "/a.jsp")) None [])
    ≡ Some (line status_is.InternalServerError (codes "X3 ZeroDivisor /a.jsp:1:46"), fetch (codes "/a.jsp") ∷ [], 4, 172, None)

-- /a.jsp: ${1 mod 0}
-- /e.jsp: <jsp:forward page="f.jsp"/>
-- /f.jsp: ${pageContext.exception}
abbrev pub error_page_forwards_pages : List (List ℕ × Paged)
error_page_forwards_pages = (
  codes "/a.jsp",
  good
      (page (codes "/a.jsp")
      (in_order (shown (tree.binary binary_op.Rem (tree.literal (number (pos 1))) (tree.literal (number (pos 0)))) (column 46) ∷ []))
      (settings false (Some 8192) true (Some (codes "e.jsp")) (codes "text/html;charset=UTF-8") false) [] []),
)
    ∷ (
      codes "/e.jsp",
      good
          (plain_page (codes "/e.jsp")
          (in_order
          (forward (written (codes "page") (words (codes "f.jsp") ∷ []) (at (codes "/e.jsp") 1 47) no_attributes) no_params
          (at (codes "/e.jsp") 1 28) ∷ []))),
    )
    ∷ (
      codes "/f.jsp",
      good
          (plain_page (codes "/f.jsp")
          (in_order (shown (tree.index (tree.name (codes "pageContext")) (tree.literal (text (codes "exception")))) (at (codes "/f.jsp") 1 28) ∷ []))),
    ) ∷ []

-- a forward of the error page keeps the status and the fault
abbrev pub ErrorPageForwards : Type 0
ErrorPageForwards =
    seen (respond (paged_in error_page_forwards_pages) (get (codes "/a.jsp")) None [])
    ≡ Some (
      response status_is.InternalServerError (Some (codes "text/html;charset=UTF-8")) None None []
          (codes "{code=X3, message=X3 ZeroDivisor /a.jsp:1:46}") false,
      fetch (codes "/a.jsp") ∷ fetch (codes "/e.jsp") ∷ fetch (codes "/f.jsp") ∷ [],
      5,
      516,
      None,
    )

-- /WEB-INF/x.jsp: x
abbrev pub hidden_pages : List (List ℕ × Paged)
hidden_pages = (
  codes "/WEB-INF/x.jsp",
  good (page (codes "/WEB-INF/x.jsp") (in_order (template (codes "x") (at (codes "/WEB-INF/x.jsp") 1 1) ∷ [])) with_session [] []),
) ∷ []

-- what lies under `/WEB-INF/` isn't found
abbrev pub Hidden : Type 0
Hidden =
    seen (respond (paged_in hidden_pages) (get (codes "/WEB-INF/x.jsp")) None []) ≡ Some (line status_is.NotFound (codes "NotFound"), [], 0, 0, None)

-- /x.jsp: x
abbrev pub absent_file_pages : List (List ℕ × Paged)
absent_file_pages =
    (codes "/x.jsp", good (page (codes "/x.jsp") (in_order (template (codes "x") (at (codes "/x.jsp") 1 1) ∷ [])) with_session [] [])) ∷ []

-- a page that isn't there
abbrev pub AbsentFile : Type 0
AbsentFile =
    seen (respond (paged_in absent_file_pages) (get (codes "/y.jsp")) None []) ≡ Some (line status_is.NotFound (codes "NotFound"), [], 0, 0, None)

-- /x.css: x
abbrev pub static_file_pages : List (List ℕ × Paged)
static_file_pages = (codes "/x.css", plain (codes "x")) ∷ []

-- a file that is no page
abbrev pub StaticFile : Type 0
StaticFile =
    seen (respond (paged_in static_file_pages) (get (codes "/x.css")) None [])
    ≡ Some (response status_is.Ok (Some (codes "text/css;charset=UTF-8")) None None [] (codes "x") false, [], 0, 0, None)
