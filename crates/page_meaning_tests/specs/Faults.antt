-- Faults of tags, actions and objects, with their places.
use Rattle.el_reader.specs.Tree as tree
use Rattle.http_in.specs.Request.{request_of}
use Rattle.page_meaning.specs.Context.{Paged}
use Rattle.page_meaning.specs.Page.{words, expression, template, shown, out, set, catch, when_true, choose, each, each_token, import, url, redirect, include, forward, use_bean, group, no_nodes, no_attributes, written, given, no_params, param, no_branches, when}
use Rattle.page_meaning.specs.Respond.{respond}
use Rattle.page_meaning_tests.specs.Pages.{column, in_order, variable, paged_in, get, field, written_by, alone}
use Rattle.pg_value.specs.Datum.{number, text}
use Rattle.pg_value.specs.declared.operators.BinOp.TheVariants as binary_op
use Rattle.pg_value.specs.declared.operators.UnOp.TheVariants as unary_op
use Rattle.pg_value.specs.declared.scope.Scope.TheVariants as scope
use Rattle.std.specs.Prelude.{◌≡◌, ℕ, List, [], ◌∷◌, codes, true, false, Some, None, pos}

-- /a.jsp: <c:catch var="e"><c:out value="${1 mod 0}"/></c:catch>${e.message}|<c:catch var="e"><c:out value="v" escapeXml="${5}"/></c:catch>${e.message}|
abbrev pub out_faults_pages : List (List ℕ × Paged)
out_faults_pages =
    alone
    (catch (Some (codes "e"))
    (in_order
    (out
    (written (codes "value") (expression (tree.binary binary_op.Rem (tree.literal (number (pos 1))) (tree.literal (number (pos 0)))) ∷ [])
    (column 161) no_attributes)
    no_nodes
    (column 147) ∷ [])) (column 130)
    ∷ shown (tree.index (tree.name (codes "e")) (tree.literal (text (codes "message")))) (column 184)
    ∷ template (codes "|") (column 196)
    ∷ catch (Some (codes "e"))
    (in_order
    (out
    (written (codes "value") (words (codes "v") ∷ []) (column 228)
    (written (codes "escapeXml") (expression (tree.literal (number (pos 5))) ∷ []) (column 242) no_attributes))
    no_nodes
    (column 214) ∷ [])) (column 197)
    ∷ shown (tree.index (tree.name (codes "e")) (tree.literal (text (codes "message")))) (column 259)
    ∷ template (codes "|") (column 271) ∷ [])

-- faults of `c:out` stand at the values that were evaluated or coerced
abbrev pub OutFaults : Type 0
OutFaults =
    written_by (respond (paged_in out_faults_pages) (get (codes "/a.jsp")) None [])
    ≡ Some (codes "X3 ZeroDivisor /a.jsp:1:161|X2 NotABoolean /a.jsp:1:242|")

-- /a.jsp: <c:catch var="e"><c:set var="x" value="${1 mod 0}"/></c:catch>${e.message}|<c:catch var="e"><c:set var="x" scope="session"
--     value="v"/></c:catch>${e.message}|
abbrev pub set_faults_pages : List (List ℕ × Paged)
set_faults_pages =
    alone
    (catch (Some (codes "e"))
    (in_order
    (set (variable (codes "x") None)
    (written (codes "value") (expression (tree.binary binary_op.Rem (tree.literal (number (pos 1))) (tree.literal (number (pos 0)))) ∷ [])
    (column 169) no_attributes) no_nodes (column 147) ∷ [])) (column 130)
    ∷ shown (tree.index (tree.name (codes "e")) (tree.literal (text (codes "message")))) (column 192)
    ∷ template (codes "|") (column 204)
    ∷ catch (Some (codes "e"))
    (in_order
    (set (variable (codes "x") (Some scope.Session)) (written (codes "value") (words (codes "v") ∷ []) (column 260) no_attributes) no_nodes
    (column 222) ∷ [])) (column 205)
    ∷ shown (tree.index (tree.name (codes "e")) (tree.literal (text (codes "message")))) (column 274)
    ∷ template (codes "|") (column 286) ∷ [])

-- a fault of `c:set` stands at its value, X13 at the action
abbrev pub SetFaults : Type 0
SetFaults =
    written_by (respond (paged_in set_faults_pages) (get (codes "/a.jsp")) None [])
    ≡ Some (codes "X3 ZeroDivisor /a.jsp:1:169|X13 NoSession /a.jsp:1:222|")

-- /a.jsp: <c:catch var="e"><c:if test="${5}">a</c:if></c:catch>${e.message}|<c:catch var="e"><c:choose><c:when
--     test="${5}">a</c:when></c:choose></c:catch>${e.message}|
abbrev pub test_faults_pages : List (List ℕ × Paged)
test_faults_pages =
    alone
    (catch (Some (codes "e"))
    (in_order
    (when_true None (written (codes "test") (expression (tree.literal (number (pos 5))) ∷ []) (column 159) no_attributes)
    (in_order (template (codes "a") (column 165) ∷ [])) (column 147) ∷ [])) (column 130)
    ∷ shown (tree.index (tree.name (codes "e")) (tree.literal (text (codes "message")))) (column 183)
    ∷ template (codes "|") (column 195)
    ∷ catch (Some (codes "e"))
    (in_order
    (choose
    (when (written (codes "test") (expression (tree.literal (number (pos 5))) ∷ []) (column 237) no_attributes)
    (in_order (template (codes "a") (column 243) ∷ [])) (column 223) no_branches)
    (column 213) ∷ [])) (column 196)
    ∷ shown (tree.index (tree.name (codes "e")) (tree.literal (text (codes "message")))) (column 274)
    ∷ template (codes "|") (column 286) ∷ [])

-- X2 of a test stands at its value
abbrev pub TestFaults : Type 0
TestFaults =
    written_by (respond (paged_in test_faults_pages) (get (codes "/a.jsp")) None [])
    ≡ Some (codes "X2 NotABoolean /a.jsp:1:159|X2 NotABoolean /a.jsp:1:237|")

-- /a.jsp: <c:catch var="e"><c:forEach items="${5}">a</c:forEach></c:catch>${e.message}|<c:catch var="e"><c:forEach begin="1" end="2"
--     step="0">a</c:forEach></c:catch>${e.message}|<c:catch var="e"><c:forEach begin="x" end="2">a</c:forEach></c:catch>${e.message}|<c:catch
--     var="e"><c:forTokens items="a" delims="," begin="${-1}">a</c:forTokens></c:catch>${e.message}|
abbrev pub loop_faults_pages : List (List ℕ × Paged)
loop_faults_pages =
    alone
    (catch (Some (codes "e"))
    (in_order
    (each None None (written (codes "items") (expression (tree.literal (number (pos 5))) ∷ []) (column 165) no_attributes)
    (in_order (template (codes "a") (column 171) ∷ [])) (column 147) ∷ [])) (column 130)
    ∷ shown (tree.index (tree.name (codes "e")) (tree.literal (text (codes "message")))) (column 194)
    ∷ template (codes "|") (column 206)
    ∷ catch (Some (codes "e"))
    (in_order
    (each None None
    (written (codes "begin") (words (codes "1") ∷ []) (column 242)
    (written (codes "end") (words (codes "2") ∷ []) (column 250)
    (written (codes "step") (words (codes "0") ∷ []) (column 259) no_attributes)))
    (in_order (template (codes "a") (column 262) ∷ []))
    (column 224) ∷ [])) (column 207)
    ∷ shown (tree.index (tree.name (codes "e")) (tree.literal (text (codes "message")))) (column 285)
    ∷ template (codes "|") (column 297)
    ∷ catch (Some (codes "e"))
    (in_order
    (each None None
    (written (codes "begin") (words (codes "x") ∷ []) (column 333)
    (written (codes "end") (words (codes "2") ∷ []) (column 341) no_attributes))
    (in_order (template (codes "a") (column 344) ∷ []))
    (column 315) ∷ [])) (column 298)
    ∷ shown (tree.index (tree.name (codes "e")) (tree.literal (text (codes "message")))) (column 367)
    ∷ template (codes "|") (column 379)
    ∷ catch (Some (codes "e"))
    (in_order
    (each_token None None
    (written (codes "items") (words (codes "a") ∷ []) (column 417)
    (written (codes "delims") (words (codes ",") ∷ []) (column 428)
    (written (codes "begin") (expression (tree.unary unary_op.Neg (tree.literal (number (pos 1)))) ∷ []) (column 438) no_attributes)))
    (in_order (template (codes "a") (column 445) ∷ []))
    (column 397) ∷ [])) (column 380)
    ∷ shown (tree.index (tree.name (codes "e")) (tree.literal (text (codes "message")))) (column 470)
    ∷ template (codes "|") (column 482) ∷ [])

-- X7 and X8 stand at the loop, X1 of a number at its value
abbrev pub LoopFaults : Type 0
LoopFaults =
    written_by (respond (paged_in loop_faults_pages) (get (codes "/a.jsp")) None [])
    ≡ Some (codes "X7 NotIterable /a.jsp:1:147|X8 BadLoop /a.jsp:1:224|X1 NotANumber /a.jsp:1:333|X8 BadLoop /a.jsp:1:397|")

-- /a.jsp: <c:catch var="e"><c:url value="${1 mod 0}"/></c:catch>${e.message}|<c:catch var="e"><c:url value="/x"><c:param name="n" value="${1 mod
--     0}"/></c:url></c:catch>${e.message}|<c:catch var="e"><c:redirect url="${1 mod 0}"/></c:catch>${e.message}|<c:catch var="e"><c:import
--     url="http://x/"/></c:catch>${e.message}|<c:catch var="e"><c:import url="no.txt"/></c:catch>${e.message}|
abbrev pub address_faults_pages : List (List ℕ × Paged)
address_faults_pages =
    alone
    (catch (Some (codes "e"))
    (in_order
    (url None
    (written (codes "value") (expression (tree.binary binary_op.Rem (tree.literal (number (pos 1))) (tree.literal (number (pos 0)))) ∷ [])
    (column 161) no_attributes)
    no_params
    (column 147) ∷ [])) (column 130)
    ∷ shown (tree.index (tree.name (codes "e")) (tree.literal (text (codes "message")))) (column 184)
    ∷ template (codes "|") (column 196)
    ∷ catch (Some (codes "e"))
    (in_order
    (url None (written (codes "value") (words (codes "/x") ∷ []) (column 228) no_attributes)
    (param
    (written (codes "name") (words (codes "n") ∷ []) (column 247)
    (written (codes "value")
    (expression (tree.binary binary_op.Rem (tree.literal (number (pos 1))) (tree.literal (number (pos 0)))) ∷ []) (column 257)
    no_attributes)) no_nodes (column 232) no_params) (column 214) ∷ [])) (column 197)
    ∷ shown (tree.index (tree.name (codes "e")) (tree.literal (text (codes "message")))) (column 288)
    ∷ template (codes "|") (column 300)
    ∷ catch (Some (codes "e"))
    (in_order
    (redirect
    (written (codes "url") (expression (tree.binary binary_op.Rem (tree.literal (number (pos 1))) (tree.literal (number (pos 0)))) ∷ [])
    (column 335) no_attributes)
    no_params
    (column 318) ∷ [])) (column 301)
    ∷ shown (tree.index (tree.name (codes "e")) (tree.literal (text (codes "message")))) (column 358)
    ∷ template (codes "|") (column 370)
    ∷ catch (Some (codes "e"))
    (in_order (import None (written (codes "url") (words (codes "http://x/") ∷ []) (column 403) no_attributes) no_params (column 388) ∷ []))
    (column 371)
    ∷ shown (tree.index (tree.name (codes "e")) (tree.literal (text (codes "message")))) (column 425)
    ∷ template (codes "|") (column 437)
    ∷ catch (Some (codes "e"))
    (in_order (import None (written (codes "url") (words (codes "no.txt") ∷ []) (column 470) no_attributes) no_params (column 455) ∷ []))
    (column 438)
    ∷ shown (tree.index (tree.name (codes "e")) (tree.literal (text (codes "message")))) (column 489)
    ∷ template (codes "|") (column 501) ∷ [])

-- faults of addresses: of a value, of a param, X15 and X11 at the action
abbrev pub AddressFaults : Type 0
AddressFaults =
    written_by (respond (paged_in address_faults_pages) (get (codes "/a.jsp")) None [])
    ≡ Some (codes "X3 ZeroDivisor /a.jsp:1:161|X3 ZeroDivisor /a.jsp:1:257|X3 ZeroDivisor /a.jsp:1:335|X15 BadUrl /a.jsp:1:388|X11 NoSuchPage /a.jsp:1:455|")

-- /a.jsp: <c:catch var="e"><jsp:include page="${1 mod 0}"/></c:catch>${e.message}|<c:catch var="e"><jsp:include page="x.txt"><jsp:param name="n" value="${1 mod
--     0}"/></jsp:include></c:catch>${e.message}|<c:catch var="e"><jsp:include page="../x.txt"/></c:catch>${e.message}|<c:catch var="e"><jsp:forward
--     page="no.jsp"/></c:catch>${e.message}|
abbrev pub page_faults_pages : List (List ℕ × Paged)
page_faults_pages =
    alone
    (catch (Some (codes "e"))
    (in_order
    (include false
    (written (codes "page") (expression (tree.binary binary_op.Rem (tree.literal (number (pos 1))) (tree.literal (number (pos 0)))) ∷ [])
    (column 166) no_attributes)
    no_params
    (column 147) ∷ [])) (column 130)
    ∷ shown (tree.index (tree.name (codes "e")) (tree.literal (text (codes "message")))) (column 189)
    ∷ template (codes "|") (column 201)
    ∷ catch (Some (codes "e"))
    (in_order
    (include false (written (codes "page") (words (codes "x.txt") ∷ []) (column 238) no_attributes)
    (param
    (written (codes "name") (words (codes "n") ∷ []) (column 262)
    (written (codes "value")
    (expression (tree.binary binary_op.Rem (tree.literal (number (pos 1))) (tree.literal (number (pos 0)))) ∷ []) (column 272)
    no_attributes)) no_nodes (column 245) no_params) (column 219) ∷ [])) (column 202)
    ∷ shown (tree.index (tree.name (codes "e")) (tree.literal (text (codes "message")))) (column 309)
    ∷ template (codes "|") (column 321)
    ∷ catch (Some (codes "e"))
    (in_order (include false (written (codes "page") (words (codes "../x.txt") ∷ []) (column 358) no_attributes) no_params (column 339) ∷ []))
    (column 322)
    ∷ shown (tree.index (tree.name (codes "e")) (tree.literal (text (codes "message")))) (column 379)
    ∷ template (codes "|") (column 391)
    ∷ catch (Some (codes "e"))
    (in_order (forward (written (codes "page") (words (codes "no.jsp") ∷ []) (column 428) no_attributes) no_params (column 409) ∷ []))
    (column 392)
    ∷ shown (tree.index (tree.name (codes "e")) (tree.literal (text (codes "message")))) (column 447)
    ∷ template (codes "|") (column 459) ∷ [])

-- faults of an include and a forward: of the page, of a param, X11 at the action
abbrev pub PageFaults : Type 0
PageFaults =
    written_by (respond (paged_in page_faults_pages) (get (codes "/a.jsp")) None [])
    ≡ Some (codes "X3 ZeroDivisor /a.jsp:1:166|X3 ZeroDivisor /a.jsp:1:272|X11 NoSuchPage /a.jsp:1:339|X11 NoSuchPage /a.jsp:1:409|")

-- /a.jsp: <c:catch var="e"><jsp:useBean id="b" scope="session" class="b"/></c:catch>${e.message}|<c:catch var="e"><jsp:text>${1 mod
--     0}</jsp:text></c:catch>${e.message}|<c:catch var="e"><c:forTokens><jsp:attribute name="begin">x</jsp:attribute></c:forTokens></c:catch>${e.message}|
abbrev pub action_faults_pages : List (List ℕ × Paged)
action_faults_pages =
    alone
    (catch (Some (codes "e")) (in_order (use_bean (codes "b") scope.Session (codes "b") no_nodes (column 147) ∷ [])) (column 130)
    ∷ shown (tree.index (tree.name (codes "e")) (tree.literal (text (codes "message")))) (column 204)
    ∷ template (codes "|") (column 216)
    ∷ catch (Some (codes "e"))
    (in_order
    (group (in_order (shown (tree.binary binary_op.Rem (tree.literal (number (pos 1))) (tree.literal (number (pos 0)))) (column 244) ∷ []))
    (column 234) ∷ [])) (column 217)
    ∷ shown (tree.index (tree.name (codes "e")) (tree.literal (text (codes "message")))) (column 275)
    ∷ template (codes "|") (column 287)
    ∷ catch (Some (codes "e"))
    (in_order
    (each_token None None (given (codes "begin") true (in_order (template (codes "x") (column 346) ∷ [])) (column 318) no_attributes) no_nodes
    (column 305) ∷ [])) (column 288)
    ∷ shown (tree.index (tree.name (codes "e")) (tree.literal (text (codes "message")))) (column 387)
    ∷ template (codes "|") (column 399) ∷ [])

-- faults of a bean without a session, in `jsp:text` and in `jsp:attribute`
abbrev pub ActionFaults : Type 0
ActionFaults =
    written_by (respond (paged_in action_faults_pages) (get (codes "/a.jsp")) None [])
    ≡ Some (codes "X13 NoSession /a.jsp:1:147|X3 ZeroDivisor /a.jsp:1:244|X1 NotANumber /a.jsp:1:318|")

-- /a.jsp: <c:catch var="e">${pageContext.request.method.x}</c:catch>${e.message}|<c:catch var="e">${pageScope.e.code.x}</c:catch>${e.message}|<c:catch
--     var="e">${param.p.x}</c:catch>${e.message}|<c:catch var="e">${paramValues.p.x}</c:catch>${e.message}|<c:catch
--     var="e">${header.host.x}</c:catch>${e.message}|<c:catch var="e">${headerValues.host.x}</c:catch>${e.message}|<c:catch
--     var="e">${cookie.c.name.x}</c:catch>${e.message}|<c:catch var="e">${requestScope[1 mod 0]}</c:catch>${e.message}|<c:catch var="e">${sessionScope[1
--     mod 0]}</c:catch>${e.message}|<c:catch var="e">${applicationScope[1 mod 0]}</c:catch>${e.message}|<c:catch var="e">${initParam[1 mod
--     0]}</c:catch>${e.message}|
abbrev pub object_faults_pages : List (List ℕ × Paged)
object_faults_pages =
    alone
    (catch (Some (codes "e"))
    (in_order
    (shown
    (tree.index
    (tree.index (tree.index (tree.name (codes "pageContext")) (tree.literal (text (codes "request"))))
    (tree.literal (text (codes "method")))) (tree.literal (text (codes "x"))))
    (column 147) ∷ [])) (column 130)
    ∷ shown (tree.index (tree.name (codes "e")) (tree.literal (text (codes "message")))) (column 188)
    ∷ template (codes "|") (column 200)
    ∷ catch (Some (codes "e"))
    (in_order
    (shown
    (tree.index
    (tree.index (tree.index (tree.name (codes "pageScope")) (tree.literal (text (codes "e")))) (tree.literal (text (codes "code"))))
    (tree.literal (text (codes "x"))))
    (column 218) ∷ [])) (column 201)
    ∷ shown (tree.index (tree.name (codes "e")) (tree.literal (text (codes "message")))) (column 249)
    ∷ template (codes "|") (column 261)
    ∷ catch (Some (codes "e"))
    (in_order
    (shown (tree.index (tree.index (tree.name (codes "param")) (tree.literal (text (codes "p")))) (tree.literal (text (codes "x"))))
    (column 279) ∷ [])) (column 262)
    ∷ shown (tree.index (tree.name (codes "e")) (tree.literal (text (codes "message")))) (column 301)
    ∷ template (codes "|") (column 313)
    ∷ catch (Some (codes "e"))
    (in_order
    (shown (tree.index (tree.index (tree.name (codes "paramValues")) (tree.literal (text (codes "p")))) (tree.literal (text (codes "x"))))
    (column 331) ∷ [])) (column 314)
    ∷ shown (tree.index (tree.name (codes "e")) (tree.literal (text (codes "message")))) (column 359)
    ∷ template (codes "|") (column 371)
    ∷ catch (Some (codes "e"))
    (in_order
    (shown (tree.index (tree.index (tree.name (codes "header")) (tree.literal (text (codes "host")))) (tree.literal (text (codes "x"))))
    (column 389) ∷ [])) (column 372)
    ∷ shown (tree.index (tree.name (codes "e")) (tree.literal (text (codes "message")))) (column 415)
    ∷ template (codes "|") (column 427)
    ∷ catch (Some (codes "e"))
    (in_order
    (shown (tree.index (tree.index (tree.name (codes "headerValues")) (tree.literal (text (codes "host")))) (tree.literal (text (codes "x"))))
    (column 445) ∷ [])) (column 428)
    ∷ shown (tree.index (tree.name (codes "e")) (tree.literal (text (codes "message")))) (column 477)
    ∷ template (codes "|") (column 489)
    ∷ catch (Some (codes "e"))
    (in_order
    (shown
    (tree.index
    (tree.index (tree.index (tree.name (codes "cookie")) (tree.literal (text (codes "c")))) (tree.literal (text (codes "name"))))
    (tree.literal (text (codes "x"))))
    (column 507) ∷ [])) (column 490)
    ∷ shown (tree.index (tree.name (codes "e")) (tree.literal (text (codes "message")))) (column 535)
    ∷ template (codes "|") (column 547)
    ∷ catch (Some (codes "e"))
    (in_order
    (shown
    (tree.index (tree.name (codes "requestScope"))
    (tree.binary binary_op.Rem (tree.literal (number (pos 1))) (tree.literal (number (pos 0)))))
    (column 565) ∷ [])) (column 548)
    ∷ shown (tree.index (tree.name (codes "e")) (tree.literal (text (codes "message")))) (column 599)
    ∷ template (codes "|") (column 611)
    ∷ catch (Some (codes "e"))
    (in_order
    (shown
    (tree.index (tree.name (codes "sessionScope"))
    (tree.binary binary_op.Rem (tree.literal (number (pos 1))) (tree.literal (number (pos 0)))))
    (column 629) ∷ [])) (column 612)
    ∷ shown (tree.index (tree.name (codes "e")) (tree.literal (text (codes "message")))) (column 663)
    ∷ template (codes "|") (column 675)
    ∷ catch (Some (codes "e"))
    (in_order
    (shown
    (tree.index (tree.name (codes "applicationScope"))
    (tree.binary binary_op.Rem (tree.literal (number (pos 1))) (tree.literal (number (pos 0)))))
    (column 693) ∷ [])) (column 676)
    ∷ shown (tree.index (tree.name (codes "e")) (tree.literal (text (codes "message")))) (column 731)
    ∷ template (codes "|") (column 743)
    ∷ catch (Some (codes "e"))
    (in_order
    (shown
    (tree.index (tree.name (codes "initParam")) (tree.binary binary_op.Rem (tree.literal (number (pos 1))) (tree.literal (number (pos 0)))))
    (column 761) ∷ [])) (column 744)
    ∷ shown (tree.index (tree.name (codes "e")) (tree.literal (text (codes "message")))) (column 792)
    ∷ template (codes "|") (column 804) ∷ [])

-- faults of what the implicit objects hold stand at the `$`
abbrev pub ObjectFaults : Type 0
ObjectFaults =
    written_by (respond (paged_in object_faults_pages) (request_of (codes "GET") (codes "/a.jsp?p=q") (field (codes "host") (codes "h") ∷ field (codes "cookie") (codes "c=d") ∷ []) []) None [])
    ≡ Some (codes "X5 NoProperty /a.jsp:1:147|X5 NoProperty /a.jsp:1:218|X5 NoProperty /a.jsp:1:279|X1 NotANumber /a.jsp:1:331|X5 NoProperty /a.jsp:1:389|X1 NotANumber /a.jsp:1:445|X5 NoProperty /a.jsp:1:507|X3 ZeroDivisor /a.jsp:1:565|X3 ZeroDivisor /a.jsp:1:629|X3 ZeroDivisor /a.jsp:1:693|X3 ZeroDivisor /a.jsp:1:761|")
