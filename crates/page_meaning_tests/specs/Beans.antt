-- Beans.
use Rattle.el_reader.specs.Tree as tree
use Rattle.page_meaning.specs.Context.{Paged, plain, good}
use Rattle.page_meaning.specs.Page.{every, one, words, template, shown, catch, use_bean, get_property, set_property, no_nodes, no_attributes, written}
use Rattle.page_meaning.specs.Respond.{respond}
use Rattle.site_words.specs.PageSteps.{app, fetch}
use Rattle.page_meaning_tests.specs.Pages.{column, in_order, plain_settings, page, paged_in, get, tells, tells_done, tells_made, html, seen}
use Rattle.pg_value.specs.Datum.{null, truth, number, text, list, rec, no_items, item, no_entries, entry}
use Rattle.pg_value.specs.Value.{value_of}
use Rattle.pg_value.specs.declared.scope.Scope.TheVariants as scope
use Rattle.site_words.specs.declared.words.AppStep.TheVariants as step
use Rattle.std.specs.Prelude.{◌≡◌, ℕ, List, [], ◌∷◌, codes, true, Some, None, pos}

-- /WEB-INF/beans/u.json: {"n":1,"s":"a"}
-- /a.jsp: <jsp:useBean id="u" class="u"/><jsp:setProperty name="u" property="*"/>${u}
abbrev pub all_properties_pages : List (List ℕ × Paged)
all_properties_pages =
    (codes "/WEB-INF/beans/u.json", plain (codes "{\"n\":1,\"s\":\"a\"}"))
    ∷ (
      codes "/a.jsp",
      good
          (page (codes "/a.jsp")
          (in_order
          (use_bean (codes "u") scope.Page (codes "u") no_nodes (column 28)
          ∷ set_property (codes "u") every no_attributes (column 59)
          ∷ shown (tree.name (codes "u")) (column 99) ∷ [])) plain_settings []
          ((codes "u", rec (entry (codes "n") (number (pos 1)) (entry (codes "s") (text (codes "a")) no_entries))) ∷ [])),
    ) ∷ []

-- all properties set by parameters; an empty one changes nothing
abbrev pub AllProperties : Type 0
AllProperties =
    seen (respond (paged_in all_properties_pages) (get (codes "/a.jsp?n=7&s=&q=1")) None []) ≡ Some (html (codes "{n=7, s=a}"), fetch (codes "/a.jsp") ∷ [], 4, 172, None)

-- /WEB-INF/beans/b.json: {"n":1,"t":"x","l":[1],"f":true,"z":null}
-- /a.jsp: <jsp:useBean id="b" class="b">new</jsp:useBean><jsp:useBean id="b" class="b">again</jsp:useBean><jsp:setProperty name="b"
--     property="*"/><jsp:getProperty name="b" property="n"/>${b}<jsp:setProperty name="b" property="n" value="7"/><jsp:setProperty name="b" property="t"
--     param="q"/><jsp:setProperty name="b" property="f" param="q"/>${b}
abbrev pub bean_pages : List (List ℕ × Paged)
bean_pages =
    (codes "/WEB-INF/beans/b.json", plain (codes "{\"n\":1,\"t\":\"x\",\"l\":[1],\"f\":true,\"z\":null}"))
    ∷ (
      codes "/a.jsp",
      good
          (page (codes "/a.jsp")
          (in_order
          (use_bean (codes "b") scope.Page (codes "b") (in_order (template (codes "new") (column 58) ∷ [])) (column 28)
          ∷ use_bean (codes "b") scope.Page (codes "b") (in_order (template (codes "again") (column 105) ∷ [])) (column 75)
          ∷ set_property (codes "b") every no_attributes (column 124)
          ∷ get_property (codes "b") (codes "n") (column 164)
          ∷ shown (tree.name (codes "b")) (column 204)
          ∷ set_property (codes "b") (one (codes "n") (codes "n")) (written (codes "value") (words (codes "7") ∷ []) (column 254) no_attributes)
          (column 208)
          ∷ set_property (codes "b") (one (codes "t") (codes "q")) no_attributes (column 258)
          ∷ set_property (codes "b") (one (codes "f") (codes "q")) no_attributes (column 308)
          ∷ shown (tree.name (codes "b")) (column 358) ∷ [])) plain_settings []
          ((
            codes "b",
            rec
                (entry (codes "f") (truth true)
                (entry (codes "l") (list (item (number (pos 1)) no_items))
                (entry (codes "n") (number (pos 1)) (entry (codes "t") (text (codes "x")) (entry (codes "z") null no_entries))))),
          ) ∷ [])),
    ) ∷ []

-- a bean is made once, and its properties take the kinds of their old values
abbrev pub Bean : Type 0
Bean =
    seen (respond (paged_in bean_pages) (get (codes "/a.jsp?n=5&t=&f=TRUE&z=w&l=9")) None [])
    ≡ Some (html (codes "new5{f=true, l=[1], n=5, t=x, z=w}{f=true, l=[1], n=7, t=x, z=w}"), fetch (codes "/a.jsp") ∷ [], 12, 172, None)

-- /WEB-INF/beans/b.json: {"n":1}
-- /a.jsp: <jsp:useBean id="b" scope="application" class="b">new</jsp:useBean><jsp:setProperty name="b" property="n" value="3"/><jsp:getProperty name="b"
--     property="n"/>
abbrev pub application_bean_pages : List (List ℕ × Paged)
application_bean_pages =
    (codes "/WEB-INF/beans/b.json", plain (codes "{\"n\":1}"))
    ∷ (
      codes "/a.jsp",
      good
          (page (codes "/a.jsp")
          (in_order
          (use_bean (codes "b") scope.Application (codes "b") (in_order (template (codes "new") (column 78) ∷ [])) (column 28)
          ∷ set_property (codes "b") (one (codes "n") (codes "n")) (written (codes "value") (words (codes "3") ∷ []) (column 141) no_attributes)
          (column 95)
          ∷ get_property (codes "b") (codes "n") (column 145) ∷ [])) plain_settings []
          ((codes "b", rec (entry (codes "n") (number (pos 1)) no_entries)) ∷ [])),
    ) ∷ []

-- a bean in application scope is made by an Ensure
abbrev pub ApplicationBean : Type 0
ApplicationBean =
    seen
    (respond (paged_in application_bean_pages) (get (codes "/a.jsp")) None
    (tells_made
    ∷ tells (rec (entry (codes "n") (number (pos 1)) no_entries))
    ∷ tells_done
    ∷ tells (rec (entry (codes "n") (number (pos 3)) no_entries)) ∷ []))
    ≡ Some (
      html (codes "new3"),
      fetch (codes "/a.jsp")
          ∷ app (step.Ensure (codes "b") (value_of (rec (entry (codes "n") (number (pos 1)) no_entries))))
          ∷ app (step.Get (codes "b"))
          ∷ app (step.Set (codes "b") (value_of (rec (entry (codes "n") (number (pos 3)) no_entries))))
          ∷ app (step.Get (codes "b")) ∷ [],
      4,
      692,
      None,
    )

-- /WEB-INF/beans/b.json: {"n":1}
-- /a.jsp: <jsp:useBean id="b" class="b"/><c:catch var="e"><jsp:getProperty name="b" property="q"/></c:catch>${e.code}<c:catch var="e"><jsp:setProperty name="q"
--     property="n" value="1"/></c:catch>${e.message}<c:catch var="e"><jsp:setProperty name="b" property="n" value="q"/></c:catch>${e.message}<c:catch
--     var="e"><jsp:setProperty name="b" property="n"/></c:catch>${e.message}
abbrev pub bean_faults_pages : List (List ℕ × Paged)
bean_faults_pages =
    (codes "/WEB-INF/beans/b.json", plain (codes "{\"n\":1}"))
    ∷ (
      codes "/a.jsp",
      good
          (page (codes "/a.jsp")
          (in_order
          (use_bean (codes "b") scope.Page (codes "b") no_nodes (column 76)
          ∷ catch (Some (codes "e")) (in_order (get_property (codes "b") (codes "q") (column 124) ∷ [])) (column 107)
          ∷ shown (tree.index (tree.name (codes "e")) (tree.literal (text (codes "code")))) (column 174)
          ∷ catch (Some (codes "e"))
          (in_order
          (set_property (codes "q") (one (codes "n") (codes "n")) (written (codes "value") (words (codes "1") ∷ []) (column 246) no_attributes)
          (column 200) ∷ [])) (column 183)
          ∷ shown (tree.index (tree.name (codes "e")) (tree.literal (text (codes "message")))) (column 260)
          ∷ catch (Some (codes "e"))
          (in_order
          (set_property (codes "b") (one (codes "n") (codes "n")) (written (codes "value") (words (codes "q") ∷ []) (column 335) no_attributes)
          (column 289) ∷ [])) (column 272)
          ∷ shown (tree.index (tree.name (codes "e")) (tree.literal (text (codes "message")))) (column 349)
          ∷ catch (Some (codes "e")) (in_order (set_property (codes "b") (one (codes "n") (codes "n")) no_attributes (column 378) ∷ [])) (column 361)
          ∷ shown (tree.index (tree.name (codes "e")) (tree.literal (text (codes "message")))) (column 428) ∷ [])) plain_settings []
          ((codes "b", rec (entry (codes "n") (number (pos 1)) no_entries)) ∷ [])),
    ) ∷ []

-- X5 and X14 of properties, X1 at the value's place or at the action
abbrev pub BeanFaults : Type 0
BeanFaults =
    seen (respond (paged_in bean_faults_pages) (get (codes "/a.jsp?n=q")) None (tells null ∷ []))
    ≡ Some (
      html (codes "X5X14 NotARecord /a.jsp:1:200X1 NotANumber /a.jsp:1:335X1 NotANumber /a.jsp:1:378"),
      fetch (codes "/a.jsp") ∷ app (step.Get (codes "q")) ∷ [],
      25,
      261,
      None,
    )
