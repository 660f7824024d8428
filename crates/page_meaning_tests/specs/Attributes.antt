-- Values of attributes.
use Rattle.el_reader.specs.Tree as tree
use Rattle.page_meaning.specs.Context.{Paged}
use Rattle.page_meaning.specs.Page.{words, expression, template, shown, out, group, no_nodes, no_attributes, written, given}
use Rattle.page_meaning.specs.Respond.{respond}
use Rattle.site_words.specs.PageSteps.{fetch}
use Rattle.page_meaning_tests.specs.Pages.{column, in_order, paged_in, get, html, seen, alone}
use Rattle.pg_value.specs.Datum.{null, number}
use Rattle.std.specs.Prelude.{◌≡◌, ℕ, List, [], ◌∷◌, codes, true, false, Some, None, pos}

-- /a.jsp: <jsp:text>t${1}</jsp:text><c:out value="a${1}${null}${[1]}"/>
abbrev pub parts_pages : List (List ℕ × Paged)
parts_pages =
    alone
    (group (in_order (template (codes "t") (column 140) ∷ shown (tree.literal (number (pos 1))) (column 141) ∷ [])) (column 130)
    ∷ out
    (written (codes "value")
    (words (codes "a")
    ∷ expression (tree.literal (number (pos 1)))
    ∷ expression (tree.literal null)
    ∷ expression (tree.list (tree.more_trees (tree.literal (number (pos 1))) tree.no_trees)) ∷ []) (column 170) no_attributes)
    no_nodes
    (column 156) ∷ [])

-- `jsp:text`, and values of parts
abbrev pub Parts : Type 0
Parts =
    seen (respond (paged_in parts_pages) (get (codes "/a.jsp")) None []) ≡ Some (html (codes "t1a1[1]"), fetch (codes "/a.jsp") ∷ [], 9, 172, None)

-- /a.jsp: <c:out><jsp:attribute name="value"> v${1} </jsp:attribute></c:out>|<c:out><jsp:attribute name="value" trim="false"> v </jsp:attribute></c:out>
abbrev pub given_attribute_pages : List (List ℕ × Paged)
given_attribute_pages =
    alone
    (out
    (given (codes "value") true
    (in_order
    (template (codes " v") (column 165) ∷ shown (tree.literal (number (pos 1))) (column 167) ∷ template (codes " ") (column 171) ∷ []))
    (column 137) no_attributes)
    no_nodes
    (column 130)
    ∷ template (codes "|") (column 196)
    ∷ out (given (codes "value") false (in_order (template (codes " v ") (column 245) ∷ [])) (column 204) no_attributes) no_nodes (column 197) ∷ [])

-- attributes by `jsp:attribute`, trimmed or not
abbrev pub GivenAttribute : Type 0
GivenAttribute =
    seen (respond (paged_in given_attribute_pages) (get (codes "/a.jsp")) None []) ≡ Some (html (codes "v1| v "), fetch (codes "/a.jsp") ∷ [], 10, 172, None)
