-- The standard actions, each with its attributes, those that it needs, what its body holds, and where it may stand.
use Rattle.std.specs.Prelude.{ℕ, List, [], ◌∷◌, ◌++◌, codes}
use Rattle.jstl_tags.specs.declared.rows.Takes.{Takes}
use Rattle.jstl_tags.specs.declared.rows.Takes.TheVariants as takes
use Rattle.jstl_tags.specs.declared.rows.Holds.TheVariants as holds
use Rattle.jstl_tags.specs.declared.rows.Stands.TheVariants as stands
use Rattle.jstl_tags.specs.Rows.{Row, row}
use Rattle.unit_nodes.specs.declared.jsp_name.JspName.{JspName}
use Rattle.unit_nodes.specs.declared.jsp_name.JspName.TheVariants as jsp

abbrev pub of_variable : List (List ℕ × Takes)
of_variable = (codes "var", takes.PlainText) ∷ (codes "scope", takes.ScopeName) ∷ (codes "varReader", takes.LeftOut) ∷ []

abbrev pub of_property : List (List ℕ × Takes)
of_property = (codes "name", takes.PlainText) ∷ (codes "property", takes.PlainText) ∷ []

abbrev pub of_source : List (List ℕ × Takes)
of_source = (codes "value", takes.AnyValue) ∷ (codes "param", takes.PlainText) ∷ []

unfoldable pub standard_table : List (List ℕ × (JspName × Row))
standard_table =
    (codes "include", (jsp.Include, row ((codes "page", takes.AnyValue) ∷ (codes "flush", takes.TruthValue) ∷ []) (codes "page" ∷ []) holds.Params stands.Anywhere))
    ∷ (codes "forward", (jsp.Forward, row ((codes "page", takes.AnyValue) ∷ []) (codes "page" ∷ []) holds.Params stands.Anywhere))
    ∷ (codes "param", (jsp.Param, row ((codes "name", takes.PlainText) ∷ (codes "value", takes.AnyValue) ∷ []) (codes "name" ∷ codes "value" ∷ []) holds.Nothing stands.StandardParam))
    ∷ (codes "useBean", (jsp.UseBean, row ((codes "id", takes.PlainText) ∷ (codes "scope", takes.ScopeName) ∷ (codes "class", takes.PlainText) ∷ []) (codes "id" ∷ codes "class" ∷ []) holds.Anything stands.Anywhere))
    ∷ (codes "getProperty", (jsp.GetProperty, row of_property (codes "name" ∷ codes "property" ∷ []) holds.Nothing stands.Anywhere))
    ∷ (codes "setProperty", (jsp.SetProperty, row (of_property ++ of_source) (codes "name" ∷ codes "property" ∷ []) holds.Nothing stands.Anywhere))
    ∷ (codes "attribute", (jsp.Attribute, row ((codes "name", takes.PlainText) ∷ (codes "trim", takes.TruthValue) ∷ []) (codes "name" ∷ []) holds.Anything stands.Part))
    ∷ (codes "body", (jsp.Body, row [] [] holds.Anything stands.Part))
    ∷ (codes "text", (jsp.Text, row [] [] holds.Anything stands.Anywhere))
    ∷ (codes "doBody", (jsp.DoBody, row of_variable [] holds.Nothing stands.InTagFile))
    ∷ (codes "invoke", (jsp.Invoke, row ((codes "fragment", takes.PlainText) ∷ of_variable) (codes "fragment" ∷ []) holds.Nothing stands.InTagFile))
    ∷ []

-- the names behind `jsp:` that belong to the XML syntax, and those that are left out
abbrev pub xml_names : List (List ℕ)
xml_names = codes "root" ∷ codes "output" ∷ []

abbrev pub left_out_names : List (List ℕ)
left_out_names = codes "plugin" ∷ codes "params" ∷ codes "fallback" ∷ codes "element" ∷ []
