-- The tags of the core library, each with its attributes, those that it needs, what its body holds, and where it may stand.
use Rattle.std.specs.Prelude.{ℕ, List, [], ◌∷◌, ◌++◌, codes}
use Rattle.jstl_tags.specs.declared.core_name.CoreName.{CoreName}
use Rattle.jstl_tags.specs.declared.core_name.CoreName.TheVariants as core
use Rattle.jstl_tags.specs.declared.rows.Takes.{Takes}
use Rattle.jstl_tags.specs.declared.rows.Takes.TheVariants as takes
use Rattle.jstl_tags.specs.declared.rows.Holds.TheVariants as holds
use Rattle.jstl_tags.specs.declared.rows.Stands.TheVariants as stands
use Rattle.jstl_tags.specs.Rows.{Row, row}

abbrev pub of_variable : List (List ℕ × Takes)
of_variable = (codes "var", takes.PlainText) ∷ (codes "scope", takes.ScopeName) ∷ []

abbrev pub of_loop : List (List ℕ × Takes)
of_loop = (codes "items", takes.AnyValue) ∷ (codes "begin", takes.AnyValue) ∷ (codes "end", takes.AnyValue) ∷ (codes "step", takes.AnyValue) ∷ (codes "var", takes.PlainText) ∷ (codes "varStatus", takes.PlainText) ∷ []

unfoldable pub core_table : List (List ℕ × (CoreName × Row))
core_table =
    (codes "out", (core.Out, row ((codes "value", takes.AnyValue) ∷ (codes "default", takes.AnyValue) ∷ (codes "escapeXml", takes.AnyValue) ∷ []) (codes "value" ∷ []) holds.Anything stands.Anywhere))
    ∷ (codes "set", (core.Set, row (of_variable ++ (codes "value", takes.AnyValue) ∷ (codes "target", takes.OneName) ∷ (codes "property", takes.AnyValue) ∷ []) [] holds.Anything stands.Anywhere))
    ∷ (codes "remove", (core.Remove, row of_variable (codes "var" ∷ []) holds.Nothing stands.Anywhere))
    ∷ (codes "catch", (core.Catch, row ((codes "var", takes.PlainText) ∷ []) [] holds.Anything stands.Anywhere))
    ∷ (codes "if", (core.If, row ((codes "test", takes.AnyValue) ∷ of_variable) (codes "test" ∷ []) holds.Anything stands.Anywhere))
    ∷ (codes "choose", (core.Choose, row [] [] holds.Branches stands.Anywhere))
    ∷ (codes "when", (core.When, row ((codes "test", takes.AnyValue) ∷ []) (codes "test" ∷ []) holds.Anything stands.Branch))
    ∷ (codes "otherwise", (core.Otherwise, row [] [] holds.Anything stands.Branch))
    ∷ (codes "forEach", (core.ForEach, row of_loop [] holds.Anything stands.Anywhere))
    ∷ (codes "forTokens", (core.ForTokens, row ((codes "delims", takes.AnyValue) ∷ of_loop) (codes "items" ∷ codes "delims" ∷ []) holds.Anything stands.Anywhere))
    ∷ (codes "import", (core.Import, row ((codes "url", takes.AnyValue) ∷ of_variable ++ (codes "varReader", takes.LeftOut) ∷ (codes "context", takes.LeftOut) ∷ (codes "charEncoding", takes.LeftOut) ∷ []) (codes "url" ∷ []) holds.Params stands.Anywhere))
    ∷ (codes "url", (core.Url, row ((codes "value", takes.AnyValue) ∷ of_variable ++ (codes "context", takes.LeftOut) ∷ []) (codes "value" ∷ []) holds.Params stands.Anywhere))
    ∷ (codes "redirect", (core.Redirect, row ((codes "url", takes.AnyValue) ∷ (codes "context", takes.LeftOut) ∷ []) (codes "url" ∷ []) holds.Params stands.Anywhere))
    ∷ (codes "param", (core.Param, row ((codes "name", takes.AnyValue) ∷ (codes "value", takes.AnyValue) ∷ []) (codes "name" ∷ []) holds.Anything stands.CoreParam))
    ∷ []
