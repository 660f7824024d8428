-- The attributes of the directives.
use Rattle.std.specs.Prelude.{ℕ, List, [], ◌∷◌, codes}
use Rattle.page_directives.specs.Checks.{anything, something, one_of, left_out_but, true_alone, size, type_and_charset, encoding, truths, Table}

unfoldable pub page_table : Table
page_table =
    (codes "language", left_out_but (codes "java" ∷ [])) ∷ (codes "import", anything) ∷ (codes "info", anything) ∷ (codes "isThreadSafe", true_alone)
    ∷ (codes "session", one_of truths) ∷ (codes "buffer", size) ∷ (codes "autoFlush", one_of truths) ∷ (codes "errorPage", anything)
    ∷ (codes "isErrorPage", one_of truths) ∷ (codes "contentType", type_and_charset) ∷ (codes "pageEncoding", encoding) ∷ (codes "isELIgnored", one_of truths)
    ∷ (codes "deferredSyntaxAllowedAsLiteral", one_of truths) ∷ (codes "trimDirectiveWhitespaces", one_of truths) ∷ (codes "errorOnELNotFound", one_of truths)
    ∷ (codes "extends", left_out_but []) ∷ []

unfoldable pub tag_table : Table
tag_table =
    (codes "body-content", one_of (codes "scriptless" ∷ codes "empty" ∷ codes "tagdependent" ∷ [])) ∷ (codes "dynamic-attributes", something)
    ∷ (codes "pageEncoding", encoding) ∷ (codes "isELIgnored", one_of truths) ∷ (codes "deferredSyntaxAllowedAsLiteral", one_of truths)
    ∷ (codes "trimDirectiveWhitespaces", one_of truths) ∷ (codes "errorOnELNotFound", one_of truths) ∷ (codes "language", left_out_but (codes "java" ∷ []))
    ∷ (codes "import", anything) ∷ (codes "description", anything) ∷ (codes "display-name", anything) ∷ (codes "example", anything)
    ∷ (codes "small-icon", anything) ∷ (codes "large-icon", anything) ∷ []

unfoldable pub include_table : Table
include_table = (codes "file", anything) ∷ []

unfoldable pub taglib_table : Table
taglib_table = (codes "prefix", something) ∷ (codes "uri", anything) ∷ (codes "tagdir", anything) ∷ []

-- the attributes that may be given again with another value
unfoldable pub repeatable : List (List ℕ)
repeatable = codes "import" ∷ codes "pageEncoding" ∷ []

unfoldable pub core_uris : List (List ℕ)
core_uris = codes "jakarta.tags.core" ∷ codes "http://java.sun.com/jsp/jstl/core" ∷ []

unfoldable pub function_uris : List (List ℕ)
function_uris = codes "jakarta.tags.functions" ∷ codes "http://java.sun.com/jsp/jstl/functions" ∷ []

unfoldable pub refused_prefixes : List (List ℕ)
refused_prefixes = codes "jsp" ∷ codes "jspx" ∷ codes "java" ∷ codes "javax" ∷ codes "servlet" ∷ codes "sun" ∷ codes "sunw" ∷ []
