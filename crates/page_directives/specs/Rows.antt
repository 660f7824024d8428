-- The tables of attributes, as the program has them.
use Rattle.std.specs.Prelude.{ℕ, List, map}
use Rattle.std.specs.Borrow.{Bor}
use Rattle.page_directives.specs.declared.checks.Check.{Check as Kind}
use Rattle.page_directives.specs.declared.checks.Check.TheVariants as kind
use Rattle.page_directives.specs.Checks.{Check, anything, something, one_of, left_out_but, true_alone, size, type_and_charset, encoding, Table}

-- the texts of a list
abbrev pub words : List (Bor (List ℕ)) → List (List ℕ)
words texts = map (λ text. text.now) texts

-- what a value may be
abbrev pub check_of : Kind → Check
check_of kind.Anything = anything
check_of kind.Something = something
check_of (kind.OneOf texts) = one_of (words texts.now)
check_of (kind.LeftOutBut texts) = left_out_but (words texts.now)
check_of kind.TrueAlone = true_alone
check_of kind.BufferSize = size
check_of kind.ContentType = type_and_charset
check_of kind.Encoding = encoding

-- the rows of a table
abbrev pub rows_of : List (Bor (List ℕ) × Kind) → Table
rows_of rows = map (λ row. (row.0.now, check_of row.1)) rows
