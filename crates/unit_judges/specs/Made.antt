-- Beans, kinds, rows and what stands around, as the program has them.
use Rattle.std.specs.Prelude.{ℕ, List, [], ◌∷◌, map, Result, Ok, Err}
use Rattle.std.specs.Option.{option_map}
use Rattle.std.specs.Borrow.{Bor}
use Rattle.pg_text.specs.declared.translation_fault.TranslationFault.{TranslationFault}
use Rattle.pg_value.specs.Datum.{Datum}
use Rattle.pg_value.specs.Value.{datum_of}
use Rattle.pg_value.specs.declared.value.Value.{Value}
use Rattle.jstl_tags.specs.declared.core_name.CoreName.{CoreName}
use Rattle.jstl_tags.specs.declared.rows.Row.{Row as RowMade}
use Rattle.jstl_tags.specs.Rows.{Row, row_made}
use Rattle.unit_nodes.specs.declared.jsp_name.JspName.{JspName}
use Rattle.unit_words.specs.Elements.{Here}
use Rattle.unit_words.specs.Kinds.{Kind, core, standard, call, refused}
use Rattle.jstl_tags.specs.Around.{Host}
use Rattle.jstl_tags.specs.Hosts.{host_made}
use Rattle.unit_judges.specs.declared.kind.Kind.{Kind as KindMade}
use Rattle.unit_judges.specs.declared.kind.Kind.TheVariants as made
use Rattle.unit_judges.specs.declared.here.Around.{Around as AroundMade}
use Rattle.unit_judges.specs.declared.here.Around.TheVariants as around
use Rattle.unit_judges.specs.declared.here.Here.{Here as HereMade}

-- the bean of a class, or its fault
abbrev pub bean_made : Result Value TranslationFault → Result Datum TranslationFault
bean_made (Ok bean) = Ok (datum_of bean)
bean_made (Err fault) = Err fault

abbrev pub class_made : List ℕ × Result Value TranslationFault → List ℕ × Result Datum TranslationFault
class_made class = (class.0, bean_made class.1)

-- a standard action with what the table says of it
abbrev pub standard_made : JspName × RowMade → JspName × Row
standard_made found = (found.0, row_made found.1)

abbrev pub standards_made : List (Bor (List ℕ) × (JspName × RowMade)) → List (List ℕ × (JspName × Row))
standards_made rows = map (λ found. (found.0.now, standard_made found.1)) rows

abbrev pub core_made : CoreName × RowMade → CoreName × Row
core_made found = (found.0, row_made found.1)

-- what an element is
abbrev pub kind_made : KindMade → Kind
kind_made (made.Core name row) = core (name, row_made row)
kind_made (made.Standard name row) = standard (name, row_made row)
kind_made (made.Call path) = call path
kind_made (made.Refused fault) = refused fault

-- what stands around
abbrev pub around_made : AroundMade → List Host
around_made around.Outermost = []
around_made (around.One host) = host_made host ∷ []
around_made (around.Two host outer) = host_made host ∷ host_made outer ∷ []

abbrev pub here_made : HereMade → Here
here_made here = record { around = around_made here.around; row = option_map row_made here.row; deep = here.deep }
