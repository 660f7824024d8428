-- The faults of a page's text: their numbers and names.
use Rattle.std.specs.Prelude.{ℕ, List, codes}
use Rattle.pg_text.specs.declared.translation_fault.TranslationFault.{TranslationFault}
use Rattle.pg_text.specs.declared.translation_fault.TranslationFault.TheVariants as fault

-- the number of a fault, as 2 for E2
abbrev pub number_of : TranslationFault → ℕ
number_of fault.NotUtf8 = 1
number_of fault.Unclosed = 2
number_of fault.WrongEnd = 3
number_of fault.Scripting = 4
number_of fault.XmlSyntax = 5
number_of fault.BadDirective = 6
number_of fault.Clash = 7
number_of fault.NoFile = 8
number_of fault.IncludeCycle = 9
number_of fault.BadTaglib = 10
number_of fault.NoTag = 11
number_of fault.BadAttribute = 12
number_of fault.BadNesting = 13
number_of fault.BadBody = 14
number_of fault.ElSyntax = 15
number_of fault.ElNotHere = 16
number_of fault.NoFunction = 17
number_of fault.Decimal = 18
number_of fault.LeftOut = 19
number_of fault.TooLarge = 20
number_of fault.UnbufferedNoFlush = 21

-- the name of a fault, as it is told
abbrev pub name_of : TranslationFault → List ℕ
name_of fault.NotUtf8 = codes "NotUtf8"
name_of fault.Unclosed = codes "Unclosed"
name_of fault.WrongEnd = codes "WrongEnd"
name_of fault.Scripting = codes "Scripting"
name_of fault.XmlSyntax = codes "XmlSyntax"
name_of fault.BadDirective = codes "BadDirective"
name_of fault.Clash = codes "Clash"
name_of fault.NoFile = codes "NoFile"
name_of fault.IncludeCycle = codes "IncludeCycle"
name_of fault.BadTaglib = codes "BadTaglib"
name_of fault.NoTag = codes "NoTag"
name_of fault.BadAttribute = codes "BadAttribute"
name_of fault.BadNesting = codes "BadNesting"
name_of fault.BadBody = codes "BadBody"
name_of fault.ElSyntax = codes "ElSyntax"
name_of fault.ElNotHere = codes "ElNotHere"
name_of fault.NoFunction = codes "NoFunction"
name_of fault.Decimal = codes "Decimal"
name_of fault.LeftOut = codes "LeftOut"
name_of fault.TooLarge = codes "TooLarge"
name_of fault.UnbufferedNoFlush = codes "UnbufferedNoFlush"
