-- The faults at one place, as a set.
use Rattle.std.specs.Prelude.{◌==◌, ℕ, Bool, true, false, List, [], ◌∷◌, filter}
use Rattle.std.specs.List.{list_any}
use Rattle.std.specs.Int.{bit_at}
use Rattle.pg_text.specs.declared.translation_fault.TranslationFault.{TranslationFault}
use Rattle.pg_text.specs.declared.translation_fault.TranslationFault.TheVariants as fault
use Rattle.pg_text.specs.Faults.{number_of}

-- the fault, where it comes
abbrev pub fault_if : Bool → TranslationFault → List TranslationFault
fault_if true comes = comes ∷ []
fault_if false comes = []

-- there is no fault
abbrev pub is_good : List TranslationFault → Bool
is_good [] = true
is_good (first ∷ others) = false

-- whether a fault is among these
abbrev pub has_fault : List TranslationFault → TranslationFault → Bool
has_fault found wanted = list_any (λ other. number_of other == number_of wanted) found

-- all faults, in the order of their numbers
abbrev pub all_faults : List TranslationFault
all_faults =
    fault.NotUtf8 ∷ fault.Unclosed ∷ fault.WrongEnd ∷ fault.Scripting ∷ fault.XmlSyntax ∷ fault.BadDirective ∷ fault.Clash ∷ fault.NoFile ∷ fault.IncludeCycle
    ∷ fault.BadTaglib ∷ fault.NoTag ∷ fault.BadAttribute ∷ fault.BadNesting ∷ fault.BadBody ∷ fault.ElSyntax ∷ fault.ElNotHere ∷ fault.NoFunction ∷ fault.Decimal
    ∷ fault.LeftOut ∷ fault.TooLarge ∷ fault.UnbufferedNoFlush ∷ []

-- these faults in the order of their numbers, each once
unfoldable pub in_order : List TranslationFault → List TranslationFault
in_order found = filter (has_fault found) all_faults

-- the faults whose numbers are the places of these bits
unfoldable pub at_bits : ℕ → List TranslationFault
at_bits bits = filter (λ fault. bit_at bits (number_of fault) == 1) all_faults
