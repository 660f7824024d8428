-- The faults of expressions among those of a page.
use Rattle.pg_text.specs.declared.translation_fault.TranslationFault.{TranslationFault}
use Rattle.pg_text.specs.declared.translation_fault.TranslationFault.TheVariants as page_fault
use Rattle.el_reader.specs.declared.fault.ElFault.{ElFault}
use Rattle.el_reader.specs.declared.fault.ElFault.TheVariants as fault

-- the fault of a page that has such a text
abbrev pub translation_fault_of : ElFault → TranslationFault
translation_fault_of fault.Syntax = page_fault.ElSyntax
translation_fault_of fault.Decimal = page_fault.Decimal
translation_fault_of fault.LeftOut = page_fault.LeftOut
translation_fault_of fault.TooLarge = page_fault.TooLarge
