-- Why no piece stands at a place of a page.
use Rattle.std.specs.Prelude.{◌≡◌, ◌⊎◌, ◌++◌, ℕ, List, Option, Some, None, drop, codes}
use Rattle.pg_text.specs.declared.translation_fault.TranslationFault.TheVariants as faults
use Rattle.pg_text.specs.declared.failure.Failure.{Failure}
use Rattle.pg_text.specs.declared.failure.Failure.TheVariants as failure
use Rattle.page_pieces.specs.declared.setting.Setting.{Setting}
use Rattle.page_pieces.specs.declared.mark.Mark.{Mark}
use Rattle.page_pieces.specs.declared.spot.Spot.{Spot}
use Rattle.page_pieces.specs.declared.piece.Break.{Break}
use Rattle.page_pieces.specs.declared.mark.Mark.TheVariants as marks
use Rattle.page_pieces.specs.declared.piece.Break.TheVariants.{Fault, BadEnd}
use Rattle.page_pieces.specs.Spots.{spot_after}
use Rattle.page_pieces.specs.Marks.{mark_at}
use Rattle.page_pieces.specs.Tags.{WrittenAttribute, AreWellFormed, attributes_bytes, HasFirstFault, WrittenHead, IsDirectiveOpening, IsStartOpening, IsDirective, IsStart, BeginsHead, CouldBeHead, BeginsEnd}
use Rattle.page_pieces.specs.Expressions.{HasNoEnd}
use Rattle.page_pieces.specs.Texts.{around}

-- the first value with a fault; `IsOpening` says which openings there are
pub record HasBadValue (setting : Setting) (file : List ℕ) (spot : Spot) (IsOpening : List ℕ → Type 0) (text : List ℕ) (fault : Break) : Type 0 where
  pub opening : List ℕ
  pub opens : IsOpening opening
  pub attributes : List WrittenAttribute
  pub well_formed : AreWellFormed attributes
  pub rest : List ℕ
  pub cut : text ≡ opening ++ (attributes_bytes attributes ++ rest)
  pub reads : HasFirstFault setting file (spot_after spot opening) attributes fault

-- the file ends before a head is whole, or something else stands in it
abbrev pub IsUnreadHead : (WrittenHead → Type 0) → Spot → List ℕ → Break → Type 0
IsUnreadHead Is spot text fault = (¬ (BeginsHead Is text) × CouldBeHead Is text × (fault ≡ Fault faults.Unclosed spot)) ⊎ (¬ (CouldBeHead Is text) × (fault ≡ Fault faults.BadAttribute spot))

-- the first value with a fault, or else that no head stands here
abbrev pub IsHeadBreak : (Break → Type 0) → (WrittenHead → Type 0) → Spot → List ℕ → Break → Type 0
IsHeadBreak HasBad Is spot text fault = HasBad fault ⊎ (((other : Break) → ¬ (HasBad other)) × IsUnreadHead Is spot text fault)

-- why no piece stands where this mark begins
abbrev pub IsBreakAt : Option Mark → Setting → List ℕ → Spot → List ℕ → Break → Type 0
IsBreakAt (Some marks.Comment) setting file spot text fault = (around (codes "--%>") (drop 4 text) ≡ None) × (fault ≡ Fault faults.Unclosed spot)
IsBreakAt (Some marks.Directive) setting file spot text fault = IsHeadBreak (HasBadValue setting file spot IsDirectiveOpening text) IsDirective spot text fault
IsBreakAt (Some marks.Scripting) setting file spot text fault = fault ≡ Fault faults.Scripting spot
IsBreakAt (Some marks.EscapedScripting) setting file spot text fault = ⊥
IsBreakAt (Some marks.EscapedDollar) setting file spot text fault = ⊥
IsBreakAt (Some marks.EscapedHash) setting file spot text fault = ⊥
IsBreakAt (Some marks.Expression) setting file spot text fault = HasNoEnd (drop 2 text) × (fault ≡ Fault faults.Unclosed spot)
IsBreakAt (Some marks.Hash) setting file spot text fault = ⊥
IsBreakAt (Some marks.Start) setting file spot text fault = IsHeadBreak (HasBadValue setting file spot IsStartOpening text) IsStart spot text fault
IsBreakAt (Some marks.End) setting file spot text fault = ¬ (BeginsEnd text) × (fault ≡ BadEnd spot)
IsBreakAt None setting file spot text fault = ⊥

-- no piece stands there
abbrev pub IsBreak : Setting → List ℕ → Spot → List ℕ → Break → Type 0
IsBreak setting file spot text fault = IsBreakAt (mark_at setting text) setting file spot text fault

-- the reading breaks off so, unless memory ran out
abbrev pub BreaksOff : Setting → List ℕ → Spot → List ℕ → Failure Break → Type 0
BreaksOff setting file spot text failure.NoMemory = Unit {0}
BreaksOff setting file spot text (failure.Fault fault) = IsBreak setting file spot text fault
