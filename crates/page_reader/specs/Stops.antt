-- What breaks the reading of a file off, and where the fault stands.
use Rattle.std.specs.Prelude.{◌≡◌, ◌⊎◌, ℕ, List, [], Option, Some, None}
use Rattle.pg_text.specs.declared.place.PageFault.{PageFault}
use Rattle.pg_text.specs.declared.translation_fault.TranslationFault.{TranslationFault}
use Rattle.pg_text.specs.declared.translation_fault.TranslationFault.TheVariants as faults
use Rattle.page_pieces.specs.declared.spot.Spot.{Spot}
use Rattle.page_pieces.specs.declared.piece.Piece.{Piece}
use Rattle.page_pieces.specs.declared.piece.Break.{Break}
use Rattle.page_pieces.specs.declared.piece.Piece.TheVariants as pieces
use Rattle.page_pieces.specs.declared.piece.Break.TheVariants.{Fault, BadEnd}
use Rattle.page_pieces.specs.Tags.{CouldEnd}
use Rattle.page_pieces.specs.Spots.{place_in}
use Rattle.page_pieces.specs.Breaks.{IsBreak}
use Rattle.page_pieces.specs.Pieces.{WrittenPiece, IsPiece, Ahead}
use Rattle.page_reader.specs.Written.{Reached, Whole, Within}

abbrev pub fault_at : List ℕ → TranslationFault → Spot → Option PageFault
fault_at file fault spot = Some (record { fault = fault; place = place_in file spot })

-- at the file's end an element that is open is Unclosed, where it begins
abbrev pub end_stop : List ℕ → Reached → Option PageFault
end_stop file Whole = None
end_stop file (Within prefix name spot) = fault_at file faults.Unclosed spot

-- the fault of a break in a text: a bad end leaves its element open where more bytes would make it that element's end, and else it is a wrong end
abbrev pub IsStopOf : List ℕ → List ℕ → Break → Reached → Option PageFault → Type 0
IsStopOf file text (Fault fault spot) reached stop = stop ≡ fault_at file fault spot
IsStopOf file text (BadEnd spot) Whole stop = stop ≡ fault_at file faults.WrongEnd spot
IsStopOf file text (BadEnd spot) (Within prefix name outer) stop =
    (CouldEnd prefix name text × (stop ≡ fault_at file faults.Unclosed outer)) ⊎ (¬ (CouldEnd prefix name text) × (stop ≡ fault_at file faults.WrongEnd spot))

-- the end of another element than the innermost that is open
abbrev pub IsWrongEnd : Reached → Piece → Type 0
IsWrongEnd Whole (pieces.End prefix name) = Unit {0}
IsWrongEnd (Within outer_prefix outer_name spot) (pieces.End prefix name) = ¬ ((outer_prefix ≡ prefix) × (outer_name ≡ name))
IsWrongEnd _ _ = ⊥

-- the reading comes to the file's end
pub record EndsFile (file : List ℕ) (ahead : Ahead) (reached : Reached) (stop : Option PageFault) : Type 0 where
  pub nothing_left : ahead.text ≡ []
  pub stop_is : stop ≡ end_stop file reached

-- the reading comes to a place where no piece stands
pub record MeetsBreak (file : List ℕ) (ahead : Ahead) (reached : Reached) (stop : Option PageFault) : Type 0 where
  pub fault : Break
  pub breaks : IsBreak ahead.setting file ahead.spot ahead.text fault
  pub stop_is : IsStopOf file ahead.text fault reached stop

-- the reading comes to a wrong end
pub record MeetsWrongEnd (file : List ℕ) (ahead : Ahead) (reached : Reached) (stop : Option PageFault) : Type 0 where
  pub piece : WrittenPiece
  pub rest : List ℕ
  pub stands : IsPiece ahead.setting file ahead.spot ahead.text piece rest
  pub wrong : IsWrongEnd reached piece.piece
  pub stop_is : stop ≡ fault_at file faults.WrongEnd ahead.spot

-- why the reading ends where it does
abbrev pub Stops : List ℕ → Ahead → Reached → Option PageFault → Type 0
Stops file ahead reached stop = EndsFile file ahead reached stop ⊎ (MeetsBreak file ahead reached stop ⊎ MeetsWrongEnd file ahead reached stop)
