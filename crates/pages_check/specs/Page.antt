-- The fault of a page that stands alone.
use Rattle.std.specs.Prelude.{ℕ, List, [], ◌∷◌, length, take, nat_lt, Option, Some, if◌then◌else◌}
use Rattle.std.specs.Str.{is_utf8}
use Rattle.std.specs.Str.Lossy.{utf8_valid_len}
use Rattle.pg_text.specs.declared.place.PageFault.{PageFault}
use Rattle.pg_text.specs.declared.translation_fault.TranslationFault.TheVariants as fault
use Rattle.page_pieces.specs.Spots.{place_in, spot_after, start}
use Rattle.source_tree.specs.declared.file.File.{File}
use Rattle.source_tree.specs.declared.limits.TheConstants.{MAX_FILE_BYTES}
use Rattle.unit_source.specs.Files.{text_in}
use Rattle.unit_words.specs.Unit.{fault_in, unit_of}

-- the files of a site that has this text alone
abbrev pub alone : (path text : List ℕ) → List File
alone path text = record { path = path; text = text; stamp = 1 } ∷ []

-- the fault of a file with too many bytes
abbrev pub too_large : (path : List ℕ) → PageFault
too_large path = record { fault = fault.TooLarge; place = place_in path start }

-- the fault of a file that is UTF-8 up to the end of this front
abbrev pub not_utf8 : (path front : List ℕ) → PageFault
not_utf8 path front = record { fault = fault.NotUtf8; place = place_in path (spot_after start front) }

-- the fault of the page with this text, where its unit has one
abbrev pub unit_fault : (path text : List ℕ) → Option PageFault
unit_fault path text = fault_in (unit_of (text_in (alone path text)) path text).body

-- the fault of the page with these bytes, where it has one: it is too large, or isn't UTF-8, or its unit has a fault
unfoldable pub page_fault : (path bytes : List ℕ) → Option PageFault
page_fault path bytes =
    if nat_lt MAX_FILE_BYTES (length bytes) then Some (too_large path)
    else if is_utf8 bytes then unit_fault path bytes
    else Some (not_utf8 path (take (utf8_valid_len bytes) bytes))
