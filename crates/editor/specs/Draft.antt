-- What a draft may hold.
use Rattle.std.specs.Prelude.{ℕ, Bool, ◌&&◌, List, length, nat_le, sum_by}
use Rattle.source_tree.specs.declared.edit.Edit.{Edit}
use Rattle.source_tree.specs.declared.edit.Edit.TheVariants.{Put, Delete}
use Rattle.editor.specs.declared.limits.TheConstants.{MAX_DRAFT_BYTES, MAX_DRAFT_EDITS}

-- the bytes of the text that an edit puts
abbrev pub edit_bytes : Edit → ℕ
edit_bytes (Put path text) = length text
edit_bytes (Delete path) = 0

-- the bytes of all texts of a draft together
abbrev pub draft_bytes : List Edit → ℕ
draft_bytes draft = sum_by edit_bytes draft

-- a draft holds at most 1,024 edits, and at most 16,777,216 bytes of texts
unfoldable pub is_draft : List Edit → Bool
is_draft draft = nat_le (length draft) MAX_DRAFT_EDITS && nat_le (draft_bytes draft) MAX_DRAFT_BYTES
