-- What a request says to an editor.
use Rattle.std.specs.Prelude.{ℕ, Bool, true, false, ◌&&◌, not, List, drop, Option, Some, None, Result, Ok, Err, codes, nat_eq, if◌then◌else◌}
use Rattle.std.specs.List.{list_any, starts_with}
use Rattle.std.specs.Str.{bytes_eq, is_utf8}
use Rattle.percent_encoding.specs.Percent.{percent_decode}
use Rattle.pg_text.specs.declared.resolution.BadPath.{BadPath}
use Rattle.pg_text.specs.Numbers.{whole_number}
use Rattle.pg_text.specs.Path.{resolved, segments}
use Rattle.http_in.specs.declared.request.Request.{Request}
use Rattle.http_in.specs.Target.{is_mark}
use Rattle.source_tree.specs.declared.edit.Edit.TheVariants.{Put, Delete}
use Rattle.editor.specs.declared.fault.EditorFault.{EditorFault}
use Rattle.editor.specs.declared.fault.EditorFault.TheVariants as fault
use Rattle.editor.specs.declared.message.Message.{Message}
use Rattle.editor.specs.declared.message.Message.TheVariants.{Change, Publish}

-- the target, as it was sent, names a file: it begins so, and has no query
unfoldable pub is_file_target : List ℕ → Bool
is_file_target target = starts_with nat_eq target (codes "/_editor/files/") && not (list_any is_mark target)

-- the path of a target that names a file: what stands behind `/_editor/files`, its escapes decoded
abbrev pub named_path : List ℕ → List ℕ
named_path target = percent_decode (drop 14 target)

-- the text stands for itself as a path: it is taken, and has no segment `.` or `..`
abbrev pub is_own_path : List ℕ → Bool
is_own_path text = same (resolved (segments None text)) text
  where
    same : Result (List ℕ) BadPath → List ℕ → Bool
    same (Ok path) text = bytes_eq path text
    same (Err reason) text = false

-- the bytes are the path of a file: they are UTF-8, and stand for themselves as a path
unfoldable pub is_file_path : List ℕ → Bool
is_file_path bytes = is_utf8 bytes && is_own_path bytes

-- what puts a file with this path and text
abbrev pub put_of : (path text : List ℕ) → Result Message EditorFault
put_of path text = if is_file_path path then (if is_utf8 text then Ok (Change (Put path text)) else Err fault.NotUtf8) else Err fault.BadPath

-- what deletes the file with this path
abbrev pub delete_of : List ℕ → Result Message EditorFault
delete_of path = if is_file_path path then Ok (Change (Delete path)) else Err fault.BadPath

-- what publishes for this base, where it is a number
abbrev pub publish_for : Option ℕ → Result Message EditorFault
publish_for None = Err fault.BadMessage
publish_for (Some base) = Ok (Publish (Some base))

-- the target publishes without a base
unfoldable pub is_publish : List ℕ → Bool
is_publish target = bytes_eq target (codes "/_editor/publish")

-- the target publishes for a base, which stands behind these 22 bytes
unfoldable pub is_based : List ℕ → Bool
is_based target = starts_with nat_eq target (codes "/_editor/publish?base=")

-- what a target that was posted says: it publishes, with or without a base of 1 to 18 digits
abbrev pub posted : List ℕ → Result Message EditorFault
posted target = if is_publish target then Ok (Publish None) else (if is_based target then publish_for (whole_number (drop 22 target)) else Err fault.BadMessage)

-- what a request says to an editor, or its fault: a file is put or deleted, or the draft is published; any other is no message
unfoldable pub message : Request → Result Message EditorFault
message request =
    if bytes_eq request.method (codes "PUT") && is_file_target request.target then put_of (named_path request.target) request.body
    else (if bytes_eq request.method (codes "DELETE") && is_file_target request.target then delete_of (named_path request.target)
    else (if bytes_eq request.method (codes "POST") then posted request.target
    else Err fault.BadMessage))
