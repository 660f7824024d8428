-- How what an editor's message comes to is told.
use Rattle.std.specs.Prelude.{ℕ, List, ◌++◌, codes, decimal, flat_map}
use Rattle.http_out.specs.Full.{full_line}
use Rattle.http_out.specs.declared.status.Status.{Status}
use Rattle.http_out.specs.declared.status.Status.TheVariants as status
use Rattle.source_tree.specs.declared.fault.TreeFault.{TreeFault}
use Rattle.source_tree.specs.declared.fault.TreeFault.TheVariants as tree
use Rattle.editor.specs.declared.answer.EditorAnswer.{EditorAnswer}
use Rattle.editor.specs.declared.answer.EditorAnswer.TheVariants as answer
use Rattle.editor.specs.declared.fault.EditorFault.{EditorFault}
use Rattle.editor.specs.declared.fault.EditorFault.TheVariants as fault

-- the status that a fault is answered with
abbrev pub status_of : EditorFault → Status
status_of fault.BadPath = status.BadRequest
status_of fault.DraftTooLarge = status.ContentTooLarge
status_of fault.NotUtf8 = status.BadRequest
status_of (fault.Stale latest) = status.Conflict
status_of (fault.TreeTooLarge reason) = status.ContentTooLarge
status_of (fault.JournalFull weight promised) = status.ServiceUnavailable
status_of fault.BadMessage = status.BadRequest

-- a path on a line of its own, behind the line before it
abbrev pub on_line : List ℕ → List ℕ
on_line path = codes "\n" ++ path

-- each path on a line of its own
abbrev pub on_lines : List (List ℕ) → List ℕ
on_lines paths = flat_map on_line paths

-- the lines of an answer, without the end of the last: the number of edits, or the version and then each dirty path
abbrev pub answer_text : EditorAnswer → List ℕ
answer_text (answer.Drafted count) = codes "draft " ++ decimal count
answer_text (answer.Published published) = (codes "version " ++ decimal published.version) ++ on_lines published.dirty

-- the name of a tree's fault
abbrev pub tree_fault_name : TreeFault → List ℕ
tree_fault_name tree.TooManyFiles = codes "TooManyFiles"
tree_fault_name tree.FileTooLarge = codes "FileTooLarge"
tree_fault_name tree.TreeTooLarge = codes "TreeTooLarge"

-- the line of a fault, without its end: its name, and the numbers or the tree's fault that belong to it
abbrev pub fault_text : EditorFault → List ℕ
fault_text fault.BadPath = codes "BadPath"
fault_text fault.DraftTooLarge = codes "DraftTooLarge"
fault_text fault.NotUtf8 = codes "NotUtf8"
fault_text (fault.Stale latest) = codes "Stale " ++ decimal latest
fault_text (fault.TreeTooLarge reason) = codes "TreeTooLarge " ++ tree_fault_name reason
fault_text (fault.JournalFull weight promised) = full_line weight promised
fault_text fault.BadMessage = codes "BadMessage"
