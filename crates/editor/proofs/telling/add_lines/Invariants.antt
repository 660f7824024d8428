use Rattle.std.proofs.Common.{◌≡◌, ◌++◌, take}
use Rattle.editor.specs.Telling.{on_lines}
use Rattle.editor.proofs.telling.add_lines.Given as goal

abbrev pub invariant-loop-path : goal.invariant-loop-path
invariant-loop-path l = l.text.items ≡ l.initial.text.items ++ on_lines (take l.path-index l.paths)
