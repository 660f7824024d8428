use Rattle.std.proofs.Common.{rules}
use Rattle.std.specs.Fmt.{digits}
use Rattle.http_out.specs.Head.{head_text}
use Rattle.http_out.specs.Response.{no_memory, whole}
use Rattle.http_out.proofs.no_memory.no_memory_text.Goals as goal

pub returns-in-true-true : goal.returns-in-true-true
unfolding no_memory whole head_text digits
returns-in-true-true c = search rules

pub returns-in-true-false : goal.returns-in-true-false
unfolding no_memory whole head_text digits
returns-in-true-false c = search rules

pub returns-in-false-true : goal.returns-in-false-true
unfolding no_memory whole head_text digits
returns-in-false-true c = search rules

pub returns-in-false-false : goal.returns-in-false-false
unfolding no_memory whole head_text digits
returns-in-false-false c = search rules
