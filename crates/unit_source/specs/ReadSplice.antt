-- How the second reading goes on, as the program keeps it. No public contract speaks of it.
use Rattle.std.specs.Prelude.{ℕ, List, ◌++◌, map}
use Rattle.page_directives.specs.Directive.{Directive}
use Rattle.unit_source.specs.declared.found.FoundNodes.{FoundNodes}
use Rattle.unit_source.specs.declared.splice.InFile.{InFile}
use Rattle.unit_source.specs.declared.steps.Step.{Step as Kept}
use Rattle.unit_source.specs.declared.steps.Step.TheVariants as kept
use Rattle.unit_source.specs.declared.within.Within.{Within}
use Rattle.unit_source.specs.Files.{Files}
use Rattle.unit_source.specs.Placed.{in_place}
use Rattle.unit_source.specs.ReadSteps.{Step, registers, includes, Found, Taken}
use Rattle.unit_source.specs.Splice.{Enter, Going, Inner, Spliced, include_read, spliced_within}

-- the names of the files that were included so far, and how it goes on
pub record Gone : Type 0 where
  pub names : List (List ℕ)
  pub going : Going

abbrev pub gone : List (List ℕ) → Going → Gone
gone names going = record { names = names; going = going }

-- what was read, with more names of files
abbrev pub with_more : List (List ℕ) → Gone → Gone
with_more names old = gone (old.names ++ names) old.going

-- behind what an include directive comes to, behind steps, and behind the nodes of a file
abbrev pub behind_inner : Gone → Inner → Gone
behind_inner old inner = gone (old.names ++ inner.names) inner.going

abbrev pub behind_steps : Gone → Taken → Gone
behind_steps old taken = gone (old.names ++ taken.names) taken.going

abbrev pub behind_file : Gone → Spliced → Gone
behind_file old file = gone (old.names ++ file.names) file.going

-- the steps, and what include directives came to, as the program has them
abbrev pub step_of : Kept → Step
step_of (kept.Registers prefixes) = registers prefixes
step_of (kept.Includes around directive) = includes around directive

abbrev pub found_of : FoundNodes → Found
found_of found = record { entry = found.entry; nodes = in_place found.nodes.items }

-- how a file is read within others
abbrev pub spliced_in : Files → Within → Enter
spliced_in files within = spliced_within within.deep files within.settings.now within.chain.now

-- what the include directives of a file come to
abbrev pub reads : Files → InFile → ℕ → Directive → Going → Inner
reads files file = include_read (spliced_in files file.within) files file.within.chain.now

-- what steps came to, and how it goes on behind them, as the program has it
abbrev pub taken_of : List FoundNodes → Gone → Taken
taken_of found now = record { found = map found_of found; names = now.names; going = now.going }
