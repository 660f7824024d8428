-- What may be asked of the site.
use Rattle.std.specs.Prelude.{◌≡◌, ◌≤◌, ℕ, true, List, [], length}
use Rattle.page_code.specs.Names.{max_name_bytes}
use Rattle.site_words.specs.Fits.{fits_step}
use Rattle.site_words.specs.declared.words.AppStep.{AppStep}
use Rattle.site_words.specs.declared.words.AppStep.TheVariants as step

-- the name of which a step speaks
abbrev pub name_in : AppStep → List ℕ
name_in (step.Get name) = name
name_in (step.Set name value) = name
name_in (step.Remove name) = name
name_in (step.Ensure name value) = name
name_in step.All = []

-- a step whose value keeps its limits and whose name isn't too long
abbrev pub IsAskable : AppStep → Type 0
IsAskable x = (fits_step x ≡ true) × (length (name_in x) ≤ max_name_bytes)
