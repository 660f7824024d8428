-- What contracts see of a site.
use Rattle.std.specs.Prelude.{List, take}
use Rattle.tree_site.specs.Asked.{asking_by}
use Rattle.site_words.specs.Running.{Asking}
use Rattle.source_tree.specs.declared.file.File.{File}
use Rattle.tree_site.specs.declared.site.TreeSite.{TreeSite}

-- what was asked, what was answered, and what is left of the promise
abbrev pub asking_of : TreeSite → Asking
asking_of site = asking_by site.asked.items (take site.used site.answers.items) site.has_session

-- a site's files
abbrev pub tree_of : TreeSite → List File
tree_of site = site.tree.now
