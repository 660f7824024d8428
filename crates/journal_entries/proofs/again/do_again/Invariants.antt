use Rattle.std.proofs.Common.{◌≡◌, [], ◌∷◌, ◌++◌}
use Rattle.compiled_pages.specs.Pages.{needs_at}
use Rattle.site_words.specs.State.{after}
use Rattle.site_words.specs.Trees.{Each}
use Rattle.journal_entries.proofs.Histories.{Acts}
use Rattle.journal_entries.specs.Bases.{AreBases}
use Rattle.journal_entries.proofs.again.do_again.Given as goal

-- the site has done the first entries, and those to come are no Rolls
abbrev pub invariant-loop-entry : goal.invariant-loop-entry
invariant-loop-entry l = record {
  split : l.fn.history ≡ l.site.history ++ (l.entry-iterator.rest.items ++ (l.last ∷ []));
  opening : l.site.opening ≡ l.fn.site.opening;
  acts : Each Acts l.entry-iterator.rest.items;
  bases : AreBases (after needs_at l.site.opening l.site.history).runs l.bases;
}
