-- The paths for which a site keeps what was made, in byte order.
use Rattle.std.specs.Prelude.{ℕ, true, not, List, [], filter}
use Rattle.source_tree.specs.declared.file.File.{File}
use Rattle.site_words.specs.declared.words.Op.{Op}
use Rattle.site_words.specs.declared.words.Op.TheVariants as op
use Rattle.site_words.specs.declared.words.Reply.{Reply}
use Rattle.site_words.specs.declared.words.Reply.TheVariants as reply
use Rattle.pg_text.specs.Names.{with_name}
use Rattle.source_tree.specs.Changed.{changed}
use Rattle.site_words.specs.Trees.{Needs, meets}

-- the ready paths with a changed name among their needs in the latest tree
abbrev pub dirty_of : Needs → List File → List (List ℕ) → List (List ℕ) → List (List ℕ)
dirty_of needs latest names ready = filter (λ path. meets (needs latest path) names) ready

-- the ready paths without a changed name among their needs in the latest tree
abbrev pub clean_of : Needs → List File → List (List ℕ) → List (List ℕ) → List (List ℕ)
clean_of needs latest names ready = filter (λ path. not (meets (needs latest path) names)) ready

-- the ready paths, with this one where its offer was kept
abbrev pub offered : List ℕ → List (List ℕ) → Reply → List (List ℕ)
offered path ready (reply.Offered true) = with_name path ready
offered path ready other = ready

-- the ready paths after an operation: a publishing takes some out, a kept offer puts one in, a Roll empties them
abbrev pub ready_after : Needs → List File → List (List ℕ) → Op → Reply → List (List ℕ)
ready_after needs latest ready (op.Publish base edits) r = clean_of needs latest (changed edits latest) ready
ready_after needs latest ready (op.Offer request path) r = offered path ready r
ready_after needs latest ready op.Roll r = []
ready_after needs latest ready other r = ready
