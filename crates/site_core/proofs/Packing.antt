-- What the packing of an entry asks for.
use Rattle.std.proofs.Common.{ℕ}
use Rattle.packed_entries.specs.Kinds.{Pairs}
use Rattle.site_words.specs.declared.words.Op.{Op}
use Rattle.site_words.specs.declared.words.Op.TheVariants as op
use Rattle.site_words.specs.declared.words.Opening.{Opening}
use Rattle.site_words.specs.State.{State}
use Rattle.site_words.specs.Step.{reply_to}
use Rattle.site_words.specs.Trees.{Needs}

-- the reply of the step is of the operation's kind
pub reply_pairs : (needs : Needs) (x : Opening) (s : State) (pass : ℕ) (o : Op) → Pairs o (reply_to needs x s pass o)
reply_pairs needs x s pass (op.Publish base edits) = tt
reply_pairs needs x s pass (op.Begin cookie moment) = tt
reply_pairs needs x s pass (op.App request step) = tt
reply_pairs needs x s pass (op.Fresh request) = tt
reply_pairs needs x s pass (op.Fetch request path) = tt
reply_pairs needs x s pass (op.Offer request path) = tt
reply_pairs needs x s pass (op.End request attrs) = tt
reply_pairs needs x s pass (op.Abandon request) = tt
reply_pairs needs x s pass (op.Snapshot cookie) = tt
reply_pairs needs x s pass op.Roll = tt
