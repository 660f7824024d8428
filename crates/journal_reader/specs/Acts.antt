-- Operations with their replies.
use Rattle.std.specs.Prelude.{◌≡◌, ℕ, List, ◌++◌}
use Rattle.site_journal.specs.Journal.{kind_of, of_op, of_reply, replied_kind}
use Rattle.site_journal.specs.Reading.{IsOp, IsReply}
use Rattle.site_words.specs.declared.words.Op.{Op}
use Rattle.site_words.specs.declared.words.Reply.{Reply}

-- an operation of this kind, with a reply of its kind
pub record IsActOf (kind : ℕ) (act : Op × Reply) : Type 0 where
  pub is_kind : kind_of act.0 ≡ kind
  pub fits : replied_kind act.1 ≡ kind
  pub op : IsOp act.0
  pub reply : IsReply act.1

abbrev pub of_act : Op × Reply → List ℕ
of_act act = of_op act.0 ++ of_reply act.1
