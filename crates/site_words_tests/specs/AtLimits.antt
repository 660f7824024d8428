-- Histories at the limits of a site.
use Rattle.std.specs.Prelude.{◌≡◌, [], ◌∷◌, Some, None, true, codes, replicate}
use Rattle.source_tree.specs.declared.edit.Edit.TheVariants as edit
use Rattle.source_tree.specs.declared.fault.TreeFault.TheVariants as tree_fault_is
use Rattle.edges.specs.declared.acted.Acted.TheVariants.{Did, Refused}
use Rattle.site_words.specs.declared.words.Opening.{Opening}
use Rattle.site_words.specs.declared.words.Op.TheVariants as op
use Rattle.site_words.specs.declared.words.Reply.TheVariants as reply
use Rattle.site_words.specs.declared.words.Refusal.TheVariants as refusal
use Rattle.site_words_tests.specs.Run.{run_all, seen, many_sessions, many_files}
use Rattle.site_words.specs.declared.words.KeptSession.{KeptSession}
use Rattle.std.specs.Prelude.{map}
use Rattle.site_words.specs.Opening.{is_sound}

abbrev pub one_gives_way_opening : Opening
one_gives_way_opening = record { seed = (replicate 32 0); limit = 2147483648; passes = 1; idle = 1800; version = 0; begins = 0; freshes = 4096; moment = 0; app = ([]); tree = ([]); sessions = many_sessions 4096 0 }

-- where there are as many sessions as there may be, the first free one gives way to a new one
abbrev pub OneGivesWay : Type 0
OneGivesWay =
    map (λ (kept : KeptSession). kept.number) (run_all one_gives_way_opening ((0, (op.Begin [] 0))
    ∷ (0, (op.Fresh 0))
    ∷ (0, (op.Abandon 0)) ∷ [])).1.sessions
    ≡ map (λ (kept : KeptSession). kept.number) (many_sessions 4096 1)

-- an opening with as many sessions as there may be is sound
abbrev pub FullIsSound : Type 0
FullIsSound =
    is_sound (record { seed = (replicate 32 0); limit = 2147483648; passes = 1; idle = 1800; version = 0; begins = 0; freshes = 4096; moment = 0; app = ([]); tree = ([]); sessions = many_sessions 64 0 })
    ≡ true

abbrev pub too_many_files_opening : Opening
too_many_files_opening = record { seed = (replicate 32 0); limit = 2147483648; passes = 1; idle = 1800; version = 0; begins = 0; freshes = 0; moment = 0; app = ([]); tree = many_files 4096 0; sessions = ([]) }

-- one file more than there may be is refused, unless another one goes
abbrev pub TooManyFiles : Type 0
TooManyFiles =
    (run_all too_many_files_opening ((0, (op.Publish None ((edit.Put (codes "/z") []) ∷ [])))
    ∷ (0, (op.Publish None ((edit.Put (codes "/z") []) ∷ (edit.Delete (codes "/0000")) ∷ [])))
    ∷ (0, (op.Publish (Some 0) ((edit.Put (codes "/y") []) ∷ []))) ∷ [])).0
    ≡ ((seen (Refused (refusal.TreeTooLarge tree_fault_is.TooManyFiles)))
    ∷ (seen (Did (reply.Published 1 ([]))))
    ∷ (seen (Refused (refusal.Stale 1))) ∷ [])
