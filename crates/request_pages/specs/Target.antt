-- What a forward's target answers where it is no page.
use Rattle.std.specs.Prelude.{◌≡◌, ℕ, List, ⊤}
use Rattle.http_out.specs.declared.status.Status.{Status}
use Rattle.out_buffer.specs.Held.{Held}
use Rattle.compiled_pages.specs.Pages.{paged_at}
use Rattle.page_meaning.specs.Page.{Page}
use Rattle.page_meaning.specs.Respond.{target_answer}
use Rattle.page_meaning.specs.Response.{Answered}
use Rattle.page_meaning.specs.State.{State}
use Rattle.request_pages.specs.PageEnd.{reply_answer}
use Rattle.request_pages.specs.declared.chain.ChainEnd.{ChainEnd}
use Rattle.request_pages.specs.declared.chain.ChainEnd.TheVariants as ended
use Rattle.request_pages.specs.declared.reply.Reply.{Reply}
use Rattle.request_pages.specs.declared.reply.Reply.TheVariants as reply
use Rattle.run_world.specs.declared.program.Program.{Program}
use Rattle.site_words.specs.declared.app_port.Paged.{Paged}
use Rattle.site_words.specs.declared.app_port.Paged.TheVariants as found
use Rattle.source_tree.specs.declared.file.File.{File}

-- no page was found
abbrev pub IsOther : Paged Program → Type 0
IsOther (found.Page program) = ⊥
IsOther other = ⊤

-- the reply is whole
abbrev pub IsWhole : Reply → Type 0
IsWhole (reply.Written broken) = ⊥
IsWhole (reply.Whole status content_type location body) = ⊤

-- the reply is what the target at a path of a tree answers
pub record IsTargetReply (tree : List File) (status : Status) (path : List ℕ) (r : Reply) : Type 0 where
  pub whole : IsWhole r
  pub answers : (run : Page → State → Answered) (held : Held) (s : State) → target_answer run status path (paged_at tree path) s ≡ reply_answer held r s

-- a chain ends at such a target with its reply
abbrev pub IsTargetEnd : List File → Status → List ℕ → ChainEnd → Type 0
IsTargetEnd tree status path (ended.Done r) = IsTargetReply tree status path r
IsTargetEnd tree status path (ended.Failed failure) = ⊥
