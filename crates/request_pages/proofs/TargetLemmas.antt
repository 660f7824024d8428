-- What a forward's target answers where it is no page.
use Rattle.std.proofs.Common.{◌≡◌, ℕ, List, ◌++◌, Some, None, sym, ap, subst, codes}
use Rattle.std.specs.Prelude.{IfOk, Result, Ok, Err}
use Rattle.http_out.specs.declared.status.Status.{Status}
use Rattle.http_out.specs.declared.status.Status.TheVariants as status_is
use Rattle.compiled_pages.proofs.PageLemmas.{paged_absent, paged_bad, paged_plain}
use Rattle.compiled_pages.specs.Made.{IsFaultOf, IsProgramOf}
use Rattle.page_meaning.specs.Faults.{page_fault_line}
use Rattle.page_meaning.specs.Respond.{target_answer}
use Rattle.page_meaning.specs.Response.{file_type}
use Rattle.pg_text.specs.declared.place.PageFault.{PageFault}
use Rattle.request_pages.specs.Target.{IsTargetReply}
use Rattle.request_pages.specs.declared.reply.Reply.{Reply}
use Rattle.request_pages.specs.declared.reply.Reply.TheVariants as reply
use Rattle.site_words.specs.Running.{IsPaged}
use Rattle.site_words.specs.declared.app_port.Paged.TheVariants as found
use Rattle.source_tree.specs.declared.file.File.{File}

-- what follows of an answer follows of it, where it is one
pub if_ok : {A E : Type 0} (P R : A → Type 0) (result : Result A E) → ((a : A) → P a → R a) → IfOk result P → IfOk result R
if_ok P R (Ok a) goes h = goes a h
if_ok P R (Err e) goes h = tt

pub target_absent : (tree : List File) (status : Status) (path : List ℕ) (r : Reply) → IsPaged IsProgramOf IsFaultOf tree path found.Absent
    → r ≡ reply.Whole status_is.NotFound (Some (codes "text/plain;charset=UTF-8")) None (codes "NotFound" ++ codes "\n") → IsTargetReply tree status path r
target_absent tree status path r is e =
    subst (IsTargetReply tree status path) (sym e) (record { whole = tt; answers = λ run held s. ap (λ p. target_answer run status path p s) (paged_absent tree path is) })

pub target_plain : (tree : List File) (status : Status) (path text : List ℕ) (r : Reply) → IsPaged IsProgramOf IsFaultOf tree path (found.Plain text)
    → r ≡ reply.Whole status (Some (file_type path)) None text → IsTargetReply tree status path r
target_plain tree status path text r is e =
    subst (IsTargetReply tree status path) (sym e) (record { whole = tt; answers = λ run held s. ap (λ p. target_answer run status path p s) (paged_plain tree path text is) })

pub target_bad : (tree : List File) (status : Status) (path : List ℕ) (fault : PageFault) (r : Reply) → IsPaged IsProgramOf IsFaultOf tree path (found.Bad fault)
    → r ≡ reply.Whole status_is.InternalServerError (Some (codes "text/plain;charset=UTF-8")) None (page_fault_line fault ++ codes "\n") → IsTargetReply tree status path r
target_bad tree status path fault r is e =
    subst (IsTargetReply tree status path) (sym e) (record { whole = tt; answers = λ run held s. ap (λ p. target_answer run status path p s) (paged_bad tree path fault is.0 is.1) })
