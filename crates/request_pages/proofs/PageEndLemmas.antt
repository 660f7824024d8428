-- How the run of a page ends, by what the page means.
use Rattle.std.proofs.Common.{◌≡◌, ◌<◌, ℕ, Bool, true, false, List, [], ◌++◌, Some, None, refl, sym, ap, subst, ◌∙◌}
use Rattle.std.specs.Prelude.{IsErr, Result, Ok, Err, if◌then◌else◌}
use Rattle.http_in.specs.declared.params.Param.{Param}
use Rattle.http_out.specs.declared.status.Status.{Status}
use Rattle.out_buffer.specs.Held.{Held}
use Rattle.out_buffer.specs.Writer.{has_committed, has_pieces}
use Rattle.run_pages.specs.RunEnd.{RunEnd}
use Rattle.run_pages.specs.RunEnd.TheVariants as ends
use Rattle.page_meaning.proofs.Growing.{uncommitted}
use Rattle.page_meaning.specs.Context.{Served}
use Rattle.page_meaning.specs.Growth.{Leaves}
use Rattle.page_meaning.specs.Laws.{ForwardsLeaveFewer, StepsAndPiecesGrow}
use Rattle.page_meaning.specs.Page.{Page}
use Rattle.page_meaning.specs.Respond.{run_answer}
use Rattle.page_meaning.specs.Response.{head_of, page_response, responds, rest_of}
use Rattle.page_meaning.specs.State.{State}
use Rattle.page_meaning.specs.Went.{Did, Raised}
use Rattle.run_pages.specs.Meant.{EndsAsMeant, PageMeant, page_mean}
use Rattle.pg_text.specs.declared.place.Place.{Place}
use Rattle.pg_value.specs.declared.fault.RunFault.{RunFault}
use Rattle.request_pages.specs.PageEnd.{EndsBy, PageEnded, PageEndsSo, reply_answer}
use Rattle.request_pages.specs.declared.reply.PageEnd.{PageEnd}
use Rattle.request_pages.specs.declared.reply.Reply.TheVariants as reply
use Rattle.response_laws.proofs.Behind.{run_leaves}
use Rattle.run_world.specs.Part.{given}
use Rattle.site_words.specs.Law.{Answer}

-- what a page wrote, by the head of its writer
written_same : (broken : Bool) (chosen : Status) (held : Held) (page : Page) (s : State) → chosen ≡ held.head.status → Some page.settings.content_type ≡ held.head.content_type → page_response chosen page broken s ≡ reply_answer held (reply.Written broken) s
written_same broken chosen held page s st ct =
    ap (λ x. responds (record { head = head_of x (Some page.settings.content_type) None s; pieces = s.writer.pieces; rest = rest_of broken s.writer.buffer; broken = broken }) s) st
    ∙ ap (λ x. responds (record { head = head_of held.head.status x None s; pieces = s.writer.pieces; rest = rest_of broken s.writer.buffer; broken = broken }) s) ct

module _ {E : Type 0} (means : List Answer → Did) (page : Page) (params : List Param) (left depth : ℕ) (held : Held) (after : State) where
  raised_so : (b : Bool) (fault : RunFault) (place : Place) (result : Result PageEnd E) → b ≡ has_committed after.writer → ((future : List Answer) → means future ≡ Raised fault place (given future after))
      → EndsBy b (ends.Raised fault place) result → PageEndsSo means page params left depth held after result
  raised_so true fault place result told so by =
      subst (PageEndsSo means page params left depth held after) (sym by) (
        0,
        tt,
        λ none. absurd (let e : true ≡ false = told ∙ ap has_pieces none in cc),
        λ target at_fault chosen st ct future.
            ap (run_answer target at_fault chosen page params) (so future)
            ∙ (ap (λ b. if b then page_response chosen page true (given future after) else at_fault page params (record { fault = fault; place = place }) (given future after)) (sym told)
            ∙ written_same true chosen held page (given future after) st ct),
      )
  raised_so false fault place result told so by =
      subst (PageEndsSo means page params left depth held after) (sym by) (
        0,
        tt,
        uncommitted after.writer.pieces (sym told),
        λ target at_fault chosen st ct future.
            ap (run_answer target at_fault chosen page params) (so future)
            ∙ ap (λ b. if b then page_response chosen page true (given future after) else at_fault page params (record { fault = fault; place = place }) (given future after)) (sym told),
      )

  short_so : (result : Result PageEnd E) → IsErr result → EndsAsMeant means depth ends.NoMemory after → PageEndsSo means page params left depth held after result
  short_so (Ok g) by so = absurd (cc)
  short_so (Err e) by so = so

  pub page_ends_so : ((future : List Answer) → Leaves left (means future)) → held.committed ≡ has_committed after.writer → (end : RunEnd) (result : Result PageEnd E) → EndsAsMeant means depth end after → EndsBy held.committed end result
      → PageEndsSo means page params left depth held after result
  page_ends_so leaves told ends.Normal result so by =
      subst (PageEndsSo means page params left depth held after) (sym by)
      (0, tt, λ none. refl, λ target at_fault chosen st ct future. ap (run_answer target at_fault chosen page params) (so future) ∙ written_same false chosen held page (given future after) st ct)
  page_ends_so leaves told (ends.Raised fault place) result so by = raised_so held.committed fault place result told so by
  page_ends_so leaves told (ends.Redirect address) result so by =
      let none : after.writer.pieces ≡ [] = subst (Leaves left) (so []) (leaves []) in
      subst (PageEndsSo means page params left depth held after) (sym by) (0, tt, none, λ target at_fault chosen st ct future. ap (run_answer target at_fault chosen page params) (so future))
  page_ends_so leaves told (ends.Forward path more) result so by =
      let by_levels : (so.0 < left) × (after.writer.pieces ≡ []) = subst (Leaves left) (so.2 []) (leaves []) in
      subst (PageEndsSo means page params left depth held after) (sym by)
      (so.0, (by_levels.0, so.1), by_levels.1, λ target at_fault chosen st ct future. ap (run_answer target at_fault chosen page params) (so.2 future))
  page_ends_so leaves told ends.NoMemory result so by = short_so result by so

pub page_ended : {E : Type 0} → ForwardsLeaveFewer → StepsAndPiecesGrow → (served : Served) (page : Page) (params : List Param) (left : ℕ) (stands : State → Type 0) (s : State) (old new : List Answer) (depth : ℕ) (held : Held) (end : RunEnd) (result : Result PageEnd E)
    → ((t : State) → stands t → held.committed ≡ has_committed t.writer) → EndsBy held.committed end result → PageMeant served page params left stands s old new depth end → PageEnded served page params left stands s old new depth held result
page_ended leaves grows served page params left stands s old new depth held end result told by meant = record {
  got = meant.got;
  replies = meant.replies;
  after = meant.after;
  stood = meant.stood;
  ends = page_ends_so (λ future. page_mean served left page params (given (meant.got ++ future) s)) page params left depth held meant.after (λ future. run_leaves leaves grows served left page params (given (meant.got ++ future) s))
      (told meant.after meant.stood) end result meant.ends by;
}
