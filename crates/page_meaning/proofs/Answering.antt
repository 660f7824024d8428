-- Requests are orderly: their first page, its error page, and the laws that follow.
use Rattle.std.proofs.Common.{ℕ, Bool, true, false, List, [], ◌++◌, Option, Some, None, refl, subst, codes}
use Rattle.std.specs.Prelude.{if◌then◌else◌}
use Rattle.http_in.specs.declared.params.Param.{Param}
use Rattle.http_in.specs.declared.request.Request.{Request}
use Rattle.http_out.specs.declared.status.Status.TheVariants as status_is
use Rattle.site_words.specs.Law.{Answer}
use Rattle.page_meaning.specs.Context.{Served, Paged, absent, plain, bad, good}
use Rattle.page_meaning.specs.Faults.{Raise, page_fault_line, run_fault_line}
use Rattle.page_meaning.specs.Laws.{RequestGoesOn, RequestsGoOn, PiecesAreCommitted, AnswersAreUnused}
use Rattle.page_meaning.specs.Page.{Page}
use Rattle.page_meaning.specs.Respond.{level_limit, from_first_level, with_exception, with_no_visits, first_fault, error_answer, error_path, error_at, on_fault, path_answer, is_hidden, answer_at, FoundSession, beginning, respond}
use Rattle.page_meaning.specs.Response.{Answered, whole, plain_line, not_found, file_type}
use Rattle.page_meaning.specs.State.{State}
use Rattle.page_meaning.specs.Work.{fetched}
use Rattle.page_meaning.proofs.Chains.{AnswerOrderly, AnswersOrderly, whole_orderly, plain_line_orderly, answer_behind, chain_orderly}
use Rattle.page_meaning.proofs.Growing.{quiet}
use Rattle.page_meaning.proofs.Orderly.{Calm}
use Rattle.page_meaning.proofs.Words.{fetched_calm}

no_visits_calm : Calm with_no_visits
no_visits_calm = record { grows = λ s. quiet s (with_no_visits s) refl refl refl; kept = λ s more. refl }

first_fault_orderly : (r : Raise) (page : Page) (params : List Param) (other : Raise) → AnswersOrderly (first_fault r page params other)
first_fault_orderly r page params other = plain_line_orderly status_is.InternalServerError (run_fault_line r)

error_page_orderly : (served : Served) (r : Raise) (params : List Param) (page : Page)
    → AnswersOrderly (from_first_level (with_exception r served) (first_fault r) status_is.InternalServerError page params)
error_page_orderly served r params page =
    chain_orderly (with_exception r served) (first_fault r) status_is.InternalServerError (first_fault_orderly r) level_limit level_limit page params

error_answer_orderly : (served : Served) (r : Raise) (params : List Param) (path : List ℕ) (paged : Paged) → AnswersOrderly (error_answer served r params path paged)
error_answer_orderly served r params path (good page) =
    answer_behind (λ s. from_first_level (with_exception r served) (first_fault r) status_is.InternalServerError page params (with_no_visits s)) (fetched path) (fetched_calm path) (λ s. refl)
    (answer_behind (from_first_level (with_exception r served) (first_fault r) status_is.InternalServerError page params) with_no_visits no_visits_calm (λ s. refl) (error_page_orderly served r params page))
error_answer_orderly served r params path (plain t) =
    answer_behind (whole status_is.InternalServerError (file_type path) t) with_no_visits no_visits_calm (λ s. refl) (whole_orderly status_is.InternalServerError (file_type path) t)
error_answer_orderly served r params path absent = plain_line_orderly status_is.InternalServerError (run_fault_line r)
error_answer_orderly served r params path (bad f) =
    answer_behind (plain_line status_is.InternalServerError (run_fault_line r)) (fetched path) (fetched_calm path) (λ s. refl) (plain_line_orderly status_is.InternalServerError (run_fault_line r))

error_at_orderly : (served : Served) (r : Raise) (params : List Param) (o : Option (List ℕ)) → AnswersOrderly (error_at served r params o)
error_at_orderly served r params None = plain_line_orderly status_is.InternalServerError (run_fault_line r)
error_at_orderly served r params (Some path) = error_answer_orderly served r params path (served.pages path)

on_fault_orderly : (served : Served) (page : Page) (params : List Param) (r : Raise) → AnswersOrderly (on_fault served page params r)
on_fault_orderly served page params r = error_at_orderly served r params (error_path page)

path_orderly : (served : Served) (params : List Param) (path : List ℕ) (paged : Paged) → AnswersOrderly (path_answer served params path paged)
path_orderly served params path absent = plain_line_orderly status_is.NotFound (codes "NotFound")
path_orderly served params path (plain t) = whole_orderly status_is.Ok (file_type path) t
path_orderly served params path (bad f) =
    answer_behind (plain_line status_is.InternalServerError (page_fault_line f)) (fetched path) (fetched_calm path) (λ s. refl) (plain_line_orderly status_is.InternalServerError (page_fault_line f))
path_orderly served params path (good page) =
    answer_behind (from_first_level served (on_fault served) status_is.Ok page params) (fetched path) (fetched_calm path) (λ s. refl)
    (chain_orderly served (on_fault served) status_is.Ok (on_fault_orderly served) level_limit level_limit page params)

shown_orderly : (b : Bool) (f : State → Answered) → AnswersOrderly f → AnswersOrderly (λ s. if b then not_found s else f s)
shown_orderly true f h = plain_line_orderly status_is.NotFound (codes "NotFound")
shown_orderly false f h = h

answer_at_orderly : (served : Served) (params : List Param) (o : Option (List ℕ)) → AnswersOrderly (answer_at served params o)
answer_at_orderly served params None = plain_line_orderly status_is.NotFound (codes "NotFound")
answer_at_orderly served params (Some path) = shown_orderly (is_hidden path) (path_answer served params path (served.pages path)) (path_orderly served params path (served.pages path))

respond_orderly : (pages : (path : List ℕ) → Paged) (request : Request) (session : Option FoundSession) (answers : List Answer)
    → AnswerOrderly (beginning session answers) (respond pages request session answers) (λ more. respond pages request session (answers ++ more))
respond_orderly pages request session answers =
    answer_at_orderly (record { request = request; pages = pages; exception = None }) request.params request.path (beginning session answers) refl

pub requests_go_on : RequestsGoOn
requests_go_on pages request session answers more = (respond_orderly pages request session answers).goes_on more

pub pieces_are_committed : PiecesAreCommitted
pieces_are_committed pages request session answers = (respond_orderly pages request session answers).pieces

pub answers_are_unused : AnswersAreUnused
answers_are_unused pages request session response s e answers =
    subst (λ a. RequestGoesOn answers a (respond pages request session answers)) e (requests_go_on pages request session [] answers)
