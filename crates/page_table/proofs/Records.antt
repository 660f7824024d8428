-- Rounds of loops, and what is set of records and beans, are tame.
use Rattle.std.proofs.Common.{ℕ, true, false, List, [], ◌∷◌, Option, Some, None, codes}
use Rattle.std.specs.Prelude.{is_some}
use Rattle.jstl_functions.specs.Functions.{measured}
use Rattle.pg_text.specs.declared.place.Place.{Place}
use Rattle.pg_value.specs.Attrs.{entry_at, with_entry, without_entry}
use Rattle.pg_value.specs.Datum as datum
use Rattle.pg_value.specs.Datum.{Datum, null, truth, number, text, rec, entry_list, entries_of}
use Rattle.pg_value.specs.Value.{value_of}
use Rattle.pg_value.specs.declared.fault.RunFault.TheVariants as fault
use Rattle.pg_value.specs.declared.scope.Scope.{Scope}
use Rattle.http_in.specs.declared.params.Param.{Param}
use Rattle.scopes.specs.Scopes.{Entries, found_in}
use Rattle.scopes.specs.declared.held_scope.HeldScope.{HeldScope}
use Rattle.scopes.specs.declared.held_scope.HeldScope.TheVariants as held
use Rattle.site_words.specs.declared.words.AppStep.TheVariants as step
use Rattle.page_code.specs.declared.operands.PropertyMode.{PropertyMode}
use Rattle.page_code.specs.declared.operands.PropertyMode.TheVariants as mode
use Rattle.page_meaning.specs.Attributes.{Values, coerced, value_at, text_in}
use Rattle.page_meaning.specs.Beans.{property_of, like, filled, all_by_parameters, one_set, one_by, properties_set, written_back, found_set, set_property_mean}
use Rattle.page_meaning.specs.Core.{property_replaced}
use Rattle.page_meaning.specs.Loops.{with_named, without_named, set_status, round_begun}
use Rattle.page_meaning.specs.Page.{Property, every, one}
use Rattle.page_meaning.specs.Request.{first_values}
use Rattle.page_meaning.specs.Rounds.{Round, status_record}
use Rattle.site_words.specs.PageSteps.{tells_created}
use Rattle.page_meaning.specs.Variables.{set_held, assign, look_up, with_page_variable}
use Rattle.page_meaning.specs.Went.{Well, then_do, result_of}
use Rattle.page_meaning.specs.Work.{visit, ask}
use Rattle.page_table.specs.Act.{bean_made}
use Rattle.page_table.specs.Operations as operations
use Rattle.page_table.specs.Operations.{property_set}
use Rattle.page_table.proofs.Tame.{keeps_same, Tame, Calm, changed_calm, well, raised, result, changed, behind, thens, eithers}
use Rattle.page_table.proofs.Words.{visit_tame, ask_tame, set_held_tame, assign_tame, look_up_tame}

with_page_calm : (name : List ℕ) (d : Datum) → Calm (with_page_variable name d)
with_page_calm name d = changed_calm held.Page (λ entries. with_entry entries name d)

with_named_calm : (name : Option (List ℕ)) (d : Datum) → Calm (with_named name d)
with_named_calm None d s = keeps_same s
with_named_calm (Some name) d s = with_page_calm name d s

pub without_named_calm : (name : Option (List ℕ)) → Calm (without_named name)
without_named_calm None s = keeps_same s
without_named_calm (Some name) s = changed_calm held.Page (λ entries. without_entry entries name) s

-- a round
set_status_tame : (place : Place) (name : Option (List ℕ)) (d : Datum) → Tame (set_status place name d)
set_status_tame place None d = well tt
set_status_tame place (Some name) d =
    thens (result_of place (measured d)) (λ m s1. Well tt (with_page_variable name m s1)) (result place (measured d)) (λ m. changed tt (with_page_variable name m) (with_page_calm name m))

pub round_tame : (place : Place) (variable status : Option (List ℕ)) (vs : Values) (r : Round) → Tame (round_begun place variable status vs r)
round_tame place variable status vs r =
    thens (visit place) (λ u s1. then_do (result_of place r.item s1) (λ item s2. set_status place status (status_record vs r item) (with_named variable item s2))) (visit_tame place)
    (λ u. thens (result_of place r.item) (λ item s2. set_status place status (status_record vs r item) (with_named variable item s2)) (result place r.item)
    (λ item. behind (set_status place status (status_record vs r item)) (with_named variable item) (with_named_calm variable item) (set_status_tame place status (status_record vs r item))))

-- an entry of a record
replaced_tame : (place : Place) (target property : List ℕ) (d : Datum)
    → Tame (λ s. then_do (look_up place target s) (λ p s2. then_do (result_of place (property_replaced property d p.1) s2) (λ r s3. assign place p.0 target r s3)))
replaced_tame place target property d =
    thens (look_up place target) (λ p s2. then_do (result_of place (property_replaced property d p.1) s2) (λ r s3. assign place p.0 target r s3)) (look_up_tame place target)
    (λ p. thens (result_of place (property_replaced property d p.1)) (λ r s3. assign place p.0 target r s3) (result place (property_replaced property d p.1)) (λ r. assign_tame place p.0 target r))

one_set_tame : (place : Place) (entries : Entries) (name : List ℕ) (old new : Datum) → Tame (one_set place entries name old new)
one_set_tame place entries name old new =
    thens (result_of place (coerced (like old) new)) (λ d s1. Well (Some (with_entry entries name d)) s1) (result place (coerced (like old) new)) (λ d. well (Some (with_entry entries name d)))

one_by_tame : (place value_place : Place) (entries : Entries) (name : List ℕ) (old : Datum) (value parameter : Option Datum)
    → Tame (one_by place value_place entries name old value parameter)
one_by_tame place value_place entries name old (Some d) parameter = one_set_tame value_place entries name old d
one_by_tame place value_place entries name old None (Some d) = one_set_tame place entries name old d
one_by_tame place value_place entries name old None None = well None

properties_tame : (place value_place : Place) (property : Property) (vs : Values) (params entries : Entries) → Tame (properties_set place value_place property vs params entries)
properties_tame place value_place every vs params entries =
    thens (result_of place (all_by_parameters params entries entries)) (λ es s1. Well (Some es) s1) (result place (all_by_parameters params entries entries)) (λ es. well (Some es))
properties_tame place value_place (one name parameter) vs params entries =
    thens (result_of place (property_of name (rec (entries_of entries))))
    (λ old s1. one_by place value_place entries name old (value_at (codes "value") vs) (filled (entry_at parameter params)) s1) (result place (property_of name (rec (entries_of entries))))
    (λ old. one_by_tame place value_place entries name old (value_at (codes "value") vs) (filled (entry_at parameter params)))

written_back_tame : (place : Place) (sc : Scope) (name : List ℕ) (o : Option Entries) → Tame (written_back place sc name o)
written_back_tame place sc name None = well tt
written_back_tame place sc name (Some es) =
    thens (result_of place (measured (rec (entries_of es)))) (λ r s1. assign place sc name r s1) (result place (measured (rec (entries_of es)))) (λ r. assign_tame place sc name r)

found_set_tame : (place value_place : Place) (name : List ℕ) (property : Property) (vs : Values) (params : List Param) (sc : Scope) (d : Datum)
    → Tame (found_set place value_place name property vs params sc d)
found_set_tame place value_place name property vs params sc (rec es) =
    thens (properties_set place value_place property vs (first_values params) (entry_list es)) (λ changed s1. written_back place sc name changed s1)
    (properties_tame place value_place property vs (first_values params) (entry_list es)) (λ o. written_back_tame place sc name o)
found_set_tame place value_place name property vs params sc null = raised fault.NotARecord place
found_set_tame place value_place name property vs params sc (truth b) = raised fault.NotARecord place
found_set_tame place value_place name property vs params sc (number n) = raised fault.NotARecord place
found_set_tame place value_place name property vs params sc (text t) = raised fault.NotARecord place
found_set_tame place value_place name property vs params sc (datum.list is) = raised fault.NotARecord place

pub set_property_tame : (place value_place : Place) (name : List ℕ) (property : Property) (vs : Values) (params : List Param) → Tame (set_property_mean place value_place name property vs params)
set_property_tame place value_place name property vs params =
    thens (look_up place name) (λ p s1. found_set place value_place name property vs params p.0 p.1 s1) (look_up_tame place name) (λ p. found_set_tame place value_place name property vs params p.0 p.1)

pub property_set_tame : (place : Place) (name : List ℕ) (m : PropertyMode) (params : List Param) (ds : List Datum) → Tame (property_set place name m params ds)
property_set_tame place name mode.Entry params ds = replaced_tame place name (text_in (Some (operations.value_at 0 ds))) (operations.value_at 1 ds)
property_set_tame place name mode.Parameters params ds = set_property_tame place place name every [] params
property_set_tame place name (mode.Value property value_place) params ds =
    set_property_tame place value_place name (one property property) ((codes "value", operations.value_at 0 ds) ∷ []) params
property_set_tame place name (mode.Parameter property parameter) params ds = set_property_tame place place name (one property parameter) [] params

-- a bean
pub bean_tame : (place : Place) (held : Option HeldScope) (name : List ℕ) (bean : Datum) → Tame (bean_made place held name bean)
bean_tame place (Some sc) name bean s =
    eithers (is_some (found_in s.scopes sc name)) (Well false) (λ s1. then_do (set_held place sc name bean s1) (λ u s2. Well true s2)) (well false)
    (thens (set_held place sc name bean) (λ u s2. Well true s2) (set_held_tame place sc name bean) (λ u. well true)) s
bean_tame place None name bean s =
    thens (ask place (step.Ensure name (value_of bean))) (λ answer s1. Well (tells_created answer) s1) (ask_tame place (step.Ensure name (value_of bean))) (λ answer. well (tells_created answer)) s
