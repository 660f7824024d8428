-- Variables, implicit objects and their entries are tame.
use Rattle.std.proofs.Common.{ℕ, Bool, true, false, List, Option, Some, None}
use Rattle.el_coercion.specs.Text.{text_of, made}
use Rattle.jstl_functions.specs.Functions.{measured}
use Rattle.pg_text.specs.declared.place.Place.{Place}
use Rattle.pg_value.specs.Datum as datum
use Rattle.pg_value.specs.Datum.{Datum, null, truth, number, text, rec}
use Rattle.pg_value.specs.declared.fault.RunFault.TheVariants as fault
use Rattle.site_words.specs.declared.words.AppStep.TheVariants as step
use Rattle.page_meaning.specs.Context.{Served, Here}
use Rattle.page_meaning.specs.Expressions.{found_nowhere, variable_or_step}
use Rattle.page_meaning.specs.Implicit.{Keyed, held_scope, application_scope, header, header_values, Implicit, keyed, page_context, param, param_values, cookie, init_param, page_context_record, scope_entries, whole_application, keyed_value, implicit_value, entry_under, entry_of_object}
use Rattle.site_words.specs.PageSteps.{told_value, tells_large}
use Rattle.page_meaning.specs.Went.{Well, Raised, then_do, result_of}
use Rattle.page_meaning.specs.Work.{ask}
use Rattle.page_table.proofs.Tame.{Tame, well, raised, result, thens, eithers}
use Rattle.page_table.proofs.Words.{ask_tame}

keyed_tame : (served : Served) (place : Place) (object : Keyed) → Tame (keyed_value served place object)
keyed_tame served place (held_scope sc) s = result place (measured (rec (datum.entries_of (scope_entries s.scopes sc)))) s
keyed_tame served place application_scope s =
    thens (ask place step.All) (whole_application place) (ask_tame place step.All)
    (λ answer. eithers (tells_large answer) (Raised fault.ValueTooLarge place) (Well (told_value answer)) (raised fault.ValueTooLarge place) (well (told_value answer))) s
keyed_tame served place header s = well _ s
keyed_tame served place header_values s = well _ s

pub implicit_tame : (served : Served) (here : Here) (place : Place) (object : Implicit) → Tame (implicit_value served here place object)
implicit_tame served here place (keyed object) s = keyed_tame served place object s
implicit_tame served here place page_context s = well (page_context_record served s) s
implicit_tame served here place param s = well _ s
implicit_tame served here place param_values s = well _ s
implicit_tame served here place cookie s = well _ s
implicit_tame served here place init_param s = well _ s

entry_under_tame : (served : Served) (place : Place) (object : Keyed) (key : List ℕ) → Tame (entry_under served place object key)
entry_under_tame served place (held_scope sc) key s = well _ s
entry_under_tame served place application_scope key s =
    thens (result_of place (made key)) (λ k s1. then_do (ask place (step.Get k) s1) (λ answer s2. Well (told_value answer) s2)) (result place (made key))
    (λ k. thens (ask place (step.Get k)) (λ answer s2. Well (told_value answer) s2) (ask_tame place (step.Get k)) (λ answer. well (told_value answer))) s
entry_under_tame served place header key s = well _ s
entry_under_tame served place header_values key s = well _ s

entry_by_text : (served : Served) (place : Place) (object : Keyed) (d : Datum)
    → Tame (λ s. then_do (result_of place (text_of d) s) (λ k s1. entry_under served place object k s1))
entry_by_text served place object d =
    thens (result_of place (text_of d)) (λ k s1. entry_under served place object k s1) (result place (text_of d)) (λ k. entry_under_tame served place object k)

pub entry_of_object_tame : (served : Served) (place : Place) (object : Keyed) (d : Datum) → Tame (entry_of_object served place object d)
entry_of_object_tame served place object null = well null
entry_of_object_tame served place object (truth b) = entry_by_text served place object (truth b)
entry_of_object_tame served place object (number n) = entry_by_text served place object (number n)
entry_of_object_tame served place object (text t) = entry_by_text served place object (text t)
entry_of_object_tame served place object (datum.list is) = entry_by_text served place object (datum.list is)
entry_of_object_tame served place object (rec es) = entry_by_text served place object (rec es)

found_nowhere_tame : (strict : Bool) (place : Place) (d : Datum) → Tame (found_nowhere strict place d)
found_nowhere_tame true place null = raised fault.NotFound place
found_nowhere_tame true place (truth b) = well (truth b)
found_nowhere_tame true place (number n) = well (number n)
found_nowhere_tame true place (text t) = well (text t)
found_nowhere_tame true place (datum.list is) = well (datum.list is)
found_nowhere_tame true place (rec es) = well (rec es)
found_nowhere_tame false place d = well d

pub variable_tame : (strict : Bool) (place : Place) (n : List ℕ) (o : Option Datum) → Tame (variable_or_step strict place n o)
variable_tame strict place n (Some d) = well d
variable_tame strict place n None =
    thens (ask place (step.Get n)) (λ answer s1. found_nowhere strict place (told_value answer) s1) (ask_tame place (step.Get n)) (λ answer. found_nowhere_tame strict place (told_value answer))
