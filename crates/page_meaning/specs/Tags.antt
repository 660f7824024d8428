-- The call of a tag file.
use Rattle.std.specs.Prelude.{ℕ, Bool, true, false, List, [], ◌∷◌, ◌++◌, filter, not, Option, Some, None, Result, Ok}
use Rattle.std.specs.List.{find}
use Rattle.std.specs.Option.{is_some, option_and_then}
use Rattle.std.specs.Str.{bytes_eq}
use Rattle.el_ops.specs.Operands.{answered}
use Rattle.jstl_functions.specs.Functions.{measured}
use Rattle.pg_text.specs.declared.place.Place.{Place}
use Rattle.pg_value.specs.Attrs.{of_entries, with_entry}
use Rattle.pg_value.specs.Datum.{Datum, rec, entries_of}
use Rattle.pg_value.specs.declared.fault.RunFault.{RunFault}
use Rattle.pg_value.specs.declared.fault.RunFault.TheVariants as fault
use Rattle.scopes.specs.Scopes.{Entries, ScopeState, with_frame_of}
use Rattle.tag_decl.specs.Declare.{declared}
use Rattle.tag_decl.specs.declared.declaration.AttrDecl.{AttrDecl}
use Rattle.tag_decl.specs.declared.declaration.AttrKind.{AttrKind}
use Rattle.tag_decl.specs.declared.declaration.AttrKind.TheVariants as kind
use Rattle.tag_decl.specs.declared.declaration.BodyKind.{BodyKind}
use Rattle.tag_decl.specs.declared.declaration.BodyKind.TheVariants as body_kind
use Rattle.tag_decl.specs.declared.declaration.TagDecl.{TagDecl}
use Rattle.page_meaning.specs.Attributes.{Values, Coercion, as_it_is, to_text, to_number_or_null, to_truth_or_null, unevaluated, with_values}
use Rattle.page_meaning.specs.Context.{Called, Fragment, GivenBody, nothing, source_text, body_nodes, Here, in_tag, run_of, Deeper, no_deeper, deeper}
use Rattle.page_meaning.specs.Exports.{exports_of, is_at_end, copied_out, given_back}
use Rattle.page_meaning.specs.Page.{Attributes, no_attributes, written, given, Body, no_body, given_body, TagFile}
use Rattle.page_meaning.specs.State.{State, in_scopes}
use Rattle.page_meaning.specs.Variables.{back_to}
use Rattle.page_meaning.specs.Went.{Did, Went, Raised, Well, then_do, tidied, result_of}

-- the tag file of this path
abbrev pub tag_at : List ℕ → List TagFile → Option TagFile
tag_at path tags = find (λ tag. bytes_eq path tag.path) tags

-- what a declared type asks of a value
abbrev pub type_coercion : AttrKind → Coercion
type_coercion kind.Text = to_text
type_coercion kind.Number = to_number_or_null
type_coercion kind.Truth = to_truth_or_null
type_coercion kind.Any = as_it_is

-- what becomes of an attribute: a fragment isn't evaluated, an undeclared one is taken as it is
abbrev pub tag_coercion : Option AttrDecl → Coercion
tag_coercion None = as_it_is
tag_coercion (Some a) = evaluated a.fragment
  where
    evaluated : Bool → Coercion
    evaluated true = unevaluated
    evaluated false = type_coercion a.kind

-- whether a value is that of a declared attribute
abbrev pub is_declared : TagDecl → List ℕ × Datum → Bool
is_declared decl value = is_some (declared value.0 decl.attributes)

-- with the record of the undeclared ones, where they are taken
abbrev pub with_dynamic : Option (List ℕ) → Values → Entries → Result Entries RunFault
with_dynamic None undeclared frame = Ok frame
with_dynamic (Some name) undeclared frame = answered (λ d. with_entry frame name d) (measured (rec (entries_of (of_entries undeclared))))

-- the frame that a call begins with
abbrev pub first_frame : TagDecl → Values → Result Entries RunFault
first_frame decl values = with_dynamic decl.dynamic (filter (λ v. not (is_declared decl v)) values) (of_entries (filter (is_declared decl) values))

-- the fragments among the attributes of a call
abbrev pub fragments_of : TagDecl → Attributes → List Fragment
fragments_of decl no_attributes = []
fragments_of decl (written name parts place rest) = fragments_of decl rest
fragments_of decl (given name trim nodes place rest) = one (option_and_then fragment (declared name decl.attributes)) ++ fragments_of decl rest
  where
    fragment : AttrDecl → Option Fragment
    fragment a = when_fragment a.fragment
      where
        when_fragment : Bool → Option Fragment
        when_fragment true = Some (record { name = name; nodes = nodes })
        when_fragment false = None

    one : Option Fragment → List Fragment
    one (Some f) = f ∷ []
    one None = []

-- the body that a call gives: its source text to a tag file that takes that
abbrev pub body_for : BodyKind → Body → GivenBody
body_for k no_body = nothing
body_for body_kind.TagDependent (given_body source nodes) = source_text source
body_for k (given_body source nodes) = body_nodes nodes

-- the end of a call that went well: variables are copied and given back
abbrev pub call_ended : Called → (before : ScopeState) → State → Did
call_ended call before s = Well tt (in_scopes (given_back call.exports before call.frame (copied_out is_at_end call.exports call.frame s.scopes)) s)

-- a call runs one deeper in a frame of its own
abbrev pub call_run : Deeper → Place → Called → Entries → Here → State → Did
call_run no_deeper place call entries here s = Raised fault.TooDeep place s
call_run (deeper left run) place call entries here s =
    tidied (back_to s.scopes)
    (then_do (run call.tag.nodes (in_tag (run_of here) call here) (in_scopes (with_frame_of entries s.scopes) s)) (λ u s1. call_ended call s.scopes s1))

-- the call that an action makes, in the frame that is current
abbrev pub call_of : TagFile → Attributes → Body → Entries → State → Called
call_of tag attributes b entries s =
    record { tag = tag; exports = exports_of entries tag.decl.variables; body = body_for tag.decl.body b; fragments = fragments_of tag.decl attributes; frame = s.scopes.current }

-- a call with the values of its attributes
abbrev pub call_mean : Deeper → Place → TagFile → Attributes → Body → Here → Values → State → Did
call_mean deep place tag attributes b here values s =
    then_do (result_of place (first_frame tag.decl values) s) (λ entries s1. call_run deep place (call_of tag attributes b entries s1) entries here s1)

-- a call of the tag file at a path; a unit has each one that it calls
abbrev pub tag_mean : Deeper → Place → Option TagFile → Attributes → Body → Here → (values : (List ℕ → Coercion) → State → Went (List Datum)) → State → Did
tag_mean deep place (Some tag) attributes b here values s =
    with_values (λ name. tag_coercion (declared name tag.decl.attributes)) attributes values (λ vs s1. call_mean deep place tag attributes b here vs s1) s
tag_mean deep place None _ _ here values s = Well tt s
