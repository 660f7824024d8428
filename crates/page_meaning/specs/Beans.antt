-- Beans: `jsp:useBean`, `jsp:getProperty` and `jsp:setProperty`.
use Rattle.std.specs.Prelude.{ℕ, Bool, true, false, List, [], ◌∷◌, codes, is_some, Option, Some, None, Result, Ok, Err}
use Rattle.std.specs.Str.{bytes_eq}
use Rattle.el_coercion.specs.Text.{text_of}
use Rattle.http_in.specs.declared.params.Param.{Param}
use Rattle.jstl_functions.specs.Functions.{and_then, measured}
use Rattle.pg_text.specs.declared.place.Place.{Place}
use Rattle.pg_value.specs.Attrs.{entry_at, with_entry}
use Rattle.pg_value.specs.Datum.{Datum, truth, number, text, list, rec, entry_list, entries_of}
use Rattle.pg_value.specs.Value.{value_of}
use Rattle.pg_value.specs.declared.fault.RunFault.{RunFault}
use Rattle.pg_value.specs.declared.fault.RunFault.TheVariants as fault
use Rattle.pg_value.specs.declared.scope.Scope.{Scope}
use Rattle.scopes.specs.HeldScope.{held_scope}
use Rattle.scopes.specs.Scopes.{Entries, found_in}
use Rattle.scopes.specs.declared.held_scope.HeldScope.{HeldScope}
use Rattle.site_words.specs.declared.words.AppStep.TheVariants as step
use Rattle.page_meaning.specs.Attributes.{Values, Coercion, as_it_is, to_text, to_number, to_truth, coerced, value_at}
use Rattle.page_meaning.specs.Bodies.{put_text}
use Rattle.page_meaning.specs.Page.{Property, every, one, Attributes, no_attributes, written, given}
use Rattle.page_meaning.specs.Request.{first_values}
use Rattle.page_meaning.specs.State.{State}
use Rattle.site_words.specs.PageSteps.{tells_created}
use Rattle.page_meaning.specs.Variables.{set_held, assign, look_up}
use Rattle.page_meaning.specs.Went.{Did, Went, Well, Raised, then_do, either, result_of}
use Rattle.page_meaning.specs.Work.{ask}

-- a variable of a scope that the run holds, or of application scope, is set to the bean where it is absent, and then the body runs; in
-- application scope that is one step
abbrev pub bean_in : Place → Option HeldScope → (name : List ℕ) → (bean : Datum) → (body : State → Did) → State → Did
bean_in place (Some sc) name bean body s =
    either (is_some (found_in s.scopes sc name)) (Well tt) (λ s1. then_do (set_held place sc name bean s1) (λ u s2. body s2)) s
bean_in place None name bean body s = then_do (ask place (step.Ensure name (value_of bean)) s) (λ answer s1. either (tells_created answer) body (Well tt) s1)

-- `jsp:useBean`
abbrev pub use_bean_mean : Place → Scope → (name : List ℕ) → (bean : Datum) → (body : State → Did) → State → Did
use_bean_mean place sc name bean body s = bean_in place (held_scope sc) name bean body s

-- the property of a record: X14 of another value, X5 where it is absent
abbrev pub property_of : List ℕ → Datum → Result Datum RunFault
property_of name (rec es) = there (entry_at name (entry_list es))
  where
    there : Option Datum → Result Datum RunFault
    there (Some d) = Ok d
    there None = Err fault.NoProperty
property_of name other = Err fault.NotARecord

-- `jsp:getProperty`
abbrev pub get_property_mean : Place → (name property : List ℕ) → State → Did
get_property_mean place name property s =
    then_do (look_up place name s) (λ p s1. then_do (result_of place (and_then (property_of property p.1) text_of) s1) (λ t s2. put_text place t s2))

-- the coercion to the kind of an old value, where that is a text, a number or a truth value
abbrev pub like : Datum → Coercion
like (text t) = to_text
like (number n) = to_number
like (truth b) = to_truth
like other = as_it_is

-- the parameter's text, where it isn't empty
abbrev pub filled : Option Datum → Option Datum
filled (Some (text (b ∷ t))) = Some (text (b ∷ t))
filled other = None

-- a new value coerced to the kind of the old one
abbrev pub replaced_value : (old : Datum) → Option Datum → Result Datum RunFault
replaced_value old (Some d) = coerced (like old) d
replaced_value old None = Ok old

-- what a parameter makes of an old value: lists and records stay
abbrev pub by_parameter : Entries → List ℕ × Datum → Result Datum RunFault
by_parameter params (name, list items) = Ok (list items)
by_parameter params (name, rec es) = Ok (rec es)
by_parameter params (name, old) = replaced_value old (filled (entry_at name params))

-- all properties set by the parameters of their names, in byte order
abbrev pub all_by_parameters : (params : Entries) → (properties onto : Entries) → Result Entries RunFault
all_by_parameters params [] onto = Ok onto
all_by_parameters params (p ∷ rest) onto = and_then (by_parameter params p) (λ d. all_by_parameters params rest (with_entry onto p.0 d))

-- one of two places
abbrev pub place_or : Bool → Place → Place → Place
place_or true first second = first
place_or false first second = second

-- where the value of `jsp:setProperty` stands, or else its own place
abbrev pub value_place : Attributes → Place → Place
value_place no_attributes place = place
value_place (written name parts p rest) place = place_or (bytes_eq name (codes "value")) p (value_place rest place)
value_place (given name trim nodes p rest) place = place_or (bytes_eq name (codes "value")) p (value_place rest place)

-- the entries with one property set to a new value, coerced at the value's place
abbrev pub one_set : Place → Entries → (name : List ℕ) → (old new : Datum) → State → Went (Option Entries)
one_set place entries name old new s = then_do (result_of place (coerced (like old) new) s) (λ d s1. Well (Some (with_entry entries name d)) s1)

-- one property set by the value that was given, or else by a parameter; an empty or absent parameter changes nothing
abbrev pub one_by : (place value_place : Place) → Entries → (name : List ℕ) → (old : Datum) → (value parameter : Option Datum) → State → Went (Option Entries)
one_by place value_place entries name old (Some d) parameter s = one_set value_place entries name old d s
one_by place value_place entries name old None (Some d) s = one_set place entries name old d s
one_by place value_place entries name old None None s = Well None s

-- the entries as the action changes them, or None where it changes nothing
abbrev pub properties_set : (place value_place : Place) → Property → Values → (params : Entries) → Entries → State → Went (Option Entries)
properties_set place value_place every vs params entries s = then_do (result_of place (all_by_parameters params entries entries) s) (λ es s1. Well (Some es) s1)
properties_set place value_place (one name parameter) vs params entries s =
    then_do (result_of place (property_of name (rec (entries_of entries))) s)
    (λ old s1. one_by place value_place entries name old (value_at (codes "value") vs) (filled (entry_at parameter params)) s1)

-- a changed record is measured and written back to its scope
abbrev pub written_back : Place → Scope → List ℕ → Option Entries → State → Did
written_back place sc name None s = Well tt s
written_back place sc name (Some es) s = then_do (result_of place (measured (rec (entries_of es))) s) (λ r s1. assign place sc name r s1)

-- the properties of the record that was found; X14 of another value
abbrev pub found_set : (place value_place : Place) → (name : List ℕ) → Property → Values → List Param → Scope → Datum → State → Did
found_set place value_place name property vs params sc (rec es) s =
    then_do (properties_set place value_place property vs (first_values params) (entry_list es) s) (λ changed s1. written_back place sc name changed s1)
found_set place value_place name property vs params sc other s = Raised fault.NotARecord place s

-- `jsp:setProperty`
abbrev pub set_property_mean : (place value_place : Place) → (name : List ℕ) → Property → Values → List Param → State → Did
set_property_mean place value_place name property vs params s = then_do (look_up place name s) (λ p s1. found_set place value_place name property vs params p.0 p.1 s1)
