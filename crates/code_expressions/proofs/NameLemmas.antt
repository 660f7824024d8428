-- What a name is: an implicit object, an object of which one entry is taken, or a variable.
use Rattle.std.proofs.Common.{◌≡◌, ℕ, List, Option, Some, None, option_map, refl, sym, ap, ◌∙◌}
use Rattle.el_reader.specs.Tree.{name}
use Rattle.code_expressions.specs.Objects.{entry_code}
use Rattle.page_code.specs.declared.op.Op.TheVariants as op
use Rattle.page_code.specs.declared.operands.Implicit as code
use Rattle.page_code.specs.declared.shape.Shape.{Shape}
use Rattle.code_forms.specs.Codes.{form_code}
use Rattle.code_forms.specs.Forms.{does}
use Rattle.code_lowering.specs.Expressions.{entry_form, name_form, object_of}
use Rattle.page_meaning.specs.Expressions.{keyed_object}
use Rattle.page_meaning.specs.Implicit.{Implicit, Keyed, held_scope, application_scope, header, header_values, keyed, page_context, param, param_values, cookie, init_param, implicit_named}
use Rattle.pg_text.specs.declared.place.Place.{Place}

some_same : (x y : code.Implicit) → Some x ≡ Some y → x ≡ y
some_same x y e = cc

-- the name of an object
pub object_named : (sh : Shape) (place : Place) (n : List ℕ) (o : Option Implicit) (found : code.Implicit) → option_map object_of o ≡ Some found
    → form_code sh (name_form place n o) ≡ form_code sh (does (op.Implicit found) place)
object_named sh place n (Some x) found e = ap (λ (f : code.Implicit). form_code sh (does (op.Implicit f) place)) (some_same (object_of x) found e)
object_named sh place n None found e = absurd (cc)

-- the name of a variable
pub variable_named : (sh : Shape) (place : Place) (n : List ℕ) (o : Option Implicit) → option_map object_of o ≡ None
    → form_code sh (name_form place n o) ≡ form_code sh (does (op.Find n) place)
variable_named sh place n (Some x) e = absurd (cc)
variable_named sh place n None e = refl

-- the object of which one entry is taken, where it is one
abbrev keyed_in : Option Implicit → Option Keyed
keyed_in (Some (keyed k)) = Some k
keyed_in (Some page_context) = None
keyed_in (Some param) = None
keyed_in (Some param_values) = None
keyed_in (Some cookie) = None
keyed_in (Some init_param) = None
keyed_in None = None

keyed_by : (n : List ℕ) (o : Option Implicit) → implicit_named n ≡ o → keyed_object (name n) ≡ keyed_in o
keyed_by n (Some (keyed k)) e = rw e refl
keyed_by n (Some page_context) e = rw e refl
keyed_by n (Some param) e = rw e refl
keyed_by n (Some param_values) e = rw e refl
keyed_by n (Some cookie) e = rw e refl
keyed_by n (Some init_param) e = rw e refl
keyed_by n None e = rw e refl

entry_by : (sh : Shape) (place : Place) (o : Option Implicit) → option_map (λ k. form_code sh (entry_form place k)) (keyed_in o) ≡ entry_code sh place (option_map object_of o)
entry_by sh place (Some (keyed (held_scope scope))) = refl
entry_by sh place (Some (keyed application_scope)) = refl
entry_by sh place (Some (keyed header)) = refl
entry_by sh place (Some (keyed header_values)) = refl
entry_by sh place (Some page_context) = refl
entry_by sh place (Some param) = refl
entry_by sh place (Some param_values) = refl
entry_by sh place (Some cookie) = refl
entry_by sh place (Some init_param) = refl
entry_by sh place None = refl

-- the entry of an object of this name
pub entry_named : (sh : Shape) (place : Place) (n : List ℕ) (found : Option code.Implicit) → found ≡ option_map object_of (implicit_named n)
    → option_map (λ k. form_code sh (entry_form place k)) (keyed_object (name n)) ≡ entry_code sh place found
entry_named sh place n found e =
    ap (λ o. option_map (λ k. form_code sh (entry_form place k)) o) (keyed_by n (implicit_named n) refl) ∙ entry_by sh place (implicit_named n) ∙ ap (λ o. entry_code sh place o) (sym e)
