-- Fragments: `jsp:doBody` and `jsp:invoke`.
use Rattle.std.specs.Prelude.{ℕ, List, Option, Some, None}
use Rattle.std.specs.List.{find}
use Rattle.std.specs.Str.{bytes_eq}
use Rattle.pg_text.specs.declared.place.Place.{Place}
use Rattle.pg_value.specs.declared.fault.RunFault.TheVariants as fault
use Rattle.scopes.specs.Scopes.{turned_to}
use Rattle.page_meaning.specs.Bodies.{put_text}
use Rattle.page_meaning.specs.Context.{Here, in_page, in_tag, Called, GivenBody, nothing, source_text, body_nodes, Fragment, Deeper, no_deeper, deeper}
use Rattle.page_meaning.specs.Exports.{is_at_fragment, copied_out}
use Rattle.page_meaning.specs.Page.{Nodes}
use Rattle.page_meaning.specs.State.{State, in_scopes}
use Rattle.page_meaning.specs.Variables.{back_to}
use Rattle.page_meaning.specs.Went.{Did, Well, Raised, tidied}

-- the body that the call around gives, and its fragment of a name
abbrev pub body_in : Here → GivenBody
body_in (in_page run) = nothing
body_in (in_tag run call caller) = call.body

-- the fragment of a name, nothing where there is none
abbrev pub fragment_named : List ℕ → List Fragment → GivenBody
fragment_named name fragments = some (find (λ f. bytes_eq name f.name) fragments)
  where
    some : Option Fragment → GivenBody
    some (Some f) = body_nodes f.nodes
    some None = nothing

-- the fragment of a name that the call around gives
abbrev pub fragment_in : List ℕ → Here → GivenBody
fragment_in name (in_page run) = nothing
fragment_in name (in_tag run call caller) = fragment_named name call.fragments

-- a body's source text is written; its nodes run where the call stands, in the caller's frame
abbrev pub given_run : (Nodes → Here → State → Did) → Place → GivenBody → Called → Here → State → Did
given_run run place nothing call caller s = Well tt s
given_run run place (source_text t) call caller s = put_text place t s
given_run run place (body_nodes nodes) call caller s = run nodes caller (in_scopes (turned_to s.scopes call.frame) s)

-- the same one deeper, where the variables were copied to the caller before
abbrev pub given_deeper : Deeper → Place → GivenBody → Here → State → Did
given_deeper deep place g (in_page run) s = Well tt s
given_deeper no_deeper place g (in_tag r call caller) s = Raised fault.TooDeep place s
given_deeper (deeper left run) place g (in_tag r call caller) s =
    tidied (back_to s.scopes) (given_run run place g call caller (in_scopes (copied_out is_at_fragment call.exports call.frame s.scopes) s))

-- `jsp:doBody` and `jsp:invoke`: what wasn't given gives nothing
abbrev pub fragment_mean : Deeper → Place → GivenBody → Here → State → Did
fragment_mean deep place nothing here s = Well tt s
fragment_mean deep place g here s = given_deeper deep place g here s
