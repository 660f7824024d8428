-- What a call hands down, and the call of a tag file with what it declares.
use Rattle.std.specs.Prelude.{Bool, false, [], ◌++◌, Option, Some, None}
use Rattle.code_forms.specs.Codes.{body_code, body_of, fragments_code, sizes_of}
use Rattle.code_forms.specs.Forms as forms
use Rattle.code_forms.specs.declared.calling.Handed.{Handed}
use Rattle.tag_decl.specs.declared.declaration.AttrDecl.{AttrDecl}

-- a body that is handed down, with no fragments
abbrev pub body_handed : forms.Handed → Handed
body_handed h = record { body = body_of h; fragments = []; cells = body_code h }

-- with fragments behind the others
abbrev pub with_fragments : Handed → forms.Fragments → Handed
with_fragments down fs = record { body = down.body; fragments = down.fragments ++ sizes_of fs; cells = down.cells ++ fragments_code fs }

-- whether an attribute is declared as a fragment
abbrev pub is_fragment : Option AttrDecl → Bool
is_fragment None = false
is_fragment (Some a) = a.fragment
