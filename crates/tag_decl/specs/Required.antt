-- What a call of a tag file must give.
use Rattle.std.specs.Prelude.{ℕ, List, filter, map}
use Rattle.tag_decl.specs.declared.declaration.AttrDecl.{AttrDecl}

-- the names of the attributes that are required, in the order written
abbrev pub required_names : List AttrDecl → List (List ℕ)
required_names decls = map (λ decl. decl.name) (filter (λ decl. decl.required) decls)
