-- The directives of a file, cut behind its include directives, and the prefixes of directives one behind the other.
use Rattle.std.proofs.Common.{◌≡◌, false, cond, List, [], ◌∷◌, ◌++◌, Some, None, refl, ap, sym, ◌∙◌, append_assoc}
use Rattle.std.proofs.lemmas.List.{append-nil}
use Rattle.std.specs.Option.{option_to_list}
use Rattle.std.specs.Prelude.{codes}
use Rattle.page_pieces.specs.Settings.{value_of}
use Rattle.page_directives.specs.Directive.{Directive, is_named}
use Rattle.page_directives.specs.Taglibs.{prefix_in, prefixes_of}
use Rattle.unit_source.specs.Files.{path_in}
use Rattle.unit_source.specs.First.{included_path}
use Rattle.unit_source.specs.ReadParts.{ArePlain, Part, in_part, in_parts}

-- the prefixes of some directives and of others
pub prefixes_both : (some more : List Directive) → prefixes_of (some ++ more) ≡ prefixes_of some ++ prefixes_of more
prefixes_both [] more = refl
prefixes_both (d ∷ some) more =
    ap (λ all. option_to_list (prefix_in d) ++ all) (prefixes_both some more) ∙ sym (append_assoc (option_to_list (prefix_in d)) (prefixes_of some) (prefixes_of more))

-- one more part
parts_more : (parts : List Part) (part : Part) → in_parts (parts ++ part ∷ []) ≡ in_parts parts ++ in_part part
parts_more [] part = append-nil (in_part part)
parts_more (first ∷ parts) part = ap (λ all. in_part first ++ all) (parts_more parts part) ∙ sym (append_assoc (in_part first) (in_parts parts) (in_part part))

-- directives behind the parts that become one: with the include directive behind them, or without
pub part_begun : (old new : List Part) (part : Part) (plain before after : List Directive) (d : Directive) → new ≡ old ++ part ∷ [] → part ≡ record { plain = before; include = Some d }
    → before ≡ plain → after ≡ [] → in_parts new ++ after ≡ (in_parts old ++ plain) ++ d ∷ []
part_begun old new part plain before after d more is taken none =
    ap (λ ds. in_parts new ++ ds) none ∙ append-nil (in_parts new) ∙ ap in_parts more ∙ parts_more old part
    ∙ ap (λ (p : Part). in_parts old ++ in_part p) is
    ∙ ap (λ ds. in_parts old ++ (ds ++ d ∷ [])) taken
    ∙ sym (append_assoc (in_parts old) plain (d ∷ []))

pub part_last : (old new : List Part) (part : Part) (plain : List Directive) → new ≡ old ++ part ∷ [] → part ≡ record { plain = plain; include = None } → in_parts new ≡ in_parts old ++ plain
part_last old new part plain more is =
    ap in_parts more ∙ parts_more old part ∙ ap (λ (p : Part). in_parts old ++ in_part p) is ∙ ap (λ ds. in_parts old ++ ds) (append-nil plain)

-- one more plain directive
pub plain_more : (plain : List Directive) (d : Directive) → ArePlain plain → is_named (codes "include") d ≡ false → ArePlain (plain ++ d ∷ [])
plain_more [] d are is = (is, tt)
plain_more (first ∷ plain) d are is = (are.0, plain_more plain d are.1 is)

-- a plain directive includes no file
pub none_included : (d : Directive) → is_named (codes "include") d ≡ false → included_path d ≡ None
none_included d is = ap (λ here. cond here (path_in d.place.file (value_of (codes "file") d.attributes)) None) is
