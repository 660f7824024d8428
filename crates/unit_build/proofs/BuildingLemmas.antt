-- What is counted of a unit, and the beans of a page.
use Rattle.std.proofs.Common.{◌≡◌, ◌≢◌, ◌<◌, ◌+◌, ℕ, false, cond, Option, Some, None, Result, Ok, List, [], ◌∷◌, map, length, drop, get_or, refl, ap, sym, subst, ◌∙◌, add-one, drop-cons, arith}
use Rattle.std.specs.Option.{option_map}
use Rattle.pg_text.specs.declared.place.PageFault.{PageFault}
use Rattle.source_tree.specs.declared.file.File.{File}
use Rattle.source_tree.specs.declared.need.Need.{Need}
use Rattle.unit_source.specs.Files.{Files}
use Rattle.unit_source.specs.Root.{Root, root_at, rooted}
use Rattle.unit_words.specs.Needs.{bytes_in, bytes_of, needs_of}
use Rattle.unit_nodes.specs.Nodes.{Page}
use Rattle.unit_words.specs.State.{Reading}
use Rattle.unit_words.specs.Unit.{Unit, body_of, first_fault, is_xml, names_in_order, names_met, page_of, unit_by, unit_of, unit_read, xml_unit}

-- the loop counted one more file
pub next_counted : (files : Files) (all : List (List ℕ)) (i : ℕ) (name : List ℕ) (bytes before after total : ℕ) → i < length all → name ≡ get_or all i name
    → before + bytes_of files (drop i all) ≡ total → bytes ≡ bytes_in (files name) → after ≡ before + bytes → after + bytes_of files (drop (i + 1) all) ≡ total
next_counted files all i name bytes before after total lt is whole these more = omega (arith, here, these, more)
  where
    split : drop i all ≡ name ∷ drop (i + 1) all
    split = drop-cons all i name lt ∙ ap (λ n. get_or all i name ∷ drop n all) (sym (add-one i)) ∙ ap (λ n. n ∷ drop (i + 1) all) (sym is)

    here : before + (bytes_in (files name) + bytes_of files (drop (i + 1) all)) ≡ total
    here = subst (λ names. before + bytes_of files names ≡ total) split whole

-- names with their stamps are these names
pub names_needed : (tree : List File) (names : List (List ℕ)) → map (λ (need : Need). need.name) (needs_of tree names) ≡ names
names_needed tree [] = refl
names_needed tree (name ∷ names) = ap (λ ns. name ∷ ns) (names_needed tree names)

-- dependencies and a body as a unit
abbrev unit_with : List (List ℕ) → Result Page PageFault → Unit
unit_with deps body = record { deps = deps; body = body }

-- a page in which no fault was met
pub good_unit : (page : Root) (reading : Reading) (fault : Option PageFault) (deps : List (List ℕ)) (made : Page) → fault ≡ first_fault reading.events → ((found : PageFault) → fault ≢ Some found)
    → deps ≡ names_in_order (names_met reading.events) → made ≡ page_of page reading.state → unit_by page reading ≡ record { deps = deps; body = Ok made }
good_unit page reading (Some found) deps made is none names whole = absurd (none found refl)
good_unit page reading None deps made is none names whole =
    ap (λ body. unit_with (names_in_order (names_met reading.events)) body) (ap (body_of page reading) (sym is) ∙ ap Ok (sym whole)) ∙ ap (λ names. unit_with names (Ok made)) (sym names)

-- the unit of a page that is read
pub read_is : (files : Files) (path text : List ℕ) (root : Root) → is_xml path ≡ false → Some root ≡ root_at files false path → files path ≡ Some text → unit_of files path text ≡ unit_read files root
read_is files path text root plain stands here =
    let same : Some root ≡ Some (rooted files false path text) = stands ∙ ap (option_map (rooted files false path)) here in
    let is : root ≡ rooted files false path text = cc in
    ap (λ xml. cond xml (xml_unit path) (unit_read files (rooted files false path text))) plain ∙ ap (unit_read files) (sym is)
