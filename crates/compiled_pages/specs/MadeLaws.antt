-- The laws of what is kept for a path.
use Rattle.std.proofs.Common.{◌≡◌, ℕ, List, Option, Some, None, true, refl, sym, ap, ◌∙◌}
use Rattle.std.proofs.lemmas.Bool.{false≢true}
use Rattle.std.specs.Option.{option_map}
use Rattle.std.specs.Prelude.{IsSome, Result, Ok, Err}
use Rattle.compiled_pages.specs.UnitLaws.{stamps_agree, stamps_stand, unit_stands}
use Rattle.compiled_pages.specs.Made.{IsBodyBy, IsBodyOf, IsMade, IsMadeBy, IsUnitOf}
use Rattle.compiled_pages.specs.Pages.{needs_at, page_at, page_read, unit_in, unit_needs}
use Rattle.compiled_pages.specs.declared.made.Made.{Made}
use Rattle.compiled_pages.specs.declared.made.MadeBody.{MadeBody}
use Rattle.compiled_pages.specs.declared.made.MadeBody.TheVariants as kept
use Rattle.unit_meaning.specs.Page.{Page}
use Rattle.unit_meaning.specs.Shape.{page_of}
use Rattle.pg_text.specs.declared.place.PageFault.{PageFault}
use Rattle.site_words.specs.Trees.{OneHistory, agrees}
use Rattle.source_tree.specs.declared.file.File.{File}
use Rattle.unit_nodes.specs.Nodes as unit
use Rattle.unit_nodes.specs.Views.{body_view}
use Rattle.unit_nodes.specs.declared.unit.Unit.{Unit as UnitMade}
use Rattle.unit_source.specs.Files.{text_in}
use Rattle.unit_words.specs.Needs.{needs_of}
use Rattle.unit_words.specs.Unit.{Unit, unit_at, unit_of}
use Rattle.unit_words.specs.Views.{unit_view}

-- what a path needs of a tree stands so in it
pub needs_stand : (tree : List File) (path : List ℕ) → agrees (needs_at tree path) tree ≡ true
needs_stand tree path = go (unit_in tree path)
  where
    go : (unit : Option Unit) → agrees (unit_needs tree unit) tree ≡ true
    go None = refl
    go (Some unit) = stamps_stand tree unit.deps

no_body : (body : MadeBody) (tree : List File) (path : List ℕ) → page_at tree path ≡ None → IsBodyOf body tree path → ⊥
no_body (kept.Program program) tree path none is = let bad : None ≡ Some (Ok is.page) = sym none ∙ is.stands in absurd (cc)
no_body (kept.Fault fault) tree path none is = absurd (cc)

body_stands : (body : MadeBody) (a b : List File) (path : List ℕ) → page_at a path ≡ page_at b path → IsBodyOf body a path → IsBodyOf body b path
body_stands (kept.Program program) a b path same is = record { page = is.page; stands = sym same ∙ is.stands; lowered = is.lowered }
body_stands (kept.Fault fault) a b path same is = sym same ∙ is

abbrev pages : Option Unit → Option (Result Page PageFault)
pages unit = option_map (λ (unit : Unit). page_read unit.body) unit

-- what is made from one tree is made from each tree of its history that agrees on its needs
pub made_stands_on : (value : Made) (a b : List File) (path : List ℕ) → OneHistory a b → agrees (needs_at a path) b ≡ true → IsMade value a path → IsMade value b path
made_stands_on value a b path one agree made = go (unit_in a path) refl agree
  where
    go : (unit : Option Unit) → unit_in a path ≡ unit → agrees (unit_needs a unit) b ≡ true → IsMade value b path
    go None is agree = absurd (no_body value.body a path (ap pages is) made.body)
    go (Some unit) is agree =
        let same = unit_stands a b path unit one agree is in
        record {
          deps = made.deps ∙ (ap (unit_needs a) is ∙ (stamps_agree a b unit.deps agree ∙ sym (ap (unit_needs b) same)));
          body = body_stands value.body a b path (ap pages (is ∙ sym same)) made.body;
        }

body_is : (body : MadeBody) (read : Result unit.Page PageFault) (tree : List File) (path : List ℕ) → page_at tree path ≡ Some (page_read read) → IsBodyBy body read → IsBodyOf body tree path
body_is (kept.Program program) (Ok page) tree path is by = record { page = page_of page; stands = is; lowered = by }
body_is (kept.Program program) (Err fault) tree path is by = absurd by
body_is (kept.Fault fault) (Ok page) tree path is by = absurd by
body_is (kept.Fault fault) (Err other) tree path is by = is ∙ ap (λ f. Some (Err f)) (sym by)

-- what is that of a unit is made from each tree and path of which the unit is
pub made_by : (made : Made) (unit : UnitMade) (tree : List File) (path : List ℕ) → IsMadeBy made unit → IsUnitOf unit tree path → IsMade made tree path
made_by made unit tree path by is = record {
  deps = by.deps ∙ (is.stamps ∙ sym (ap (unit_needs tree) is.stands));
  body = body_is made.body (body_view unit.body) tree path (ap pages is.stands) by.body;
}

-- the unit that was built from a tree is the unit of the path
pub unit_built : (unit : UnitMade) (tree : List File) (path : List ℕ) → IsSome (text_in tree path)
    → ((text : List ℕ) → text_in tree path ≡ Some text → unit_view unit ≡ unit_of (text_in tree) path text) → unit.deps ≡ needs_of tree (unit_view unit).deps → IsUnitOf unit tree path
unfolding unit_in
unit_built unit tree path there is stamps = record { stands = go (text_in tree path) refl there; stamps = stamps }
  where
    go : (t : Option (List ℕ)) → text_in tree path ≡ t → IsSome t → unit_at (text_in tree) path ≡ Some (unit_view unit)
    go None at there = absurd (false≢true there)
    go (Some text) at there = ap (option_map (unit_of (text_in tree) path)) at ∙ ap (λ u. Some u) (sym (is text at))
