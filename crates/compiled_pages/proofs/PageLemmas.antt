-- What stands at a path of a tree, by what is told of it.
use Rattle.std.proofs.Common.{◌≡◌, ℕ, Bool, true, false, List, Option, Some, None, refl, sym, ap, ◌∙◌}
use Rattle.std.specs.Arc.{arc_value}
use Rattle.std.specs.Option.{option_map}
use Rattle.std.specs.Prelude.{Result, Ok, Err}
use Rattle.compiled_pages.specs.Made.{IsFaultOf, IsPageAt, TellsPages}
use Rattle.compiled_pages.specs.Pages.{found_as, page_at, page_read, paged_at, unit_in}
use Rattle.compiled_pages.specs.Stored.{stored_at}
use Rattle.code_lowering.specs.Programs as lowering
use Rattle.unit_meaning.specs.Context.{Paged, absent, plain, bad, good}
use Rattle.unit_meaning.specs.Page.{Page}
use Rattle.run_world.specs.Program as table
use Rattle.pg_text.specs.declared.place.PageFault.{PageFault}
use Rattle.run_world.specs.Programs.{stored_of}
use Rattle.run_world.specs.declared.program.Program.{Program}
use Rattle.site_words.specs.Running.{IsPaged, IsPageFile, IsPlain, is_page}
use Rattle.site_words.specs.declared.app_port.Paged as told
use Rattle.site_words.specs.declared.app_port.Paged.TheVariants as found
use Rattle.source_tree.specs.Edits.{file_at}
use Rattle.source_tree.specs.declared.file.File.{File}
use Rattle.unit_source.specs.Files.{text_in}
use Rattle.unit_words.specs.Unit.{Unit, unit_of}

-- where no file stands there is no page
pub no_page : (tree : List File) (path : List ℕ) → file_at path tree ≡ None → page_at tree path ≡ None
unfolding unit_in
no_page tree path none = ap (λ (file : Option File). option_map (λ (unit : Unit). page_read unit.body) (option_map (unit_of (text_in tree) path) (option_map (λ (file : File). file.text) file))) none

-- where a file stands there is a page, or its fault
pub page_read_there : (tree : List File) (path : List ℕ) (file : File) → file_at path tree ≡ Some file → page_at tree path ≡ Some (page_read (unit_of (text_in tree) path file.text).body)
unfolding unit_in
page_read_there tree path file there = ap (λ (file : Option File). option_map (λ (unit : Unit). page_read unit.body) (option_map (unit_of (text_in tree) path) (option_map (λ (file : File). file.text) file))) there

abbrev by_file : List File → List ℕ → Option (Result Page PageFault) → Option File → Paged
by_file tree path page file = found_as (is_page path) page file

pub paged_absent : (tree : List File) (path : List ℕ) → file_at path tree ≡ None → paged_at tree path ≡ absent
paged_absent tree path none = ap (by_file tree path (page_at tree path)) none ∙ (ap (λ page. by_file tree path page None) (no_page tree path none) ∙ go (is_page path))
  where
    go : (b : Bool) → found_as b None None ≡ absent
    go true = refl
    go false = refl

pub paged_plain : (tree : List File) (path text : List ℕ) → IsPlain path (file_at path tree) text → paged_at tree path ≡ plain text
paged_plain tree path text is = go (file_at path tree) is
  where
    go : (file : Option File) → IsPlain path file text → found_as (is_page path) (page_at tree path) file ≡ plain text
    go None is = absurd is
    go (Some file) is = ap (λ b. found_as b (page_at tree path) (Some file)) is.0 ∙ ap plain is.1

page_path : (path : List ℕ) (file : Option File) → IsPageFile path file → is_page path ≡ true
page_path path None is = absurd is
page_path path (Some file) is = is

page_found : (tree : List File) (path : List ℕ) (page : Result Page PageFault) → IsPageFile path (file_at path tree) → page_at tree path ≡ Some page → paged_at tree path ≡ found_as true (Some page) None
page_found tree path page file is =
    ap (λ b. found_as b (page_at tree path) (file_at path tree)) (page_path path (file_at path tree) file) ∙ ap (λ p. found_as true p (file_at path tree)) is

pub paged_bad : (tree : List File) (path : List ℕ) (fault : PageFault) → IsPageFile path (file_at path tree) → IsFaultOf fault tree path → paged_at tree path ≡ bad fault
paged_bad tree path fault file is = page_found tree path (Err fault) file is

pub paged_good : (tree : List File) (path : List ℕ) (page : Page) → IsPageFile path (file_at path tree) → IsPageAt page tree path → paged_at tree path ≡ good page
paged_good tree path page file is = page_found tree path (Ok page) file is

-- what is told of a path is what stands there
pub told_stands : {made : Program → List File → List ℕ → Type 0} {faulty : PageFault → List File → List ℕ → Type 0} → TellsPages made faulty
    → (tree : List File) (path : List ℕ) (told : told.Paged Program) → IsPaged made faulty tree path told → stored_at tree path ≡ stored_of told
told_stands tells tree path found.Absent is = ap lowering.stored_of (paged_absent tree path is)
told_stands tells tree path (found.Plain text) is = ap lowering.stored_of (paged_plain tree path text is)
told_stands tells tree path (found.Bad fault) is = ap lowering.stored_of (paged_bad tree path fault is.0 (tells.faults fault tree path is.1))
told_stands tells tree path (found.Page program) is =
    let of = tells.programs (arc_value program) tree path is.1 in
    ap lowering.stored_of (paged_good tree path of.page is.0 of.stands) ∙ ap table.good (sym of.lowered)

-- where a page's file stands there is a page or its fault
pub page_there : (tree : List File) (path : List ℕ) → IsPageFile path (file_at path tree) → (read : Result Page PageFault) × (paged_at tree path ≡ found_as true (Some read) None)
page_there tree path is = go (file_at path tree) refl is
  where
    go : (file : Option File) → file_at path tree ≡ file → IsPageFile path file → (read : Result Page PageFault) × (paged_at tree path ≡ found_as true (Some read) None)
    go None there file = absurd file
    go (Some file) there page =
        let at = page_read_there tree path file there in
        (page_read (unit_of (text_in tree) path file.text).body, page_found tree path (page_read (unit_of (text_in tree) path file.text).body) is at)

-- a page that stands there for the meaning is the page of its unit
pub page_stands : (tree : List File) (path : List ℕ) (page : Page) → paged_at tree path ≡ good page → IsPageAt page tree path
page_stands tree path page is = go (is_page path) (page_at tree path) (file_at path tree) is
  where
    go : (b : Bool) (read : Option (Result Page PageFault)) (file : Option File) → found_as b read file ≡ good page → read ≡ Some (Ok page)
    go true None file is = absurd (cc)
    go true (Some (Ok p)) file is = let same : p ≡ page = cc in ap (λ p. Some (Ok p)) same
    go true (Some (Err fault)) file is = absurd (cc)
    go false read None is = absurd (cc)
    go false read (Some file) is = absurd (cc)
