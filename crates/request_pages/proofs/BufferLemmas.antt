-- The buffer of a page has bytes.
use Rattle.std.proofs.Common.{◌≡◌, ◌+◌, ◌*◌, ◌≤◌, ◌<◌, ℕ, suc, Bool, true, false, List, [], ◌∷◌, Option, Some, None, refl, sym, ap, subst, ◌∙◌, arith, cond, take, drop, length, not, ◌&&◌, if◌then◌else◌, codes}
use Rattle.std.proofs.lemmas.Bool.Decides.{nat_tests}
use Rattle.std.specs.Char.{digit_value, is_ascii_digit}
use Rattle.std.specs.List.{prefix_len}
use Rattle.std.specs.Option.{ForSome, option_and_then, option_map, unwrap_or}
use Rattle.std.specs.Prelude.{Ok, nat_eq, nat_le}
use Rattle.std.specs.Str.{bytes_eq}
use Rattle.std.specs.Str.Parse.{digits_value, digits_value_after}
use Rattle.page_directives.specs.Checks.{buffer_size, kilobytes}
use Rattle.page_directives.specs.Directive.{Directive}
use Rattle.page_directives.specs.Settings.{settings_of}
use Rattle.compiled_pages.specs.Made.{IsPageAt}
use Rattle.compiled_pages.specs.Pages.{page_read, unit_in}
use Rattle.page_meaning.specs.Page.{Page}
use Rattle.page_pieces.specs.Texts.{begins}
use Rattle.unit_meaning.specs.Shape.{page_of}
use Rattle.pg_text.specs.declared.place.PageFault.{PageFault}
use Rattle.pg_value.specs.declared.settings.PageSettings.{PageSettings}
use Rattle.source_tree.specs.declared.file.File.{File}
use Rattle.unit_source.specs.Files.{Files, text_in}
use Rattle.unit_source.specs.First.{first_within, most_deep}
use Rattle.unit_source.specs.Root.{Root, rooted}
use Rattle.unit_source.specs.Volume.{one_file}
use Rattle.unit_words.specs.State.{Reading}
use Rattle.unit_words.specs.Unit as unit
use Rattle.unit_words.specs.Unit.{body_of}

after_least : (n : ℕ) (ds : List ℕ) → n ≤ digits_value_after 10 n ds
after_least n [] = omega arith
after_least n (d ∷ ds) = let more = after_least (n * 10 + digit_value d) ds in omega (arith, more)

first_digit : (d : ℕ) → is_ascii_digit d ≡ true → nat_eq 48 d ≡ false → 0 < digit_value d
first_digit d is other = grind (arith, nat_tests)

value_of_first : (d k n : ℕ) (ds : List ℕ) → n ≡ suc k → 0 < digit_value d → 0 < digits_value 10 (take n (d ∷ ds))
value_of_first d k n ds is first = subst (λ n. 0 < digits_value 10 (take n (d ∷ ds))) (sym is) (let least = after_least (0 * 10 + digit_value d) (take k ds) in omega (arith, least, first))

not_zero : (d : ℕ) (ds : List ℕ) → begins (codes "0") (d ∷ ds) ≡ false → nat_eq 48 d ≡ false
not_zero d ds none = go (nat_eq 48 d) refl
  where
    go : (b : Bool) → nat_eq 48 d ≡ b → nat_eq 48 d ≡ false
    go true e = absurd (let t : begins (codes "0") (d ∷ ds) ≡ true = ap (λ b. b && true) e in cc)
    go false e = e

-- digits at the front that don't begin with 0 have a value above 0
value_above : (text : List ℕ) → nat_le 1 (prefix_len is_ascii_digit text) ≡ true → begins (codes "0") text ≡ false → 0 < digits_value 10 (take (prefix_len is_ascii_digit text) text)
value_above [] some none = absurd (cc)
value_above (d ∷ ds) some none = go (is_ascii_digit d) refl some
  where
    go : (b : Bool) → is_ascii_digit d ≡ b → nat_le 1 (cond b (1 + prefix_len is_ascii_digit ds) 0) ≡ true → 0 < digits_value 10 (take (cond b (1 + prefix_len is_ascii_digit ds) 0) (d ∷ ds))
    go true is some = value_of_first d (prefix_len is_ascii_digit ds) (1 + prefix_len is_ascii_digit ds) ds (omega arith) (first_digit d is (not_zero d ds none))
    go false is some = absurd (cc)

kilobytes_above : (text : List ℕ) (n : ℕ) → kilobytes (prefix_len is_ascii_digit text) text ≡ Some (Some n) → 0 < n
kilobytes_above text n is =
    go (nat_le 1 (prefix_len is_ascii_digit text)) (nat_le (prefix_len is_ascii_digit text) 4) (begins (codes "0") text) (bytes_eq (drop (prefix_len is_ascii_digit text) text) (codes "kb")) (nat_le (digits_value 10 (take (prefix_len is_ascii_digit text) text)) 4096)
    refl refl is
  where
    go : (some few zero kb less : Bool) → nat_le 1 (prefix_len is_ascii_digit text) ≡ some → begins (codes "0") text ≡ zero
        → (if some && (few && (not zero && (kb && less))) then Some (Some (digits_value 10 (take (prefix_len is_ascii_digit text) text) * 1024)) else None) ≡ Some (Some n) → 0 < n
    go true true false true true some zero is =
        let same : digits_value 10 (take (prefix_len is_ascii_digit text) text) * 1024 ≡ n = cc in
        let above = value_above text some zero in
        omega (arith, same, above)
    go false few zero kb less some none is = absurd (cc)
    go true false zero kb less some none is = absurd (cc)
    go true true true kb less some none is = absurd (cc)
    go true true false false less some none is = absurd (cc)
    go true true false true false some none is = absurd (cc)

-- the size of a buffer is above 0
size_above : (text : List ℕ) (n : ℕ) → buffer_size text ≡ Some (Some n) → 0 < n
unfolding buffer_size
size_above text n is = go (bytes_eq text (codes "none")) is
  where
    go : (b : Bool) → (if b then Some None else kilobytes (prefix_len is_ascii_digit text) text) ≡ Some (Some n) → 0 < n
    go true is = absurd (cc)
    go false is = kilobytes_above text n is

decided_above : (decided : Option (List ℕ)) (n : ℕ) → unwrap_or (option_and_then buffer_size decided) (Some 8192) ≡ Some n → 0 < n
decided_above None n is = let same : 8192 ≡ n = cc in omega (arith, same)
decided_above (Some text) n is = go (buffer_size text) refl is
  where
    go : (size : Option (Option ℕ)) → buffer_size text ≡ size → unwrap_or size (Some 8192) ≡ Some n → 0 < n
    go None e is = let same : 8192 ≡ n = cc in omega (arith, same)
    go (Some size) e is = size_above text n (e ∙ ap Some is)

-- settings give no buffer of no bytes
pub buffer_above : (in_tag : Bool) (ds : List Directive) → ForSome (settings_of in_tag ds).buffer (λ n. 0 < n)
unfolding settings_of
buffer_above in_tag ds n is = decided_above _ n is

root_above : (files : Files) (path text : List ℕ) → ForSome (rooted files false path text).settings.buffer (λ n. 0 < n)
unfolding rooted
root_above files path text = buffer_above false (first_within most_deep files [] (one_file (length text)) path text).directives

body_settings : (root : Root) (reading : Reading) (fault : Option PageFault) (page : Page) → page_read (body_of root reading fault) ≡ Ok page → root.settings ≡ page.settings
body_settings root reading (Some fault) page is = absurd (cc)
body_settings root reading None page is = let same : page_of (unit.page_of root reading.state) ≡ page = cc in ap (λ (p : Page). p.settings) same

unit_settings : (files : Files) (path text : List ℕ) (page : Page) → page_read (unit.unit_of files path text).body ≡ Ok page → (rooted files false path text).settings ≡ page.settings
unit_settings files path text page is = go (unit.is_xml path) is
  where
    go : (xml : Bool) → page_read (if xml then unit.xml_unit path else unit.unit_read files (rooted files false path text)).body ≡ Ok page → (rooted files false path text).settings ≡ page.settings
    go true is = absurd (cc)
    go false is = body_settings (rooted files false path text) (unit.page_met files (rooted files false path text)) (unit.first_fault (unit.page_met files (rooted files false path text)).events) page is

-- no page has a buffer of no bytes
pub page_above : (tree : List File) (path : List ℕ) (page : Page) → IsPageAt page tree path → ForSome page.settings.buffer (λ n. 0 < n)
unfolding unit_in
page_above tree path page is = go (text_in tree path) is
  where
    go : (text : Option (List ℕ)) → option_map (λ (u : unit.Unit). page_read u.body) (option_map (unit.unit_of (text_in tree) path) text) ≡ Some (Ok page) → ForSome page.settings.buffer (λ n. 0 < n)
    go None is = absurd (cc)
    go (Some text) is =
        let read : page_read (unit.unit_of (text_in tree) path text).body ≡ Ok page = cc in
        subst (λ (s : PageSettings). ForSome s.buffer (λ n. 0 < n)) (unit_settings (text_in tree) path text page read) (root_above (text_in tree) path text)
