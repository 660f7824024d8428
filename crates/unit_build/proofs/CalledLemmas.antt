-- What the file of an element comes to.
use Rattle.std.proofs.Common.{◌≡◌, ℕ, true, if◌then◌else◌, length, List, [], ◌∷◌, ◌++◌, map, refl, sym, ap, subst, ◌∙◌, Option, Some, None, Result}
use Rattle.pg_text.specs.declared.place.PageFault.{PageFault}
use Rattle.pg_text.specs.declared.translation_fault.TranslationFault.{TranslationFault}
use Rattle.pg_value.specs.declared.value.Value.{Value}
use Rattle.page_directives.specs.Faults.{in_order}
use Rattle.page_directives.specs.Meet.{Before}
use Rattle.unit_source.specs.Placed.{root_view}
use Rattle.source_tree.specs.declared.file.File.{File}
use Rattle.unit_source.specs.Files.{Files}
use Rattle.unit_source.specs.declared.root.Root.{Root as Kept}
use Rattle.unit_source.specs.Root.{Root, root_at, rooted}
use Rattle.std.specs.Option.{is_some, option_map}
use Rattle.unit_words.specs.declared.counts.Counts.{Counts}
use Rattle.unit_words.specs.Beans.{Step}
use Rattle.unit_words.specs.Calls.{Called, called, call_counted, first_call}
use Rattle.unit_words.specs.declared.counts.Counted.{Counted}
use Rattle.unit_words.specs.declared.counts.Counted.TheVariants.{Within, Passes, Over}
use Rattle.unit_words.specs.Counts.{counted, counts_behind, count_faults, is_counted}
use Rattle.unit_words.specs.State.{Event, needed, State, with_counts, behind_count}
use Rattle.unit_words.specs.Unit.{names_met, names_with}
use Rattle.unit_judges.specs.Made.{class_made}
use Rattle.unit_build.specs.declared.found.Found.{Found}
use Rattle.unit_build.specs.ReadFound.{fault_behind, state_in, IsBeanMet, IsCalled, IsMet}
use Rattle.unit_build.proofs.FoundLemmas.{met_then, read_met}

-- what a call comes to behind the count of its tag file
abbrev pub call_at : Files → (path text : List ℕ) → Counted → State → Called
call_at files path text count s = if is_counted count then first_call path (rooted files true path text) s else called (count_faults count) (path ∷ []) s None

-- names are no faults
pub fault_needed : (o : Option PageFault) (names : List (List ℕ)) → o ≡ fault_behind o (needed names)
fault_needed (Some fault) names = refl
fault_needed None [] = refl
fault_needed None (name ∷ names) = fault_needed None names

pub names_needed : (names : List (List ℕ)) → names_met (needed names) ≡ names
names_needed [] = refl
names_needed (name ∷ names) = ap (λ x. name ∷ x) (names_needed names)

-- no tag file is entered
pub called_none : {old new : Found} {answered comes : List TranslationFault} (before : Before) (path : List ℕ) → IsMet old new (needed (path ∷ [])) → answered ≡ in_order comes
    → IsCalled old new before answered None (called comes (path ∷ []) (state_in before old) None)
called_none {old} {new} before path is e = record {
  faults = e;
  entered = refl;
  fault = is.fault ∙ sym (fault_needed old.fault (path ∷ []));
  names = is.names;
  site = is.site;
  state = (read_met before is).state;
}

-- something was counted before
pub called_from : {old new : Found} {answered : List TranslationFault} {tag : Option Root} (comes : State → Called) (before : Before) (counts behind : Counts) → counts ≡ behind
    → IsCalled (record old { counts = counts }) new before answered tag (comes (with_counts counts (state_in before old))) → IsCalled old new before answered tag (comes (with_counts behind (state_in before old)))
called_from {old} {new} {answered} {tag} comes before counts behind e is =
    from_old (subst (λ k. IsCalled (record old { counts = counts }) new before answered tag (comes (with_counts k (state_in before old)))) e is)
  where
    from_old : IsCalled (record old { counts = counts }) new before answered tag (comes (with_counts behind (state_in before old))) → IsCalled old new before answered tag (comes (with_counts behind (state_in before old)))
    from_old it = record { faults = it.faults; entered = it.entered; fault = it.fault; names = it.names; site = it.site; state = it.state }

-- the same where the count of a tag file comes to this
pub call_after : {old new : Found} {answered : List TranslationFault} {tag : Option Root} (files : Files) (before : Before) (path text : List ℕ) (counts : Counts) (count : Counted)
    → counts ≡ counts_behind (length text) old.counts → count ≡ counted (length text) old.counts
    → IsCalled (record old { counts = counts }) new before answered tag (call_at files path text count (with_counts counts (state_in before old)))
    → IsCalled old new before answered tag (call_counted files path text (counted (length text) old.counts) (state_in before old))
call_after {old} {new} {answered} {tag} files before path text counts count e is_count is =
    subst (λ k. IsCalled old new before answered tag (call_counted files path text k (state_in before old))) is_count
    (subst (IsCalled old new before answered tag) (sym (at_count count)) (called_from (call_at files path text count) before counts (counts_behind (length text) old.counts) e is))
  where
    at_count : (k : Counted) → call_counted files path text k (state_in before old) ≡ call_at files path text k (behind_count (length text) (state_in before old))
    at_count Within = refl
    at_count Passes = refl
    at_count Over = refl

-- the site was read from before
pub met_at : {mid : Found} {events : List Event} (old : Found) (site : List File) → site ≡ old.site → IsMet (record old { site = site }) mid events → IsMet old mid events
met_at old site e is = record { fault = is.fault; names = is.names; site = is.site ∙ e; tags = is.tags; beans = is.beans; counts = is.counts }

-- a tag file is entered: its names are needed, and it is kept
pub called_first : {old mid kept new : Found} {answered : List TranslationFault} (before : Before) (path : List ℕ) (root : Root) → IsMet old mid (needed (path ∷ [])) → IsMet mid kept (needed root.names)
    → new.fault ≡ kept.fault → new.names ≡ kept.names → new.site ≡ kept.site → new.beans ≡ kept.beans → new.counts ≡ kept.counts
    → map (λ tag. root_view tag.value) new.tags.items ≡ map (λ tag. root_view tag.value) kept.tags.items ++ root ∷ [] → answered ≡ in_order []
    → IsCalled old new before answered (Some root) (first_call path root (state_in before old))
called_first {old} {mid} {kept} {new} {answered} before path root one all same_fault same_names same_site same_beans same_counts tags e =
    whole (met_then one all)
  where
    made : List Root → List (List ℕ × Result Value TranslationFault) → Counts → State
    made tags beans counts = record { before = before; tags = tags; beans = map class_made beans; counts = counts }

    more : List Root
    more = map (λ tag. root_view tag.value) kept.tags.items ++ root ∷ []

    with_root : State → State
    with_root s = record s { tags = s.tags ++ root ∷ [] }

    whole : IsMet old kept (needed (path ∷ []) ++ needed root.names) → IsCalled old new before answered (Some root) (first_call path root (state_in before old))
    whole is = record {
      faults = e;
      entered = refl;
      fault = same_fault ∙ is.fault ∙ sym (fault_needed old.fault (path ∷ root.names));
      names = same_names ∙ is.names ∙ ap (λ n. names_with old.names (path ∷ n)) (names_needed root.names);
      site = same_site ∙ is.site;
      state = ap (λ t. made t new.beans.items new.counts) tags ∙ ap (λ beans. made more beans.items new.counts) same_beans ∙ ap (λ counts. made more kept.beans.items counts) same_counts
          ∙ ap with_root (read_met before is).state;
    }

-- a bean
pub called_bean : {old new : Found} {answered : List TranslationFault} {step : Step} (before : Before) → IsBeanMet old new before answered step
    → IsCalled old new before answered None (called step.faults step.names step.state None)
called_bean before is = record { faults = is.faults; entered = refl; fault = is.fault; names = is.names; site = is.site; state = is.state }

-- no file
pub called_nothing : {answered : List TranslationFault} (before : Before) (old : Found) → answered ≡ in_order [] → IsCalled old old before answered None (called [] [] (state_in before old) None)
called_nothing before old e = record { faults = e; entered = refl; fault = refl; names = refl; site = refl; state = refl }

abbrev value_or : {A : Type 0} → A → Option A → A
value_or a (Some x) = x
value_or a None = a

-- a tag file that was read is the one with this text
pub root_found : (files : Files) (path text : List ℕ) (found : Option Kept) (root : Kept) → found ≡ Some root → files path ≡ Some text → option_map root_view found ≡ root_at files true path
    → root_view root ≡ rooted files true path text
root_found files path text found root e at_path is =
    ap (value_or (root_view root)) (ap (option_map root_view) (sym e) ∙ is ∙ ap (option_map (rooted files true path)) at_path)

-- whether a tag file was read
pub some_mapped : {A B : Type 0} (f : A → B) (o : Option A) → is_some (option_map f o) ≡ is_some o
some_mapped f (Some x) = refl
some_mapped f None = refl

map_both : {A B : Type 0} (f : A → B) (xs ys : List A) → map f (xs ++ ys) ≡ map f xs ++ map f ys
map_both f [] ys = refl
map_both f (x ∷ xs) ys = ap (λ more. f x ∷ more) (map_both f xs ys)

-- a tag file was kept
pub kept_last : {A B : Type 0} (f : A → B) (before behind : List A) (last : A) (root : B) → behind ≡ before ++ last ∷ [] → f last ≡ root → map f behind ≡ map f before ++ root ∷ []
kept_last f before behind last root is e = ap (map f) is ∙ map_both f before (last ∷ []) ∙ ap (λ r. map f before ++ r ∷ []) e
