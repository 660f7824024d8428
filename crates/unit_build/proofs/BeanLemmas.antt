-- What the file of a bean comes to.
use Rattle.std.proofs.Common.{◌≡◌, ℕ, List, [], ◌∷◌, refl, sym, ap, subst, ◌∙◌, Option, Some, None, Result, length}
use Rattle.pg_text.specs.declared.place.PageFault.{PageFault}
use Rattle.pg_text.specs.declared.translation_fault.TranslationFault.{TranslationFault}
use Rattle.pg_value.specs.Datum.{Datum}
use Rattle.page_directives.specs.Directive.{row_of}
use Rattle.page_directives.specs.Meet.{Before}
use Rattle.unit_words.specs.declared.counts.Counted.{Counted}
use Rattle.unit_words.specs.declared.counts.Counted.TheVariants.{Within, Passes, Over}
use Rattle.unit_words.specs.Beans.{bean_counted, bean_again, bean_text}
use Rattle.unit_words.specs.Counts.{counted}
use Rattle.unit_words.specs.State.{needed, State}
use Rattle.unit_build.specs.declared.found.Found.{Found}
use Rattle.unit_build.specs.ReadFound.{fault_behind, state_in, IsMet, IsBeanRead, IsBeanMet}
use Rattle.unit_build.proofs.FoundLemmas.{read_met}

counted_names : (class path text : List ℕ) (count : Counted) (s : State) → (bean_counted class path text count s).names ≡ path ∷ []
counted_names class path text Within s = refl
counted_names class path text Passes s = refl
counted_names class path text Over s = refl

again_names : (class path text : List ℕ) (o : Option (Result Datum TranslationFault)) (s : State) → (bean_again class path text o s).names ≡ path ∷ []
again_names class path text (Some bean) s = refl
again_names class path text None s = counted_names class path text (counted (length text) s.counts) s

fault_needed : (o : Option PageFault) (name : List ℕ) → o ≡ fault_behind o (needed (name ∷ []))
fault_needed None name = refl
fault_needed (Some fault) name = refl

-- the name of the file is needed, and then its text comes to this
pub bean_after : {old mid new : Found} {answered : List TranslationFault} (before : Before) (class path text : List ℕ) → IsMet old mid (needed (path ∷ []))
    → IsBeanRead mid new before answered (bean_again class path text (row_of class (state_in before mid).beans) (state_in before mid))
    → IsBeanMet old new before answered (bean_text class path (Some text) (state_in before old))
bean_after {old} {mid} {new} {answered} before class path text needed_is read =
    both (subst (λ s. IsBeanRead mid new before answered (bean_again class path text (row_of class s.beans) s)) (read_met before needed_is).state read)
  where
    s : State
    s = state_in before old

    both : IsBeanRead mid new before answered (bean_again class path text (row_of class s.beans) s) → IsBeanMet old new before answered (bean_text class path (Some text) s)
    both is = record {
      faults = is.faults;
      fault = is.fault ∙ needed_is.fault ∙ sym (fault_needed old.fault path);
      names = is.names ∙ needed_is.names ∙ ap (Rattle.unit_words.specs.Unit.names_with old.names) (sym (again_names class path text (row_of class s.beans) s));
      site = is.site ∙ needed_is.site;
      state = is.state;
    }
