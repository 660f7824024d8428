-- What was found in parts of a page or a tag file, and in it whole.
use Rattle.std.proofs.Common.{◌≡◌, ◌<◌, ◌+◌, ℕ, zero, suc, Bool, List, [], ◌∷◌, ◌++◌, refl, ap, sym, subst, ◌∙◌, Option, Some, None, length, take, get_or, append_assoc}
use Rattle.std.proofs.lemmas.List.{append-nil, take_more}
use Rattle.pg_text.specs.declared.translation_fault.TranslationFault.{TranslationFault}
use Rattle.page_pieces.specs.declared.attribute.Attribute.{Attribute}
use Rattle.page_reader.specs.Trees.{Tree, Opened}
use Rattle.page_directives.specs.Directive.{Directive}
use Rattle.page_directives.specs.Faults.{in_order}
use Rattle.page_directives.specs.Meet.{Before, nothing_before}
use Rattle.source_tree.specs.declared.file.File.{File}
use Rattle.tag_decl.specs.declared.declaration.TagDecl.{TagDecl}
use Rattle.unit_source.specs.declared.entry.Entry.{Entry}
use Rattle.unit_source.specs.Files.{Files, text_in}
use Rattle.unit_source.specs.First.{most_deep}
use Rattle.unit_source.specs.Root.{Root}
use Rattle.unit_words.specs.Calls.{Called}
use Rattle.unit_words.specs.Directives.{directive_faults, entry_faults, include_met}
use Rattle.unit_words.specs.Elements.{Here, outermost, element_faults, value_faults, values_met}
use Rattle.unit_words.specs.Kinds.{Kind, is_core_prefix, is_function_prefix}
use Rattle.unit_words.specs.State.{Event, State, Reading, met, followed, ◌>>◌, faults_at, events_at, needed, with_before, with_directive}
use Rattle.unit_words.specs.Unit.{first_fault, names_met, names_with}
use Rattle.unit_words.specs.Values.{part_faults}
use Rattle.unit_words.specs.Walk.{declaration_in, functions_of, start_met, tag_met, walk, met_within}
use Rattle.unit_build.specs.declared.found.Found.{Found}
use Rattle.unit_build.specs.ReadFound.{fault_behind, state_in, IsCalled, IsMet, IsNothing, IsRead}
use Rattle.unit_build.specs.ReadSteps.{Step, steps_of, steps_met}
use Rattle.unit_build.specs.ReadWalk.{start_events, IsEntry, IsPageMet, IsStarted}
use Rattle.unit_build.proofs.CalledLemmas.{fault_needed, names_needed}
use Rattle.unit_build.proofs.FoundLemmas.{fault_both, met_then, names_met_both, names_with_both, read_met, read_then}
use Rattle.unit_build.proofs.StepLemmas.{walk_steps}

-- a reading, and then nothing
then_nothing : (r : Reading) → (r >> (λ s. met [] s)) ≡ r
then_nothing r = ap (λ events. met events r.state) (append-nil r.events)

-- the values of attributes
values_joined : (functions : List ℕ → Bool) (decl : Option TagDecl) (kind : Kind) (xs ys : List Attribute)
    → values_met functions decl kind (xs ++ ys) ≡ values_met functions decl kind xs ++ values_met functions decl kind ys
values_joined functions decl kind [] ys = refl
values_joined functions decl kind (a ∷ xs) ys =
    ap (λ events. faults_at a.place (value_faults decl kind a ++ part_faults functions a.parts) ++ events) (values_joined functions decl kind xs ys)
    ∙ sym (append_assoc (faults_at a.place (value_faults decl kind a ++ part_faults functions a.parts)) (values_met functions decl kind xs) (values_met functions decl kind ys))

-- one value more is met
pub values_more : {old mid new : Found} (functions : List ℕ → Bool) (decl : Option TagDecl) (kind : Kind) (attributes : List Attribute) (i : ℕ) (a : Attribute)
    → i < length attributes → a ≡ get_or attributes i a → IsMet old mid (values_met functions decl kind (take i attributes))
    → IsMet mid new (faults_at a.place (value_faults decl kind a ++ part_faults functions a.parts)) → IsMet old new (values_met functions decl kind (take (i + 1) attributes))
values_more {old} {mid} {new} functions decl kind attributes i a within is first second =
    subst (IsMet old new) whole (met_then first second)
  where
    here : List Event
    here = faults_at a.place (value_faults decl kind a ++ part_faults functions a.parts)

    whole : values_met functions decl kind (take i attributes) ++ here ≡ values_met functions decl kind (take (i + 1) attributes)
    whole =
        ap (λ events. values_met functions decl kind (take i attributes) ++ events) (sym (append-nil here))
        ∙ sym (values_joined functions decl kind (take i attributes) (a ∷ []))
        ∙ ap (values_met functions decl kind) (ap (λ x. take i attributes ++ x ∷ []) is ∙ sym (take_more attributes i a within))

-- the faults of an element and its values are met
pub faults_met : {old mid new : Found} (root : Root) (kind : Kind) (here : Here) (opened : Opened) (body : Tree) (comes : List TranslationFault) (before : Before) (known decl : Option TagDecl) (all : List TranslationFault)
    (library : List ℕ → Bool) (in_tag : Bool) → library ≡ is_core_prefix root.directives → in_tag ≡ root.in_tag → known ≡ decl
    → all ≡ in_order (comes ++ element_faults library in_tag known kind here opened body) → IsMet old mid (events_at opened.place all)
    → IsMet mid new (values_met (is_function_prefix before.directives) known kind opened.tag.attributes) → IsMet old new (start_events root kind here opened body comes before decl)
faults_met {old} {mid} {new} root kind here opened body comes before known decl all library in_tag is_library is_tag is_decl are first second =
    subst (IsMet old new)
    (ap (λ found. events_at opened.place found ++ values known) are
    ∙ ap (λ l. faults_at opened.place (comes ++ element_faults l in_tag known kind here opened body) ++ values known) is_library
    ∙ ap (λ t. faults_at opened.place (comes ++ element_faults (is_core_prefix root.directives) t known kind here opened body) ++ values known) is_tag
    ∙ ap (λ d. faults_at opened.place (comes ++ element_faults (is_core_prefix root.directives) root.in_tag d kind here opened body) ++ values d) is_decl)
    (met_then first second)
  where
    values : Option TagDecl → List Event
    values d = values_met (is_function_prefix before.directives) d kind opened.tag.attributes

-- the file of an element comes to this, and then its faults and its values are met
pub started : {old mid new : Found} {answered : List TranslationFault} {tag : Option Root} (root : Root) (kind : Kind) (here : Here) (opened : Opened) (body : Tree) (before : Before) (file : Called)
    → IsCalled old mid before answered tag file
    → IsMet mid new (start_events root kind here opened body file.faults before (declaration_in kind (state_in before mid)))
    → IsStarted old new root kind here opened body before tag file
started {old} {mid} {new} root kind here opened body before file called is = record {
  entered = called.entered;
  read = record {
    fault = is.fault ∙ ap (fault_behind mid.fault) later ∙ ap (λ o. fault_behind o (behind file.state)) (called.fault ∙ fault_needed old.fault file.names)
        ∙ sym (fault_both old.fault (needed file.names) (behind file.state));
    names = is.names ∙ ap (λ events. names_with mid.names (names_met events)) later
        ∙ ap (λ names. names_with names (names_met (behind file.state))) (called.names ∙ ap (names_with old.names) (sym (names_needed file.names)))
        ∙ sym (names_with_both old.names (names_met (needed file.names)) (names_met (behind file.state)))
        ∙ ap (names_with old.names) (sym (names_met_both (needed file.names) (behind file.state)));
    site = is.site ∙ called.site;
    state = (read_met before is).state ∙ called.state;
  };
}
  where
    -- the faults and values behind this state
    behind : State → List Event
    behind s =
        faults_at opened.place (file.faults ++ element_faults (is_core_prefix root.directives) root.in_tag (declaration_in kind s) kind here opened body)
        ++ values_met (functions_of s) (declaration_in kind s) kind opened.tag.attributes

    later : start_events root kind here opened body file.faults before (declaration_in kind (state_in before mid)) ≡ behind file.state
    later = ap behind called.state

-- no tag file is entered
pub started_alone : {old new : Found} {root : Root} {kind : Kind} {here : Here} {opened : Opened} {body : Tree} {before : Before} {file : Called} (enter : Root → State → Reading)
    → IsStarted old new root kind here opened body before None file → IsRead old new (state_in before new) (start_met root kind here opened body file >> (λ s. tag_met enter file.entered s))
started_alone {old} {new} {root} {kind} {here} {opened} {body} {before} {file} enter is =
    subst (λ o. IsRead old new (state_in before new) (start_met root kind here opened body file >> (λ s. tag_met enter o s))) is.entered
    (subst (IsRead old new (state_in before new)) (sym (then_nothing (start_met root kind here opened body file))) is.read)

-- reading goes into a tag file
pub started_entered : {old mid new : Found} {root tag : Root} {kind : Kind} {here : Here} {opened : Opened} {body : Tree} {before : Before} {file : Called} (deep : ℕ)
    → IsStarted old mid root kind here opened body before (Some tag) file
    → IsRead mid new (state_in before new) (met_within deep (text_in mid.site) tag (state_in before mid))
    → IsRead old new (state_in before new) (start_met root kind here opened body file >> (λ s. tag_met (met_within deep (text_in old.site)) file.entered s))
started_entered {old} {mid} {new} {root} {tag} {kind} {here} {opened} {body} {before} {file} deep is inner =
    subst (λ o. IsRead old new (state_in before new) (start_met root kind here opened body file >> (λ s. tag_met (met_within deep (text_in old.site)) o s))) is.entered
    (read_then (λ s. met_within deep (text_in old.site) tag s) is.read
    (subst (λ site. IsRead mid new (state_in before new) (met_within deep (text_in site) tag (state_in before mid))) is.read.site inner))

-- an include directive is met
pub include_read : {old mid new : Found} {comes : List TranslationFault} {going : Bool} (before after : Before) (root : Root) (d : Directive) (entry : Entry) (all : List TranslationFault)
    → after ≡ record { directives = before.directives ++ d ∷ []; prefixes = before.prefixes } → IsEntry old mid before entry comes going
    → all ≡ in_order (directive_faults root before d ++ entry_faults entry (state_in before old)) → IsMet mid new (events_at d.place all)
    → IsRead old new (state_in after new) (include_met root d entry (state_in before old))
include_read {old} {mid} {new} before after root d entry all stands comes faults is = record {
  fault = is.fault ∙ ap (λ o. fault_behind o (events_at d.place all)) comes.fault ∙ ap (λ found. fault_behind old.fault (events_at d.place found)) faults;
  names = is.names ∙ ap (λ names. names_with names (names_met (events_at d.place all))) comes.names ∙ ap (λ found. names_with old.names (names_met (events_at d.place found))) faults;
  site = is.site ∙ comes.site;
  state = (read_met after is).state ∙ ap (λ b. state_in b mid) stands ∙ ap (with_directive d) comes.state;
}

-- a page or a tag file is met, and what stood before is restored
pub read_within : {old new : Found} (before after : Before) (deep less : ℕ) (root : Root) (steps : List Step) → deep ≡ suc less → steps ≡ steps_of root.directives outermost root.nodes
    → IsRead old new (state_in after new) (steps_met (text_in old.site) root (met_within less (text_in old.site)) zero steps (state_in nothing_before old))
    → IsRead old new (state_in before new) (met_within deep (text_in old.site) root (state_in before old))
read_within {old} {new} before after deep less root steps is_deep are_steps is =
    subst (λ n. IsRead old new (state_in before new) (met_within n (text_in old.site) root (state_in before old))) (sym is_deep)
    (back (subst (IsRead old new (state_in after new)) (ap (λ all. steps_met files root enter zero all s) are_steps ∙ whole) is))
  where
    files : Files
    files = text_in old.site

    enter : Root → State → Reading
    enter = met_within less files

    s : State
    s = state_in nothing_before old

    whole : steps_met files root enter zero (steps_of root.directives outermost root.nodes) s ≡ walk files root enter outermost root.nodes s
    whole =
        ap (λ all. steps_met files root enter zero all s) (sym (append-nil (steps_of root.directives outermost root.nodes)))
        ∙ walk_steps files root enter outermost root.nodes [] s
        ∙ then_nothing (walk files root enter outermost root.nodes s)

    back : IsRead old new (state_in after new) (walk files root enter outermost root.nodes s) → IsRead old new (state_in before new) (met_within (suc less) files root (state_in before old))
    back read = record { fault = read.fault; names = read.names; site = read.site; state = ap (with_before before) read.state }

-- a page is met
pub page_read : {bare named begun_found found : Found} (tree : List File) (page : Root) → IsNothing tree page.bytes bare → IsMet bare named (needed (page.path ∷ [])) → IsMet named begun_found (needed page.names)
    → IsRead begun_found found (state_in nothing_before found) (met_within most_deep (text_in begun_found.site) page (state_in nothing_before begun_found)) → IsPageMet tree page found
page_read {bare} {named} {begun_found} {found} tree page nothing path names is =
    whole (read_then (λ s. met_within most_deep files page s) (read_met nothing_before (met_then path names))
    (subst (λ other. IsRead begun_found found (state_in nothing_before found) (met_within most_deep (text_in other) page (state_in nothing_before begun_found))) at_site is))
  where
    files : Files
    files = text_in tree

    at_site : begun_found.site ≡ tree
    at_site = names.site ∙ path.site ∙ nothing.site

    met_from : State → Reading
    met_from s = followed (needed (page.path ∷ page.names)) (met_within most_deep files page s)

    whole : IsRead bare found (state_in nothing_before found) (met_from (state_in nothing_before bare)) → IsPageMet tree page found
    whole read = record {
      fault = read.fault ∙ ap (λ o. fault_behind o (met_from (state_in nothing_before bare)).events) nothing.fault ∙ ap (λ s. first_fault (met_from s).events) nothing.state;
      names = read.names ∙ ap (λ kept. names_with kept (names_met (met_from (state_in nothing_before bare)).events)) nothing.names ∙ ap (λ s. names_with [] (names_met (met_from s).events)) nothing.state;
      site = read.site ∙ nothing.site;
      state = read.state ∙ ap (λ s. (met_from s).state) nothing.state;
    }
