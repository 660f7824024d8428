-- First readings one after the other.
use Rattle.std.proofs.Common.{◌≡◌, ◌<◌, ◌+◌, ◌-◌, arith, zero, suc, ℕ, List, [], ◌∷◌, ◌++◌, Option, Some, None, refl, ap, sym, ◌∙◌, append_assoc, length, drop, get_or, add-one, drop-cons}
use Rattle.std.proofs.lemmas.List.{append-nil}
use Rattle.std.specs.Option.{option_to_list}
use Rattle.page_directives.specs.Directive.{Directive}
use Rattle.page_directives.specs.Taglibs.{prefixes_of}
use Rattle.unit_source.specs.declared.volume.Volume.{Volume}
use Rattle.unit_source.specs.Files.{Files}
use Rattle.unit_source.specs.First.{EnterFirst, First, none_read, with_name, first_before, first_file, first_all, first_within, included_path, own_directives}
use Rattle.unit_source.specs.ReadFirst.{Told, and_name, and_part, gathered, told_behind}
use Rattle.unit_source.specs.ReadParts.{ArePlain, Part, in_part, in_parts}
use Rattle.unit_source.proofs.PartLemmas.{none_included, prefixes_both}

abbrev first_of : List Directive → List (List ℕ) → Volume → First
first_of directives names volume = record { directives = directives; names = names; volume = volume }

abbrev told_of : List Directive → List (List ℕ) → List (List ℕ) → Volume → Told
told_of directives prefixes names volume = record { directives = directives; prefixes = prefixes; names = names; volume = volume }

-- nothing was met
pub behind_none : (old : Told) → told_behind old (none_read old.volume) ≡ old
behind_none old =
    ap (λ ds. told_of ds (old.prefixes ++ []) (old.names ++ []) old.volume) (append-nil old.directives)
    ∙ ap (λ prefixes. told_of old.directives prefixes (old.names ++ []) old.volume) (append-nil old.prefixes)
    ∙ ap (λ names. told_of old.directives old.prefixes names old.volume) (append-nil old.names)

-- a name, and then more
pub behind_name : (name : List ℕ) (old : Told) (more : First) → told_behind (and_name name old) more ≡ told_behind old (with_name name more)
behind_name name old more =
    ap (λ names. told_of (old.directives ++ more.directives) (old.prefixes ++ prefixes_of more.directives) names more.volume) (append_assoc old.names (name ∷ []) more.names)

-- first readings, and then others
pub behind_both : (old : Told) (one more : First) → told_behind (told_behind old one) more ≡ told_behind old (gathered one more)
behind_both old one more =
    ap (λ ds. told_of ds ((old.prefixes ++ prefixes_of one.directives) ++ prefixes_of more.directives) ((old.names ++ one.names) ++ more.names) more.volume)
    (append_assoc old.directives one.directives more.directives)
    ∙ ap (λ prefixes. told_of (old.directives ++ (one.directives ++ more.directives)) prefixes ((old.names ++ one.names) ++ more.names) more.volume)
    (append_assoc old.prefixes (prefixes_of one.directives) (prefixes_of more.directives) ∙ ap (λ all. old.prefixes ++ all) (sym (prefixes_both one.directives more.directives)))
    ∙ ap (λ names. told_of (old.directives ++ (one.directives ++ more.directives)) (old.prefixes ++ prefixes_of (one.directives ++ more.directives)) names more.volume)
    (append_assoc old.names one.names more.names)

before_both : (d : Directive) (here one more : First) → first_before d here (gathered one more) ≡ gathered (first_before d here one) more
before_both d here one more =
    ap (λ ds. first_of (d ∷ ds) (here.names ++ (one.names ++ more.names)) more.volume) (sym (append_assoc here.directives one.directives more.directives))
    ∙ ap (λ names. first_of (d ∷ ((here.directives ++ one.directives) ++ more.directives)) names more.volume) (sym (append_assoc here.names one.names more.names))

-- the first readings of directives and of others
pub all_both : (enter : EnterFirst) (files : Files) (chain : List (List ℕ)) (volume : Volume) (some more : List Directive)
    → first_all enter files chain volume (some ++ more)
    ≡ gathered (first_all enter files chain volume some) (first_all enter files chain (first_all enter files chain volume some).volume more)
all_both enter files chain volume [] more = refl
all_both enter files chain volume (d ∷ some) more =
    let here : First = first_file enter files chain volume (included_path d) in
    let one : First = first_all enter files chain here.volume some in
    ap (first_before d here) (all_both enter files chain here.volume some more) ∙ before_both d here one (first_all enter files chain one.volume more)

-- those of plain directives are these alone
plain_all : (enter : EnterFirst) (files : Files) (chain : List (List ℕ)) (volume : Volume) (plain : List Directive)
    → ArePlain plain → first_all enter files chain volume plain ≡ first_of plain [] volume
plain_all enter files chain volume [] are = refl
plain_all enter files chain volume (d ∷ plain) are =
    ap step (none_included d are.0) ∙ ap (first_before d (none_read volume)) (plain_all enter files chain volume plain are.1)
  where
    step : Option (List ℕ) → First
    step path = let here : First = first_file enter files chain volume path in first_before d here (first_all enter files chain here.volume plain)

-- those of a part that ends by an include directive
one_included : (enter : EnterFirst) (files : Files) (chain : List (List ℕ)) (volume : Volume) (plain : List Directive) (d : Directive) → ArePlain plain
    → first_all enter files chain volume (plain ++ d ∷ []) ≡ gathered (first_of (plain ++ d ∷ []) [] volume) (first_file enter files chain volume (included_path d))
one_included enter files chain volume plain d are =
    all_both enter files chain volume plain (d ∷ [])
    ∙ ap (λ f. gathered f (first_all enter files chain f.volume (d ∷ []))) (plain_all enter files chain volume plain are)
    ∙ ap (λ ds. first_of (plain ++ d ∷ ds) (here.names ++ []) here.volume) (append-nil here.directives)
    ∙ ap (λ ds. first_of ds (here.names ++ []) here.volume) (sym (append_assoc plain (d ∷ []) here.directives))
    ∙ ap (λ names. first_of ((plain ++ d ∷ []) ++ here.directives) names here.volume) (append-nil here.names)
  where
    here : First
    here = first_file enter files chain volume (included_path d)

-- a part alone, behind what was read
part_alone : (part : Part) (old : Told) → told_behind old (first_of (in_part part) [] old.volume) ≡ and_part part old
part_alone part old =
    ap (λ names. told_of (old.directives ++ in_part part) (old.prefixes ++ prefixes_of (in_part part)) names old.volume) (append-nil old.names)

-- a part whose include directive was followed
pub part_followed : (enter : EnterFirst) (files : Files) (chain : List (List ℕ)) (part : Part) (d : Directive) (old : Told)
    → ArePlain part.plain → part.include ≡ Some d
    → told_behind (and_part part old) (first_file enter files chain old.volume (included_path d)) ≡ told_behind old (first_all enter files chain old.volume (in_part part))
part_followed enter files chain part d old are is =
    ap (λ (o : Told). told_behind o here) (sym (part_alone part old))
    ∙ behind_both old (first_of (in_part part) [] old.volume) here
    ∙ ap (λ ds. told_behind old (gathered (first_of ds [] old.volume) here)) whole
    ∙ ap (told_behind old) (sym (one_included enter files chain old.volume part.plain d are))
    ∙ ap (λ ds. told_behind old (first_all enter files chain old.volume ds)) (sym whole)
  where
    here : First
    here = first_file enter files chain old.volume (included_path d)

    whole : in_part part ≡ part.plain ++ d ∷ []
    whole = ap (λ (o : Option Directive). part.plain ++ option_to_list o) is

-- a part without one
pub part_ended : (enter : EnterFirst) (files : Files) (chain : List (List ℕ)) (part : Part) (old : Told)
    → ArePlain part.plain → part.include ≡ None → and_part part old ≡ told_behind old (first_all enter files chain old.volume (in_part part))
part_ended enter files chain part old are is =
    sym (part_alone part old)
    ∙ ap (λ ds. told_behind old (first_of ds [] old.volume)) whole
    ∙ ap (told_behind old) (sym (plain_all enter files chain old.volume part.plain are))
    ∙ ap (λ ds. told_behind old (first_all enter files chain old.volume ds)) (sym whole)
  where
    whole : in_part part ≡ part.plain
    whole = ap (λ (o : Option Directive). part.plain ++ option_to_list o) is ∙ append-nil part.plain

-- one more part was looked at
pub next_part : (enter : EnterFirst) (files : Files) (chain : List (List ℕ)) (all : List Part) (i : ℕ) (part : Part) (now next total : Told)
    → i < length all → part ≡ get_or all i part
    → told_behind now (first_all enter files chain now.volume (in_parts (drop i all))) ≡ total
    → next ≡ told_behind now (first_all enter files chain now.volume (in_part part))
    → told_behind next (first_all enter files chain next.volume (in_parts (drop (i + 1) all))) ≡ total
next_part enter files chain all i part now next total lt is whole more =
    ap (λ n. told_behind n (first_all enter files chain n.volume (in_parts (drop (i + 1) all)))) more
    ∙ behind_both now here (first_all enter files chain here.volume (in_parts (drop (i + 1) all)))
    ∙ ap (told_behind now) (sym (all_both enter files chain now.volume (in_part part) (in_parts (drop (i + 1) all))))
    ∙ ap (λ parts. told_behind now (first_all enter files chain now.volume (in_parts parts))) (sym split) ∙ whole
  where
    here : First
    here = first_all enter files chain now.volume (in_part part)

    split : drop i all ≡ part ∷ drop (i + 1) all
    split = drop-cons all i part lt ∙ ap (λ n. get_or all i part ∷ drop n all) (sym (add-one i)) ∙ ap (λ x. x ∷ drop (i + 1) all) (sym is)

-- the first readings of a file are those of its own directives
pub first_step : (files : Files) (deep : ℕ) (chain : List (List ℕ)) (volume : Volume) (path text : List ℕ) → 0 < deep
    → first_within deep files chain volume path text ≡ first_all (first_within (deep - 1) files (path ∷ chain)) files (path ∷ chain) volume (own_directives path text)
unfolding first_within
first_step files zero chain volume path text some = absurd (omega (arith, some))
first_step files (suc deep) chain volume path text some =
    let less : deep ≡ suc deep - 1 = omega arith in ap (λ n. first_all (first_within n files (path ∷ chain)) files (path ∷ chain) volume (own_directives path text)) less

-- no file is read where none is to be
pub first_end : (files : Files) (deep : ℕ) (chain : List (List ℕ)) (old : Told) (path text : List ℕ) → deep ≡ 0 → old ≡ told_behind old (first_within deep files chain old.volume path text)
unfolding first_within
first_end files deep chain old path text none = sym (behind_none old) ∙ sym (ap (λ n. told_behind old (first_within n files chain old.volume path text)) none)
