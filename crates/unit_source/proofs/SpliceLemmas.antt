-- A file that is read with its includes in place.
use Rattle.std.proofs.Common.{◌≡◌, ℕ, suc, List, ◌∷◌, ap, sym, ◌∙◌, append_assoc, length, Result, Ok, Err, IfOk, IsOkAnd}
use Rattle.std.proofs.lemmas.List.{append-nil}
use Rattle.pg_value.specs.declared.settings.PageSettings.{PageSettings}
use Rattle.page_pieces.specs.declared.setting.BroughtPrefixes.{BroughtPrefixes}
use Rattle.unit_source.specs.Files.{Files}
use Rattle.unit_source.specs.First.{brought_by, brought_names, firsts_by, own_directives}
use Rattle.unit_source.specs.InPlace.{InPlace, done}
use Rattle.unit_source.specs.ReadSplice.{Gone, gone, behind_file, with_more}
use Rattle.unit_source.specs.Volume.{one_file}
use Rattle.unit_source.specs.Splice.{Going, Spliced, file_nodes, file_with, include_read, nodes_read, spliced_within, with_names}

-- a file is read by itself, and then its include directives
pub file_is : (files : Files) (settings : PageSettings) (deep less around : ℕ) (chain longer : List (List ℕ)) (path text : List ℕ) (going : Going) (brought : List BroughtPrefixes) (nodes : InPlace)
    → deep ≡ suc less → longer ≡ path ∷ chain
    → brought ≡ brought_by (firsts_by files longer (one_file (length text)) (own_directives path text))
    → nodes ≡ file_nodes settings going.prefixes (brought_by (firsts_by files longer (one_file (length text)) (own_directives path text))) path text
    → spliced_within deep files settings chain around path text going
    ≡ with_names (brought_names (firsts_by files longer (one_file (length text)) (own_directives path text))) (nodes_read (include_read (spliced_within less files settings longer) files longer) brought around nodes going)
unfolding spliced_within
file_is files settings deep less around chain longer path text going brought nodes is_deep is_longer is_brought is_nodes =
    ap (λ n. spliced_within n files settings chain around path text going) is_deep
    ∙ ap (λ l. file_with (spliced_within less files settings l) files settings l around path text going (firsts_by files l (one_file (length text)) (own_directives path text))) (sym is_longer)
    ∙ ap (λ n. whole (brought_by (firsts_by files longer (one_file (length text)) (own_directives path text))) n) (sym is_nodes)
    ∙ ap (λ b. whole b nodes) (sym is_brought)
  where
    whole : List BroughtPrefixes → InPlace → Spliced
    whole b n = with_names (brought_names (firsts_by files longer (one_file (length text)) (own_directives path text))) (nodes_read (include_read (spliced_within less files settings longer) files longer) b around n going)

-- no file is read where none is to be
pub file_end_nodes : (files : Files) (settings : PageSettings) (deep around : ℕ) (chain : List (List ℕ)) (path text : List ℕ) (going : Going)
    → deep ≡ 0 → done ≡ (spliced_within deep files settings chain around path text going).nodes
unfolding spliced_within
file_end_nodes files settings deep around chain path text going none = sym (ap (λ n. (spliced_within n files settings chain around path text going).nodes) none)

pub file_end_gone : (files : Files) (settings : PageSettings) (deep around : ℕ) (chain : List (List ℕ)) (path text : List ℕ) (old : Gone)
    → deep ≡ 0 → old ≡ behind_file old (spliced_within deep files settings chain around path text old.going)
unfolding spliced_within
file_end_gone files settings deep around chain path text old none =
    ap (λ n. gone n old.going) (sym (append-nil old.names)) ∙ sym (ap (λ n. behind_file old (spliced_within n files settings chain around path text old.going)) none)

-- names, and then those of a file
pub more_behind : (names : List (List ℕ)) (old : Gone) (file : Spliced) → behind_file (with_more names old) file ≡ behind_file old (with_names names file)
more_behind names old file = ap (λ n. gone n file.going) (append_assoc old.names names file.names)

-- what holds of an answer and of what it is made of, where it is made of nothing that failed
pub on_both : {A B E : Type 0} (made : Result A E) (answer : Result B E) (P : A → Type 0) (Q : B → A → Type 0) (R : B → Type 0)
    → ((b : B) (a : A) → P a → Q b a → R b) → IfOk made P → IfOk answer (λ b. IsOkAnd made (Q b)) → IfOk answer R
on_both (Ok a) (Ok b) P Q R both p q = both b a p q
on_both (Err e) (Ok b) P Q R both p q = absurd q
on_both (Ok a) (Err e) P Q R both p q = tt
on_both (Err f) (Err e) P Q R both p q = tt
