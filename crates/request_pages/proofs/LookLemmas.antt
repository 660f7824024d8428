-- What a look at a path leaves of the promise and of the state.
use Rattle.std.proofs.Common.{◌≡◌, ◌+◌, ◌≤◌, ℕ, true, false, List, [], ◌∷◌, ◌++◌, Option, Some, None, refl, sym, ap, ◌∙◌, if◌then◌else◌, Bool, append_assoc, append-nil, arith}
use Rattle.out_buffer.specs.Held.{Held}
use Rattle.run_pages.specs.Run.{IsInOrder, StandsFor}
use Rattle.page_meaning.specs.State.{State}
use Rattle.page_meaning.specs.Work.{fetched}
use Rattle.pg_text.specs.declared.place.PageFault.{PageFault}
use Rattle.request_pages.specs.Looked.{looked_at}
use Rattle.request_pages.specs.Played.{IsFunded, session_claim}
use Rattle.run_stage.proofs.LookMoves.{look_claimed, page_claimed, page_steps}
use Rattle.run_world.specs.Origin.{Origin}
use Rattle.run_world.specs.declared.around.Around.{Around}
use Rattle.run_world.specs.declared.program.Program.{Program}
use Rattle.scopes.specs.Scopes.{ScopeState}
use Rattle.site_words.specs.PageSteps.{fetch, page_charge}
use Rattle.site_words.specs.Running.{Asking, HasLooked, IsPageFile, IsPaged, IsPlain, is_page, look_claim, look_steps, page_claim}
use Rattle.site_words.specs.declared.app_port.Paged.{Paged}
use Rattle.site_words.specs.declared.app_port.Paged.TheVariants as found
use Rattle.source_tree.specs.Edits.{file_at}
use Rattle.source_tree.specs.declared.file.File.{File}
use Rattle.page_meaning.proofs.Growing.{ordered_asked}

-- a file that is no page takes nothing
pub plain_free : (path : List ℕ) (file : Option File) (text : List ℕ) → IsPlain path file text → look_claim path file ≡ 0
plain_free path None text is = refl
plain_free path (Some file) text is = ap (λ b. if b then page_charge path else 0) is.0

-- nor is it asked for as a page
plain_asks : (path : List ℕ) (file : Option File) (text : List ℕ) → IsPlain path file text → look_steps path file ≡ []
plain_asks path None text is = refl
plain_asks path (Some file) text is = ap (λ b. if b then fetch path ∷ [] else []) is.0

-- a page takes what it is charged
pub page_claims : (path : List ℕ) (file : Option File) → IsPageFile path file → look_claim path file ≤ page_charge path
page_claims path file is = let steps = page_steps path file is in let claim = page_claimed path steps.0 in let most = look_claimed path file in omega (arith, claim, most)

-- the rest stands behind a look that found no page
pub quiet_stands : (origin : Origin) (scopes : ScopeState) (held : Held) (taken : Option (List ℕ)) (faults : ℕ) (around : Around) (old new : Asking) (path : List ℕ) (file : Option File) (s : State) → look_steps path file ≡ []
    → HasLooked old new path file → StandsFor origin scopes held taken faults around old s → StandsFor origin scopes held taken faults around new s
quiet_stands origin scopes held taken faults around old new path file s none looked h = record {
  scopes = h.scopes;
  asked = h.asked ∙ ap (λ a. origin.asked ++ a) (sym (looked.asked ∙ (ap (λ l. old.asked ++ l) none ∙ append-nil old.asked)));
  ordered = h.ordered;
  writer = h.writer;
  visits = h.visits;
  charge = h.charge;
  id = h.id;
  fresh = h.fresh;
}

-- the rest stands behind a look that found a page
pub page_stands : (origin : Origin) (scopes : ScopeState) (held : Held) (taken : Option (List ℕ)) (faults : ℕ) (around : Around) (old new : Asking) (path : List ℕ) (file : Option File) (s : State) (charge : ℕ) → charge ≡ page_charge path → IsPageFile path file
    → HasLooked old new path file → StandsFor origin scopes held taken faults around old s → StandsFor origin scopes held taken faults (record around { charge = around.charge + charge }) new (fetched path s)
page_stands origin scopes held taken faults around old new path file s charge so is looked h = record {
  scopes = h.scopes;
  asked = ap (λ a. a ++ fetch path ∷ []) h.asked ∙ (append_assoc origin.asked old.asked (fetch path ∷ []) ∙ ap (λ a. origin.asked ++ a) (sym (looked.asked ∙ ap (λ l. old.asked ++ l) (page_steps path file is).1)));
  ordered = ordered_asked (fetch path) s h.ordered;
  writer = h.writer;
  visits = h.visits;
  charge = ap (λ k. k + page_charge path) h.charge ∙ ap (λ k. around.charge + k) (sym so);
  id = h.id;
  fresh = h.fresh;
}

-- what a run is charged for what it found: a page costs, and so does one with a fault
abbrev pub charged : Paged Program → (charge : ℕ) → Around → Around
charged (found.Page program) charge around = record around { charge = around.charge + charge }
charged (found.Bad fault) charge around = record around { charge = around.charge + charge }
charged (found.Plain text) charge around = around
charged found.Absent charge around = around

-- the rest stands behind a look, whatever was found
pub found_stands : (made : Program → List File → List ℕ → Type 0) (faulty : PageFault → List File → List ℕ → Type 0) (tree : List File) (origin : Origin) (scopes : ScopeState) (held : Held) (taken : Option (List ℕ)) (faults : ℕ) (around : Around) (old new : Asking)
    (path : List ℕ) (s : State) (charge : ℕ) → charge ≡ page_charge path → (what : Paged Program) → IsPaged made faulty tree path what → HasLooked old new path (file_at path tree) → StandsFor origin scopes held taken faults around old s
    → StandsFor origin scopes held taken faults (charged what charge around) new (looked_at path what s)
found_stands made faulty tree origin scopes held taken faults around old new path s charge so (found.Page program) is looked h = page_stands origin scopes held taken faults around old new path (file_at path tree) s charge so is.0 looked h
found_stands made faulty tree origin scopes held taken faults around old new path s charge so (found.Bad fault) is looked h = page_stands origin scopes held taken faults around old new path (file_at path tree) s charge so is.0 looked h
found_stands made faulty tree origin scopes held taken faults around old new path s charge so (found.Plain text) is looked h =
    quiet_stands origin scopes held taken faults around old new path (file_at path tree) s (plain_asks path (file_at path tree) text is) looked h
found_stands made faulty tree origin scopes held taken faults around old new path s charge so found.Absent is looked h =
    quiet_stands origin scopes held taken faults around old new path (file_at path tree) s (ap (look_steps path) is) looked h

-- the promise covers the rest behind a look
pub look_funded : (around : Around) (old new : Asking) (path : List ℕ) (file : Option File) (charge : ℕ) → look_claim path file ≤ charge → HasLooked old new path file → IsFunded around old
    → 4320000 + session_claim around.id ≤ around.charge + charge + new.left
look_funded around old new path file charge claim looked funded = let left = looked.left in omega (arith, claim, left, funded)

-- all is in order behind a look
pub look_order : (scopes : ScopeState) (around : Around) (old new : Asking) (path : List ℕ) (file : Option File) (charge : ℕ) → HasLooked old new path file → around.charge + charge ≤ 4200000
    → IsInOrder scopes around old → IsInOrder scopes (record around { charge = around.charge + charge }) new
look_order scopes around old new path file charge looked low h = record {
  session = h.session;
  asked = looked.has_session ∙ h.asked;
  weight = h.weight;
  visits = h.visits;
  charge = low;
}

-- all is in order behind a look that charged nothing
pub quiet_order : (scopes : ScopeState) (around : Around) (old new : Asking) (path : List ℕ) (file : Option File) → HasLooked old new path file → IsInOrder scopes around old → IsInOrder scopes around new
quiet_order scopes around old new path file looked h = record {
  session = h.session;
  asked = looked.has_session ∙ h.asked;
  weight = h.weight;
  visits = h.visits;
  charge = h.charge;
}

-- there is room for a look
pub look_room : (around : Around) (asking : Asking) (path : List ℕ) → page_charge path ≤ 2208 → around.charge ≤ 4197000 → IsFunded around asking → page_claim path + 65600 ≤ asking.left
look_room around asking path short low funded = let most = claim_low (is_page path) in omega (arith, most, low, funded)
  where
    claim_low : (b : Bool) → (if b then page_charge path else 0) ≤ 2208
    claim_low true = omega (arith, short)
    claim_low false = omega arith
