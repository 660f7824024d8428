-- The command `contexts`: its words, and the sites on which it starts.
use Rattle.std.specs.Prelude.{ℕ, ◌&&◌, List, [], ◌∷◌, codes, length, map, Option, Some, None, if◌then◌else◌}
use Rattle.std.specs.Option.{option_map}
use Rattle.std.specs.Str.{bytes_eq}
use Rattle.context_names.specs.Names.{names_in}
use Rattle.context_talk.specs.Among.{TalkedAmong}
use Rattle.context_words.specs.Parts.{lent_of}
use Rattle.contexts.specs.Sites.{sites_of}
use Rattle.conversation.specs.declared.ended.Ended.{Ended}
use Rattle.edges.specs.Clock.{Moments}
use Rattle.pages_talk.specs.Play.{first_seed, only_connection}
use Rattle.site_core.specs.Lived.{Lived}
use Rattle.site_words.specs.Seed.{seed_of}
use Rattle.site_words.specs.declared.words.Entry.{Entry}
use Rattle.talk_words.specs.Connection.{Connection}

-- the word of the names, and the seed: the words are `contexts` and a list of names, or these, `--seed` and the digits of a seed
abbrev pub words_told : List (List ℕ) → Option (List ℕ × List ℕ)
words_told [] = None
words_told (word ∷ []) = None
words_told (word ∷ list ∷ []) = if bytes_eq word (codes "contexts") then Some (list, first_seed) else None
words_told (word ∷ list ∷ option ∷ []) = None
words_told (word ∷ list ∷ option ∷ digits ∷ []) =
    if bytes_eq word (codes "contexts") && bytes_eq option (codes "--seed") then option_map (λ seed. (list, seed)) (seed_of digits) else None
words_told (word ∷ list ∷ option ∷ digits ∷ next ∷ words) = None

-- the names that such a word has, beside the seed
abbrev pub named_by : Option (List ℕ × List ℕ) → Option (List (List ℕ) × List ℕ)
named_by None = None
named_by (Some told) = option_map (λ names. (names, told.1)) (names_in told.0)

-- the names and the seed that the words ask for
abbrev pub asked : List (List ℕ) → Option (List (List ℕ) × List ℕ)
asked words = named_by (words_told words)

-- the contexts' sites when the command starts: one pass acts on each
abbrev pub first_sites : (names : List (List ℕ)) → (seed : List ℕ) → List Lived
first_sites names seed = sites_of seed 1 (length names)

-- the connections to them, an editor's too
abbrev pub first_connections : List Lived → List (Connection × ℕ)
first_connections sites = map (λ (site : Lived). (only_connection site.opening, 0)) sites

-- the connection was talked on from the beginning of these contexts
abbrev pub HasTalkedAmong : (names : List (List ℕ)) → (seed : List ℕ) → (moments still : Moments) → (steps now : ℕ)
    → (left later : Option (List ℕ)) → (before after : ℕ) → (taken has : Option (List ℕ)) → Ended → Type 0
HasTalkedAmong names seed moments still steps now left later before after taken has ended =
    (seen : List (List Entry))
    × TalkedAmong names (first_connections (first_sites names seed)) (map (λ (site : Lived). site.history) (first_sites names seed)) seen
    (lent_of moments steps) (lent_of still now) left later before after taken has ended
