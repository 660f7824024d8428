-- The words of the command `serve`, and what they say.
use Rattle.std.specs.Prelude.{ℕ, ◌≤◌, ◌==◌, ◌&&◌, ◌||◌, Bool, List, [], ◌∷◌, codes, length, nat_le, nat_lt, is_none, is_some, replicate, Option, Some, None, IfSome, if◌then◌else◌}
use Rattle.std.specs.List.{after_first, before_first, position_or_len}
use Rattle.std.specs.Option.{option_and_then}
use Rattle.std.specs.Str.{bytes_eq}
use Rattle.context_names.specs.Names.{names_in}
use Rattle.pg_text.specs.Numbers.{whole_number}
use Rattle.serve_words.specs.declared.given.Given.{Given}
use Rattle.serve_words.specs.declared.setting.Rounds.{Rounds}
use Rattle.serve_words.specs.declared.setting.Settings.{Settings}
use Rattle.site_words.specs.Seed.{seed_of}
use Rattle.site_words.specs.declared.limits.TheConstants.{IDLE_SECONDS}

-- no option was read yet
abbrev pub nothing_given : Given
nothing_given = record { port = None; editor_port = None; preview_port = None; workers = None; seed = None; idle = None; round = None; editor_round = None }

-- the number that a text writes, where it is from one to the most
abbrev pub number_up_to : (most : ℕ) → List ℕ → Option ℕ
number_up_to most text = option_and_then (λ number. if nat_le 1 number && nat_le number most then Some number else None) (whole_number text)

-- there are 1 to 63 workers, where the words said how many
abbrev pub FewWorkers : Given → Type 0
FewWorkers g = IfSome g.workers (λ number. (1 ≤ number) × (number ≤ 63))

-- an option stands only once
abbrev pub once : {A : Type 0} → Option A → Option A → Option A
once None value = value
once (Some before) value = None

-- the option of this name says this, too
abbrev pub with_option : (name value : List ℕ) → Given → Option Given
with_option name value g =
    if bytes_eq name (codes "--port") then option_and_then (λ n. Some (record g { port = Some n })) (once g.port (number_up_to 65535 value))
    else if bytes_eq name (codes "--editor-port") then option_and_then (λ n. Some (record g { editor_port = Some n })) (once g.editor_port (number_up_to 65535 value))
    else if bytes_eq name (codes "--preview-port") then option_and_then (λ n. Some (record g { preview_port = Some n })) (once g.preview_port (number_up_to 65535 value))
    else if bytes_eq name (codes "--workers") then option_and_then (λ n. Some (record g { workers = Some n })) (once g.workers (number_up_to 63 value))
    else if bytes_eq name (codes "--seed") then option_and_then (λ s. Some (record g { seed = Some s })) (once g.seed (seed_of value))
    else if bytes_eq name (codes "--idle") then option_and_then (λ n. Some (record g { idle = Some n })) (once g.idle (number_up_to 1000000000 value))
    else if bytes_eq name (codes "--round") then option_and_then (λ n. Some (record g { round = Some n })) (once g.round (number_up_to 1000000 value))
    else if bytes_eq name (codes "--editor-round") then option_and_then (λ n. Some (record g { editor_round = Some n })) (once g.editor_round (number_up_to 1000000 value))
    else None

abbrev pub is_equals : ℕ → Bool
is_equals b = b == 61

-- the name and the value that stand before and behind the first `=` of a word
abbrev pub split_at_equals : List ℕ → Option (List ℕ × List ℕ)
split_at_equals word =
    if nat_lt (position_or_len is_equals word) (length word) then Some (before_first is_equals word, after_first is_equals word) else None

-- what the options said so far: the names of contexts stand beside the rest
abbrev pub Told : Type 0
Told = Given × Option (List ℕ)

-- the names of contexts that a word tells, joined by commas
abbrev pub names_told : List ℕ → Option (List ℕ)
names_told word = if is_some (names_in word) then Some word else None

-- the option of this name says this, too
abbrev pub with_word : (name value : List ℕ) → Told → Option Told
with_word name value told =
    if bytes_eq name (codes "--contexts") then option_and_then (λ names. Some (told.0, Some names)) (once told.1 (names_told value))
    else option_and_then (λ given. Some (given, told.1)) (with_option name value told.0)

-- what one word says that is an option with its value
abbrev pub alone : Option (List ℕ × List ℕ) → Told → Option Told
alone None told = None
alone (Some split) told = with_word split.0 split.1 told

-- what a word and the next one say, and then the words behind the one or both
abbrev pub onward : Option (List ℕ × List ℕ) → (word value : List ℕ) → Told → (one two : Told → Option Told) → Option Told
onward None word value told one two = option_and_then two (with_word word value told)
onward (Some split) word value told one two = option_and_then one (with_word split.0 split.1 told)

-- what the words say: each option is one word `--name=value`, or two
abbrev pub read : List (List ℕ) → Told → Option Told
read [] told = Some told
read (word ∷ []) told = alone (split_at_equals word) told
read (word ∷ value ∷ words) told = onward (split_at_equals word) word value told (λ later. read (value ∷ words) later) (λ later. read words later)

-- what was said, or else this
abbrev pub or_else : {A : Type 0} → A → Option A → A
or_else other None = other
or_else other (Some value) = value

-- the rounds: both numbers are given, or neither
abbrev pub rounds_of : (readers editors : Option ℕ) → Option (Option Rounds)
rounds_of None None = Some None
rounds_of (Some readers) (Some editors) = Some (Some (record { readers = readers; editors = editors }))
rounds_of readers editors = None

-- whether previews can stand with the rest: they take one of the workers, and there are no rounds
abbrev pub stand_together : Settings → Bool
stand_together s = is_none s.preview_port || (nat_lt s.workers 63 && is_none s.rounds)

-- one where something was said, else none
abbrev pub count_of : Option ℕ → ℕ
count_of None = 0
count_of (Some said) = 1

-- three options have to stand there
abbrev pub all_said : Given → Option Settings
all_said g =
    option_and_then (λ port. option_and_then (λ editor_port. option_and_then (λ workers. option_and_then (λ rounds.
    Some (record { port = port; editor_port = editor_port; preview_port = g.preview_port; workers = workers; seed = or_else (replicate 32 0) g.seed; idle = or_else IDLE_SECONDS g.idle; rounds = rounds }))
    (rounds_of g.round g.editor_round)) g.workers) g.editor_port) g.port

-- whether names of contexts can stand with the rest: each context has sessions, a journal and a port of its own
abbrev pub stand_alone : Told → Bool
stand_alone told =
    is_none told.1 || (is_none told.0.idle && (is_none told.0.round && (is_none told.0.editor_round && is_none told.0.preview_port)))

-- and all have to stand together
abbrev pub settings_of : Given → Option Settings
settings_of g = option_and_then (λ settings. if stand_together settings then Some settings else None) (all_said g)

-- how the options ask to serve, beside the names of contexts, where there are any
abbrev pub asked_of : Told → Option (Settings × Option (List ℕ))
asked_of told = if stand_alone told then option_and_then (λ settings. Some (settings, told.1)) (settings_of told.0) else None

-- how the words ask to serve: they are `serve` and options
abbrev pub settings_asked : List (List ℕ) → Option (Settings × Option (List ℕ))
settings_asked [] = None
settings_asked (word ∷ words) =
    if bytes_eq word (codes "serve") then option_and_then asked_of (read words (nothing_given, None)) else None
