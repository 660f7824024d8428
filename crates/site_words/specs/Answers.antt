-- The answers of a port's calls as replies, and what goes with them.
use Rattle.std.specs.Prelude.{◌≡◌, ℕ, ◌-◌, List, [], Option, Some, None, Ok, Err, Bool, true, false, slice_index_or, ⊤}
use Rattle.std.specs.Arc.{arc_value}
use Rattle.std.specs.declared.result.Result.{Result}
use Rattle.source_tree.specs.declared.file.File.{File}
use Rattle.edges.specs.declared.acted.Acted.{Acted}
use Rattle.edges.specs.declared.acted.Acted.TheVariants.{Did, Refused, NoMemory}
use Rattle.site_words.specs.declared.words.AppReply.{AppReply}
use Rattle.site_words.specs.declared.words.Run.{Run}
use Rattle.site_words.specs.declared.words.Entry.{Entry}
use Rattle.site_words.specs.declared.words.Opening.{Opening}
use Rattle.site_words.specs.declared.words.Reply.{Reply}
use Rattle.site_words.specs.declared.words.Reply.TheVariants as reply
use Rattle.site_words.specs.declared.words.Refusal.{Refusal}
use Rattle.site_words.specs.declared.words.Refusal.TheVariants.{JournalFull}
use Rattle.site_words.specs.declared.port.Published.{Published}
use Rattle.site_words.specs.declared.port.Begun.{Begun}
use Rattle.site_words.specs.declared.port.Fresh.{Fresh}
use Rattle.site_words.specs.declared.port.Snapped.{Snapped}
use Rattle.site_words.specs.Ids.{id_of}
use Rattle.site_words.specs.Law.{trees_of}
use Rattle.site_words.specs.Sessions.{session_attrs}
use Rattle.site_words.specs.State.{State}

-- an answer of a port as the operation's, by the reply that goes with it
abbrev pub did_as : {A : Type 0} → (A → Reply) → Acted A Refusal → Acted Reply Refusal
did_as f (Did a) = Did (f a)
did_as f (Refused refusal) = Refused refusal
did_as f NoMemory = NoMemory

-- an answer that only memory refuses as the operation's
abbrev pub ok_as : {A E : Type 0} → (A → Reply) → Result A E → Acted Reply Refusal
ok_as f (Ok a) = Did (f a)
ok_as f (Err e) = NoMemory

-- what `publish` answers, as a reply
abbrev pub of_published : Acted Published Refusal → Acted Reply Refusal
of_published r = did_as (λ (p : Published). reply.Published p.version p.dirty) r

-- what `begin` answers, as a reply
abbrev pub of_begun : Acted Begun Refusal → Acted Reply Refusal
of_begun r = did_as (λ (b : Begun). reply.Begun b.request b.version b.session) r

-- what `snapshot` answers, as a reply
abbrev pub of_snapped : Acted Snapped Refusal → Acted Reply Refusal
of_snapped r = did_as (λ (s : Snapped). reply.Snapped s.version s.session) r

-- what `app` answers, as a reply
abbrev pub of_app : {E : Type 0} → Result AppReply E → Acted Reply Refusal
of_app r = ok_as (λ a. reply.App a) r

-- what `fresh` answers, as a reply
abbrev pub of_fresh : {E : Type 0} → Result Fresh E → Acted Reply Refusal
of_fresh r = ok_as (λ (f : Fresh). reply.Made f.session) r

-- something was found, as a reply
abbrev pub is_hit : {P : Type 0} → Option P → Reply
is_hit None = reply.Fetched false
is_hit (Some value) = reply.Fetched true

-- what `fetch` answers, as a reply
abbrev pub of_fetched : {P E : Type 0} → Result (Option P) E → Acted Reply Refusal
of_fetched r = ok_as is_hit r

-- what `offer` answers, as a reply
abbrev pub of_offered : {E : Type 0} → Result Bool E → Acted Reply Refusal
of_offered r = ok_as (λ b. reply.Offered b) r

-- the journal is full
abbrev pub IsFull : Refusal → Type 0
IsFull (JournalFull weight promised) = ⊤
IsFull other = ⊥

-- what is refused is refused for want of room
abbrev pub IsFullOnRefused : {A : Type 0} → Acted A Refusal → Type 0
IsFullOnRefused (Did a) = ⊤
IsFullOnRefused (Refused refusal) = IsFull refusal
IsFullOnRefused NoMemory = ⊤

-- a request starts with the latest tree, and with the attributes that its session has
abbrev pub StartsWith : State → Acted Begun Refusal → Type 0
StartsWith s (Did begun) = (arc_value begun.tree ≡ s.tree) × (begun.attrs ≡ session_attrs begun.session s.sessions)
StartsWith s (Refused refusal) = ⊤
StartsWith s NoMemory = ⊤

-- a picture shows the latest tree, the application's attributes and the session's
abbrev pub Shows : State → Acted Snapped Refusal → Type 0
Shows s (Did snapped) = (arc_value snapped.tree ≡ s.tree) × (snapped.app ≡ s.app) × (snapped.attrs ≡ session_attrs snapped.session s.sessions)
Shows s (Refused refusal) = ⊤
Shows s NoMemory = ⊤

-- the id goes with a fresh session
abbrev pub IsNamed : {E : Type 0} → List ℕ → Result Fresh E → Type 0
IsNamed seed (Ok fresh) = fresh.id ≡ id_of seed fresh.session
IsNamed seed (Err e) = ⊤

-- the tree of the request under way has P
abbrev pub ForRun : Opening → List Entry → Option Run → (List File → Type 0) → Type 0
ForRun x front None P = ⊥
ForRun x front (Some run) P = P (slice_index_or (trees_of x front) (run.version - x.version) [])

-- the same pass on the same site, at the same home
abbrev pub IsSamePort : {H : Type 0} → ℕ → ℕ → Opening → Opening → H → H → Type 0
IsSamePort old new x y home home' = (new ≡ old) × (y ≡ x) × (home' ≡ home)
