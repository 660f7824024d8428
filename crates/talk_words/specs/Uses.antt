-- The entries that each request uses.
use Rattle.std.specs.Prelude.{◌≡◌, ◌⊎◌, ℕ, ◌+◌, Bool, List, [], ◌∷◌, ◌++◌, Option, Ok}
use Rattle.conversation.specs.Conversation.{Walked, closes}
use Rattle.conversation.specs.Exchange.{Exchange}
use Rattle.editor.specs.Message.{message}
use Rattle.editor.specs.declared.message.Message.TheVariants.{Publish}
use Rattle.http_in.specs.declared.request.Request.{Request}
use Rattle.page_answers.specs.Turns.{Turn, all_calls}
use Rattle.pass_course.specs.Course.{HasDone}
use Rattle.pg_value.specs.Datum.{Datum}
use Rattle.site_words.specs.Law.{Legal}
use Rattle.site_words.specs.declared.words.Op.{Op}
use Rattle.site_words.specs.declared.words.Op.TheVariants as op
use Rattle.site_words.specs.declared.words.Reply.{Reply}
use Rattle.site_words.specs.declared.words.Reply.TheVariants as reply
use Rattle.source_tree.specs.declared.edit.Edit.{Edit}
use Rattle.talk_words.specs.Connection.{Connection, Stand}
use Rattle.talk_words.specs.Said.{IsLeft, IsSaid, way}
use Rattle.talk_words.specs.declared.way.Way.{Way}
use Rattle.talk_words.specs.declared.way.Way.TheVariants.{Edits, Nowhere, Asks}

-- one publishing of this draft, for the base that the message names
pub record IsPublishing (request : Request) (draft : List Edit) (calls : List (Op × Reply)) : Type 0 where
  pub base : Option ℕ
  pub says : message request ≡ Ok (Publish base)
  pub version : ℕ
  pub dirty : List (List ℕ)
  pub is : calls ≡ (op.Publish base draft, reply.Published version dirty) ∷ []

-- the beginning of a request with its cookie, then the steps of its pages, then this end
pub record IsRequest (request : Request) (calls : List (Op × Reply)) (ends : ℕ → Op × Reply → Type 0) : Type 0 where
  pub number : ℕ
  pub version : ℕ
  pub session : Option ℕ
  pub moment : ℕ
  pub turns : List Turn
  pub last : Op × Reply
  pub ended : ends number last
  pub is : calls ≡ (op.Begin request.cookie moment, reply.Begun number version session) ∷ (all_calls number turns ++ last ∷ [])

-- a request ends
abbrev pub IsEnd : (number : ℕ) → Op × Reply → Type 0
IsEnd number last = (attrs : List (List ℕ × Datum)) × (last ≡ (op.End number attrs, reply.Ended))

-- a request is abandoned
abbrev pub IsAbandoning : (number : ℕ) → Op × Reply → Type 0
IsAbandoning number last = last ≡ (op.Abandon number, reply.Dropped)

-- what a request used: a publishing, or its own entries from beginning to end; or nothing
abbrev pub Uses : Way → Request → (old : Stand) → (calls : List (Op × Reply)) → (ends : ℕ → Op × Reply → Type 0) → Type 0
Uses Edits request old calls ends = IsPublishing request old.draft calls ⊎ (calls ≡ [])
Uses Nowhere request old calls ends = calls ≡ []
Uses Asks request old calls ends = IsRequest request calls ends ⊎ (calls ≡ [])

-- an exchange of a connection used these entries
pub record HasUsed (w : Connection) (request : Request) (old new : Stand) (ends : ℕ → Op × Reply → Type 0) : Type 0 where
  pub calls : List (Op × Reply)
  pub uses : Uses (way w request) request old calls ends
  pub did : HasDone w.needs w.opening w.pass old.at.seen new.at.seen calls

-- these exchanges used these entries, one after the other
abbrev pub AreUsed : Connection → (number : ℕ) → (old : Stand) → List Exchange → List (Op × Reply) → (new : Stand) → Type 0
AreUsed w number old [] calls new = (new ≡ old) × (calls ≡ [])
AreUsed w number old (e ∷ exchanges) calls new =
    (mid : Stand) × IsSaid w (closes number e.request) old e mid × (used : HasUsed w e.request old mid IsEnd) × (rest : List (Op × Reply)) × (calls ≡ used.calls ++ rest) × AreUsed w (number + 1) mid exchanges rest new

-- the pass's own entries grew by exactly those that these exchanges used, in order
pub record AreUsedUp (w : Connection) (number : ℕ) (old : Stand) (exchanges : List Exchange) (new : Stand) : Type 0 where
  pub calls : List (Op × Reply)
  pub used : AreUsed w number old exchanges calls new
  pub did : HasDone w.needs w.opening w.pass old.at.seen new.at.seen calls

-- each exchange uses its own entries, once and in order, and so do those of a whole connection;
-- where memory ran out a request uses a part of them
pub record EachOnce : Type 0 where
  pub said : (w : Connection) (close : Bool) (old new : Stand) (e : Exchange) → Legal w.needs w.opening old.at.seen → IsSaid w close old e new → HasUsed w e.request old new IsEnd
  pub left : (w : Connection) (close : Bool) (old new : Stand) (request : Request) (text : List ℕ) → Legal w.needs w.opening old.at.seen → IsLeft w close old request text new → HasUsed w request old new IsAbandoning
  pub walked : (w : Connection) (number : ℕ) (old new : Stand) (exchanges : List Exchange) → Legal w.needs w.opening old.at.seen → Walked (IsSaid w) number old exchanges new → AreUsedUp w number old exchanges new
