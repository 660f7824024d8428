-- A store may cross threads.
use denote.RattleType.{RattleType}
use denote.Param.Send.{IsSend, IsSync, sendable, struct_send, recorded_send}
use denote.Struct.Declared as S
use Rattle.std.proofs.Crossing.{crosses}
use Rattle.pg_text.proofs.path.Path.TheSendSync as path
use Rattle.dep_graph.proofs.deps.Deps.TheSendSync as deps
use Rattle.site_words.specs.declared.compiled.Compiled.{Ghosts}
use Rattle.program_store.specs.contracts.shelf.Shelf as Shelf
use Rattle.program_store.specs.contracts.store.Store as Store

shelf_send : (P : RattleType) → IsSend P → IsSync P → IsSend (Shelf.the_row P)
shelf_send P p y = recorded_send (Shelf.the_field P).row _ _ (Shelf.the_type P).to_one (struct_send (S.shape (Shelf.the_type P)) (search (path.the_send, crosses, sendable), (search (p, y, crosses, sendable), tt)))

-- a store may be moved into a thread
pub store_send : (P : RattleType) (g : Ghosts P.Denot) → IsSend P → IsSync P → IsSend (Store.the_field P g).row
store_send P g p y = let shelf : IsSend (Shelf.the_row P) = shelf_send P p y in struct_send (S.shape (Store.the_type P g)) (search (shelf, crosses, sendable), (search (deps.the_send, sendable), tt))
