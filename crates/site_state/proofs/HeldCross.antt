-- What a site holds beside its history may cross threads.
use denote.RattleType.{RattleType}
use denote.Param.Send.{IsSend, IsSync, sendable, struct_send}
use denote.Struct.Declared as S
use Rattle.std.proofs.Crossing.{crosses}
use Rattle.std.proofs.option.Option.TheSendSync as option
use Rattle.std.proofs.alloc.Global.TheSendSync as global
use Rattle.pg_value.proofs.block.Block.TheLaws.TheKnot as knot
use Rattle.pg_value.specs.contracts.record.Record as Record
use Rattle.source_tree.proofs.tree.Tree.TheSendSync as tree
use Rattle.program_store.proofs.StoreCross.{store_send}
use Rattle.site_words.specs.declared.compiled.Compiled.{Ghosts}
use Rattle.site_state.specs.contracts.held.Held as Held
use Rattle.site_state.proofs.request.Request.TheSendSync as request
use Rattle.site_state.proofs.session_list.SessionList.TheSendSync as sessions

record_send : IsSend (Record.the_field).row
record_send = search (crosses, knot.crosses, sendable) depth 60 fits 20000

-- what is held may be moved into a thread
pub held_send : (P : RattleType) (g : Ghosts P.Denot) → IsSend P → IsSync P → IsSend (Held.the_field P g).row
held_send P g p y = struct_send (S.shape (Held.the_type P g)) (
  global.the_field_send,
  (
    search (tree.the_send, tree.the_sync, crosses, sendable) depth 30,
    (
      search sendable,
      (
        record_send,
        (
          search (sessions.the_send, crosses, sendable) depth 30,
          (
            search (crosses, sendable) depth 30,
            (
              search (request.the_send, option.the_send, crosses, sendable) depth 30,
              (
                store_send P g p y,
                (search sendable, (search sendable, (search sendable, (search sendable, tt)))),
              ),
            ),
          ),
        ),
      ),
    ),
  ),
)
