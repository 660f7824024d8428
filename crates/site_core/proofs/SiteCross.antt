-- A site may cross threads.
use denote.RattleType.{RattleType}
use denote.Param.Send.{IsSend, IsSync, sendable, struct_send, recorded_send, view_send}
use denote.Struct.Declared as S
use Rattle.std.proofs.Crossing.{crosses}
use Rattle.std.proofs.alloc.Global.TheSendSync as global
use Rattle.block_list.proofs.list.BlockList.TheSendSync as blocks
use Rattle.site_words.specs.declared.compiled.Compiled.{Ghosts}
use Rattle.packed_entries.proofs.PackedCross.{packed_send}
use Rattle.site_words.proofs.WordsCross.{opening_send}
use Rattle.site_state.proofs.HeldCross.{held_send}
use Rattle.site_core.specs.contracts.site.Site as Site
use Rattle.site_core.specs.contracts.site.Site.TheInside as Inside

inside_send : (P : RattleType) (g : Ghosts P.Denot) → IsSend P → IsSync P → IsSend (Inside.the_row P g)
inside_send P g p y = recorded_send (Inside.the_field P g).row _ _ (Inside.the_type P g).to_one (struct_send (S.shape (Inside.the_type P g)) (
  global.the_field_send,
  (opening_send, (search (blocks.the_send, packed_send, crosses, sendable), (held_send P g p y, tt))),
))

-- a site may be moved into a thread
pub site_send : (P : RattleType) (g : Ghosts P.Denot) → IsSend P → IsSync P → IsSend (Site.the_row P g)
site_send P g p y = view_send _ _ _ _ _ (inside_send P g p y)
