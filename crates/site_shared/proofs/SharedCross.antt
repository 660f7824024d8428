-- A shared site may be seen by many threads, and its passes moved into them.
use denote.RattleType.{RattleType}
use denote.Param.Send.{IsSend, IsSync, sendable, struct_send, struct_sync, recorded_send, recorded_sync, view_sync}
use denote.Struct.Declared as S
use Rattle.std.proofs.Crossing.{crosses}
use Rattle.turn_table.proofs.turns.Turns.TheSendSync as turns
use Rattle.site_words.specs.declared.compiled.Compiled.{Ghosts}
use Rattle.site_core.proofs.SiteCross.{site_send}
use Rattle.site_core.specs.contracts.site.Site as Site
use Rattle.site_shared.proofs.ends.Ends.TheSendSync as ends
use Rattle.site_shared.specs.contracts.seated.Seated as Seated
use Rattle.site_shared.specs.contracts.shared.SharedSite as SharedSite
use Rattle.site_shared.specs.contracts.shared.SharedSite.TheInside as SharedInside

-- a site under turns may be moved into a thread
pub seated_send : (P : RattleType) (g : Ghosts P.Denot) → IsSend P → IsSync P → IsSend (Seated.the_row P g)
seated_send P g p y =
    let site : IsSend (Site.the_row P g) = site_send P g p y in
    recorded_send (Seated.the_field P g).row _ _ (Seated.the_type P g).to_one (struct_send (S.shape (Seated.the_type P g)) (search (site, crosses, sendable), tt))

-- a shared site may be seen by many threads
pub shared_sync : (P G : RattleType) (g : Ghosts P.Denot) → IsSend P → IsSync P → IsSync G → IsSync (SharedSite.the_row P G g)
shared_sync P G g p y s =
    let seated : IsSend (Seated.the_row P g) = seated_send P g p y in
    view_sync _ _ _ _ _ (recorded_sync (SharedInside.the_field P G g).row _ _ (SharedInside.the_type P G g).to_one (struct_sync (S.shape (SharedInside.the_type P G g)) (search (turns.the_sync, seated), (s, (ends.the_field_sync, tt)))))
