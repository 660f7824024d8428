-- The port of a worker may be moved into a thread, and what answers its connections be seen by many.
use denote.RattleType.{RattleType}
use denote.Ref.{NamedLft}
use denote.Param.Send.{IsSend, IsSync, sendable, struct_send, struct_sync, recorded_send, recorded_sync}
use denote.Struct.Declared as S
use Rattle.std.proofs.Crossing.{crosses}
use Rattle.turn_table.proofs.pass.Pass.TheSendSync as pass
use Rattle.turn_table.specs.contracts.pass.Pass as Pass
use Rattle.site_words.specs.contracts.words.Entry as Entry
use Rattle.site_words.specs.contracts.words.Opening as Opening
use Rattle.site_words.specs.contracts.words.Refusal as Refusal
use Rattle.site_words.specs.declared.compiled.Compiled.{Ghosts}
use Rattle.site_core.specs.contracts.Act as Act
use Rattle.site_core.specs.contracts.Given as Given
use Rattle.site_core.specs.contracts.acting.Acting as Acting
use Rattle.site_shared.proofs.SharedCross.{seated_send, shared_sync}
use Rattle.site_shared.specs.contracts.seated.Seated as Seated
use Rattle.site_shared.specs.contracts.seated.SeatedObject.TheImpl as object
use Rattle.site_shared.specs.contracts.shared.SharedSite as SharedSite
use Rattle.site_shared.specs.contracts.turn.Turn as Turn
use Rattle.site_rounds.specs.contracts.handler.PortHandler as PortHandler

-- a pass of a shared site
pass_send : (P : RattleType) (g : Ghosts P.Denot) → IsSend P → IsSync P → IsSend (Pass.the_row (Seated.the_row P g) (Act.the_row P) (Given.the_row P) Refusal.the_row Entry.the_row Opening.the_row (object.ghosts P g object.no_dict object.no_dict))
pass_send P g p y = pass.the_send (Seated.the_row P g) (Act.the_row P) (Given.the_row P) Refusal.the_row Entry.the_row Opening.the_row (object.ghosts P g object.no_dict object.no_dict) (seated_send P g p y)

-- a pass that acts in its turns
turn_send : (a : NamedLft) (P G R : RattleType) (g : Ghosts P.Denot) → IsSend P → IsSync P → IsSync G → IsSync R → IsSend (Turn.the_row a P G R g)
turn_send a P G R g p y s r =
    let site : IsSync (SharedSite.the_row P G g) = shared_sync P G g p y s in
    recorded_send (Turn.the_field a P G R g).row _ _ (Turn.the_type a P G R g).to_one (struct_send (S.shape (Turn.the_type a P G R g)) (search (site, crosses, sendable), (search (r, crosses, sendable), (pass_send P g p y, tt))))

-- its port
pub port_send : (a : NamedLft) (P G R : RattleType) (g : Ghosts P.Denot) → IsSend P → IsSync P → IsSync G → IsSync R → IsSend (Acting.the_row P (Turn.the_row a P G R g))
port_send a P G R g p y s r =
    let turn : IsSend (Turn.the_row a P G R g) = turn_send a P G R g p y s r in
    recorded_send (Acting.the_field P (Turn.the_row a P G R g)).row _ _ (Acting.the_type P (Turn.the_row a P G R g)).to_one (struct_send (S.shape (Acting.the_type P (Turn.the_row a P G R g))) (search (turn, sendable), (search (crosses, sendable), tt)))

-- what answers connections over such ports
pub handler_sync : (a : NamedLft) (P G R T W : RattleType) (g : Ghosts P.Denot) → IsSend P → IsSync P → IsSync G → IsSync R → IsSync T → IsSync W → IsSync (PortHandler.the_row a P G R T W g)
handler_sync a P G R T W g p y s r t w =
    let site : IsSync (SharedSite.the_row P G g) = shared_sync P G g p y s in
    recorded_sync (PortHandler.the_field a P G R T W g).row _ _ (PortHandler.the_type a P G R T W g).to_one (struct_sync (S.shape (PortHandler.the_type a P G R T W g)) (search (site, crosses, sendable), (search (t, crosses, sendable), (search (w, crosses, sendable), (search (crosses, sendable), tt)))))
