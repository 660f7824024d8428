-- A worker's ports may be moved into a thread, and what answers their connections be seen by many.
use denote.RattleType.{RattleType}
use denote.Ref.{NamedLft}
use denote.Param.Send.{IsSend, IsSync, sendable, struct_sync, recorded_sync}
use denote.Struct.Declared as S
use Rattle.std.proofs.Crossing.{crosses}
use Rattle.context_names.proofs.names.ContextNames.TheSendSync as names
use Rattle.context_names.proofs.ports.PortList.TheSendSync as ports
use Rattle.context_names.specs.contracts.ports.PortList as PortList
use Rattle.pages_serve.specs.contracts.context_pages.ContextPages as ContextPages
use Rattle.site_core.specs.contracts.acting.Acting as Acting
use Rattle.site_rounds.proofs.Cross.{port_send}
use Rattle.site_shared.specs.contracts.turn.Turn as Turn
use Rattle.site_words.specs.declared.compiled.Compiled.{Ghosts}
use Rattle.talk_words.proofs.role.Role.TheSendSync as role

-- a list of ports
pub ports_send : (a : NamedLft) (P G R : RattleType) (g : Ghosts P.Denot) → IsSend P → IsSync P → IsSync G → IsSync R → IsSend (PortList.the_row (Acting.the_row P (Turn.the_row a P G R g)))
ports_send a P G R g p y s r = ports.the_send (Acting.the_row P (Turn.the_row a P G R g)) (port_send a P G R g p y s r)

-- what answers connections over such ports
pub pages_sync : (a : NamedLft) (R W : RattleType) → IsSync R → IsSync W → IsSync (ContextPages.the_row a R W)
pages_sync a R W r w =
    recorded_sync (ContextPages.the_field a R W).row _ _ (ContextPages.the_type a R W).to_one (struct_sync (S.shape (ContextPages.the_type a R W)) (search (crosses, sendable), (search (names.the_sync, crosses, sendable), (role.the_field_sync, (search (w, crosses, sendable), (search (crosses, sendable), tt))))))
