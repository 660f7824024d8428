-- A compiled page may be moved into a thread, and seen by many.
use denote.Param.Send.{IsSend, IsSync, EachSend, EachSync, sendable, struct_send, struct_sync, recorded_send, recorded_sync, view_send, view_sync, enum_send, enum_sync}
use denote.Enum.Declared as E
use denote.Struct.Declared as S
use Rattle.std.proofs.Crossing.{crosses}
use Rattle.pg_text.proofs.listed.Listed.TheSendSync as listed
use Rattle.pg_text.proofs.place.PageFault.TheSendSync as fault
use Rattle.pg_text.proofs.path.Path.TheSendSync as path
use Rattle.pg_text.proofs.place.Place.TheSendSync as place
use Rattle.pg_text.proofs.text.Text.TheSendSync as text
use Rattle.pg_value.proofs.function.Function.TheSendSync as function
use Rattle.pg_value.proofs.operators.BinOp.TheSendSync as binary
use Rattle.pg_value.proofs.operators.UnOp.TheSendSync as unary
use Rattle.pg_value.proofs.block.Block.TheLaws.TheKnot as knot
use Rattle.pg_value.proofs.scope.Scope.TheSendSync as scope
use Rattle.pg_value.proofs.settings.PageSettings.TheSendSync as settings
use Rattle.pg_value.specs.contracts.value.Value as Value
use Rattle.source_tree.proofs.need.Need.TheSendSync as need
use Rattle.tag_decl.proofs.declaration.TagDecl.TheSendSync as declared
use Rattle.page_code.proofs.call.CallOut.TheSendSync as out
use Rattle.page_code.proofs.call.Leave.TheSendSync as leave
use Rattle.page_code.proofs.name.Name.TheSendSync as name
use Rattle.page_code.proofs.operands.Coercion.TheSendSync as coercion
use Rattle.page_code.proofs.operands.HeaderObject.TheSendSync as header
use Rattle.page_code.proofs.operands.Implicit.TheSendSync as implicit
use Rattle.page_code.proofs.operands.LoopKind.TheSendSync as kind
use Rattle.page_code.proofs.operands.PropertyMode.TheSendSync as mode
use Rattle.page_code.proofs.operands.ScopedName.TheSendSync as scoped
use Rattle.page_code.proofs.shape.Shape.TheSendSync as shape
use Rattle.page_code.proofs.shared.Shared.TheSendSync as shared
use Rattle.page_code.proofs.step.Step.TheSendSync as step
use Rattle.page_code.specs.contracts.bean.Bean as Bean
use Rattle.page_code.specs.contracts.bean.Bean.TheInside as BeanInside
use Rattle.page_code.specs.contracts.instr.Instr as Instr
use Rattle.page_code.specs.contracts.op.Op as Op
use Rattle.page_code.specs.contracts.packed.PackedCode as PackedCode
use Rattle.page_code.specs.contracts.packed.PackedCode.TheInside as PackedInside
use Rattle.code_check.specs.contracts.checked.CheckedCode as CheckedCode
use Rattle.code_check.specs.contracts.checked.CheckedCode.TheInside as CheckedInside
use Rattle.run_world.specs.contracts.program.Program as Program
use Rattle.run_world.specs.contracts.program.TagProgram as TagProgram
use Rattle.compiled_pages.specs.contracts.made.Made as Made
use Rattle.compiled_pages.specs.contracts.made.MadeBody as MadeBody

-- into a thread

value_send : IsSend (Value.the_field).row
value_send = search (crosses, knot.crosses, sendable) depth 60 fits 20000

bean_send : IsSend (Bean.the_field).row
bean_send = view_send _ _ _ _ _ (recorded_send (BeanInside.the_field).row _ _ (BeanInside.the_type).to_one (struct_send (S.shape BeanInside.the_type) (value_send, tt)))

value_sync : IsSync (Value.the_field).row
value_sync = search (crosses, knot.crosses, sendable) depth 60 fits 20000

bean_sync : IsSync (Bean.the_field).row
bean_sync = view_sync _ _ _ _ _ (recorded_sync (BeanInside.the_field).row _ _ (BeanInside.the_type).to_one (struct_sync (S.shape BeanInside.the_type) (value_sync, tt)))

each_op_send : EachSend (E.variants Op.the_type)
each_op_send = ((search (text.the_send, crosses, sendable), tt), (tt, (tt, ((search sendable, tt), ((value_send, tt), ((name.the_send, tt), ((implicit.the_field_send, tt), (tt, ((header.the_field_send, tt), ((scope.the_field_send, tt), ((unary.the_field_send, tt), ((binary.the_field_send, tt), ((coercion.the_field_send, tt), ((search sendable, tt), ((search sendable, tt), ((search sendable, tt), ((function.the_field_send, tt), ((search sendable, tt), (tt, ((scoped.the_field_send, tt), ((scoped.the_field_send, tt), ((name.the_send, tt), ((name.the_send, (search (shared.the_send, mode.the_field_send, mode.the_field_sync, crosses, sendable), tt)), ((name.the_send, tt), tt))))))))))))))))))))))))

op_send : IsSend (Op.the_field).row
op_send = enum_send (E.shape Op.the_type) each_op_send

each_instr_send : EachSend (E.variants Instr.the_type)
each_instr_send = ((op_send, tt), ((search sendable, tt), (tt, (tt, ((search sendable, tt), ((search sendable, (search sendable, tt)), ((search sendable, tt), ((scoped.the_field_send, (search (shared.the_send, bean_send, bean_sync, crosses, sendable), (search sendable, tt))), ((search (shared.the_send, kind.the_field_send, kind.the_field_sync, crosses, sendable), tt), ((search sendable, tt), ((search sendable, tt), (tt, ((out.the_field_send, tt), ((leave.the_field_send, tt), tt))))))))))))))

instr_send : IsSend (Instr.the_field).row
instr_send = enum_send (E.shape Instr.the_type) each_instr_send

code_send : IsSend (PackedCode.the_field).row
code_send = view_send _ _ _ _ _ (recorded_send (PackedInside.the_field).row _ _ (PackedInside.the_type).to_one (struct_send (S.shape PackedInside.the_type) (search (step.the_field_send, crosses, sendable), (search (instr_send, crosses, sendable), (search (place.the_field_send, crosses, sendable), (search (shape.the_field_send, crosses, sendable), tt))))))

checked_send : IsSend (CheckedCode.the_field).row
checked_send = view_send _ _ _ _ _ (recorded_send (CheckedInside.the_field).row _ _ (CheckedInside.the_type).to_one (struct_send (S.shape CheckedInside.the_type) (code_send, tt)))

tag_send : IsSend TagProgram.the_row
tag_send = recorded_send (TagProgram.the_field).row _ _ (TagProgram.the_type).to_one (struct_send (S.shape TagProgram.the_type) (search (path.the_send, crosses, sendable), (declared.the_field_send, (settings.the_field_send, (checked_send, tt)))))

-- a program
pub program_send : IsSend Program.the_row
program_send = recorded_send (Program.the_field).row _ _ (Program.the_type).to_one (struct_send (S.shape Program.the_type) (search (path.the_send, crosses, sendable), (settings.the_field_send, (checked_send, (search (listed.the_send, tag_send, crosses, sendable), tt)))))

-- by many threads

each_op_sync : EachSync (E.variants Op.the_type)
each_op_sync = ((search (text.the_sync, crosses, sendable), tt), (tt, (tt, ((search sendable, tt), ((value_sync, tt), ((name.the_sync, tt), ((implicit.the_field_sync, tt), (tt, ((header.the_field_sync, tt), ((scope.the_field_sync, tt), ((unary.the_field_sync, tt), ((binary.the_field_sync, tt), ((coercion.the_field_sync, tt), ((search sendable, tt), ((search sendable, tt), ((search sendable, tt), ((function.the_field_sync, tt), ((search sendable, tt), (tt, ((scoped.the_field_sync, tt), ((scoped.the_field_sync, tt), ((name.the_sync, tt), ((name.the_sync, (search (shared.the_sync, mode.the_field_send, mode.the_field_sync, crosses, sendable), tt)), ((name.the_sync, tt), tt))))))))))))))))))))))))

op_sync : IsSync (Op.the_field).row
op_sync = enum_sync (E.shape Op.the_type) each_op_sync

each_instr_sync : EachSync (E.variants Instr.the_type)
each_instr_sync = ((op_sync, tt), ((search sendable, tt), (tt, (tt, ((search sendable, tt), ((search sendable, (search sendable, tt)), ((search sendable, tt), ((scoped.the_field_sync, (search (shared.the_sync, bean_send, bean_sync, crosses, sendable), (search sendable, tt))), ((search (shared.the_sync, kind.the_field_send, kind.the_field_sync, crosses, sendable), tt), ((search sendable, tt), ((search sendable, tt), (tt, ((out.the_field_sync, tt), ((leave.the_field_sync, tt), tt))))))))))))))

instr_sync : IsSync (Instr.the_field).row
instr_sync = enum_sync (E.shape Instr.the_type) each_instr_sync

code_sync : IsSync (PackedCode.the_field).row
code_sync = view_sync _ _ _ _ _ (recorded_sync (PackedInside.the_field).row _ _ (PackedInside.the_type).to_one (struct_sync (S.shape PackedInside.the_type) (search (step.the_field_sync, crosses, sendable), (search (instr_sync, crosses, sendable), (search (place.the_field_sync, crosses, sendable), (search (shape.the_field_sync, crosses, sendable), tt))))))

checked_sync : IsSync (CheckedCode.the_field).row
checked_sync = view_sync _ _ _ _ _ (recorded_sync (CheckedInside.the_field).row _ _ (CheckedInside.the_type).to_one (struct_sync (S.shape CheckedInside.the_type) (code_sync, tt)))

tag_sync : IsSync TagProgram.the_row
tag_sync = recorded_sync (TagProgram.the_field).row _ _ (TagProgram.the_type).to_one (struct_sync (S.shape TagProgram.the_type) (search (path.the_sync, crosses, sendable), (declared.the_field_sync, (settings.the_field_sync, (checked_sync, tt)))))

-- a program
pub program_sync : IsSync Program.the_row
program_sync = recorded_sync (Program.the_field).row _ _ (Program.the_type).to_one (struct_sync (S.shape Program.the_type) (search (path.the_sync, crosses, sendable), (settings.the_field_sync, (checked_sync, (search (listed.the_sync, tag_sync, crosses, sendable), tt)))))

body_send : IsSend (MadeBody.the_field).row
body_send = enum_send (E.shape MadeBody.the_type) ((search (program_send, program_sync, crosses, sendable), tt), ((fault.the_field_send, tt), tt))

-- what is kept for a path
pub made_send : IsSend Made.the_row
made_send = recorded_send (Made.the_field).row _ _ (Made.the_type).to_one (struct_send (S.shape Made.the_type) (search (listed.the_send, need.the_send, crosses, sendable), (body_send, tt)))

body_sync : IsSync (MadeBody.the_field).row
body_sync = enum_sync (E.shape MadeBody.the_type) ((search (program_send, program_sync, crosses, sendable), tt), ((fault.the_field_sync, tt), tt))

-- what is kept for a path
pub made_sync : IsSync Made.the_row
made_sync = recorded_sync (Made.the_field).row _ _ (Made.the_type).to_one (struct_sync (S.shape Made.the_type) (search (listed.the_sync, need.the_sync, crosses, sendable), (body_sync, tt)))
