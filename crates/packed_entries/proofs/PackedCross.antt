-- Packed entries may cross threads.
use denote.Param.Send.{IsSend, EachSend, sendable, struct_send, recorded_send, enum_send, view_send}
use denote.Enum.Declared as E
use denote.Struct.Declared as S
use Rattle.std.proofs.Crossing.{crosses}
use Rattle.pg_text.proofs.path.Path.TheSendSync as path
use Rattle.pg_text.proofs.text.Text.TheSendSync as text
use Rattle.pg_text.specs.contracts.path.Path as Path
use Rattle.pg_text.specs.contracts.text.Text as Text
use Rattle.site_words.proofs.WordsCross.{attrs_send, op_send, reply_send}
use Rattle.packed_entries.specs.contracts.answered.Answered as Answered
use Rattle.packed_entries.specs.contracts.kind.Kind as Kind
use Rattle.packed_entries.specs.contracts.packed.PackedEntry as Packed
use Rattle.packed_entries.specs.contracts.packed.PackedEntry.TheInside as Inside

text_send : IsSend (Text.the_field).row
text_send = search (text.the_send, crosses, sendable)

path_send : IsSend (Path.the_field).row
path_send = search (path.the_send, crosses, sendable)

answered_send : IsSend Answered.the_row
answered_send = recorded_send (Answered.the_field).row _ _ (Answered.the_type).to_one (struct_send (S.shape Answered.the_type) (op_send, (reply_send, tt)))

each_kind : EachSend (E.variants Kind.the_type)
each_kind = (
  (search sendable, (search sendable, (search sendable, tt))),
  (
    (text_send, (search sendable, (search sendable, (search sendable, tt)))),
    (
      (text_send, (search sendable, (search sendable, (search sendable, (search sendable, tt))))),
      (
        (search sendable, (search sendable, tt)),
        (
          (search sendable, (search sendable, (path_send, tt))),
          (
            (search sendable, (search sendable, (path_send, tt))),
            ((search sendable, (attrs_send, tt)), ((search sendable, tt), ((search (answered_send, crosses, sendable), tt), tt))),
          ),
        ),
      ),
    ),
  ),
)

kind_send : IsSend (Kind.the_field).row
kind_send = enum_send (E.shape Kind.the_type) each_kind

-- an entry of a history may be moved into a thread
pub packed_send : IsSend Packed.the_row
packed_send = view_send _ _ _ _ _ (recorded_send (Inside.the_field).row _ _ (Inside.the_type).to_one (struct_send (S.shape Inside.the_type) (search sendable, (kind_send, tt))))
