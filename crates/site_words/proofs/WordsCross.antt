-- Operations, replies and openings may cross threads.
use denote.Param.Send.{IsSend, EachSend, sendable, struct_send, recorded_send, enum_send}
use denote.Enum.Declared as E
use denote.Struct.Declared as S
use Rattle.std.proofs.Crossing.{crosses}
use Rattle.std.proofs.option.Option.TheSendSync as option
use Rattle.pg_text.proofs.listed.Listed.TheSendSync as listed
use Rattle.pg_text.proofs.names.Names.TheSendSync as names
use Rattle.pg_text.proofs.path.Path.TheSendSync as path
use Rattle.pg_text.proofs.text.Text.TheSendSync as text
use Rattle.pg_text.specs.contracts.names.Names as Names
use Rattle.pg_text.specs.contracts.path.Path as Path
use Rattle.pg_text.specs.contracts.text.Text as Text
use Rattle.pg_value.proofs.block.Block.TheLaws.TheKnot as knot
use Rattle.pg_value.specs.contracts.attrs.Attrs as Attrs
use Rattle.pg_value.specs.contracts.value.Value as Value
use Rattle.source_tree.proofs.edits.Edits.TheSendSync as edits
use Rattle.source_tree.proofs.tree.Tree.TheSendSync as tree
use Rattle.source_tree.specs.contracts.edits.Edits as Edits
use Rattle.site_words.specs.contracts.words.AppReply as AppReply
use Rattle.site_words.specs.contracts.words.AppStep as AppStep
use Rattle.site_words.specs.contracts.words.KeptSession as KeptSession
use Rattle.site_words.specs.contracts.words.Op as Op
use Rattle.site_words.specs.contracts.words.Opening as Opening
use Rattle.site_words.specs.contracts.words.Reply as Reply

value_send : IsSend (Value.the_field).row
value_send = search (crosses, knot.crosses, sendable) depth 60 fits 20000

text_send : IsSend (Text.the_field).row
text_send = search (text.the_send, crosses, sendable)

-- attributes may be moved into a thread
pub attrs_send : IsSend (Attrs.the_field).row
attrs_send = search (value_send, text_send, crosses, sendable) depth 60 fits 20000

path_send : IsSend (Path.the_field).row
path_send = search (path.the_send, crosses, sendable)

names_send : IsSend (Names.the_field).row
names_send = search (names.the_send, crosses, sendable)

edits_send : IsSend (Edits.the_field).row
edits_send = search (edits.the_send, crosses, sendable)

step_send : IsSend (AppStep.the_field).row
step_send = enum_send (E.shape AppStep.the_type) ((text_send, tt), ((text_send, (value_send, tt)), ((text_send, tt), ((text_send, (value_send, tt)), (tt, tt)))))

answer_send : IsSend (AppReply.the_field).row
answer_send = enum_send (E.shape AppReply.the_type) ((value_send, tt), (tt, (tt, ((search sendable, tt), tt))))

each_op : EachSend (E.variants Op.the_type)
each_op = (
  (search (option.the_field_send, sendable), (edits_send, tt)),
  (
    (text_send, (search sendable, tt)),
    (
      (search sendable, (step_send, tt)),
      (
        (search sendable, tt),
        (
          (search sendable, (path_send, tt)),
          (
            (search sendable, (path_send, tt)),
            ((search sendable, (attrs_send, tt)), ((search sendable, tt), ((text_send, tt), (tt, tt)))),
          ),
        ),
      ),
    ),
  ),
)

-- an operation may be moved into a thread
pub op_send : IsSend (Op.the_field).row
op_send = enum_send (E.shape Op.the_type) each_op

each_reply : EachSend (E.variants Reply.the_type)
each_reply = (
  (search sendable, (names_send, tt)),
  (
    (search sendable, (search sendable, (search (option.the_field_send, sendable), tt))),
    (
      (answer_send, tt),
      (
        (search sendable, tt),
        (
          (search sendable, tt),
          ((search sendable, tt), (tt, (tt, ((search sendable, (search (option.the_field_send, sendable), tt)), (tt, tt))))),
        ),
      ),
    ),
  ),
)

-- a reply may be moved into a thread
pub reply_send : IsSend (Reply.the_field).row
reply_send = enum_send (E.shape Reply.the_type) each_reply

kept_send : IsSend KeptSession.the_row
kept_send = recorded_send (KeptSession.the_field).row _ _ (KeptSession.the_type).to_one (struct_send (S.shape KeptSession.the_type) (search sendable, (search sendable, (attrs_send, tt))))

-- an opening may be moved into a thread
pub opening_send : IsSend (Opening.the_field).row
opening_send = struct_send (S.shape Opening.the_type) (
  search sendable,
  (
    search sendable,
    (
      search sendable,
      (
        search sendable,
        (
          search sendable,
          (search sendable, (search sendable, (search sendable, (attrs_send, (search (tree.the_send, crosses, sendable), (search (listed.the_send, kept_send, crosses, sendable), tt)))))),
        ),
      ),
    ),
  ),
)
