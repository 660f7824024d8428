-- The messages of a generated site.
use Rattle.std.specs.Prelude.{◌≡◌, ℕ, ◌+◌, ◌*◌, ◌%◌, List, [], ◌∷◌, ◌++◌, codes, decimal, flat_map, length, map, sum_by}
use Rattle.std.specs.List.{range_with_len}
use Rattle.load_gen.specs.declared.message.Message.{Message}
use Rattle.load_gen.specs.declared.message.Message.TheVariants.{Put, Publish, Get}

-- the head of a message that puts a file, without its end: it names the host and the length of the text
unfoldable pub put_head : (path : List ℕ) → (length : ℕ) → List ℕ
put_head path length = codes "PUT /_editor/files" ++ path ++ codes " HTTP/1.1\r\nHost: x\r\nContent-Length: " ++ decimal length

-- the bytes of a message that puts a file: its head and the text
unfoldable pub put_text : (path text : List ℕ) → List ℕ
put_text path text = put_head path (length text) ++ codes "\r\n\r\n" ++ text

-- the bytes of a message that publishes
unfoldable pub publish_text : List ℕ
publish_text = codes "POST /_editor/publish HTTP/1.1\r\nHost: x\r\n\r\n"

-- the bytes of a message that asks for a page
unfoldable pub get_text : List ℕ → List ℕ
get_text target = codes "GET " ++ target ++ codes " HTTP/1.1\r\nHost: x\r\n\r\n"

-- the bytes of a message
abbrev pub message_text : Message → List ℕ
message_text (Put path text) = put_text path text
message_text Publish = publish_text
message_text (Get target) = get_text target

-- the bytes of messages, joined
abbrev pub sent : List Message → List ℕ
sent messages = flat_map message_text messages

-- the path of a page
unfoldable pub page_path : ℕ → List ℕ
page_path page = codes "/p" ++ decimal page ++ codes ".jsp"

-- the text of a page: it includes one of ten parts, and then shows the sum of a parameter and its number
unfoldable pub page_text : ℕ → List ℕ
page_text page = ((codes "<%@ page session=\"false\" %><%@ include file=\"/inc" ++ decimal (page % 10) ++ codes ".jspf\" %>${param.n + ") ++ decimal page) ++ codes "}"

-- the path of a part
unfoldable pub part_path : ℕ → List ℕ
part_path part = codes "/inc" ++ decimal part ++ codes ".jspf"

-- the text of a part that was changed so often
unfoldable pub part_text : ℕ → List ℕ
part_text change = codes "v" ++ decimal change ++ codes ";"

-- the target that asks for a page with this parameter
unfoldable pub page_target : ℕ → ℕ → List ℕ
page_target page parameter = (codes "/p" ++ decimal page ++ codes ".jsp?n=") ++ decimal parameter

-- a page is put
abbrev pub page_put : ℕ → Message
page_put page = Put (page_path page) (page_text page)

-- a part is put
abbrev pub part_put : ℕ → ℕ → Message
part_put part change = Put (part_path part) (part_text change)

-- a part is put for the first time
abbrev pub first_part : ℕ → Message
first_part part = part_put part 0

-- a page is asked for: the pages of a round are three apart, and those of the next begin seven further
abbrev pub asked : ℕ → ℕ → ℕ → Message
asked number change turn = Get (page_target ((7 * change + 3 * turn) % number) change)

-- a round: a part is changed and published, and four pages are asked for
abbrev pub round : ℕ → ℕ → List Message
round number change = part_put (change % 10) (change + 1) ∷ Publish ∷ map (asked number change) (range_with_len 0 4)

-- so many rounds
abbrev pub rounds : ℕ → ℕ → List Message
rounds number count = flat_map (round number) (range_with_len 0 count)

-- the messages for so many pages: the pages and then the ten parts are put and published, and there are as many rounds as pages
abbrev pub messages : ℕ → List Message
messages number = map page_put (range_with_len 0 number) ++ map first_part (range_with_len 0 10) ++ Publish ∷ rounds number number

-- their bytes, joined
unfoldable pub generated : ℕ → List ℕ
generated number = sent (messages number)

-- the message publishes
abbrev pub publishes : Message → ℕ
publishes Publish = 1
publishes (Put path text) = 0
publishes (Get target) = 0

-- the message asks for a page
abbrev pub asks : Message → ℕ
asks (Get target) = 1
asks Publish = 0
asks (Put path text) = 0

-- for so many pages there is one publishing more, and each publishing but the first is followed by four messages that ask for a page
pub record IsCounted : Type 0 where
  pub publishings : (number : ℕ) → sum_by publishes (messages number) ≡ number + 1
  pub requests : (number : ℕ) → sum_by asks (messages number) ≡ 4 * number
