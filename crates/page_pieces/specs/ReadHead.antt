-- How a head is read, from left to right. No public contract speaks of it: that it is what the grammar says is proved.
use Rattle.std.specs.Prelude.{◌++◌, ◌∷◌, ◌+◌, ◌-◌, ◌==◌, if◌then◌else◌, ℕ, zero, suc, false, List, [], Option, Some, None, Result, Ok, Err, nat_lt, length, take, drop, codes}
use Rattle.pg_text.specs.declared.translation_fault.TranslationFault.TheVariants as faults
use Rattle.page_pieces.specs.declared.setting.Setting.{Setting}
use Rattle.page_pieces.specs.declared.attribute.Attribute.{Attribute}
use Rattle.page_pieces.specs.declared.spot.Spot.{Spot}
use Rattle.page_pieces.specs.declared.piece.Tag.{Tag}
use Rattle.page_pieces.specs.declared.piece.Piece.{Piece}
use Rattle.page_pieces.specs.declared.piece.Break.{Break}
use Rattle.page_pieces.specs.declared.head.HeadKind.{HeadKind}
use Rattle.page_pieces.specs.declared.head.HeadEnd.{HeadEnd}
use Rattle.page_pieces.specs.declared.head.Misread.{Misread}
use Rattle.page_pieces.specs.declared.piece.Piece.TheVariants as pieces
use Rattle.page_pieces.specs.declared.piece.Leaf.TheVariants as leaves
use Rattle.page_pieces.specs.declared.head.HeadKind.TheVariants as kinds
use Rattle.page_pieces.specs.declared.head.HeadEnd.TheVariants as ends
use Rattle.page_pieces.specs.declared.piece.Break.TheVariants.{Fault, BadEnd}
use Rattle.page_pieces.specs.declared.head.Misread.TheVariants.{CutOff, Malformed}
use Rattle.page_pieces.specs.Spots.{spot_after}
use Rattle.page_pieces.specs.Names.{white_len}
pub use Rattle.page_pieces.specs.Names.{white_front, behind_white}
use Rattle.page_pieces.specs.Marks.{TagName, name_at, tag_name}
use Rattle.page_pieces.specs.Tags.{WrittenAttribute}
use Rattle.pg_text.specs.Literals.{is_quote}
use Rattle.page_pieces.specs.ReadValue.{attributes_of, around_quote}
use Rattle.page_pieces.specs.Texts.{begins, after}

infixl 10 ◌>>=◌
-- what is read next, unless the reading has failed
abbrev pub ◌>>=◌ : {A B E : Type 0} → Result A E → (A → Result B E) → Result B E
(Ok x) >>= f = f x
(Err e) >>= f = Err e

-- why nothing is read at the front of a text: it ends, or another byte stands there
abbrev pub misread : List ℕ → Misread
misread [] = CutOff
misread (b ∷ bytes) = Malformed

abbrev pub or_misread : {A : Type 0} → List ℕ → Option A → Result A Misread
or_misread text None = Err (misread text)
or_misread text (Some found) = Ok found

abbrev pub or_cut_off : {A : Type 0} → Option A → Result A Misread
or_cut_off None = Err CutOff
or_cut_off (Some found) = Ok found

-- a name, and what follows it
abbrev pub name_read : List ℕ → Result (List ℕ × List ℕ) Misread
name_read text = or_misread text (name_at text)

abbrev pub with_local_name : List ℕ → List ℕ → Option (List ℕ) → Result (List ℕ × List ℕ) Misread
with_local_name first rest None = Ok (first, rest)
with_local_name first rest (Some text) = name_read text >>= (λ name. Ok (first ++ 58 ∷ name.0, name.1))

-- the name of an attribute, which may have a prefix, and what follows it
unfoldable pub attribute_name_at : List ℕ → Result (List ℕ × List ℕ) Misread
attribute_name_at text = name_read text >>= (λ first. with_local_name first.0 first.1 (after (codes ":") first.1))

-- what follows a mark that has to stand there
unfoldable pub behind_mark : List ℕ → List ℕ → Result (List ℕ) Misread
behind_mark mark text = if begins mark text then Ok (drop (length mark) text) else if begins text mark then Err CutOff else Err Malformed

-- a value between quotes, and what follows it
pub record Quoted : Type 0 where
  pub quote : ℕ
  pub value : List ℕ
  pub rest : List ℕ

abbrev pub quoted : ℕ → List ℕ × List ℕ → Quoted
quoted quote found = record { quote = quote; value = found.0; rest = found.1 }

unfoldable pub quoted_at : List ℕ → Result Quoted Misread
quoted_at [] = Err CutOff
quoted_at (b ∷ bytes) = if is_quote b then or_cut_off (around_quote b false bytes) >>= (λ found. Ok (quoted b found)) else Err Malformed

-- an attribute whose name begins a text, with the white space before it
unfoldable pub attribute_behind : List ℕ → List ℕ → Result (WrittenAttribute × List ℕ) Misread
attribute_behind gap text =
    attribute_name_at text >>= (λ name.
    behind_mark (codes "=") (behind_white name.1) >>= (λ text.
    quoted_at (behind_white text) >>= (λ found.
    Ok (record { gap = gap; name = name.0; before_sign = white_front name.1; after_sign = white_front text; quote = found.quote; value = found.value }, found.rest))))

-- an attribute, and what follows it
unfoldable pub attribute_at : List ℕ → Result (WrittenAttribute × List ℕ) Misread
attribute_at text = if white_len text == 0 then Err (misread text) else attribute_behind (white_front text) (behind_white text)

-- what closes a head of this kind, and what follows it
unfoldable pub end_read : HeadKind → List ℕ → Result (HeadEnd × List ℕ) Misread
end_read kinds.Directive text = behind_mark (codes "%>") text >>= (λ rest. Ok (ends.Directive, rest))
end_read kinds.Element text =
    if begins (codes ">") text then Ok (ends.Start, drop 1 text) else behind_mark (codes "/>") text >>= (λ rest. Ok (ends.Empty, rest))

-- the bytes that close a head
abbrev pub closing_bytes : HeadEnd → List ℕ
closing_bytes ends.Directive = codes "%>"
closing_bytes ends.Start = codes ">"
closing_bytes ends.Empty = codes "/>"

-- the attributes of a head, the white space behind them, and what closes it with what follows that, or why the head is not read
pub record Walk : Type 0 where
  pub attributes : List WrittenAttribute
  pub gap : List ℕ
  pub end : Result (HeadEnd × List ℕ) Misread

abbrev pub attribute_before : WrittenAttribute → Walk → Walk
attribute_before a walk = record { attributes = a ∷ walk.attributes; gap = walk.gap; end = walk.end }

abbrev pub ends_with : List ℕ → Result (HeadEnd × List ℕ) Misread → Walk
ends_with gap end = record { attributes = []; gap = gap; end = end }

-- an attribute, and then what is behind it, which is shorter
abbrev pub walk_on : List ℕ → Result (WrittenAttribute × List ℕ) Misread → (List ℕ → Walk) → Walk
walk_on text (Err fault) more = ends_with (white_front text) (Err fault)
walk_on text (Ok found) more = if nat_lt (length found.1) (length text) then attribute_before found.0 (more found.1) else ends_with (white_front text) (Err Malformed)

-- what closes the head, or else an attribute
abbrev pub walk_then : List ℕ → Result (HeadEnd × List ℕ) Misread → (List ℕ → Walk) → Walk
walk_then text (Ok found) more = ends_with (white_front text) (Ok found)
walk_then text (Err CutOff) more = ends_with (white_front text) (Err CutOff)
walk_then text (Err Malformed) more = walk_on text (attribute_at text) more

-- the walk through what follows the name of a head, at most so many attributes
unfoldable pub walk_within : ℕ → HeadKind → List ℕ → Walk
walk_within zero kind text = ends_with (white_front text) (Err Malformed)
walk_within (suc most) kind text = walk_then text (end_read kind (behind_white text)) (walk_within most kind)

-- the walk through what follows the name of a head
unfoldable pub walk_at : HeadKind → List ℕ → Walk
walk_at kind text = walk_within (1 + length text) kind text

-- the fault of a head that is not read
abbrev pub unread : Spot → Misread → Break
unread spot CutOff = Fault faults.Unclosed spot
unread spot Malformed = Fault faults.BadAttribute spot

-- the first faulty value, or else the attributes with what closes the head, or why it isn't read
abbrev pub attributes_read : Spot → Result (List Attribute) Break → Result (HeadEnd × List ℕ) Misread → Result (List Attribute × (HeadEnd × List ℕ)) Break
attributes_read spot (Err fault) end = Err fault
attributes_read spot (Ok attributes) (Err fault) = Err (unread spot fault)
attributes_read spot (Ok attributes) (Ok end) = Ok (attributes, end)

-- the attributes of the head at this spot, which follow its name at the other
unfoldable pub attributes_at : Setting → List ℕ → Spot → Spot → HeadKind → List ℕ → Result (List Attribute × (HeadEnd × List ℕ)) Break
attributes_at setting file spot from kind text = attributes_read spot (attributes_of setting file from (walk_at kind text).attributes) (walk_at kind text).end

abbrev pub map_err : {A E F : Type 0} → (E → F) → Result A E → Result A F
map_err f (Ok x) = Ok x
map_err f (Err e) = Err (f e)

-- a directive, and what follows it
unfoldable pub directive_at : Setting → List ℕ → Spot → List ℕ → Result (Piece × List ℕ) Break
directive_at setting file spot text =
    map_err (unread spot) (name_read (behind_white (drop 3 text))) >>= (λ name.
    attributes_at setting file spot (spot_after spot (take (length text - length name.1) text)) kinds.Directive name.1 >>= (λ found.
    Ok (pieces.Leaf (leaves.Directive name.0 found.0), found.1.1)))

abbrev pub start_piece : HeadEnd → Tag → Piece
start_piece ends.Empty tag = pieces.Empty tag
start_piece _ tag = pieces.Start tag

-- the start of an element, and what follows it
unfoldable pub start_at : Setting → List ℕ → Spot → List ℕ → Result (Piece × List ℕ) Break
start_at setting file spot text =
    map_err (unread spot) (or_misread (drop 1 text) (tag_name (drop 1 text))) >>= (λ tag.
    attributes_at setting file spot (spot_after spot (take (length text - length tag.rest) text)) kinds.Element tag.rest >>= (λ found.
    Ok (start_piece found.1.0 (record { prefix = tag.prefix; name = tag.name; attributes = found.0 }), found.1.1)))

abbrev pub closed_end : TagName → Option (List ℕ) → Option (Piece × List ℕ)
closed_end tag None = None
closed_end tag (Some rest) = Some (pieces.End tag.prefix tag.name, rest)

abbrev pub end_of : Option TagName → Option (Piece × List ℕ)
end_of None = None
end_of (Some tag) = closed_end tag (after (codes ">") (behind_white tag.rest))

-- what an end is whose `</` stands before a text, and what follows it
unfoldable pub end_behind : List ℕ → Option (Piece × List ℕ)
end_behind text = end_of (tag_name text)

abbrev pub or_bad_end : {A : Type 0} → Spot → Option A → Result A Break
or_bad_end spot None = Err (BadEnd spot)
or_bad_end spot (Some found) = Ok found

-- the end of an element, and what follows it
unfoldable pub end_at : Spot → List ℕ → Result (Piece × List ℕ) Break
end_at spot text = or_bad_end spot (end_behind (drop 2 text))
