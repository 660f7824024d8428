-- Directives and the starts and ends of elements, as they are written.
use Rattle.std.specs.Prelude.{◌≡◌, ◌⊎◌, ◌++◌, ◌∷◌, ◌<◌, ℕ, Bool, true, false, List, [], length, codes}
use Rattle.std.specs.List.{flat_map}
use Rattle.pg_text.specs.declared.translation_fault.TranslationFault.{TranslationFault}
use Rattle.page_pieces.specs.declared.setting.Setting.{Setting}
use Rattle.page_pieces.specs.declared.attribute.Attribute.{Attribute}
use Rattle.page_pieces.specs.declared.attribute.Part.{Part}
use Rattle.page_pieces.specs.declared.spot.Spot.{Spot}
use Rattle.page_pieces.specs.declared.piece.Break.{Break}
use Rattle.page_pieces.specs.declared.piece.Break.TheVariants.{Fault}
use Rattle.page_pieces.specs.Spots.{spot_after, place_in}
use Rattle.page_pieces.specs.Names.{IsWhite, IsName, IsAttributeName}
use Rattle.pg_text.specs.Literals.{is_quote, any_byte, Between}
use Rattle.page_pieces.specs.Values.{IsValue, IsBadValue}

-- an attribute: white space, a name, `=` with white space around it, and a value between quotes
pub record WrittenAttribute : Type 0 where
  pub gap : List ℕ
  pub name : List ℕ
  pub before_sign : List ℕ
  pub after_sign : List ℕ
  pub quote : ℕ
  pub value : List ℕ

-- what stands before the first byte of an attribute's value
abbrev pub before_value : WrittenAttribute → List ℕ
before_value a = a.gap ++ (a.name ++ (a.before_sign ++ 61 ∷ (a.after_sign ++ a.quote ∷ [])))

-- the bytes of an attribute
abbrev pub attribute_bytes : WrittenAttribute → List ℕ
attribute_bytes a = before_value a ++ (a.value ++ a.quote ∷ [])

-- an attribute is well formed
pub record IsWellFormed (a : WrittenAttribute) : Type 0 where
  pub gap : IsWhite a.gap
  pub parted : 0 < length a.gap
  pub name : IsAttributeName a.name
  pub before_sign : IsWhite a.before_sign
  pub after_sign : IsWhite a.after_sign
  pub quote : is_quote a.quote ≡ true
  pub value : Between any_byte a.quote a.value

abbrev pub AreWellFormed : List WrittenAttribute → Type 0
AreWellFormed [] = Unit {0}
AreWellFormed (a ∷ attributes) = IsWellFormed a × AreWellFormed attributes

-- the bytes of attributes, one after the other
abbrev pub attributes_bytes : List WrittenAttribute → List ℕ
attributes_bytes attributes = flat_map attribute_bytes attributes

-- an attribute that begins at this place, as it is read: its place is its value's first byte
pub record IsAttribute (setting : Setting) (file : List ℕ) (spot : Spot) (a : WrittenAttribute) (read : Attribute) : Type 0 where
  pub name : read.name ≡ a.name
  pub parts : IsValue setting a.value read.parts
  pub place : read.place ≡ place_in file (spot_after spot (before_value a))

-- the same of attributes, the first of which begins at this place
abbrev pub AreAttributes : Setting → List ℕ → Spot → List WrittenAttribute → List Attribute → Type 0
AreAttributes setting file spot [] [] = Unit {0}
AreAttributes setting file spot (a ∷ attributes) (first ∷ read) = IsAttribute setting file spot a first × AreAttributes setting file (spot_after spot (attribute_bytes a)) attributes read
AreAttributes setting file spot _ _ = ⊥

-- the first value with a fault has this one, at its first byte
abbrev pub HasFirstFault : Setting → List ℕ → Spot → List WrittenAttribute → Break → Type 0
HasFirstFault setting file spot [] fault = ⊥
HasFirstFault setting file spot (a ∷ attributes) fault =
    ((kind : TranslationFault) × IsBadValue setting a.value kind × (fault ≡ Fault kind (spot_after spot (before_value a))))
    ⊎ ((parts : List Part) × IsValue setting a.value parts × HasFirstFault setting file (spot_after spot (attribute_bytes a)) attributes fault)

-- what a directive and the start of an element have in common: up to the name, attributes, white space, and what closes it
pub record WrittenHead : Type 0 where
  pub opening : List ℕ
  pub attributes : List WrittenAttribute
  pub gap : List ℕ
  pub closing : List ℕ

abbrev pub head_bytes : WrittenHead → List ℕ
head_bytes head = head.opening ++ (attributes_bytes head.attributes ++ (head.gap ++ head.closing))

-- a head with such an opening and such a closing is well formed
pub record IsHead (IsOpening IsClosing : List ℕ → Type 0) (head : WrittenHead) : Type 0 where
  pub opening : IsOpening head.opening
  pub attributes : AreWellFormed head.attributes
  pub gap : IsWhite head.gap
  pub closing : IsClosing head.closing

-- `<%@`, white space and the name of a directive
pub record OpensDirective (name opening : List ℕ) : Type 0 where
  pub gap : List ℕ
  pub white : IsWhite gap
  pub named : IsName name
  pub is : opening ≡ codes "<%@" ++ (gap ++ name)

abbrev pub ClosesDirective : List ℕ → Type 0
ClosesDirective closing = closing ≡ codes "%>"

-- `<`, a prefix, a colon and the name of an element
pub record OpensElement (prefix name opening : List ℕ) : Type 0 where
  pub prefixed : IsName prefix
  pub named : IsName name
  pub is : opening ≡ codes "<" ++ (prefix ++ (codes ":" ++ name))

-- `/>` for an element without a body, else `>`
abbrev pub element_closing : Bool → List ℕ
element_closing true = codes "/>"
element_closing false = codes ">"

abbrev pub ClosesElement : Bool → List ℕ → Type 0
ClosesElement empty closing = closing ≡ element_closing empty

-- the opening of some directive, and that of some element with its closing
abbrev pub IsDirectiveOpening : List ℕ → Type 0
IsDirectiveOpening opening = (name : List ℕ) × OpensDirective name opening

abbrev pub IsStartOpening : List ℕ → Type 0
IsStartOpening opening = (prefix : List ℕ) × (name : List ℕ) × OpensElement prefix name opening

abbrev pub IsElementClosing : List ℕ → Type 0
IsElementClosing closing = (empty : Bool) × ClosesElement empty closing

-- a directive, and the start of an element
abbrev pub IsDirective : WrittenHead → Type 0
IsDirective head = IsHead IsDirectiveOpening ClosesDirective head

abbrev pub IsStart : WrittenHead → Type 0
IsStart head = IsHead IsStartOpening IsElementClosing head

-- the end of an element: `</`, a prefix, a colon, a name, white space and `>`
pub record WrittenEnd : Type 0 where
  pub prefix : List ℕ
  pub name : List ℕ
  pub gap : List ℕ

abbrev pub end_bytes : WrittenEnd → List ℕ
end_bytes e = codes "</" ++ (e.prefix ++ (codes ":" ++ (e.name ++ (e.gap ++ codes ">"))))

pub record IsEnd (e : WrittenEnd) : Type 0 where
  pub prefixed : IsName e.prefix
  pub named : IsName e.name
  pub gap : IsWhite e.gap

-- the text begins with such a head; with more bytes behind it, it would
pub record BeginsHead (Is : WrittenHead → Type 0) (text : List ℕ) : Type 0 where
  pub head : WrittenHead
  pub is : Is head
  pub rest : List ℕ
  pub cut : text ≡ head_bytes head ++ rest

pub record CouldBeHead (Is : WrittenHead → Type 0) (text : List ℕ) : Type 0 where
  pub more : List ℕ
  pub begins : BeginsHead Is (text ++ more)

-- the text begins with the end of an element
pub record BeginsEnd (text : List ℕ) : Type 0 where
  pub e : WrittenEnd
  pub is : IsEnd e
  pub rest : List ℕ
  pub cut : text ≡ end_bytes e ++ rest

-- with more bytes behind it the text would be the end of that element
pub record CouldEnd (prefix name text : List ℕ) : Type 0 where
  pub gap : List ℕ
  pub white : IsWhite gap
  pub next : ℕ
  pub more : List ℕ
  pub is : text ++ next ∷ more ≡ end_bytes (record { prefix = prefix; name = name; gap = gap })
