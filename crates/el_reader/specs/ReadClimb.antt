-- How the private functions go through the tokens once, with a stack of what has begun, as functions of the tokens.
use Rattle.std.specs.Prelude.{◌+◌, nat_le, max, if◌then◌else◌, ℕ, zero, suc, Bool, true, false, List, [], ◌∷◌, ◌++◌, Option, Some, None, option_map}
use Rattle.std.specs.Option.{option_or}
use Rattle.pg_value.specs.Datum as datum
use Rattle.pg_value.specs.declared.operators.BinOp.{BinOp}
use Rattle.pg_value.specs.declared.operators.UnOp.{UnOp}
use Rattle.el_reader.specs.declared.token.Symbol.{Symbol}
use Rattle.el_reader.specs.declared.token.Symbol.TheVariants as symbol
use Rattle.el_reader.specs.declared.token.Token.{Token}
use Rattle.el_reader.specs.declared.token.Token.TheVariants as token
use Rattle.el_reader.specs.Operators.{level_of, unary_of, constant_of}
use Rattle.el_reader.specs.Tree as tree
use Rattle.el_reader.specs.Tree.{Tree, trees_of, pairs_of}

-- a part that has been read: its tree, and how deep it is nested
abbrev pub Part : Type 0
Part = Tree × ℕ

-- a construct that has begun, and waits for a part
pub data Frame : Type 0 where
  operator : BinOp → Part → Frame
  prefix : UnOp → Frame
  group : Frame
  arguments : List ℕ → List ℕ → List Tree → ℕ → Frame
  items : List Tree → ℕ → Frame
  key : List (Tree × Tree) → ℕ → Frame
  value : List (Tree × Tree) → Part → ℕ → Frame
  property : Part → Frame
  condition : Part → Frame
  alternative : Part → Part → Frame

-- a part that is nested deeper than the limit stands for all such parts
abbrev pub limited : ℕ → Tree → ℕ → Part
limited limit t n = if nat_le n limit then (t, n) else (tree.literal datum.null, limit + 1)

-- the part that a construct becomes with the part that it waited for, where nothing closes it
abbrev pub combined : ℕ → Frame → Part → Part
combined limit (operator op left) p = limited limit (tree.binary op left.0 p.0) (max left.1 p.1)
combined limit (prefix op) p = limited limit (tree.unary op p.0) (p.1 + 1)
combined limit (alternative c one) p = limited limit (tree.choice c.0 one.0 p.0) (max c.1 (max one.1 p.1 + 1))
combined limit _ p = p

-- the construct ends before a token that takes parts of this level or above
abbrev pub ends_before : Frame → ℕ → Bool
ends_before (operator op left) grip = nat_le grip (level_of op)
ends_before (prefix op) grip = nat_le grip 8
ends_before (alternative c one) grip = nat_le grip 0
ends_before _ grip = false

-- the stack and the part once what ends before such a token has ended
abbrev pub settled : ℕ → ℕ → List Frame → Part → List Frame × Part
settled limit grip [] p = ([], p)
settled limit grip (f ∷ stack) p = if ends_before f grip then settled limit grip stack (combined limit f p) else (f ∷ stack, p)

-- from which level on a symbol takes the part before it. It is 9, that of values, also where no part may stand before the symbol
abbrev pub grip_of : Symbol → ℕ
grip_of (symbol.Binary op) = level_of op
grip_of symbol.Question = 1
grip_of symbol.Colon = 0
grip_of symbol.Comma = 0
grip_of symbol.CloseParenthesis = 0
grip_of symbol.CloseBracket = 0
grip_of symbol.CloseBrace = 0
grip_of _ = 9

abbrev pub grip : Token → ℕ
grip (token.Symbol s) = grip_of s
grip _ = 9

abbrev pub is_colon : Token → Bool
is_colon (token.Symbol symbol.Colon) = true
is_colon _ = false

abbrev pub is_open : Token → Bool
is_open (token.Symbol symbol.OpenParenthesis) = true
is_open _ = false

-- the first token is an opening parenthesis
abbrev pub opens : List Token → Bool
opens [] = false
opens (t ∷ ts) = is_open t

-- the name that stands first
abbrev pub first_name : List Token → Option (List ℕ)
first_name (token.Name n ∷ ts) = Some n
first_name _ = None

-- the name that stands first, before an opening parenthesis
abbrev pub called : List Token → Option (List ℕ)
called [] = None
called (t ∷ ts) = if opens ts then first_name (t ∷ ts) else None

-- the name of a function behind its prefix: behind a colon and before an opening parenthesis
abbrev pub function_name : List Token → Option (List ℕ)
function_name [] = None
function_name (t ∷ ts) = if is_colon t then called ts else None

-- a part is wanted, or was read
pub data State : Type 0 where
  wants : State
  has : Part → State

-- what comes next: how many tokens more are passed, the stack and the state; none where the tokens can't be read
abbrev pub Next : Type 0
Next = Option (ℕ × List Frame × State)

-- a bracket where a part is wanted: it opens, or closes what is empty
abbrev pub bracketed : ℕ → List Frame → Symbol → Next
bracketed limit stack symbol.OpenParenthesis = Some (0, group ∷ stack, wants)
bracketed limit stack symbol.OpenBracket = Some (0, items [] 0 ∷ stack, wants)
bracketed limit stack symbol.OpenBrace = Some (0, key [] 0 ∷ stack, wants)
bracketed limit (arguments p f [] n ∷ stack) symbol.CloseParenthesis = Some (0, stack, has (limited limit (tree.call p f (trees_of [])) 1))
bracketed limit (items [] n ∷ stack) symbol.CloseBracket = Some (0, stack, has (limited limit (tree.list (trees_of [])) 1))
bracketed limit (key [] n ∷ stack) symbol.CloseBrace = Some (0, stack, has (limited limit (tree.map (pairs_of [])) 1))
bracketed limit stack _ = None

-- a symbol where a part is wanted
abbrev pub begun : ℕ → List Frame → Symbol → Next
begun limit stack s =
    option_or (option_map (λ d. (0, stack, has (tree.literal d, 0))) (constant_of s))
    (option_or (option_map (λ op. (0, prefix op ∷ stack, wants)) (unary_of s)) (bracketed limit stack s))

-- a name where a part is wanted: by itself, or as the prefix of a function
abbrev pub named : List Frame → List ℕ → Option (List ℕ) → Next
named stack n None = Some (0, stack, has (tree.name n, 0))
named stack n (Some f) = Some (3, arguments n f [] 0 ∷ stack, wants)

abbrev pub wanted : ℕ → List Frame → Token → List Token → Next
wanted limit stack (token.Number n) ts = Some (0, stack, has (tree.literal (datum.number n), 0))
wanted limit stack token.Decimal ts = None
wanted limit stack (token.Text content) ts = Some (0, stack, has (tree.literal (datum.text content), 0))
wanted limit stack (token.Name n) ts = named stack n (function_name ts)
wanted limit stack (token.Symbol s) ts = begun limit stack s

-- a colon behind a part
abbrev pub divided : List Frame → Part → Next
divided (condition c ∷ stack) p = Some (0, alternative c p ∷ stack, wants)
divided (key entries n ∷ stack) p = Some (0, value entries p n ∷ stack, wants)
divided stack p = None

-- a comma behind a part
abbrev pub listed : List Frame → Part → Next
listed (arguments space f args n ∷ stack) p = Some (0, arguments space f (args ++ p.0 ∷ []) (max n p.1) ∷ stack, wants)
listed (items es n ∷ stack) p = Some (0, items (es ++ p.0 ∷ []) (max n p.1) ∷ stack, wants)
listed (value entries k n ∷ stack) p = Some (0, key (entries ++ (k.0, p.0) ∷ []) (max n (max k.1 p.1)) ∷ stack, wants)
listed stack p = None

-- a closing bracket behind a part
abbrev pub closed : ℕ → List Frame → Part → Symbol → Next
closed limit (group ∷ stack) p symbol.CloseParenthesis = Some (0, stack, has (limited limit p.0 (p.1 + 1)))
closed limit (arguments space f args n ∷ stack) p symbol.CloseParenthesis = Some (0, stack, has (limited limit (tree.call space f (trees_of (args ++ p.0 ∷ []))) (max n p.1 + 1)))
closed limit (items es n ∷ stack) p symbol.CloseBracket = Some (0, stack, has (limited limit (tree.list (trees_of (es ++ p.0 ∷ []))) (max n p.1 + 1)))
closed limit (property e ∷ stack) p symbol.CloseBracket = Some (0, stack, has (limited limit (tree.index e.0 p.0) (max e.1 (p.1 + 1))))
closed limit (value entries k n ∷ stack) p symbol.CloseBrace = Some (0, stack, has (limited limit (tree.map (pairs_of (entries ++ (k.0, p.0) ∷ []))) (max n (max k.1 p.1) + 1)))
closed limit stack p _ = None

-- a point behind a part
abbrev pub pointed : ℕ → List Frame → Part → Option (List ℕ) → Next
pointed limit stack p None = None
pointed limit stack p (Some f) = Some (1, stack, has (limited limit (tree.index p.0 (tree.literal (datum.text f))) p.1))

-- a symbol behind a part
abbrev pub followed : ℕ → List Frame → Part → Symbol → List Token → Next
followed limit stack p (symbol.Binary op) ts = Some (0, operator op p ∷ stack, wants)
followed limit stack p symbol.Question ts = Some (0, condition p ∷ stack, wants)
followed limit stack p symbol.OpenBracket ts = Some (0, property p ∷ stack, wants)
followed limit stack p symbol.Dot ts = pointed limit stack p (first_name ts)
followed limit stack p symbol.Colon ts = divided stack p
followed limit stack p symbol.Comma ts = listed stack p
followed limit stack p symbol.CloseParenthesis ts = closed limit stack p symbol.CloseParenthesis
followed limit stack p symbol.CloseBracket ts = closed limit stack p symbol.CloseBracket
followed limit stack p symbol.CloseBrace ts = closed limit stack p symbol.CloseBrace
followed limit stack p _ ts = None

abbrev pub behind : ℕ → List Frame × Part → Token → List Token → Next
behind limit found (token.Symbol s) ts = followed limit found.0 found.1 s ts
behind limit found _ ts = None

abbrev pub next : ℕ → List Frame → State → Token → List Token → Next
next limit stack wants t ts = wanted limit stack t ts
next limit stack (has p) t ts = behind limit (settled limit (grip t) stack p) t ts

-- the part that is left once nothing follows, where everything that has begun has ended
abbrev pub last_part : List Frame × Part → Option Part
last_part ([], p) = Some p
last_part (f ∷ stack, p) = None

abbrev pub finished : ℕ → List Frame → State → Option Part
finished limit stack wants = None
finished limit stack (has p) = last_part (settled limit 0 stack p)

abbrev pub go_on : Next → (ℕ → List Frame → State → Option Part) → Option Part
go_on None more = None
go_on (Some (skip, stack, state)) more = more skip stack state

-- the part that the tokens are read as, behind the stack and the state, with so many tokens passed first
abbrev pub run : ℕ → ℕ → List Frame → State → List Token → Option Part
run limit skip stack state [] = finished limit stack state
run limit (suc skip) stack state (t ∷ ts) = run limit skip stack state ts
run limit zero stack state (t ∷ ts) = go_on (next limit stack state t ts) (λ skip stack state. run limit skip stack state ts)
