-- The expression that a text is, as a function. That it is what the grammar says, `one_expression` promises.
use Rattle.std.specs.Prelude.{◌+◌, ◌||◌, nat_le, if◌then◌else◌, ℕ, zero, suc, Bool, false, List, [], ◌∷◌, length, take, drop, Option, Some, None, Result, Ok, Err}
use Rattle.std.specs.List.{list_any}
use Rattle.el_reader.specs.declared.fault.ElFault.{ElFault}
use Rattle.el_reader.specs.declared.fault.ElFault.TheVariants as fault
use Rattle.el_reader.specs.declared.kind.Kind.{Kind}
use Rattle.el_reader.specs.declared.token.Token.{Token}
use Rattle.el_reader.specs.Expression.{is_bare_call, is_decimal, is_left_out, max_nesting}
use Rattle.el_reader.specs.ReadClimb.{Part, run, wants}
use Rattle.el_reader.specs.ReadTokens.{behind_blanks, kind_at, token_from}
use Rattle.el_reader.specs.Tree.{Tree}

-- a token before those of the rest, where each is there
abbrev pub before : Option Token → Option (List Token) → Option (List Token)
before (Some t) (Some ts) = Some (t ∷ ts)
before _ _ = None

-- the tokens of a text, with the kind and the length of the first and with those of what stands behind that
abbrev pub tokens_then : List ℕ → Option (Kind × ℕ) → (List ℕ → Option (List Token)) → Option (List Token)
tokens_then text None behind = None
tokens_then text (Some found) behind = before (token_from found.0 (take found.1 text)) (behind (drop found.1 text))

-- the tokens of a text that begins with no white space
abbrev pub tokens_by : List ℕ → (List ℕ → Option (List Token)) → Option (List Token)
tokens_by [] behind = Some []
tokens_by (b ∷ text) behind = tokens_then (b ∷ text) (kind_at (b ∷ text)) behind

-- the tokens of a text that has fewer bytes than this
abbrev pub tokens_within : ℕ → List ℕ → Option (List Token)
tokens_within zero text = None
tokens_within (suc most) text = tokens_by (behind_blanks text) (tokens_within most)

-- the tokens of a text, or none
abbrev pub tokens_of : List ℕ → Option (List Token)
tokens_of text = tokens_within (length text + 1) text

-- a call of a name without a prefix stands among the first n tokens
abbrev pub has_bare_call : List Token → ℕ → Bool
has_bare_call ts zero = false
has_bare_call ts (suc n) = has_bare_call ts n || is_bare_call ts n

-- what the part is that the tokens are read as
abbrev pub part_outcome : Option Part → Result Tree ElFault
part_outcome None = Err fault.Syntax
part_outcome (Some part) = if nat_le part.1 max_nesting then Ok part.0 else Err fault.TooLarge

-- what tokens are, in the order in which faults are decided
abbrev pub tokens_outcome : List Token → Result Tree ElFault
tokens_outcome ts =
    if list_any is_decimal ts then Err fault.Decimal
    else (if list_any is_left_out ts || has_bare_call ts (length ts) then Err fault.LeftOut
    else part_outcome (run max_nesting 0 [] wants ts))

-- what a text is that has these tokens, or none
abbrev pub text_outcome : Option (List Token) → Result Tree ElFault
text_outcome None = Err fault.Syntax
text_outcome (Some ts) = tokens_outcome ts

-- the expression that a text is, or its fault
unfoldable pub expression_of : List ℕ → Result Tree ElFault
expression_of text = text_outcome (tokens_of text)
