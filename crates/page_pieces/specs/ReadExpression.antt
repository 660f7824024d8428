-- How the end of an expression is looked for, byte by byte. No public contract speaks of it: that it is the end that the grammar has is proved.
use Rattle.std.specs.Prelude.{◌∷◌, ◌+◌, ◌-◌, ◌==◌, ◌||◌, if◌then◌else◌, ℕ, true, false, List, [], Option, Some, None}
use Rattle.page_pieces.specs.declared.expression.Scanning.{Scanning}
use Rattle.page_pieces.specs.Texts.{further}

-- outside a literal: a quote opens one, and braces are counted; nothing where the brace ends the expression
abbrev pub outside_literal : Scanning → ℕ → Option Scanning
outside_literal state b =
    if b == 125 then (if state.depth == 0 then None else Some (record state { depth = state.depth - 1 }))
    else if b == 123 then Some (record state { depth = state.depth + 1 })
    else if (b == 34) || (b == 39) then Some (record state { literal = Some b })
    else Some state

-- within a literal: its quote ends it, unless a backslash takes it along
abbrev pub within_literal : ℕ → Scanning → ℕ → Option Scanning
within_literal quote state b =
    if state.escaped then Some (record state { escaped = false })
    else if b == 92 then Some (record state { escaped = true })
    else if b == quote then Some (record state { literal = None })
    else Some state

abbrev pub scan_byte_in : Option ℕ → Scanning → ℕ → Option Scanning
scan_byte_in None state b = outside_literal state b
scan_byte_in (Some quote) state b = within_literal quote state b

-- what the next byte of an expression leaves open, or nothing where it ends the expression
abbrev pub scan_byte : Scanning → ℕ → Option Scanning
scan_byte state b = scan_byte_in state.literal state b

-- nothing is open
abbrev pub nothing_open : Scanning
nothing_open = record { literal = None; escaped = false; depth = 0 }

abbrev pub brace_or : Option Scanning → ℕ → List ℕ → (Scanning → Option (List ℕ × List ℕ)) → Option (List ℕ × List ℕ)
brace_or None b bytes more = Some ([], bytes)
brace_or (Some next) b bytes more = further b (more next)

-- what stands before the `}` that ends an expression, and what follows it
abbrev pub around_brace : Scanning → List ℕ → Option (List ℕ × List ℕ)
around_brace state [] = None
around_brace state (b ∷ bytes) = brace_or (scan_byte state b) b bytes (λ next. around_brace next bytes)
