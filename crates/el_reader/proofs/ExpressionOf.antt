-- What the function says that a text is, the text is: the tokens, the calls without a prefix, and the tree or the fault.
use Rattle.std.proofs.Common.{◌≡◌, ℕ, zero, suc, ◌+◌, ◌≤◌, ◌<◌, ◌⊎◌, inl, inr, Bool, true, false, nat_le, ◌||◌, Option, Some, None, Result, Ok, Err, List, [], ◌∷◌, length, drop, take, refl, sym, ap, ◌∙◌, arith, length-drop, below_more, cond}
use Rattle.std.specs.List.{list_any}
use Rattle.std.proofs.lemmas.Bool.{cases_lt, false≢true}
use Rattle.std.proofs.lemmas.Bool.Decides.{nat_tests}
use Rattle.pg_text.specs.Failure.{AnswersAs}
use Rattle.pg_text.specs.declared.failure.Failure.{Failure}
use Rattle.pg_text.specs.declared.failure.Failure.TheVariants as failure
use Rattle.el_reader.specs.declared.el.El.{El}
use Rattle.el_reader.specs.declared.fault.ElFault.{ElFault}
use Rattle.el_reader.specs.declared.fault.ElFault.TheVariants as fault
use Rattle.el_reader.specs.declared.kind.Kind.{Kind}
use Rattle.el_reader.specs.declared.token.Token.{Token}
use Rattle.el_reader.specs.Answer.{Finds, IsExpressionOf}
use Rattle.el_reader.specs.El.{tree_of}
use Rattle.el_reader.specs.Expression.{is_bare_call, is_decimal, is_left_out, HasLeftOut, IsInProfile, IsOutcome, IsExpression, max_nesting}
use Rattle.el_reader.specs.ExpressionOf.{before, tokens_then, tokens_by, tokens_within, tokens_of, has_bare_call, part_outcome, tokens_outcome, text_outcome, expression_of}
use Rattle.el_reader.specs.ReadClimb.{Part, run, wants}
use Rattle.el_reader.specs.ReadTokens.{behind_blanks, kind_at, token_from}
use Rattle.el_reader.specs.Tokens.{IsTokens, HasNoTokens}
use Rattle.el_reader.proofs.Calls.{none_past}
use Rattle.el_reader.proofs.Cuts.{begin, ends_so, no_kind, no_token, one_more}
use Rattle.el_reader.proofs.FirstToken.{found_size}
use Rattle.el_reader.proofs.OneExpression.{one_expression, read_beyond, read_within, unread}

-- these are the tokens of the text, or it has none
abbrev AreTokens : List ℕ → Option (List Token) → Type 0
AreTokens text (Some ts) = IsTokens text ts
AreTokens text None = HasNoTokens text

-- the tokens behind the first are right
abbrev Behind : List ℕ → (List ℕ → Option (List Token)) → Type 0
Behind text behind = (rest : List ℕ) → length rest < length text → AreTokens rest (behind rest)

by_token : (text next : List ℕ) → next ≡ behind_blanks text → 0 < length next → (found : Kind × ℕ) → kind_at next ≡ Some found → (read : Option Token) → token_from found.0 (take found.1 next) ≡ read
    → (ts : Option (List Token)) → AreTokens (drop found.1 next) ts → AreTokens text (before read ts)
by_token text next is some found at None from ts are = no_token text [] text next found (begin text) is some at from
by_token text next is some found at (Some t) from (Some ts) are = (one_more text [] text next (drop found.1 next) found t (begin text) is some at from refl).forth ts are
by_token text next is some found at (Some t) from None are =
    λ all all_is. let (more, same, more_is) = (one_more text [] text next (drop found.1 next) found t (begin text) is some at from refl).back all all_is in are more more_is

by_kind : (text next : List ℕ) → next ≡ behind_blanks text → 0 < length next → (found : Option (Kind × ℕ)) → kind_at next ≡ found → (behind : List ℕ → Option (List Token)) → Behind text behind → AreTokens text (tokens_then next found behind)
by_kind text next is some None at behind are = no_kind text [] text next (begin text) is some at
by_kind text next is some (Some found) at behind are =
    by_token text next is some found at (token_from found.0 (take found.1 next)) refl (behind (drop found.1 next))
    (are (drop found.1 next) (omega (arith, found_size next found at, ap length is, length-drop {A = ℕ})))

by_next : (text next : List ℕ) → next ≡ behind_blanks text → (behind : List ℕ → Option (List Token)) → Behind text behind → AreTokens text (tokens_by next behind)
by_next text [] is behind are = ends_so text [] text (begin text) (sym is)
by_next text (b ∷ next) is behind are = by_kind text (b ∷ next) is (omega arith) (kind_at (b ∷ next)) refl behind are

are_tokens : (most : ℕ) (text : List ℕ) → length text < most → AreTokens text (tokens_within most text)
are_tokens zero text lt = absurd (omega arith)
are_tokens (suc most) text lt = by_next text (behind_blanks text) refl (tokens_within most) (λ rest less. are_tokens most rest (omega arith))

-- a call without a prefix among the first tokens, or none
abbrev AreCalls : List Token → ℕ → Bool → Type 0
AreCalls ts n true = (k : ℕ) × (is_bare_call ts k ≡ true)
AreCalls ts n false = (k : ℕ) → k < n → is_bare_call ts k ≡ false

are_calls : (ts : List Token) (n : ℕ) → AreCalls ts n (has_bare_call ts n)
are_calls ts zero = λ k lt. absurd (omega arith)
are_calls ts (suc n) = go (has_bare_call ts n) (are_calls ts n) (is_bare_call ts n) refl
  where
    go : (first : Bool) → AreCalls ts n first → (last : Bool) → is_bare_call ts n ≡ last → AreCalls ts (suc n) (first || last)
    go true found last is = found
    go false none true is = (n, is)
    go false none false is = λ k lt. below_more _ _ none is k (omega arith)

-- what is left out is among the tokens, or isn't
abbrev AreLeftOut : List Token → Bool → Type 0
AreLeftOut ts true = HasLeftOut ts
AreLeftOut ts false = ¬ (HasLeftOut ts)

are_left_out : (ts : List Token) → AreLeftOut ts (list_any is_left_out ts || has_bare_call ts (length ts))
are_left_out ts = go (list_any is_left_out ts) refl (has_bare_call ts (length ts)) (are_calls ts (length ts))
  where
    none : ((k : ℕ) → k < length ts → is_bare_call ts k ≡ false) → (k : ℕ) → (k < length ts) ⊎ (length ts ≤ k) → is_bare_call ts k ≡ false
    none no_call k (inl lt) = no_call k lt
    none no_call k (inr le) = none_past ts k le

    neither : list_any is_left_out ts ≡ false → ((k : ℕ) → k < length ts → is_bare_call ts k ≡ false) → HasLeftOut ts → ⊥
    neither no_symbol no_call (inl some) = false≢true (sym no_symbol ∙ some)
    neither no_symbol no_call (inr found) = false≢true (sym (none no_call found.0 (cases_lt found.0 (length ts))) ∙ found.1)

    go : (symbol : Bool) → list_any is_left_out ts ≡ symbol → (call : Bool) → AreCalls ts (length ts) call → AreLeftOut ts (symbol || call)
    go true is call calls = inl is
    go false is true calls = inr calls
    go false is false calls = neither is calls

of_part : (ts : List Token) → IsInProfile ts → (part : Option Part) → run max_nesting 0 [] wants ts ≡ part → IsOutcome ts (part_outcome part)
of_part ts profile None is = (profile, unread max_nesting ts is)
of_part ts profile (Some p) is = go (nat_le p.1 max_nesting) refl
  where
    go : (fits : Bool) → nat_le p.1 max_nesting ≡ fits → IsOutcome ts (cond fits (Ok p.0) (Err fault.TooLarge))
    go true fits = let r = read_within max_nesting ts p is (grind (arith, nat_tests)) in (profile, r.0, r.1, r.2)
    go false fits = let r = read_beyond max_nesting ts p is (grind (arith, nat_tests)) in (profile, r.0, r.1, r.2, r.3)

of_tokens : (ts : List Token) → IsOutcome ts (tokens_outcome ts)
of_tokens ts = go (list_any is_decimal ts) refl (list_any is_left_out ts || has_bare_call ts (length ts)) (are_left_out ts)
  where
    go : (decimal : Bool) → list_any is_decimal ts ≡ decimal → (left : Bool) → AreLeftOut ts left → IsOutcome ts (cond decimal (Err fault.Decimal) (cond left (Err fault.LeftOut) (part_outcome (run max_nesting 0 [] wants ts))))
    go true is left left_is = is
    go false is true left_is = (λ has. false≢true (sym is ∙ has), left_is)
    go false is false left_is = of_part ts (λ has. false≢true (sym is ∙ has), left_is) (run max_nesting 0 [] wants ts) refl

of_text : (text : List ℕ) (found : Option (List Token)) → AreTokens text found → IsExpression text (text_outcome found)
of_text text None none = inr (none, refl)
of_text text (Some ts) are = inl (ts, are, of_tokens ts)

pub is_expression_of : IsExpressionOf
unfolding expression_of
is_expression_of text = of_text text (tokens_of text) (are_tokens (length text + 1) text (omega arith))

-- what is answered is what the text is, so it is what the function says
pub answers_function : (text : List ℕ) (answer : Result El (Failure ElFault)) → Finds answer (IsExpression text) → AnswersAs tree_of (expression_of text) answer
answers_function text (Ok el) is = one_expression text (expression_of text) (Ok (tree_of el)) (is_expression_of text) is
answers_function text (Err (failure.Fault f)) is = one_expression text (expression_of text) (Err f) (is_expression_of text) is
answers_function text (Err failure.NoMemory) is = tt
