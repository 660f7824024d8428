-- What the scan of an expression finds is an end that the grammar has.
use Rattle.std.proofs.Common.{◌≡◌, ◌+◌, ◌-◌, ◌||◌, ◌∙◌, ℕ, zero, suc, not, Bool, true, false, cond, eqb, Option, Some, None, List, [], ◌∷◌, ◌++◌, refl, sym, ap, subst, arith, append_assoc, add-one}
use Rattle.std.proofs.lemmas.Bool.Decides.{nat_tests}
use Rattle.page_pieces.specs.declared.expression.Scanning.{Scanning}
use Rattle.page_pieces.specs.Texts.{further}
use Rattle.pg_text.specs.Literals.{is_quote, any_byte, Between, nothing_between, byte_then, escaped_then}
use Rattle.pg_text.proofs.LiteralLemmas.{BetweenFrom}
use Rattle.page_pieces.specs.Expressions.{is_other, IsInside, nothing_inside, other_then, literal_then, braces_then, EndsBehind, HasNoEnd}
use Rattle.page_pieces.specs.ReadExpression.{outside_literal, within_literal, scan_byte, nothing_open, brace_or, around_brace}
use Rattle.page_pieces.proofs.Expressions.Found.{end_found}

abbrev state_of : Option ℕ → Bool → ℕ → Scanning
state_of literal escaped depth = record { literal = literal; escaped = escaped; depth = depth }

-- what may stand before the brace that ends an expression, within so many inner braces
abbrev InsideTo : ℕ → List ℕ → Type 0
InsideTo zero bytes = IsInside bytes
InsideTo (suc depth) bytes = (inside : List ℕ) × (more : List ℕ) × (bytes ≡ inside ++ 125 ∷ more) × IsInside inside × InsideTo depth more

-- the end of a literal, and what may stand behind it
record LiteralTo (quote : ℕ) (escaped : Bool) (depth : ℕ) (bytes : List ℕ) : Type 0 where
  between : List ℕ
  more : List ℕ
  cut : bytes ≡ between ++ quote ∷ more
  literal : BetweenFrom any_byte escaped quote between
  behind : InsideTo depth more

abbrev Reads : Option ℕ → Bool → ℕ → List ℕ → Type 0
Reads None escaped depth bytes = InsideTo depth bytes
Reads (Some quote) escaped depth bytes = LiteralTo quote escaped depth bytes

-- a backslash is open within a literal alone
abbrev IsProper : Option ℕ → Bool → Type 0
IsProper None escaped = escaped ≡ false
IsProper (Some quote) escaped = Unit {0}

other_to : (depth b : ℕ) (bytes : List ℕ) → is_other b ≡ true → InsideTo depth bytes → InsideTo depth (b ∷ bytes)
other_to zero b bytes is to = other_then b is to
other_to (suc depth) b bytes is to = (b ∷ to.0, to.1, ap (λ t. b ∷ t) to.2, other_then b is to.3, to.4)

literal_to : (depth quote : ℕ) (between more : List ℕ) → is_quote quote ≡ true → Between any_byte quote between → InsideTo depth more → InsideTo depth (quote ∷ (between ++ quote ∷ more))
literal_to zero quote between more is literal to = literal_then quote is literal to
literal_to (suc depth) quote between more is literal to =
    (quote ∷ (between ++ quote ∷ to.0), to.1, ap (λ t. quote ∷ (between ++ quote ∷ t)) to.2 ∙ ap (λ t. quote ∷ t) (sym (append_assoc between (quote ∷ to.0) (125 ∷ to.1))), literal_then quote is literal to.3, to.4)

brace_to : (depth : ℕ) (bytes : List ℕ) → InsideTo (suc depth) bytes → InsideTo depth (123 ∷ bytes)
brace_to zero bytes to = subst IsInside (ap (λ t. 123 ∷ t) (sym to.2)) (braces_then to.3 to.4)
brace_to (suc depth) bytes to =
    let more = to.4 in
    (123 ∷ (to.0 ++ 125 ∷ more.0), more.1, ap (λ t. 123 ∷ t) (to.2 ∙ ap (λ t. to.0 ++ 125 ∷ t) more.2 ∙ sym (append_assoc to.0 (125 ∷ more.0) (125 ∷ more.1))), braces_then to.3 more.3, more.4)

-- a byte that leaves this state
record Steps (literal : Option ℕ) (escaped : Bool) (depth b : ℕ) (next : Scanning) : Type 0 where
  proper : IsProper next.literal next.escaped
  reads : (bytes : List ℕ) → Reads next.literal next.escaped next.depth bytes → Reads literal escaped depth (b ∷ bytes)

step_is : {literal : Option ℕ} {escaped : Bool} {depth b : ℕ} (one next : Scanning) → Some one ≡ Some next → Steps literal escaped depth b one → Steps literal escaped depth b next
step_is {literal} {escaped} {depth} {b} one next same steps = subst (Steps literal escaped depth b) go steps
  where
    go : one ≡ next
    go = cc

closing_to : (depth : ℕ) (b : ℕ) (bytes : List ℕ) → eqb depth 0 ≡ false → b ≡ 125 → InsideTo (depth - 1) bytes → InsideTo depth (b ∷ bytes)
closing_to zero b bytes some is to = cc
closing_to (suc depth) b bytes some is to =
    let less : suc depth - 1 ≡ depth = omega arith in
    ([], bytes, ap (λ c. c ∷ bytes) is, nothing_inside, subst (λ d. InsideTo d bytes) less to)

outside_steps : (depth b : ℕ) (next : Scanning) → outside_literal (state_of None false depth) b ≡ Some next → Steps None false depth b next
outside_steps depth b next is = go (eqb b 125) refl (eqb b 123) refl (is_quote b) refl is
  where
    closing : (none : Bool) → eqb depth 0 ≡ none → b ≡ 125 → cond none None (Some (state_of None false (depth - 1))) ≡ Some next → Steps None false depth b next
    closing true at brace e = cc
    closing false at brace e = step_is (state_of None false (depth - 1)) next e (record { proper = refl; reads = λ bytes to. closing_to depth b bytes at brace to })

    go : (x : Bool) → eqb b 125 ≡ x → (y : Bool) → eqb b 123 ≡ y → (z : Bool) → is_quote b ≡ z
        → cond x (cond (eqb depth 0) None (Some (state_of None false (depth - 1)))) (cond y (Some (state_of None false (depth + 1))) (cond z (Some (state_of (Some b) false depth)) (Some (state_of None false depth)))) ≡ Some next
        → Steps None false depth b next
    go true x y _ z _ e = closing (eqb depth 0) refl (grind (arith, nat_tests)) e
    go false x true y z _ e = step_is (state_of None false (depth + 1)) next e (record {
      proper = refl;
      reads = λ bytes to. subst (λ c. InsideTo depth (c ∷ bytes)) (sym brace) (brace_to depth bytes (subst (λ d. InsideTo d bytes) (add-one depth) to));
    })
      where
        brace : b ≡ 123
        brace = grind (arith, nat_tests)
    go false x false y true z e = step_is (state_of (Some b) false depth) next e (record {
      proper = tt;
      reads = λ bytes to. subst (λ t. InsideTo depth (b ∷ t)) (sym to.cut) (literal_to depth b to.between to.more z to.literal to.behind);
    })
    go false x false y false z e = step_is (state_of None false depth) next e (record {
      proper = refl;
      reads = λ bytes to. other_to depth b bytes other to;
    })
      where
        other : is_other b ≡ true
        other = (λ i. not (z i || (y i || x i)))

within_steps : (quote : ℕ) (escaped : Bool) (depth b : ℕ) (next : Scanning) → within_literal quote (state_of (Some quote) escaped depth) b ≡ Some next → Steps (Some quote) escaped depth b next
within_steps quote true depth b next is = step_is (state_of (Some quote) false depth) next is (record {
  proper = tt;
  reads = λ bytes to. record { between = b ∷ to.between; more = to.more; cut = ap (λ t. b ∷ t) to.cut; literal = (b, to.between, refl, refl, to.literal); behind = to.behind };
})
within_steps quote false depth b next is = go (eqb b 92) refl (eqb b quote) refl is
  where
    go : (x : Bool) → eqb b 92 ≡ x → (y : Bool) → eqb b quote ≡ y
        → cond x (Some (state_of (Some quote) true depth)) (cond y (Some (state_of None false depth)) (Some (state_of (Some quote) false depth))) ≡ Some next → Steps (Some quote) false depth b next
    go true x y _ e = step_is (state_of (Some quote) true depth) next e (record { proper = tt; reads = λ bytes to. slash bytes to })
      where
        back : b ≡ 92
        back = grind (arith, nat_tests)

        slash : (bytes : List ℕ) → LiteralTo quote true depth bytes → LiteralTo quote false depth (b ∷ bytes)
        slash bytes to =
            let c = to.literal in
            record {
              between = 92 ∷ c.0 ∷ c.1;
              more = to.more;
              cut = (λ i. back i ∷ to.cut i) ∙ ap (λ t. 92 ∷ (t ++ quote ∷ to.more)) c.2;
              literal = escaped_then c.0 c.3 c.4;
              behind = to.behind;
            }
    go false x true y e = step_is (state_of None false depth) next e (record {
      proper = refl;
      reads = λ bytes to. record { between = []; more = bytes; cut = ap (λ c. c ∷ bytes) quoted; literal = nothing_between; behind = to };
    })
      where
        quoted : b ≡ quote
        quoted = grind (arith, nat_tests)
    go false x false y e = step_is (state_of (Some quote) false depth) next e (record {
      proper = tt;
      reads = λ bytes to. record { between = b ∷ to.between; more = to.more; cut = ap (λ t. b ∷ t) to.cut; literal = byte_then b no_quote no_slash to.literal; behind = to.behind };
    })
      where
        no_quote : b ≡ quote → ⊥
        no_quote same = absurd (grind (arith, nat_tests))

        no_slash : b ≡ 92 → ⊥
        no_slash same = absurd (grind (arith, nat_tests))

steps_on : (literal : Option ℕ) (escaped : Bool) (depth b : ℕ) (next : Scanning) → IsProper literal escaped → scan_byte (state_of literal escaped depth) b ≡ Some next → Steps literal escaped depth b next
steps_on None escaped depth b next proper is =
    subst (λ e. Steps None e depth b next) (sym proper) (outside_steps depth b next (ap (λ e. outside_literal (state_of None e depth) b) (sym proper) ∙ is))
steps_on (Some quote) escaped depth b next proper is = within_steps quote escaped depth b next is

-- a byte that ends the expression
record Stopped (literal : Option ℕ) (escaped : Bool) (depth b : ℕ) : Type 0 where
  brace : b ≡ 125
  reads : Reads literal escaped depth []

stops_at : (literal : Option ℕ) (escaped : Bool) (depth b : ℕ) → scan_byte (state_of literal escaped depth) b ≡ None → Stopped literal escaped depth b
stops_at None escaped depth b is = go (eqb b 125) refl (eqb depth 0) refl (eqb b 123) (is_quote b) is
  where
    go : (x : Bool) → eqb b 125 ≡ x → (n : Bool) → eqb depth 0 ≡ n → (y z : Bool)
        → cond x (cond n None (Some (state_of None escaped (depth - 1)))) (cond y (Some (state_of None escaped (depth + 1))) (cond z (Some (state_of (Some b) escaped depth)) (Some (state_of None escaped depth)))) ≡ None
        → Stopped None escaped depth b
    go true x true n y z e = record { brace = grind (arith, nat_tests); reads = subst (λ d. InsideTo d []) (sym none) nothing_inside }
      where
        none : depth ≡ 0
        none = grind (arith, nat_tests)
    go true x false n y z e = cc
    go false x n _ true z e = cc
    go false x n _ false true e = cc
    go false x n _ false false e = cc
stops_at (Some quote) escaped depth b is = go escaped (eqb b 92) (eqb b quote) is
  where
    go : (x y z : Bool) → cond x (Some (state_of (Some quote) false depth)) (cond y (Some (state_of (Some quote) true depth)) (cond z (Some (state_of None x depth)) (Some (state_of (Some quote) x depth)))) ≡ None → Stopped (Some quote) escaped depth b
    go true y z e = cc
    go false true z e = cc
    go false false true e = cc
    go false false false e = cc

-- what was found ends the expression, and may stand in it
record Ended (literal : Option ℕ) (escaped : Bool) (depth : ℕ) (text inside rest : List ℕ) : Type 0 where
  cut : text ≡ inside ++ 125 ∷ rest
  reads : Reads literal escaped depth inside

ended : (literal : Option ℕ) (escaped : Bool) (depth : ℕ) (text inside rest : List ℕ) → IsProper literal escaped → around_brace (state_of literal escaped depth) text ≡ Some (inside, rest) → Ended literal escaped depth text inside rest
ended literal escaped depth [] inside rest proper is = cc
ended literal escaped depth (b ∷ bytes) inside rest proper is =
    go (scan_byte (state_of literal escaped depth) b) refl is (λ next proper before. ended next.literal next.escaped next.depth bytes before rest proper)
  where
    last : Stopped literal escaped depth b → ◌≡◌ {A = List ℕ × List ℕ} ([], bytes) (inside, rest) → Ended literal escaped depth (b ∷ bytes) inside rest
    last stopped same = record {
      cut = (λ i. stopped.brace i ∷ ap {B = List ℕ} (λ p. p.1) same i) ∙ ap (λ t. t ++ 125 ∷ rest) (ap (λ p. p.0) same);
      reads = subst (Reads literal escaped depth) (ap (λ p. p.0) same) stopped.reads;
    }

    one : (next : Scanning) → Steps literal escaped depth b next → (found : Option (List ℕ × List ℕ)) → further b found ≡ Some (inside, rest)
        → ((before : List ℕ) → found ≡ Some (before, rest) → Ended next.literal next.escaped next.depth bytes before rest) → Ended literal escaped depth (b ∷ bytes) inside rest
    one next steps None e rec = cc
    one next steps (Some found) e rec =
        let same : ◌≡◌ {A = List ℕ × List ℕ} (b ∷ found.0, found.1) (inside, rest) = cc in
        let more = rec found.0 (ap (λ r. Some (found.0, r)) (ap (λ p. p.1) same)) in
        record {
          cut = ap (λ t. b ∷ t) more.cut ∙ ap (λ t. t ++ 125 ∷ rest) (ap (λ p. p.0) same);
          reads = subst (Reads literal escaped depth) (ap (λ p. p.0) same) (steps.reads found.0 more.reads);
        }

    go : (step : Option Scanning) → scan_byte (state_of literal escaped depth) b ≡ step → brace_or step b bytes (λ next. around_brace next bytes) ≡ Some (inside, rest)
        → ((next : Scanning) → IsProper next.literal next.escaped → (before : List ℕ) → around_brace next bytes ≡ Some (before, rest) → Ended next.literal next.escaped next.depth bytes before rest)
        → Ended literal escaped depth (b ∷ bytes) inside rest
    go None at e rec = last (stops_at literal escaped depth b at) (cc)
    go (Some next) at e rec =
        let steps = steps_on literal escaped depth b next proper at in
        one next steps (around_brace next bytes) e (rec next steps.proper)

-- the end that is found is one that the grammar has
pub end_is : (text inside rest : List ℕ) → around_brace nothing_open text ≡ Some (inside, rest) → EndsBehind text inside rest
end_is text inside rest is = let found = ended None false 0 text inside rest refl is in record { inside_is = found.reads; cut = found.cut }

pub none_is : (text : List ℕ) → around_brace nothing_open text ≡ None → HasNoEnd text
none_is text is inside rest ends = cc (sym is ∙ end_found text inside rest ends)

pub none_found : (text : List ℕ) → HasNoEnd text → around_brace nothing_open text ≡ None
none_found text none = go (around_brace nothing_open text) refl
  where
    go : (found : Option (List ℕ × List ℕ)) → around_brace nothing_open text ≡ found → around_brace nothing_open text ≡ None
    go None is = is
    go (Some found) is = absurd (none found.0 found.1 (end_is text found.0 found.1 is))
