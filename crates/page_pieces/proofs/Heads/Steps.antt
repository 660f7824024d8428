-- The reading of a head byte by byte: what is malformed stays so with more bytes behind it, and what is cut off can be completed.
use Rattle.std.proofs.Common.{◌≡◌, ℕ, Bool, true, false, cond, eqb, Result, Ok, Err, List, [], ◌∷◌, ◌++◌, codes, refl, ap, ◌∙◌, arith}
use Rattle.std.proofs.lemmas.Bool.{cond-true}
use Rattle.std.proofs.lemmas.Bool.Decides.{nat_tests}
use Rattle.page_pieces.specs.declared.head.HeadEnd.{HeadEnd}
use Rattle.page_pieces.specs.declared.head.HeadKind.{HeadKind}
use Rattle.page_pieces.specs.declared.head.Misread.{Misread}
use Rattle.page_pieces.specs.declared.head.HeadEnd.TheVariants as ends
use Rattle.page_pieces.specs.declared.head.HeadKind.TheVariants as kinds
use Rattle.page_pieces.specs.declared.head.Misread.TheVariants.{CutOff, Malformed}
use Rattle.page_pieces.specs.Names.{is_white, is_name_start, is_name_byte}
use Rattle.pg_text.specs.Literals.{is_quote}
use Rattle.page_pieces.specs.ReadValue.{ends_value, takes_next}

-- what is read: a directive, or the start or the end of an element
pub data Head : Type 0 where
  DirectiveHead StartHead EndHead : Head

abbrev pub head_of : HeadKind → Head
head_of kinds.Directive = DirectiveHead
head_of kinds.Element = StartHead

-- what may stand next in a head
pub data State : Type 0 where
  BeforeDirective Prefix InPrefix Colon Local InName : State
  Between White Closing Percent Slash : State
  Attribute InAttribute BehindFirst AttributeLocal InLocal BehindName Sign BehindSign Quote : State
  Value : ℕ → Bool → State

-- what a byte leads to
pub data Next : Type 0 where
  Go : State → Next
  Accept : HeadEnd → Next
  Dead : Next

abbrev pub name_step : State → ℕ → Next
name_step q b = cond (is_name_start b) (Go q) Dead

-- the end of an element has no attributes
abbrev pub attribute_step : Head → ℕ → Next
attribute_step EndHead b = Dead
attribute_step _ b = name_step InAttribute b

-- a byte that may close a head, or begin to, or else another step
abbrev pub closing_step : Head → ℕ → Next → Next
closing_step DirectiveHead b other = cond (eqb 37 b) (Go Percent) other
closing_step StartHead b other = cond (eqb 62 b) (Accept ends.Start) (cond (eqb 47 b) (Go Slash) other)
closing_step EndHead b other = cond (eqb 62 b) (Accept ends.Start) other

abbrev pub between_step : Head → ℕ → Next
between_step head b = cond (is_white b) (Go White) (closing_step head b Dead)

abbrev pub behind_name_step : ℕ → Next
behind_name_step b = cond (is_white b) (Go BehindName) (cond (eqb 61 b) (Go BehindSign) Dead)

abbrev pub behind_first_step : ℕ → Next
behind_first_step b = cond (eqb 58 b) (Go AttributeLocal) (behind_name_step b)

-- what a byte leads to, by what may stand next
abbrev pub step : Head → State → ℕ → Next
step head BeforeDirective b = cond (is_white b) (Go BeforeDirective) (name_step InName b)
step head Prefix b = name_step InPrefix b
step head InPrefix b = cond (is_name_byte b) (Go InPrefix) (cond (eqb 58 b) (Go Local) Dead)
step head Colon b = cond (eqb 58 b) (Go Local) Dead
step head Local b = name_step InName b
step head InName b = cond (is_name_byte b) (Go InName) (between_step head b)
step head Between b = between_step head b
step head White b = cond (is_white b) (Go White) (closing_step head b (attribute_step head b))
step head Closing b = closing_step head b (attribute_step head b)
step head Percent b = cond (eqb 62 b) (Accept ends.Directive) Dead
step head Slash b = cond (eqb 62 b) (Accept ends.Empty) Dead
step head Attribute b = name_step InAttribute b
step head InAttribute b = cond (is_name_byte b) (Go InAttribute) (behind_first_step b)
step head BehindFirst b = behind_first_step b
step head AttributeLocal b = name_step InLocal b
step head InLocal b = cond (is_name_byte b) (Go InLocal) (behind_name_step b)
step head BehindName b = behind_name_step b
step head Sign b = cond (eqb 61 b) (Go BehindSign) Dead
step head BehindSign b = cond (is_white b) (Go BehindSign) (cond (is_quote b) (Go (Value b false)) Dead)
step head Quote b = cond (is_quote b) (Go (Value b false)) Dead
step head (Value quote escaped) b = cond (ends_value quote escaped b) (Go Between) (Go (Value quote (takes_next escaped b)))

-- what follows a byte, by what it leads to
abbrev pub run_next : Next → List ℕ → (State → Result (HeadEnd × List ℕ) Misread) → Result (HeadEnd × List ℕ) Misread
run_next (Go q) bytes more = more q
run_next (Accept end) bytes more = Ok (end, bytes)
run_next Dead bytes more = Err Malformed

-- what closes the head, and what follows it, or why it is not read
abbrev pub run : Head → State → List ℕ → Result (HeadEnd × List ℕ) Misread
run head q [] = Err CutOff
run head q (b ∷ bytes) = run_next (step head q b) bytes (λ q. run head q bytes)

-- what is malformed stays so
pub stays_malformed : (head : Head) (q : State) (text more : List ℕ) → run head q text ≡ Err Malformed → run head q (text ++ more) ≡ Err Malformed
stays_malformed head q [] more is = cc
stays_malformed head q (b ∷ text) more is = go (step head q b) is (λ q is. stays_malformed head q text more is)
  where
    go : (next : Next) → run_next next text (λ q. run head q text) ≡ Err Malformed → ((q : State) → run head q text ≡ Err Malformed → run head q (text ++ more) ≡ Err Malformed) → run_next next (text ++ more) (λ q. run head q (text ++ more)) ≡ Err Malformed
    go (Go q) is rec = rec q is
    go (Accept end) is rec = cc
    go Dead is rec = refl

-- with more bytes the head is whole
pub record Completed (head : Head) (q : State) (text : List ℕ) : Type 0 where
  pub more : List ℕ
  pub end : HeadEnd
  pub is : run head q (text ++ more) ≡ Ok (end, [])

-- one byte more before what completes a head
behind_byte : {head : Head} {then : State} (q : State) (b : ℕ) → step head q b ≡ Go then → Completed head then [] → Completed head q []
behind_byte {head} q b is c = record { more = b ∷ c.more; end = c.end; is = ap (λ n. run_next n c.more (λ q. run head q c.more)) is ∙ c.is }

-- bytes that complete a head from each of these on
finish_between : (head : Head) → Completed head Between []
finish_between DirectiveHead = record { more = codes "%>"; end = ends.Directive; is = refl }
finish_between StartHead = record { more = codes ">"; end = ends.Start; is = refl }
finish_between EndHead = record { more = codes ">"; end = ends.Start; is = refl }

finish_white : (head : Head) → Completed head White []
finish_white DirectiveHead = record { more = codes "%>"; end = ends.Directive; is = refl }
finish_white StartHead = record { more = codes ">"; end = ends.Start; is = refl }
finish_white EndHead = record { more = codes ">"; end = ends.Start; is = refl }

finish_name : (head : Head) → Completed head InName []
finish_name DirectiveHead = record { more = codes "%>"; end = ends.Directive; is = refl }
finish_name StartHead = record { more = codes ">"; end = ends.Start; is = refl }
finish_name EndHead = record { more = codes ">"; end = ends.Start; is = refl }

finish_closing : (head : Head) → Completed head Closing []
finish_closing DirectiveHead = record { more = codes "%>"; end = ends.Directive; is = refl }
finish_closing StartHead = record { more = codes ">"; end = ends.Start; is = refl }
finish_closing EndHead = record { more = codes ">"; end = ends.Start; is = refl }

quote_ends : (quote : ℕ) → ends_value quote false quote ≡ true
quote_ends quote = grind (arith, nat_tests)

finish_value : (head : Head) (quote : ℕ) (escaped : Bool) → Completed head (Value quote escaped) []
finish_value head quote false = behind_byte (Value quote false) quote (cond-true (ends_value quote false quote) _ _ (quote_ends quote)) (finish_between head)
finish_value head quote true = behind_byte (Value quote true) 97 refl (behind_byte (Value quote false) quote (cond-true (ends_value quote false quote) _ _ (quote_ends quote)) (finish_between head))

finish_local : (head : Head) → Completed head Local []
finish_local head = behind_byte Local 97 refl (finish_name head)

finish_prefix : (head : Head) → Completed head InPrefix []
finish_prefix head = behind_byte InPrefix 58 refl (finish_local head)

finish_sign : (head : Head) → Completed head BehindSign []
finish_sign head = behind_byte BehindSign 34 refl (finish_value head 34 false)

finish_attribute : (head : Head) → Completed head BehindName []
finish_attribute head = behind_byte BehindName 61 refl (finish_sign head)

finish_attribute_local : (head : Head) → Completed head InLocal []
finish_attribute_local head = behind_byte InLocal 61 refl (finish_sign head)

finish_attribute_name : (head : Head) → Completed head InAttribute []
finish_attribute_name head = behind_byte InAttribute 61 refl (finish_sign head)

-- bytes that complete a head, by what may stand next
finish : (head : Head) (q : State) → Completed head q []
finish head BeforeDirective = behind_byte BeforeDirective 97 refl (finish_name head)
finish head Prefix = behind_byte Prefix 97 refl (finish_prefix head)
finish head InPrefix = finish_prefix head
finish head Colon = behind_byte Colon 58 refl (finish_local head)
finish head Local = finish_local head
finish head InName = finish_name head
finish head Between = finish_between head
finish head White = finish_white head
finish head Closing = finish_closing head
finish head Percent = record { more = codes ">"; end = ends.Directive; is = refl }
finish head Slash = record { more = codes ">"; end = ends.Empty; is = refl }
finish head Attribute = behind_byte Attribute 97 refl (finish_attribute_name head)
finish head InAttribute = finish_attribute_name head
finish head BehindFirst = behind_byte BehindFirst 61 refl (finish_sign head)
finish head AttributeLocal = behind_byte AttributeLocal 97 refl (finish_attribute_local head)
finish head InLocal = finish_attribute_local head
finish head BehindName = finish_attribute head
finish head Sign = behind_byte Sign 61 refl (finish_sign head)
finish head BehindSign = finish_sign head
finish head Quote = behind_byte Quote 34 refl (finish_value head 34 false)
finish head (Value quote escaped) = finish_value head quote escaped

-- what is cut off can be completed
pub completed : (head : Head) (q : State) (text : List ℕ) → run head q text ≡ Err CutOff → Completed head q text
completed head q [] is = finish head q
completed head q (b ∷ text) is = go (step head q b) refl is (λ q is. completed head q text is)
  where
    go : (next : Next) → step head q b ≡ next → run_next next text (λ q. run head q text) ≡ Err CutOff → ((q : State) → run head q text ≡ Err CutOff → Completed head q text) → Completed head q (b ∷ text)
    go (Go then) step_is is rec =
        let c = rec then is in
        record { more = c.more; end = c.end; is = ap (λ n. run_next n (text ++ c.more) (λ q. run head q (text ++ c.more))) step_is ∙ c.is }
    go (Accept end) step_is is rec = cc
    go Dead step_is is rec = cc
