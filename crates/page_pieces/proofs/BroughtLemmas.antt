-- What include directives bring, in the order of their bytes.
use Rattle.std.proofs.Common.{◌≡◌, ◌∙◌, ℕ, zero, suc, true, false, cond, eqb, ltb, leb, List, [], ◌∷◌, ◌++◌, length, take, drop, refl, sym, ap, arith}
use Rattle.std.specs.List.{AllWithin}
use Rattle.std.specs.List.Sorted.{IsNonDecreasingBy}
use Rattle.std.proofs.lemmas.Bool.{leb-false, ltb-true, ne_eqb}
use Rattle.std.proofs.lemmas.List.Sorted.{IsNonDecreasingBy-short}
use Rattle.page_pieces.specs.declared.setting.BroughtPrefixes.{BroughtPrefixes}
use Rattle.page_pieces.specs.Settings.{brought_at}

-- none are in order
pub order_none : IsNonDecreasingBy (λ (bringing : BroughtPrefixes). bringing.byte) []
order_none = IsNonDecreasingBy-short (λ bringing. bringing.byte) [] (omega arith)

below : (a byte : ℕ) → ltb a byte ≡ true → eqb a byte ≡ false
below a byte less = let lower = ltb-true a byte less in ne_eqb a byte (λ same. absurd (omega arith))

above : (a byte : ℕ) → leb a byte ≡ false → eqb a byte ≡ false
above a byte more = let higher = leb-false a byte more in ne_eqb a byte (λ same. absurd (omega arith))

-- a directive that begins elsewhere brings nothing there
elsewhere : (byte : ℕ) (bringing : BroughtPrefixes) (brought : List BroughtPrefixes) → eqb bringing.byte byte ≡ false → brought_at byte (bringing ∷ brought) ≡ brought_at byte brought
elsewhere byte bringing brought other = ap (λ here. cond here (bringing.prefixes ++ brought_at byte brought) (brought_at byte brought)) other

-- those before this byte bring nothing there
pub behind_lower : (byte from : ℕ) (brought : List BroughtPrefixes) → AllWithin (λ (bringing : BroughtPrefixes). ltb bringing.byte byte ≡ true) brought 0 from → brought_at byte (drop from brought) ≡ brought_at byte brought
behind_lower byte zero brought lower = refl
behind_lower byte (suc from) [] lower = refl
behind_lower byte (suc from) (bringing ∷ brought) lower =
    behind_lower byte from brought (λ k d low within. lower (suc k) d (omega arith) (omega arith))
    ∙ sym (elsewhere byte bringing brought (below bringing.byte byte (lower zero bringing (omega arith) (omega arith))))

-- nor those behind it
nothing : (byte : ℕ) (brought : List BroughtPrefixes) → AllWithin (λ (bringing : BroughtPrefixes). leb bringing.byte byte ≡ false) brought 0 (length brought) → brought_at byte brought ≡ []
nothing byte [] higher = refl
nothing byte (bringing ∷ brought) higher =
    elsewhere byte bringing brought (above bringing.byte byte (higher zero bringing (omega arith) (omega arith)))
    ∙ nothing byte brought (λ k d low within. higher (suc k) d (omega arith) (omega arith))

pub before_higher : (byte to : ℕ) (brought : List BroughtPrefixes) → AllWithin (λ (bringing : BroughtPrefixes). leb bringing.byte byte ≡ false) brought to (length brought) → brought_at byte (take to brought) ≡ brought_at byte brought
before_higher byte zero brought higher = sym (nothing byte brought higher)
before_higher byte (suc to) [] higher = refl
before_higher byte (suc to) (bringing ∷ brought) higher =
    ap (λ more. cond (eqb bringing.byte byte) (bringing.prefixes ++ more) more)
    (before_higher byte to brought (λ k d low within. higher (suc k) d (omega arith) (omega arith)))
