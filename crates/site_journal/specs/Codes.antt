-- What all texts of a journal are made of.
use Rattle.std.specs.Prelude.{ℕ, ◌<◌, ◌^◌, ◌++◌, Bool, true, false, List, [], ◌∷◌, length, flat_map, Option, Some, None, ℤ, FitsSigned, IsUtf8, ⊤}
use Rattle.std.specs.Int.{w64, cast_unsigned, to_be_bytes}
use Rattle.site_words.specs.Trees.{Each}

-- a number: 8 bytes, the highest first
abbrev pub of_number : ℕ → List ℕ
of_number n = to_be_bytes w64 n

abbrev pub IsNumber : ℕ → Type 0
IsNumber n = n < 2 ^ 64

-- an integer: the 8 bytes of its two's complement
abbrev pub of_int : ℤ → List ℕ
of_int n = of_number (cast_unsigned w64 n)

abbrev pub IsInt : ℤ → Type 0
IsInt n = FitsSigned w64 n

-- a truth value: the byte 0 or 1
abbrev pub of_truth : Bool → List ℕ
of_truth false = 0 ∷ []
of_truth true = 1 ∷ []

-- bytes: their length, then they themselves
abbrev pub of_bytes : List ℕ → List ℕ
of_bytes t = of_number (length t) ++ t

abbrev pub AreBytes : List ℕ → Type 0
AreBytes t = length t < 2 ^ 64

-- a text is bytes in UTF-8
abbrev pub IsText : List ℕ → Type 0
IsText t = AreBytes t × IsUtf8 t

-- a list: its count, then its items
abbrev pub of_list : {A : Type 0} → (A → List ℕ) → List A → List ℕ
of_list of xs = of_number (length xs) ++ flat_map of xs

abbrev pub IsList : {A : Type 0} → (A → Type 0) → List A → Type 0
IsList Is xs = (length xs < 2 ^ 64) × Each Is xs

-- an optional item: the byte 0, or 1 and the item
abbrev pub of_option : {A : Type 0} → (A → List ℕ) → Option A → List ℕ
of_option of None = 0 ∷ []
of_option of (Some x) = 1 ∷ of x

abbrev pub IsOption : {A : Type 0} → (A → Type 0) → Option A → Type 0
IsOption Is None = ⊤
IsOption Is (Some x) = Is x
