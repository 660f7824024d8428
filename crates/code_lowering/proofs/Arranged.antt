-- The values that are wanted, brought above the others, which are taken away.
use Rattle.std.proofs.Common.{◌≡◌, ℕ, suc, ◌+◌, Bool, true, false, List, [], ◌∷◌, ◌++◌, length, Some, None, Option, bytes_eq, refl, sym, ap, ◌∙◌, subst, arith, append_assoc, length-append}
use Rattle.std.specs.Prelude.{slice_get, take, drop, cond}
use Rattle.std.specs.Option.{option_or}
use Rattle.std.proofs.lemmas.Slice.Eq.{bytes_eq-Decides}
use Rattle.el_ops.specs.Indexing.{or_null}
use Rattle.page_code.specs.Shapes.{cell, up}
use Rattle.page_code.specs.declared.code.Cell.{Cell}
use Rattle.page_code.specs.declared.instr.Instr.TheVariants as instr
use Rattle.page_code.specs.declared.op.Op.TheVariants as op
use Rattle.page_code.specs.declared.shape.Shape.{Shape}
use Rattle.page_meaning.specs.Attributes.{Values, table_onto, table_of, value_at}
use Rattle.page_meaning.specs.Context.{Deeper}
use Rattle.page_table.specs.Act.{brought_up}
use Rattle.page_table.specs.Landing.{Running}
use Rattle.page_table.specs.Move.{On}
use Rattle.page_table.specs.Open.{Open}
use Rattle.page_table.specs.Program.{Serving}
use Rattle.page_table.specs.Seat.{Seat}
use Rattle.pg_text.specs.declared.place.Place.{Place}
use Rattle.pg_value.specs.Attrs.{entry_at}
use Rattle.pg_value.specs.Datum.{Datum, null}
use Rattle.pg_value.specs.declared.value.Value.TheVariants as value
use Rattle.code_forms.specs.Codes.{Parted, parted_with, parted, brought_code, dropped_code, put_code, arranged_code}
use Rattle.code_forms.specs.Forms.{arranged}
use Rattle.code_lowering.proofs.Goes.{Goes, well}
use Rattle.code_lowering.proofs.Parts.{Does, onto, onto_append, none_does, one_does, then_does, restacks}
use Rattle.code_lowering.proofs.Reach.{step_land}

-- values with their names, in the order in which they were pushed
abbrev pub Named : Type 0
Named = List (List ℕ × Datum)

abbrev pub names_of : Named → List (List ℕ)
names_of [] = []
names_of (e ∷ es) = e.0 ∷ names_of es

abbrev pub values_of : Named → List Datum
values_of [] = []
values_of (e ∷ es) = e.1 ∷ values_of es

-- names and values as one list
pub record Paired (names : List (List ℕ)) (ds : List Datum) : Type 0 where
  pub named : Named
  pub names_are : names_of named ≡ names
  pub values_are : values_of named ≡ ds

pub paired : (names : List (List ℕ)) (ds : List Datum) → length ds ≡ length names → Paired names ds
paired [] [] e = record { named = []; names_are = refl; values_are = refl }
paired [] (d ∷ ds) e = absurd (omega (arith, e))
paired (n ∷ names) [] e = absurd (omega (arith, e))
paired (n ∷ names) (d ∷ ds) e =
    let h = paired names ds (omega (arith, e)) in
    record { named = (n, d) ∷ h.named; names_are = ap (λ l. n ∷ l) h.names_are; values_are = ap (λ l. d ∷ l) h.values_are }

-- the value of a name, the last of that name
abbrev pub later : Option Datum → Bool → Datum → Option Datum
later (Some d) same x = Some d
later None true x = Some x
later None false x = None

abbrev pub last_at : List ℕ → Named → Option Datum
last_at w [] = None
last_at w (e ∷ es) = later (last_at w es) (bytes_eq w e.0) e.1

-- the wanted values, null for one that isn't there
abbrev pub wants : (wanted : List (List ℕ)) → Named → List Datum
wants [] es = []
wants (w ∷ wanted) es = or_null (last_at w es) ∷ wants wanted es

-- no two of the wanted names are the same
abbrev pub Apart : List ℕ → List (List ℕ) → Type 0
Apart w [] = Unit {0}
Apart w (v ∷ vs) = (bytes_eq v w ≡ false) × Apart w vs

abbrev pub Distinct : List (List ℕ) → Type 0
Distinct [] = Unit {0}
Distinct (w ∷ wanted) = Apart w wanted × Distinct wanted

-- where a name was parted from the others
record Found (w : List ℕ) (es : Named) (p : Parted) : Type 0 where
  front : Named
  name : List ℕ
  datum : Datum
  back : Named
  are : es ≡ front ++ (name, datum) ∷ back
  before : p.before ≡ names_of front
  behind : p.behind ≡ names_of back
  same : bytes_eq w name ≡ true
  last : last_at w es ≡ Some datum

abbrev Split : List ℕ → Named → Option Parted → Type 0
Split w es None = last_at w es ≡ None
Split w es (Some p) = Found w es p

split_with : (w : List ℕ) (e : List ℕ × Datum) (es : Named) (r : Option Parted) (same : Bool) → bytes_eq w e.0 ≡ same → Split w es r → Split w (e ∷ es) (parted_with e.0 (names_of es) r same)
split_with w e es (Some p) same h f = record {
  front = e ∷ f.front;
  name = f.name;
  datum = f.datum;
  back = f.back;
  are = ap (λ l. e ∷ l) f.are;
  before = ap (λ l. e.0 ∷ l) f.before;
  behind = f.behind;
  same = f.same;
  last = ap (λ x. later x (bytes_eq w e.0) e.1) f.last;
}
split_with w e es None true h f = record {
  front = [];
  name = e.0;
  datum = e.1;
  back = es;
  are = refl;
  before = refl;
  behind = refl;
  same = h;
  last = ap (λ x. later x (bytes_eq w e.0) e.1) f ∙ ap (λ b. later None b e.1) h;
}
split_with w e es None false h f = ap (λ x. later x (bytes_eq w e.0) e.1) f ∙ ap (λ b. later None b e.1) h

splits : (w : List ℕ) (es : Named) → Split w es (parted w (names_of es))
splits w [] = refl
splits w (e ∷ es) = split_with w e es (parted w (names_of es)) (bytes_eq w e.0) refl (splits w es)

later_false : (r : Option Datum) (x : Datum) → later r false x ≡ r
later_false (Some d) x = refl
later_false None x = refl

-- a value of another name is found as well without this one
last_without : (v : List ℕ) (front : Named) (e : List ℕ × Datum) (back : Named) → bytes_eq v e.0 ≡ false → last_at v (front ++ e ∷ back) ≡ last_at v (front ++ back)
last_without v [] e back h = ap (λ b. later (last_at v back) b e.1) h ∙ later_false (last_at v back) e.1
last_without v (x ∷ front) e back h = ap (λ r. later r (bytes_eq v x.0) x.1) (last_without v front e back h)

wants_without : (w : List ℕ) (wanted : List (List ℕ)) (front : Named) (e : List ℕ × Datum) (back : Named) → bytes_eq w e.0 ≡ true → Apart w wanted
    → wants wanted (front ++ e ∷ back) ≡ wants wanted (front ++ back)
wants_without w [] front e back h apart = refl
wants_without w (v ∷ wanted) front e back h apart =
    let other : bytes_eq v e.0 ≡ false = subst (λ n. bytes_eq v n ≡ false) ((bytes_eq-Decides w e.0).0 h) apart.0 in
    ap (λ x. or_null x ∷ wants wanted (front ++ e ∷ back)) (last_without v front e back other) ∙ ap (λ l. or_null (last_at v (front ++ back)) ∷ l) (wants_without w wanted front e back h apart.1)

-- what the meaning finds under a name
entry_onto : (w : List ℕ) (es : Named) (table : Values) → entry_at w (table_onto table (names_of es) (values_of es)) ≡ option_or (last_at w es) (entry_at w table)
entry_onto w [] table = refl
entry_onto w (e ∷ es) table = entry_onto w es (e ∷ table) ∙ first_or (last_at w es) (bytes_eq w e.0) refl
  where
    first_or : (r : Option Datum) (b : Bool) → bytes_eq w e.0 ≡ b → option_or r (entry_at w (e ∷ table)) ≡ option_or (later r b e.1) (entry_at w table)
    first_or (Some d) b h = refl
    first_or None true h = ap (λ b. cond b (Some e.1) (entry_at w table)) h
    first_or None false h = ap (λ b. cond b (Some e.1) (entry_at w table)) h

pub value_is : (w : List ℕ) (es : Named) → value_at w (table_of (names_of es) (values_of es)) ≡ last_at w es
value_is w es = entry_onto w es [] ∙ or_none (last_at w es)
  where
    or_none : (r : Option Datum) → option_or r None ≡ r
    or_none (Some d) = refl
    or_none None = refl

get_seam : (top : List Datum) (d : Datum) (rest : List Datum) → slice_get (top ++ d ∷ rest) (length top) ≡ Some d
get_seam [] d rest = refl
get_seam (x ∷ top) d rest = get_seam top d rest

take_seam : (top rest : List Datum) → take (length top) (top ++ rest) ≡ top
take_seam [] [] = refl
take_seam [] (x ∷ rest) = refl
take_seam (x ∷ top) rest = ap (λ l. x ∷ l) (take_seam top rest)

drop_seam : (top : List Datum) (d : Datum) (rest : List Datum) → drop (suc (length top)) (top ++ d ∷ rest) ≡ rest
drop_seam [] d rest = refl
drop_seam (x ∷ top) d rest = drop_seam top d rest

onto_length : (ds top : List Datum) → length (onto ds top) ≡ length ds + length top
onto_length [] top = omega arith
onto_length (d ∷ ds) top = let e = onto_length ds (d ∷ top) in omega (arith, e)

pub values_length : (es : Named) → length (values_of es) ≡ length (names_of es)
values_length [] = refl
values_length (e ∷ es) = ap suc (values_length es)

onto_values : (front back : Named) (top : List Datum) → onto (values_of (front ++ back)) top ≡ onto (values_of back) (onto (values_of front) top)
onto_values [] back top = refl
onto_values (e ∷ front) back top = onto_values front back (e.1 ∷ top)

names_append : (front back : Named) → names_of (front ++ back) ≡ names_of front ++ names_of back
names_append [] back = refl
names_append (e ∷ front) back = ap (λ l. e.0 ∷ l) (names_append front back)

module _ {serving : Serving} {seat : Seat} where
  -- the value below so many others comes to the top
  brought_does : (sh : Shape) (place : Place) (o : Open) (top : List Datum) (d : Datum) (rest : List Datum)
      → Does serving seat (brought_code sh place (length top)) (record o { stack = top ++ d ∷ rest }) (λ u. d ∷ (top ++ rest)) o well
  brought_does sh place o [] d rest = none_does {o = o} {st = λ (u : Unit {0}). d ∷ rest} tt
  brought_does sh place o (t ∷ top) d rest =
      let n = length (t ∷ top) in
      let stack = t ∷ (top ++ d ∷ rest) in
      let from = record o { stack = stack } in
      let e : n + 1 ≡ suc n = omega arith in
      let moved : take n stack ++ drop (n + 1) stack ≡ (t ∷ top) ++ rest =
      ap (λ k. take n stack ++ drop k stack) e ∙ ap (λ l. l ++ drop (suc n) stack) (take_seam (t ∷ top) (d ∷ rest)) ∙ ap (λ l. (t ∷ top) ++ l) (drop_seam (t ∷ top) d rest) in
      one_does _ (λ pc s has. step_land {st = λ u. d ∷ ((t ∷ top) ++ rest)} {w = well s} has
      (ap (λ r. brought_up r n (pc + 1) s from) (get_seam (t ∷ top) d rest) ∙ ap (λ l. On (Running (pc + 1) s (record o { stack = d ∷ l }))) moved))

  pop_does : (sh : Shape) (place : Place) (o : Open) (d : Datum) (rest : List Datum) → Does serving seat (cell sh place (instr.Op op.Pop) ∷ []) (record o { stack = d ∷ rest }) (λ u. rest) o well
  pop_does sh place o d rest = one_does _ (λ pc s has. step_land {st = λ u. rest} {w = well s} has refl)

  then_well : {o : Open} {mid after : List Datum} {from : Open} (c1 c2 : List Cell) → Does serving seat c1 from (λ u. mid) o well
      → Does serving seat c2 (record o { stack = mid }) (λ u. after) o well → Does serving seat (c1 ++ c2) from (λ u. after) o well
  then_well c1 c2 f g = then_does {m = well} {k = λ u s. well s} c1 c2 f (λ u. g)

  -- the values below so many others are taken away
  dropped_does : (sh : Shape) (place : Place) (o : Open) (top zs rest : List Datum)
      → Does serving seat (dropped_code sh place (length top) (length zs)) (record o { stack = top ++ (zs ++ rest) }) (λ u. top ++ rest) o well
  dropped_does sh place o top [] rest = none_does {o = o} {st = λ (u : Unit {0}). top ++ rest} tt
  dropped_does sh place o top (z ∷ zs) rest =
      let here = up (suc (length zs) + length top) sh in
      then_well (brought_code here place (length top)) _ (brought_does here place o top z (zs ++ rest))
      (then_well (cell here place (instr.Op op.Pop) ∷ []) (dropped_code sh place (length top) (length zs)) (pop_does here place o z (top ++ (zs ++ rest))) (dropped_does sh place o top zs rest))

  -- one wanted value comes above those that were put there
  put_does : (sh : Shape) (place : Place) (o : Open) (w : List ℕ) (wanted : List (List ℕ)) → Apart w wanted
      → (es : Named) (done : List Datum) (r : Option Parted) (rest : List (List ℕ) → List Cell) → Split w es r
      → ((others : Named) (d : Datum) → Does serving seat (rest (names_of others)) (record o { stack = (d ∷ done) ++ (onto (values_of others) [] ++ o.stack) })
      (λ u. onto (wants wanted others) (d ∷ done) ++ o.stack) o well)
      → Does serving seat (put_code sh place (names_of es) (length done) r rest) (record o { stack = done ++ (onto (values_of es) [] ++ o.stack) })
      (λ u. onto (wants (w ∷ wanted) es) done ++ o.stack) o well
  put_does sh place o w wanted apart es done None rest f g =
      let here = up (length (names_of es) + length done) sh in
      let from = record o { stack = done ++ (onto (values_of es) [] ++ o.stack) } in
      let null_does =
      one_does {o = o} {st = λ (u : Unit {0}). null ∷ from.stack} {from = from} {m = well} (cell here place (instr.Op (op.Const value.Null)))
      (λ pc s has. step_land {st = λ u. null ∷ from.stack} {w = well s} has refl) in
      restacks (λ u. ap (λ x. onto (wants wanted es) (or_null x ∷ done) ++ o.stack) (sym f))
      (then_well (cell here place (instr.Op (op.Const value.Null)) ∷ []) (rest (names_of es)) null_does (g es null))
  put_does sh place o w wanted apart es done (Some p) rest f g =
      let here = up (length (names_of es) + length done) sh in
      let others = f.front ++ f.back in
      let top = done ++ onto (values_of f.back) [] in
      let below = onto (values_of f.front) [] ++ o.stack in
      let all = done ++ (onto (values_of es) [] ++ o.stack) in
      let split : onto (values_of es) [] ≡ onto (values_of f.back) [] ++ f.datum ∷ onto (values_of f.front) [] =
      ap (λ l. onto (values_of l) []) f.are ∙ onto_values f.front ((f.name, f.datum) ∷ f.back) [] ∙ sym (onto_append (values_of f.back) [] (f.datum ∷ onto (values_of f.front) [])) in
      let joined : onto (values_of others) [] ≡ onto (values_of f.back) [] ++ onto (values_of f.front) [] =
      onto_values f.front f.back [] ∙ sym (onto_append (values_of f.back) [] (onto (values_of f.front) [])) in
      let stands : top ++ f.datum ∷ below ≡ all =
      append_assoc done (onto (values_of f.back) []) (f.datum ∷ below)
      ∙ sym (ap (λ l. done ++ l) (ap (λ l. l ++ o.stack) split ∙ append_assoc (onto (values_of f.back) []) (f.datum ∷ onto (values_of f.front) []) o.stack)) in
      let after : top ++ below ≡ done ++ (onto (values_of others) [] ++ o.stack) =
      append_assoc done (onto (values_of f.back) []) below
      ∙ sym (ap (λ l. done ++ l) (ap (λ l. l ++ o.stack) joined ∙ append_assoc (onto (values_of f.back) []) (onto (values_of f.front) []) o.stack)) in
      let depth : length top ≡ length p.behind + length done =
      let a = length-append done (onto (values_of f.back) []) in let b = onto_length (values_of f.back) [] in let c = values_length f.back in let e = ap length f.behind in omega (arith, a, b, c, e) in
      let named : names_of others ≡ p.before ++ p.behind = names_append f.front f.back ∙ sym (ap (λ l. l ++ names_of f.back) f.before) ∙ sym (ap (λ l. p.before ++ l) f.behind) in
      let first = brought_does here place o top f.datum below in
      let first2 = subst (λ k. Does serving seat (brought_code here place k) (record o { stack = top ++ f.datum ∷ below }) (λ u. f.datum ∷ (top ++ below)) o well) depth first in
      let first3 = subst (λ v. Does serving seat (brought_code here place (length p.behind + length done)) (record o { stack = v }) (λ u. f.datum ∷ (top ++ below)) o well) stands first2 in
      let first4 = subst (λ v. Does serving seat (brought_code here place (length p.behind + length done)) (record o { stack = all }) (λ u. f.datum ∷ v) o well) after first3 in
      let second =
      subst (λ names. Does serving seat (rest names) (record o { stack = (f.datum ∷ done) ++ (onto (values_of others) [] ++ o.stack) })
      (λ u. onto (wants wanted others) (f.datum ∷ done) ++ o.stack) o well) named (g others f.datum) in
      let e1 : wants wanted es ≡ wants wanted others = ap (wants wanted) f.are ∙ wants_without w wanted f.front (f.name, f.datum) f.back f.same apart in
      restacks (λ u. ap (λ x. onto (wants wanted others) (or_null x ∷ done) ++ o.stack) (sym f.last) ∙ ap (λ l. onto l (or_null (last_at w es) ∷ done) ++ o.stack) (sym e1))
      (then_well (brought_code here place (length p.behind + length done)) (rest (p.before ++ p.behind)) first4 second)

  -- the wanted values come above those that were put there, and the others go
  arranged_does : (sh : Shape) (place : Place) (o : Open) (wanted : List (List ℕ)) → Distinct wanted → (es : Named) (done : List Datum)
      → Does serving seat (arranged_code sh place wanted (names_of es) (length done)) (record o { stack = done ++ (onto (values_of es) [] ++ o.stack) })
      (λ u. onto (wants wanted es) done ++ o.stack) o well
  arranged_does sh place o [] distinct es done =
      let zs = onto (values_of es) [] in
      let e : length zs ≡ length (names_of es) = let a = onto_length (values_of es) [] in let b = values_length es in omega (arith, a, b) in
      subst (λ n. Does serving seat (dropped_code sh place (length done) n) (record o { stack = done ++ (zs ++ o.stack) }) (λ u. done ++ o.stack) o well) e (dropped_does sh place o done zs o.stack)
  arranged_does sh place o (w ∷ wanted) distinct es done =
      put_does sh place o w wanted distinct.0 es done (parted w (names_of es)) (λ others. arranged_code sh place wanted others (suc (length done))) (splits w es)
      (λ others d. arranged_does sh place o wanted distinct.1 others (d ∷ done))

module _ (serving : Serving) (seat : Seat) (deep : ℕ → Deeper) (Calls : ℕ → Type 0) where
  pub arranged_goes : (place : Place) (wanted : List (List ℕ)) → Distinct wanted → (es : Named)
      → Goes serving seat deep Calls (arranged wanted (names_of es) place) (onto (values_of es) []) (λ u. onto (wants wanted es) []) (λ dp s. well s)
  arranged_goes place wanted distinct es = record { by = λ sh o fits calls. arranged_does sh place o wanted distinct es [] }
