-- An address with a param behind it has a question mark.
use Rattle.std.proofs.Common.{◌≡◌, ℕ, Bool, true, false, List, ◌++◌, codes, Result, Ok, Err, IfOk, refl, sym, ap, ◌∙◌, inl, inr}
use Rattle.std.specs.Prelude.{◌||◌, if◌then◌else◌}
use Rattle.std.specs.List.{list_any}
use Rattle.std.proofs.lemmas.Bool.{cases_Bool}
use Rattle.std.proofs.lemmas.List.Folds.{list_any-append}
use Rattle.el_coercion.specs.Text.{made}
use Rattle.http_in.specs.Target.{is_mark}
use Rattle.pg_text.specs.Failure.{Answers}
use Rattle.pg_text.specs.declared.failure.Failure.{Failure}
use Rattle.pg_value.specs.Datum.{text}
use Rattle.pg_value.specs.Limits.{is_over}
use Rattle.pg_value.specs.declared.fault.RunFault.{RunFault}
use Rattle.pg_value.specs.declared.fault.RunFault.TheVariants as fault

-- what joins a param to an address that has a question mark, or none
abbrev pub mark_by : Bool → List ℕ
mark_by has = if has then codes "&" else codes "?"

joined_mark : (has : Bool) → (has || list_any is_mark (mark_by has)) ≡ true
joined_mark true = refl
joined_mark false = refl

-- a question mark stays where more is put behind
stays : (t more : List ℕ) → list_any is_mark t ≡ true → list_any is_mark (t ++ more) ≡ true
stays t more has = list_any-append is_mark t more ∙ ap (λ h. h || list_any is_mark more) has

is_marked : (url mark : List ℕ) (has : Bool) → has ≡ list_any is_mark url → mark ≡ mark_by has → list_any is_mark (url ++ mark) ≡ true
is_marked url mark has is_has is_mark_of =
    list_any-append is_mark url mark ∙ ap (λ h. h || list_any is_mark mark) (sym is_has) ∙ ap (λ m. has || list_any is_mark m) is_mark_of ∙ joined_mark has

-- a text that was made is that text
made_is : (t m : List ℕ) → made t ≡ Ok m → m ≡ t
made_is t m h = elim (cases_Bool (is_over (text t))) [
  | inl over ↦ (let no : Err fault.ValueTooLarge ≡ Ok m = rw over at h in absurd (cc))
  | inr fits ↦ (let is : Ok t ≡ Ok m = rw fits at h in ap (λ r. unwrap_ok_or r t) (sym is))
]
  where
    unwrap_ok_or : Result (List ℕ) RunFault → List ℕ → List ℕ
    unwrap_ok_or (Ok x) other = x
    unwrap_ok_or (Err fault) other = other

-- what is made of an address, what joins, and a param has a question mark
pub stays_marked : (url mark name value : List ℕ) (has : Bool) (r : Result (List ℕ) (Failure RunFault)) → has ≡ list_any is_mark url → mark ≡ mark_by has
    → Answers (made (url ++ mark ++ name ++ codes "=" ++ value)) r → IfOk r (λ m. true ≡ list_any is_mark m)
stays_marked url mark name value has (Ok m) is_has is_mark_of h =
    let marked : list_any is_mark (url ++ mark) ≡ true = is_marked url mark has is_has is_mark_of in
    let all : list_any is_mark (url ++ mark ++ name ++ codes "=" ++ value) ≡ true =
    stays (url ++ mark ++ name ++ codes "=") value (stays (url ++ mark ++ name) (codes "=") (stays (url ++ mark) name marked)) in
    sym (ap (list_any is_mark) (made_is (url ++ mark ++ name ++ codes "=" ++ value) m h) ∙ all)
stays_marked url mark name value has (Err e) is_has is_mark_of h = tt
