-- An answer that holds more.
use Rattle.std.proofs.Common.{Result, Ok, Err, IfOk, OnOk}

pub if_ok : {A : Type 0} {E : Type 0} {P Q : A → Type 0} (r : Result A E) → IfOk r P → ((x : A) → P x → Q x) → IfOk r Q
if_ok (Ok x) is more = more x is
if_ok (Err e) is more = is

pub on_ok : {A : Type 0} {E : Type 0} {P Q : Type 0} (r : Result A E) → OnOk r P → (P → Q) → OnOk r Q
on_ok (Ok x) is more = more is
on_ok (Err e) is more = is
