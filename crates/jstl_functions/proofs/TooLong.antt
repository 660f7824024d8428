-- A text that grew beyond the limits of a value makes a value beyond them.
use Rattle.std.proofs.Common.{◌≡◌, ℕ, ◌+◌, ◌<◌, Bool, true, false, cond, List, ◌++◌, length, Ok, Err, ap, arith, length-append}
use Rattle.std.proofs.lemmas.Bool.{cond-true}
use Rattle.std.proofs.lemmas.Bool.Decides.{nat_tests}
use Rattle.pg_value.specs.Datum.{text}
use Rattle.pg_value.specs.Limits.{is_over, max_weight}
use Rattle.pg_value.specs.declared.fault.RunFault.{RunFault}
use Rattle.pg_value.specs.declared.fault.RunFault.TheVariants as fault
use Rattle.el_coercion.specs.Text.{made}
use Rattle.jstl_functions.specs.Functions.{measured}

heavy : (s : List ℕ) → max_weight < 16 + length s → is_over (text s) ≡ true
heavy s lt = grind (arith, nat_tests)

too_long : (s : List ℕ) → max_weight < 16 + length s → made s ≡ Err fault.ValueTooLarge
too_long s lt = cond-true (is_over (text s)) _ _ (heavy s lt)

-- a text that is too long already, and what comes behind it
pub too_long_already : (whole front rest : List ℕ) → is_over (text front) ≡ true → whole ≡ front ++ rest → made whole ≡ Err fault.ValueTooLarge
too_long_already whole front rest over is = too_long whole (omega (arith, beyond front over, ap length is, length-append front rest))
  where
    beyond : (front : List ℕ) → is_over (text front) ≡ true → max_weight < 16 + length front
    beyond front over = grind (arith, nat_tests)

-- a made text is a measured value
pub measured_text : (s t : List ℕ) → made s ≡ Ok t → measured (text s) ≡ Ok (text t)
measured_text s t is = go (is_over (text s)) is
  where
    go : (over : Bool) → cond over (Err fault.ValueTooLarge) (Ok s) ≡ Ok t → cond over (Err fault.ValueTooLarge) (Ok (text s)) ≡ Ok (text t)
    go true is = cc
    go false is = cc

pub measured_fault : (s : List ℕ) (f : RunFault) → made s ≡ Err f → measured (text s) ≡ Err f
measured_fault s f is = go (is_over (text s)) is
  where
    go : (over : Bool) → cond over (Err fault.ValueTooLarge) (Ok s) ≡ Err f → cond over (Err fault.ValueTooLarge) (Ok (text s)) ≡ Err f
    go true is = cc
    go false is = cc

pub ruleset measures = (measured_text, measured_fault)
