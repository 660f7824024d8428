use Rattle.std.proofs.Common.{◌≡◌, ◌∙◌, sym, ap, take, drop, length, ◌-◌, List, ℕ, Some, Bor, length-drop, arith, rules, tests}
use Rattle.std.specs.Prelude.{◌==◌}
use Rattle.std.specs.Option.{option_map}
use Rattle.std.proofs.lemmas.List.{take_all}
use Rattle.std.proofs.lemmas.Iterator.Search.{find_from_yields_List}
use Rattle.std.proofs.lemmas.Iterator.Splits.{YieldsList-from_slice_split}
use Rattle.httparse.specs.Grammar.{trim_ows}
use Rattle.http_in.specs.Cookie.{is_session}
use Rattle.http_in.proofs.cookie.session_in.Goals as goal

-- the value of a piece
abbrev value_of : List ℕ → List ℕ
value_of piece = drop 11 (trim_ows piece)

pub returns-in_err-piece : goal.returns-in_err-piece
returns-in_err-piece c =
    let found =
    find_from_yields_List is_session _ _ c.find.result c.find.ensures.ran
    (YieldsList-from_slice_split _ (λ b. b == 59) c.args.value.now c.split.ensures.rest c.split.ensures.done c.split.ensures.closure (λ x b q k. search (rules, tests)))
    (λ x b q k. search (rules, tests)) in
    ap (option_map (λ (x : Bor (List ℕ)). x.now)) c.from_residual.ensures ∙ ap (option_map value_of) (ap (option_map (λ (x : Bor (List ℕ)). x.now)) (sym c.in_err-piece.was) ∙ found)

pub returns : goal.returns
returns c =
    let found =
    find_from_yields_List is_session _ _ c.find.result c.find.ensures.ran
    (YieldsList-from_slice_split _ (λ b. b == 59) c.args.value.now c.split.ensures.rest c.split.ensures.done c.split.ensures.closure (λ x b q k. search (rules, tests)))
    (λ x b q k. search (rules, tests)) in
    let piece : List ℕ = c.trim.result.now in
    let rest : take (length piece - 11) (drop 11 piece) ≡ drop 11 piece = take_all (length piece - 11) (drop 11 piece) (omega (arith, length-drop 11 piece)) in
    ap Some (rest ∙ ap (drop 11) c.trim.ensures) ∙ ap (option_map value_of) (ap (option_map (λ (x : Bor (List ℕ)). x.now)) (sym c.in_ok-piece.was) ∙ found)
