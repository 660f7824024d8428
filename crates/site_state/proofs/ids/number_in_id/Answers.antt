use Rattle.std.proofs.Common.{◌≡◌, ◌<◌, ◌^◌, true, length, take, sym, ap, subst, ◌∙◌, arith}
use Rattle.std.specs.Str.{bytes_eq}
use Rattle.site_words.specs.Ids.{hex_digits}
use Rattle.site_state.proofs.Digits.{id_front}
use Rattle.site_state.proofs.ids.number_in_id.Goals as goal

pub returns-in-Some : goal.returns-in-Some
returns-in-Some c seed number small is =
    let part = c.in-Some.ensures.lookup.0 in
    let front : c.in-Some.front.now ≡ take 16 c.args.cookie.now = part.2 ∙ ap (take 16) c.as_bytes.ensures in
    let length_is = part.3 in
    let long : length c.in-Some.front.now ≡ 16 = omega arith in
    c.read_hex.ensures number small (subst (λ k. number < 16 ^ k) (sym long) small)
    (subst (λ k. bytes_eq (hex_digits k number) c.in-Some.front.now ≡ true) (sym long) (subst (λ l. bytes_eq (hex_digits 16 number) l ≡ true) (sym front) (id_front seed number c.args.cookie.now is)))
