use Rattle.std.proofs.Common.{refl, ap}
use Rattle.std.specs.Prelude.{◌++◌, ◌∷◌, flat_map}
use Rattle.std.proofs.lemmas.List.{append-nil}
use Rattle.http_out.specs.Head.{head_text, chunked}
use Rattle.http_out.specs.Response.{whole, opening, chunk}
use Rattle.http_out.proofs.law.parts_join.Goals as goal

pub returns : goal.returns
unfolding whole opening
returns c = record {
  at_once = λ head body broken shown. refl;
  in_chunks = λ head piece pieces rest. refl;
  broken = λ head piece pieces rest. ap (λ text. head_text head chunked ++ text) (append-nil (flat_map chunk (piece ∷ pieces)));
  alone = λ head piece pieces rest broken. append-nil (head_text head chunked);
}
