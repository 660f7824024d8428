use Rattle.std.proofs.Common.{ap, sym, ◌∙◌, map, reverse, string_bytes}
use Rattle.std.proofs.lemmas.List.{take-map}
use Rattle.out_buffer.proofs.KeptLemmas.{reverse-take}
use Rattle.out_buffer.proofs.bodies.Bodies.truncate.Goals as goal

pub returns : goal.returns
returns c =
    rw (← c.self.view_is, c.truncate.ensures.items)
    (ap reverse (sym (take-map string_bytes c.args.left c.self.inside.items.items)) ∙ reverse-take c.args.left (map string_bytes c.self.inside.items.items))
