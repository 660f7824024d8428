use Rattle.std.proofs.Common.{rules, ◌≡◌, subst, sym}
use Rattle.run_world.specs.Part.{Doing}
use Rattle.page_meaning.specs.Bodies.{put_text}
use Rattle.pg_text.specs.Escape.{escaped}
use Rattle.run_world.proofs.Adds.{put_text_adds}
use Rattle.run_world.proofs.Parts.{short_at}
use Rattle.run_parts.proofs.output.put_escaped.Goals as goal

pub returns-then-is_plain_xml-clause-does : goal.returns-then-is_plain_xml-clause-does
returns-then-is_plain_xml-clause-does g c =
    subst (λ t. Doing g.W.World.reached g.W.World.replies (λ u. u) (λ place. put_text place t) c.args.world.now c.put.new.self c.put.result) (sym (c.is_plain_xml.ensures.same c.if-is_plain_xml.true)) c.put.ensures.does

pub returns-in_err-escaped-clause-does : goal.returns-in_err-escaped-clause-does
returns-in_err-escaped-clause-does g c = short_at c.args.world.now c.from_residual.result c.from_residual.ensures.1 (λ place. put_text_adds place (escaped c.args.text.now))

pub returns-clause-does : goal.returns-clause-does
returns-clause-does g c =
    let e : c.deref.result.now ≡ escaped c.args.text.now = search rules in
    subst (λ t. Doing g.W.World.reached g.W.World.replies (λ u. u) (λ place. put_text place t) c.args.world.now c.put-2.new.self c.put-2.result) e c.put-2.ensures.does
