use Rattle.std.proofs.Common.{arith, map, sym, subst}
use Rattle.page_code.specs.Fits.{CodeFits}
use Rattle.code_lowering.specs.Programs.{code_of, file_place, tag_code_of}
use Rattle.unit_meaning.specs.Shape.{nodes_of as shape_of, page_of, tag_of}
use Rattle.page_table.specs.Checked.{TagsFit}
use Rattle.unit_nodes.specs.Views.{nodes_of, page_view, tag_view}
use Rattle.translator.proofs.TagLemmas.{fits_at}
use Rattle.translator.proofs.making.tag_programs.Goals as goal

pub file_code-requires : goal.file_code-requires
file_code-requires c =
    let page = page_of (page_view c.args.page.now) in
    subst (λ nodes. CodeFits (code_of page (file_place c.tag-item.result.path) (shape_of (nodes_of nodes)))) (sym c.deref.ensures.value)
    (fits_at page c.deref-tag-items.result.now c.loop-tag.tag-index c.tag-item.result (omega arith) c.tag-item.is
    (subst (λ tags. TagsFit (map (tag_code_of page) (map tag_of (map tag_view tags)))) (sym c.deref-tag-items.ensures.value) (c.programs.ensures.fit page).1))
