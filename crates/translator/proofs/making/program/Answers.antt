use Rattle.std.proofs.Common.{sym, subst}
use Rattle.page_code.specs.Fits.{CodeFits}
use Rattle.code_lowering.specs.Programs.{code_of, file_place}
use Rattle.unit_meaning.specs.Shape.{nodes_of as shape_of, page_of}
use Rattle.unit_nodes.specs.Views.{nodes_of, page_view}
use Rattle.translator.proofs.making.program.Goals as goal

pub file_code-requires : goal.file_code-requires
file_code-requires c =
    let page = page_of (page_view c.args.page.now) in
    subst (λ nodes. CodeFits (code_of page (file_place c.args.page.now.path) (shape_of (nodes_of nodes)))) (sym c.deref.ensures.value) (c.programs.ensures.fit page).0
