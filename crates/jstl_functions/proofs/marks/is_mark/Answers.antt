use Rattle.jstl_functions.proofs.Searched.{found}
use Rattle.jstl_functions.proofs.marks.is_mark.Goals as goal

pub returns : goal.returns
returns c =
    let is = found c.args.marks.now c.args.c c.binary_search.result c.requires c.binary_search.ensures.position in
    cc
