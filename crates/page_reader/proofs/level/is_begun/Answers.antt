use Rattle.std.proofs.Common.{◌≡◌, true}
use Rattle.page_pieces.specs.Tags.{CouldEnd}
use Rattle.page_reader.proofs.StopLemmas.{could_is}
use Rattle.page_reader.proofs.level.is_begun.Goals as goal

pub returns : goal.returns
returns c =
    let yes : c.could_end.result ≡ true → CouldEnd c.args.prefix.now c.args.name.now c.args.text.now = rw (c.as_str.ensures, c.as_str-2.ensures) at c.could_end.ensures.yes in
    let no : CouldEnd c.args.prefix.now c.args.name.now c.args.text.now → c.could_end.result ≡ true = rw (c.as_str.ensures, c.as_str-2.ensures) at c.could_end.ensures.no in
    could_is c.could_end.result c.args.prefix.now c.args.name.now c.args.text.now yes no
