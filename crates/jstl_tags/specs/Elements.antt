-- An element apart from its body.
use Rattle.page_reader.specs.declared.node.Element.{Element}
use Rattle.page_reader.specs.Trees.{Opened}

abbrev pub opened_of : Element → Opened
opened_of e = record { tag = record { prefix = e.prefix; name = e.name; attributes = e.attributes }; closing = e.closing; source = e.source; place = e.place }
