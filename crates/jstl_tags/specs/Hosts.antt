-- The elements around a node, as the program has them.
use Rattle.jstl_tags.specs.declared.host.Host.{Host as Made}
use Rattle.jstl_tags.specs.declared.host.Host.TheVariants as made
use Rattle.jstl_tags.specs.Around.{Host, core_host, standard_host, call_host, other_host}

abbrev pub host_made : Made → Host
host_made (made.Core core otherwise) = core_host core otherwise
host_made (made.Standard name) = standard_host name.now
host_made made.Call = call_host
host_made made.Other = other_host
