use Rattle.std.proofs.Common.{◌≡◌, drop}
use Rattle.std.specs.List.{list_any}
use Rattle.std.specs.declared.option.Option.TheVariants.{Some}
use Rattle.http_in.specs.Target.{is_mark}
use Rattle.run_values.proofs.addresses.url.Given as goal
use Rattle.page_meaning.specs.Addresses.{url_with}
use Rattle.page_meaning.specs.Attributes.{text_in}
use Rattle.pg_value.specs.Value.{datum_of}

abbrev pub invariant-loop-param : goal.invariant-loop-param
invariant-loop-param l = (url_with l.url (drop l.param-index l.param-items) ≡ url_with (text_in (Some (datum_of l.address))) l.param-items) × (l.marked ≡ list_any is_mark l.url)
