-- The parameters of a page run.
use Rattle.std.specs.Prelude.{List, ◌++◌}
use Rattle.http_in.specs.declared.params.Param.{Param}
use Rattle.run_world.specs.declared.params.Params.{Params, Listed, Before'}

-- as one list: a page's own, then those of the page that includes it
abbrev pub params_of : Params → List Param
params_of (Listed own) = own.now
params_of (Before' own q rest) = own.now ++ params_of rest
