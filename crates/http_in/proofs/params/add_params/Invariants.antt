use Rattle.std.proofs.Common.{◌≡◌, ◌++◌, map}
use Rattle.form_urlencoded.specs.Parse.{pairs_left}
use Rattle.http_in.specs.Params.{param_of, params_in}
use Rattle.http_in.proofs.params.add_params.Given as goal

-- the parameters so far and those of the pairs that are left are all
abbrev pub invariant-loop-pair : goal.invariant-loop-pair
invariant-loop-pair l = l.params ++ map param_of (pairs_left l.pair-iterator) ≡ l.fn.params ++ params_in l.text
