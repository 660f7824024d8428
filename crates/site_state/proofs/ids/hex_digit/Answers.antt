use Rattle.std.proofs.Common.{◌%◌}
use Rattle.site_state.proofs.Digits.{digit_small}
use Rattle.site_state.proofs.ids.hex_digit.Goals as goal

pub returns-clause-ascii : goal.returns-clause-ascii
returns-clause-ascii c = digit_small (c.args.number % 16)
