use Rattle.scopes.proofs.Setting.{local}
use Rattle.scopes.proofs.laws.setting_is_local.Goals as goal

pub returns : goal.returns
returns c = local
