-- The names of variables.
use Rattle.std.specs.Prelude.{ℕ}
use Rattle.page_code.specs.declared.name.TheConstants.{MAX_NAME_BYTES}

-- the most bytes of a name
abbrev pub max_name_bytes : ℕ
max_name_bytes = MAX_NAME_BYTES
