-- How many files of how many bytes are read at most.
use Rattle.std.specs.Prelude.{ℕ, ◌+◌, ◌&&◌, Bool, nat_lt, nat_le}
use Rattle.unit_source.specs.declared.volume.TheConstants.{MAX_UNIT_BYTES, MAX_UNIT_FILES}
use Rattle.unit_source.specs.declared.volume.Volume.{Volume}

-- a unit has so many files at most, and no more are read
abbrev pub most_files : ℕ
most_files = MAX_UNIT_FILES

-- a unit has so many bytes at most
abbrev pub most_bytes : ℕ
most_bytes = MAX_UNIT_BYTES

-- a file of so many bytes alone
abbrev pub one_file : ℕ → Volume
one_file bytes = record { files = 1; bytes = bytes }

-- a file of so many bytes more passes no limit of files or bytes
abbrev pub has_room : ℕ → Volume → Bool
has_room bytes volume = nat_lt volume.files most_files && nat_le (volume.bytes + bytes) most_bytes

-- a file of so many bytes more
abbrev pub and_file : ℕ → Volume → Volume
and_file bytes volume = record { files = volume.files + 1; bytes = volume.bytes + bytes }

-- a limit was passed: no file more is read
abbrev pub spent : Volume → Volume
spent volume = record { files = most_files; bytes = volume.bytes }
