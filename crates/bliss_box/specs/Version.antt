-- The version of what a C host links. Assumes nothing.
use Rattle.std.specs.Prelude.{ℕ, ◌+◌, ◌*◌}

-- a version's three numbers as one
abbrev pub version_number : (major minor patch : ℕ) → ℕ
version_number major minor patch = 10000 * major + 100 * minor + patch

-- 0.10.0
abbrev pub version : ℕ
version = version_number 0 10 0
