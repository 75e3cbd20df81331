-- The version of the library (this project's own). It is the program's, and that of each package and module:
-- .ci/documents checks that they are all equal.
use Rattle.std.specs.Prelude.{ℕ, List, codes}

-- what `ants_version` writes, and the program's `--version` prints after `ants `
unfoldable pub version : List ℕ
version = codes "1.2.0-dev"
