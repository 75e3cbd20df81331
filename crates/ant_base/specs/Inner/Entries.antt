-- The names and bytes of a list of files, end to end (this project's own).
use Rattle.std.specs.Prelude.{ℕ, ◌+◌, List, [], ◌∷◌, take, drop}
use Rattle.ant_base.specs.declared.files.Sizes.{Sizes}

-- each name with its bytes
abbrev pub files_in : List Sizes → List ℕ → List (List ℕ × List ℕ)
files_in [] texts = []
files_in (sizes ∷ more) texts =
    (take sizes.name texts, take sizes.bytes (drop sizes.name texts))
    ∷ files_in more (drop sizes.bytes (drop sizes.name texts))

-- how many bytes they have together
abbrev pub bytes_in : List Sizes → ℕ
bytes_in [] = 0
bytes_in (sizes ∷ more) = sizes.name + sizes.bytes + bytes_in more
