-- The pieces of seven things, written out.
use Rattle.std.proofs.Common.{◌≡◌, ℕ, List, [], ◌∷◌, refl}
use Rattle.work_share.specs.Borders.{border}

abbrev borders : ℕ → List ℕ
borders workers = border workers 7 0 ∷ border workers 7 1 ∷ border workers 7 2 ∷ border workers 7 3 ∷ border workers 7 4 ∷ []

-- two workers have three and four of them, four have one, two, two and two
pub two_workers : border 2 7 1 ≡ 3
two_workers = refl

pub four_workers : borders 4 ≡ 0 ∷ 1 ∷ 3 ∷ 5 ∷ 7 ∷ []
four_workers = refl

-- of sixteen workers the first two have none, and the third has the first
pub sixteen_workers : borders 16 ≡ 0 ∷ 0 ∷ 0 ∷ 1 ∷ 1 ∷ []
sixteen_workers = refl
