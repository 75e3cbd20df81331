-- The lines of a report as they are pushed: each after the LF of the previous line, and without its own.
use Rattle.std.specs.Prelude.{ℕ, List, flat_map, codes}
use Rattle.ant_base.specs.Layout.{◌+++◌}

-- lines, each after an LF
abbrev pub broken : List (List ℕ) → List ℕ
broken lines = flat_map (λ words. codes "\n" +++ words) lines
