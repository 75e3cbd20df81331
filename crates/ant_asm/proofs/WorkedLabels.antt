-- The labels and the lines of worked programs, by computation.
use Rattle.std.proofs.Common.{◌≡◌, ℕ, suc, List, [], ◌∷◌, refl}
use Rattle.std.specs.Prelude.{codes}
use Rattle.std.specs.Fmt.{digits}
use Rattle.hex_geometry.specs.declared.direction.Side.TheVariants.{Left}
use Rattle.ant_asm.specs.declared.action.Action.TheVariants.{Drop, Move, Turn}
use Rattle.ant_asm.specs.Names.Named.{NextWord, Name}
use Rattle.ant_asm.specs.Lines.{Line}
use Rattle.ant_asm.specs.Lines.Line.{Marks, Begins, Ends, Uses, Instructs}
use Rattle.ant_asm.specs.Places.{beginning}
use Rattle.ant_asm.specs.Standing.{Standing, below, items_of, nothing_yet}
use Rattle.ant_asm.specs.Labels.{NumberedLine, labels_of, labels_text}
use Rattle.ant_asm.specs.Labels.NumberedLine.{At}
use Rattle.ant_asm.specs.StateLines.{state_lines_of, state_lines_text}

-- the state below the lines
abbrev below_lines : Standing → List NumberedLine → Standing
below_lines standing [] = standing
below_lines standing (At number line ∷ lines) = below_lines (below standing number line) lines

-- lines that have a token, numbered from this number on
abbrev numbered_from : ℕ → List Line → List NumberedLine
numbered_from number [] = []
numbered_from number (line ∷ lines) = At number line ∷ numbered_from (suc number) lines

-- block left on / turn: / Turn Left on / end / block half on / use left next / mid: / use left on / last: / end / block
-- idle / idle: / Drop idle / end / start: / use half next / use half start / stop:
abbrev nested : List NumberedLine
nested = numbered_from 1
    (Begins (codes "left") (codes "on" ∷ []) ∷ Marks (codes "turn") ∷ Instructs (Turn Left (Name (codes "on"))) ∷ Ends
    ∷ Begins (codes "half") (codes "on" ∷ []) ∷ Uses (codes "left") (NextWord ∷ []) ∷ Marks (codes "mid") ∷ Uses (codes "left") (Name (codes "on") ∷ []) ∷ Marks (codes "last") ∷ Ends
    ∷ Begins (codes "idle") [] ∷ Marks (codes "idle") ∷ Instructs (Drop (Name (codes "idle"))) ∷ Ends
    ∷ Marks (codes "start") ∷ Uses (codes "half") (NextWord ∷ []) ∷ Uses (codes "half") (Name (codes "start") ∷ []) ∷ Marks (codes "stop") ∷ [])

worked_labels : labels_text (labels_of (items_of (below_lines nothing_yet nested).main) nested)
    ≡ codes "0 start\n0 stop\n1 half@16/mid\n2 half@16/last\n0 half@16/left@6/turn\n1 half@16/left@8/turn\n3 half@17/mid\n0 half@17/last\n2 half@17/left@6/turn\n3 half@17/left@8/turn\n"
unfolding beginning digits
worked_labels = refl

-- the lines of its states
worked_used_lines : state_lines_text (state_lines_of (items_of (below_lines nothing_yet nested).main) nested)
    ≡ codes "0 3 half@16/left@6\n1 3 half@16/left@8\n2 3 half@17/left@6\n3 3 half@17/left@8\n"
unfolding digits
worked_used_lines = refl

-- without blocks, if only the second, the fourth and the ninth line have a token: go: / Move go next / Turn Left go
abbrev plain : List NumberedLine
plain = At 2 (Marks (codes "go")) ∷ At 4 (Instructs (Move (Name (codes "go")) NextWord)) ∷ At 9 (Instructs (Turn Left (Name (codes "go")))) ∷ []

worked_plain_lines : state_lines_text (state_lines_of (items_of (below_lines nothing_yet plain).main) plain) ≡ codes "0 4\n1 9\n"
unfolding digits
worked_plain_lines = refl

-- block a / Drop next / end / block b / Turn Left next / use a / end / block c / use b / Drop next / use a / end / Drop
-- next / use c / on: / Drop on
abbrev deep : List NumberedLine
deep = numbered_from 1
    (Begins (codes "a") [] ∷ Instructs (Drop NextWord) ∷ Ends
    ∷ Begins (codes "b") [] ∷ Instructs (Turn Left NextWord) ∷ Uses (codes "a") [] ∷ Ends
    ∷ Begins (codes "c") [] ∷ Uses (codes "b") [] ∷ Instructs (Drop NextWord) ∷ Uses (codes "a") [] ∷ Ends
    ∷ Instructs (Drop NextWord) ∷ Uses (codes "c") [] ∷ Marks (codes "on") ∷ Instructs (Drop (Name (codes "on"))) ∷ [])

worked_deep_lines : state_lines_text (state_lines_of (items_of (below_lines nothing_yet deep).main) deep)
    ≡ codes "0 13\n1 5 c@14/b@9\n2 2 c@14/b@9/a@6\n3 10 c@14\n4 2 c@14/a@11\n5 16\n"
unfolding digits
worked_deep_lines = refl
