-- World texts, written out.
use Rattle.std.proofs.Common.{◌≡◌, [], ◌∷◌, codes, map, Ok, Err, refl}
use Rattle.std.specs.Fmt.{digits}
use Rattle.ant_base.specs.Layout.{numbered}
use Rattle.ant_base.specs.Number.{decimal_value}
use Rattle.cell_world.proofs.OpeningWorked.{one_hill, three_hills}
use Rattle.world_read.specs.declared.fault.WorldFault.TheVariants.{BadWidth, BadHeight, MissingRow, BadCell, LongRow, ShortRow, ExtraRow, OpenRim, TooManyAnts, OutOfMemory}
use Rattle.world_read.specs.Canonical.{canonical_text, cell_text, line_of_row}
use Rattle.world_read.specs.Inner.Reading.{open_rim, plan_of}
use Rattle.world_read.specs.FaultText.{world_fault_text}

-- the canonical text of a small world
pub text-one_hill : canonical_text 3 3 one_hill ≡ codes "3\n3\n# # #\n # + #\n# # #\n"
unfolding digits canonical_text line_of_row cell_text numbered
text-one_hill = refl

-- and of one in whose middle row ants of both colours begin
pub text-three_hills : canonical_text 5 3 three_hills ≡ codes "5\n3\n# # # # #\n # + + - #\n# # # # #\n"
unfolding digits canonical_text line_of_row cell_text numbered
text-three_hills = refl

-- separators may stand anywhere, also CR, and blank lines after the last row
reads-separated : plan_of (codes " 003\t\r\n3 \r\n###\r\n\t# + #\n# ##\n \r\n\n") ≡ Ok (record { width = 3; height = 3; kinds = one_hill })
unfolding plan_of decimal_value open_rim
reads-separated = refl

-- the byte after a whole row is one too many, whatever it is
reads-long : plan_of (codes "3\n3\n###x\n#\n###\n") ≡ Err (LongRow 0)
unfolding plan_of decimal_value
reads-long = refl

-- a bad cell comes before the end of its row, and counts the cells before it
reads-bad : plan_of (codes "3\n3\n###\n # 0\n###\n") ≡ Err (BadCell 1 1)
unfolding plan_of decimal_value
reads-bad = refl

-- an empty line where a row should be is a row that is too short
reads-empty : plan_of (codes "3\n3\n###\n\n#+#\n###\n") ≡ Err (ShortRow 1)
unfolding plan_of decimal_value open_rim
reads-empty = refl

-- a line too many comes before an open rim
reads-extra : plan_of (codes "3\n3\n.##\n#+#\n###\n\n#\n") ≡ Err ExtraRow
unfolding plan_of decimal_value open_rim
reads-extra = refl

-- of two open cells of the rim the first in row order counts
reads-open : plan_of (codes "3\n3\n###\n#+.\n.##\n") ≡ Err (OpenRim 2 1)
unfolding plan_of decimal_value open_rim
reads-open = refl

-- what each fault says
faults_say : map world_fault_text (BadWidth ∷ BadHeight ∷ MissingRow 1 ∷ BadCell 2 34 ∷ ShortRow 5 ∷ LongRow 6 ∷ ExtraRow ∷ OpenRim 7 8 ∷ TooManyAnts 16385 ∷ OutOfMemory ∷ [])
    ≡ codes "bad width" ∷ codes "bad height" ∷ codes "row 1: missing" ∷ codes "row 2: bad cell at column 34" ∷ codes "row 5: short" ∷ codes "row 6: long" ∷ codes "extra row"
    ∷ codes "rim open at (7, 8)" ∷ codes "too many ants, 16385" ∷ codes "out of memory" ∷ []
unfolding digits
faults_say = refl
