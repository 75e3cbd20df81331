-- Laws of world texts (this project's own).
use Rattle.std.specs.Prelude.{◌≡◌, ℕ, List, Result}
use Rattle.cell_world.specs.declared.kind.Kind.{Kind}
use Rattle.cell_world.specs.Grid.{Grid}
use Rattle.cell_world.specs.Opening.{IsPlan}
use Rattle.world_read.specs.declared.fault.WorldFault.{WorldFault}
use Rattle.world_read.specs.Canonical.{canonical_text}
use Rattle.world_read.specs.Faulty.{IsPlanVerdict}
use Rattle.world_read.specs.Grammar.{IsWorldText, Plan}
use Rattle.world_read.specs.Opened.{IsOpeningWorld, OpensAs, kinds_of}

-- every text is that of one world or has one fault, and never both
abbrev pub EveryTextHasOneVerdict : Type 0
EveryTextHasOneVerdict =
    (text : List ℕ) → (verdict : Result Plan WorldFault) × IsPlanVerdict text verdict
    × ((other : Result Plan WorldFault) → IsPlanVerdict text other → other ≡ verdict)

-- the canonical text of the kinds of a world is a text of that world
abbrev pub CanonicalTextIsReadBack : Type 0
CanonicalTextIsReadBack =
    (width height : ℕ) (kinds : List Kind) → IsPlan width height kinds
    → IsWorldText (canonical_text width height kinds) width height kinds

-- the text that is written for an opening world is a text of exactly that world
abbrev pub WrittenWorldsAreReadBack : Type 0
WrittenWorldsAreReadBack =
    (world : Grid) → IsOpeningWorld world → OpensAs (canonical_text world.width world.height (kinds_of world)) world
