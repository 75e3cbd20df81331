-- Each law of world texts, used at a small world: a weaker law would not do.
use Rattle.std.proofs.Common.{◌≡◌, ℕ, List, codes, Result, Err, refl, sym, ◌∙◌, subst}
use Rattle.ant_base.specs.Number.{decimal_value}
use Rattle.cell_world.proofs.OpeningWorked.{IsPlan-one_hill, IsPlan-three_hills, one_hill, three_hills}
use Rattle.cell_world.specs.Cell.{rock}
use Rattle.cell_world.specs.Opening.{floor, opening}
use Rattle.world_read.specs.declared.fault.WorldFault.{WorldFault}
use Rattle.world_read.specs.declared.fault.WorldFault.TheVariants.{LongRow}
use Rattle.world_read.specs.Faulty.{IsPlanVerdict}
use Rattle.world_read.specs.Grammar.{IsWorldText, Plan}
use Rattle.world_read.specs.Inner.Reading.{plan_of}
use Rattle.world_read.specs.Laws.{CanonicalTextIsReadBack, EveryTextHasOneVerdict, WrittenWorldsAreReadBack}
use Rattle.world_read.specs.Opened.{OpensAs}
use Rattle.world_read.proofs.VerdictLemmas.{IsPlanVerdict-read}
use Rattle.world_read.proofs.Worked.{text-one_hill, text-three_hills}

-- the one verdict on this text is that row 0 is too long
long_row : IsPlanVerdict (codes "3\n3\n###x\n#\n###\n") (Err (LongRow 0))
unfolding plan_of decimal_value
long_row = IsPlanVerdict-read (codes "3\n3\n###x\n#\n###\n") (Err (LongRow 0)) refl

pub every_text_has_one_verdict_used : EveryTextHasOneVerdict →
    ((text : List ℕ) → (verdict : Result Plan WorldFault) × IsPlanVerdict text verdict)
    × ((other : Result Plan WorldFault) → IsPlanVerdict (codes "3\n3\n###x\n#\n###\n") other → other ≡ Err (LongRow 0))
every_text_has_one_verdict_used law = (
  (λ text. let has = law text in (has.0, has.1)),
  (λ other is. let has = law (codes "3\n3\n###x\n#\n###\n") in has.2 other is ∙ sym (has.2 (Err (LongRow 0)) long_row)),
)

-- the least world
pub canonical_text_is_read_back_used : CanonicalTextIsReadBack → IsWorldText (codes "3\n3\n# # #\n # + #\n# # #\n") 3 3 one_hill
canonical_text_is_read_back_used law = subst (λ text. IsWorldText text 3 3 one_hill) text-one_hill (law 3 3 one_hill IsPlan-one_hill)

-- a world of both colours
pub written_worlds_are_read_back_used : WrittenWorldsAreReadBack → OpensAs (codes "5\n3\n# # # # #\n # + + - #\n# # # # #\n") (opening 5 3 three_hills)
unfolding opening rock floor
written_worlds_are_read_back_used law =
    subst (λ text. OpensAs text (opening 5 3 three_hills)) text-three_hills (law (opening 5 3 three_hills) (record { kinds = three_hills; plan = IsPlan-three_hills; is = refl }))
