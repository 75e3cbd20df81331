-- The brain of a labelled program, minimised, plays the labelled game.
use Rattle.std.proofs.Common.{◌≡◌, ℕ, List, Option, refl, sym, ap, ◌∙◌, subst}
use Rattle.ant_asm.proofs.LabelGames.{game_labelled}
use Rattle.ant_asm.proofs.LabelTurns.{mind_of-side}
use Rattle.ant_asm.proofs.Scores.{scores_labelled}
use Rattle.ant_turn.specs.Minds.{Minds, mind_of}
use Rattle.ant_turn.specs.Renumber.{renumbered_moment, with_mind}
use Rattle.brain_minimise.proofs.MinimisedGames.{game_minimised, score_minimised}
use Rattle.brain_minimise.specs.Match.{game}
use Rattle.brain_minimise.specs.Minimised.{IsMinimised, new_number}
use Rattle.brain_read.specs.declared.instr.Instr.{Instr}
use Rattle.cell_world.specs.Score.{score_of}
use Rattle.cell_world.specs.declared.ant.Colour.{Colour}
use Rattle.cell_world.specs.declared.ant.Colour.TheVariants.{Red, Black}
use Rattle.ant_commands.specs.Laws.{AssembledAndMinimised}

-- the later of two brains of a side counts
with_mind-twice : (minds : Minds) (side : Colour) (brain new : List Instr) → with_mind (with_mind minds side brain) side new ≡ with_mind minds side new
with_mind-twice minds Red brain new = refl
with_mind-twice minds Black brain new = refl

-- the brain of the side is minimised
side-minimised : (minds : Minds) (side : Colour) (brain new : List Instr) (numbers : List (Option ℕ)) → IsMinimised brain new numbers → IsMinimised (mind_of (with_mind minds side brain) side) new numbers
side-minimised minds side brain new numbers minimised = subst (λ (b : List Instr). IsMinimised b new numbers) (sym (mind_of-side minds brain side side refl)) minimised

pub assembled_and_minimised : AssembledAndMinimised
assembled_and_minimised main brain new list numbers assembled minimised = record {
  plays = λ side minds seed width height kinds r sound valid.
      ap (λ (m : Minds). game m seed width height kinds r) (sym (with_mind-twice minds side brain new))
      ∙ game_minimised (with_mind minds side brain) side new numbers seed width height kinds r (side-minimised minds side brain new numbers minimised)
      ∙ ap (renumbered_moment (new_number numbers) side) (game_labelled main brain list assembled side minds seed width height kinds r sound valid);
  scores = λ side minds seed width height kinds r sound valid.
      ap (λ (m : Minds). score_of (game m seed width height kinds r).world) (sym (with_mind-twice minds side brain new))
      ∙ score_minimised (with_mind minds side brain) side new numbers seed width height kinds r (side-minimised minds side brain new numbers minimised)
      ∙ scores_labelled main brain list assembled side minds seed width height kinds r sound valid;
}
