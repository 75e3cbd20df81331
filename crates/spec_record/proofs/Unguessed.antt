-- A turn that draws nothing is the same at every guess.
use Rattle.std.proofs.Common.{◌≡◌, inl, inr, ℕ, zero, suc, true, false, Option, Some, None, refl, ◌∙◌, ap}
use Rattle.std.proofs.lemmas.Bool.{cases_Bool}
use Rattle.hex_geometry.specs.declared.position.Pos.{Pos}
use Rattle.cell_world.specs.declared.ant.Ant.{Ant}
use Rattle.cell_world.specs.World.{Cells, World, place_in}
use Rattle.brain_read.specs.declared.instr.Instr.{Instr}
use Rattle.brain_read.specs.declared.instr.Instr.TheVariants.{Flip}
use Rattle.ant_turn.specs.Minds.{Minds, mind_of}
use Rattle.ant_turn.specs.Sheet.{Sheet}
use Rattle.ant_turn.specs.Turn.{Outcome, acts, execute, instruction_at, turn, turn_from, turn_at}
use Rattle.spec_record.specs.Claims.{with_cells_at}
use Rattle.spec_record.specs.Guess.{ant_flips, flips, flips_from, flips_now, is_flip}
use Rattle.spec_record.specs.Look.{look_of, look_with}
use Rattle.spec_record.specs.Reads.{reads}
use Rattle.spec_record.specs.Writes.{writes}

-- an instruction other than a Flip
execute-unguessed : (sheet : Sheet) (seed : ℕ) (cells : Cells) (one other : ℕ) (p : Pos) (ant : Ant) (instruction : Instr) → is_flip instruction ≡ false → execute sheet seed cells one p ant instruction ≡ execute sheet seed cells other p ant instruction
execute-unguessed sheet seed cells one other p ant (Flip bound met unmet) drawless = absurd (cc)
execute-unguessed sheet seed cells one other p ant it drawless = refl

-- an ant that rests, or executes one
acts-unguessed : (n : ℕ) (minds : Minds) (seed : ℕ) (cells : Cells) (one other : ℕ) (p : Pos) (ant : Ant) → flips_now n minds ant ≡ false → acts n minds seed cells one p ant ≡ acts n minds seed cells other p ant
acts-unguessed zero minds seed cells one other p ant drawless = execute-unguessed minds.sheet seed cells one other p ant (instruction_at (mind_of minds ant.colour) ant.state) drawless
acts-unguessed (suc left) minds seed cells one other p ant drawless = refl

-- an ant, if there is one
turn_at-unguessed : (minds : Minds) (seed : ℕ) (cells : Cells) (one other : ℕ) (p : Pos) (o : Option Ant) → ant_flips minds o ≡ false → turn_at minds seed cells one p o ≡ turn_at minds seed cells other p o
turn_at-unguessed minds seed cells one other p None drawless = refl
turn_at-unguessed minds seed cells one other p (Some ant) drawless = acts-unguessed ant.resting minds seed cells one other p ant drawless

-- one that has a place, or is dead
turn_from-unguessed : (minds : Minds) (seed : ℕ) (cells : Cells) (one other : ℕ) (o : Option Pos) → flips_from minds cells o ≡ false → turn_from minds seed cells one o ≡ turn_from minds seed cells other o
turn_from-unguessed minds seed cells one other None drawless = refl
turn_from-unguessed minds seed cells one other (Some p) drawless = turn_at-unguessed minds seed cells one other p (cells p).ant drawless

-- the turn of an ant that isn't at a Flip
turn-unguessed : (minds : Minds) (seed : ℕ) (w : World) (one other t : ℕ) → flips minds w t ≡ false → turn minds seed w one t ≡ turn minds seed w other t
unfolding turn flips
turn-unguessed minds seed w one other t drawless = turn_from-unguessed minds seed w.cells one other (place_in w t) drawless

-- the look at it is the same except for the guess itself
pub look_of-unguessed : (minds : Minds) (seed : ℕ) (w : World) (one other t : ℕ) → flips minds w t ≡ false → record (look_of minds seed w one t) { guess = other } ≡ look_of minds seed w other t
unfolding look_of
look_of-unguessed minds seed w one other t drawless =
    ap (λ (o : Outcome). look_with t other o (with_cells_at w.cells (reads minds w t)) (with_cells_at o.cells (writes minds w t))) (turn-unguessed minds seed w one other t drawless)

-- a look has the guess at which it was made
look_of-own : (minds : Minds) (seed : ℕ) (w : World) (guess t : ℕ) → record (look_of minds seed w guess t) { guess = guess } ≡ look_of minds seed w guess t
unfolding look_of
look_of-own minds seed w guess t = refl

-- at a guess that is the same where it matters
pub look_of-guessed : (minds : Minds) (seed : ℕ) (w : World) (one other t : ℕ) → (flips minds w t ≡ true → one ≡ other) → record (look_of minds seed w one t) { guess = other } ≡ look_of minds seed w other t
look_of-guessed minds seed w one other t same =
    elim (cases_Bool (flips minds w t)) [
      | inl drawn ↦ ap (λ n. record (look_of minds seed w n t) { guess = other }) (same drawn) ∙ look_of-own minds seed w other t
      | inr drawless ↦ look_of-unguessed minds seed w one other t drawless
    ]
