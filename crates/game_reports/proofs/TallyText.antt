-- The text of what was counted, and counts of nothing.
use Rattle.std.proofs.Common.{◌≡◌, inl, inr, ℕ, ◌+◌, ◌<◌, ◌^◌, List, [], ◌++◌, length, slice_index_or, sym, ap, ap₂, subst, arith}
use Rattle.std.proofs.lemmas.Bool.{cases_lt}
use Rattle.std.proofs.lemmas.List.{get_or_past}
use Rattle.ant_base.proofs.Numbered.{numbered-same}
use Rattle.ant_turn.specs.Minds.{Minds, mind_of}
use Rattle.ant_turn.specs.Turn.{instruction_at}
use Rattle.brain_read.specs.declared.instr.Instr.{Instr}
use Rattle.cell_world.specs.declared.ant.Colour.{Colour}
use Rattle.cell_world.specs.declared.ant.Colour.TheVariants.{Red, Black}
use Rattle.cell_world.specs.World.{World}
use Rattle.dump_print.specs.Texts.{seed_text}
use Rattle.game_reports.specs.declared.executed.Executed.{Executed}
use Rattle.game_reports.specs.declared.tally.Tallies.{Tallies}
use Rattle.game_reports.specs.declared.tally.Tally.{Tally}
use Rattle.game_reports.specs.Inner.Tallies.{AreFew, AreTallied, IsTallied, counted_line, no_tally, tallies_of, tally_lines}
use Rattle.game_reports.specs.Profile.{brain_lines, executed_in_rounds, met_of, profile_text, state_line, tally_line, times_of}

-- the lines of a colour's brain, whose tallies these are
lines-tallied : (colour : Colour) (brain : List Instr) (list : List Executed) (tallies : List Tally) → IsTallied colour (length brain) list tallies → tally_lines colour brain tallies ≡ brain_lines colour brain list
unfolding brain_lines
lines-tallied colour brain list tallies counted =
    numbered-same (counted_line colour brain tallies) (state_line colour brain list) (length brain)
    (λ state below. ap (λ (t : Tally). tally_line colour state (instruction_at brain state) t.times t.met) (counted.are state below))

-- the text of a profile in the parts in which it is pushed
pub profile_text-parts : (minds : Minds) (seed : ℕ) (w : World) (rounds from : ℕ) (tallies : Tallies) → AreTallied minds (executed_in_rounds minds seed w rounds from) tallies
    → profile_text minds seed w rounds from ≡ seed_text seed ++ (tally_lines Red minds.red tallies.red.items ++ tally_lines Black minds.black tallies.black.items)
unfolding profile_text
profile_text-parts minds seed w rounds from tallies counted =
    let list = executed_in_rounds minds seed w rounds from in
    sym
    (ap₂ (λ (red black : List ℕ). seed_text seed ++ (red ++ black))
    (lines-tallied Red minds.red list tallies.red.items (counted Red))
    (lines-tallied Black minds.black list tallies.black.items (counted Black)))

-- both brains are tallied where each is
pub both-tallied : (minds : Minds) (list : List Executed) (tallies : Tallies) → IsTallied Red (length minds.red) list tallies.red.items → IsTallied Black (length minds.black) list tallies.black.items → AreTallied minds list tallies
both-tallied minds list tallies red black Red = red
both-tallied minds list tallies red black Black = black

-- if nothing was counted, no state has a count
no_count : (minds : Minds) (tallies : Tallies) → AreTallied minds [] tallies → (colour : Colour) (state : ℕ) → slice_index_or (tallies_of tallies colour) state no_tally ≡ no_tally
unfolding times_of met_of
no_count minds tallies counted colour state =
    elim (cases_lt state (length (mind_of minds colour))) [
      | inl below ↦ (counted colour).are state below
      | inr beyond ↦ get_or_past (tallies_of tallies colour) state no_tally (let each = (counted colour).each in omega (arith, each, beyond))
    ]

-- so there is room for many
pub none-few : (minds : Minds) (tallies : Tallies) (left : ℕ) → AreTallied minds [] tallies → left < 2 ^ 64 → AreFew tallies left
none-few minds tallies left counted early = record {
  times = λ colour state. subst (λ (t : Tally). t.times + left < 2 ^ 64) (sym (no_count minds tallies counted colour state)) (omega (arith, early));
  met = λ colour state. subst (λ (t : Tally). t.met + left < 2 ^ 64) (sym (no_count minds tallies counted colour state)) (omega (arith, early));
}
