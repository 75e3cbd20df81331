-- Games with brains that are the same: both are the game with the brain of pairs, with other states.
use Rattle.std.proofs.Common.{◌≡◌, ℕ, List, Option, Some, None, refl, sym, ap, ◌∙◌, subst}
use Rattle.std.specs.Prelude.{option_map}
use Rattle.std.proofs.Math.Path.{fun_ext}
use Rattle.cell_world.specs.declared.ant.Ant.{Ant}
use Rattle.cell_world.specs.declared.ant.Colour.{Colour}
use Rattle.cell_world.specs.declared.ant.Colour.TheVariants.{Red, Black}
use Rattle.cell_world.specs.declared.cell.Cell.{Cell}
use Rattle.cell_world.specs.declared.kind.Kind.{Kind}
use Rattle.cell_world.specs.Score.{score_of}
use Rattle.cell_world.specs.World.{World, with_cells}
use Rattle.brain_read.specs.declared.instr.Instr.{Instr}
use Rattle.ant_turn.specs.Minds.{Minds, mind_of}
use Rattle.ant_turn.specs.Renumber.{Carries, Numbers, renumbered, renumbered_ant, renumbered_moment, side_states, with_mind}
use Rattle.ant_turn.specs.Rounds.{Moment}
use Rattle.brain_minimise.specs.Match.{DiffersInStates, IsMatchingAnt}
use Rattle.brain_minimise.proofs.MinimisedGames.{game-carried, others-stay, score_of-renumbered}
use Rattle.brain_same.specs.Difference.{AreSame}
use Rattle.brain_same.specs.Games.{BothPlaySame, IsSameBut, IsSameButStates, PlaysSame, game, without_states}
use Rattle.brain_same.proofs.PairedBrains.{Carries-first, Carries-second, first-zero, first_numbers, pair_brain, second-zero, second_numbers}

-- the brain of a side, and the minds with another there
mind_of-with_mind : (minds : Minds) (side : Colour) (brain : List Instr) → mind_of (with_mind minds side brain) side ≡ brain
mind_of-with_mind minds Red brain = refl
mind_of-with_mind minds Black brain = refl

with_mind-again : (minds : Minds) (side : Colour) (brain other : List Instr) → with_mind (with_mind minds side brain) side other ≡ with_mind minds side other
with_mind-again minds Red brain other = refl
with_mind-again minds Black brain other = refl

with_mind-own : (minds : Minds) (side : Colour) → with_mind minds side (mind_of minds side) ≡ minds
with_mind-own minds Red = refl
with_mind-own minds Black = refl

-- two moments that are one with other states of this side's ants
record AreOfOne (side : Colour) (old new : Moment) : Type 0 where
  pub moment : Moment
  pub numbers : Numbers
  pub others : Numbers
  pub first : old ≡ renumbered_moment numbers side moment
  pub second : new ≡ renumbered_moment others side moment

-- the games with both brains are of one game
games-of_one : (minds : Minds) (side : Colour) (brain : List Instr) (seed width height : ℕ) (kinds : List Kind) (r : ℕ) → AreSame (mind_of minds side) brain →
    AreOfOne side (game minds seed width height kinds r) (game (with_mind minds side brain) seed width height kinds r)
games-of_one minds side brain seed width height kinds r same =
    let old : List Instr = mind_of minds side in
    let pairs : List Instr = pair_brain old brain same in
    let paired : Minds = with_mind minds side pairs in
    let own : pairs ≡ mind_of paired side = sym (mind_of-with_mind minds side pairs) in
    record {
      moment = game paired seed width height kinds r;
      numbers = first_numbers old brain same;
      others = second_numbers old brain same;
      first =
          ap (λ (m : Minds). game m seed width height kinds r) (sym (with_mind-again minds side pairs old ∙ with_mind-own minds side))
          ∙ game-carried paired side old (first_numbers old brain same) seed width height kinds r
          (subst (λ from. Carries (first_numbers old brain same) from old) own (Carries-first old brain same)) (first-zero old brain same);
      second =
          ap (λ (m : Minds). game m seed width height kinds r) (sym (with_mind-again minds side pairs brain))
          ∙ game-carried paired side brain (second_numbers old brain same) seed width height kinds r
          (subst (λ from. Carries (second_numbers old brain same) from brain) own (Carries-second old brain same)) (second-zero old brain same);
    }

-- ants with other states
IsMatchingAnt-both : (numbers others : Numbers) (side : Colour) (o : Option Ant) → IsMatchingAnt side (option_map (renumbered_ant (side_states numbers side)) o) (option_map (renumbered_ant (side_states others side)) o)
IsMatchingAnt-both numbers others side None = tt
IsMatchingAnt-both numbers others side (Some ant) = (refl, λ other. others-stay others side ant.colour ant.state other ∙ sym (others-stay numbers side ant.colour ant.state other))

-- worlds with other states
DiffersInStates-both : (numbers others : Numbers) (side : Colour) (w : World) → DiffersInStates side (renumbered numbers side w) (renumbered others side w)
DiffersInStates-both numbers others side w = record {
  width = refl;
  height = refl;
  ids = refl;
  cells = λ p. refl;
  ants = λ p. IsMatchingAnt-both numbers others side (w.cells p).ant;
}

-- so they are the same except for states
same-of_one : (side : Colour) (old new : Moment) → AreOfOne side old new → IsSameBut side old new
same-of_one side old new one =
    subst (λ (m : Moment). IsSameBut side m new) (sym one.first)
    (subst (λ (m : Moment). IsSameBut side (renumbered_moment one.numbers side one.moment) m) (sym one.second) (record {
      world = DiffersInStates-both one.numbers one.others side one.moment.world;
      place = refl;
      score = score_of-renumbered one.others side one.moment.world ∙ sym (score_of-renumbered one.numbers side one.moment.world);
    }))

pub plays_same : PlaysSame
plays_same minds side brain seed width height kinds r same =
    same-of_one side (game minds seed width height kinds r) (game (with_mind minds side brain) seed width height kinds r) (games-of_one minds side brain seed width height kinds r same)

-- a world without states is so whatever they were
stateless : (f : Colour → ℕ → ℕ) (o : Option Ant) → option_map (renumbered_ant (λ _ _. 0)) (option_map (renumbered_ant f) o) ≡ option_map (renumbered_ant (λ _ _. 0)) o
stateless f None = refl
stateless f (Some ant) = refl

without_states-renumbered : (numbers : Numbers) (side : Colour) (w : World) → without_states (renumbered numbers side w) ≡ without_states w
without_states-renumbered numbers side w =
    ap (with_cells w) (fun_ext λ p.
    ap (λ (o : Option Ant). let cell : Cell = record (w.cells p) { ant = o } in cell) (stateless (side_states numbers side) (w.cells p).ant))

-- so moments of one are the same without states
same_but_states-of_one : (side : Colour) (old new : Moment) → AreOfOne side old new → IsSameButStates old new
same_but_states-of_one side old new one =
    let same = same-of_one side old new one in
    record {
      world =
          ap (λ (m : Moment). without_states m.world) one.second
          ∙ without_states-renumbered one.others side one.moment.world
          ∙ sym (ap (λ (m : Moment). without_states m.world) one.first ∙ without_states-renumbered one.numbers side one.moment.world);
      place = same.place;
      score = same.score;
    }

-- one side and then the other
pub both_play_same : BothPlaySame
both_play_same minds red black seed width height kinds r first second =
    let middle : Minds = with_mind minds Red red in
    let one = same_but_states-of_one Red (game minds seed width height kinds r) (game middle seed width height kinds r) (games-of_one minds Red red seed width height kinds r first) in
    let other = same_but_states-of_one Black (game middle seed width height kinds r) (game (with_mind middle Black black) seed width height kinds r) (games-of_one middle Black black seed width height kinds r second) in
    record { world = other.world ∙ one.world; place = other.place ∙ one.place; score = other.score ∙ one.score }

-- what moments that are the same except for the states of one side's ants have alike, and those that are so except for
-- all states
same_but_tells : (side : Colour) (old new : Moment) → IsSameBut side old new → DiffersInStates side old.world new.world × (new.place ≡ old.place) × (score_of new.world ≡ score_of old.world)
same_but_tells side old new same = (same.world, same.place, same.score)

same_but_states_tells : (old new : Moment) → IsSameButStates old new → (without_states new.world ≡ without_states old.world) × (new.place ≡ old.place) × (score_of new.world ≡ score_of old.world)
same_but_states_tells old new same = (same.world, same.place, same.score)
