-- Games with a brain and with its minimised one.
use Rattle.std.proofs.Common.{◌≡◌, ◌≢◌, ℕ, Bool, true, false, cond, List, Option, Some, None, IsSome, refl, sym, ap, ◌∙◌, subst, arith}
use Rattle.std.specs.Prelude.{option_map, unwrap_or}
use Rattle.std.proofs.Math.Path.{fun_ext}
use Rattle.std.proofs.lemmas.Option.{get_or_from_slice_get, slice_get_within}
use Rattle.list_lemmas.proofs.AllElements.{AllByRecursion-weaker}
use Rattle.hex_geometry.specs.declared.position.Pos.{Pos}
use Rattle.cell_world.specs.declared.ant.Ant.{Ant}
use Rattle.cell_world.specs.declared.ant.Colour.{Colour}
use Rattle.cell_world.specs.declared.ant.Colour.TheVariants.{Red, Black}
use Rattle.cell_world.specs.declared.cell.Cell.{Cell}
use Rattle.cell_world.specs.declared.kind.Kind.{Kind}
use Rattle.cell_world.specs.Colour.{same_colour}
use Rattle.cell_world.specs.Grid.{world_of}
use Rattle.cell_world.specs.Opening.{opening}
use Rattle.cell_world.specs.Score.{hill_food_of, score_of}
use Rattle.cell_world.specs.World.{World, with_cells}
use Rattle.cell_world.proofs.OpeningLaws.{opening-new}
use Rattle.brain_read.specs.declared.instr.Instr.{Instr}
use Rattle.brain_read.specs.declared.instr.Instr.TheVariants.{Drop}
use Rattle.brain_read.specs.Grammar.{states_of}
use Rattle.ant_turn.specs.Minds.{Minds, mind_of}
use Rattle.ant_turn.specs.Renumber.{AreNumbered, Carries, Numbers, state_number, redirected, renumbered, renumbered_ant, renumbered_moment, side_states, with_mind}
use Rattle.ant_turn.specs.Rounds.{Moment, after_rounds, start_of}
use Rattle.ant_turn.specs.Turn.{instruction_at}
use Rattle.ant_turn.proofs.RenumberedTurns.{after_rounds-renumbered}
use Rattle.brain_minimise.specs.Match.{DiffersInStates, IsMatchingAnt, game}
use Rattle.brain_minimise.specs.Minimised.{IsMinimised, new_number}
use Rattle.brain_minimise.proofs.MinimisedLemmas.{successors-reached}
use Rattle.brain_minimise.proofs.Numbers.{number-inside}
use Rattle.brain_minimise.proofs.Ranks.{zero-number}

-- the map carries the brain over to its minimised one
pub Carries-minimised : (old new : List Instr) (numbers : List (Option ℕ)) → IsMinimised old new numbers → Carries (new_number numbers) old new
Carries-minimised old new numbers minimised = record {
  inside = λ state number has.
      let each = minimised.each in
      (omega (arith, number-inside numbers state number has), slice_get_within new number (redirected (state_number (new_number numbers)) (instruction_at old state)) (minimised.acts state number has));
  acts = λ state number has. get_or_from_slice_get new number (redirected (state_number (new_number numbers)) (instruction_at old state)) (Drop 0) (minimised.acts state number has);
  onward = λ state number has. AllByRecursion-weaker _ _ (states_of (instruction_at old state)) (successors-reached old state (minimised.dropped state number has)) minimised.kept;
}

-- a choice of which both sides are one
cond-either : (b : Bool) (x y z : ℕ) → x ≡ z → y ≡ z → cond b x y ≡ z
cond-either true x y z first second = first
cond-either false x y z first second = second

-- state 0 stays state 0
zero-stays : (numbers : Numbers) (side own : Colour) → numbers 0 ≡ Some 0 → side_states numbers side own 0 ≡ 0
zero-stays numbers side own zero = cond-either (same_colour side own) (state_number numbers 0) 0 0 (ap (λ o. unwrap_or o 0) zero) refl

-- an ant whose state stays
same_ant : (f : Colour → ℕ → ℕ) (o : Option Ant) → ((ant : Ant) → o ≡ Some ant → f ant.colour ant.state ≡ ant.state) → option_map (renumbered_ant f) o ≡ o
same_ant f None stays = refl
same_ant f (Some ant) stays = ap (λ (n : ℕ). let same : Ant = record ant { state = n } in Some same) (stays ant refl)

module _ (minds : Minds) (side : Colour) (brain : List Instr) (numbers : Numbers) (seed width height : ℕ) (kinds : List Kind) (r : ℕ) (carries : Carries numbers (mind_of minds side) brain) (zero : numbers 0 ≡ Some 0) where
  -- the world at the start
  abbrev start : World
  start = world_of (opening width height kinds)

  -- all its ants are in state 0
  starts : (p : Pos) (ant : Ant) → (start.cells p).ant ≡ Some ant → ant.state ≡ 0
  starts p ant is = ap (λ (a : Ant). a.state) (opening-new width height kinds p ant is)

  -- so it is the same renumbered
  start-renumbered : renumbered_moment numbers side (start_of start) ≡ start_of start
  start-renumbered =
      ap (λ cells. start_of (with_cells start cells)) (fun_ext λ p.
      ap (λ (o : Option Ant). let cell : Cell = record (start.cells p) { ant = o } in cell)
      (same_ant (side_states numbers side) (start.cells p).ant (λ ant is.
      let none : ant.state ≡ 0 = starts p ant is in
      ap (side_states numbers side ant.colour) none ∙ zero-stays numbers side ant.colour zero ∙ sym none)))

  -- and each ant's state has a number
  start-numbered : AreNumbered numbers side start
  start-numbered = record { each = λ p ant is _. subst (λ state. IsSome (numbers state)) (sym (starts p ant is)) (subst IsSome (sym zero) refl) }

  -- the game with a brain to which the numbers carry this side's brain, state 0 to state 0, is the game renumbered
  pub game-carried : game (with_mind minds side brain) seed width height kinds r ≡ renumbered_moment numbers side (game minds seed width height kinds r)
  game-carried =
      ap (λ (m : Moment). after_rounds (with_mind minds side brain) seed m r) (sym start-renumbered)
      ∙ after_rounds-renumbered numbers side minds brain seed (start_of start) r carries start-numbered

-- so is that with the minimised brain
pub game_minimised : (minds : Minds) (side : Colour) (brain : List Instr) (numbers : List (Option ℕ)) (seed width height : ℕ) (kinds : List Kind) (r : ℕ) → IsMinimised (mind_of minds side) brain numbers →
    game (with_mind minds side brain) seed width height kinds r ≡ renumbered_moment (new_number numbers) side (game minds seed width height kinds r)
game_minimised minds side brain numbers seed width height kinds r minimised =
    game-carried minds side brain (new_number numbers) seed width height kinds r (Carries-minimised (mind_of minds side) brain numbers minimised) (zero-number (mind_of minds side) brain numbers minimised)

-- renumbering changes no score
pub score_of-renumbered : (numbers : Numbers) (side : Colour) (w : World) → score_of (renumbered numbers side w) ≡ score_of w
unfolding score_of hill_food_of
score_of-renumbered numbers side w = refl

-- the scores are equal
pub score_minimised : (minds : Minds) (side : Colour) (brain : List Instr) (numbers : List (Option ℕ)) (seed width height : ℕ) (kinds : List Kind) (r : ℕ) → IsMinimised (mind_of minds side) brain numbers →
    score_of (game (with_mind minds side brain) seed width height kinds r).world ≡ score_of (game minds seed width height kinds r).world
score_minimised minds side brain numbers seed width height kinds r minimised =
    ap (λ (m : Moment). score_of m.world) (game_minimised minds side brain numbers seed width height kinds r minimised)
    ∙ score_of-renumbered (new_number numbers) side (game minds seed width height kinds r).world

-- the other side's states stay
pub others-stay : (numbers : Numbers) (side own : Colour) (state : ℕ) → own ≢ side → side_states numbers side own state ≡ state
others-stay numbers Red Black state other = refl
others-stay numbers Black Red state other = refl
others-stay numbers it that state other = absurd (other refl)

-- an ant is the same except for its state
IsMatchingAnt-renumbered : (numbers : Numbers) (side : Colour) (o : Option Ant) → IsMatchingAnt side o (option_map (renumbered_ant (side_states numbers side)) o)
IsMatchingAnt-renumbered numbers side None = tt
IsMatchingAnt-renumbered numbers side (Some ant) = (refl, λ other. others-stay numbers side ant.colour ant.state other)

-- renumbering changes states alone
DiffersInStates-renumbered : (numbers : Numbers) (side : Colour) (w : World) → DiffersInStates side w (renumbered numbers side w)
DiffersInStates-renumbered numbers side w = record {
  width = refl;
  height = refl;
  ids = refl;
  cells = λ p. refl;
  ants = λ p. IsMatchingAnt-renumbered numbers side (w.cells p).ant;
}

-- so what a dump shows differs in them alone
pub dump_minimised : (minds : Minds) (side : Colour) (brain : List Instr) (numbers : List (Option ℕ)) (seed width height : ℕ) (kinds : List Kind) (r : ℕ) → IsMinimised (mind_of minds side) brain numbers →
    DiffersInStates side (game minds seed width height kinds r).world (game (with_mind minds side brain) seed width height kinds r).world
dump_minimised minds side brain numbers seed width height kinds r minimised =
    subst (λ (m : Moment). DiffersInStates side (game minds seed width height kinds r).world m.world) (sym (game_minimised minds side brain numbers seed width height kinds r minimised))
    (DiffersInStates-renumbered (new_number numbers) side (game minds seed width height kinds r).world)
