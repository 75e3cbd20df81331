-- What is executed in a turn, by where its ant is and what it does.
use Rattle.std.proofs.Common.{◌≡◌, ℕ, List, subst, zero, suc, [], ◌∷◌, Option, Some, None, ◌∙◌, ap, refl, sym}
use Rattle.std.specs.Prelude.{slice_get}
use Rattle.std.proofs.lemmas.Option.{get_or_from_slice_get}
use Rattle.hex_geometry.specs.declared.position.Pos.{Pos}
use Rattle.ant_turn.specs.Minds.{Minds, mind_of}
use Rattle.ant_turn.specs.Rounds.{Moment}
use Rattle.brain_read.specs.declared.instr.Instr.{Instr}
use Rattle.brain_read.specs.declared.instr.Instr.TheVariants.{Drop}
use Rattle.cell_world.specs.declared.ant.Ant.{Ant}
use Rattle.cell_world.specs.World.{place_in}
use Rattle.cell_world.proofs.Places.{Holder, place_in-ant}
use Rattle.match_run.specs.Seen.{Seen, is_met, seen, seen_by}
use Rattle.match_run.proofs.SeenLemmas.{IgnoresRest-mapped, seen-dead, seen-ignores_rest, seen-there}
use Rattle.std.specs.List.{flat_map}
use Rattle.std.proofs.Math.Path.{fun_ext}
use Rattle.match_run.specs.Watch.{IgnoresRest}
use Rattle.game_reports.specs.declared.executed.Executed.{Executed}
use Rattle.game_reports.specs.Profile.{executed_at, executed_by, executed_from, executed_in}

-- nothing in the turn of a dead ant
pub executed-dead : (minds : Minds) (seed : ℕ) (m : Moment) (t : ℕ) → place_in m.world t ≡ None → executed_in minds seed m t ≡ []
unfolding executed_in
executed-dead minds seed m t dead = ap (executed_from minds seed m.world.cells m.place) dead

-- what the ant at its place executes
executed-there : (minds : Minds) (seed : ℕ) (m : Moment) (t : ℕ) (p : Pos) (ant : Ant) → place_in m.world t ≡ Some p → (m.world.cells p).ant ≡ Some ant → executed_in minds seed m t ≡ executed_by ant.resting minds seed m.world.cells m.place p ant
unfolding executed_in
executed-there minds seed m t p ant found is = ap (executed_from minds seed m.world.cells m.place) found ∙ ap (executed_at minds seed m.world.cells m.place p) is

-- its state in the turn of another
pub executed-acts : (minds : Minds) (seed : ℕ) (m : Moment) (t : ℕ) (p : Pos) (ant : Ant) (instruction : Instr) → place_in m.world t ≡ Some p → (m.world.cells p).ant ≡ Some ant → ant.resting ≡ 0 → slice_get (mind_of minds ant.colour) ant.state ≡ Some instruction
    → executed_in minds seed m t ≡ record { colour = ant.colour; state = ant.state; met = is_met seed m.world.cells m.place p ant instruction } ∷ []
executed-acts minds seed m t p ant instruction found is ready at =
    executed-there minds seed m t p ant found is
    ∙ ap (λ n. executed_by n minds seed m.world.cells m.place p ant) ready
    ∙ ap (λ i. let e : Executed = record { colour = ant.colour; state = ant.state; met = is_met seed m.world.cells m.place p ant i } in e ∷ []) (get_or_from_slice_get (mind_of minds ant.colour) ant.state instruction (Drop 0) at)

-- what is executed is a report of what is seen
abbrev pub executed_of : Seen → List Executed
executed_of it = record { colour = it.ant.colour; state = it.ant.state; met = it.met } ∷ []

pub executed-seen : (minds : Minds) (seed round : ℕ) (m : Moment) (t : ℕ) → executed_in minds seed m t ≡ flat_map executed_of (seen minds seed round m t)
executed-seen minds seed round m t = go (place_in m.world t) refl
  where
    by_rest : (n : ℕ) (p : Pos) (ant : Ant) → executed_by n minds seed m.world.cells m.place p ant ≡ flat_map executed_of (seen_by n minds seed round m t p ant)
    by_rest zero p ant = refl
    by_rest (suc left) p ant = refl

    go : (place : Option Pos) → place_in m.world t ≡ place → executed_in minds seed m t ≡ flat_map executed_of (seen minds seed round m t)
    go None dead = executed-dead minds seed m t dead ∙ ap (flat_map executed_of) (sym (seen-dead minds seed round m t dead))
    go (Some p) found =
        let it : Holder t (m.world.cells p).ant = place_in-ant m.world t p found in
        executed-there minds seed m t p it.ant found it.is ∙ by_rest it.ant.resting p it.ant ∙ ap (flat_map executed_of) (sym (seen-there minds seed round m t p it.ant found it.is))

-- and it can be told of acting ants alone
pub executed-ignores_rest : (minds : Minds) (seed : ℕ) → IgnoresRest (executed_in minds seed)
executed-ignores_rest minds seed =
    let one : (m : Moment) (t : ℕ) → executed_in minds seed m t ≡ flat_map executed_of (seen minds seed 0 m t) = executed-seen minds seed 0 in
    subst IgnoresRest (fun_ext λ m. fun_ext λ t. sym (one m t)) (IgnoresRest-mapped executed_of (seen-ignores_rest minds seed 0))
