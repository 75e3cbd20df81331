-- What is seen of a turn, by its ant's place. It doesn't depend on how long others rest, and neither does a report of
-- it alone.
use Rattle.std.proofs.Common.{◌≡◌, ℕ, Bool, zero, suc, ◌+◌, List, [], ◌∷◌, Option, Some, None, map, ◌∙◌, ap, ap₂, refl, sym, arith}
use Rattle.std.specs.Prelude.{◌||◌, not, if◌then◌else◌, nat_eq, nat_lt, option_map}
use Rattle.std.specs.List.{flat_map}
use Rattle.std.specs.Option.{option_and_then}
use Rattle.std.proofs.Math.Path.{fun_ext}
use Rattle.std.proofs.lemmas.Bool.{cond_both}
use Rattle.hex_geometry.specs.declared.position.Pos.{Pos}
use Rattle.hex_geometry.specs.Neighbourhood.{adjacent_pos, sensed_pos}
use Rattle.ant_turn.specs.Minds.{Minds, mind_of}
use Rattle.ant_turn.specs.Rounds.{Moment}
use Rattle.ant_turn.specs.Turn.{Outcome, instruction_at, turn}
use Rattle.ant_turn.proofs.OtherAnts.{has_ant-mapped, meets-mapped}
use Rattle.ant_turn.proofs.RestingTurns.{turn-with_rests}
use Rattle.brain_read.specs.declared.instr.Instr.{Instr}
use Rattle.brain_read.specs.declared.instr.Instr.TheVariants.{Sense, Mark, Unmark, PickUp, Drop, Turn, Move, Flip}
use Rattle.cell_world.specs.declared.ant.Ant.{Ant}
use Rattle.cell_world.specs.declared.ant.PlacedAnt.{PlacedAnt}
use Rattle.cell_world.specs.declared.cell.Cell.{Cell}
use Rattle.cell_world.specs.declared.score.Score.{Score}
use Rattle.cell_world.specs.Resting.{rests_in, with_rest, with_rests}
use Rattle.cell_world.specs.World.{Cells, World, place_in, with_cells}
use Rattle.cell_world.proofs.Places.{Holder, place_in-ant}
use Rattle.cell_world.proofs.RestingLemmas.{place_in-with_rests}
use Rattle.match_run.specs.Seen.{Killed, ahead_of, ant_in, death_place, is_met, killed_as, seen, seen_at, seen_by, seen_from, seen_here, seen_of, unrested}
use Rattle.match_run.specs.Told.{Telling, from_round}
use Rattle.match_run.specs.Watch.{IgnoresRest}
use Rattle.match_run.proofs.ScoreLemmas.{score-with_rests}

-- a report of a report depends on no more than that
pub IgnoresRest-mapped : {A B : Type 0} (lines : A → List B) {telling : Telling A} → IgnoresRest telling → IgnoresRest (λ m t. flat_map lines (telling m t))
IgnoresRest-mapped lines ignores = record {
  dead = λ m t none. ap (flat_map lines) (ignores.dead m t none);
  resting = λ m t p ant left found is tired. ap (flat_map lines) (ignores.resting m t p ant left found is tired);
  others = λ f t own m. ap (flat_map lines) (ignores.others f t own m);
}

-- nor does a report from a round on
pub IgnoresRest-from : {A : Type 0} (from : ℕ) {telling : ℕ → Telling A} → ((round : ℕ) → IgnoresRest (telling round)) → (round : ℕ) → IgnoresRest (from_round from telling round)
IgnoresRest-from {A} from {telling} ignores round = record {
  dead = λ m t none. kept (telling round m t) ((ignores round).dead m t none);
  resting = λ m t p ant left found is tired. kept (telling round m t) ((ignores round).resting m t p ant left found is tired);
  others = λ f t own m. ap (λ told. if nat_lt round from then [] else told) ((ignores round).others f t own m);
}
  where
    kept : (told : List A) → told ≡ [] → (if nat_lt round from then [] else told) ≡ []
    kept told none = cond_both (nat_lt round from) [] told (λ (l : List A). l ≡ []) (λ _. refl) (λ _. none)

module _ (minds : Minds) (seed round : ℕ) (m : Moment) (t : ℕ) where
  -- nothing of the turn of a dead ant
  pub seen-dead : place_in m.world t ≡ None → seen minds seed round m t ≡ []
  unfolding seen
  seen-dead dead = ap (seen_from minds seed round m t) dead

  -- what the ant at its place does
  pub seen-there : (p : Pos) (ant : Ant) → place_in m.world t ≡ Some p → (m.world.cells p).ant ≡ Some ant → seen minds seed round m t ≡ seen_by ant.resting minds seed round m t p ant
  unfolding seen
  seen-there p ant found is = ap (seen_from minds seed round m t) found ∙ ap (seen_at minds seed round m t p) is

  -- nothing of the turn of one that rests
  pub seen-rests : (p : Pos) (ant : Ant) (left : ℕ) → place_in m.world t ≡ Some p → (m.world.cells p).ant ≡ Some ant → ant.resting ≡ left + 1 → seen minds seed round m t ≡ []
  seen-rests p ant left found is tired =
      let more : ant.resting ≡ suc left = omega (arith, tired) in
      seen-there p ant found is ∙ ap (λ n. seen_by n minds seed round m t p ant) more

-- one thing of the turn of another
pub seen-acts : (minds : Minds) (seed round : ℕ) (m : Moment) (it : PlacedAnt) → place_in m.world it.ant.id ≡ Some it.place → (m.world.cells it.place).ant ≡ Some it.ant → it.ant.resting ≡ 0
    → seen minds seed round m it.ant.id ≡ seen_here minds seed round m it ∷ []
seen-acts minds seed round m it found is ready = seen-there minds seed round m it.ant.id it.place it.ant found is ∙ ap (λ n. seen_by n minds seed round m it.ant.id it.place it.ant) ready

module _ (f : ℕ → ℕ → ℕ) (w : World) where
  -- each ant is the same except for its rest
  unrested-with_rest : (o : Option Ant) → option_map unrested (option_map (with_rest f) o) ≡ option_map unrested o
  unrested-with_rest None = refl
  unrested-with_rest (Some ant) = refl

  unrested_at : (place : Option Pos) → option_map unrested (option_and_then (λ p. (rests_in f w.cells p).ant) place) ≡ option_map unrested (option_and_then (λ p. (w.cells p).ant) place)
  unrested_at None = refl
  unrested_at (Some p) = unrested-with_rest (w.cells p).ant

  ant_in-unrested : (t : ℕ) → option_map unrested (ant_in (with_rests f w) t) ≡ option_map unrested (ant_in w t)
  unfolding ant_in
  ant_in-unrested t = ap (λ place. option_map unrested (option_and_then (λ p. (rests_in f w.cells p).ant) place)) (place_in-with_rests f w t) ∙ unrested_at (place_in w t)

  -- and looks the same way
  ahead-with_rest : (p : Pos) (o : Option Ant) → option_map (λ (ant : Ant). adjacent_pos p ant.facing) (option_map (with_rest f) o) ≡ option_map (λ (ant : Ant). adjacent_pos p ant.facing) o
  ahead-with_rest p None = refl
  ahead-with_rest p (Some ant) = refl

  abbrev ahead_in : Cells → Option Pos → Option Pos
  ahead_in cells place = option_and_then (λ p. option_map (λ (ant : Ant). adjacent_pos p ant.facing) (cells p).ant) place

  ahead_at : (place : Option Pos) → ahead_in (rests_in f w.cells) place ≡ ahead_in w.cells place
  ahead_at None = refl
  ahead_at (Some p) = ahead-with_rest p (w.cells p).ant

  death_place-with_rests : (t u : ℕ) → death_place (with_rests f w) t u ≡ death_place w t u
  unfolding death_place ahead_of
  death_place-with_rests t u =
      ap₂ (λ ahead place. if nat_eq u t then ahead else place)
      (ap (ahead_in (rests_in f w.cells)) (place_in-with_rests f w t) ∙ ahead_at (place_in w t))
      (place_in-with_rests f w u)

  killed_as-with_rests : (t u : ℕ) → killed_as (with_rests f w) t u ≡ killed_as w t u
  killed_as-with_rests t u = ap₂ (λ (ant : Option Ant) (place : Option Pos). let k : Killed = record { ant = ant; place = place } in k) (ant_in-unrested u) (death_place-with_rests t u)

-- nor whether an answer is the first
pub is_met-with_rests : (f : ℕ → ℕ → ℕ) (seed : ℕ) (cells : Cells) (place : ℕ) (p : Pos) (ant : Ant) (instruction : Instr) → is_met seed (rests_in f cells) place p ant instruction ≡ is_met seed cells place p ant instruction
is_met-with_rests f seed cells place p ant (Sense sight met unmet condition) = meets-mapped (λ (a : Ant). a.state) (λ (a : Ant). f a.id a.resting) (cells (sensed_pos p ant.facing sight)) condition ant.colour
is_met-with_rests f seed cells place p ant (Mark i next) = refl
is_met-with_rests f seed cells place p ant (Unmark i next) = refl
is_met-with_rests f seed cells place p ant (PickUp met unmet) = refl
is_met-with_rests f seed cells place p ant (Drop next) = refl
is_met-with_rests f seed cells place p ant (Turn side next) = refl
is_met-with_rests f seed cells place p ant (Move met unmet) =
    let ahead : Cell = cells (adjacent_pos p ant.facing) in
    ap (λ b. not (ahead.rocky || b)) (has_ant-mapped (λ (a : Ant). a.state) (λ (a : Ant). f a.id a.resting) ahead.ant)
is_met-with_rests f seed cells place p ant (Flip bound met unmet) = refl

module _ (minds : Minds) (seed round : ℕ) (f : ℕ → ℕ → ℕ) (t : ℕ) (own : (n : ℕ) → f t n ≡ n) (m : Moment) where
  abbrev rested : Moment
  rested = record m { world = with_rests f m.world }

  -- what is seen of an acting ant is the same however long the others rest
  seen_by-with_rests : (left : ℕ) (p : Pos) (ant : Ant) → seen_by left minds seed round rested t p ant ≡ seen_by left minds seed round m t p ant
  seen_by-with_rests (suc left) p ant = refl
  seen_by-with_rests zero p ant =
      let instruction : Instr = instruction_at (mind_of minds ant.colour) ant.state in
      let outcome : Outcome = turn minds seed m.world m.place t in
      ap (λ o. seen_of seed round (with_rests f m.world) m.place t p ant instruction o ∷ []) (turn-with_rests f t own minds seed m.world m.place)
      ∙ ap₂ (λ (met : Bool) (killed : List Killed). record (seen_of seed round (with_rests f m.world) m.place t p ant instruction (record outcome { cells = rests_in f outcome.cells })) { met = met; killed = killed } ∷ [])
      (is_met-with_rests f seed m.world.cells m.place p ant instruction)
      (ap (λ one. map one outcome.killed) (fun_ext (killed_as-with_rests f m.world t)))
      ∙ ap₂ (λ (before after : Score). record (seen_of seed round m.world m.place t p ant instruction outcome) { before = before; after = after } ∷ [])
      (score-with_rests f m.world) (score-with_rests f (with_cells m.world outcome.cells))

  seen-others : seen minds seed round rested t ≡ seen minds seed round m t
  seen-others = go (place_in m.world t) refl
    where
      go : (place : Option Pos) → place_in m.world t ≡ place → seen minds seed round rested t ≡ seen minds seed round m t
      go None dead = seen-dead minds seed round rested t (place_in-with_rests f m.world t ∙ dead) ∙ sym (seen-dead minds seed round m t dead)
      go (Some p) found =
          let it : Holder t (m.world.cells p).ant = place_in-ant m.world t p found in
          let same : with_rest f it.ant ≡ it.ant = ap (λ n. let after : Ant = record it.ant { resting = n } in after) (ap (λ i. f i it.ant.resting) it.id ∙ own it.ant.resting) in
          seen-there minds seed round rested t p it.ant (place_in-with_rests f m.world t ∙ found) (ap (option_map (with_rest f)) it.is ∙ ap Some same)
          ∙ seen_by-with_rests it.ant.resting p it.ant
          ∙ sym (seen-there minds seed round m t p it.ant found it.is)

-- so it can be seen of acting ants alone
pub seen-ignores_rest : (minds : Minds) (seed round : ℕ) → IgnoresRest (seen minds seed round)
seen-ignores_rest minds seed round = record {
  dead = seen-dead minds seed round;
  resting = seen-rests minds seed round;
  others = seen-others minds seed round;
}
