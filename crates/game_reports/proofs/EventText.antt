-- The lines of what is seen of a turn, from what was found of it.
use Rattle.std.proofs.Common.{◌≡◌, ℕ, ◌==◌, ◌||◌, ◌&&◌, Bool, true, false, List, [], ◌++◌, Option, Some, map, codes, refl, sym, ◌∙◌, ap, ap₂, append-nil}
use Rattle.std.specs.List.{flat_map}
use Rattle.std.proofs.Math.Path.{fun_ext}
use Rattle.std.proofs.lemmas.List.Folds.{flat_map-map}
use Rattle.std.proofs.lemmas.Simd.{map-map}
use Rattle.ant_base.specs.Layout.{text_of_option}
use Rattle.hex_geometry.specs.declared.position.Pos.{Pos}
use Rattle.ant_turn.specs.Deaths.{dead_in}
use Rattle.ant_turn.specs.Minds.{Minds, mind_of}
use Rattle.ant_turn.specs.Rounds.{Moment}
use Rattle.ant_turn.specs.Turn.{instruction_at, turn}
use Rattle.brain_read.specs.declared.instr.Instr.{Instr}
use Rattle.brain_read.specs.declared.instr.Instr.TheVariants.{Sense, Mark, Unmark, PickUp, Drop, Turn, Move, Flip}
use Rattle.cell_world.specs.declared.ant.Ant.{Ant}
use Rattle.cell_world.specs.declared.ant.PlacedAnt.{PlacedAnt}
use Rattle.cell_world.specs.declared.score.Score.{Score}
use Rattle.cell_world.specs.Score.{score_of}
use Rattle.cell_world.specs.Valid.{Valid}
use Rattle.cell_world.specs.World.{place_in, with_cells}
use Rattle.match_run.specs.Seen.{Seen, killed_as, seen, seen_by, seen_of}
use Rattle.match_run.proofs.SeenLemmas.{seen-there}
use Rattle.game_reports.specs.Events.{changed_score, death_line, death_words, event_lines, food_lines, score_line}
use Rattle.game_reports.specs.Inner.Broken.{broken}
use Rattle.game_reports.specs.Inner.Chunks.{is_quiet, moves_food}
use Rattle.game_reports.specs.Inner.EventWords.{broken_food, broken_score, moved_by, told_death}
use Rattle.game_reports.proofs.DeathLines.{ant_in-at}
use Rattle.game_reports.proofs.EventLemmas.{broken-append, deaths-told}
use Rattle.game_reports.proofs.EventRests.{death-seen}

-- an instruction that moves no food has no line of food
pub food-still : (food : Bool) (it : Seen) → moves_food it.instruction ≡ false → food_lines food it ≡ []
food-still false it still = refl
food-still true it still = go it.instruction still
  where
    go : (i : Instr) → moves_food i ≡ false → food_lines true (record it { instruction = i }) ≡ []
    go (Sense sight met unmet condition) calm = refl
    go (Mark i next) calm = refl
    go (Unmark i next) calm = refl
    go (PickUp met unmet) calm = absurd (cc)
    go (Drop next) calm = absurd (cc)
    go (Turn side next) calm = refl
    go (Move met unmet) calm = refl
    go (Flip bound met unmet) calm = refl

-- a quiet one moves none
pub quiet-still : (i : Instr) → is_quiet i ≡ true → moves_food i ≡ false
quiet-still (Sense sight met unmet condition) calm = refl
quiet-still (Mark i next) calm = refl
quiet-still (Unmark i next) calm = refl
quiet-still (PickUp met unmet) calm = absurd (cc)
quiet-still (Drop next) calm = absurd (cc)
quiet-still (Turn side next) calm = refl
quiet-still (Move met unmet) calm = absurd (cc)
quiet-still (Flip bound met unmet) calm = refl

-- its lines are those without food
pub lines-still : (food : Bool) (it : Seen) → moves_food it.instruction ≡ false → event_lines food it ≡ event_lines false it
lines-still food it still =
    ap (λ (lines : List (List ℕ)). map (death_line it.round it.ant) it.killed ++ (lines ++ map (score_line it.round it.ant) (changed_score it.before it.after))) (food-still food it still)

-- a turn adds no line of food, or one is requested
pub lines-plain : (food : Bool) (it : Seen) → (moves_food it.instruction && food) ≡ false → event_lines food it ≡ event_lines false it
lines-plain food it none = go (moves_food it.instruction) food refl none
  where
    go : (b f : Bool) → moves_food it.instruction ≡ b → (b && f) ≡ false → event_lines f it ≡ event_lines false it
    go true true e other = absurd (cc)
    go true false e other = refl
    go false true e other = lines-still true it e
    go false false e other = refl

pub lines-fed : (food : Bool) (it : Seen) → (moves_food it.instruction && food) ≡ true → event_lines food it ≡ event_lines true it
lines-fed food it some = go (moves_food it.instruction) food some
  where
    go : (b f : Bool) → (b && f) ≡ true → event_lines f it ≡ event_lines true it
    go true true e = refl
    go true false e = absurd (cc)
    go false f e = absurd (cc)

module _ (minds : Minds) (seed round : ℕ) (m : Moment) (t : ℕ) (p : Pos) (ant : Ant) (valid : Valid m.world) (found : place_in m.world t ≡ Some p) (is : (m.world.cells p).ant ≡ Some ant) where
  -- what is seen of its turn, by its instruction
  abbrev it_by : Instr → Seen
  it_by instruction = seen_of seed round m.world m.place t p ant instruction (turn minds seed m.world m.place t)

  -- the line of food, from the particle that goes
  food-here : (food : Bool) (instruction : Instr) → broken (food_lines food (it_by instruction)) ≡ text_of_option (broken_food round ant p) (moved_by food (m.world.cells p) ant instruction)
  food-here false instruction = refl
  food-here true (Sense sight met unmet condition) = refl
  food-here true (Mark i next) = refl
  food-here true (Unmark i next) = refl
  food-here true (PickUp met unmet) = go (ant.laden || ((m.world.cells p).food == 0)) refl
    where
      go : (b : Bool) → (ant.laden || ((m.world.cells p).food == 0)) ≡ b
          → broken (food_lines true (it_by (PickUp met unmet))) ≡ text_of_option (broken_food round ant p) (moved_by true (m.world.cells p) ant (PickUp met unmet))
      go true is = rw is refl
      go false is = rw is (append-nil _)
  food-here true (Drop next) = go ant.laden refl
    where
      go : (b : Bool) → ant.laden ≡ b → broken (food_lines true (it_by (Drop next))) ≡ text_of_option (broken_food round ant p) (moved_by true (m.world.cells p) ant (Drop next))
      go true is = rw is (append-nil _)
      go false is = rw is refl
  food-here true (Turn side next) = refl
  food-here true (Move met unmet) = refl
  food-here true (Flip bound met unmet) = refl

  abbrev killed : List ℕ
  killed = (turn minds seed m.world m.place t).killed

  -- the lines of the killed
  deaths-here : broken (map (death_line round ant) (map (killed_as m.world t) killed)) ≡ flat_map (told_death round ant) (dead_in minds m.world t)
  deaths-here =
      ap broken
      (map-map (death_line round ant) (killed_as m.world t) killed
      ∙ ap (λ (line : ℕ → List ℕ). map line killed) (fun_ext (λ u. sym (death-seen round m.world t ant (ant_in-at m.world t p ant found is) u))))
      ∙ flat_map-map (λ words. codes "\n" ++ words) (death_words round m.world t) killed
      ∙ deaths-told minds seed round m t p ant valid found is

  -- all lines of its turn, as they are pushed
  pub events-here : ant.resting ≡ 0 → (food : Bool) (dead : List (Option PlacedAnt)) (before after : Score) → dead ≡ dead_in minds m.world t → before ≡ score_of m.world
      → after ≡ score_of (with_cells m.world (turn minds seed m.world m.place t).cells)
      → broken (flat_map (event_lines food) (seen minds seed round m t)) ≡ flat_map (told_death round ant) dead
      ++ (text_of_option (broken_food round ant p) (moved_by food (m.world.cells p) ant (instruction_at (mind_of minds ant.colour) ant.state))
      ++ flat_map (broken_score round ant) (changed_score before after))
  events-here up food dead before after gone was now =
      let instruction : Instr = instruction_at (mind_of minds ant.colour) ant.state in
      let it : Seen = it_by instruction in
      let deaths : List (List ℕ) = map (death_line round ant) it.killed in
      let scores : List (List ℕ) = map (score_line round ant) (changed_score it.before it.after) in
      ap (λ (list : List Seen). broken (flat_map (event_lines food) list)) (seen-there minds seed round m t p ant found is ∙ ap (λ n. seen_by n minds seed round m t p ant) up)
      ∙ ap broken (append-nil (event_lines food it))
      ∙ broken-append deaths (food_lines food it ++ scores)
      ∙ ap₂ (λ (front rest : List ℕ). front ++ rest)
      (deaths-here ∙ ap (flat_map (told_death round ant)) (sym gone))
      (broken-append (food_lines food it) scores
      ∙ ap₂ (λ (front rest : List ℕ). front ++ rest)
      (food-here food instruction)
      (flat_map-map (λ words. codes "\n" ++ words) (score_line round ant) (changed_score it.before it.after)
      ∙ ap₂ (λ (b a : Score). flat_map (broken_score round ant) (changed_score b a)) (sym was) (sym now)))
