-- the turn of a dead ant; and the lines of another, which are those of its killed, of its food and of its score
use Rattle.std.proofs.Common.{◌≡◌, ◌∙◌, ℕ, List, [], ◌++◌, Option, Some, true, refl, sym, ap, ap₂, subst}
use Rattle.std.specs.List.{flat_map}
use Rattle.std.specs.Prelude.{option_map}
use Rattle.std.proofs.lemmas.Option.{same_Some}
use Rattle.std.proofs.lemmas.Result.{err_from_is_err_and}
use Rattle.ant_base.specs.Layout.{text_of_option}
use Rattle.ant_base.specs.Sink.{Pushed, PushedAll}
use Rattle.ant_base.proofs.Pushes.{all_of_nothing, front_more, front_then, pushed_then}
use Rattle.ant_turn.specs.Deaths.{dead_in, with_noted}
use Rattle.ant_turn.specs.Minds.{mind_of, minds_of}
use Rattle.ant_turn.specs.TakesTurn.{TakesTurn}
use Rattle.ant_turn.specs.Turn.{instruction_at, turn}
use Rattle.ant_turn.proofs.FoundAnts.{found-holds, found-place, stream-undrawn}
use Rattle.ant_turn.proofs.FoundTurns.{found-id, takes-found}
use Rattle.ant_turn.proofs.Turns.{turn-dead}
use Rattle.cell_world.specs.declared.ant.PlacedAnt.{PlacedAnt}
use Rattle.cell_world.specs.Grid.{world_of}
use Rattle.cell_world.specs.declared.score.Score.{Score}
use Rattle.cell_world.specs.Score.{score_of}
use Rattle.cell_world.specs.Valid.{Valid}
use Rattle.cell_world.proofs.Places.{place_in-inside}
use Rattle.hex_geometry.specs.Position.{IsInside}
use Rattle.cell_world.specs.World.{World, place_in, with_cells}
use Rattle.match_run.specs.Watch.{moment_of}
use Rattle.match_run.proofs.SeenLemmas.{seen-dead}
use Rattle.match_run.specs.Seen.{Seen, seen}
use Rattle.game_reports.specs.declared.reports.events.MovedFood.{MovedFood}
use Rattle.game_reports.specs.Events.{changed_score, event_lines}
use Rattle.game_reports.specs.Inner.Broken.{broken}
use Rattle.game_reports.specs.Inner.EventWords.{broken_food, broken_score, moved_by, told_death}
use Rattle.game_reports.proofs.EventText.{events-here}
use Rattle.game_reports.proofs.EventRests.{is_up}
use Rattle.game_reports.proofs.reports.events.push_carried.Goals as goal

pub returns-in_default : goal.returns-in_default
returns-in_default g c =
    let minds = minds_of c.args.brains.now in
    let w = world_of c.args.ground.now in
    let s = c.args.stream.now in
    let gone = sym c.ant_of.ensures.place ∙ ap (option_map (λ (it : PlacedAnt). it.place)) c.in_default.is in
    let dead = turn-dead minds s.seed w s.place c.args.id gone in
    record {
      text =
          subst (λ (list : List Seen). PushedAll (g.K.Sink.state c.args.sink.now) (g.K.Sink.state c.args.sink.now) (broken (flat_map (event_lines true) list)))
          (sym (seen-dead minds s.seed c.args.round (moment_of w s) c.args.id gone))
          (all_of_nothing (g.K.Sink.state c.args.sink.now));
      world = rw dead c.ant_of.ensures.world;
      stream = rw dead (stream-undrawn s);
      fit = rw c.ant_of.ensures.world c.requires.fit;
    }

pub food_moved-moved-requires : goal.food_moved-moved-requires
food_moved-moved-requires g c =
    let w = world_of c.args.ground.now in
    record {
      fit = rw c.ant_of.ensures.world c.requires.fit;
      inside =
          subst (λ (u : World). IsInside u.width u.height c.in-Some.standing.place) (sym c.ant_of.ensures.world)
          (place_in-inside w c.args.id c.in-Some.standing.place (found-place (place_in w c.args.id) c.ant_of.result c.in-Some.standing c.ant_of.ensures.place c.in-Some.is));
      here =
          subst (λ (u : World). (u.cells c.in-Some.standing.place).ant ≡ Some c.in-Some.standing.ant) (sym c.ant_of.ensures.world)
          (found-holds w c.ant_of.result c.in-Some.standing c.ant_of.ensures.ant c.in-Some.is);
    }

pub take_turn_noting_kills-deed-requires-clause-fit : goal.take_turn_noting_kills-deed-requires-clause-fit
take_turn_noting_kills-deed-requires-clause-fit g c = rw (c.food_moved-moved.ensures.world, c.ant_of.ensures.world) c.requires.fit

pub take_turn_noting_kills-deed-requires-clause-here : goal.take_turn_noting_kills-deed-requires-clause-here
take_turn_noting_kills-deed-requires-clause-here g c =
    subst (λ (w : World). (w.cells c.in-Some.standing.place).ant ≡ Some c.in-Some.standing.ant) (sym (c.food_moved-moved.ensures.world ∙ c.ant_of.ensures.world)) (found-holds (world_of c.args.ground.now) c.ant_of.result c.in-Some.standing c.ant_of.ensures.ant c.in-Some.is)

pub take_turn_noting_kills-deed-requires-clause-up : goal.take_turn_noting_kills-deed-requires-clause-up
take_turn_noting_kills-deed-requires-clause-up g c = is_up (world_of c.args.ground.now) c.ant_of.ensures.place c.ant_of.ensures.ant c.in-Some.is c.requires.up

pub returns-in_err-push_deaths : goal.returns-in_err-push_deaths
returns-in_err-push_deaths g c =
    let minds = minds_of c.args.brains.now in
    let w = world_of c.args.ground.now in
    let s = c.args.stream.now in
    let it = c.in-Some.standing in
    let found : world_of c.ant_of.new.self ≡ w = c.ant_of.ensures.world in
    let same : world_of c.food_moved-moved.new.ground ≡ w = c.food_moved-moved.ensures.world ∙ found in
    let own = found-id w c.args.id c.ant_of.result it c.ant_of.ensures.place c.ant_of.ensures.ant c.in-Some.is in
    let none : Some c.new-dead.result.items ≡ Some [] = ap Some c.new-dead.ensures in
    let noted : c.take_turn_noting_kills-deed.new.notes.items ≡ dead_in minds w c.args.id =
    same_Some _ _ (c.take_turn_noting_kills-deed.ensures.noted ∙ ap (with_noted (dead_in minds (world_of c.food_moved-moved.new.ground) it.ant.id)) none ∙ ap₂ (λ (u : World) (t : ℕ). Some (dead_in minds u t)) same own) in
    let gone = c.deref.ensures.0 ∙ noted in
    let moved : c.food_moved-moved.result ≡ moved_by true (w.cells it.place) it.ant (instruction_at (mind_of minds it.ant.colour) it.ant.state) =
    c.food_moved-moved.ensures.moved ∙ ap (λ (u : World). moved_by true (u.cells it.place) it.ant (instruction_at (mind_of minds it.ant.colour) it.ant.state)) found in
    let up = is_up w c.ant_of.ensures.place c.ant_of.ensures.ant c.in-Some.is c.requires.up in
    let was = c.score-before.ensures ∙ ap score_of found in
    let taken : TakesTurn minds c.args.id w (world_of c.take_turn_noting_kills-deed.new.ground) 9 9 s c.take_turn_noting_kills-deed.new.stream c.take_turn_noting_kills-deed.result =
    takes-found same refl own c.take_turn_noting_kills-deed.ensures.taken in
    let after : Score = score_of (with_cells w (turn minds s.seed w s.place c.args.id).cells) in
    let text : broken (flat_map (event_lines true) (seen minds s.seed c.args.round (moment_of w s) c.args.id)) ≡ flat_map (told_death c.args.round it.ant) c.deref.result.now
    ++ (text_of_option (broken_food c.args.round it.ant it.place) c.food_moved-moved.result ++ flat_map (broken_score c.args.round it.ant) (changed_score c.score-before.result after)) =
    events-here minds s.seed c.args.round (moment_of w s) c.args.id it.place it.ant (subst Valid found c.ant_of.ensures.valid)
    (found-place (place_in w c.args.id) c.ant_of.result it c.ant_of.ensures.place c.in-Some.is) (found-holds w c.ant_of.result it c.ant_of.ensures.ant c.in-Some.is) up true c.deref.result.now c.score-before.result after gone was refl
    ∙ ap (λ (o : Option MovedFood). flat_map (told_death c.args.round it.ant) c.deref.result.now ++ (text_of_option (broken_food c.args.round it.ant it.place) o ++ flat_map (broken_score c.args.round it.ant) (changed_score c.score-before.result after))) (sym moved) in
    let p = err_from_is_err_and c.from_residual.result c.from_residual.ensures.1 in
    record {
      text = rw (p.1, text) (front_more _ _ _ _ c.in_err-push_deaths.ensures);
      world = taken.world;
      stream = taken.stream;
      fit = taken.fit;
    }

pub returns-in_err-push_food : goal.returns-in_err-push_food
returns-in_err-push_food g c =
    let minds = minds_of c.args.brains.now in
    let w = world_of c.args.ground.now in
    let s = c.args.stream.now in
    let it = c.in-Some.standing in
    let found : world_of c.ant_of.new.self ≡ w = c.ant_of.ensures.world in
    let same : world_of c.food_moved-moved.new.ground ≡ w = c.food_moved-moved.ensures.world ∙ found in
    let own = found-id w c.args.id c.ant_of.result it c.ant_of.ensures.place c.ant_of.ensures.ant c.in-Some.is in
    let none : Some c.new-dead.result.items ≡ Some [] = ap Some c.new-dead.ensures in
    let noted : c.take_turn_noting_kills-deed.new.notes.items ≡ dead_in minds w c.args.id =
    same_Some _ _ (c.take_turn_noting_kills-deed.ensures.noted ∙ ap (with_noted (dead_in minds (world_of c.food_moved-moved.new.ground) it.ant.id)) none ∙ ap₂ (λ (u : World) (t : ℕ). Some (dead_in minds u t)) same own) in
    let gone = c.deref.ensures.0 ∙ noted in
    let moved : c.food_moved-moved.result ≡ moved_by true (w.cells it.place) it.ant (instruction_at (mind_of minds it.ant.colour) it.ant.state) =
    c.food_moved-moved.ensures.moved ∙ ap (λ (u : World). moved_by true (u.cells it.place) it.ant (instruction_at (mind_of minds it.ant.colour) it.ant.state)) found in
    let up = is_up w c.ant_of.ensures.place c.ant_of.ensures.ant c.in-Some.is c.requires.up in
    let was = c.score-before.ensures ∙ ap score_of found in
    let taken : TakesTurn minds c.args.id w (world_of c.take_turn_noting_kills-deed.new.ground) 9 9 s c.take_turn_noting_kills-deed.new.stream c.take_turn_noting_kills-deed.result =
    takes-found same refl own c.take_turn_noting_kills-deed.ensures.taken in
    let after : Score = score_of (with_cells w (turn minds s.seed w s.place c.args.id).cells) in
    let text : broken (flat_map (event_lines true) (seen minds s.seed c.args.round (moment_of w s) c.args.id)) ≡ flat_map (told_death c.args.round it.ant) c.deref.result.now
    ++ (text_of_option (broken_food c.args.round it.ant it.place) c.food_moved-moved.result ++ flat_map (broken_score c.args.round it.ant) (changed_score c.score-before.result after)) =
    events-here minds s.seed c.args.round (moment_of w s) c.args.id it.place it.ant (subst Valid found c.ant_of.ensures.valid)
    (found-place (place_in w c.args.id) c.ant_of.result it c.ant_of.ensures.place c.in-Some.is) (found-holds w c.ant_of.result it c.ant_of.ensures.ant c.in-Some.is) up true c.deref.result.now c.score-before.result after gone was refl
    ∙ ap (λ (o : Option MovedFood). flat_map (told_death c.args.round it.ant) c.deref.result.now ++ (text_of_option (broken_food c.args.round it.ant it.place) o ++ flat_map (broken_score c.args.round it.ant) (changed_score c.score-before.result after))) (sym moved) in
    let p = err_from_is_err_and c.from_residual-in_err-push_food.result c.from_residual-in_err-push_food.ensures.1 in
    record {
      text = rw (p.1, text) (front_then _ _ _ _ _ c.in_ok-push_deaths.ensures (front_more _ _ _ _ c.in_err-push_food.ensures));
      world = taken.world;
      stream = taken.stream;
      fit = taken.fit;
    }

pub returns : goal.returns
returns g c =
    let minds = minds_of c.args.brains.now in
    let w = world_of c.args.ground.now in
    let s = c.args.stream.now in
    let it = c.in-Some.standing in
    let found : world_of c.ant_of.new.self ≡ w = c.ant_of.ensures.world in
    let same : world_of c.food_moved-moved.new.ground ≡ w = c.food_moved-moved.ensures.world ∙ found in
    let own = found-id w c.args.id c.ant_of.result it c.ant_of.ensures.place c.ant_of.ensures.ant c.in-Some.is in
    let none : Some c.new-dead.result.items ≡ Some [] = ap Some c.new-dead.ensures in
    let noted : c.take_turn_noting_kills-deed.new.notes.items ≡ dead_in minds w c.args.id =
    same_Some _ _ (c.take_turn_noting_kills-deed.ensures.noted ∙ ap (with_noted (dead_in minds (world_of c.food_moved-moved.new.ground) it.ant.id)) none ∙ ap₂ (λ (u : World) (t : ℕ). Some (dead_in minds u t)) same own) in
    let gone = c.deref.ensures.0 ∙ noted in
    let moved : c.food_moved-moved.result ≡ moved_by true (w.cells it.place) it.ant (instruction_at (mind_of minds it.ant.colour) it.ant.state) =
    c.food_moved-moved.ensures.moved ∙ ap (λ (u : World). moved_by true (u.cells it.place) it.ant (instruction_at (mind_of minds it.ant.colour) it.ant.state)) found in
    let up = is_up w c.ant_of.ensures.place c.ant_of.ensures.ant c.in-Some.is c.requires.up in
    let was = c.score-before.ensures ∙ ap score_of found in
    let taken : TakesTurn minds c.args.id w (world_of c.take_turn_noting_kills-deed.new.ground) 9 9 s c.take_turn_noting_kills-deed.new.stream c.take_turn_noting_kills-deed.result =
    takes-found same refl own c.take_turn_noting_kills-deed.ensures.taken in
    let after : Score = score_of (with_cells w (turn minds s.seed w s.place c.args.id).cells) in
    let text : broken (flat_map (event_lines true) (seen minds s.seed c.args.round (moment_of w s) c.args.id)) ≡ flat_map (told_death c.args.round it.ant) c.deref.result.now
    ++ (text_of_option (broken_food c.args.round it.ant it.place) c.food_moved-moved.result ++ flat_map (broken_score c.args.round it.ant) (changed_score c.score-before.result after)) =
    events-here minds s.seed c.args.round (moment_of w s) c.args.id it.place it.ant (subst Valid found c.ant_of.ensures.valid)
    (found-place (place_in w c.args.id) c.ant_of.result it c.ant_of.ensures.place c.in-Some.is) (found-holds w c.ant_of.result it c.ant_of.ensures.ant c.in-Some.is) up true c.deref.result.now c.score-before.result after gone was refl
    ∙ ap (λ (o : Option MovedFood). flat_map (told_death c.args.round it.ant) c.deref.result.now ++ (text_of_option (broken_food c.args.round it.ant it.place) o ++ flat_map (broken_score c.args.round it.ant) (changed_score c.score-before.result after))) (sym moved) in
    let now : c.score.result ≡ after = c.score.ensures ∙ ap score_of taken.world in
    let pushed : Pushed (g.K.Sink.state c.push_food.new.sink) (g.K.Sink.state c.push_score.new.sink) (flat_map (broken_score c.args.round it.ant) (changed_score c.score-before.result after)) c.push_score.result =
    subst (λ (score : Score). Pushed (g.K.Sink.state c.push_food.new.sink) (g.K.Sink.state c.push_score.new.sink) (flat_map (broken_score c.args.round it.ant) (changed_score c.score-before.result score)) c.push_score.result) now c.push_score.ensures in
    record {
      text = rw text (pushed_then _ _ _ _ _ c.push_score.result c.in_ok-push_deaths.ensures (pushed_then _ _ _ _ _ c.push_score.result c.in_ok-push_food.ensures pushed));
      world = taken.world;
      stream = taken.stream;
      fit = taken.fit;
    }
