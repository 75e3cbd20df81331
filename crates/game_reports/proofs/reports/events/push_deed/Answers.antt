-- the turn of a dead ant; and the lines of another, which are those of its killed, of its food and of its score
use Rattle.std.proofs.Common.{false, ◌≡◌, ◌∙◌, ℕ, List, [], ◌++◌, Some, refl, sym, ap, ap₂, subst}
use Rattle.std.specs.List.{flat_map}
use Rattle.std.specs.Prelude.{option_map}
use Rattle.std.proofs.lemmas.Option.{same_Some}
use Rattle.std.proofs.lemmas.Result.{err_from_is_err_and}
use Rattle.ant_base.specs.Sink.{Pushed, PushedAll}
use Rattle.ant_base.proofs.Pushes.{all_of_nothing, front_more, pushed_then}
use Rattle.ant_turn.specs.Deaths.{dead_in, with_noted}
use Rattle.ant_turn.specs.Minds.{minds_of}
use Rattle.ant_turn.specs.TakesTurn.{TakesTurn}
use Rattle.ant_turn.specs.Turn.{turn}
use Rattle.ant_turn.proofs.FoundAnts.{found-holds, found-place, stream-undrawn}
use Rattle.ant_turn.proofs.FoundTurns.{found-id, takes-found}
use Rattle.ant_turn.proofs.Turns.{turn-dead}
use Rattle.cell_world.specs.declared.ant.PlacedAnt.{PlacedAnt}
use Rattle.cell_world.specs.Grid.{world_of}
use Rattle.cell_world.specs.declared.score.Score.{Score}
use Rattle.cell_world.specs.Score.{score_of}
use Rattle.cell_world.specs.Valid.{Valid}
use Rattle.cell_world.specs.World.{World, place_in, with_cells}
use Rattle.match_run.specs.Watch.{moment_of}
use Rattle.match_run.proofs.SeenLemmas.{seen-dead}
use Rattle.match_run.specs.Seen.{Seen, seen}
use Rattle.game_reports.specs.Events.{changed_score, event_lines}
use Rattle.game_reports.specs.Inner.Broken.{broken}
use Rattle.game_reports.specs.Inner.EventWords.{broken_score, told_death}
use Rattle.game_reports.proofs.EventText.{events-here}
use Rattle.game_reports.proofs.EventRests.{is_up}
use Rattle.game_reports.proofs.reports.events.push_deed.Goals as goal

pub returns-in_default : goal.returns-in_default
returns-in_default g c =
    let minds = minds_of c.args.brains.now in
    let w = world_of c.args.ground.now in
    let s = c.args.stream.now in
    let gone = sym c.ant_of.ensures.place ∙ ap (option_map (λ (it : PlacedAnt). it.place)) c.in_default.is in
    let dead = turn-dead minds s.seed w s.place c.args.id gone in
    record {
      text =
          subst (λ (list : List Seen). PushedAll (g.K.Sink.state c.args.sink.now) (g.K.Sink.state c.args.sink.now) (broken (flat_map (event_lines false) list)))
          (sym (seen-dead minds s.seed c.args.round (moment_of w s) c.args.id gone))
          (all_of_nothing (g.K.Sink.state c.args.sink.now));
      world = rw dead c.ant_of.ensures.world;
      stream = rw dead (stream-undrawn s);
      fit = rw c.ant_of.ensures.world c.requires.fit;
    }

pub take_turn_noting_kills-deed-requires-clause-fit : goal.take_turn_noting_kills-deed-requires-clause-fit
take_turn_noting_kills-deed-requires-clause-fit g c = rw c.ant_of.ensures.world c.requires.fit

pub take_turn_noting_kills-deed-requires-clause-here : goal.take_turn_noting_kills-deed-requires-clause-here
take_turn_noting_kills-deed-requires-clause-here g c =
    subst (λ (w : World). (w.cells c.in-Some.standing.place).ant ≡ Some c.in-Some.standing.ant) (sym c.ant_of.ensures.world) (found-holds (world_of c.args.ground.now) c.ant_of.result c.in-Some.standing c.ant_of.ensures.ant c.in-Some.is)

pub take_turn_noting_kills-deed-requires-clause-up : goal.take_turn_noting_kills-deed-requires-clause-up
take_turn_noting_kills-deed-requires-clause-up g c = is_up (world_of c.args.ground.now) c.ant_of.ensures.place c.ant_of.ensures.ant c.in-Some.is c.requires.up

pub returns-in_err-push_deaths : goal.returns-in_err-push_deaths
returns-in_err-push_deaths g c =
    let minds = minds_of c.args.brains.now in
    let w = world_of c.args.ground.now in
    let s = c.args.stream.now in
    let it = c.in-Some.standing in
    let found : world_of c.ant_of.new.self ≡ w = c.ant_of.ensures.world in
    let own = found-id w c.args.id c.ant_of.result it c.ant_of.ensures.place c.ant_of.ensures.ant c.in-Some.is in
    let none : Some c.new-dead.result.items ≡ Some [] = ap Some c.new-dead.ensures in
    let noted : c.take_turn_noting_kills-deed.new.notes.items ≡ dead_in minds w c.args.id =
    same_Some _ _ (c.take_turn_noting_kills-deed.ensures.noted ∙ ap (with_noted (dead_in minds (world_of c.ant_of.new.self) it.ant.id)) none ∙ ap₂ (λ (u : World) (t : ℕ). Some (dead_in minds u t)) found own) in
    let gone = c.deref.ensures.0 ∙ noted in
    let up = is_up w c.ant_of.ensures.place c.ant_of.ensures.ant c.in-Some.is c.requires.up in
    let was = c.score-before.ensures ∙ ap score_of found in
    let taken : TakesTurn minds c.args.id w (world_of c.take_turn_noting_kills-deed.new.ground) 9 9 s c.take_turn_noting_kills-deed.new.stream c.take_turn_noting_kills-deed.result =
    takes-found found refl own c.take_turn_noting_kills-deed.ensures.taken in
    let after : Score = score_of (with_cells w (turn minds s.seed w s.place c.args.id).cells) in
    let text : broken (flat_map (event_lines false) (seen minds s.seed c.args.round (moment_of w s) c.args.id)) ≡ flat_map (told_death c.args.round it.ant) c.deref.result.now
    ++ flat_map (broken_score c.args.round it.ant) (changed_score c.score-before.result after) =
    events-here minds s.seed c.args.round (moment_of w s) c.args.id it.place it.ant (subst Valid found c.ant_of.ensures.valid)
    (found-place (place_in w c.args.id) c.ant_of.result it c.ant_of.ensures.place c.in-Some.is) (found-holds w c.ant_of.result it c.ant_of.ensures.ant c.in-Some.is) up false c.deref.result.now c.score-before.result after gone was refl in
    let p = err_from_is_err_and c.from_residual.result c.from_residual.ensures.1 in
    record {
      text = rw (p.1, text) (front_more _ _ _ _ c.in_err-push_deaths.ensures);
      world = taken.world;
      stream = taken.stream;
      fit = taken.fit;
    }

pub returns : goal.returns
returns g c =
    let minds = minds_of c.args.brains.now in
    let w = world_of c.args.ground.now in
    let s = c.args.stream.now in
    let it = c.in-Some.standing in
    let found : world_of c.ant_of.new.self ≡ w = c.ant_of.ensures.world in
    let own = found-id w c.args.id c.ant_of.result it c.ant_of.ensures.place c.ant_of.ensures.ant c.in-Some.is in
    let none : Some c.new-dead.result.items ≡ Some [] = ap Some c.new-dead.ensures in
    let noted : c.take_turn_noting_kills-deed.new.notes.items ≡ dead_in minds w c.args.id =
    same_Some _ _ (c.take_turn_noting_kills-deed.ensures.noted ∙ ap (with_noted (dead_in minds (world_of c.ant_of.new.self) it.ant.id)) none ∙ ap₂ (λ (u : World) (t : ℕ). Some (dead_in minds u t)) found own) in
    let gone = c.deref.ensures.0 ∙ noted in
    let up = is_up w c.ant_of.ensures.place c.ant_of.ensures.ant c.in-Some.is c.requires.up in
    let was = c.score-before.ensures ∙ ap score_of found in
    let taken : TakesTurn minds c.args.id w (world_of c.take_turn_noting_kills-deed.new.ground) 9 9 s c.take_turn_noting_kills-deed.new.stream c.take_turn_noting_kills-deed.result =
    takes-found found refl own c.take_turn_noting_kills-deed.ensures.taken in
    let after : Score = score_of (with_cells w (turn minds s.seed w s.place c.args.id).cells) in
    let text : broken (flat_map (event_lines false) (seen minds s.seed c.args.round (moment_of w s) c.args.id)) ≡ flat_map (told_death c.args.round it.ant) c.deref.result.now
    ++ flat_map (broken_score c.args.round it.ant) (changed_score c.score-before.result after) =
    events-here minds s.seed c.args.round (moment_of w s) c.args.id it.place it.ant (subst Valid found c.ant_of.ensures.valid)
    (found-place (place_in w c.args.id) c.ant_of.result it c.ant_of.ensures.place c.in-Some.is) (found-holds w c.ant_of.result it c.ant_of.ensures.ant c.in-Some.is) up false c.deref.result.now c.score-before.result after gone was refl in
    let now : c.score.result ≡ after = c.score.ensures ∙ ap score_of taken.world in
    let pushed : Pushed (g.K.Sink.state c.push_deaths.new.sink) (g.K.Sink.state c.push_score.new.sink) (flat_map (broken_score c.args.round it.ant) (changed_score c.score-before.result after)) c.push_score.result =
    subst (λ (score : Score). Pushed (g.K.Sink.state c.push_deaths.new.sink) (g.K.Sink.state c.push_score.new.sink) (flat_map (broken_score c.args.round it.ant) (changed_score c.score-before.result score)) c.push_score.result) now c.push_score.ensures in
    record {
      text = rw text (pushed_then _ _ _ _ _ c.push_score.result c.in_ok-push_deaths.ensures pushed);
      world = taken.world;
      stream = taken.stream;
      fit = taken.fit;
    }
