use Rattle.std.proofs.Common.{◌≡◌, ℕ, ◌+◌, ◌*◌, ◌++◌, List, length, refl, sym, subst, arith}
use Rattle.std.proofs.lemmas.List.{length-map}
use Rattle.std.specs.Prelude.{string_bytes}
use Rattle.std.proofs.lemmas.Result.{err_from_is_err_and}
use Rattle.ant_base.specs.Sink.{PushedAll}
use Rattle.ant_base.proofs.Pushes.{all_then, front_then}
use Rattle.tournament.specs.declared.games.Played.{Played}
use Rattle.tournament.specs.Games.{worlds_played}
use Rattle.tournament.specs.Inner.Tallies.{IsTally}
use Rattle.tournament.specs.Inner.Worlds.{WorldStops}
use Rattle.tournament.specs.Names.{texts_of}
use Rattle.tournament.specs.Text.{standing_text}
use Rattle.tournament.specs.Printed.{first_played, games_text}
use Rattle.tournament.proofs.StandingLemmas.{players_named}
use Rattle.tournament.proofs.PrintedLemmas.{first_games-none, nothing_printed, whole_cup, world_stopped, world_printed}
use Rattle.tournament.proofs.games_printed.play_and_print.Goals as goal

pub returns-in_err-tally : goal.returns-in_err-tally
returns-in_err-tally g c =
    let p = err_from_is_err_and c.from_residual.result c.from_residual.ensures.1 in
    rw (p.1, p.2) (record { printed = 0; some = omega arith; pushed = nothing_printed c.args.format (texts_of c.args.worlds.now) c.args.players.now (g.F.Referee.score c.args.referee.now) (g.K.Sink.state c.args.sink.now) })

pub loop-world-init : goal.loop-world-init
loop-world-init g c =
    let worlds = texts_of c.args.worlds.now in let players = c.args.players.now in let score = g.F.Referee.score c.args.referee.now in
    let none = first_games-none c.args.format worlds players score in
    record {
      played = subst (λ (n : ℕ). IsTally n (first_played c.args.format players 0 score) c.in_ok-tally.tally) c.len.ensures
          (subst (λ (games : List Played). IsTally c.len.result games c.in_ok-tally.tally) (sym none) c.in_ok-tally.ensures);
      printed = nothing_printed c.args.format worlds players score (g.K.Sink.state c.args.sink.now);
    }

pub loop-world-preserved : goal.loop-world-preserved
loop-world-preserved g c =
    let worlds = texts_of c.args.worlds.now in let players = c.args.players.now in let score = g.F.Referee.score c.args.referee.now in let at = c.loop-world.invariant in
    let seeds = c.args.format.seeds.count in
    record {
      played = c.in_ok-print_world.ensures.played;
      printed = world_printed c.args.format worlds players score (g.K.Sink.state c.args.sink.now) (g.K.Sink.state c.loop-world.sink) (g.K.Sink.state c.print_world.new.sink) c.loop-world.world at.printed
          (subst (λ (n : ℕ). PushedAll (g.K.Sink.state c.loop-world.sink) (g.K.Sink.state c.print_world.new.sink)
          (games_text c.args.format worlds players (worlds_played c.args.format.gauntlet (length players) (c.loop-world.world * seeds) seeds score) (n + 1))) at.played.count c.in_ok-print_world.ensures.printed);
    }

pub returns-in_err-print_world : goal.returns-in_err-print_world
returns-in_err-print_world g c =
    let worlds = texts_of c.args.worlds.now in let players = c.args.players.now in let score = g.F.Referee.score c.args.referee.now in let at = c.loop-world.invariant in
    let seeds = c.args.format.seeds.count in
    let p = err_from_is_err_and c.from_residual-in_err-print_world.result c.from_residual-in_err-print_world.ensures.1 in
    let many = length-map c.args.worlds.now string_bytes in
    rw (p.1, p.2)
    (world_stopped c.args.format worlds players score (g.K.Sink.state c.args.sink.now) (g.K.Sink.state c.loop-world.sink) (g.K.Sink.state c.print_world.new.sink) c.loop-world.world c.in_err-print_world.field-0.0 (omega (arith, c.loop-world-test.true, many)) at.printed
    (subst (λ (n : ℕ). WorldStops (g.K.Sink.state c.loop-world.sink) (g.K.Sink.state c.print_world.new.sink)
    (games_text c.args.format worlds players (worlds_played c.args.format.gauntlet (length players) (c.loop-world.world * seeds) seeds score) (n + 1)) c.in_err-print_world.field-0.0) at.played.count c.in_err-print_world.ensures.printed))

pub push_standing_with-requires : goal.push_standing_with-requires
push_standing_with-requires g c =
    let players = c.args.players.now in
    let ranks = c.standing-standing.ensures (length players) (first_played c.args.format players c.loop-world.world (g.F.Referee.score c.args.referee.now)) c.loop-world.invariant.played in
    players_named (length players) (length players) _ c.standing-standing.result (omega arith) ranks

pub returns-in_err-push_standing_with : goal.returns-in_err-push_standing_with
returns-in_err-push_standing_with g c =
    let worlds = texts_of c.args.worlds.now in let players = c.args.players.now in let score = g.F.Referee.score c.args.referee.now in let at = c.loop-world.invariant in
    let p = err_from_is_err_and c.from_residual-in_err-push_standing_with.result c.from_residual-in_err-push_standing_with.ensures.1 in
    let many = length-map c.args.worlds.now string_bytes in
    let end = c.loop-world.auto.world-end in
    let all : c.loop-world.world ≡ length worlds = omega (arith, end, c.loop-world-test.false, many) in
    let ranks = c.standing-standing.ensures (length players) (first_played c.args.format players c.loop-world.world score) at.played in
    let cup = whole_cup c.args.format worlds players score c.loop-world.world all (length players) refl c.standing-standing.result ranks in
    rw (p.1, p.2) (record {
      text = games_text c.args.format worlds players (first_played c.args.format players c.loop-world.world score) 1 ++ standing_text c.args.format.leads players c.standing-standing.result;
      is_text = cup;
      pushed = front_then _ _ _ _ _ at.printed c.in_err-push_standing_with.ensures;
    })

pub returns : goal.returns
returns g c =
    let worlds = texts_of c.args.worlds.now in let players = c.args.players.now in let score = g.F.Referee.score c.args.referee.now in let at = c.loop-world.invariant in
    let many = length-map c.args.worlds.now string_bytes in
    let end = c.loop-world.auto.world-end in
    let all : c.loop-world.world ≡ length worlds = omega (arith, end, c.loop-world-test.false, many) in
    let ranks = c.standing-standing.ensures (length players) (first_played c.args.format players c.loop-world.world score) at.played in
    record {
      text = games_text c.args.format worlds players (first_played c.args.format players c.loop-world.world score) 1 ++ standing_text c.args.format.leads players c.standing-standing.result;
      is_text = whole_cup c.args.format worlds players score c.loop-world.world all (length players) refl c.standing-standing.result ranks;
      pushed = all_then _ _ _ _ _ at.printed c.in_ok-push_standing_with.ensures;
    }
