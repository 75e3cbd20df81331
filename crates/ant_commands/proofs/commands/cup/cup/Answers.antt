-- What was read can be played, and each world and each player has a name. Memory may run out after the reading. The
-- standing is pushed last.
use Rattle.std.proofs.Common.{◌≡◌, ◌*◌, ◌≤◌, ℕ, Bool, false, List, length, ap, arith, refl, sym, subst}
use Rattle.ant_base.specs.Sink.{Pushed}
use Rattle.ant_commands.specs.Jobs.{cup_job}
use Rattle.command_words.specs.Words.{texts}
use Rattle.tournament.proofs.StandingLemmas.{players_named}
use Rattle.tournament.specs.Games.{all_played}
use Rattle.tournament.specs.Text.{standing_text}
use Rattle.ant_commands.specs.Inner.Reading.{CarriesOut, ending_of}
use Rattle.ant_commands.specs.Outputs.{cup_contents, score_in_cup}
use Rattle.ant_commands.proofs.Cups.{players_counted, ready, worlds_counted}
use Rattle.ant_commands.proofs.Readings.{carries_pushed, carries_stop, carries_wanting_later}
use Rattle.ant_commands.proofs.PrintedCups.{carries_cup}
use Rattle.ant_commands.proofs.commands.cup.cup.Goals as goal

pub print_games-requires-clause-ready : goal.print_games-requires-clause-ready
print_games-requires-clause-ready g c =
    ready (texts c.args.entry.worlds.now) (texts c.args.entry.brains.now) c.args.entry.format c.args.entry.rounds c.args.entry.workers c.in_ok-roster.ensures.fetches c.in_ok-roster.roster.worlds.items c.in_ok-roster.roster.players.items
    c.requires.within c.in_ok-roster.ensures.comes

pub print_games-requires-clause-worlds : goal.print_games-requires-clause-worlds
print_games-requires-clause-worlds g c =
    worlds_counted (texts c.args.entry.worlds.now) (texts c.args.entry.brains.now) c.in_ok-roster.ensures.fetches c.in_ok-roster.roster.worlds.items c.in_ok-roster.roster.players.items c.in_ok-roster.ensures.comes

pub print_games-requires-clause-players : goal.print_games-requires-clause-players
print_games-requires-clause-players g c =
    players_counted (texts c.args.entry.worlds.now) (texts c.args.entry.brains.now) c.in_ok-roster.ensures.fetches c.in_ok-roster.roster.worlds.items c.in_ok-roster.roster.players.items c.in_ok-roster.ensures.comes

pub returns-then-entry : goal.returns-then-entry
returns-then-entry g c =
    let enough = c.requires.within.brain_names.enough in
    subst (λ (games : Bool). CarriesOut (cup_job (texts c.args.entry.worlds.now) (texts c.args.entry.brains.now) c.args.entry.format c.args.entry.rounds c.args.entry.workers games) (g.S.Shelf.state c.args.shelf.now) (g.S.Shelf.state c.roster_of.new.shelf)
    (g.K.Sink.state c.args.out.now) (g.K.Sink.state c.print_games.new.out) (ending_of c.after_cup.result)) (sym c.if-entry.true)
    (carries_cup (texts c.args.entry.worlds.now) (texts c.args.entry.brains.now) c.args.entry.format c.args.entry.rounds c.args.entry.workers
    (record { worlds = c.in_ok-roster.roster.worlds.items; players = c.in_ok-roster.roster.players.items }) (g.S.Shelf.state c.args.shelf.now) (g.S.Shelf.state c.roster_of.new.shelf)
    (g.K.Sink.state c.args.out.now) (g.K.Sink.state c.print_games.new.out) c.after_cup.result c.print_games.result c.after_cup.ensures c.in_ok-roster.ensures (omega (arith, enough)) c.print_games.ensures)

pub standing_of-requires-clause-ready : goal.standing_of-requires-clause-ready
standing_of-requires-clause-ready g c =
    ready (texts c.args.entry.worlds.now) (texts c.args.entry.brains.now) c.args.entry.format c.args.entry.rounds c.args.entry.workers c.in_ok-roster.ensures.fetches c.in_ok-roster.roster.worlds.items c.in_ok-roster.roster.players.items
    c.requires.within c.in_ok-roster.ensures.comes

pub returns-in_err-standing : goal.returns-in_err-standing
returns-in_err-standing g c =
    carries_wanting_later (cup_job (texts c.args.entry.worlds.now) (texts c.args.entry.brains.now) c.args.entry.format c.args.entry.rounds c.args.entry.workers c.args.entry.games) (g.S.Shelf.state c.args.shelf.now) (g.S.Shelf.state c.roster_of.new.shelf)
    (g.K.Sink.state c.args.out.now) (cup_contents c.in_ok-roster.roster.worlds.items c.in_ok-roster.roster.players.items) c.from_residual-in_err-standing.result c.from_residual-in_err-standing.ensures.1 c.in_ok-roster.ensures

pub returns-in_err-names : goal.returns-in_err-names
returns-in_err-names g c =
    carries_wanting_later (cup_job (texts c.args.entry.worlds.now) (texts c.args.entry.brains.now) c.args.entry.format c.args.entry.rounds c.args.entry.workers c.args.entry.games) (g.S.Shelf.state c.args.shelf.now) (g.S.Shelf.state c.roster_of.new.shelf)
    (g.K.Sink.state c.args.out.now) (cup_contents c.in_ok-roster.roster.worlds.items c.in_ok-roster.roster.players.items) c.from_residual-in_err-names.result c.from_residual-in_err-names.ensures.1 c.in_ok-roster.ensures

pub push_standing_with-requires : goal.push_standing_with-requires
push_standing_with-requires g c =
    let named : length c.in_ok-names.names ≡ length (texts c.args.entry.brains.now) = ap length c.in_ok-names.ensures in
    let counted : length c.in_ok-roster.roster.players.items ≡ length (texts c.args.entry.brains.now) =
    players_counted (texts c.args.entry.worlds.now) (texts c.args.entry.brains.now) c.in_ok-roster.ensures.fetches c.in_ok-roster.roster.worlds.items c.in_ok-roster.roster.players.items c.in_ok-roster.ensures.comes in
    let enough : length c.in_ok-roster.roster.players.items ≤ length c.in_ok-names.names = omega arith in
    players_named (length c.in_ok-roster.roster.players.items) (length c.in_ok-names.names) (all_played c.args.entry.format.gauntlet (length c.in_ok-roster.roster.players.items) (length c.in_ok-roster.roster.worlds.items * c.args.entry.format.seeds.count)
    (score_in_cup c.in_ok-roster.roster.worlds.items c.in_ok-roster.roster.players.items c.args.entry.format.seeds c.args.entry.rounds)) c.in_ok-standing.standing enough c.in_ok-standing.ensures

pub returns-in_err-roster : goal.returns-in_err-roster
returns-in_err-roster g c =
    carries_stop (cup_job (texts c.args.entry.worlds.now) (texts c.args.entry.brains.now) c.args.entry.format c.args.entry.rounds c.args.entry.workers c.args.entry.games) (g.S.Shelf.state c.args.shelf.now) (g.S.Shelf.state c.roster_of.new.shelf) (g.K.Sink.state c.args.out.now)
    c.from_residual.result c.in_err-roster.field-0.0 c.from_residual.ensures.1 c.in_err-roster.ensures

pub returns : goal.returns
returns g c =
    let off : c.args.entry.games ≡ false = c.if-entry.false in
    subst (λ (games : Bool). CarriesOut (cup_job (texts c.args.entry.worlds.now) (texts c.args.entry.brains.now) c.args.entry.format c.args.entry.rounds c.args.entry.workers games) (g.S.Shelf.state c.args.shelf.now) (g.S.Shelf.state c.roster_of.new.shelf)
    (g.K.Sink.state c.args.out.now) (g.K.Sink.state c.push_standing_with.new.sink) (ending_of c.after_push.result)) (sym off)
    (carries_pushed (cup_job (texts c.args.entry.worlds.now) (texts c.args.entry.brains.now) c.args.entry.format c.args.entry.rounds c.args.entry.workers false) (g.S.Shelf.state c.args.shelf.now) (g.S.Shelf.state c.roster_of.new.shelf) (g.K.Sink.state c.args.out.now) (g.K.Sink.state c.push_standing_with.new.sink)
    (cup_contents c.in_ok-roster.roster.worlds.items c.in_ok-roster.roster.players.items) c.after_push.result c.push_standing_with.result c.after_push.ensures c.in_ok-roster.ensures
    (standing_text c.args.entry.format.leads (texts c.args.entry.brains.now) c.in_ok-standing.standing)
    (record {
      value = record { worlds = c.in_ok-roster.roster.worlds.items; players = c.in_ok-roster.roster.players.items };
      read = refl;
      told = record { lines = c.in_ok-standing.standing; standing = c.in_ok-standing.ensures; is = refl };
    })
    (subst (λ (names : List (List ℕ)). Pushed (g.K.Sink.state c.args.out.now) (g.K.Sink.state c.push_standing_with.new.sink) (standing_text c.args.entry.format.leads names c.in_ok-standing.standing) c.push_standing_with.result) c.in_ok-names.ensures c.push_standing_with.ensures))
