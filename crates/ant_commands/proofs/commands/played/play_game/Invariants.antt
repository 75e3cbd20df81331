-- this many rounds were played
use Rattle.match_run.specs.Game.{beginning}
use Rattle.match_run.specs.GameLaws.{AreRounds}
use Rattle.ant_commands.proofs.commands.played.play_game.Given as goal

abbrev pub invariant-loop : goal.invariant-loop
invariant-loop g l = record { ready : g.C.Crew.ready l.crew; rounds : AreRounds l.counter (beginning l.fn.field l.window) l.game }
