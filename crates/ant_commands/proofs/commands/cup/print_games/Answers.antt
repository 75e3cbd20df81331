-- each game can be played
use Rattle.std.proofs.Common.{◌≤◌, length, sym, ◌∙◌, ap, arith}
use Rattle.std.proofs.lemmas.List.{length-map}
use Rattle.std.specs.Prelude.{string_bytes}
use Rattle.match_run.specs.Run.{most_rounds}
use Rattle.ant_commands.proofs.Cups.{all_playable}
use Rattle.ant_commands.proofs.commands.cup.print_games.Goals as goal

pub play_and_print-requires-clause-known : goal.play_and_print-requires-clause-known
play_and_print-requires-clause-known g c κs within =
    let few = c.requires.within.rounds_within.1 in
    let enough : c.args.entry.rounds ≤ most_rounds = omega (arith, few) in
    λ now n red black told.
    all_playable c.args.roster.now.worlds.items c.deref.result.now c.args.roster.now.players.items c.deref-2.result.now c.args.entry.format.seeds c.args.entry.rounds (length c.args.entry.worlds.now) (length c.args.names.now)
    c.deref.ensures.value c.deref-2.ensures.value
    (sym (ap length c.deref.ensures.value ∙ c.requires.worlds ∙ length-map c.args.entry.worlds.now string_bytes))
    (ap length c.requires.names ∙ sym (ap length c.deref-2.ensures.value ∙ c.requires.players))
    c.requires.ready c.requires.within.seeds_within.0 enough n red black
