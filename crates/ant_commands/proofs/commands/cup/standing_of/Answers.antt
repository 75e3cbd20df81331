-- each game can be played
use Rattle.std.proofs.Common.{length, refl}
use Rattle.ant_commands.proofs.Cups.{all_playable, world_within}
use Rattle.ant_commands.proofs.commands.cup.standing_of.Goals as goal

pub play_all_by-requires-clause-known : goal.play_all_by-requires-clause-known
play_all_by-requires-clause-known g c κs within = λ n red black there.
    all_playable c.args.roster.now.worlds.items c.deref.result.now c.args.roster.now.players.items c.deref-2.result.now c.args.format.seeds c.args.rounds (length c.deref.result.now) (length c.deref-2.result.now)
    c.deref.ensures.value c.deref-2.ensures.value refl refl c.requires.ready c.requires.seeds.0 c.requires.few_rounds n red black (world_within c.args.format.seeds n (length c.deref.result.now) c.requires.seeds.0 there)
