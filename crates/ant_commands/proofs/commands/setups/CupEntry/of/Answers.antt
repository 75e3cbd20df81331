use Rattle.std.proofs.Common.{sym, subst}
use Rattle.command_words.specs.Command.{plain}
use Rattle.command_words.specs.Limits.{IsWithin}
use Rattle.command_words.specs.Slots.{AreNames}
use Rattle.command_words.specs.declared.limits.NumberKind.TheVariants.{SeedCount, SeedNumber, RoundCount, WorkerCount}
use Rattle.command_words.specs.declared.table.NameList.TheVariants.{Worlds, Brains}
use Rattle.tournament.specs.declared.format.Format.{Format}
use Rattle.ant_commands.proofs.SetupLemmas.{cup-within}
use Rattle.ant_commands.proofs.commands.setups.CupEntry.of.Goals as goal

pub returns-clause-within : goal.returns-clause-within
returns-clause-within c =
    let w = cup-within (plain c.args.asked) c.requires.kind c.requires.within in
    record {
      world_names = subst (AreNames Worlds) (sym c.names.ensures) w.world_names;
      brain_names = subst (AreNames Brains) (sym c.names-2.ensures) w.brain_names;
      seed_within = subst (λ (format : Format). IsWithin SeedNumber format.seeds.first) (sym c.format_of.ensures) w.seed_within;
      seeds_within = subst (λ (format : Format). IsWithin SeedCount format.seeds.count) (sym c.format_of.ensures) w.seeds_within;
      rounds_within = subst (IsWithin RoundCount) (sym c.option.ensures.is) w.rounds_within;
      workers_within = subst (IsWithin WorkerCount) (sym c.option-2.ensures.is) w.workers_within;
    }
