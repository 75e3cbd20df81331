-- What a command line passes to a command is within the command's limits.
use Rattle.std.proofs.Common.{Bool, ℕ, ◌≡◌, ap, refl, sym, subst, lit<}
use Rattle.std.specs.List.{Contains}
use Rattle.command_words.specs.Command.{AreWithin, AskedWithin, PlainAsked}
use Rattle.command_words.specs.Limits.{IsWithin}
use Rattle.command_words.specs.Slots.{DumpChoice}
use Rattle.command_words.specs.Table.{places_of}
use Rattle.command_words.specs.declared.limits.NumberKind.TheVariants.{SeedNumber, RoundCount, WorkerCount, WindowSize, FoeCount, CorpseFood, RestRounds, SideLength, ElementCount, SeedCount}
use Rattle.command_words.specs.declared.slot.Place.TheVariants.{Names}
use Rattle.command_words.specs.declared.table.CommandKind.TheVariants.{Cup}
use Rattle.command_words.specs.declared.table.Choice.TheVariants.{Seed, Seeds, Rounds, Workers, Window, Surround, Corpse, Rest, Width, Height, Rocks, Blobs}
use Rattle.command_words.specs.declared.table.NameList.TheVariants.{Worlds, Brains}
use Rattle.ant_commands.specs.Setups.{CupWithin, SetupWithin, ShapeWithin, ToldSetup, format_of, setup_of, shape_of, told_of}

pub setup-within : (a : PlainAsked) → AskedWithin a → SetupWithin (setup_of a)
setup-within a within = record {
  seed = within.option Seed SeedNumber refl;
  rounds = within.option Rounds RoundCount refl;
  dumps = within.dumps;
  workers = within.option Workers WorkerCount refl;
  window = within.option Window WindowSize refl;
  surround = within.option Surround FoeCount refl;
  corpse = within.option Corpse CorpseFood refl;
  rest = within.option Rest RestRounds refl;
}

-- the words of a run are within the limits, since those of its game and its other options are
pub words-within : (a : PlainAsked) → AskedWithin a → (told : ToldSetup) → told ≡ told_of a → (dumps : DumpChoice) → AreWithin dumps → (workers window : ℕ) → workers ≡ a.option Workers → window ≡ a.option Window → (stats far : Bool)
    → SetupWithin (record { seed = told.seed; rounds = told.rounds; dumps = dumps; workers = workers; window = window; surround = told.surround; corpse = told.corpse; rest = told.rest; stats = stats; far = far })
words-within a within told is dumps are workers window of_workers of_window stats far =
    let w = setup-within a within in
    record {
      seed = subst (IsWithin SeedNumber) (sym (ap (λ (t : ToldSetup). t.seed) is)) w.seed;
      rounds = subst (IsWithin RoundCount) (sym (ap (λ (t : ToldSetup). t.rounds) is)) w.rounds;
      dumps = are;
      workers = subst (IsWithin WorkerCount) (sym of_workers) w.workers;
      window = subst (IsWithin WindowSize) (sym of_window) w.window;
      surround = subst (IsWithin FoeCount) (sym (ap (λ (t : ToldSetup). t.surround) is)) w.surround;
      corpse = subst (IsWithin CorpseFood) (sym (ap (λ (t : ToldSetup). t.corpse) is)) w.corpse;
      rest = subst (IsWithin RestRounds) (sym (ap (λ (t : ToldSetup). t.rest) is)) w.rest;
    }

pub shape-within : (a : PlainAsked) → AskedWithin a → ShapeWithin (shape_of a)
shape-within a within = record {
  width = within.option Width SideLength refl;
  height = within.option Height SideLength refl;
  rocks = within.option Rocks ElementCount refl;
  blobs = within.option Blobs ElementCount refl;
}

pub cup-within : (a : PlainAsked) → a.kind ≡ Cup → AskedWithin a → CupWithin (a.names Worlds) (a.names Brains) (format_of a) (a.option Rounds) (a.option Workers)
cup-within a is within = record {
  world_names = within.names Worlds (subst (λ kind. Contains (places_of kind) (Names Worlds)) (sym is) (1, lit< tt, refl));
  brain_names = within.names Brains (subst (λ kind. Contains (places_of kind) (Names Brains)) (sym is) (3, lit< tt, refl));
  seed_within = within.option Seed SeedNumber refl;
  seeds_within = within.option Seeds SeedCount refl;
  rounds_within = within.option Rounds RoundCount refl;
  workers_within = within.option Workers WorkerCount refl;
}
