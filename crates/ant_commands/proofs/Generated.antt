-- The endings of a command that generates a world and reads no file.
use Rattle.std.proofs.Common.{◌≡◌, ◌∙◌, ℕ, List, [], ap₂, refl, sym, subst, Result, Err}
use Rattle.std.specs.Prelude.{IsErrAnd}
use Rattle.ant_base.proofs.Fetches.{fetches_none}
use Rattle.ant_base.specs.Shelf.{ShelfState}
use Rattle.ant_base.specs.Sink.{SinkState, Pushed}
use Rattle.ant_base.specs.declared.sink.Failed.{Failed}
use Rattle.ant_turn.specs.Minds.{Fits}
use Rattle.ant_turn.proofs.FitLemmas.{Fits-opening}
use Rattle.cell_world.specs.Grid.{Grid, world_of}
use Rattle.cell_world.specs.Opening.{opening}
use Rattle.ant_commands.specs.Job.{Job, LacksRoom, files_of}
use Rattle.ant_commands.specs.Jobs.{gen_job}
use Rattle.ant_commands.specs.declared.commands.setups.GenShape.{GenShape}
use Rattle.world_gen.specs.declared.shape.Shape.{Shape}
use Rattle.world_gen.specs.Generated.{IsGenerated}
use Rattle.world_gen.specs.Placing.{HasNoRoom}
use Rattle.world_read.specs.Canonical.{canonical_text}
use Rattle.world_read.specs.Opened.{IsOpeningWorld, kinds_of}
use Rattle.ant_commands.specs.declared.stop.CommandStop.{CommandStop}
use Rattle.ant_commands.specs.declared.stop.CommandStop.TheVariants as stop
use Rattle.ant_commands.specs.Files.{AreAccepted, File}
use Rattle.ant_commands.specs.Inner.Plans.{IsGenerating}
use Rattle.ant_commands.specs.Inner.Reading.{CarriesOut, ending_of, push_ending}
use Rattle.ant_commands.specs.Outputs.{contest_shape, sample_minds, shape_named}
use Rattle.ant_commands.proofs.Readings.{carries_pushed, carries_wanting, ending_stopped, reads_none}
use Rattle.ant_commands.proofs.SampleWorked.{sample_brain-sound}

-- a shape with the contest's numbers is the contest's
pub contest_shape-of : (shape : Shape) → shape.width ≡ 150 → shape.height ≡ 150 → shape.rocks ≡ 14 → shape.blobs ≡ 11 → shape ≡ contest_shape
contest_shape-of shape width height rocks blobs =
    ap₂ (λ (w h : ℕ). sized w h shape.rocks shape.blobs) width height ∙ ap₂ (λ (r b : ℕ). sized 150 150 r b) rocks blobs
  where
    sized : ℕ → ℕ → ℕ → ℕ → Shape
    sized w h r b = record { width = w; height = h; rocks = r; blobs = b }

-- a generated world is one at the start of a game
pub opens_generated : (seed : ℕ) (shape : Shape) (world : Grid) → IsGenerated seed shape world → IsOpeningWorld world
unfolding opening
opens_generated seed shape world generated =
    subst IsOpeningWorld (sym generated.is) (record { kinds = generated.kinds; plan = generated.plan; is = refl })

-- the sample brain fits it
pub fits_generated : (seed : ℕ) (shape : Shape) (world : Grid) → IsGenerated seed shape world → Fits (world_of world) sample_minds
fits_generated seed shape world generated =
    subst (λ (g : Grid). Fits (world_of g) sample_minds) (sym generated.is) (Fits-opening shape.width shape.height generated.kinds sample_minds sample_brain-sound.some sample_brain-sound.some)

-- no world was generated, because there was no room or no memory
pub carries_ungenerated : {U : Type 0} (command : Job) (seed : ℕ) (shape : Shape) (shelf : ShelfState) (out : SinkState) (result : Result U CommandStop) (why : CommandStop) → files_of command ≡ []
    → ((element : ℕ) → HasNoRoom seed shape element → LacksRoom command element) → IsErrAnd result (λ other. other ≡ why)
    → IsGenerating seed shape (Err why) → CarriesOut command shelf shelf out out (ending_of result)
carries_ungenerated command seed shape shelf out result (stop.Read name) no_file room same none = absurd none
carries_ungenerated command seed shape shelf out result stop.Write no_file room same none = absurd none
carries_ungenerated command seed shape shelf out result (stop.Input name fault) no_file room same none = absurd none
carries_ungenerated command seed shape shelf out result (stop.NoRoom element) no_file room same none =
    subst (CarriesOut command shelf shelf out out) (ending_stopped result (stop.NoRoom element) same) (record {
      fetches = [];
      fetched = fetches_none shelf;
      ends = λ err new_err. record { contents = []; accepted = subst (λ (files : List File). AreAccepted files [] []) (sym no_file) (refl, refl); lacks = room element none; unwritten = refl };
    })
carries_ungenerated command seed shape shelf out result stop.Memory no_file room same none = carries_wanting command shelf out result same

-- the world's text was pushed last
pub carries_generated : {U : Type 0} (seed : ℕ) (shape : GenShape) (shelf : ShelfState) (out new_out : SinkState) (world : Grid) (result : Result U CommandStop) (last : Result (Unit {0}) Failed) → ending_of result ≡ push_ending last → IsGenerated seed (shape_named shape) world
    → Pushed out new_out (canonical_text world.width world.height (kinds_of world)) last → CarriesOut (gen_job seed shape) shelf shelf out new_out (ending_of result)
carries_generated seed shape shelf out new_out world result last same generated pushed =
    carries_pushed (gen_job seed shape) shelf shelf out new_out [] result last same (reads_none shelf) (canonical_text world.width world.height (kinds_of world))
    (record { value = tt; read = refl; told = record { world = world; generated = generated; told = refl } }) pushed
