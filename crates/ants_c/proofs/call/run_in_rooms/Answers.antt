-- the program ran over a shelf with these files, and over two sinks as over empty ones
use Rattle.std.proofs.Common.{◌∙◌, ap, ℕ, List, ◌∷◌, subst}
use Rattle.ant_base.specs.MemShelf.{MemShelfState, shelf_of}
use Rattle.ant_base.specs.Lines.{lines_of}
use Rattle.ant_commands.specs.FaultLines.{ending_status, plain_ending}
use Rattle.ant_commands.specs.Outside.{outside_of}
use Rattle.ant_commands.specs.Run.{EndsSo}
use Rattle.command_words.specs.Far.{words_without_far}
use Rattle.command_words.specs.Words.{texts}
use Rattle.ants_c.specs.Called.{files_in, holding, shelf_with}
use Rattle.ants_c.specs.Ended.{ending_line}
use Rattle.ants_c.proofs.EmptySinks.{in_rooms}
use Rattle.ants_c.proofs.call.run_in_rooms.Goals as goal

pub returns : goal.returns
returns c =
    let words : List (List ℕ) = words_without_far (texts c.args.words.now) in let files = files_in (lines_of c.args.names.now) c.args.sizes.now c.args.bytes.now in
    let out = c.args.output.now in let err = c.args.errors.now in let new_out = c.run_alone.new.out in let new_err = c.run_alone.new.err in
    let ending = plain_ending c.run_alone.result in
    let fresh = c.new-shelf.ensures in
    let ends = subst (λ (state : MemShelfState). EndsSo words (outside_of (shelf_of state) (holding (out.room.ghost_name ∷ out.log.bytes)) (holding (err.room.ghost_name ∷ err.log.bytes)))
    (outside_of (shelf_of c.run_alone.new.shelf) (holding (new_out.room.ghost_name ∷ new_out.log.bytes)) (holding (new_err.room.ghost_name ∷ new_err.log.bytes))) ending) fresh c.run_alone.ensures in
    let it = in_rooms words (shelf_with files) (shelf_of c.run_alone.new.shelf) out.room.ghost_name new_out.room.ghost_name out.log.bytes new_out.log.bytes
    err.room.ghost_name new_err.room.ghost_name err.log.bytes new_err.log.bytes (ending_status ending) ends.promised.run in
    record {
      runs = record { shelf = shelf_of c.run_alone.new.shelf; run = it.run; is_ending = it.is_ending ∙ ends.is_ending; is_line = it.is_line ∙ ap ending_line ends.is_ending };
      out_name = it.out_name;
      out_log = it.out_log;
      said_name = it.said_name;
      said_log = it.said_log;
      unfailing = it.unfailing;
    }
