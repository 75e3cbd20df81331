-- the stream is at the guess where that matters
use Rattle.std.proofs.Common.{◌∙◌, ap}
use Rattle.cell_world.specs.Grid.{world_of}
use Rattle.ant_turn.specs.Minds.{minds_of}
use Rattle.spec_record.specs.Look.{LookValue, look_of}
use Rattle.spec_record.proofs.Unguessed.{look_of-guessed}
use Rattle.spec_record.proofs.own_look.look.Goals as goal

pub returns : goal.returns
returns c =
    let minds = minds_of c.args.brains in
    let w = world_of c.args.base.now in
    let s = c.stream_for-stream.result in
    c.set_guess.ensures
    ∙ ap (λ (l : LookValue). record l { guess = c.args.guess }) (c.look_by-look.ensures.look ∙ ap (λ n. look_of minds n w s.place c.args.id) c.stream_for-stream.ensures.seed)
    ∙ look_of-guessed minds c.args.seed w s.place c.args.guess c.args.id c.stream_for-stream.ensures.place
