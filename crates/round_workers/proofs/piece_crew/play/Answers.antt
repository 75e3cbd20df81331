use Rattle.std.proofs.Common.{take, ap, arith}
use Rattle.std.proofs.lemmas.List.Elements.{All-same}
use Rattle.round_workers.specs.Inner.Pieces.{HasPieceRoom}
use Rattle.round_workers.proofs.PieceLemmas.{dealt-follow, dealt-guessed, ready}
use Rattle.round_workers.proofs.piece_crew.play.Goals as goal

pub play_pieces-requires-clause-ready : goal.play_pieces-requires-clause-ready
play_pieces-requires-clause-ready g c κs within =
    let follow = dealt-follow c.args.field.now c.args.turns.from c.args.turns.to c.args.team.now.workers c.in_ok-dealt.dealt c.deal.new.pieces.items c.deref_mut.result.now c.deref_mut.ensures.value c.in_ok-dealt.ensures.shares (omega arith) c.requires.window.forwards in
    let guessed = dealt-guessed c.args.field.now c.args.turns.from c.args.turns.to c.args.team.now.workers c.in_ok-dealt.dealt c.deal.new.pieces.items c.deref_mut.result.now c.deref_mut.ensures.value c.in_ok-dealt.ensures.shares in
    let rooms = All-same HasPieceRoom _ _ (ap (take c.in_ok-dealt.dealt) c.deref_mut.ensures.value) c.in_ok-dealt.ensures.rooms in
    ready c.args.field.now c.args.turns.from c.args.turns.to c.requires.window (take c.in_ok-dealt.dealt c.deref_mut.result.now) follow rooms guessed

pub play_pieces-requires-clause-follow : goal.play_pieces-requires-clause-follow
play_pieces-requires-clause-follow g c κs within = dealt-follow c.args.field.now c.args.turns.from c.args.turns.to c.args.team.now.workers c.in_ok-dealt.dealt c.deal.new.pieces.items c.deref_mut.result.now c.deref_mut.ensures.value c.in_ok-dealt.ensures.shares (omega arith) c.requires.window.forwards
