use Rattle.std.proofs.Common.{arith}
use Rattle.round_workers.proofs.PieceLemmas.{rooms-push, rooms-set, shares-push, shares-set}
use Rattle.round_workers.proofs.piece.give_next.Goals as goal

pub returns-then-at-len-clause-rooms : goal.returns-then-at-len-clause-rooms
returns-then-at-len-clause-rooms c = rooms-set c.take_on.result c.args.pieces.now.items c.args.at c.take_on.new.self (omega arith) c.take_on.ensures.room

pub returns-clause-rooms : goal.returns-clause-rooms
returns-clause-rooms c = rooms-push c.args.pieces.now.items c.push.new.self.items c.args.at c.take_on-2.new.self (omega arith) c.in_ok-take_on.ensures.room c.in_ok-push.ensures.items

pub returns-then-at-len-clause-shares : goal.returns-then-at-len-clause-shares
returns-then-at-len-clause-shares c = shares-set c.take_on.result c.args.pieces.now.items c.args.at c.take_on.new.self c.args.share (omega arith) c.take_on.ensures.share

pub returns-clause-shares : goal.returns-clause-shares
returns-clause-shares c = shares-push c.args.pieces.now.items c.push.new.self.items c.args.at c.take_on-2.new.self c.args.share (omega arith) c.in_ok-take_on.ensures.share c.in_ok-push.ensures.items
