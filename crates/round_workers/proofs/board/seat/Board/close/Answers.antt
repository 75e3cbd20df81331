use Rattle.std.proofs.Common.{List, None, length, slice_index_or, ap, ◌∙◌, Option}
use Rattle.spec_record.specs.Look.{LookValue}
use Rattle.round_workers.proofs.BoardEnd.{looks-of, places-looked}
use Rattle.round_workers.proofs.board.seat.Board.close.Goals as goal

pub returns-clause-turns : goal.returns-clause-turns
returns-clause-turns c = ap length c.looks_out_of.ensures ∙ (places-looked _ ∙ c.take_apart-book.ensures.turns)

pub returns-clause-looks : goal.returns-clause-looks
returns-clause-looks c k h = ap (λ (l : List (Option LookValue)). slice_index_or l k None) c.looks_out_of.ensures ∙ (looks-of _ k ∙ c.take_apart-book.ensures.looks k h)
