use Rattle.std.proofs.Common.{ℕ, ◌+◌, ap, refl, ◌∙◌}
use Rattle.atomic_table.specs.Table.{rest}
use Rattle.round_workers.specs.declared.board.view.BoardSlot.TheVariants.{Nothing}
use Rattle.round_workers.specs.BoardPlays.{has_taken, took_look}
use Rattle.round_workers.proofs.BoardMoves.{At, hand_after, at-rest-so, if-none, if-some, on-some, slot-held}
use Rattle.round_workers.proofs.board.seat.Board.take_at.Goals as goal

pub end_take-requires-clause-hand : goal.end_take-requires-clause-hand
end_take-requires-clause-hand c = hand_after _ _ _ c.begin_take.ensures.table (ap (λ (m : At). m.0.about) c.in-Some.ensures.takes) c.requires.board

pub end_take-requires-clause-taking : goal.end_take-requires-clause-taking
end_take-requires-clause-taking c = ap (λ (m : At). m.0.phase) c.in-Some.ensures.takes

pub end_take-requires-clause-out : goal.end_take-requires-clause-out
end_take-requires-clause-out c = slot-held _ _ (c.args.ticket + 1) Nothing _ c.in-Some.ensures.takes

pub invariant_of-seat-2 : goal.invariant_of-seat-2
invariant_of-seat-2 c = let me = c.args.seat.now.hand.me in let j : ℕ = c.args.ticket in
    let done = c.end_take.ensures.has_taken ∙ ap (λ (m : At). (has_taken m.0 j, rest m.1)) c.in-Some.ensures.takes in
    record { at_rest = at-rest-so me _ (took_look me.0 j) done refl refl refl c.args.seat.now.at_rest }

pub returns-clause-board : goal.returns-clause-board
returns-clause-board c = let j : ℕ = c.args.ticket in
    let done = c.end_take.ensures.has_taken ∙ ap (λ (m : At). (has_taken m.0 j, rest m.1)) c.in-Some.ensures.takes in
    record { table = c.end_take.ensures.table ∙ (c.begin_take.ensures.table ∙ c.requires.board.table); knows = ap (λ (m : At). m.0.about) done ∙ c.requires.board.knows }

pub returns-clause-look : goal.returns-clause-look
returns-clause-look c = if-some _ _ _ (c.take-look.ensures.value ∙ c.in-Some.ensures.look) refl

pub returns-clause-taken : goal.returns-clause-taken
returns-clause-taken c = let j : ℕ = c.args.ticket in
    let done = c.end_take.ensures.has_taken ∙ ap (λ (m : At). (has_taken m.0 j, rest m.1)) c.in-Some.ensures.takes in
    on-some _ _ _ (c.take-look.ensures.value ∙ c.in-Some.ensures.look) (ap (λ (m : At). m.0) done)

pub returns-clause-not_full : goal.returns-clause-not_full
returns-clause-not_full c = if-none _ _ _ (c.take-look.ensures.value ∙ c.in-Some.ensures.look)
