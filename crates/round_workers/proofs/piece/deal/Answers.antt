use Rattle.std.proofs.Common.{◌≡◌, ℕ, ◌+◌, ◌-◌, refl, sym, ap, ◌∙◌, arith}
use Rattle.std.proofs.lemmas.List.Elements.{All-nil}
use Rattle.work_share.proofs.BordersLemmas.{border_within, pieces_are_the_row, border_rises}
use Rattle.work_share.specs.Borders.{border}
use Rattle.round_book.specs.Book.{window_of}
use Rattle.round_book.specs.Window.{guess_for}
use Rattle.round_book.proofs.SoloLemmas.{guess_for-from}
use Rattle.round_workers.specs.declared.share.Share.{Share}
use Rattle.round_workers.specs.Inner.Pieces.{HasPieceRoom}
use Rattle.round_workers.specs.Inner.Shares.{first_turn, shares}
use Rattle.round_workers.proofs.piece.deal.Goals as goal

pub loop-worker-init : goal.loop-worker-init
loop-worker-init c =
    let window = window_of c.args.field.now c.args.turns.from c.args.turns.to in
    let row = pieces_are_the_row c.args.workers (c.args.turns.to - c.args.turns.from) (let some = c.requires.workers.0 in omega arith) in
    let none : border c.args.workers (c.args.turns.to - c.args.turns.from) 0 ≡ 0 = row.first in
    let first : c.args.turns.from ≡ first_turn window c.args.workers 0 = omega arith in record {
      guess = c.place-guess.ensures ∙ (sym (guess_for-from window) ∙ ap (guess_for window) first);
      shares = refl;
      rooms = All-nil HasPieceRoom;
      within = omega arith;
    }

pub guess_on-guess-requires-clause-last : goal.guess_on-guess-requires-clause-last
guess_on-guess-requires-clause-last c =
    let n : ℕ = c.args.turns.to - c.args.turns.from in let forwards = c.requires.window.forwards in let below = c.loop-worker-test.true in
    let within = border_within (c.loop-worker.worker + 1) n c.args.workers (omega arith) in
    let end : c.share_of-share.result.to ≡ c.args.turns.from + border c.args.workers n (c.loop-worker.worker + 1) = ap (λ (s : Share). s.to) c.share_of-share.ensures in omega arith

pub guess_on-guess-requires-clause-forwards : goal.guess_on-guess-requires-clause-forwards
guess_on-guess-requires-clause-forwards c =
    let n : ℕ = c.args.turns.to - c.args.turns.from in let rises = border_rises c.loop-worker.worker n c.args.workers (let some = c.requires.workers.0 in omega arith) in
    let from : c.share_of-share.result.from ≡ c.args.turns.from + border c.args.workers n c.loop-worker.worker = ap (λ (s : Share). s.from) c.share_of-share.ensures in
    let to : c.share_of-share.result.to ≡ c.args.turns.from + border c.args.workers n (c.loop-worker.worker + 1) = ap (λ (s : Share). s.to) c.share_of-share.ensures in omega arith
