use Rattle.std.proofs.Common.{◌≡◌, ◌∙◌, ◌+◌, ◌-◌, List, [], Some, slice_get, ap, arith}
use Rattle.std.proofs.lemmas.List.{length-set}
use Rattle.round_book.specs.Book.{window_of}
use Rattle.round_book.specs.Window.{look_for}
use Rattle.spec_record.specs.Look.{LookValue}
use Rattle.far_crew.specs.declared.pick.Pick.TheVariants.{Theirs}
use Rattle.far_crew.proofs.PickLemmas.{ArePicked-set}
use Rattle.far_crew.proofs.WindowLemmas.{look_for_is}
use Rattle.far_crew.proofs.pick.sift_look.Goals as goal

pub returns-then-is_look_for : goal.returns-then-is_look_for
returns-then-is_look_for c =
    let window = window_of c.args.field.now c.args.turns.now.from c.args.turns.now.to in
    let count = c.requires.picks.count in let below = c.if-id-turns.false in let above = c.if-id-turns-2.false in
    let turn : c.turn-id.result ≡ c.args.turns.now.from + (c.turn-id.result - c.args.turns.now.from) = omega arith in
    let look : c.look-look.result.now ≡ look_for window (c.args.turns.now.from + (c.turn-id.result - c.args.turns.now.from)) =
    c.is_look_for.ensures c.if-is_look_for.true ∙ look_for_is c.args.field.now c.args.turns.now.from c.args.turns.now.to c.turn-id.result c.guess_of-guess.result c.guess_of-guess.ensures.guess ∙ ap (look_for window) turn in
    record {
      count = length-set c.args.picks.now (c.turn-id.result - c.args.turns.now.from) (Some (Theirs c.args.answer.now.line c.args.at)) ∙ count;
      picked = ArePicked-set c.args.lines.now [] window c.args.picks.now (c.turn-id.result - c.args.turns.now.from) (Theirs c.args.answer.now.line c.args.at) (omega arith) c.requires.picks.picked
          (ap (λ (l : List LookValue). slice_get l c.args.at) c.requires.answer ∙ c.look-look.ensures.item ∙ ap Some look);
    }
