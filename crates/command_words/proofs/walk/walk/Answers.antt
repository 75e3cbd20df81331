use Rattle.std.proofs.Common.{◌+◌, take, drop, cond, option_copied, sym, ap, ◌∙◌, arith}
use Rattle.command_words.specs.Inner.Walk.{go_on, takes_names, walk}
use Rattle.command_words.specs.Words.{texts}
use Rattle.command_words.proofs.WalkSteps.{walk-step, low-next}
use Rattle.command_words.proofs.walk.walk.Goals as goal

pub returns-in_default : goal.returns-in_default
returns-in_default c =
    let step = walk-step c.args.kind c.loop-at.due.now c.args.words.now c.loop-at.from c.loop-at.at c.index-words-at.result
    c.as_str-word.result.now c.places_reached-here.result.now (option_copied c.due_after.result)
    (omega arith) c.loop-at.invariant.0 c.index-words-at.is c.as_str-word.ensures.value c.places_reached-here.ensures c.due_after.ensures in
    sym (step ∙ ap (λ o. go_on (option_copied o) (c.loop-at.at + 1)
    (λ due. walk c.args.kind (drop (c.loop-at.at + 1) (texts c.args.words.now)) due
    (drop (cond (takes_names c.places_reached-here.result.now) c.loop-at.from (c.loop-at.at + 1)) (take (c.loop-at.at + 1) (texts c.args.words.now)))
    (take (c.loop-at.at + 1) (texts c.args.words.now)))) c.in_default.is)
    ∙ c.loop-at.invariant.1

pub loop-at-preserved : goal.loop-at-preserved
loop-at-preserved c =
    let step = walk-step c.args.kind c.loop-at.due.now c.args.words.now c.loop-at.from c.loop-at.at c.index-words-at.result
    c.as_str-word.result.now c.places_reached-here.result.now (option_copied c.due_after.result)
    (omega arith) c.loop-at.invariant.0 c.index-words-at.is c.as_str-word.ensures.value c.places_reached-here.ensures c.due_after.ensures in (
      low-next (takes_names c.places_reached-here.result.now) c.loop-at.from c.loop-at.at c.names_from-from.result c.loop-at.invariant.0 c.names_from-from.ensures,
      ap (λ from. walk c.args.kind (drop (c.loop-at.at + 1) (texts c.args.words.now)) c.in-Some.later.now (drop from (take (c.loop-at.at + 1) (texts c.args.words.now)))
          (take (c.loop-at.at + 1) (texts c.args.words.now)))
          c.names_from-from.ensures
          ∙ sym (step ∙ ap (λ o. go_on (option_copied o) (c.loop-at.at + 1)
          (λ due. walk c.args.kind (drop (c.loop-at.at + 1) (texts c.args.words.now)) due
          (drop (cond (takes_names c.places_reached-here.result.now) c.loop-at.from (c.loop-at.at + 1)) (take (c.loop-at.at + 1) (texts c.args.words.now)))
          (take (c.loop-at.at + 1) (texts c.args.words.now)))) c.in-Some.is)
          ∙ c.loop-at.invariant.1,
    )
