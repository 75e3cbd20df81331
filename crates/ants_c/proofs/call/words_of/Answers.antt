use Rattle.std.proofs.Common.{◌++◌, ◌∙◌, List, ℕ, ap, sym, subst}
use Rattle.std.specs.List.{AllByRecursion}
use Rattle.std.specs.Str.{IsUtf8}
use Rattle.command_words.specs.Words.{texts}
use Rattle.ants_c.proofs.GivenLemmas.{not_all}
use Rattle.ants_c.proofs.call.words_of.Goals as goal

pub returns-in_default-clause-none : goal.returns-in_default-clause-none
returns-in_default-clause-none c = λ all.
    not_all (texts c.loop-line.words.items) c.next.new.self c.in-Some.line.now c.in_default.ensures.cases.0
    (subst (AllByRecursion IsUtf8) (sym c.loop-line.invariant ∙ ap (λ (rest : List (List ℕ)). texts c.loop-line.words.items ++ rest) c.in-Some.ensures.steps) all)
