use Rattle.std.proofs.Common.{◌≡◌, ◌∙◌, sym, Option, Some, None, IfSome, IsTrue, ℕ, List, subst}
use Rattle.word_table.specs.Words.{are_distinct, word_place, IsWordAt}
use Rattle.word_table.proofs.Places.{word_place-found, word_place-only}
use Rattle.word_table.proofs.words.Words.find.Goals as goal

found_at : (words : List (List ℕ)) (text : List ℕ) (r : Option ℕ) → r ≡ word_place words text → IfSome r (λ i. IsWordAt words i text)
found_at words text None e = tt
found_at words text (Some i) e = word_place-found words text i (sym e)

pub returns-clause-found : goal.returns-clause-found
returns-clause-found g c = found_at c.args.self.now c.args.text.now c.place.result c.place.ensures.place

pub returns-clause-only : goal.returns-clause-only
returns-clause-only g c = λ i at.
    let distinct = subst (λ words. IsTrue (are_distinct words)) c.self.view_is c.self.invariant in
    c.place.ensures.place ∙ word_place-only c.args.self.now c.args.text.now i distinct at
