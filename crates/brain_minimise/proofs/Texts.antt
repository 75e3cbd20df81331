-- The text of a minimised brain, as its line and what follows.
use Rattle.std.proofs.Common.{◌≡◌, ℕ, List, ◌++◌, length, codes, sym, ap₂, ◌∙◌}
use Rattle.std.specs.Prelude.{decimal}
use Rattle.std.proofs.lemmas.List.{append_assoc}
use Rattle.ant_base.specs.Layout.{◌+++◌}
use Rattle.brain_read.specs.declared.instr.Instr.{Instr}
use Rattle.brain_read.specs.Canonical.{brain_text}
use Rattle.brain_minimise.specs.Text.{minimised_text}

-- the line of the two counts
abbrev pub counts_text : ℕ → ℕ → List ℕ
counts_text states kept = codes "; " +++ decimal states +++ codes " states, " +++ decimal kept +++ codes " kept\n"

-- five texts and a sixth, however they are grouped
regroup : (a b c d e rest : List ℕ) → a ++ (b ++ (c ++ (d ++ (e ++ rest)))) ≡ (a ++ (b ++ (c ++ (d ++ e)))) ++ rest
regroup a b c d e rest = sym (simp append_assoc)

pub minimised_text-parts : (old new : List Instr) (states kept : ℕ) → states ≡ length old → kept ≡ length new → minimised_text old new ≡ counts_text states kept ++ brain_text new
unfolding minimised_text
minimised_text-parts old new states kept first second =
    regroup (codes "; ") (decimal (length old)) (codes " states, ") (decimal (length new)) (codes " kept\n") (brain_text new)
    ∙ ap₂ (λ a b. counts_text a b ++ brain_text new) (sym first) (sym second)
