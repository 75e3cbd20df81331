-- What was read of a program is its labels and its states.
use Rattle.std.proofs.Common.{◌≡◌, ℕ, List, [], sym, ap, ap₂, ◌∙◌, refl, arith}
use Rattle.line_tokens.specs.TokenLines.{lines_with_tokens}
use Rattle.ant_asm.specs.declared.body.Body.{Body}
use Rattle.ant_asm.specs.declared.fault.AsmFault.{AsmFault}
use Rattle.ant_asm.specs.declared.named.NamedBody.{NamedBody}
use Rattle.ant_asm.specs.Program.{Items, size_of}
use Rattle.ant_asm.specs.Text.{IsAsmFault, IsAsmText}
use Rattle.ant_asm.specs.Labels.{AreLabelsOf, LabelState, Outline, labels_of, outline_of}
use Rattle.ant_asm.specs.Source.{IsSourceOf, ReadSource}
use Rattle.ant_asm.specs.StateLines.{AreStateLinesOf, StateLine, state_lines_of}
use Rattle.ant_asm.specs.Inner.Flat.{tree_at}
use Rattle.ant_asm.specs.Inner.Outlines.{AreListed, AreOutlinesOf, all_states, lines_said, main_of, outline_at, outline_size, told_lines, source_seen}
use Rattle.ant_asm.specs.Inner.ProgramView.{AreBodiesOf, last_of}
use Rattle.ant_asm.proofs.Expansion.{main-few, main-some}
use Rattle.ant_asm.proofs.LabelStates.{labels-are}
use Rattle.ant_asm.proofs.LineLemmas.{lines_decide}
use Rattle.ant_asm.proofs.LineStates.{lines-are}
use Rattle.ant_asm.proofs.OutlineFits.{Fits, fits-size, one-said, text-fits, text-said}
use Rattle.ant_asm.proofs.TextLemmas.{never_both, one_program}

module _ (text : List ℕ) (bodies : List Body) (named : List NamedBody) (are : AreBodiesOf text bodies) (outlines : AreOutlinesOf (lines_said text) named) where
  abbrev main : Items
  main = tree_at bodies (last_of bodies)

  fits : Fits (outline_of (lines_said text)) main
  fits = text-fits text main are.main

  pub are-listed : AreListed named
  are-listed = record {
    good = outlines.good;
    some = outlines.some;
    short = outlines.short;
    few = let size : outline_size (outline_at named (main_of named)) ≡ size_of main = ap outline_size outlines.main ∙ fits-size (outline_of (lines_said text)) main fits in let few = main-few text bodies are in omega (arith, size, few);
  }

  pub source-read : IsSourceOf text (source_seen named)
  source-read = (
    record {
      main = main;
      is = are.main;
      lines = lines_said text;
      said = text-said text main are.main;
      are = ap (λ (o : Outline). all_states o 0 0 []) outlines.main ∙ sym (labels-are main (outline_of (lines_said text)) fits (main-some text bodies are));
    },
    record {
      main = main;
      is = are.main;
      lines = lines_said text;
      said = text-said text main are.main;
      are = ap (λ (o : Outline). told_lines o 0 []) outlines.main ∙ sym (lines-are (outline_of (lines_said text)) main fits);
    },
  )

-- a program has its labels, and a line for each state
pub has-source : (text : List ℕ) (main : Items) → IsAsmText text main → (source : ReadSource) × IsSourceOf text source
has-source text main is = (
  record { labels = labels_of main (lines_said text); lines = state_lines_of main (lines_said text) },
  (
    record { main = main; is = is; lines = lines_said text; said = text-said text main is; are = refl },
    record { main = main; is = is; lines = lines_said text; said = text-said text main is; are = refl },
  ),
)

-- and no others
pub one-lines : (text : List ℕ) (a b : List StateLine) → AreStateLinesOf text a → AreStateLinesOf text b → a ≡ b
one-lines text a b first second =
    first.are ∙ ap₂ state_lines_of (one_program lines_decide text first.main second.main first.is second.is) (one-said (lines_with_tokens text) first.lines second.lines first.said second.said) ∙ sym second.are

one-labels : (text : List ℕ) (a b : List LabelState) → AreLabelsOf text a → AreLabelsOf text b → a ≡ b
one-labels text a b first second =
    first.are ∙ ap₂ labels_of (one_program lines_decide text first.main second.main first.is second.is) (one-said (lines_with_tokens text) first.lines second.lines first.said second.said) ∙ sym second.are

pub one-source : (text : List ℕ) (a b : ReadSource) → IsSourceOf text a → IsSourceOf text b → a ≡ b
one-source text a b first second =
    let labels = one-labels text a.labels b.labels first.0 second.0 in let lines = one-lines text a.lines b.lines first.1 second.1 in λ i. record { labels = labels i; lines = lines i }

pub source-fault : (text : List ℕ) (source : ReadSource) → IsSourceOf text source → (fault : AsmFault) → IsAsmFault text fault → ⊥
source-fault text source is fault wrong = never_both lines_decide text is.0.main fault is.0.is wrong
