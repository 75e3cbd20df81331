-- A step of a reader judges its position, whatever positions and faults there are.
use Rattle.std.proofs.Common.{◌≡◌, ℕ, List, [], ◌∷◌, ◌++◌, Option, sym, ap, ◌∙◌}
use Rattle.line_tokens.specs.declared.refusal.Refusal.{Refusal}
use Rattle.line_tokens.specs.Steps.{Read, Step, ◌>>=◌, take_word}
use Rattle.line_tokens.proofs.LineFaults.{fault_of_read}
use Rattle.line_tokens.proofs.StepsLemmas.{as_named, bind_assoc}

-- a step judges its position: where the further positions are at fault as what comes after it says, this one and they
-- are as the whole says
pub record Judges {A P F : Type 0} (B : Type 0) (first_fault : ℕ → List (List ℕ) → List P → Option F) (refusal_at : ℕ → Refusal → F) (position : P) (take : List (List ℕ) → Step A) (brings : A → List P) : Type 0 where
  pub steps : (line : ℕ) (tokens : List (List ℕ)) (positions : List P) (f : A × List (List ℕ) → Read B)
      → ((x : A) (rest : List (List ℕ)) → first_fault line rest (brings x ++ positions) ≡ fault_of_read refusal_at line (f (x, rest)))
      → first_fault line tokens (position ∷ positions) ≡ fault_of_read refusal_at line (take tokens >>= f)

-- a step that names what its word stands for
pub named_judges : {A B P F : Type 0} {first_fault : ℕ → List (List ℕ) → List P → Option F} {refusal_at : ℕ → Refusal → F} (words : List (List ℕ)) (position : P)
    → Judges B first_fault refusal_at position (take_word words) (λ i. []) → (at : ℕ → A) → Judges B first_fault refusal_at position (λ tokens. take_word words tokens >>= as_named at) (λ x. [])
named_judges {refusal_at = refusal_at} words position judges at = record {
  steps = λ line tokens positions f next.
      judges.steps line tokens positions (λ w. f (at w.0, w.1)) (λ i rest. next (at i) rest)
      ∙ ap (fault_of_read refusal_at line) (sym (bind_assoc (take_word words tokens) (as_named at) f));
}
