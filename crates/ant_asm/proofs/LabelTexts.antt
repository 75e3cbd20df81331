-- The texts of ways, of labels and of lines, in parts.
use Rattle.std.proofs.Common.{◌≡◌, ℕ, ◌+◌, ◌<◌, List, [], ◌∷◌, ◌++◌, codes, drop, get_or, length, refl, sym, ap, ◌∙◌, append_assoc}
use Rattle.std.specs.Prelude.{decimal}
use Rattle.std.proofs.lemmas.List.{drop_more}
use Rattle.ant_base.specs.Layout.{◌+++◌}
use Rattle.ant_asm.specs.declared.level.Level.{Level}
use Rattle.ant_asm.specs.Labels.{LabelState, label_text, labels_text, way_text}
use Rattle.ant_asm.specs.StateLines.{StateLine, state_line_text, state_lines_text, uses_text}
use Rattle.ant_asm.specs.Inner.Ways.{steps_of}

-- the text of one use
abbrev pub use_text : List ℕ → ℕ → List ℕ
use_text name line = name +++ codes "@" +++ decimal line +++ codes "/"

-- the text of the uses at which bodies were left, from the first on
pub way_text-next : (levels : List Level) (i : ℕ) (other : Level) → i < length levels →
    way_text (steps_of (drop i levels)) ≡ use_text (get_or levels i other).step.name.now (get_or levels i other).step.line ++ way_text (steps_of (drop (i + 1) levels))
way_text-next levels i other inside = ap (λ (l : List Level). way_text (steps_of l)) (drop_more levels i other inside)

pub uses_text-next : (before : List ℕ) (levels : List Level) (i : ℕ) (other : Level) → i < length levels →
    uses_text before (steps_of (drop i levels)) ≡ (before +++ (get_or levels i other).step.name.now +++ codes "@" +++ decimal (get_or levels i other).step.line) ++ uses_text (codes "/") (steps_of (drop (i + 1) levels))
uses_text-next before levels i other inside = ap (λ (l : List Level). uses_text before (steps_of l)) (drop_more levels i other inside)

pub labels_text-append : (front back : List LabelState) → labels_text (front ++ back) ≡ labels_text front ++ labels_text back
labels_text-append [] back = refl
labels_text-append (label ∷ front) back = ap (λ (t : List ℕ). label_text label ++ t) (labels_text-append front back) ∙ sym (append_assoc (label_text label) (labels_text front) (labels_text back))

pub state_lines_text-append : (front back : List StateLine) → state_lines_text (front ++ back) ≡ state_lines_text front ++ state_lines_text back
state_lines_text-append [] back = refl
state_lines_text-append (it ∷ front) back = ap (λ (t : List ℕ). state_line_text it ++ t) (state_lines_text-append front back) ∙ sym (append_assoc (state_line_text it) (state_lines_text front) (state_lines_text back))
