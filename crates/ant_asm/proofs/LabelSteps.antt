-- The report of a line of a body that is used, and of the lines after it.
use Rattle.std.proofs.Common.{◌≡◌, ℕ, zero, suc, ◌+◌, ◌<◌, ◌≤◌, List, [], ◌∷◌, ◌++◌, drop, length, Some, refl, sym, ap, ◌∙◌, subst, arith}
use Rattle.std.specs.Prelude.{◌==◌, if◌then◌else◌, slice_get, slice_index_or}
use Rattle.std.proofs.lemmas.List.{drop_more}
use Rattle.ant_base.specs.Sink.{SinkState}
use Rattle.ant_asm.specs.declared.named.NamedBody.{NamedBody}
use Rattle.ant_asm.specs.declared.named.NamedLine.{NamedLine}
use Rattle.ant_asm.specs.Labels.{LabelState, Outline, WayStep, labels_text}
use Rattle.ant_asm.specs.StateLines.{StateLine}
use Rattle.ant_asm.specs.Labels.Outline.{Closed}
use Rattle.ant_asm.specs.Inner.Flat.{most}
use Rattle.ant_asm.specs.Inner.Outlines.{AreGoodNamed, IsUseBelow, all_states, further, inner_states, label_of, line_before, line_size, lines_before, most_size, outline_at, outline_size, outlines_of, own_states, size_in, state_at, told_lines}
use Rattle.ant_asm.proofs.FlatLemmas.{all_at, read_at}
use Rattle.ant_asm.proofs.LabelTexts.{labels_text-append}
use Rattle.ant_asm.proofs.LabelWalk.{AreTold, state-is, told-none}
use Rattle.ant_asm.proofs.OutlineLemmas.{IsNamedAt, line_before-size, named-at, use_below-more}

-- the labels of the block that a line uses, if the line is a use
abbrev pub used_states : List Outline → NamedLine → ℕ → ℕ → List WayStep → List LabelState
used_states blocks (NamedLine.Use line name block) at follows way = all_states (slice_index_or blocks block Closed) at follows (further way name.items line)
used_states blocks it at follows way = []

-- a line, and the lines after it
own-split : (blocks : List Outline) (line : NamedLine) (rest : Outline) (at after : ℕ) (way : List WayStep) (size : ℕ) → size ≡ outline_size (line_before blocks line Closed) →
    own_states (line_before blocks line rest) at after way ≡ label_of line (state_at (outline_size (line_before blocks line rest)) at after) way ++ own_states rest (at + size) after way
own-split blocks (NamedLine.Label name) rest at after way size is =
    ap (λ (n : ℕ). (let one : LabelState = record { way = way; name = name.items; state = state_at (outline_size rest) at after } in one) ∷ own_states rest n after way) (let e : at ≡ at + size = omega (arith, is) in e)
own-split blocks (NamedLine.Instruction line) rest at after way size is = ap (λ (n : ℕ). own_states rest n after way) (let e : at + 1 ≡ at + size = omega (arith, is) in e)
own-split blocks (NamedLine.Use line name block) rest at after way size is =
    ap (λ (n : ℕ). own_states rest n after way) (let e : at + outline_size (slice_index_or blocks block Closed) ≡ at + size = omega (arith, is) in e)

pub inner-split : (blocks : List Outline) (line : NamedLine) (rest : Outline) (at after : ℕ) (way : List WayStep) (size : ℕ) → size ≡ outline_size (line_before blocks line Closed) →
    inner_states (line_before blocks line rest) at after way ≡ used_states blocks line at (state_at (outline_size rest) (at + size) after) way ++ inner_states rest (at + size) after way
inner-split blocks (NamedLine.Label name) rest at after way size is = ap (λ (n : ℕ). inner_states rest n after way) (let e : at ≡ at + size = omega (arith, is) in e)
inner-split blocks (NamedLine.Instruction line) rest at after way size is = ap (λ (n : ℕ). inner_states rest n after way) (let e : at + 1 ≡ at + size = omega (arith, is) in e)
inner-split blocks (NamedLine.Use line name block) rest at after way size is =
    ap (λ (n : ℕ). used_states blocks (NamedLine.Use line name block) at (state_at (outline_size rest) n after) way ++ inner_states rest n after way)
    (let e : at + outline_size (slice_index_or blocks block Closed) ≡ at + size = omega (arith, is) in e)

-- the lines of the instructions of a line
abbrev pub line_states : List Outline → NamedLine → ℕ → List WayStep → List StateLine
line_states blocks (NamedLine.Label name) at way = []
line_states blocks (NamedLine.Instruction line) at way = (record { state = at; line = line; way = way }) ∷ []
line_states blocks (NamedLine.Use line name block) at way = told_lines (slice_index_or blocks block Closed) at (further way name.items line)

pub lines-split : (blocks : List Outline) (line : NamedLine) (rest : Outline) (at : ℕ) (way : List WayStep) (size : ℕ) → size ≡ outline_size (line_before blocks line Closed) →
    told_lines (line_before blocks line rest) at way ≡ line_states blocks line at way ++ told_lines rest (at + size) way
lines-split blocks (NamedLine.Label name) rest at way size is = ap (λ (n : ℕ). told_lines rest n way) (let e : at ≡ at + size = omega (arith, is) in e)
lines-split blocks (NamedLine.Instruction line) rest at way size is =
    ap (λ (n : ℕ). (let one : StateLine = record { state = at; line = line; way = way } in one) ∷ told_lines rest n way) (let e : at + 1 ≡ at + size = omega (arith, is) in e)
lines-split blocks (NamedLine.Use line name block) rest at way size is =
    ap (λ (n : ℕ). told_lines (slice_index_or blocks block Closed) at (further way name.items line) ++ told_lines rest n way)
    (let e : at + outline_size (slice_index_or blocks block Closed) ≡ at + size = omega (arith, is) in e)

-- a known number has a body
pub the_named : (bodies : List NamedBody) (number : ℕ) → number < length bodies → (body : NamedBody) × (slice_get bodies number ≡ Some body)
the_named [] number known = absurd (omega arith)
the_named (body ∷ bodies) zero known = (body, refl)
the_named (body ∷ bodies) (suc number) known = the_named bodies number (omega arith)

-- a line has its size, if that is at most this much
pub line-size : (bodies : List NamedBody) (line : NamedLine) → AreGoodNamed [] bodies → IsUseBelow (length bodies) line → outline_size (line_before (outlines_of bodies) line Closed) ≤ most_size →
    line_size bodies line ≡ outline_size (line_before (outlines_of bodies) line Closed)
line-size bodies (NamedLine.Use line name block) good below few =
    let there = the_named bodies block below in
    let named = named-at bodies block there.0 there.1 good in
    let same : there.0.size ≡ outline_size (outline_at bodies block) = named.size (omega (arith, few)) in
    let all : outline_size (outline_at bodies block) ≡ outline_size (outline_at bodies block) + 0 = omega arith in
    ap size_in there.1 ∙ same ∙ all
line-size bodies it good below few = refl

-- a body that was read
pub record AtBody (bodies : List NamedBody) (number : ℕ) (body : NamedBody) : Type 0 where
  pub good : AreGoodNamed [] bodies
  pub known : number < length bodies
  pub is : body ≡ slice_index_or bodies number body

module _ {bodies : List NamedBody} {number : ℕ} {body : NamedBody} (a : AtBody bodies number body) where
  abbrev blocks : List Outline
  blocks = outlines_of bodies

  abbrev whole : Outline
  whole = outline_at bodies number

  named : IsNamedAt bodies number body
  named = named-at bodies number body (read_at bodies number body a.known a.is) a.good

  module _ (base : ℕ) (fits : base + outline_size (outline_at bodies number) ≤ most) where
    pub body-size : body.size ≡ outline_size whole
    body-size = let same = named.size (omega (arith, fits)) in same

  -- the lines, with none reported yet
  pub told-start : (tell : Outline → ℕ → List ℕ) (base : ℕ) (list : List NamedLine) (state : SinkState) → list ≡ body.lines.items →
      AreTold tell (tell whole base) (base + outline_size whole) (lines_before blocks (drop 0 list) Closed) base state state
  told-start tell base list state same =
      subst (λ (o : Outline). AreTold tell (tell o base) (base + outline_size o) (lines_before blocks list Closed) base state state)
      (ap (λ (l : List NamedLine). lines_before blocks l Closed) same ∙ sym named.is)
      (told-none tell (lines_before blocks list Closed) base (base + outline_size (lines_before blocks list Closed)) state refl)

  -- a line of it, if these are its lines
  module _ (list : List NamedLine) (same : list ≡ body.lines.items) (i : ℕ) (line : NamedLine) (inside : i < length list) (at : line ≡ slice_index_or list i line) where
    abbrev rest : Outline
    rest = lines_before blocks (drop (i + 1) list) Closed

    pub rest-split : lines_before blocks (drop i list) Closed ≡ line_before blocks line (lines_before blocks (drop (i + 1) list) Closed)
    rest-split = ap (λ (l : List NamedLine). lines_before blocks l Closed) (drop_more list i line inside) ∙ ap (λ (x : NamedLine). line_before blocks x rest) (sym at)

    pub line-below : IsUseBelow number line
    line-below = all_at (IsUseBelow number) body.lines.items i line named.uses (subst (λ (l : List NamedLine). slice_get l i ≡ Some line) same (read_at list i line inside at))

    pub use-below : IsUseBelow (length bodies) line
    use-below = use_below-more number (length bodies) (let known = a.known in omega (arith, known)) line line-below

    module _ (here end : ℕ) (ends : here + outline_size (lines_before blocks (drop i list) Closed) ≡ end) (few : end ≤ most) (size : ℕ) (told : size ≡ line_size bodies line) where
      parts : here + (outline_size (line_before blocks line Closed) + outline_size rest) ≡ end
      parts = ap (λ (n : ℕ). here + n) (sym (ap outline_size rest-split ∙ line_before-size blocks line rest)) ∙ ends

      pub size-is : size ≡ outline_size (line_before blocks line Closed)
      size-is = told ∙ line-size bodies line a.good use-below (let all = parts in omega (arith, all, few))

      pub next-ends : here + size + outline_size (lines_before blocks (drop (i + 1) list) Closed) ≡ end
      next-ends = let all = parts in let s = size-is in omega (arith, all, s)

      pub next-few : here + size ≤ most
      next-few = let all = next-ends in omega (arith, all, few)

      module _ (after : ℕ) (way : List WayStep) where
        pub own-step : (state : ℕ) → state ≡ (if here == end then after else here) →
            labels_text (own_states (lines_before blocks (drop i list) Closed) here after way)
            ≡ labels_text (label_of line state way) ++ labels_text (own_states (lines_before blocks (drop (i + 1) list) Closed) (here + size) after way)
        own-step state is =
            ap (λ (o : Outline). labels_text (own_states o here after way)) rest-split
            ∙ ap labels_text (own-split blocks line rest here after way size size-is)
            ∙ labels_text-append (label_of line (state_at (outline_size (line_before blocks line rest)) here after) way) (own_states rest (here + size) after way)
            ∙ ap (λ (s : ℕ). labels_text (label_of line s way) ++ labels_text (own_states rest (here + size) after way))
            (sym (is ∙ state-is here end after (outline_size (line_before blocks line rest)) (ap (λ (o : Outline). here + outline_size o) (sym rest-split) ∙ ends)))
