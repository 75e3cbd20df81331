-- The line reported for a state has its instruction, and the reported uses lead to it.
use Rattle.std.proofs.Common.{◌≡◌, ℕ, zero, suc, ◌+◌, List, [], ◌∷◌, ◌++◌, length, Option, Some, refl, sym, ap, ◌∙◌, subst, arith}
use Rattle.std.specs.Prelude.{slice_get}
use Rattle.std.specs.List.{AllByRecursion}
use Rattle.std.proofs.lemmas.List.{length_push}
use Rattle.std.proofs.lemmas.Option.{same_Some}
use Rattle.list_lemmas.proofs.AllElements.{AllByRecursion-push}
use Rattle.brain_read.specs.declared.instr.Instr.{Instr}
use Rattle.line_tokens.specs.TokenLines.{TokenLine, lines_with_tokens}
use Rattle.ant_asm.specs.declared.action.Action.{Action}
use Rattle.ant_asm.specs.declared.action.Action.TheVariants.{Sense}
use Rattle.ant_asm.specs.declared.action.Label.{Label}
use Rattle.ant_asm.specs.Program.{Items, from_place}
use Rattle.ant_asm.specs.Program.Items.{End, Do, Use}
use Rattle.ant_asm.specs.Places.{Address, Frame, Placed, inner, main_frame, placed, placed_from, placed_or_first, places, places_of}
use Rattle.ant_asm.specs.LabelGame.{instruction_by}
use Rattle.ant_asm.specs.Names.{Named}
use Rattle.ant_asm.specs.Answers.{IsAssembledText}
use Rattle.ant_asm.specs.Assembled.{number_in}
use Rattle.ant_asm.specs.Lines.{Says}
use Rattle.ant_asm.specs.Lines.Line.{Marks, Begins, Ends, Uses, Instructs}
use Rattle.ant_asm.specs.Standing.{mapped, way_or_next}
use Rattle.ant_asm.specs.Labels.{AreSaid, NumberedLine, Outline, WayStep, outline_of}
use Rattle.ant_asm.specs.Labels.NumberedLine.{At}
use Rattle.ant_asm.specs.Labels.Outline.{Closed, Labelled, Instructed, Used}
use Rattle.ant_asm.specs.StateLines.{AreStateLinesOf, LineForEachState, SaysInstruction, SaysUse, StateLine}
use Rattle.ant_asm.specs.Inner.Emission.{Numbers, inner_numbers, main_numbers}
use Rattle.ant_asm.specs.Inner.Outlines.{further, lines_said, outline_size, told_lines}
use Rattle.ant_asm.proofs.Emission.{Stands, Stands-inner, Stands-main, from_place-next}
use Rattle.ant_asm.proofs.SourceRead.{one-lines}
use Rattle.ant_asm.proofs.LineStates.{lines-are, lines_at-length, lines_at-state}
use Rattle.ant_asm.proofs.LineLemmas.{lines_decide}
use Rattle.ant_asm.proofs.OutlineFits.{IsTold, Tells, text-fits, text-said, text-tells}
use Rattle.ant_asm.proofs.TextLemmas.{one_program}

-- a use on the way
abbrev step_of : List ℕ → ℕ → WayStep
step_of name line = record { name = name; line = line }

-- labels in two steps
mapped-by : {A B : Type 0} (way : A → B) (state : B → ℕ) (action : Action A) → instruction_by state (mapped way action) ≡ instruction_by (λ label. state (way label)) action
mapped-by way state (Sense sight met unmet condition) = refl
mapped-by way state action = refl

module _ (text : List ℕ) where
  -- the line of this number says this instruction, if the line's names have these meanings
  record SaidBy (number : ℕ) (action : Action Label) : Type 0 where
    place : ℕ
    line : TokenLine
    stands : slice_get (lines_with_tokens text) place ≡ Some line
    numbered : line.number ≡ number
    named : Action Named
    says : Says line.tokens (Instructs named)
    meaning : List ℕ → Option Label
    is : action ≡ mapped (way_or_next meaning) named

  abbrev UsedBy : ℕ → List ℕ → Type 0
  UsedBy number name = SaysUse text (record { name = name; line = number })

  -- this holds of each line of the text that says an instruction, and of each use
  said-told : (lines : List TokenLine) (said : List NumberedLine) → AreSaid lines said → ((i : ℕ) (line : TokenLine) → slice_get lines i ≡ Some line → (place : ℕ) × (slice_get (lines_with_tokens text) place ≡ Some line)) →
      AllByRecursion (IsTold SaidBy UsedBy) said
  said-told [] [] are keep = tt
  said-told [] (said ∷ others) are keep = absurd are
  said-told (line ∷ lines) [] are keep = absurd are
  said-told (line ∷ lines) (At number (Instructs action) ∷ others) are keep = (
    λ meaning. record {
      place = (keep 0 line refl).0;
      line = line;
      stands = (keep 0 line refl).1;
      numbered = sym are.0;
      named = action;
      says = are.1;
      meaning = meaning;
      is = refl;
    },
    said-told lines others are.2 (λ i. keep (suc i)),
  )
  said-told (line ∷ lines) (At number (Uses name handed) ∷ others) are keep = (
    record {
      place = (keep 0 line refl).0;
      line = line;
      stands = (keep 0 line refl).1;
      numbered = sym are.0;
      handed = handed;
      says = are.1;
    },
    said-told lines others are.2 (λ i. keep (suc i)),
  )
  said-told (line ∷ lines) (At number (Marks name) ∷ others) are keep = (tt, said-told lines others are.2 (λ i. keep (suc i)))
  said-told (line ∷ lines) (At number (Begins name parameters) ∷ others) are keep = (tt, said-told lines others are.2 (λ i. keep (suc i)))
  said-told (line ∷ lines) (At number Ends ∷ others) are keep = (tt, said-told lines others are.2 (λ i. keep (suc i)))

  module _ (main : Items) where
    -- the report of the instruction at an address
    record IsToldAt (it : StateLine) (address : Address) : Type 0 where
      says : SaidBy it.line (placed main address).action
      deep : length address ≡ suc (length it.way)
      uses : AllByRecursion (SaysUse text) it.way

    abbrev AreToldAt : List StateLine → List Address → Type 0
    AreToldAt [] [] = Unit {0}
    AreToldAt (it ∷ lines) (address ∷ list) = IsToldAt it address × AreToldAt lines list
    AreToldAt it that = ⊥

    told-append : (lines more : List StateLine) (list others : List Address) → AreToldAt lines list → AreToldAt more others → AreToldAt (lines ++ more) (list ++ others)
    told-append [] more [] others first second = second
    told-append (it ∷ lines) more (address ∷ list) others first second = (first.0, told-append lines more list others first.1 second)
    told-append it more that others first second = absurd first

    told-at : (lines : List StateLine) (list : List Address) (i : ℕ) (it : StateLine) (address : Address) → AreToldAt lines list → slice_get lines i ≡ Some it → slice_get list i ≡ Some address → IsToldAt it address
    told-at [] [] i it address told at there = absurd (cc)
    told-at (one ∷ lines) (other ∷ list) zero it address told at there =
        subst (λ (l : StateLine). IsToldAt l address) (same_Some one it at) (subst (IsToldAt one) (same_Some other address there) told.0)
    told-at (one ∷ lines) (other ∷ list) (suc i) it address told at there = told-at lines list i it address told.1 at there
    told-at it that i one address told at there = absurd told

    -- the reports are in the order of the addresses
    lines-told : (outline : Outline) (items body : Items) (frame : Frame) (numbers : Numbers) (k at : ℕ) (way : List WayStep) → Stands main body frame numbers → from_place k body ≡ items →
        Tells SaidBy UsedBy outline items → length frame.path ≡ length way → AllByRecursion (SaysUse text) way → AreToldAt (told_lines outline at way) (places_of items frame.path k)
    unfolding placed
    lines-told Closed End body frame numbers k at way stands is tells deep uses = tt
    lines-told (Labelled name others) items body frame numbers k at way stands is tells deep uses = lines-told others items body frame numbers k at way stands is tells deep uses
    lines-told (Instructed line others) (Do action rest) body frame numbers k at way stands is tells deep uses = (
      record {
        says = subst (λ (o : Option Placed). SaidBy line (placed_or_first main o).action) (sym (stands.walks k [] ∙ ap (placed_from [] body frame k) is)) tells.0;
        deep = let all = length_push frame.path k in omega (arith, all, deep);
        uses = uses;
      },
      lines-told others rest body frame numbers (suc k) (at + 1) way stands (from_place-next k body ∙ ap (from_place 1) is) tells.1 deep uses,
    )
    lines-told (Used line name block others) (Use handed items rest) body frame numbers k at way stands is tells deep uses =
        told-append (told_lines block at (further way name line)) (told_lines others (at + outline_size block) way) (places_of items (frame.path ++ k ∷ []) 0) (places_of rest frame.path (suc k))
        (lines-told block items items (inner body frame k handed) (inner_numbers body numbers k handed) 0 at (further way name line)
        (Stands-inner main body frame numbers k handed items rest stands is) refl tells.0
        (let path = length_push frame.path k in let steps = length_push way (step_of name line) in omega (arith, path, steps, deep))
        (AllByRecursion-push (SaysUse text) way (step_of name line) uses tells.3))
        (lines-told others rest body frame numbers (suc k) (at + outline_size block) way stands (from_place-next k body ∙ ap (from_place 1) is) tells.1 deep uses)
    lines-told it items body frame numbers k at way stands is tells deep uses = absurd tells

module _ (text : List ℕ) (brain : List Instr) (list : List Address) (lines : List StateLine) (made : IsAssembledText text brain list) (are : AreStateLinesOf text lines) where
  abbrev main : Items
  main = made.main

  abbrev outline : Outline
  outline = outline_of (lines_said text)

  lines-is : lines ≡ told_lines outline 0 []
  lines-is =
      one-lines text lines (told_lines outline 0 []) are
      (record { main = main; is = made.is; lines = lines_said text; said = text-said text main made.is; are = sym (lines-are outline main (text-fits text main made.is)) })

  all-told : AreToldAt text main lines list
  all-told =
      subst (λ (l : List StateLine). AreToldAt text main l list) (sym lines-is) (subst (AreToldAt text main (told_lines outline 0 [])) (sym made.assembled.places)
      (lines-told text main outline main main (main_frame main) main_numbers 0 0 [] (Stands-main main) refl
      (text-tells (SaidBy text) (UsedBy text) text main made.is (said-told text (lines_with_tokens text) (lines_said text) (text-said text main made.is) (λ place line known. (place, known)))) refl tt))

  line-told : (i : ℕ) (it : StateLine) (address : Address) → slice_get lines i ≡ Some it → slice_get list i ≡ Some address → IsToldAt text main it address
  line-told i it address at there = told-at text main lines list i it address all-told at there

  -- the address of a state
  address-of : (places : List Address) (instructions : List Instr) (i : ℕ) (instruction : Instr) → length instructions ≡ length places → slice_get instructions i ≡ Some instruction → (address : Address) × (slice_get places i ≡ Some address)
  address-of places [] i instruction many at = absurd (cc)
  address-of [] (one ∷ instructions) i instruction many at = absurd (omega (arith, many))
  address-of (address ∷ places) (one ∷ instructions) zero instruction many at = (address, refl)
  address-of (address ∷ places) (one ∷ instructions) (suc i) instruction many at = address-of places instructions i instruction (omega (arith, many)) at

  pub says-instruction : (i : ℕ) (it : StateLine) (instruction : Instr) → slice_get lines i ≡ Some it → slice_get brain i ≡ Some instruction → SaysInstruction text list i it.line instruction
  says-instruction i it instruction at there =
      let address = address-of list brain i instruction made.assembled.as_many there in
      let told = (line-told i it address.0 at address.1).says in
      record {
        place = told.place;
        line = told.line;
        stands = told.stands;
        numbered = told.numbered;
        action = told.named;
        says = told.says;
        main = main;
        program = made.is;
        address = address.0;
        at = address.1;
        meaning = told.meaning;
        is =
            same_Some instruction (instruction_by (λ label. number_in list ((placed main address.0).target label)) (placed main address.0).action) (sym there ∙ made.assembled.each i address.0 address.1)
            ∙ ap (instruction_by (λ label. number_in list ((placed main address.0).target label))) told.is
            ∙ mapped-by (way_or_next told.meaning) (λ label. number_in list ((placed main address.0).target label)) told.named;
      }

  pub says-uses : (i : ℕ) (it : StateLine) (address : Address) → slice_get lines i ≡ Some it → slice_get list i ≡ Some address → (length address ≡ suc (length it.way)) × AllByRecursion (SaysUse text) it.way
  says-uses i it address at there = let told = line-told i it address at there in (told.deep, told.uses)

-- there is one for each state, in order
pub line_for_each : LineForEachState
line_for_each = record {
  as_many = λ text brain list lines made are.
      ap length are.are ∙ lines_at-length (outline_of are.lines) 0 (places are.main)
      ∙ ap (λ (m : Items). length (places m)) (one_program lines_decide text are.main made.main are.is made.is)
      ∙ sym (ap length made.assembled.places) ∙ sym made.assembled.as_many;
  in_order = λ text lines i it are at. lines_at-state (outline_of are.lines) 0 (places are.main) i it (ap (λ (l : List StateLine). slice_get l i) (sym are.are) ∙ at) ∙ (let e : 0 + i ≡ i = omega arith in e);
  says = λ text brain list lines i it instruction made are at there. says-instruction text brain list lines made are i it instruction at there;
  uses = λ text brain list lines i it address made are at there. says-uses text brain list lines made are i it address at there;
}
