-- A text has exactly one brain or exactly one fault, and the reading answers it.
use Rattle.std.proofs.Common.{◌≡◌, ◌+◌, ◌≤◌, ℕ, List, [], ◌∷◌, ◌++◌, length, map, Option, Some, None, Ok, Err, option_map, ◌⊎◌, inl, inr, refl, sym, ap, ◌∙◌, subst, arith}
use Rattle.std.specs.Option.{option_or}
use Rattle.std.proofs.lemmas.List.{length-map}
use Rattle.brain_read.specs.declared.fault.BrainFault.{BrainFault}
use Rattle.brain_read.specs.declared.fault.BrainFault.TheVariants.{Empty, NoSuchState}
use Rattle.brain_read.specs.declared.instr.Instr.{Instr}
use Rattle.brain_read.specs.Soundness.{most_states}
use Rattle.brain_read.specs.Forms.{InstrLine}
use Rattle.line_tokens.specs.Steps.{Read}
use Rattle.line_tokens.specs.TokenLines.{TokenLine, lines_with_tokens}
use Rattle.brain_read.specs.Grammar.{AreLines, states_of, StatesBelow, IsBrainText}
use Rattle.brain_read.specs.Faulty.{line_fault, first_not_below, IsBrainFault}
use Rattle.brain_read.specs.Inner.FirstFault.{first_state_fault}
use Rattle.line_tokens.specs.Inner.LineByLine.{put_before, read_lines, first_line_fault}
use Rattle.brain_read.specs.Faulty.IsBrainFault.{OfLine, OfNothing, OfState}
use Rattle.brain_read.specs.Drafts.{or_state}
use Rattle.brain_read.specs.Inner.Verdict.{Placed, Judgement, brain_reader, settled_then, settle_all, settle, settle_read, read_text}
use Rattle.brain_read.proofs.FormsLemmas.{line_again}
use Rattle.brain_read.proofs.FirstFaults.{first_of_line, faithful, NamesNoState, first_state_fault-found, first_state_fault-first, none_not_below, not_below_none}
use Rattle.line_tokens.proofs.LineFaults.{first_line_fault-found, first_line_fault-first}
use Rattle.line_tokens.proofs.LineLemmas.{fault_of_judged, judged_err, judged_ok, put_before_fault, put_before_ok, kept, lines_again}
use Rattle.line_tokens.proofs.LineLemmas as generic
use Rattle.line_tokens.proofs.LinesByTokens.{by_lines, by_tokens}

-- the reading stops at the first line at fault
lines_faulted : (lines : List TokenLine) → first_line_fault line_fault 0 lines ≡ fault_of_judged (read_lines brain_reader 0 lines)
lines_faulted lines = generic.lines_faulted brain_reader InstrLine first_of_line faithful 0 lines

-- the instructions that were read are those of the lines, with their numbers
abbrev pub ArePlaced : List TokenLine → List Placed → Type 0
ArePlaced [] [] = Unit {0}
ArePlaced (line ∷ lines) (placed ∷ list) = (placed.line ≡ line.number) × InstrLine line.tokens placed.instruction × ArePlaced lines list
ArePlaced it that = ⊥

-- the instructions without their lines
abbrev pub instructions : List Placed → List Instr
instructions list = map (λ placed. placed.instruction) list

-- what was read of the lines
pub record AreRead (before : ℕ) (lines : List TokenLine) (list : List Placed) : Type 0 where
  pub placed : ArePlaced lines list
  pub few : before ≤ most_states → before + length list ≤ most_states

-- what is kept of the instructions of the lines is they, with their numbers
placed_kept : (lines : List TokenLine) (list : List Instr) → AreLines lines list → ArePlaced lines (kept brain_reader lines list)
placed_kept [] [] are = tt
placed_kept (line ∷ lines) (i ∷ list) are = (refl, are.0, placed_kept lines list are.1)
placed_kept it that are = absurd are

instructions_kept : (lines : List TokenLine) (list : List Instr) → AreLines lines list → instructions (kept brain_reader lines list) ≡ list
instructions_kept [] [] are = refl
instructions_kept (line ∷ lines) (i ∷ list) are = ap (λ is. i ∷ is) (instructions_kept lines list are.1)
instructions_kept it that are = absurd are

pub lines_read : (lines : List TokenLine) (before : ℕ) (list : List Placed) → read_lines brain_reader before lines ≡ Ok list → AreRead before lines list
lines_read lines before list e =
    let read = generic.lines_read brain_reader InstrLine first_of_line faithful lines before list e in
    let size : length list ≡ length read.items =
    ap length read.is ∙ sym (length-map (kept brain_reader lines read.items) (λ k. k.instruction)) ∙ ap length (instructions_kept lines read.items read.are) in
    record {
      placed = subst (ArePlaced lines) (sym read.is) (placed_kept lines read.items read.are);
      few = λ room. omega (arith, size, read.few room);
    }

pub are_lines : (lines : List TokenLine) (list : List Placed) → ArePlaced lines list → AreLines lines (instructions list)
are_lines [] [] are = tt
are_lines (line ∷ lines) (placed ∷ list) are = (are.1, are_lines lines list are.2)
are_lines it that are = are

-- lines are those of one list of instructions only
pub one_list : (lines : List TokenLine) (a b : List Instr) → AreLines lines a → AreLines lines b → a ≡ b
one_list [] [] [] h k = refl
one_list [] (i ∷ a) b h k = absurd h
one_list (line ∷ lines) [] b h k = absurd h
one_list (line ∷ lines) (i ∷ a) (j ∷ b) h k =
    let same : i ≡ j = (let e : ◌≡◌ {A = Read Instr} (Ok i) (Ok j) = sym (line_again i line.tokens h.0) ∙ line_again j line.tokens k.0 in cc) in
    let rest = one_list lines a b h.1 k.1 in
    ap (λ x. x ∷ a) same ∙ ap (λ xs. j ∷ xs) rest
one_list it that b h k = absurd k

settled_fault : (n line : ℕ) (i : Instr) (o : Option ℕ) (later : Judgement (List Instr)) → fault_of_judged (settled_then line (or_state o i) later) ≡ option_or (option_map (NoSuchState line) o) (fault_of_judged later)
settled_fault n line i None later = put_before_fault i later
settled_fault n line i (Some state) later = refl

-- the settling stops at the first line with a state that there isn't
pub settle_faulted : (n : ℕ) (lines : List TokenLine) (list : List Placed) → ArePlaced lines list → first_state_fault n lines (instructions list) ≡ fault_of_judged (settle_all n list)
settle_faulted n [] [] are = refl
settle_faulted n (line ∷ lines) (placed ∷ list) are =
    ap (λ k. option_or (option_map (NoSuchState k) (first_not_below n (states_of placed.instruction))) (first_state_fault n lines (instructions list))) (sym are.0)
    ∙ ap (option_or (option_map (NoSuchState placed.line) (first_not_below n (states_of placed.instruction)))) (settle_faulted n lines list are.2)
    ∙ sym (settled_fault n placed.line placed.instruction (first_not_below n (states_of placed.instruction)) (settle_all n list))
settle_faulted n it that are = absurd are

settled_then_ok : (n line : ℕ) (i : Instr) (o : Option ℕ) (later : Judgement (List Instr)) (list : List Instr) → settled_then line (or_state o i) later ≡ Ok list → (rest : List Instr) × (o ≡ None) × (later ≡ Ok rest) × (list ≡ i ∷ rest)
settled_then_ok n line i None later list e = let p = put_before_ok i later list e in (p.0, refl, p.1, p.2)
settled_then_ok n line i (Some state) later list e = (let never : ◌≡◌ {A = Judgement (List Instr)} (Err (NoSuchState line state)) (Ok list) = e in absurd (cc))

pub settle_read_all : (n : ℕ) (placed : List Placed) (list : List Instr) → settle_all n placed ≡ Ok list → (list ≡ instructions placed) × StatesBelow n list
settle_read_all n [] list e =
    let none : list ≡ [] = (let same : ◌≡◌ {A = Judgement (List Instr)} (Ok []) (Ok list) = e in cc) in
    (none, subst (StatesBelow n) (sym none) tt)
settle_read_all n (p ∷ placed) list e =
    let s = settled_then_ok n p.line p.instruction (first_not_below n (states_of p.instruction)) (settle_all n placed) list e in
    let rest = settle_read_all n placed s.0 s.2 in
    (s.3 ∙ ap (λ is. p.instruction ∷ is) rest.0, subst (StatesBelow n) (sym s.3) (not_below_none n (states_of p.instruction) s.1, rest.1))

pub settle_again : (n : ℕ) (placed : List Placed) → StatesBelow n (instructions placed) → settle_all n placed ≡ Ok (instructions placed)
settle_again n [] below = refl
settle_again n (p ∷ placed) below =
    ap (λ o. settled_then p.line (or_state o p.instruction) (settle_all n placed)) (none_not_below n (states_of p.instruction) below.0)
    ∙ ap (put_before p.instruction) (settle_again n placed below.1)

-- a list of some instructions
settle_some : (placed : List Placed) → 1 ≤ length placed → settle placed ≡ settle_all (length placed) placed
settle_some [] some = absurd (omega arith)
settle_some (p ∷ placed) some = refl

module _ (text : List ℕ) where
  -- what is read is the brain of the text
  pub brain_read_of : (list : List Instr) → read_text text ≡ Ok list → IsBrainText text list
  unfolding read_text
  brain_read_of list e = go (read_lines brain_reader 0 (lines_with_tokens text)) refl e
    where
      go : (r : Judgement (List Placed)) → read_lines brain_reader 0 (lines_with_tokens text) ≡ r → settle_read r ≡ Ok list → IsBrainText text list
      go (Err fault) is q = (let never : ◌≡◌ {A = Judgement (List Instr)} (Err fault) (Ok list) = q in absurd (cc))
      go (Ok []) is q = (let never : ◌≡◌ {A = Judgement (List Instr)} (Err Empty) (Ok list) = q in absurd (cc))
      go (Ok (p ∷ placed)) is q =
          let read = lines_read (lines_with_tokens text) 0 (p ∷ placed) is in
          let all = settle_read_all (length (p ∷ placed)) (p ∷ placed) list q in
          let size : length list ≡ length (p ∷ placed) = ap length all.0 ∙ length-map (p ∷ placed) (λ k. k.instruction) in
          let few : 0 + length (p ∷ placed) ≤ most_states = read.few (omega arith) in
          record {
            lines = by_tokens InstrLine text list (subst (AreLines (lines_with_tokens text)) (sym all.0) (are_lines (lines_with_tokens text) (p ∷ placed) read.placed));
            some = omega arith;
            few = omega arith;
            states = subst (λ n. StatesBelow n list) (sym size) all.1;
          }

  -- the brain of the text is read
  pub brain_read_again : (list : List Instr) → IsBrainText text list → read_text text ≡ Ok list
  unfolding read_text
  brain_read_again list b =
      let placed = kept brain_reader (lines_with_tokens text) list in
      let lines = by_lines InstrLine text list b.lines in
      let same = instructions_kept (lines_with_tokens text) list lines in
      let size : length placed ≡ length list = sym (length-map placed (λ k. k.instruction)) ∙ ap length same in
      let some : 1 ≤ length placed = (let one = b.some in omega arith) in
      let below : StatesBelow (length placed) (instructions placed) = subst (StatesBelow (length placed)) (sym same) (subst (λ n. StatesBelow n list) (sym size) b.states) in
      ap settle_read (lines_again brain_reader InstrLine first_of_line faithful (lines_with_tokens text) 0 list lines (let few = b.few in omega arith))
      ∙ settle_some placed some ∙ settle_again (length placed) placed below ∙ ap Ok same

  -- the fault that is returned is the text's
  pub fault_read_of : (fault : BrainFault) → read_text text ≡ Err fault → IsBrainFault text fault
  unfolding read_text
  fault_read_of fault e = go (read_lines brain_reader 0 (lines_with_tokens text)) refl e
    where
      nothing : (lines : List TokenLine) → ArePlaced lines [] → lines ≡ []
      nothing [] are = refl
      nothing (line ∷ lines) are = absurd are

      go : (r : Judgement (List Placed)) → read_lines brain_reader 0 (lines_with_tokens text) ≡ r → settle_read r ≡ Err fault → IsBrainFault text fault
      go (Err other) is q = OfLine (first_line_fault-first brain_reader InstrLine first_of_line faithful text fault (lines_faulted (lines_with_tokens text) ∙ ap fault_of_judged is ∙ ap fault_of_judged q))
      go (Ok []) is q = OfNothing (nothing (lines_with_tokens text) (lines_read (lines_with_tokens text) 0 [] is).placed) (let same : ◌≡◌ {A = Judgement (List Instr)} (Err Empty) (Err fault) = q in cc)
      go (Ok (p ∷ placed)) is q =
          let read = lines_read (lines_with_tokens text) 0 (p ∷ placed) is in
          let size : length (instructions (p ∷ placed)) ≡ length (p ∷ placed) = length-map (p ∷ placed) (λ k. k.instruction) in
          let few : 0 + length (p ∷ placed) ≤ most_states = read.few (omega arith) in
          OfState (first_state_fault-first text fault (instructions (p ∷ placed)) (are_lines (lines_with_tokens text) (p ∷ placed) read.placed) (omega (arith, few, size))
          (ap (λ n. first_state_fault n (lines_with_tokens text) (instructions (p ∷ placed))) size
          ∙ settle_faulted (length (p ∷ placed)) (lines_with_tokens text) (p ∷ placed) read.placed ∙ ap fault_of_judged q))

  -- the text's fault is returned
  pub fault_read_again : (fault : BrainFault) → IsBrainFault text fault → read_text text ≡ Err fault
  unfolding read_text
  fault_read_again fault (OfLine h) =
      ap settle_read (judged_err (read_lines brain_reader 0 (lines_with_tokens text)) fault (sym (lines_faulted (lines_with_tokens text)) ∙ first_line_fault-found brain_reader InstrLine first_of_line faithful text fault h))
  fault_read_again fault (OfNothing none empty) = ap (λ lines. settle_read (read_lines brain_reader 0 lines)) none ∙ ap Err (sym empty)
  fault_read_again fault (OfState h) = names (h.read ++ h.instruction ∷ h.unread) (first_state_fault-found text fault h)
    where
      never_none : (n : ℕ) (lines : List TokenLine) (list : List Instr) → ArePlaced lines [] → first_state_fault n lines list ≡ Some fault → ⊥
      never_none n [] list placed q = (let never : None ≡ Some fault = q in cc)
      never_none n (line ∷ lines) list placed q = placed

      settles : (list : List Instr) → NamesNoState text fault list → (placed : List Placed) → ArePlaced (lines_with_tokens text) placed → settle placed ≡ Err fault
      settles list names [] at = absurd (never_none (length list) (lines_with_tokens text) list at names.found)
      settles list names (p ∷ placed) at =
          let same : instructions (p ∷ placed) ≡ list = one_list (lines_with_tokens text) (instructions (p ∷ placed)) list (are_lines (lines_with_tokens text) (p ∷ placed) at) names.are in
          let size : length list ≡ length (p ∷ placed) = ap length (sym same) ∙ length-map (p ∷ placed) (λ k. k.instruction) in
          judged_err (settle_all (length (p ∷ placed)) (p ∷ placed)) fault
          (sym (settle_faulted (length (p ∷ placed)) (lines_with_tokens text) (p ∷ placed) at)
          ∙ ap (first_state_fault (length (p ∷ placed)) (lines_with_tokens text)) same
          ∙ ap (λ n. first_state_fault n (lines_with_tokens text) list) (sym size) ∙ names.found)

      names : (list : List Instr) → NamesNoState text fault list → settle_read (read_lines brain_reader 0 (lines_with_tokens text)) ≡ Err fault
      names list h =
          let ok = judged_ok (read_lines brain_reader 0 (lines_with_tokens text)) (sym (lines_faulted (lines_with_tokens text)) ∙ h.none) in
          ap settle_read ok.1 ∙ settles list h ok.0 (lines_read (lines_with_tokens text) 0 ok.0 ok.1).placed

  -- a text has a brain or a fault
  pub some_answer : ((brain : List Instr) × IsBrainText text brain) ⊎ ((fault : BrainFault) × IsBrainFault text fault)
  some_answer = go (read_text text) refl
    where
      go : (r : Judgement (List Instr)) → read_text text ≡ r → ((brain : List Instr) × IsBrainText text brain) ⊎ ((fault : BrainFault) × IsBrainFault text fault)
      go (Ok list) e = inl (list, brain_read_of list e)
      go (Err fault) e = inr (fault, fault_read_of fault e)

  pub one_brain : (a b : List Instr) → IsBrainText text a → IsBrainText text b → a ≡ b
  one_brain a b h k = let e : ◌≡◌ {A = Judgement (List Instr)} (Ok a) (Ok b) = sym (brain_read_again a h) ∙ brain_read_again b k in cc

  pub one_fault : (a b : BrainFault) → IsBrainFault text a → IsBrainFault text b → a ≡ b
  one_fault a b h k = let e : ◌≡◌ {A = Judgement (List Instr)} (Err a) (Err b) = sym (fault_read_again a h) ∙ fault_read_again b k in cc

  pub never_both : (brain : List Instr) (fault : BrainFault) → IsBrainText text brain → IsBrainFault text fault → ⊥
  never_both brain fault h k = let e : ◌≡◌ {A = Judgement (List Instr)} (Ok brain) (Err fault) = sym (brain_read_again brain h) ∙ fault_read_again fault k in cc
