-- The first state of a text's instructions that there isn't, as the search finds it and as what precedes it.
use Rattle.std.proofs.Common.{◌≡◌, ◌<◌, ◌≤◌, ℕ, suc, Bool, true, false, not, List, [], ◌∷◌, ◌++◌, length, Option, Some, None, option_map, cond, nat_lt, refl, sym, ap, ◌∙◌, subst, arith, ltb-true, lt-ltb}
use Rattle.std.specs.Option.{option_or}
use Rattle.std.specs.List.{AllByRecursion}
use Rattle.brain_read.specs.declared.fault.BrainFault.{BrainFault}
use Rattle.brain_read.specs.declared.fault.BrainFault.TheVariants.{NoSuchState}
use Rattle.brain_read.specs.declared.instr.Instr.{Instr}
use Rattle.brain_read.specs.Soundness.{most_states}
use Rattle.brain_read.specs.Judgement.{first_fault}
use Rattle.brain_read.specs.Judgement.Position.{FormToken}
use Rattle.brain_read.specs.Forms.{InstrLine}
use Rattle.line_tokens.specs.TokenLines.{TokenLine, lines_with_tokens}
use Rattle.brain_read.specs.Grammar.{AreLines, states_of, StatesBelow}
use Rattle.brain_read.specs.Faulty.{line_fault, first_not_below, HasNoSuchState}
use Rattle.line_tokens.specs.Inner.LineByLine.{first_line_fault}
use Rattle.brain_read.specs.Inner.FirstFault.{first_state_fault}
use Rattle.brain_read.specs.Inner.Verdict.{brain_reader}
use Rattle.brain_read.proofs.FormsLemmas.{line_spelled, line_again}
use Rattle.brain_read.proofs.JudgementLemmas.{line_faulted}
use Rattle.line_tokens.proofs.LineFaults.{IsFaithful, first_line_fault-none}

-- the fault of a line's first position at fault
abbrev pub first_of_line : ℕ → List (List ℕ) → Option BrainFault
first_of_line line tokens = first_fault line tokens (FormToken ∷ [])

-- the lines of a brain are read as their tokens say
pub faithful : IsFaithful brain_reader InstrLine first_of_line
faithful = record { said = line_spelled; again = line_again; faulted = line_faulted }

-- the first state that isn't below n
pub not_below_none : (n : ℕ) (states : List ℕ) → first_not_below n states ≡ None → AllByRecursion (λ state. state < n) states
not_below_none n [] e = tt
not_below_none n (state ∷ states) e = go (nat_lt state n) refl e (not_below_none n states)
  where
    go : (b : Bool) → nat_lt state n ≡ b → cond (not b) (Some state) (first_not_below n states) ≡ None → (first_not_below n states ≡ None → AllByRecursion (λ s. s < n) states) → (state < n) × AllByRecursion (λ s. s < n) states
    go true t q others = (ltb-true state n t, others q)
    go false t q others = (let never : Some state ≡ None = q in absurd (cc))

pub none_not_below : (n : ℕ) (states : List ℕ) → AllByRecursion (λ state. state < n) states → first_not_below n states ≡ None
none_not_below n [] all = refl
none_not_below n (state ∷ states) all = ap (λ b. cond (not b) (Some state) (first_not_below n states)) (lt-ltb state n all.0) ∙ none_not_below n states all.1

-- there are as many lines as instructions
AreLines-length : (lines : List TokenLine) (list : List Instr) → AreLines lines list → length list ≡ length lines
AreLines-length [] [] are = refl
AreLines-length (line ∷ lines) (i ∷ list) are = ap suc (AreLines-length lines list are.1)
AreLines-length it that are = absurd are

-- instructions whose states are below n are passed by the search
first_state_fault-pass : (n : ℕ) (before rest : List TokenLine) (read list : List Instr) → length before ≡ length read → StatesBelow n read
    → first_state_fault n (before ++ rest) (read ++ list) ≡ first_state_fault n rest list
first_state_fault-pass n [] rest [] list as_many below = refl
first_state_fault-pass n (line ∷ before) rest (i ∷ read) list as_many below =
    ap (λ o. option_or (option_map (NoSuchState line.number) o) (first_state_fault n (before ++ rest) (read ++ list))) (none_not_below n (states_of i) below.0)
    ∙ first_state_fault-pass n before rest read list (omega (arith, as_many)) below.1
first_state_fault-pass n it rest that list as_many below = absurd (omega (arith, as_many))

-- the lines are those of instructions, of which one names a state that there isn't
pub record NamesNoState (text : List ℕ) (fault : BrainFault) (list : List Instr) : Type 0 where
  pub none : first_line_fault line_fault 0 (lines_with_tokens text) ≡ None
  pub are : AreLines (lines_with_tokens text) list
  pub found : first_state_fault (length list) (lines_with_tokens text) list ≡ Some fault

-- the first state that isn't below their number is found
pub first_state_fault-found : (text : List ℕ) (fault : BrainFault) (h : HasNoSuchState text fault) → NamesNoState text fault (h.read ++ h.instruction ∷ h.unread)
first_state_fault-found text fault h =
    let list = h.read ++ h.instruction ∷ h.unread in
    let n = length (lines_with_tokens text) in
    record {
      none = first_line_fault-none brain_reader InstrLine first_of_line faithful (lines_with_tokens text) list h.good h.few;
      are = h.good;
      found =
          ap (λ k. first_state_fault k (lines_with_tokens text) list) (AreLines-length (lines_with_tokens text) list h.good)
          ∙ ap (λ lines. first_state_fault n lines list) h.lines
          ∙ first_state_fault-pass n h.before (h.line ∷ h.after) h.read (h.instruction ∷ h.unread) h.as_many h.below
          ∙ ap (λ o. option_or (option_map (NoSuchState h.line.number) o) (first_state_fault n h.after h.unread)) h.wrong
          ∙ ap Some (sym h.is);
    }

-- an instruction among these that names a state which isn't below n
record NamesState (n : ℕ) (lines : List TokenLine) (list : List Instr) (fault : BrainFault) : Type 0 where
  before : List TokenLine
  line : TokenLine
  after : List TokenLine
  are : lines ≡ before ++ line ∷ after
  read : List Instr
  instruction : Instr
  unread : List Instr
  whole : list ≡ read ++ instruction ∷ unread
  as_many : length before ≡ length read
  below : StatesBelow n read
  state : ℕ
  wrong : first_not_below n (states_of instruction) ≡ Some state
  is : fault ≡ NoSuchState line.number state

find_state : (n : ℕ) (lines : List TokenLine) (list : List Instr) (fault : BrainFault) → first_state_fault n lines list ≡ Some fault → NamesState n lines list fault
find_state n (line ∷ lines) (i ∷ list) fault e = go (first_not_below n (states_of i)) refl (λ q. find_state n lines list fault q) e
  where
    go : (here : Option ℕ) → first_not_below n (states_of i) ≡ here → (first_state_fault n lines list ≡ Some fault → NamesState n lines list fault)
        → option_or (option_map (NoSuchState line.number) here) (first_state_fault n lines list) ≡ Some fault → NamesState n (line ∷ lines) (i ∷ list) fault
    go (Some state) found more q = record {
      before = [];
      line = line;
      after = lines;
      are = refl;
      read = [];
      instruction = i;
      unread = list;
      whole = refl;
      as_many = refl;
      below = tt;
      state = state;
      wrong = found;
      is = (let same : Some (NoSuchState line.number state) ≡ Some fault = q in cc);
    }
    go None found more q =
        let later = more q in
        record {
          before = line ∷ later.before;
          line = later.line;
          after = later.after;
          are = ap (λ ls. line ∷ ls) later.are;
          read = i ∷ later.read;
          instruction = later.instruction;
          unread = later.unread;
          whole = ap (λ is. i ∷ is) later.whole;
          as_many = ap suc later.as_many;
          below = (not_below_none n (states_of i) found, later.below);
          state = later.state;
          wrong = later.wrong;
          is = later.is;
        }
find_state n it list fault e = (let never : None ≡ Some fault = e in absurd (cc))

-- what the search finds is the first state that isn't below their number
pub first_state_fault-first : (text : List ℕ) (fault : BrainFault) (list : List Instr) → AreLines (lines_with_tokens text) list → length list ≤ most_states
    → first_state_fault (length list) (lines_with_tokens text) list ≡ Some fault → HasNoSuchState text fault
first_state_fault-first text fault list are few e =
    let size = AreLines-length (lines_with_tokens text) list are in
    let it = find_state (length (lines_with_tokens text)) (lines_with_tokens text) list fault (ap (λ k. first_state_fault k (lines_with_tokens text) list) (sym size) ∙ e) in
    record {
      before = it.before;
      line = it.line;
      after = it.after;
      lines = it.are;
      read = it.read;
      instruction = it.instruction;
      unread = it.unread;
      good = subst (AreLines (lines_with_tokens text)) it.whole are;
      as_many = it.as_many;
      few = omega (arith, few, size);
      below = it.below;
      state = it.state;
      wrong = it.wrong;
      is = it.is;
    }
