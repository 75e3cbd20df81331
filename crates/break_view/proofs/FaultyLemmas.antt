-- A text has exactly one list of breaks or exactly one fault, and the reading answers it.
use Rattle.std.proofs.Common.{◌≡◌, ◌+◌, ◌≤◌, ℕ, List, [], ◌∷◌, length, Option, Ok, Err, ◌⊎◌, inl, inr, refl, sym, ap, ◌∙◌, subst, arith}
use Rattle.line_tokens.specs.TokenLines.{TokenLine, lines_with_tokens}
use Rattle.line_tokens.specs.Inner.LineByLine.{read_lines, first_line_fault}
use Rattle.line_tokens.proofs.LineFaults.{IsFaithful, first_line_fault-found, first_line_fault-first}
use Rattle.line_tokens.proofs.LineLemmas.{fault_of_judged, judged_err, kept, lines_faulted, lines_read, lines_again}
use Rattle.break_view.specs.declared.breaks.Break.{Break}
use Rattle.break_view.specs.declared.fault.BreakFault.{BreakFault}
use Rattle.break_view.specs.Forms.{BreakLine}
use Rattle.break_view.specs.Positions.{first_fault}
use Rattle.break_view.specs.Positions.Position.{BreakToken}
use Rattle.break_view.specs.Grammar.{most_breaks, AreBreaks, IsBreakText}
use Rattle.break_view.specs.Faulty.{line_fault, IsBreakFault}
use Rattle.break_view.specs.Inner.Verdict.{Judgement, break_reader, read_text}
use Rattle.break_view.proofs.FormsLemmas.{line_spelled, line_again}
use Rattle.break_view.proofs.PositionsLemmas.{line_faulted}

-- the fault of a line's first position at fault
abbrev pub first_of_line : ℕ → List (List ℕ) → Option BreakFault
first_of_line line tokens = first_fault line tokens (BreakToken ∷ [])

-- the lines of breaks are read as their tokens say
pub faithful : IsFaithful break_reader BreakLine first_of_line
faithful = record { said = line_spelled; again = line_again; faulted = line_faulted }

-- what is kept of the breaks of the lines is they
kept_breaks : (lines : List TokenLine) (list : List Break) → AreBreaks lines list → kept break_reader lines list ≡ list
kept_breaks [] [] are = refl
kept_breaks (line ∷ lines) (item ∷ list) are = ap (λ items. item ∷ items) (kept_breaks lines list are.1)
kept_breaks it that are = absurd are

module _ (text : List ℕ) where
  -- the reading stops at the first line at fault
  text_faulted : first_line_fault line_fault 0 (lines_with_tokens text) ≡ fault_of_judged (read_lines break_reader 0 (lines_with_tokens text))
  text_faulted = lines_faulted break_reader BreakLine first_of_line faithful 0 (lines_with_tokens text)

  -- what is read is the list of the text
  pub list_read_of : (list : List Break) → read_text text ≡ Ok list → IsBreakText text list
  unfolding read_text
  list_read_of list e =
      let read = lines_read break_reader BreakLine first_of_line faithful (lines_with_tokens text) 0 list e in
      let few : 0 + length read.items ≤ most_breaks = read.few (omega arith) in
      let same : list ≡ read.items = read.is ∙ kept_breaks (lines_with_tokens text) read.items read.are in
      subst (IsBreakText text) (sym same) (record { lines = read.are; few = omega arith })

  -- the list of the text is read
  pub list_read_again : (list : List Break) → IsBreakText text list → read_text text ≡ Ok list
  unfolding read_text
  list_read_again list b =
      lines_again break_reader BreakLine first_of_line faithful (lines_with_tokens text) 0 list b.lines (let few = b.few in omega arith)
      ∙ ap Ok (kept_breaks (lines_with_tokens text) list b.lines)

  -- the fault that is returned is the text's
  pub fault_read_of : (fault : BreakFault) → read_text text ≡ Err fault → IsBreakFault text fault
  unfolding read_text
  fault_read_of fault e = first_line_fault-first break_reader BreakLine first_of_line faithful text fault (text_faulted ∙ ap fault_of_judged e)

  -- the text's fault is returned
  pub fault_read_again : (fault : BreakFault) → IsBreakFault text fault → read_text text ≡ Err fault
  unfolding read_text
  fault_read_again fault v =
      judged_err (read_lines break_reader 0 (lines_with_tokens text)) fault (sym text_faulted ∙ first_line_fault-found break_reader BreakLine first_of_line faithful text fault v)

  -- a text has a list or a fault
  pub some_answer : ((list : List Break) × IsBreakText text list) ⊎ ((fault : BreakFault) × IsBreakFault text fault)
  some_answer = go (read_text text) refl
    where
      go : (r : Judgement (List Break)) → read_text text ≡ r → ((list : List Break) × IsBreakText text list) ⊎ ((fault : BreakFault) × IsBreakFault text fault)
      go (Ok list) e = inl (list, list_read_of list e)
      go (Err fault) e = inr (fault, fault_read_of fault e)

  pub one_list : (a b : List Break) → IsBreakText text a → IsBreakText text b → a ≡ b
  one_list a b h k = let e : ◌≡◌ {A = Judgement (List Break)} (Ok a) (Ok b) = sym (list_read_again a h) ∙ list_read_again b k in cc

  pub one_fault : (a b : BreakFault) → IsBreakFault text a → IsBreakFault text b → a ≡ b
  one_fault a b h k = let e : ◌≡◌ {A = Judgement (List Break)} (Err a) (Err b) = sym (fault_read_again a h) ∙ fault_read_again b k in cc

  pub never_both : (list : List Break) (fault : BreakFault) → IsBreakText text list → IsBreakFault text fault → ⊥
  never_both list fault h k = let e : ◌≡◌ {A = Judgement (List Break)} (Ok list) (Err fault) = sym (list_read_again list h) ∙ fault_read_again fault k in cc
