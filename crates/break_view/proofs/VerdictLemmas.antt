-- What is returned of a text, and what was judged of it.
use Rattle.std.proofs.Common.{◌≡◌, ℕ, List, [], Err, ◌⊎◌, inl, inr, refl}
use Rattle.ant_base.proofs.AnswerLemmas.{fault-of_fault, fault-of_value}
use Rattle.ant_base.specs.Answers.{IsFaultOr}
use Rattle.ant_base.specs.Lines.{lines_of}
use Rattle.line_tokens.specs.Inner.LineByLine.{reading_from}
use Rattle.line_tokens.proofs.LineLemmas as lines
use Rattle.break_view.specs.declared.breaks.Break.{Break}
use Rattle.break_view.specs.declared.fault.BreakFault.{BreakFault}
use Rattle.break_view.specs.declared.fault.BreakFault.TheVariants.{OutOfMemory}
use Rattle.break_view.specs.Grammar.{IsBreakText}
use Rattle.break_view.specs.Faulty.{IsBreakFault}
use Rattle.break_view.specs.Inner.Verdict.{Judgement, break_reader, read_text}
use Rattle.break_view.specs.Inner.Answered.{FailsAs}
use Rattle.break_view.proofs.FaultyLemmas.{list_read_again, fault_read_of, fault_read_again}

-- the whole text is read from its first line on
pub reading_from-start : (text : List ℕ) → reading_from break_reader [] 1 (lines_of text) ≡ read_text text
unfolding read_text
reading_from-start text = lines.reading_from-start break_reader text

-- a fault that was judged is the one that is returned
pub fails : (fault : BreakFault) (judged : Judgement (List Break)) → judged ≡ Err fault → FailsAs fault judged
fails OutOfMemory judged e = tt
fails it judged e = e

-- a fault that is returned is out of memory, or the one that was judged
told : (fault : BreakFault) (judged : Judgement (List Break)) → FailsAs fault judged → (fault ≡ OutOfMemory) ⊎ (judged ≡ Err fault)
told OutOfMemory judged e = inl refl
told it judged e = inr e

-- the fault that is returned for a text is the text's
pub faults : (text : List ℕ) (fault : BreakFault) → FailsAs fault (read_text text) → IsFaultOr OutOfMemory (IsBreakFault text) fault
faults text fault e = elim (told fault (read_text text) e) [ inl want ↦ inr want | inr is ↦ inl (fault_read_of text fault is) ]

-- if there is a list, it is returned, or memory ran out
pub failed_list : (text : List ℕ) (list : List Break) → IsBreakText text list → (fault : BreakFault) → FailsAs fault (read_text text) → fault ≡ OutOfMemory
failed_list text list b fault e = fault-of_value (read_text text) list OutOfMemory fault (list_read_again text list b) (told fault (read_text text) e)

-- if there is a fault, it is returned, or memory ran out
pub failed_fault : (text : List ℕ) (fault : BreakFault) → IsBreakFault text fault → (answered : BreakFault) → FailsAs answered (read_text text) → (answered ≡ fault) ⊎ (answered ≡ OutOfMemory)
failed_fault text fault b answered e = fault-of_fault (read_text text) fault OutOfMemory answered (fault_read_again text fault b) (told answered (read_text text) e)
