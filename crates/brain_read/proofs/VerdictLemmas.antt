-- A text that is read line by line.
use Rattle.std.proofs.Common.{◌≡◌, ◌+◌, ℕ, true, false, List, [], ◌∷◌, ◌++◌, length, map, Ok, Err, eqb, ◌⊎◌, inl, inr, refl, ap, ◌∙◌}
use Rattle.std.proofs.lemmas.List.{length-map, map-append}
use Rattle.ant_base.specs.Answers.{IsFaultOr}
use Rattle.brain_read.specs.declared.draft.Draft.{Draft}
use Rattle.brain_read.specs.declared.fault.BrainFault.{BrainFault}
use Rattle.brain_read.specs.declared.fault.BrainFault.TheVariants.{OutOfMemory}
use Rattle.brain_read.specs.declared.instr.Instr.{Instr}
use Rattle.brain_read.specs.declared.read.DraftLine.{DraftLine}
use Rattle.line_tokens.specs.Tokens.{tokens_of, has_token}
use Rattle.brain_read.specs.Drafts.{drafted}
use Rattle.brain_read.specs.Grammar.{IsBrainText}
use Rattle.brain_read.specs.Faulty.{IsBrainFault}
use Rattle.line_tokens.specs.Inner.LineByLine.{judged_line, reading_from}
use Rattle.brain_read.specs.Inner.Verdict.{Judgement, brain_reader, settle_all, settle, read_text}
use Rattle.brain_read.specs.Inner.Answered.{placed_of, FailsAs}
use Rattle.brain_read.proofs.FaultyLemmas.{brain_read_again, fault_read_of, fault_read_again}
use Rattle.ant_base.proofs.AnswerLemmas.{fault-of_fault, fault-of_value}
use Rattle.line_tokens.proofs.LineLemmas as generic

-- A line that was read, and its instruction added.
pub reading_from-more : (drafts : List DraftLine) (number : ℕ) (line : List ℕ) (draft : Draft) (lines : List (List ℕ)) → has_token (tokens_of line) ≡ true → judged_line brain_reader (length drafts) number (tokens_of line) ≡ Ok (drafted draft)
    → reading_from brain_reader (map placed_of (drafts ++ record { line = number; draft = draft } ∷ [])) (number + 1) lines ≡ reading_from brain_reader (map placed_of drafts) number (line ∷ lines)
reading_from-more drafts number line draft lines has read =
    let front = map placed_of drafts in
    let size : length front ≡ length drafts = length-map drafts placed_of in
    ap (λ xs. reading_from brain_reader xs (number + 1) lines) (map-append placed_of drafts (record { line = number; draft = draft } ∷ []))
    ∙ generic.reading_from-more brain_reader front number line (drafted draft) lines has (ap (λ n. judged_line brain_reader n number (tokens_of line)) size ∙ read)

-- A line at fault.
pub reading_from-fault : (drafts : List DraftLine) (number : ℕ) (line : List ℕ) (fault : BrainFault) (lines : List (List ℕ)) → has_token (tokens_of line) ≡ true → judged_line brain_reader (length drafts) number (tokens_of line) ≡ Err fault
    → reading_from brain_reader (map placed_of drafts) number (line ∷ lines) ≡ Err fault
reading_from-fault drafts number line fault lines has failed =
    let size : length (map placed_of drafts) ≡ length drafts = length-map drafts placed_of in
    generic.reading_from-fault brain_reader (map placed_of drafts) number line fault lines has (ap (λ n. judged_line brain_reader n number (tokens_of line)) size ∙ failed)

-- a fault that was judged is the one that is returned
pub fails : {A : Type 0} (fault : BrainFault) (judged : Judgement A) → judged ≡ Err fault → FailsAs fault judged
fails OutOfMemory judged e = tt
fails it judged e = e

-- a fault that is returned is out of memory, or the one that was judged
told : {A : Type 0} (fault : BrainFault) (judged : Judgement A) → FailsAs fault judged → (fault ≡ OutOfMemory) ⊎ (judged ≡ Err fault)
told OutOfMemory judged e = inl refl
told it judged e = inr e

-- the fault that is returned for a text is the text's
pub faults : (text : List ℕ) (fault : BrainFault) → FailsAs fault (read_text text) → IsFaultOr OutOfMemory (IsBrainFault text) fault
faults text fault e = elim (told fault (read_text text) e) [ inl want ↦ inr want | inr is ↦ inl (fault_read_of text fault is) ]

-- some drafts are settled against their number
pub settle_of : (drafts : List DraftLine) → eqb (length drafts) 0 ≡ false → settle (map placed_of drafts) ≡ settle_all (length drafts) (map placed_of drafts)
settle_of [] some = (let never : true ≡ false = some in absurd (cc))
settle_of (draft ∷ drafts) some = ap (λ n. settle_all n (map placed_of (draft ∷ drafts))) (length-map (draft ∷ drafts) placed_of)

-- if there is a brain, it is returned, or memory ran out
pub failed_brain : (text : List ℕ) (brain : List Instr) → IsBrainText text brain → (fault : BrainFault) → FailsAs fault (read_text text) → fault ≡ OutOfMemory
failed_brain text brain b fault e = fault-of_value (read_text text) brain OutOfMemory fault (brain_read_again text brain b) (told fault (read_text text) e)

-- if there is a fault, it is returned, or memory ran out
pub failed_fault : (text : List ℕ) (fault : BrainFault) → IsBrainFault text fault → (answered : BrainFault) → FailsAs answered (read_text text) → (answered ≡ fault) ⊎ (answered ≡ OutOfMemory)
failed_fault text fault b answered e = fault-of_fault (read_text text) fault OutOfMemory answered (fault_read_again text fault b) (told answered (read_text text) e)
