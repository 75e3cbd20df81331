-- Every text is that of one save or has one fault.
use Rattle.std.proofs.Common.{◌≡◌, ◌⊎◌, ℕ, List, Result, Ok, Err, IfOk, IfErr, refl, sym, ap, subst, inl, inr}
use Rattle.ant_base.specs.Answers.{AnswersFault, AnswersValue, IsFaultOr}
use Rattle.match_save.specs.declared.fault.SaveFault.{SaveFault}
use Rattle.match_save.specs.declared.fault.SaveFault.TheVariants.{BadLine, BadState, OutOfMemory}
use Rattle.match_save.specs.Draft.{Draft}
use Rattle.match_save.specs.Faulty.{IsSaveFault}
use Rattle.match_save.specs.Laws.{EveryTextHasOneVerdict}
use Rattle.match_save.specs.Saved.{IsNoState, IsSaveText, SavedValue, draft_of, saved_of}
use Rattle.match_save.specs.State.{IsState}
use Rattle.match_save.specs.Verdict.{IsDraftText}
use Rattle.match_save.specs.Inner.Answered.{FaultTold}
use Rattle.match_save.specs.Inner.Judged.{Judges, ReadsSave}
use Rattle.match_save.specs.Inner.Reading.{draft_of_text}
use Rattle.match_save.proofs.Judgement.{dec_state}
use Rattle.match_save.proofs.PlainLines.{save-lines, save-text}
use Rattle.match_save.proofs.SavedLaws.{one_save, some_save}
use Rattle.match_save.proofs.Verdicts.{never_both, one_draft, one_line, read-known, refused-known}

-- a text of a state is that of its save
pub save-of-draft : (text : List ℕ) (d : Draft) → IsDraftText text d → IsState d → IsSaveText text (saved_of d)
save-of-draft text d is state = save-text text (saved_of d) (some_save text d is state)

pub same_save : (text : List ℕ) (s other : SavedValue) → IsSaveText text s → IsSaveText text other → s ≡ other
same_save text s other is_s is_other = one_save text s other (save-lines text s is_s) (save-lines text other is_other)

-- lines of no state are those of no save
no_state : (text : List ℕ) (s : SavedValue) → IsSaveText text s → IsNoState text → ⊥
no_state text s is bad =
    let lines = save-lines text s is in
    bad.wrong (subst IsState (one_draft text (draft_of s) bad.draft lines.are bad.is) is.saved.state)

pub save-or-fault : (text : List ℕ) (s : SavedValue) (fault : SaveFault) → IsSaveText text s → IsSaveFault text fault → ⊥
save-or-fault text s (BadLine line) is bad = never_both text (draft_of s) line (save-lines text s is).are bad
save-or-fault text s BadState is bad = no_state text s is bad
save-or-fault text s OutOfMemory is bad = bad

pub same_fault : (text : List ℕ) (fault other : SaveFault) → IsSaveFault text fault → IsSaveFault text other → fault ≡ other
same_fault text (BadLine line) (BadLine another) is bad = ap BadLine (one_line text line another is bad)
same_fault text (BadLine line) BadState is bad = absurd (never_both text bad.draft line bad.is is)
same_fault text BadState (BadLine line) is bad = absurd (never_both text is.draft line is.is bad)
same_fault text BadState BadState is bad = refl
same_fault text OutOfMemory other is bad = absurd is
same_fault text it other is bad = absurd bad

some_verdict : (text : List ℕ) → ((s : SavedValue) × IsSaveText text s) ⊎ ((fault : SaveFault) × IsSaveFault text fault)
some_verdict text = go (draft_of_text text) refl where
  state : (d : Draft) → IsDraftText text d → Dec (IsState d) → ((s : SavedValue) × IsSaveText text s) ⊎ ((fault : SaveFault) × IsSaveFault text fault)
  state d is (yes holds) = inl (saved_of d, save-of-draft text d is holds)
  state d is (no wrong) = inr (BadState, record { draft = d; is = is; wrong = wrong })

  go : (told : Result Draft ℕ) → draft_of_text text ≡ told → ((s : SavedValue) × IsSaveText text s) ⊎ ((fault : SaveFault) × IsSaveFault text fault)
  go (Ok d) is = (let known = read-known text d is in state d known (dec_state d known.in_form))
  go (Err k) is = inr (BadLine k, refused-known text k is)

pub every_verdict : EveryTextHasOneVerdict
every_verdict = record { some = some_verdict; one_save = same_save; one_fault = same_fault; never_both = save-or-fault }

-- a fault that was judged is the text's
pub fault-of : (text : List ℕ) (fault : SaveFault) → FaultTold (draft_of_text text) fault → IsFaultOr OutOfMemory (IsSaveFault text) fault
fault-of text (BadLine line) told = inl (refused-known text line told)
fault-of text BadState told = absurd told
fault-of text OutOfMemory told = inr refl

-- what was judged of lines is what the text is
pub judged-is : (text : List ℕ) (d : Draft) (result : Result SavedValue SaveFault) → IsDraftText text d → Judges d result → ReadsSave text result
judged-is text d (Ok saved) is judged = subst (IsSaveText text) (sym judged.1) (save-of-draft text d is judged.0)
judged-is text d (Err (BadLine line)) is judged = absurd judged
judged-is text d (Err BadState) is judged = inl (record { draft = d; is = is; wrong = judged })
judged-is text d (Err OutOfMemory) is judged = inr refl

-- a save that is returned is the text's
pub reads-saved : (text : List ℕ) (result : Result SavedValue SaveFault) → ReadsSave text result → IfOk result (λ saved. IsSaveText text saved)
reads-saved text (Ok saved) is = is
reads-saved text (Err fault) is = tt

pub reads-fault : (text : List ℕ) (result : Result SavedValue SaveFault) → ReadsSave text result → IfErr result (IsFaultOr OutOfMemory (IsSaveFault text))
reads-fault text (Ok saved) is = tt
reads-fault text (Err fault) is = is

-- and no other
pub every-saved : (text : List ℕ) (result : Result SavedValue SaveFault) → ReadsSave text result → (s : SavedValue) → IsSaveText text s → AnswersValue OutOfMemory result s
every-saved text (Ok answered) is s other = same_save text answered s is other
every-saved text (Err fault) (inl bad) s other = absurd (save-or-fault text s fault other bad)
every-saved text (Err fault) (inr want) s other = want

pub every-fault : (text : List ℕ) (result : Result SavedValue SaveFault) → ReadsSave text result → (fault : SaveFault) → IsSaveFault text fault → AnswersFault OutOfMemory result fault
every-fault text (Ok answered) is fault bad = save-or-fault text answered fault is bad
every-fault text (Err answered) (inl is) fault bad = inl (same_fault text answered fault is bad)
every-fault text (Err answered) (inr want) fault bad = inr want
