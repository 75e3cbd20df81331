-- The bytes of a file of each kind: they are read in one way or refused in one way, and never both.
use Rattle.std.proofs.Common.{◌≡◌, ◌⊎◌, inl, inr, ℕ, ◌≤◌, true, false, List, length, Result, Ok, Err, refl, sym, ap, subst, arith}
use Rattle.ant_asm.specs.declared.assembly.Assembled.{Assembled}
use Rattle.ant_base.specs.Answers.{IsFaultOr}
use Rattle.ant_base.specs.Shelf.{longest}
use Rattle.break_view.proofs.FaultyLemmas as break_whole
use Rattle.break_view.specs.Faulty.{IsBreakFault}
use Rattle.break_view.specs.declared.fault.BreakFault.{BreakFault}
use Rattle.break_view.specs.declared.fault.BreakFault.TheVariants as breaks
use Rattle.text_fault.proofs.Verdicts.{brain_verdict, program_verdict, save_verdict, source_verdict, world_verdict}
use Rattle.text_fault.specs.Opens.{Opens}
use Rattle.text_fault.specs.Refusals.IsRefusal.{Bad, Long}
use Rattle.text_fault.specs.declared.fault.TextFault.{TextFault}
use Rattle.text_fault.specs.declared.stop.TextStop.{TextStop}
use Rattle.text_fault.specs.declared.stop.TextStop.TheVariants as text
use Rattle.ant_commands.specs.declared.stop.CommandStop.{CommandStop}
use Rattle.ant_commands.specs.declared.stop.FileFault.{FileFault}
use Rattle.ant_commands.specs.declared.stop.FileFault.TheVariants.{Breaks, Text}
use Rattle.ant_commands.specs.Files.{FileContent, FileKind, Reads, Refuses}
use Rattle.ant_commands.specs.Files.FileContent.{WorldContent, BrainContent, BreakContent, LabelledContent, SourceContent, SaveContent}
use Rattle.ant_commands.specs.Files.FileKind.{WorldFile, BrainFile, BreakFile, LabelledFile, SaveFile}
use Rattle.ant_commands.specs.Inner.Reading.{IsNamed, ReadsText, TextStops, break_reason}

-- bytes are never both read and refused
pub never_both : (kind : FileKind) (bytes : List ℕ) (content : FileContent) (fault : FileFault) → Reads kind bytes content → Refuses kind bytes fault → ⊥
never_both WorldFile bytes (WorldContent grid) (Text fault) reads refuses = (world_verdict bytes).never_both grid fault reads refuses
never_both BrainFile bytes (BrainContent list) (Text fault) reads refuses = (brain_verdict bytes).never_both list fault reads refuses
never_both BreakFile bytes (BreakContent items) (Breaks fault) reads refuses = break_whole.never_both bytes items fault reads refuses
never_both (LabelledFile false) bytes (LabelledContent brain places) (Text fault) reads refuses = (program_verdict bytes).never_both (record { brain = brain; places = places }) fault reads refuses
never_both (LabelledFile true) bytes (SourceContent source) (Text fault) reads refuses = (source_verdict bytes).never_both source fault reads refuses
never_both (SaveFile rounds) bytes (SaveContent saved) (Text fault) reads refuses = (save_verdict rounds bytes).never_both saved fault reads refuses
never_both kind bytes content fault reads refuses = assumption

-- bytes are read in one way
pub one_reading : (kind : FileKind) (bytes : List ℕ) (a b : FileContent) → Reads kind bytes a → Reads kind bytes b → a ≡ b
one_reading WorldFile bytes (WorldContent a) (WorldContent b) first second = ap WorldContent ((world_verdict bytes).one_value a b first second)
one_reading BrainFile bytes (BrainContent a) (BrainContent b) first second = ap BrainContent ((brain_verdict bytes).one_value a b first second)
one_reading BreakFile bytes (BreakContent a) (BreakContent b) first second = ap BreakContent (break_whole.one_list bytes a b first second)
one_reading (LabelledFile false) bytes (LabelledContent a places) (LabelledContent b others) first second =
    ap (λ (made : Assembled). LabelledContent made.brain made.places) ((program_verdict bytes).one_value (record { brain = a; places = places }) (record { brain = b; places = others }) first second)
one_reading (LabelledFile true) bytes (SourceContent a) (SourceContent b) first second = ap SourceContent ((source_verdict bytes).one_value a b first second)
one_reading (SaveFile rounds) bytes (SaveContent a) (SaveContent b) first second = ap SaveContent ((save_verdict rounds bytes).one_value a b first second)
one_reading kind bytes a b first second = absurd assumption

-- bytes are refused in one way
pub one_refusal : (kind : FileKind) (bytes : List ℕ) (a b : FileFault) → Refuses kind bytes a → Refuses kind bytes b → a ≡ b
one_refusal WorldFile bytes (Text a) (Text b) first second = ap Text ((world_verdict bytes).one_fault a b first second)
one_refusal BrainFile bytes (Text a) (Text b) first second = ap Text ((brain_verdict bytes).one_fault a b first second)
one_refusal BreakFile bytes (Breaks a) (Breaks b) first second = ap Breaks (break_whole.one_fault bytes a b first second)
one_refusal (LabelledFile labels) bytes (Text a) (Text b) first second = ap Text ((program_verdict bytes).one_fault a b first second)
one_refusal (SaveFile rounds) bytes (Text a) (Text b) first second = ap Text ((save_verdict rounds bytes).one_fault a b first second)
one_refusal kind bytes a b first second = absurd assumption

-- bytes are read or refused
pub some_reading : (kind : FileKind) (bytes : List ℕ) → ((content : FileContent) × Reads kind bytes content) ⊎ ((fault : FileFault) × Refuses kind bytes fault)
some_reading WorldFile bytes = elim (world_verdict bytes).some [ inl is ↦ inl (WorldContent is.0, is.1) | inr wrong ↦ inr (Text wrong.0, wrong.1) ]
some_reading BrainFile bytes = elim (brain_verdict bytes).some [ inl is ↦ inl (BrainContent is.0, is.1) | inr wrong ↦ inr (Text wrong.0, wrong.1) ]
some_reading BreakFile bytes = elim (break_whole.some_answer bytes) [ inl is ↦ inl (BreakContent is.0, is.1) | inr wrong ↦ inr (Breaks wrong.0, wrong.1) ]
some_reading (LabelledFile false) bytes = elim (program_verdict bytes).some [ inl is ↦ inl (LabelledContent is.0.brain is.0.places, is.1) | inr wrong ↦ inr (Text wrong.0, wrong.1) ]
some_reading (LabelledFile true) bytes = elim (source_verdict bytes).some [ inl is ↦ inl (SourceContent is.0, is.1) | inr wrong ↦ inr (Text wrong.0, wrong.1) ]
some_reading (SaveFile rounds) bytes = elim (save_verdict rounds bytes).some [ inl is ↦ inl (SaveContent is.0, is.1) | inr wrong ↦ inr (Text wrong.0, wrong.1) ]

-- bytes that a shelf gave are read as their text is opened
pub text_read : {V : Type 0} (kind : FileKind) (content_of : V → FileContent) (Is : List ℕ → V → Type 0) (Wrong : List ℕ → TextFault → Type 0) (bytes name : List ℕ) (opened : Result V TextStop) (result : Result V CommandStop)
    → length bytes ≤ longest → Opens Is Wrong bytes opened → IsNamed name opened result → ((value : V) → Is bytes value → Reads kind bytes (content_of value))
    → ((fault : TextFault) → Wrong bytes fault → Refuses kind bytes (Text fault)) → ReadsText content_of kind bytes name result
text_read kind content_of Is Wrong bytes name (Ok value) (Ok other) short opens named reads refuses = reads other (rw named opens.is)
text_read kind content_of Is Wrong bytes name (Ok value) (Err why) short opens named reads refuses = absurd named
text_read kind content_of Is Wrong bytes name (Err stop) (Ok other) short opens named reads refuses = absurd named
text_read kind content_of Is Wrong bytes name (Err text.OutOfMemory) (Err why) short opens named reads refuses = subst (TextStops kind bytes name) (sym named) tt
text_read kind content_of Is Wrong bytes name (Err (text.Refused fault)) (Err why) short (Long more long) named reads refuses = absurd (omega (arith, more, short))
text_read kind content_of Is Wrong bytes name (Err (text.Refused fault)) (Err why) short (Bad also wrong) named reads refuses = subst (TextStops kind bytes name) (sym named) (refl, refuses fault wrong)

-- the fault of a text of breaks stops the reading of its file
pub break_stops : (name bytes : List ℕ) (fault : BreakFault) → IsFaultOr breaks.OutOfMemory (IsBreakFault bytes) fault → TextStops BreakFile bytes name (break_reason name fault)
break_stops name bytes breaks.OutOfMemory is = tt
break_stops name bytes fault (inl is) = (refl, is)
break_stops name bytes fault (inr want) = absurd (cc)
