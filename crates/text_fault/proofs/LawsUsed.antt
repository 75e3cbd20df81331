-- The law of texts that are opened, used on one text. A law that says less, or that requires more, doesn't give this.
use Rattle.std.proofs.Common.{◌≡◌, inl, inr, ℕ, List, codes}
use Rattle.ant_asm.specs.Source.{IsSourceOf}
use Rattle.brain_read.specs.Grammar.{IsBrainText}
use Rattle.world_read.specs.Opened.{OpensAs}
use Rattle.text_fault.specs.Opens.{IsProgramOf, IsSaveWithin}
use Rattle.text_fault.specs.Refusals.{IsNoBrain, IsNoProgram, IsNoSave, IsNoWorld}
use Rattle.text_fault.specs.Verdicts.{EveryTextHasOneVerdict, HasOneVerdict}
use Rattle.text_fault.specs.declared.fault.TextFault.{TextFault}

-- the text of a brain of one instruction, which no other kind of text has
abbrev text : List ℕ
text = codes "Drop 0"

-- if the text has a value, that is its only one and it has no fault; if it has no value, it has exactly one fault
record OneOrOther {V : Type 0} (Is : List ℕ → V → Type 0) (Wrong : List ℕ → TextFault → Type 0) : Type 0 where
  value : (one : V) → Is text one → ((other : V) → Is text other → other ≡ one) × ((fault : TextFault) → ¬ Wrong text fault)
  fault : ((one : V) → ¬ Is text one) → (fault : TextFault) × Wrong text fault × ((other : TextFault) → Wrong text other → other ≡ fault)

one_or_other : {V : Type 0} {Is : List ℕ → V → Type 0} {Wrong : List ℕ → TextFault → Type 0} → HasOneVerdict Is Wrong text → OneOrOther Is Wrong
one_or_other it = record {
  value = λ one is. (λ other also. it.one_value other one also is, λ fault wrong. it.never_both one fault is wrong);
  fault = λ none. elim it.some [ inl value ↦ absurd (none value.0 value.1) | inr fault ↦ (fault.0, fault.1, λ other wrong. it.one_fault other fault.0 wrong fault.1) ];
}

-- this holds for the text as a text of each kind
every_text_has_one_verdict_used : EveryTextHasOneVerdict →
    OneOrOther OpensAs IsNoWorld × OneOrOther IsBrainText IsNoBrain × OneOrOther IsProgramOf IsNoProgram × OneOrOther IsSourceOf IsNoProgram × OneOrOther (IsSaveWithin 5) (IsNoSave 5)
every_text_has_one_verdict_used law =
    (one_or_other (law.of_world text), one_or_other (law.of_brain text), one_or_other (law.of_program text), one_or_other (law.of_source text), one_or_other (law.of_save 5 text))
