-- Forms of lines: spelled, read, judged.
pub mod FormsLemmas
pub mod JudgementLemmas
pub mod CanonicalLemmas
pub mod InstructionLemmas
pub mod SoundnessLemmas
-- The fault of a text, and that it has one verdict.
pub mod FirstFaults
pub mod FaultyLemmas
pub mod MemoryFaults
pub mod VerdictLemmas
-- Worked values.
pub mod Worked
pub mod WorkedInstructions
pub mod WorkedTexts
-- Each law, used.
pub mod LawsUsed
