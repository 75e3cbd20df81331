pub mod Verdicts
mod Worked
mod LawsUsed
