-- Cells and jobs that go to workers.
pub mod CellLemmas
pub mod JobLemmas
-- An answer that agrees, and what a window picks of all.
pub mod AgreementLemmas
pub mod AgreementWorked
pub mod PickLemmas
pub mod WindowLemmas
