-- Laws of sets of markers, in the task's own words (the task's chemistry).
use Rattle.std.specs.Prelude.{◌≡◌, ◌≢◌, ◌↔◌, ℕ, ◌<◌, true, false}
use Rattle.cell_world.specs.declared.marks.Marks.{Marks}
use Rattle.cell_world.specs.Marks.{IsOfSix, no_marks, has_mark, with_mark, without_mark, has_any_mark}

-- which markers a set has
pub record MarksAreSets : Type 0 where
  -- the empty set has none
  pub empty : (i : ℕ) → has_mark no_marks i ≡ false
  -- there are six markers, from 0 to 5
  pub six : (marks : Marks) (i : ℕ) → has_mark marks i ≡ true → i < 6
  -- with a marker, a set has that one, and the others are unchanged
  pub gained : (marks : Marks) (i : ℕ) → i < 6 → has_mark (with_mark marks i) i ≡ true
  pub beside : (marks : Marks) (i j : ℕ) → i < 6 → j ≢ i → has_mark (with_mark marks i) j ≡ has_mark marks j
  -- without a marker, a set doesn't have that one, and the others are unchanged
  pub lost : (marks : Marks) (i : ℕ) → i < 6 → has_mark (without_mark marks i) i ≡ false
  pub kept : (marks : Marks) (i j : ℕ) → i < 6 → j ≢ i → has_mark (without_mark marks i) j ≡ has_mark marks j
  -- adding or removing a marker of the six leaves only markers of the six
  pub with_six : (marks : Marks) (i : ℕ) → i < 6 → IsOfSix marks → IsOfSix (with_mark marks i)
  pub without_six : (marks : Marks) (i : ℕ) → i < 6 → IsOfSix marks → IsOfSix (without_mark marks i)
  -- two sets of the six with the same markers are equal
  pub one : (marks other : Marks) → IsOfSix marks → IsOfSix other
      → ((i : ℕ) → i < 6 → has_mark marks i ≡ has_mark other i) → marks ≡ other
  -- a set has any marker exactly if it has one of them
  pub any : (marks : Marks) → (has_any_mark marks ≡ true) ↔ ((i : ℕ) × (has_mark marks i ≡ true))
