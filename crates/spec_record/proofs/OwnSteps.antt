-- What an ant makes of its own cell and of the one it goes to, in two worlds at once.
use Rattle.std.proofs.Common.{◌≡◌, ℕ, ◌+◌, Bool, true, false, Option, Some, None, option_map, refl, sym, ◌∙◌, ap, ap₂, subst}
use Rattle.std.proofs.lemmas.Bool.{false≢true, true≢false}
use Rattle.cell_world.specs.declared.ant.Ant.{Ant}
use Rattle.cell_world.specs.declared.cell.Cell.{Cell}
use Rattle.cell_world.specs.declared.marks.Marks.{Marks}
use Rattle.cell_world.specs.declared.part.Part.{Part}
use Rattle.cell_world.specs.declared.part.Part.TheVariants.{Who, Mind, Load, Food, RedMarks, BlackMarks}
use Rattle.cell_world.specs.Cell.{one_if}
use Rattle.cell_world.specs.declared.part.Parts.{Parts}
use Rattle.cell_world.specs.Parts.{Alike, CanPatch, IsSameAnt, has_part, identity_of, only, posture_of, union}
use Rattle.ant_turn.specs.Kills.{after_kill, corpse_food}
use Rattle.ant_turn.specs.Sheet.{Sheet}
use Rattle.ant_turn.specs.Turn.{left_by_ant, with_ant}
use Rattle.spec_record.specs.Reads.{ant_and_food, load_and_food, whole_ant}
use Rattle.spec_record.proofs.Steps.{CellStep}

-- what a step owes of one part: it comes out alike where it is named, and stays as it was where it isn't
abbrev Owes : Bool → Part → (c d c1 d1 : Cell) → Type 0
Owes true k c d c1 d1 = Alike k c1 d1
Owes false k c d c1 d1 = Alike k c1 c × Alike k d1 d

paid : (named : Bool) (k : Part) (c d c1 d1 : Cell) → Owes named k c d c1 d1 → named ≡ true → Alike k c1 d1
paid true k c d c1 d1 owed e = owed
paid false k c d c1 d1 owed e = absurd (false≢true e)

kept : (named : Bool) (k : Part) (c d c1 d1 : Cell) → Owes named k c d c1 d1 → named ≡ false → Alike k c1 c × Alike k d1 d
kept true k c d c1 d1 owed e = absurd (true≢false e)
kept false k c d c1 d1 owed e = owed

-- ground and hill stay, and what is owed of each part is paid
record IsPaid (parts : Parts) (c d c1 d1 : Cell) : Type 0 where
  who : Owes parts.who Who c d c1 d1
  mind : Owes parts.mind Mind c d c1 d1
  load : Owes parts.load Load c d c1 d1
  food : Owes parts.food Food c d c1 d1
  red : Owes parts.red_marks RedMarks c d c1 d1
  black : Owes parts.black_marks BlackMarks c d c1 d1
  kind : d1.rocky ≡ d.rocky
  hill : d1.hill ≡ d.hill

each_part : {parts : Parts} {c d c1 d1 : Cell} → IsPaid parts c d c1 d1 → (k : Part) → Owes (has_part parts k) k c d c1 d1
each_part all Who = all.who
each_part all Mind = all.mind
each_part all Load = all.load
each_part all Food = all.food
each_part all RedMarks = all.red
each_part all BlackMarks = all.black

-- then it is a step in these parts
CellStep-parts : {parts : Parts} {c d c1 d1 : Cell} → IsPaid parts c d c1 d1 → CanPatch d c1 parts → CellStep parts c d c1 d1
CellStep-parts {parts} {c} {d} {c1} {d1} all can = record {
  named = λ k named. paid (has_part parts k) k c d c1 d1 (each_part all k) named;
  base_others = λ k other. (kept (has_part parts k) k c d c1 d1 (each_part all k) other).0;
  now_others = λ k other. (kept (has_part parts k) k c d c1 d1 (each_part all k) other).1;
  same_kind = all.kind;
  same_hill = all.hill;
  can = can;
}

-- an ant that stays: a in the base and b in now, of one identity, which become a1 and b1
module _ (c d : Cell) (a b a1 b1 : Ant) (holds_c : c.ant ≡ Some a) (holds_d : d.ant ≡ Some b) (same : identity_of b ≡ identity_of a) (a_who : identity_of a1 ≡ identity_of a) (b_who : identity_of b1 ≡ identity_of b) (posture : posture_of a1 ≡ posture_of b1) where
  -- both stay who they are
  stays_a : Some (identity_of a1) ≡ option_map identity_of c.ant
  stays_a = ap Some a_who ∙ sym (ap (option_map identity_of) holds_c)

  stays_b : Some (identity_of b1) ≡ option_map identity_of d.ant
  stays_b = ap Some b_who ∙ sym (ap (option_map identity_of) holds_d)

  same_there : IsSameAnt d.ant (Some a1)
  same_there = subst (λ o. IsSameAnt o (Some a1)) (sym holds_d) (same ∙ sym a_who)

  -- so what changes of them, except for who they are, can be patched
  can_patch : (parts : Parts) (c1 : Cell) → c1.ant ≡ Some a1 → parts.who ≡ false → CanPatch d c1 parts
  can_patch parts c1 holds nobody = record {
    mind = λ e. absurd (false≢true (sym nobody ∙ e));
    load = λ e. absurd (false≢true (sym nobody ∙ e));
    same_ant = λ _ _. subst (IsSameAnt d.ant) (sym holds) same_there;
  }

  -- what they carry, if it stays
  module _ (a_load : a1.laden ≡ a.laden) (b_load : b1.laden ≡ b.laden) where
    carries_a : Some a1.laden ≡ option_map (λ ant. ant.laden) c.ant
    carries_a = ap Some a_load ∙ sym (ap (option_map (λ ant. ant.laden)) holds_c)

    carries_b : Some b1.laden ≡ option_map (λ ant. ant.laden) d.ant
    carries_b = ap Some b_load ∙ sym (ap (option_map (λ ant. ant.laden)) holds_d)

    -- of which the posture alone changes
    pub mind_step : CellStep (only Mind) c d (with_ant c a1) (with_ant d b1)
    mind_step = CellStep-parts (record { who = (stays_a, stays_b); mind = ap Some posture; load = (carries_a, carries_b); food = (refl, refl); red = (refl, refl); black = (refl, refl); kind = refl; hill = refl })
        (can_patch (only Mind) (with_ant c a1) refl refl)

    -- and the red markers
    pub red_step : (m n : Marks) → m ≡ n → CellStep (union (only Mind) (only RedMarks)) c d (with_ant (record c { red = m }) a1) (with_ant (record d { red = n }) b1)
    red_step m n marks = CellStep-parts (record { who = (stays_a, stays_b); mind = ap Some posture; load = (carries_a, carries_b); food = (refl, refl); red = marks; black = (refl, refl); kind = refl; hill = refl })
        (can_patch (union (only Mind) (only RedMarks)) (with_ant (record c { red = m }) a1) refl refl)

    -- or the black ones
    pub black_step : (m n : Marks) → m ≡ n → CellStep (union (only Mind) (only BlackMarks)) c d (with_ant (record c { black = m }) a1) (with_ant (record d { black = n }) b1)
    black_step m n marks = CellStep-parts (record { who = (stays_a, stays_b); mind = ap Some posture; load = (carries_a, carries_b); food = (refl, refl); red = (refl, refl); black = marks; kind = refl; hill = refl })
        (can_patch (union (only Mind) (only BlackMarks)) (with_ant (record c { black = m }) a1) refl refl)

  -- of which the posture, the load and the food of the cell change
  pub food_step : (f g : ℕ) → f ≡ g → a1.laden ≡ b1.laden → CellStep (union (only Mind) load_and_food) c d (record c { food = f; ant = Some a1 }) (record d { food = g; ant = Some b1 })
  food_step f g food load = CellStep-parts (record { who = (stays_a, stays_b); mind = ap Some posture; load = ap Some load; food = food; red = (refl, refl); black = (refl, refl); kind = refl; hill = refl })
      (can_patch (union (only Mind) load_and_food) (record c { food = f; ant = Some a1 }) refl refl)

-- a patch with who is there names all of an ant
whole_can : (d c1 : Cell) (parts : Parts) → parts.who ≡ true → parts.mind ≡ true → parts.load ≡ true → CanPatch d c1 parts
whole_can d c1 parts who mind load = record { mind = λ _. mind; load = λ _. load; same_ant = λ e _. absurd (true≢false (sym who ∙ e)) }

-- the cell that an ant leaves
pub left_step : (c d : Cell) → CellStep (union (only Mind) whole_ant) c d (left_by_ant c) (left_by_ant d)
left_step c d = CellStep-parts (record { who = refl; mind = refl; load = refl; food = (refl, refl); red = (refl, refl); black = (refl, refl); kind = refl; hill = refl }) (whole_can d (left_by_ant c) (union (only Mind) whole_ant) refl refl refl)

-- the cell on which it arrives
pub arrived_step : (c d : Cell) (ant : Ant) → CellStep whole_ant c d (with_ant c ant) (with_ant d ant)
arrived_step c d ant = CellStep-parts (record { who = refl; mind = refl; load = refl; food = (refl, refl); red = (refl, refl); black = (refl, refl); kind = refl; hill = refl }) (whole_can d (with_ant c ant) whole_ant refl refl refl)

-- the food that an ant of a load leaves
left_with : Sheet → Option Bool → ℕ
left_with sheet None = 0
left_with sheet (Some laden) = sheet.corpse + one_if laden

corpse_food-load : (sheet : Sheet) (o : Option Ant) → corpse_food sheet o ≡ left_with sheet (option_map (λ ant. ant.laden) o)
unfolding left_with
corpse_food-load sheet None = refl
corpse_food-load sheet (Some ant) = refl

-- the cell of a killed ant
pub kill_step : (sheet : Sheet) (c d : Cell) → Alike Load c d → Alike Food c d → CellStep ant_and_food c d (after_kill sheet c) (after_kill sheet d)
kill_step sheet c d load food =
    let fed = ap₂ (λ m n. m + n) food (corpse_food-load sheet c.ant ∙ ap (left_with sheet) load ∙ sym (corpse_food-load sheet d.ant)) in
    CellStep-parts (record { who = refl; mind = refl; load = refl; food = fed; red = (refl, refl); black = (refl, refl); kind = refl; hill = refl }) (whole_can d (after_kill sheet c) ant_and_food refl refl refl)
