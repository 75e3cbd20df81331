use Rattle.std.proofs.Common.{◌≡◌, true, refl}
use Rattle.std.specs.Prelude.{◌↔◌}
use Rattle.cell_world.specs.declared.part.Part.TheVariants.{Who, Mind, Load, Food, RedMarks}
use Rattle.cell_world.proofs.PartAnswers.{AgreeIn, both_hold, one_fails, six_hold}
use Rattle.cell_world.proofs.cell.Cell.agrees.Goals.{then-agrees_in, else-agrees_in, then-agrees_in-2, else-agrees_in-2, then-agrees_in-3, else-agrees_in-3, then-agrees_in-4, else-agrees_in-4}
use Rattle.cell_world.proofs.cell.Cell.agrees.Goals as goal

pub returns-then-agrees_in-5 : goal.returns-then-agrees_in-5
returns-then-agrees_in-5 c =
    let it0 : (c.if-agrees_in.value ≡ true) ↔ (AgreeIn c.args.parts c.args.self.now c.args.other.now Who × AgreeIn c.args.parts c.args.self.now c.args.other.now Mind) = elim c.if-agrees_in.branch [
      | then-agrees_in w ↦ both_hold w.if-agrees_in.true c.agrees_in.ensures w.agrees_in-then-agrees_in.ensures w.value-is
      | else-agrees_in w ↦ one_fails w.if-agrees_in.false c.agrees_in.ensures w.value-is
    ] in
    let it1 : (c.if-agrees_in-2.value ≡ true) ↔ ((AgreeIn c.args.parts c.args.self.now c.args.other.now Who × AgreeIn c.args.parts c.args.self.now c.args.other.now Mind) × AgreeIn c.args.parts c.args.self.now c.args.other.now Load) = elim c.if-agrees_in-2.branch [
      | then-agrees_in-2 w ↦ both_hold w.if-agrees_in-2.true it0 w.agrees_in-then-agrees_in-2.ensures w.value-is
      | else-agrees_in-2 w ↦ one_fails w.if-agrees_in-2.false it0 w.value-is
    ] in
    let it2 : (c.if-agrees_in-3.value ≡ true) ↔ (((AgreeIn c.args.parts c.args.self.now c.args.other.now Who × AgreeIn c.args.parts c.args.self.now c.args.other.now Mind) × AgreeIn c.args.parts c.args.self.now c.args.other.now Load) × AgreeIn c.args.parts c.args.self.now c.args.other.now Food) = elim c.if-agrees_in-3.branch [
      | then-agrees_in-3 w ↦ both_hold w.if-agrees_in-3.true it1 w.agrees_in-then-agrees_in-3.ensures w.value-is
      | else-agrees_in-3 w ↦ one_fails w.if-agrees_in-3.false it1 w.value-is
    ] in
    let it3 : (c.if-agrees_in-4.value ≡ true) ↔ ((((AgreeIn c.args.parts c.args.self.now c.args.other.now Who × AgreeIn c.args.parts c.args.self.now c.args.other.now Mind) × AgreeIn c.args.parts c.args.self.now c.args.other.now Load) × AgreeIn c.args.parts c.args.self.now c.args.other.now Food) × AgreeIn c.args.parts c.args.self.now c.args.other.now RedMarks) = elim c.if-agrees_in-4.branch [
      | then-agrees_in-4 w ↦ both_hold w.if-agrees_in-4.true it2 w.agrees_in-then-agrees_in-4.ensures w.value-is
      | else-agrees_in-4 w ↦ one_fails w.if-agrees_in-4.false it2 w.value-is
    ] in
    six_hold (both_hold c.if-agrees_in-5.true it3 c.agrees_in-then-agrees_in-5.ensures refl)

pub returns-else-agrees_in-5 : goal.returns-else-agrees_in-5
returns-else-agrees_in-5 c =
    let it0 : (c.if-agrees_in.value ≡ true) ↔ (AgreeIn c.args.parts c.args.self.now c.args.other.now Who × AgreeIn c.args.parts c.args.self.now c.args.other.now Mind) = elim c.if-agrees_in.branch [
      | then-agrees_in w ↦ both_hold w.if-agrees_in.true c.agrees_in.ensures w.agrees_in-then-agrees_in.ensures w.value-is
      | else-agrees_in w ↦ one_fails w.if-agrees_in.false c.agrees_in.ensures w.value-is
    ] in
    let it1 : (c.if-agrees_in-2.value ≡ true) ↔ ((AgreeIn c.args.parts c.args.self.now c.args.other.now Who × AgreeIn c.args.parts c.args.self.now c.args.other.now Mind) × AgreeIn c.args.parts c.args.self.now c.args.other.now Load) = elim c.if-agrees_in-2.branch [
      | then-agrees_in-2 w ↦ both_hold w.if-agrees_in-2.true it0 w.agrees_in-then-agrees_in-2.ensures w.value-is
      | else-agrees_in-2 w ↦ one_fails w.if-agrees_in-2.false it0 w.value-is
    ] in
    let it2 : (c.if-agrees_in-3.value ≡ true) ↔ (((AgreeIn c.args.parts c.args.self.now c.args.other.now Who × AgreeIn c.args.parts c.args.self.now c.args.other.now Mind) × AgreeIn c.args.parts c.args.self.now c.args.other.now Load) × AgreeIn c.args.parts c.args.self.now c.args.other.now Food) = elim c.if-agrees_in-3.branch [
      | then-agrees_in-3 w ↦ both_hold w.if-agrees_in-3.true it1 w.agrees_in-then-agrees_in-3.ensures w.value-is
      | else-agrees_in-3 w ↦ one_fails w.if-agrees_in-3.false it1 w.value-is
    ] in
    let it3 : (c.if-agrees_in-4.value ≡ true) ↔ ((((AgreeIn c.args.parts c.args.self.now c.args.other.now Who × AgreeIn c.args.parts c.args.self.now c.args.other.now Mind) × AgreeIn c.args.parts c.args.self.now c.args.other.now Load) × AgreeIn c.args.parts c.args.self.now c.args.other.now Food) × AgreeIn c.args.parts c.args.self.now c.args.other.now RedMarks) = elim c.if-agrees_in-4.branch [
      | then-agrees_in-4 w ↦ both_hold w.if-agrees_in-4.true it2 w.agrees_in-then-agrees_in-4.ensures w.value-is
      | else-agrees_in-4 w ↦ one_fails w.if-agrees_in-4.false it2 w.value-is
    ] in
    six_hold (one_fails c.if-agrees_in-5.false it3 refl)
