use Rattle.std.proofs.Common.{◌<◌, arith}
use Rattle.cell_world.specs.declared.part.Part.{Part}
use Rattle.cell_world.specs.declared.part.Part.TheVariants.{Mind, Load, Food, RedMarks, BlackMarks}
use Rattle.cell_world.specs.Parts.{place_of_part}
use Rattle.cell_world.proofs.PartAnswers.{AgreeIn, each_part, first_differs}
use Rattle.cell_world.proofs.cell.Cell.difference.Goals as goal

pub returns-then-not-agrees_in-2 : goal.returns-then-not-agrees_in-2
returns-then-not-agrees_in-2 c = first_differs c.args.parts c.args.self.now c.args.other.now Mind c.agrees_in-2.result c.agrees_in-2.ensures c.if-not-agrees_in-2.true
    (each_part (λ (j : Part). place_of_part j < 1 → AgreeIn c.args.parts c.args.self.now c.args.other.now j)
    (λ low. c.agrees_in.ensures.0 c.if-not-agrees_in.false)
    (λ low. absurd (omega (arith, low)))
    (λ low. absurd (omega (arith, low)))
    (λ low. absurd (omega (arith, low)))
    (λ low. absurd (omega (arith, low)))
    (λ low. absurd (omega (arith, low))))

pub returns-then-not-agrees_in-3 : goal.returns-then-not-agrees_in-3
returns-then-not-agrees_in-3 c = first_differs c.args.parts c.args.self.now c.args.other.now Load c.agrees_in-3.result c.agrees_in-3.ensures c.if-not-agrees_in-3.true
    (each_part (λ (j : Part). place_of_part j < 2 → AgreeIn c.args.parts c.args.self.now c.args.other.now j)
    (λ low. c.agrees_in.ensures.0 c.if-not-agrees_in.false)
    (λ low. c.agrees_in-2.ensures.0 c.if-not-agrees_in-2.false)
    (λ low. absurd (omega (arith, low)))
    (λ low. absurd (omega (arith, low)))
    (λ low. absurd (omega (arith, low)))
    (λ low. absurd (omega (arith, low))))

pub returns-then-not-agrees_in-4 : goal.returns-then-not-agrees_in-4
returns-then-not-agrees_in-4 c = first_differs c.args.parts c.args.self.now c.args.other.now Food c.agrees_in-4.result c.agrees_in-4.ensures c.if-not-agrees_in-4.true
    (each_part (λ (j : Part). place_of_part j < 3 → AgreeIn c.args.parts c.args.self.now c.args.other.now j)
    (λ low. c.agrees_in.ensures.0 c.if-not-agrees_in.false)
    (λ low. c.agrees_in-2.ensures.0 c.if-not-agrees_in-2.false)
    (λ low. c.agrees_in-3.ensures.0 c.if-not-agrees_in-3.false)
    (λ low. absurd (omega (arith, low)))
    (λ low. absurd (omega (arith, low)))
    (λ low. absurd (omega (arith, low))))

pub returns-then-not-agrees_in-5 : goal.returns-then-not-agrees_in-5
returns-then-not-agrees_in-5 c = first_differs c.args.parts c.args.self.now c.args.other.now RedMarks c.agrees_in-5.result c.agrees_in-5.ensures c.if-not-agrees_in-5.true
    (each_part (λ (j : Part). place_of_part j < 4 → AgreeIn c.args.parts c.args.self.now c.args.other.now j)
    (λ low. c.agrees_in.ensures.0 c.if-not-agrees_in.false)
    (λ low. c.agrees_in-2.ensures.0 c.if-not-agrees_in-2.false)
    (λ low. c.agrees_in-3.ensures.0 c.if-not-agrees_in-3.false)
    (λ low. c.agrees_in-4.ensures.0 c.if-not-agrees_in-4.false)
    (λ low. absurd (omega (arith, low)))
    (λ low. absurd (omega (arith, low))))

pub returns-then-not-agrees_in-6 : goal.returns-then-not-agrees_in-6
returns-then-not-agrees_in-6 c = first_differs c.args.parts c.args.self.now c.args.other.now BlackMarks c.agrees_in-6.result c.agrees_in-6.ensures c.if-not-agrees_in-6.true
    (each_part (λ (j : Part). place_of_part j < 5 → AgreeIn c.args.parts c.args.self.now c.args.other.now j)
    (λ low. c.agrees_in.ensures.0 c.if-not-agrees_in.false)
    (λ low. c.agrees_in-2.ensures.0 c.if-not-agrees_in-2.false)
    (λ low. c.agrees_in-3.ensures.0 c.if-not-agrees_in-3.false)
    (λ low. c.agrees_in-4.ensures.0 c.if-not-agrees_in-4.false)
    (λ low. c.agrees_in-5.ensures.0 c.if-not-agrees_in-5.false)
    (λ low. absurd (omega (arith, low))))

pub returns : goal.returns
returns c = each_part (AgreeIn c.args.parts c.args.self.now c.args.other.now)
    (c.agrees_in.ensures.0 c.if-not-agrees_in.false)
    (c.agrees_in-2.ensures.0 c.if-not-agrees_in-2.false)
    (c.agrees_in-3.ensures.0 c.if-not-agrees_in-3.false)
    (c.agrees_in-4.ensures.0 c.if-not-agrees_in-4.false)
    (c.agrees_in-5.ensures.0 c.if-not-agrees_in-5.false)
    (c.agrees_in-6.ensures.0 c.if-not-agrees_in-6.false)
