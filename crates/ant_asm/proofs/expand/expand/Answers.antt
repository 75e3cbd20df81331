use Rattle.std.proofs.Common.{ℕ, List, ◌∙◌, ◌++◌, ap, arith, length, refl}
use Rattle.brain_read.specs.declared.instr.Instr.{Instr}
use Rattle.ant_asm.specs.declared.expand.Work.{Work}
use Rattle.ant_asm.specs.Places.{Address}
use Rattle.ant_asm.specs.Inner.Emission.{Numbers}
use Rattle.ant_asm.proofs.Works.{work-begins}
use Rattle.ant_asm.proofs.expand.expand.Goals as goal

pub steps-init : goal.steps-init
steps-init c =
    let work : Work = record { path = c.new.result; outer = c.new-2.result; top = record { number = c.args.number; place = 0; base = 0; after = 0; given = c.new-3.result } } in
    let w = work-begins c.args.bodies.now work c.new-2.ensures.items c.new.ensures.items refl (ap (λ (l : List ℕ). let n : Numbers = record { base = 0; after = 0; given = l } in n) c.new-3.ensures.items)
    (record { known = c.requires.known; given = λ body there. ap length c.new-3.ensures.items ∙ c.requires.given body there; fits = (let fits = c.requires.fits in omega (arith, fits)) }) in
    record {
      work = w.0;
      list = ap (λ (l : List Instr). c.args.out.now.list.items ++ l) w.1;
      places = ap (λ (l : List Address). c.args.out.now.places.items ++ l) w.2;
    }
