-- one position after another
use Rattle.hex_geometry.specs.Position.{point_of}
use Rattle.std.proofs.Common.{◌≡◌, ◌∙◌, ap, sym, arith, true, false}
use Rattle.std.proofs.lemmas.Bool.{false≢true}
use Rattle.world_gen.proofs.Lines.{line_more, open_here, step_none, step_on, open_neighbours}
use Rattle.world_gen.proofs.draft.Draft.line_is_open.Goals as goal
use Rattle.world_gen.specs.Inner.Open.{is_unblocked}

pub loop-beside-init : goal.loop-beside-init
loop-beside-init c = record { here = step_none c.args.way (point_of c.args.start); free = λ j h. absurd (omega arith) }

pub returns-then-not-is_open : goal.returns-then-not-is_open
returns-then-not-is_open c = (
  λ e. absurd (false≢true e),
  λ all.
      let free : is_unblocked c.args.self.now.width c.args.self.now.height c.args.self.now.blocked.items c.loop-beside.p ≡ true =
      open_here c.args.self.now.width c.args.self.now.height c.args.self.now.blocked.items c.loop-beside.p _ c.loop-beside.invariant.here (all c.loop-beside.beside (omega arith)) in
      let shut : c.is_open.result ≡ false = c.if-not-is_open.true in
      absurd (false≢true (sym shut ∙ c.is_open.ensures ∙ free)),
)

pub loop-beside-preserved : goal.loop-beside-preserved
loop-beside-preserved c =
    let result : c.is_open.result ≡ true = c.if-not-is_open.false in
    let free : is_unblocked c.args.self.now.width c.args.self.now.height c.args.self.now.blocked.items c.loop-beside.p ≡ true = sym c.is_open.ensures ∙ result in
    let has = open_neighbours c.args.self.now.width c.args.self.now.height c.args.self.now.blocked.items c.loop-beside.p c.requires free in
    record {
      here = ap point_of c.adjacent-p.ensures.neighbour ∙ step_on c.loop-beside.p c.args.way c.loop-beside.beside (point_of c.args.start) has c.loop-beside.invariant.here;
      free = line_more c.args.self.now.width c.args.self.now.height c.args.self.now.blocked.items c.loop-beside.p (point_of c.args.start) c.args.way c.loop-beside.beside c.loop-beside.invariant.here free c.loop-beside.invariant.free;
    }
