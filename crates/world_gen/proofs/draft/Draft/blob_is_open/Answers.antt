-- one line after another
use Rattle.hex_geometry.specs.Position.{point_of}
use Rattle.std.proofs.Common.{◌≡◌, ◌∙◌, ap, sym, arith, false, refl, subst}
use Rattle.std.proofs.lemmas.Bool.{false≢true}
use Rattle.world_gen.proofs.Lines.{blob_line, line_start, lines_blob, lines_more, open_neighbours, step_none, step_on}
use Rattle.world_gen.proofs.draft.Draft.blob_is_open.Goals as goal
use Rattle.world_gen.specs.Inner.Open.{LineIsOpen}

pub loop-along-init : goal.loop-along-init
loop-along-init c = record { here = step_none c.args.first (point_of c.args.corner); free = λ i h. absurd (omega arith) }

pub returns-then-not-line_is_open : goal.returns-then-not-line_is_open
returns-then-not-line_is_open c = (
  λ e. absurd (false≢true e),
  λ all.
      let line = blob_line c.args.self.now.width c.args.self.now.height c.args.self.now.blocked.items c.loop-along.start (point_of c.args.corner) c.args.first c.loop-along.along (omega arith) c.loop-along.invariant.here all in
      let shut : c.line_is_open.result ≡ false = c.if-not-line_is_open.true in
      absurd (false≢true (sym shut ∙ c.line_is_open.ensures.1 (subst (λ d. LineIsOpen c.args.self.now.width c.args.self.now.height c.args.self.now.blocked.items (point_of c.loop-along.start) d 5) (sym c.turned-second.ensures) line))),
)

pub adjacent-start-requires : goal.adjacent-start-requires
adjacent-start-requires c =
    open_neighbours c.args.self.now.width c.args.self.now.height c.args.self.now.blocked.items c.loop-along.start c.requires
    (line_start c.args.self.now.width c.args.self.now.height c.args.self.now.blocked.items c.loop-along.start c.turned-second.result (c.line_is_open.ensures.0 c.if-not-line_is_open.false))

pub loop-along-preserved : goal.loop-along-preserved
loop-along-preserved c =
    let free = c.line_is_open.ensures.0 c.if-not-line_is_open.false in
    let has = open_neighbours c.args.self.now.width c.args.self.now.height c.args.self.now.blocked.items c.loop-along.start c.requires
    (line_start c.args.self.now.width c.args.self.now.height c.args.self.now.blocked.items c.loop-along.start c.turned-second.result free) in
    record {
      here = ap point_of c.adjacent-start.ensures.neighbour ∙ step_on c.loop-along.start c.args.first c.loop-along.along (point_of c.args.corner) has c.loop-along.invariant.here;
      free = lines_more c.args.self.now.width c.args.self.now.height c.args.self.now.blocked.items c.loop-along.start (point_of c.args.corner) c.args.first c.loop-along.along c.loop-along.invariant.here
          (subst (λ d. LineIsOpen c.args.self.now.width c.args.self.now.height c.args.self.now.blocked.items (point_of c.loop-along.start) d 5) c.turned-second.ensures free) c.loop-along.invariant.free;
    }

pub returns : goal.returns
returns c =
    (λ e. lines_blob c.args.self.now.width c.args.self.now.height c.args.self.now.blocked.items (point_of c.args.corner) c.args.first c.loop-along.along (omega arith) c.loop-along.invariant.free, λ h. refl)
