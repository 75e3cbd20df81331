-- one row after another
use Rattle.std.proofs.Common.{◌≡◌, ◌+◌, ◌-◌, ◌*◌, ◌∙◌, sym, arith, false, refl, subst, inl, inr}
use Rattle.std.proofs.lemmas.Bool.{cases_lt, false≢true}
use Rattle.world_gen.proofs.Balls.{open_within, rows_ball}
use Rattle.world_gen.proofs.draft.Draft.ball_is_open.Goals as goal
use Rattle.world_gen.specs.Inner.Open.{RowIsOpen}

pub returns-then-not-is_within : goal.returns-then-not-is_within
returns-then-not-is_within c = (
  λ e. absurd (false≢true e),
  λ all.
      let out : c.is_within.result ≡ false = c.if-not-is_within.true in
      absurd (false≢true (sym out ∙ c.is_within.ensures.1 (open_within c.args.self.now.width c.args.self.now.height c.args.self.now.blocked.items c.args.centre c.args.radius c.requires.fence all))),
)

pub loop-row-preserved : goal.loop-row-preserved
loop-row-preserved c i below =
    elim (cases_lt i c.loop-row.row) [
      | inl h ↦ c.loop-row.invariant i h
      | inr h ↦
          let same : c.loop-row.row ≡ i = omega arith in
          subst (λ k. RowIsOpen c.args.self.now.width c.args.self.now.height c.args.self.now.blocked.items c.args.centre c.args.radius (c.args.centre.y - c.args.radius + k) (2 * c.args.radius + 1)) same
          (c.row_is_open.ensures.0 c.if-not-row_is_open.false)
    ]

pub returns : goal.returns
returns c =
    (λ e. rows_ball c.args.self.now.width c.args.self.now.height c.args.self.now.blocked.items c.args.centre c.args.radius c.loop-row.row (c.is_within.ensures.0 c.if-not-is_within.false) (omega arith) c.loop-row.invariant, λ h. refl)
