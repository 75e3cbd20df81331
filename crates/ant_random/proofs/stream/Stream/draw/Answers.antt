use Rattle.std.proofs.Common.{◌≡◌, ℕ, ◌+◌, ◌%◌, ◌^◌, ap, ◌∙◌, arith}
use Rattle.ant_random.specs.Stream.{state_at, drawn}
use Rattle.ant_random.specs.Inner.Jump.{next_state}
use Rattle.ant_random.proofs.JumpLemmas.{next_state-low, read_off}
use Rattle.ant_random.proofs.stream.Stream.draw.Goals as goal

pub invariant_of-self : goal.invariant_of-self
invariant_of-self c =
    let s = c.self.inside in
    let e : s.place + 4 + 1 ≡ s.place + 1 + 4 = omega arith in
    c.next_state-self-inside.ensures ∙ ap next_state c.self.invariant ∙ next_state-low s.seed (s.place + 4) ∙ ap (λ (i : ℕ). state_at s.seed i % 2 ^ 32) e

pub returns-clause-number : goal.returns-clause-number
unfolding drawn
returns-clause-number c =
    let s = c.self.inside in
    rw (← c.self.view_is) (ap (λ (x : ℕ). x % c.args.n) (read_off s.seed s.place s.ahead c.self.invariant))
