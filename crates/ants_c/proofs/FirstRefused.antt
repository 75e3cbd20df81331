-- The first text at fault is the one that is refused.
use Rattle.std.proofs.Common.{◌≡◌, ℕ, List, refl, ap, arith}
use Rattle.brain_read.specs.declared.fault.BrainFault.{BrainFault}
use Rattle.brain_read.specs.Faulty.{IsBrainFault}
use Rattle.brain_read.proofs.FaultyLemmas.{never_both}
use Rattle.cell_world.specs.Grid.{Grid}
use Rattle.text_fault.proofs.Verdicts.{world_verdict}
use Rattle.text_fault.specs.declared.fault.TextFault.{TextFault}
use Rattle.text_fault.specs.declared.fault.TextFault.TheVariants.{World}
use Rattle.text_fault.specs.Opens.{GivesWorld}
use Rattle.text_fault.specs.Refusals.{IsNoBrain, IsNoWorld}
use Rattle.text_fault.specs.Refusals.IsRefusal.{Bad, Long}
use Rattle.world_read.specs.declared.fault.WorldFault.{WorldFault}
use Rattle.world_read.specs.Faulty.{IsWorldFault}
use Rattle.ants_c.specs.declared.refusal.Refusal.{Refusal}
use Rattle.ants_c.specs.Refused.{IsRefusedGame, IsRefusedText, IsRefusedWorld}

-- a world's text has no fault
one-world : (text : List ℕ) (grid : Grid) (why : WorldFault) → GivesWorld text grid → IsWorldFault text why → ⊥
one-world text grid why gives is = (world_verdict text).never_both grid (World why) gives.is (record { why = why; is = is; told = refl })

not-refused : (text : List ℕ) (grid : Grid) (refusal : Refusal) → GivesWorld text grid → IsRefusedWorld text refusal → ⊥
not-refused text grid refusal gives refused = elim refused.why [ Long more is ↦ omega (arith, more, gives.short) | Bad short wrong ↦ one-world text grid wrong.why gives wrong.is ]

numbered : (number : ℕ) (Wrong : List ℕ → TextFault → Type 0) (text : List ℕ) (refusal : Refusal) → IsRefusedText number Wrong text refusal → refusal.text ≡ number
numbered number Wrong text refusal refused = ap (λ (r : Refusal). r.text) refused.is

-- If the world of a game is at fault, it is refused, whatever the brains are. If the red brain is the first at fault,
-- it is refused, whatever the black one is.
pub world_first : (world red black : List ℕ) (why : WorldFault) (refusal : Refusal) → IsWorldFault world why → IsRefusedGame world red black refusal → refusal.text ≡ 1
world_first world red black why refusal is (IsRefusedGame.World refused) = numbered 1 IsNoWorld world refusal refused
world_first world red black why refusal is (IsRefusedGame.Red grid gives refused) = absurd (one-world world grid why gives is)
world_first world red black why refusal is (IsRefusedGame.Black grid gives reds gives_red refused) = absurd (one-world world grid why gives is)

pub red_second : (world red black : List ℕ) (grid : Grid) (why : BrainFault) (refusal : Refusal) → GivesWorld world grid → IsBrainFault red why → IsRefusedGame world red black refusal → refusal.text ≡ 2
red_second world red black grid why refusal gives is (IsRefusedGame.World refused) = absurd (not-refused world grid refusal gives refused)
red_second world red black grid why refusal gives is (IsRefusedGame.Red other gives_other refused) = numbered 2 IsNoBrain red refusal refused
red_second world red black grid why refusal gives is (IsRefusedGame.Black other gives_other reds gives_red refused) = absurd (never_both red reds why gives_red.is is)
