-- The text of what ants execute, in the parts in which it is pushed.
use Rattle.std.proofs.Common.{◌≡◌, ℕ, Bool, true, false, Option, Some, None, codes, refl, sym, ◌∙◌, ap}
use Rattle.std.specs.Prelude.{if◌then◌else◌, nat_lt}
use Rattle.std.proofs.lemmas.Option.{same_Some}
use Rattle.ant_base.specs.Layout.{◌+++◌}
use Rattle.ant_turn.specs.Minds.{Minds, mind_of}
use Rattle.ant_turn.specs.Rounds.{Moment}
use Rattle.ant_turn.specs.Turn.{instruction_at}
use Rattle.brain_read.specs.declared.instr.Instr.{Instr}
use Rattle.cell_world.specs.declared.ant.PlacedAnt.{PlacedAnt}
use Rattle.cell_world.specs.World.{World}
use Rattle.dump_print.specs.Texts.{seed_text}
use Rattle.match_run.specs.Seen.{is_met, seen_here}
use Rattle.game_reports.specs.Acts.{act_line, act_lines, acts_text}
use Rattle.game_reports.specs.Inner.ActWords.{broken_act, unmade_of}
use Rattle.game_reports.specs.Report.{report_text}
use Rattle.game_reports.specs.Trace.{unmade_text}

-- the line of a turn is that of what is seen of it
pub act-seen : (minds : Minds) (seed round : ℕ) (m : Moment) (it : PlacedAnt) (instruction : Instr) (met : Bool) → instruction_at (mind_of minds it.ant.colour) it.ant.state ≡ instruction
    → met ≡ is_met seed m.world.cells m.place it.place it.ant instruction → broken_act round it instruction met ≡ codes "\n" +++ act_line (seen_here minds seed round m it)
unfolding act_line
act-seen minds seed round m it instruction met is answer =
    ap (broken_act round it instruction) answer
    ∙ ap (λ (i : Instr). broken_act round it i (is_met seed m.world.cells m.place it.place it.ant i)) (sym is)

module _ (minds : Minds) (seed : ℕ) (w : World) (rounds from : ℕ) where
  -- no ant of this id was made
  pub acts-unmade : (one : Option ℕ) (id : ℕ) → unmade_of one w.ids ≡ Some id → acts_text minds seed w rounds one from ≡ seed_text seed +++ unmade_text id
  unfolding acts_text
  acts-unmade None id none = absurd (cc)
  acts-unmade (Some one) id none = go (nat_lt one w.ids) none
    where
      go : (b : Bool) → (if b then None else Some one) ≡ Some id → (if b then report_text (act_lines (Some one)) from minds seed w rounds else seed_text seed +++ unmade_text one) ≡ seed_text seed +++ unmade_text id
      go true other = absurd (cc)
      go false is = ap (λ n. seed_text seed +++ unmade_text n) (same_Some one id is)

  -- it was, or all are reported
  pub acts-made : (one : Option ℕ) → unmade_of one w.ids ≡ None → acts_text minds seed w rounds one from ≡ report_text (act_lines one) from minds seed w rounds
  unfolding acts_text
  acts-made None made = refl
  acts-made (Some one) made = go (nat_lt one w.ids) made
    where
      go : (b : Bool) → (if b then None else Some one) ≡ None → (if b then report_text (act_lines (Some one)) from minds seed w rounds else seed_text seed +++ unmade_text one) ≡ report_text (act_lines (Some one)) from minds seed w rounds
      go true is = refl
      go false other = absurd (cc)
