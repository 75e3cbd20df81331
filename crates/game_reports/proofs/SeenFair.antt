-- The lines of what is seen of turns are pushed one after another, and don't ask for the rest of others.
use Rattle.std.proofs.Common.{◌≡◌, ◌++◌, ℕ, List, codes, sym, subst}
use Rattle.std.specs.Prelude.{⊤}
use Rattle.ant_base.specs.Sink.{Pushed, PushedFront, SinkState}
use Rattle.ant_base.proofs.Pushes.{all_of_nothing, front_more, pushed_then}
use Rattle.ant_turn.specs.Minds.{Minds}
use Rattle.match_run.specs.Seen.{Seen}
use Rattle.match_run.specs.Told.{Telling, from_round}
use Rattle.cell_world.specs.World.{World}
use Rattle.dump_print.specs.Texts.{seed_words}
use Rattle.game_reports.specs.Report.{report_lines, report_text, told_of}
use Rattle.match_run.specs.Watch.{IgnoresRest, IsFair}
use Rattle.match_run.proofs.SeenLemmas.{IgnoresRest-from, IgnoresRest-mapped, seen-ignores_rest}
use Rattle.game_reports.specs.Inner.Broken.{broken}
use Rattle.game_reports.proofs.EventLemmas.{broken-append, text-parts}

-- lines are pushed one after another
pub pushes-fair : {K : Type 0} (state : K → SinkState) (telling : ℕ → Telling (List ℕ)) → ((round : ℕ) → IgnoresRest (telling round)) → IsFair telling (λ (old new : K) lines result. Pushed (state old) (state new) (broken lines) result) (λ _ _. ⊤)
pushes-fair state telling ignores = record {
  ignores = ignores;
  none = λ log. all_of_nothing (state log);
  more = λ old mid new told later result first then.
      subst (λ text. Pushed (state old) (state new) text result) (sym (broken-append told later)) (pushed_then (state old) (state mid) (state new) (broken told) (broken later) result first then);
  front = λ old new told later stop p. subst (PushedFront (state old) (state new)) (sym (broken-append told later)) (front_more (state old) (state new) (broken told) (broken later) p);
  fewer = λ _ _ _ _. tt;
}

-- so are those of what is seen, from a round on
pub lines-fair : {K : Type 0} (state : K → SinkState) (lines : Seen → List (List ℕ)) (from : ℕ) (minds : Minds) (seed : ℕ) →
    IsFair (from_round from (told_of lines minds seed)) (λ (old new : K) told result. Pushed (state old) (state new) (broken told) result) (λ _ _. ⊤)
lines-fair state lines from minds seed =
    pushes-fair state (from_round from (told_of lines minds seed)) (IgnoresRest-from from (λ round. IgnoresRest-mapped lines (seen-ignores_rest minds seed round)))

-- the text of a report in the parts in which it is pushed
pub report-parts : (lines : Seen → List (List ℕ)) (from : ℕ) (minds : Minds) (seed : ℕ) (w : World) (rounds : ℕ)
    → report_text lines from minds seed w rounds ≡ seed_words seed ++ (broken (report_lines lines from minds seed w rounds) ++ codes "\n")
unfolding report_text
report-parts lines from minds seed w rounds = text-parts seed (report_lines lines from minds seed w rounds)
