-- The outcome of a cup whose games are printed.
use Rattle.std.proofs.Common.{◌≡◌, ℕ, ◌*◌, ◌≤◌, List, ◌++◌, length, true, refl, sym, subst, Result, Ok, Err}
use Rattle.ant_base.specs.Shelf.{ShelfState}
use Rattle.ant_base.specs.Sink.{SinkState}
use Rattle.ant_commands.specs.Job.{Job}
use Rattle.ant_commands.specs.Jobs.{cup_job}
use Rattle.match_run.specs.Play.{PushedProperPrefix}
use Rattle.tournament.proofs.SortedLines.{has_standing}
use Rattle.tournament.proofs.PrintedLemmas.{printed_text-front}
use Rattle.tournament.specs.Text.{standing_text}
use Rattle.tournament.specs.Printed.{IsPrintedCupText, Printed, cup_played, first_played, games_text}
use Rattle.tournament.specs.declared.format.Format.{Format}
use Rattle.ant_base.specs.declared.push_fault.PushFault.{PushFault}
use Rattle.ant_base.specs.declared.push_fault.PushFault.TheVariants as fault
use Rattle.ant_commands.specs.declared.stop.CommandStop.{CommandStop}
use Rattle.ant_commands.specs.Inner.Plans.{play_ending}
use Rattle.ant_commands.specs.Inner.Reading.{CarriesOut, ReadsFiles, ending_of}
use Rattle.ant_commands.specs.Inner.Reading.ReadOutcome.{Contents}
use Rattle.ant_commands.specs.Outputs.{ReadCup, cup_files, roster_contents, score_in_cup}
use Rattle.ant_commands.proofs.Readings.{carries_broken, carries_cut, carries_done}
use Rattle.ant_commands.proofs.TextEnds.{lf_last, lf_some, lf_standing}

module _ (worlds brains : List (List ℕ)) (format : Format) (rounds workers : ℕ) (cup : ReadCup) (shelf new_shelf : ShelfState) (out new_out : SinkState) where
  abbrev command : Job
  command = cup_job worlds brains format rounds workers true

  -- a text of the cup; the lines of the games on its first worlds are a proper prefix of it
  record Front (printed : ℕ) : Type 0 where
    text : List ℕ
    is_text : IsPrintedCupText format worlds brains (score_in_cup cup.worlds cup.players format.seeds rounds) text
    rest : List ℕ
    whole : text ≡ games_text format worlds brains (first_played format brains printed (score_in_cup cup.worlds cup.players format.seeds rounds)) 1 ++ rest
    left : 1 ≤ length rest

  front : (printed : ℕ) → printed ≤ length worlds → 1 ≤ length brains → Front printed
  front printed few some =
      let score = score_in_cup cup.worlds cup.players format.seeds rounds in
      let standing = has_standing format.gauntlet (length brains) (length worlds * format.seeds.count) score in
      let text : List ℕ = games_text format worlds brains (cup_played format worlds brains score) 1 ++ standing_text format.leads brains standing.0 in
      let is_text : IsPrintedCupText format worlds brains score text = record { lines = standing.0; standing = standing.1; is = refl } in
      let rest = printed_text-front format worlds brains score printed text few is_text in
      record {
        text = text;
        is_text = is_text;
        rest = rest.0 ++ standing_text format.leads brains standing.0;
        whole = rest.1;
        left = lf_some _ (lf_last rest.0 (standing_text format.leads brains standing.0) (lf_standing format.leads format.gauntlet brains (length brains) (length worlds * format.seeds.count) score standing.0 some standing.1));
      }

  -- Its files were read, and its games were printed; or the output failed; or memory ran out after the lines of the
  -- games on its first worlds.
  pub carries_cup : {U : Type 0} (result : Result U CommandStop) (last : Result (Unit {0}) PushFault) → ending_of result ≡ play_ending last
      → ReadsFiles shelf new_shelf (cup_files worlds brains) (Contents (roster_contents cup)) → 1 ≤ length brains
      → Printed out new_out format worlds brains (score_in_cup cup.worlds cup.players format.seeds rounds) last → CarriesOut command shelf new_shelf out new_out (ending_of result)
  carries_cup result (Ok done) same reads some printed =
      subst (CarriesOut command shelf new_shelf out new_out) (sym same)
      (carries_done command shelf new_shelf out new_out (roster_contents cup) reads printed.text (record { value = cup; read = refl; told = printed.is_text }) printed.pushed)
  carries_cup result (Err fault.WriteFault) same reads some printed =
      subst (CarriesOut command shelf new_shelf out new_out) (sym same)
      (carries_cut command shelf new_shelf out new_out (roster_contents cup) reads printed.text (record { value = cup; read = refl; told = printed.is_text }) printed.pushed)
  carries_cup result (Err fault.OutOfMemory) same reads some printed =
      let it = front printed.printed printed.some some in
      let broken : PushedProperPrefix out new_out it.text = record {
        front = games_text format worlds brains (first_played format brains printed.printed (score_in_cup cup.worlds cup.players format.seeds rounds)) 1;
        rest = it.rest;
        whole = it.whole;
        some_left = it.left;
        pushed = printed.pushed;
      } in
      subst (CarriesOut command shelf new_shelf out new_out) (sym same)
      (carries_broken command shelf new_shelf out new_out (roster_contents cup) reads it.text (record { value = cup; read = refl; told = it.is_text }) broken
      (record { value = cup; read = refl; told = record { told = printed.printed; some = printed.some; is = refl } }))
