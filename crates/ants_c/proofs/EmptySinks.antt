-- A run over two sinks that held something is also a run over two empty ones. It leaves in each sink what the sink
-- held, followed by the run's text.
use Rattle.std.proofs.Common.{◌≡◌, ◌∙◌, ap, sym, refl, append-nil, ℕ, List, [], ◌∷◌, ◌++◌, drop, length, arith, Some, inl, inr}
use Rattle.std.specs.Prelude.{Ok, Err}
use Rattle.ant_base.specs.Fetched.{Fetched}
use Rattle.ant_base.specs.Shelf.{ShelfState}
use Rattle.ant_base.specs.Sink.{PushedAll, SinkState}
use Rattle.ant_commands.specs.Endings.{StopsFor}
use Rattle.ant_commands.specs.FaultLines.{Ending, Reason, ending_status, fault_line, word_line}
use Rattle.ant_commands.specs.FaultLines.Ending.{Done, RefusedWord, Stopped}
use Rattle.ant_commands.specs.FaultLines.Reason.{AtFile, AtOutput, AtInput, AtRoom, AtMemory}
use Rattle.ant_commands.specs.Job.{Job}
use Rattle.ant_commands.specs.Jobs.{job_of}
use Rattle.ant_commands.specs.Outside.{Outside, outside_of}
use Rattle.ant_commands.specs.Run.{Ends, GotLine, IsRun, Reports}
use Rattle.ant_commands.specs.declared.status.Status.{Status}
use Rattle.ant_commands.specs.declared.status.Status.TheVariants as status
use Rattle.ants_c.specs.Called.{holding}
use Rattle.ants_c.specs.Ended.{ending_line}
use Rattle.ants_c.specs.Rooms.{behind}

-- what a push appends to a sink, and that it appends the same to an empty one
held_more : (old new more : List ℕ) → Some new ≡ Some (old ++ more) → new ≡ old ++ more
held_more old new more same = cc

none_more : (old new : List ℕ) → holding new ≡ holding old → new ≡ old ++ []
none_more old new same = held_more old new [] (ap (λ (sink : SinkState). sink.held) same ∙ ap Some (sym (append-nil old)))

all_alone : (old new more : List ℕ) → PushedAll (holding old) (holding new) more → PushedAll (holding []) (holding more) more
all_alone old new more is = record { held = refl; quiet = refl; flushed = is.flushed; kept = is.kept }

-- a command that stopped
record Stop (shelf new_shelf : ShelfState) (old new : List ℕ) (command : Job) (fetches : List Fetched) (reason : Reason) : Type 0 where
  text : List ℕ
  grown : new ≡ old ++ text
  stops : (e e' : SinkState) → StopsFor command (outside_of shelf (holding []) e) (outside_of new_shelf (holding text) e') fetches reason

module _ (shelf new_shelf : ShelfState) (old new : List ℕ) (err new_err : SinkState) where
  stops_alone : (command : Job) (fetches : List Fetched) (reason : Reason) → StopsFor command (outside_of shelf (holding old) err) (outside_of new_shelf (holding new) new_err) fetches reason
      → Stop shelf new_shelf old new command fetches reason
  stops_alone command fetches (AtFile name) is = record {
    text = [];
    grown = none_more old new is.unwritten;
    stops = λ e e'. record { stopped = is.stopped; rose = is.rose; unwritten = refl };
  }
  stops_alone command fetches AtOutput is = record {
    text = is.cut.front;
    grown = held_more old new is.cut.front is.cut.held;
    stops = λ e e'. record {
      contents = is.contents;
      accepted = is.accepted;
      text = is.text;
      is_text = is.is_text;
      cut = record { front = is.cut.front; rest = is.cut.rest; whole = is.cut.whole; held = refl; rose = is.cut.rose; later = is.cut.later };
    };
  }
  stops_alone command fetches (AtInput name fault) is = record {
    text = [];
    grown = none_more old new is.unwritten;
    stops = λ e e'. record { stopped = is.stopped; unwritten = refl };
  }
  stops_alone command fetches (AtRoom element) is = record {
    text = [];
    grown = none_more old new is.unwritten;
    stops = λ e e'. record { contents = is.contents; accepted = is.accepted; lacks = is.lacks; unwritten = refl };
  }
  stops_alone command fetches AtMemory (inl is) = record {
    text = [];
    grown = none_more old new is.unwritten;
    stops = λ e e'. inl (record { begun = is.begun; unwritten = refl });
  }
  stops_alone command fetches AtMemory (inr is) = record {
    text = is.broken.front;
    grown = held_more old new is.broken.front is.broken.pushed.held;
    stops = λ e e'. inr (record {
      contents = is.contents;
      accepted = is.accepted;
      text = is.text;
      is_text = is.is_text;
      broken = record { front = is.broken.front; rest = is.broken.rest; whole = is.broken.whole; some_left = is.broken.some_left; pushed = all_alone old new is.broken.front is.broken.pushed };
      in_play = is.in_play;
    });
  }

-- a run that ended
record End (words : List (List ℕ)) (shelf new_shelf : ShelfState) (old new : List ℕ) (fetches : List Fetched) (ending : Ending) : Type 0 where
  text : List ℕ
  grown : new ≡ old ++ text
  ends : (e e' : SinkState) → Ends words (outside_of shelf (holding []) e) (outside_of new_shelf (holding text) e') fetches ending

ends_alone : (words : List (List ℕ)) (shelf new_shelf : ShelfState) (old new : List ℕ) (err new_err : SinkState) (fetches : List Fetched) (ending : Ending)
    → Ends words (outside_of shelf (holding old) err) (outside_of new_shelf (holding new) new_err) fetches ending → End words shelf new_shelf old new fetches ending
ends_alone words shelf new_shelf old new err new_err fetches Done is = record {
  text = is.done.text;
  grown = held_more old new is.done.text is.done.written.held;
  ends = λ e e'. record {
    command = is.command;
    is_command = is.is_command;
    done = record { contents = is.done.contents; accepted = is.done.accepted; text = is.done.text; is_text = is.done.is_text; written = all_alone old new is.done.text is.done.written };
    flushed = is.flushed;
    kept = is.kept;
  };
}
ends_alone words shelf new_shelf old new err new_err fetches (RefusedWord word) is = record {
  text = [];
  grown = none_more old new is.unwritten;
  ends = λ e e'. record { refused = is.refused; unfetched = is.unfetched; kept = is.kept; unwritten = refl };
}
ends_alone words shelf new_shelf old new err new_err fetches (Stopped reason) is =
    let stop = stops_alone shelf new_shelf old new err new_err (job_of is.command) fetches reason is.stopped in
    record { text = stop.text; grown = stop.grown; ends = λ e e'. record { command = is.command; is_command = is.is_command; stopped = stop.stops e e' } }

-- errors that got a line
record Report (old new : List ℕ) (ending : Ending) : Type 0 where
  line : List ℕ
  grown : new ≡ old ++ line
  reports : Reports (holding []) (holding line) ending

record Got (old new line : List ℕ) : Type 0 where
  front : List ℕ
  grown : new ≡ old ++ front
  got : GotLine (holding []) (holding front) line

got_alone : (old new line : List ℕ) → GotLine (holding old) (holding new) line → Got old new line
got_alone old new line (Ok done, is) = record { front = line; grown = held_more old new line is.held; got = (Ok done, all_alone old new line is) }
got_alone old new line (Err failed, is) = record {
  front = is.front;
  grown = held_more old new is.front is.held;
  got = (Err failed, record { front = is.front; rest = is.rest; whole = is.whole; held = refl; rose = is.rose; later = is.later });
}

reports_alone : (old new : List ℕ) (ending : Ending) → Reports (holding old) (holding new) ending → Report old new ending
reports_alone old new Done is = record { line = []; grown = none_more old new is; reports = refl }
reports_alone old new (RefusedWord word) is = let it = got_alone old new _ is in record { line = it.front; grown = it.grown; reports = it.got }
reports_alone old new (Stopped reason) is = let it = got_alone old new _ is in record { line = it.front; grown = it.grown; reports = it.got }

-- a sink that never failed got the whole line
got_whole : (front line : List ℕ) → GotLine (holding []) (holding front) line → front ≡ line
got_whole front line (Ok done, is) = held_more [] front line is.held
got_whole front line (Err failed, is) = let rose = is.rose in absurd (omega (arith, rose))

whole_line : (line : List ℕ) (ending : Ending) → Reports (holding []) (holding line) ending → line ≡ ending_line ending
whole_line line Done is = none_more [] line is
whole_line line (RefusedWord word) is = got_whole line (word_line word) is
whole_line line (Stopped reason) is = got_whole line (fault_line reason) is

-- a run over two empty sinks that ended so, and what two others got
pub record Alone (words : List (List ℕ)) (shelf new_shelf : ShelfState) (out new_out err new_err : List ℕ) (ended : Status) (ending : Ending) : Type 0 where
  pub text : List ℕ
  pub line : List ℕ
  pub out_grown : new_out ≡ out ++ text
  pub err_grown : new_err ≡ err ++ line
  pub run : IsRun words (outside_of shelf (holding []) (holding [])) (outside_of new_shelf (holding text) (holding line)) ended
  pub is_ending : run.ending ≡ ending
  pub is_line : line ≡ ending_line ending

pub run_alone : (words : List (List ℕ)) (shelf new_shelf : ShelfState) (out new_out err new_err : List ℕ) (ended : Status)
    (run : IsRun words (outside_of shelf (holding out) (holding err)) (outside_of new_shelf (holding new_out) (holding new_err)) ended) → Alone words shelf new_shelf out new_out err new_err ended run.ending
run_alone words shelf new_shelf out new_out err new_err ended run =
    let end = ends_alone words shelf new_shelf out new_out (holding err) (holding new_err) run.fetches run.ending run.ends in
    let report = reports_alone err new_err run.ending run.reports in
    record {
      text = end.text;
      line = report.line;
      out_grown = end.grown;
      err_grown = report.grown;
      run = record { fetches = run.fetches; fetched = run.fetched; ending = run.ending; ends = end.ends (holding []) (holding report.line); reports = report.reports; is_status = run.is_status };
      is_ending = refl;
      is_line = whole_line report.line run.ending report.reports;
    }

-- a run whose output never fails doesn't end so

never_cut : (words : List (List ℕ)) (before after : Outside) (fetches : List Fetched) (ending : Ending) → before.out.faults ≡ 0 → after.out.faults ≡ 0 → Ends words before after fetches ending → ending_status ending ≡ status.Write → ⊥
never_cut words before after fetches (Stopped AtOutput) none still ends same = let rose = ends.stopped.cut.rose in omega (arith, rose, none, still)
never_cut words before after fetches ending none still ends same = cc

pub never_failed : (words : List (List ℕ)) (before after : Outside) (ended : Status) → before.out.faults ≡ 0 → after.out.faults ≡ 0 → IsRun words before after ended → ended ≡ status.Write → ⊥
never_failed words before after ended none still run same = never_cut words before after run.fetches run.ending none still run.ends (sym run.is_status ∙ same)

-- Two logs each begin with a number of their own. If one is the other with more at its end, the numbers are equal, and
-- the rest of the one continues the rest of the other.
pub same_name : (name new_name : ℕ) (log new_log text : List ℕ) → new_name ∷ new_log ≡ (name ∷ log) ++ text → new_name ≡ name
same_name name new_name log new_log text same = cc

pub log_grown : (name new_name : ℕ) (log new_log text : List ℕ) → new_name ∷ new_log ≡ (name ∷ log) ++ text → new_log ≡ log ++ text
log_grown name new_name log new_log text same = cc

drop_front : (log text : List ℕ) → drop (length log) (log ++ text) ≡ text
drop_front [] text = refl
drop_front (byte ∷ log) text = drop_front log text

pub behind_is : (log new_log text : List ℕ) → new_log ≡ log ++ text → behind log new_log ≡ text
behind_is log new_log text same = rw same (drop_front log text)

-- a run over two empty sinks that ended so
record EndedSo (words : List (List ℕ)) (shelf new_shelf : ShelfState) (text line : List ℕ) (ended : Status) (ending : Ending) : Type 0 where
  run : IsRun words (outside_of shelf (holding []) (holding [])) (outside_of new_shelf (holding text) (holding line)) ended
  is_ending : run.ending ≡ ending

-- a run over two rooms, each of whose sinks tells the name of its reference before its log
pub record InRooms (words : List (List ℕ)) (shelf new_shelf : ShelfState) (name new_name : ℕ) (log new_log : List ℕ) (other new_other : ℕ) (said new_said : List ℕ) (ended : Status) (ending : Ending) : Type 0 where
  pub out_name : new_name ≡ name
  pub out_log : new_log ≡ log ++ behind log new_log
  pub said_name : new_other ≡ other
  pub said_log : new_said ≡ said ++ behind said new_said
  pub run : IsRun words (outside_of shelf (holding []) (holding [])) (outside_of new_shelf (holding (behind log new_log)) (holding (behind said new_said))) ended
  pub is_ending : run.ending ≡ ending
  pub is_line : behind said new_said ≡ ending_line ending
  pub unfailing : ended ≡ status.Write → ⊥

pub in_rooms : (words : List (List ℕ)) (shelf new_shelf : ShelfState) (name new_name : ℕ) (log new_log : List ℕ) (other new_other : ℕ) (said new_said : List ℕ) (ended : Status)
    (run : IsRun words (outside_of shelf (holding (name ∷ log)) (holding (other ∷ said))) (outside_of new_shelf (holding (new_name ∷ new_log)) (holding (new_other ∷ new_said))) ended)
    → InRooms words shelf new_shelf name new_name log new_log other new_other said new_said ended run.ending
in_rooms words shelf new_shelf name new_name log new_log other new_other said new_said ended run =
    let it = run_alone words shelf new_shelf (name ∷ log) (new_name ∷ new_log) (other ∷ said) (new_other ∷ new_said) ended run in
    let out = log_grown name new_name log new_log it.text it.out_grown in let err = log_grown other new_other said new_said it.line it.err_grown in
    let text = behind_is log new_log it.text out in let line = behind_is said new_said it.line err in
    let ran : EndedSo words shelf new_shelf (behind log new_log) (behind said new_said) ended run.ending = rw (text, line) (record { run = it.run; is_ending = it.is_ending }) in
    record {
      out_name = same_name name new_name log new_log it.text it.out_grown;
      out_log = out ∙ ap (λ (more : List ℕ). log ++ more) (sym text);
      said_name = same_name other new_other said new_said it.line it.err_grown;
      said_log = err ∙ ap (λ (more : List ℕ). said ++ more) (sym line);
      run = ran.run;
      is_ending = ran.is_ending;
      is_line = rw line it.is_line;
      unfailing = never_failed words (outside_of shelf (holding (name ∷ log)) (holding (other ∷ said))) (outside_of new_shelf (holding (new_name ∷ new_log)) (holding (new_other ∷ new_said))) ended refl refl run;
    }
