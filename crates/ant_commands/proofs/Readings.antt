-- Files read one after another: the outcome of reading some files, and then others.
use Rattle.std.proofs.Common.{◌≡◌, ◌⊎◌, ℕ, Bool, true, false, List, [], ◌∷◌, ◌++◌, refl, sym, ap, subst, inl, inr, Result, Ok, Err, Option, None, Some}
use Rattle.std.specs.Prelude.{IsErrAnd}
use Rattle.ant_base.proofs.Fetches.{fetches_none, fetches_then}
use Rattle.ant_base.proofs.Pushes.{rose_later}
use Rattle.ant_base.specs.Fetched.{Fetched}
use Rattle.ant_base.specs.Lines.{ends_in_lf}
use Rattle.ant_base.specs.Shelf.{FetchesEach, ShelfState}
use Rattle.ant_base.specs.Sink.{SinkState, Pushed, PushedAll, PushedFront}
use Rattle.ant_base.specs.declared.sink.Failed.{Failed}
use Rattle.command_words.proofs.WordLaws.{within_limits}
use Rattle.command_words.specs.Command.{IsCommand, IsRefusedAt, PlainAsked}
use Rattle.ant_commands.specs.Jobs.{job_of}
use Rattle.ant_commands.specs.Job.{IsJobText, Job, WritesInPlay, files_of}
use Rattle.ant_base.specs.declared.push_fault.PushFault.{PushFault}
use Rattle.ant_base.specs.declared.push_fault.PushFault.TheVariants as play
use Rattle.game_reports.specs.Pushes.{StoppedBefore}
use Rattle.match_run.specs.Play.{PushedBy, PushedProperPrefix, StoppedBy}
use Rattle.ant_commands.specs.declared.stop.CommandStop.{CommandStop}
use Rattle.ant_commands.specs.declared.stop.CommandStop.TheVariants as stop
use Rattle.ant_commands.specs.Files.{File, FileContent, AreAccepted, AreBegun, StopsAt}
use Rattle.ant_commands.specs.Inner.Plans.{play_ending, stop_of}
use Rattle.ant_commands.specs.Inner.Reading.{CarriesOut, CarriesOutWords, ComesTo, EndsBy, ReadOutcome, ReadingStops, ReadsFiles, ending_of, outcome_of, push_ending}
use Rattle.ant_commands.specs.Inner.Reading.ReadOutcome.{Contents, Stopped}
use Rattle.ant_commands.specs.Laws.{TellsNoLabel}
use Rattle.ant_commands.specs.Verdict.{IsRefusedAs}
use Rattle.ant_commands.specs.Endings.{IsDone, IsUnsure, StopsFor}
use Rattle.ant_commands.specs.Run.{Ends}
use Rattle.ant_commands.specs.Outside.{Outside, outside_of}
use Rattle.ant_commands.specs.FaultLines.{Reason, ending_by, reason_of}
use Rattle.ant_commands.specs.FaultLines.Ending.{RefusedWord}
use Rattle.ant_commands.specs.FaultLines.Reason.{AtFile, AtOutput, AtInput, AtRoom, AtMemory}
use Rattle.ant_commands.proofs.JobTexts.{texts_end_in_lf}

-- the files a were accepted, and then the files b
accepted_then : (a b : List File) (fetches more : List Fetched) (contents others : List FileContent) → AreAccepted a fetches contents → AreAccepted b more others → AreAccepted (a ++ b) (fetches ++ more) (contents ++ others)
accepted_then [] b fetches more contents others one two = rw (one.0, one.1) two
accepted_then (file ∷ a) b [] more contents others one two = absurd one
accepted_then (file ∷ a) b (fetch ∷ fetches) more [] others one two = absurd one
accepted_then (file ∷ a) b (fetch ∷ fetches) more (content ∷ contents) others one two = (one.0, accepted_then a b fetches more contents others one.1 two)

-- the files a were accepted, and then the reading stopped at one of b
stops_later : (P : File → Fetched → Type 0) (a b : List File) (fetches more : List Fetched) (contents : List FileContent) → AreAccepted a fetches contents → StopsAt P b more → StopsAt P (a ++ b) (fetches ++ more)
stops_later P [] b fetches more contents one two = rw one.0 two
stops_later P (file ∷ a) b [] more contents one two = absurd one
stops_later P (file ∷ a) b (fetch ∷ fetches) more [] one two = absurd one
stops_later P (file ∷ a) b (fetch ∷ fetches) more (content ∷ contents) one two = inr (content, one.0, stops_later P a b fetches more contents one.1 two)

-- the reading stopped at one of the files a, and those of b were not fetched
stops_first : (P : File → Fetched → Type 0) (a b : List File) (fetches : List Fetched) → StopsAt P a fetches → StopsAt P (a ++ b) fetches
stops_first P [] b fetches stops = absurd stops
stops_first P (file ∷ a) b [] stops = absurd stops
stops_first P (file ∷ a) b (fetch ∷ fetches) stops =
    elim stops [ inl here ↦ inl here | inr later ↦ inr (later.0, later.1, stops_first P a b fetches later.2) ]

-- if the reading stopped for a fact, it also stopped for a weaker one
stops_weaker : (P Q : File → Fetched → Type 0) (files : List File) (fetches : List Fetched) → ((file : File) (fetch : Fetched) → P file fetch → Q file fetch) → StopsAt P files fetches → StopsAt Q files fetches
stops_weaker P Q [] fetches weaker stops = stops
stops_weaker P Q (file ∷ files) [] weaker stops = stops
stops_weaker P Q (file ∷ files) (fetch ∷ fetches) weaker stops =
    elim stops [ inl here ↦ inl (weaker file fetch here.0, here.1) | inr later ↦ inr (later.0, later.1, stops_weaker P Q files fetches weaker later.2) ]

-- nothing is fetched yet
begun_none : (files : List File) → AreBegun files []
begun_none [] = refl
begun_none (file ∷ files) = tt

-- the files a were accepted, and those of b begun
begun_later : (a b : List File) (fetches more : List Fetched) (contents : List FileContent) → AreAccepted a fetches contents → AreBegun b more → AreBegun (a ++ b) (fetches ++ more)
begun_later [] b fetches more contents one two = rw one.0 two
begun_later (file ∷ a) b [] more contents one two = absurd one
begun_later (file ∷ a) b (fetch ∷ fetches) more [] one two = absurd one
begun_later (file ∷ a) b (fetch ∷ fetches) more (content ∷ contents) one two = inr (content, one.0, begun_later a b fetches more contents one.1 two)

-- files that were accepted are begun
accepted_begun : (files : List File) (fetches : List Fetched) (contents : List FileContent) → AreAccepted files fetches contents → AreBegun files fetches
accepted_begun [] fetches contents are = are.0
accepted_begun (file ∷ files) [] contents are = tt
accepted_begun (file ∷ files) (fetch ∷ fetches) [] are = absurd are
accepted_begun (file ∷ files) (fetch ∷ fetches) (content ∷ contents) are = inr (content, are.0, accepted_begun files fetches contents are.1)

-- the files a were begun, and those of b were not fetched
begun_first : (a b : List File) (fetches : List Fetched) → AreBegun a fetches → AreBegun (a ++ b) fetches
begun_first [] b fetches begun = rw begun (begun_none b)
begun_first (file ∷ a) b [] begun = tt
begun_first (file ∷ a) b (fetch ∷ fetches) begun =
    elim begun [ inl here ↦ inl here | inr later ↦ inr (later.0, later.1, begun_first a b fetches later.2) ]

-- a shelf that isn't sure of a name now wasn't before
unsure_before : (first second : ShelfState) (fetches : List Fetched) (name : List ℕ) → FetchesEach first second fetches → second.sure name ≡ false → first.sure name ≡ false
unsure_before first second fetches name each unsure = go (first.sure name) refl
  where
    go : (b : Bool) → first.sure name ≡ b → first.sure name ≡ false
    go true is = let still : second.sure name ≡ true = each.sure name is in cc
    go false is = is

reading_stops_later : (first second third : ShelfState) (a b : List File) (fetches more : List Fetched) (contents : List FileContent) (reason : Reason) → FetchesEach first second fetches → AreAccepted a fetches contents
    → ReadingStops second third b more reason → ReadingStops first third (a ++ b) (fetches ++ more) reason
reading_stops_later first second third a b fetches more contents (AtFile name) each accepted stops =
    record {
      stopped = stops_later (IsUnsure first name) a b fetches more contents accepted
          (stops_weaker (IsUnsure second name) (IsUnsure first name) b more (λ file fetch is. record { named = is.named; failed = is.failed; unsure = unsure_before first second fetches name each is.unsure }) stops.stopped);
      rose = rose_later first.faults second.faults third.faults each.later stops.rose;
    }
reading_stops_later first second third a b fetches more contents AtOutput each accepted stops = stops
reading_stops_later first second third a b fetches more contents (AtInput name fault) each accepted stops = stops_later (IsRefusedAs name fault) a b fetches more contents accepted stops
reading_stops_later first second third a b fetches more contents (AtRoom element) each accepted stops = stops
reading_stops_later first second third a b fetches more contents AtMemory each accepted stops = begun_later a b fetches more contents accepted stops

reading_stops_first : (first second : ShelfState) (a b : List File) (fetches : List Fetched) (reason : Reason) → ReadingStops first second a fetches reason → ReadingStops first second (a ++ b) fetches reason
reading_stops_first first second a b fetches (AtFile name) stops = record { stopped = stops_first (IsUnsure first name) a b fetches stops.stopped; rose = stops.rose }
reading_stops_first first second a b fetches AtOutput stops = stops
reading_stops_first first second a b fetches (AtInput name fault) stops = stops_first (IsRefusedAs name fault) a b fetches stops
reading_stops_first first second a b fetches (AtRoom element) stops = stops
reading_stops_first first second a b fetches AtMemory stops = begun_first a b fetches stops

-- the outcome of reading files with these contents first, and then others with this outcome
abbrev pub after : List FileContent → ReadOutcome → ReadOutcome
after contents (Contents others) = Contents (contents ++ others)
after contents (Stopped reason) = Stopped reason

comes_then : (first second third : ShelfState) (a b : List File) (fetches more : List Fetched) (contents : List FileContent) (outcome : ReadOutcome) → FetchesEach first second fetches → AreAccepted a fetches contents
    → ComesTo second third b more outcome → ComesTo first third (a ++ b) (fetches ++ more) (after contents outcome)
comes_then first second third a b fetches more contents (Contents others) each accepted comes = accepted_then a b fetches more contents others accepted comes
comes_then first second third a b fetches more contents (Stopped reason) each accepted comes = reading_stops_later first second third a b fetches more contents reason each accepted comes

-- no file was read
pub reads_none : (shelf : ShelfState) → ReadsFiles shelf shelf [] (Contents [])
reads_none shelf = record { fetches = []; fetched = fetches_none shelf; comes = (refl, refl) }

-- the files a were read, and then those of b
pub reads_then : (first second third : ShelfState) (a b : List File) (contents : List FileContent) (outcome : ReadOutcome) → ReadsFiles first second a (Contents contents) → ReadsFiles second third b outcome
    → ReadsFiles first third (a ++ b) (after contents outcome)
reads_then first second third a b contents outcome one two =
    record {
      fetches = one.fetches ++ two.fetches;
      fetched = fetches_then first second third one.fetches two.fetches one.fetched two.fetched;
      comes = comes_then first second third a b one.fetches two.fetches contents outcome one.fetched one.comes two.comes;
    }

-- the reading of the files a stopped, and so that of more files did
pub reads_stopped : (first second : ShelfState) (a b : List File) (reason : Reason) → ReadsFiles first second a (Stopped reason) → ReadsFiles first second (a ++ b) (Stopped reason)
reads_stopped first second a b reason reads =
    record { fetches = reads.fetches; fetched = reads.fetched; comes = reading_stops_first first second a b reads.fetches reason reads.comes }

-- files were read, and then memory ran out
pub reads_wanting : (first second : ShelfState) (files : List File) (contents : List FileContent) → ReadsFiles first second files (Contents contents) → ReadsFiles first second files (Stopped AtMemory)
reads_wanting first second files contents reads =
    record { fetches = reads.fetches; fetched = reads.fetched; comes = accepted_begun files reads.fetches contents reads.comes }

stops_for : (command : Job) (shelf new_shelf : ShelfState) (fetches : List Fetched) (out err new_err : SinkState) (reason : Reason) → ReadingStops shelf new_shelf (files_of command) fetches reason
    → StopsFor command (outside_of shelf out err) (outside_of new_shelf out new_err) fetches reason
stops_for command shelf new_shelf fetches out err new_err (AtFile name) stops = record { stopped = stops.stopped; rose = stops.rose; unwritten = refl }
stops_for command shelf new_shelf fetches out err new_err AtOutput stops = absurd stops
stops_for command shelf new_shelf fetches out err new_err (AtInput name fault) stops = record { stopped = stops; unwritten = refl }
stops_for command shelf new_shelf fetches out err new_err (AtRoom element) stops = absurd stops
stops_for command shelf new_shelf fetches out err new_err AtMemory stops = inl (record { begun = stops; unwritten = refl })

-- a command stopped at its files, with nothing written
pub carries_stopped : (command : Job) (shelf new_shelf : ShelfState) (out : SinkState) (reason : Reason) → ReadsFiles shelf new_shelf (files_of command) (Stopped reason) → CarriesOut command shelf new_shelf out out (Some reason)
carries_stopped command shelf new_shelf out reason reads =
    record { fetches = reads.fetches; fetched = reads.fetched; ends = λ err new_err. stops_for command shelf new_shelf reads.fetches out err new_err reason reads.comes }

-- a command's files were read, and its whole text was written
pub carries_done : (command : Job) (shelf new_shelf : ShelfState) (out new_out : SinkState) (contents : List FileContent) → ReadsFiles shelf new_shelf (files_of command) (Contents contents)
    → (text : List ℕ) → IsJobText command contents text → PushedAll out new_out text → CarriesOut command shelf new_shelf out new_out None
carries_done command shelf new_shelf out new_out contents reads text is pushed =
    record { fetches = reads.fetches; fetched = reads.fetched; ends = λ err new_err. record { contents = contents; accepted = reads.comes; text = text; is_text = is; written = pushed } }

-- a command's files were read, and a prefix of its text was written
pub carries_cut : (command : Job) (shelf new_shelf : ShelfState) (out new_out : SinkState) (contents : List FileContent) → ReadsFiles shelf new_shelf (files_of command) (Contents contents)
    → (text : List ℕ) → IsJobText command contents text → PushedFront out new_out text → CarriesOut command shelf new_shelf out new_out (Some AtOutput)
carries_cut command shelf new_shelf out new_out contents reads text is pushed =
    record { fetches = reads.fetches; fetched = reads.fetched; ends = λ err new_err. record { contents = contents; accepted = reads.comes; text = text; is_text = is; cut = pushed } }

-- a command's files were read, and a proper prefix of its text was written before memory ran out
pub carries_broken : (command : Job) (shelf new_shelf : ShelfState) (out new_out : SinkState) (contents : List FileContent) → ReadsFiles shelf new_shelf (files_of command) (Contents contents)
    → (text : List ℕ) → IsJobText command contents text → (broken : PushedProperPrefix out new_out text) → WritesInPlay command contents broken.front
    → CarriesOut command shelf new_shelf out new_out (Some AtMemory)
carries_broken command shelf new_shelf out new_out contents reads text is pushed in_play =
    record { fetches = reads.fetches; fetched = reads.fetched; ends = λ err new_err. inr (record { contents = contents; accepted = reads.comes; text = text; is_text = is; broken = pushed; in_play = in_play }) }

-- memory ran out before a file was fetched
pub carries_nothing : (command : Job) (shelf : ShelfState) (out : SinkState) → CarriesOut command shelf shelf out out (Some AtMemory)
carries_nothing command shelf out = record { fetches = []; fetched = fetches_none shelf; ends = λ err new_err. inl (record { begun = begun_none (files_of command); unwritten = refl }) }

-- what was written ends in LF, or has no bytes
last_byte : (words : List (List ℕ)) (command : PlainAsked) (before after : Outside) (fetches : List Fetched) → IsCommand words command → (done : IsDone (job_of command) before after fetches)
    → (ends_in_lf done.text ≡ true) ⊎ TellsNoLabel command done.text
last_byte words command before after fetches is done = texts_end_in_lf command fetches done.contents done.text (within_limits words command is) done.accepted done.is_text

ends_as : (words : List (List ℕ)) (command : PlainAsked) (before after : Outside) (fetches : List Fetched) (stop : Option Reason) → IsCommand words command → EndsBy (job_of command) before after fetches stop
    → Ends words before after fetches (ending_by stop)
ends_as words command before after fetches None is ends =
    record {
      command = command;
      is_command = is;
      done = ends;
      flushed = λ some. elim (last_byte words command before after fetches is ends) [ inl last ↦ ends.written.flushed last | inr none ↦ absurd (some none.empty) ];
      kept = λ quiet. elim (last_byte words command before after fetches is ends) [ inl last ↦ ends.written.flushed last | inr none ↦ ends.written.kept none.empty quiet ];
    }
ends_as words command before after fetches (Some reason) is ends = record { command = command; is_command = is; stopped = ends }

-- if words are a command, they were carried out as the command was
pub carries_words : (words : List (List ℕ)) (command : PlainAsked) (shelf new_shelf : ShelfState) (out new_out : SinkState) (stop : Option Reason) → IsCommand words command
    → CarriesOut (job_of command) shelf new_shelf out new_out stop → CarriesOutWords words shelf new_shelf out new_out (ending_by stop)
carries_words words command shelf new_shelf out new_out stop is carried =
    record {
      fetches = carried.fetches;
      fetched = carried.fetched;
      ends = λ err new_err. ends_as words command (outside_of shelf out err) (outside_of new_shelf new_out new_err) carried.fetches stop is (carried.ends err new_err);
    }

-- words that are not a command were refused
pub carries_no_words : (words : List (List ℕ)) (word : ℕ) (shelf : ShelfState) (out : SinkState) → IsRefusedAt words word → CarriesOutWords words shelf shelf out out (RefusedWord word)
carries_no_words words word shelf out refused =
    record { fetches = []; fetched = fetches_none shelf; ends = λ err new_err. record { refused = refused; unfetched = refl; kept = refl; unwritten = refl } }

-- the outcome of a call that returns a stop
pub outcome_stopped : {V : Type 0} (contents_of : V → List FileContent) (result : Result V CommandStop) (why : CommandStop) → IsErrAnd result (λ other. other ≡ why) → Stopped (reason_of why) ≡ outcome_of contents_of result
outcome_stopped contents_of (Ok value) why same = absurd same
outcome_stopped contents_of (Err other) why same = ap (λ s. Stopped (reason_of s)) (sym same)

-- a call that returns the stop of the files a, which come first
pub stopped_first : {V : Type 0} (contents_of : V → List FileContent) (first second : ShelfState) (a b : List File) (result : Result V CommandStop) (why : CommandStop) → IsErrAnd result (λ other. other ≡ why)
    → ReadsFiles first second a (Stopped (reason_of why)) → ReadsFiles first second (a ++ b) (outcome_of contents_of result)
stopped_first contents_of first second a b result why same reads =
    subst (ReadsFiles first second (a ++ b)) (outcome_stopped contents_of result why same) (reads_stopped first second a b (reason_of why) reads)

-- a call that returns the stop of the files b; the files a were read before them
pub stopped_later : {V : Type 0} (contents_of : V → List FileContent) (first second third : ShelfState) (a b : List File) (contents : List FileContent) (result : Result V CommandStop) (why : CommandStop) → IsErrAnd result (λ other. other ≡ why)
    → ReadsFiles first second a (Contents contents) → ReadsFiles second third b (Stopped (reason_of why)) → ReadsFiles first third (a ++ b) (outcome_of contents_of result)
stopped_later contents_of first second third a b contents result why same one two =
    subst (ReadsFiles first third (a ++ b)) (outcome_stopped contents_of result why same) (reads_then first second third a b contents (Stopped (reason_of why)) one two)

pub ending_stopped : {U : Type 0} (result : Result U CommandStop) (why : CommandStop) → IsErrAnd result (λ other. other ≡ why) → Some (reason_of why) ≡ ending_of result
ending_stopped (Ok done) why same = absurd same
ending_stopped (Err other) why same = ap (λ s. Some (reason_of s)) (sym same)

-- a command that returns the stop of its files
pub carries_stop : {U : Type 0} (command : Job) (shelf new_shelf : ShelfState) (out : SinkState) (result : Result U CommandStop) (why : CommandStop) → IsErrAnd result (λ other. other ≡ why)
    → ReadsFiles shelf new_shelf (files_of command) (Stopped (reason_of why)) → CarriesOut command shelf new_shelf out out (ending_of result)
carries_stop command shelf new_shelf out result why same reads =
    subst (CarriesOut command shelf new_shelf out out) (ending_stopped result why same) (carries_stopped command shelf new_shelf out (reason_of why) reads)

-- a command that returns that its output failed
carries_failure : {U : Type 0} (command : Job) (shelf new_shelf : ShelfState) (out new_out : SinkState) (contents : List FileContent) (result : Result U CommandStop) → IsErrAnd result (λ other. other ≡ stop.Write)
    → ReadsFiles shelf new_shelf (files_of command) (Contents contents) → (text : List ℕ) → IsJobText command contents text → PushedFront out new_out text → CarriesOut command shelf new_shelf out new_out (ending_of result)
carries_failure command shelf new_shelf out new_out contents result same reads text is pushed =
    subst (CarriesOut command shelf new_shelf out new_out) (ending_stopped result stop.Write same) (carries_cut command shelf new_shelf out new_out contents reads text is pushed)

-- a command that pushes its text last, and returns the result of the push
pub carries_pushed : {U : Type 0} (command : Job) (shelf new_shelf : ShelfState) (out new_out : SinkState) (contents : List FileContent) (result : Result U CommandStop) (last : Result (Unit {0}) Failed) → ending_of result ≡ push_ending last
    → ReadsFiles shelf new_shelf (files_of command) (Contents contents) → (text : List ℕ) → IsJobText command contents text → Pushed out new_out text last → CarriesOut command shelf new_shelf out new_out (ending_of result)
carries_pushed command shelf new_shelf out new_out contents result (Ok done) same reads text is pushed =
    subst (CarriesOut command shelf new_shelf out new_out) (sym same) (carries_done command shelf new_shelf out new_out contents reads text is pushed)
carries_pushed command shelf new_shelf out new_out contents result (Err failed) same reads text is pushed =
    subst (CarriesOut command shelf new_shelf out new_out) (sym same) (carries_cut command shelf new_shelf out new_out contents reads text is pushed)

-- a command that returns the fault of a play
pub carries_fault : {U : Type 0} (command : Job) (shelf new_shelf : ShelfState) (out new_out : SinkState) (contents : List FileContent) (result : Result U CommandStop) (fault : PushFault) → IsErrAnd result (λ other. other ≡ stop_of fault)
    → ReadsFiles shelf new_shelf (files_of command) (Contents contents) → (text : List ℕ) → IsJobText command contents text → StoppedBy out new_out text fault → ((front : List ℕ) → WritesInPlay command contents front)
    → CarriesOut command shelf new_shelf out new_out (ending_of result)
carries_fault command shelf new_shelf out new_out contents result play.WriteFault same reads text is pushed in_play = carries_failure command shelf new_shelf out new_out contents result same reads text is pushed
carries_fault command shelf new_shelf out new_out contents result play.OutOfMemory same reads text is pushed in_play =
    subst (CarriesOut command shelf new_shelf out new_out) (ending_stopped result stop.Memory same) (carries_broken command shelf new_shelf out new_out contents reads text is pushed (in_play pushed.front))

-- a command that plays a game last, and returns the result of the play
pub carries_played : {U V : Type 0} (command : Job) (shelf new_shelf : ShelfState) (out new_out : SinkState) (contents : List FileContent) (result : Result U CommandStop) (last : Result V PushFault) → ending_of result ≡ play_ending last
    → ReadsFiles shelf new_shelf (files_of command) (Contents contents) → (text : List ℕ) → IsJobText command contents text → PushedBy out new_out text last → ((front : List ℕ) → WritesInPlay command contents front)
    → CarriesOut command shelf new_shelf out new_out (ending_of result)
carries_played command shelf new_shelf out new_out contents result (Ok done) same reads text is pushed in_play =
    subst (CarriesOut command shelf new_shelf out new_out) (sym same) (carries_done command shelf new_shelf out new_out contents reads text is pushed)
carries_played command shelf new_shelf out new_out contents result (Err play.WriteFault) same reads text is pushed in_play =
    subst (CarriesOut command shelf new_shelf out new_out) (sym same) (carries_cut command shelf new_shelf out new_out contents reads text is pushed)
carries_played command shelf new_shelf out new_out contents result (Err play.OutOfMemory) same reads text is pushed in_play =
    subst (CarriesOut command shelf new_shelf out new_out) (sym same) (carries_broken command shelf new_shelf out new_out contents reads text is pushed (in_play pushed.front))

-- a command that returns out of memory before a file was fetched
pub carries_wanting : {U : Type 0} (command : Job) (shelf : ShelfState) (out : SinkState) (result : Result U CommandStop) → IsErrAnd result (λ other. other ≡ stop.Memory) → CarriesOut command shelf shelf out out (ending_of result)
carries_wanting command shelf out result same = subst (CarriesOut command shelf shelf out out) (ending_stopped result stop.Memory same) (carries_nothing command shelf out)

-- a command that returns out of memory after its files were read
pub carries_wanting_later : {U : Type 0} (command : Job) (shelf new_shelf : ShelfState) (out : SinkState) (contents : List FileContent) (result : Result U CommandStop) → IsErrAnd result (λ other. other ≡ stop.Memory)
    → ReadsFiles shelf new_shelf (files_of command) (Contents contents) → CarriesOut command shelf new_shelf out out (ending_of result)
carries_wanting_later command shelf new_shelf out contents result same reads =
    carries_stop command shelf new_shelf out result stop.Memory same (reads_wanting shelf new_shelf (files_of command) contents reads)

-- a command that returns the fault of a report, which has all its memory before it pushes
pub carries_early : {U : Type 0} (command : Job) (shelf new_shelf : ShelfState) (out new_out : SinkState) (contents : List FileContent) (result : Result U CommandStop) (fault : PushFault) → IsErrAnd result (λ other. other ≡ stop_of fault)
    → ReadsFiles shelf new_shelf (files_of command) (Contents contents) → (text : List ℕ) → IsJobText command contents text → StoppedBefore out new_out text fault → CarriesOut command shelf new_shelf out new_out (ending_of result)
carries_early command shelf new_shelf out new_out contents result play.WriteFault same reads text is pushed = carries_failure command shelf new_shelf out new_out contents result same reads text is pushed
carries_early command shelf new_shelf out new_out contents result play.OutOfMemory same reads text is kept =
    subst (λ after. CarriesOut command shelf new_shelf out after (ending_of result)) (sym kept) (carries_wanting_later command shelf new_shelf out contents result same reads)
