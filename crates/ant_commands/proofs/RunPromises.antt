-- Each `run` keeps its promise: what its status says follows from the law `headline`, and its words from the table.
use Rattle.std.proofs.Common.{◌≡◌, ◌≢◌, ◌⊎◌, inl, inr, ℕ, Bool, false, List, [], ◌∷◌, ◌++◌, Some, Result, Ok, Err, codes, refl, sym, ap, ◌∙◌, subst}
use Rattle.std.specs.List.{Contains, flat_map}
use Rattle.std.proofs.lemmas.Bool.{false≢true}
use Rattle.std.proofs.lemmas.List.{append-nil, append_assoc}
use Rattle.ant_base.specs.Faults.{Rose}
use Rattle.ant_base.specs.Fetched.{Fetched}
use Rattle.ant_base.specs.Layout.{◌+++◌}
use Rattle.ant_base.specs.Shelf.{FetchesEach, ShelfState}
use Rattle.ant_base.specs.Sink.{Pushed, PushedAll, PushedFront, SinkState}
use Rattle.ant_base.specs.declared.sink.Failed.{Failed}
use Rattle.ant_base.specs.declared.shelf.FetchFault.{FetchFault}
use Rattle.ant_base.specs.declared.shelf.FetchFault.TheVariants as why
use Rattle.ant_turn.specs.Rounds.{start_of}
use Rattle.cell_world.specs.Grid.{world_of}
use Rattle.command_words.proofs.SaidLemmas as said_laws
use Rattle.command_words.proofs.TableLemmas.{command_kind_of-word}
use Rattle.command_words.proofs.WordLaws as words_laws
use Rattle.command_words.specs.Command.{IsCommand, IsCommandOf, PlainAsked, asked_in, given_words, joined}
use Rattle.command_words.specs.Inner.Walk.{command_kind_of}
use Rattle.command_words.specs.Table.{option_of, word_of}
use Rattle.command_words.specs.declared.table.CommandKind.{CommandKind}
use Rattle.command_words.specs.declared.table.CommandKind.TheVariants.{Run}
use Rattle.command_words.specs.declared.table.Choice.TheVariants as choice
use Rattle.match_run.specs.Counts.{counts_text, totals_of, whole_text}
use Rattle.match_run.specs.Run.{dumps_text, run_text}
use Rattle.ant_commands.specs.declared.stop.FileFault.{FileFault}
use Rattle.ant_commands.specs.Endings.{IsUnsure, StopsFor}
use Rattle.ant_commands.specs.FaultLines.{Reason, fault_line, file_fault_text}
use Rattle.ant_commands.specs.FaultLines.Reason.{AtFile, AtInput, AtMemory, AtOutput, AtRoom}
use Rattle.ant_commands.specs.Files.{AreAccepted, AreBegun, File, FileContent, FileKind, IsFetched, IsRefused, Reads}
use Rattle.ant_commands.specs.Files.FileContent.{WorldContent, BrainContent, BreakContent, LabelledContent, SourceContent, SaveContent}
use Rattle.ant_commands.specs.Files.FileKind.{WorldFile, BrainFile}
use Rattle.ant_commands.specs.Files as files
use Rattle.ant_commands.specs.Headline.{KeepsPromise, NamesTheReason, PrintsTheGame}
use Rattle.ant_commands.specs.Job.{IsJobText}
use Rattle.ant_commands.specs.Jobs.{job_of, run_job}
use Rattle.ant_commands.specs.Outputs.{ReadGame, brain_file, chosen_rounds, game_contents, game_files, match_output, minds_named, sheet_named, world_file}
use Rattle.ant_commands.specs.Outside.{Outside}
use Rattle.ant_commands.specs.Run.{GotLine, IsRunTo}
use Rattle.ant_commands.specs.RunPromise.{ComesNext, DidFetch, HasLine, IsCutOff, IsNotAccepted, IsPrinted, IsRunOf, IsText, IsNotBegun, IsUnfit, IsNotRead, Plays, PushedPart, RefusedWords, RunAsked, RunEnds, RunPromise, RunShelf, StopsAtFile, TextKind, IsOutOfMemory, fetch}
use Rattle.ant_commands.specs.RunPromise.ComesNext.{WorldFirst, RedNext, BlackLast}
use Rattle.ant_commands.specs.RunPromise.IsNotBegun.{NothingFetched, BytesCame, NoBytes}
use Rattle.ant_commands.specs.RunPromise.TextKind.{OfWorld, OfBrain}
use Rattle.ant_commands.specs.Setups.{RunSetup, setup_of}
use Rattle.ant_commands.specs.Verdict.{IsRefusedAs}
use Rattle.ant_commands.proofs.Headlines.{headline}
use Rattle.ant_commands.proofs.RunWords.{IsTableRun, among_words, run_of_form, run_said, table_run}
use Rattle.ant_commands.proofs.Texts.{never_both}

-- what a run of the files with the options requests
abbrev asked_for : List ℕ → List ℕ → List ℕ → RunSetup → RunAsked
asked_for world red black setup =
    record { world = world; red = red; black = black; seed = setup.seed; rounds = setup.rounds; dumps = chosen_rounds setup.dumps; sheet = sheet_named setup }

abbrev game_text : RunSetup → ReadGame → List ℕ
game_text setup game = run_text (minds_named setup game.red game.black) setup.seed setup.rounds (chosen_rounds setup.dumps) (world_of game.world)

-- without counts the output is the text of the game
text_of_game : (setup : RunSetup) (read : ReadGame) → setup.stats ≡ false → match_output setup read ≡ game_text setup read
unfolding match_output whole_text
text_of_game setup read off =
    ap (λ (stats : Bool). game_text setup read +++ counts_text stats (totals_of (minds_named setup read.red read.black) setup.seed setup.window (start_of (world_of read.world)) setup.rounds)) off
    ∙ append-nil (game_text setup read)

-- the line of a fault, or a prefix of it
has_line : (err new_err : SinkState) (line : List ℕ) → GotLine err new_err line → HasLine err new_err line
has_line err new_err line got = go got.0 got.1 where
  go : (result : Result (Unit {0}) Failed) → Pushed err new_err line result → HasLine err new_err line
  go (Ok _) pushed = inl pushed
  go (Err _) pushed = inr pushed

-- three files that are accepted, and what was written of the text of their game
plays_read : (IsWritten : SinkState → SinkState → List ℕ → Type 0) (world red black : List ℕ) (setup : RunSetup) (before after : Outside) (fetches : List Fetched) (read : ReadGame) (text : List ℕ)
    → DidFetch before after fetches → AreAccepted (game_files world red black) fetches (game_contents read) → text ≡ match_output setup read → setup.stats ≡ false
    → IsWritten before.out after.out text → Plays IsWritten (asked_for world red black setup) before after
plays_read IsWritten world red black setup before after [] read text fetched are is off written = absurd are
plays_read IsWritten world red black setup before after (a ∷ []) read text fetched are is off written = absurd are.1
plays_read IsWritten world red black setup before after (a ∷ b ∷ []) read text fetched are is off written = absurd are.1.1
plays_read IsWritten world red black setup before after (a ∷ b ∷ c ∷ fetches) read text fetched are is off written =
    let x = are.0 in
    let y = are.1.0 in
    let z = are.1.1.0 in
    let same : a ∷ b ∷ c ∷ fetches ≡ fetch world (Ok x.bytes) ∷ fetch red (Ok y.bytes) ∷ fetch black (Ok z.bytes) ∷ [] =
    ap (λ (f : Fetched). f ∷ b ∷ c ∷ fetches) x.got ∙ ap (λ (f : Fetched). fetch world (Ok x.bytes) ∷ f ∷ c ∷ fetches) y.got
    ∙ ap (λ (f : Fetched). fetch world (Ok x.bytes) ∷ fetch red (Ok y.bytes) ∷ f ∷ fetches) z.got
    ∙ ap (λ (more : List Fetched). fetch world (Ok x.bytes) ∷ fetch red (Ok y.bytes) ∷ fetch black (Ok z.bytes) ∷ more) are.1.1.1.0 in
    record {
      first = x.bytes;
      second = y.bytes;
      third = z.bytes;
      fetched = subst (DidFetch before after) same fetched;
      grid = read.world;
      minds = minds_named setup read.red read.black;
      is_world = x.reads;
      is_red = y.reads;
      is_black = z.reads;
      rules = refl;
      written = subst (IsWritten before.out after.out) (is ∙ text_of_game setup read off) written;
    }

plays : (IsWritten : SinkState → SinkState → List ℕ → Type 0) (world red black : List ℕ) (setup : RunSetup) (before after : Outside) (fetches : List Fetched) (contents : List FileContent) (text : List ℕ)
    → DidFetch before after fetches → AreAccepted (game_files world red black) fetches contents → IsJobText (run_job world red black setup) contents text → setup.stats ≡ false
    → IsWritten before.out after.out text → Plays IsWritten (asked_for world red black setup) before after
plays IsWritten world red black setup before after fetches contents text fetched are is off written =
    plays_read IsWritten world red black setup before after fetches is.value text fetched (subst (AreAccepted (game_files world red black) fetches) is.read are) is.told off written

-- status 0
printed : (world red black : List ℕ) (setup : RunSetup) (before after : Outside) → setup.stats ≡ false → PrintsTheGame world red black setup before after
    → IsPrinted (asked_for world red black setup) before after
unfolding run_text dumps_text
printed world red black setup before after off it =
    let read : ReadGame = record { world = it.start; red = it.red_brain; black = it.black_brain } in
    let whole : game_text setup read +++ it.counts ≡ game_text setup read =
    ap (λ (counts : List ℕ). game_text setup read +++ counts) (it.uncounted off) ∙ append-nil (game_text setup read) in
    record {
      plays = record {
        first = it.world_bytes;
        second = it.red_bytes;
        third = it.black_bytes;
        fetched = it.fetched.log;
        grid = read.world;
        minds = minds_named setup read.red read.black;
        is_world = it.is_world;
        is_red = it.is_red;
        is_black = it.is_black;
        rules = refl;
        written = subst (PushedAll before.out after.out) whole it.written;
      };
      flushed = it.flushed;
      silent = it.silent;
    }

-- what is read of a world's file is a world, and of a brain's a brain
a_world : (bytes : List ℕ) (content : FileContent) → Reads WorldFile bytes content → IsText OfWorld bytes
a_world bytes (WorldContent grid) reads = (grid, reads)
a_world bytes (BrainContent list) reads = absurd reads
a_world bytes (BreakContent items) reads = absurd reads
a_world bytes (LabelledContent brain places) reads = absurd reads
a_world bytes (SourceContent source) reads = absurd reads
a_world bytes (SaveContent saved) reads = absurd reads

a_brain : (bytes : List ℕ) (content : FileContent) → Reads BrainFile bytes content → IsText OfBrain bytes
a_brain bytes (WorldContent grid) reads = absurd reads
a_brain bytes (BrainContent list) reads = (list, reads)
a_brain bytes (BreakContent items) reads = absurd reads
a_brain bytes (LabelledContent brain places) reads = absurd reads
a_brain bytes (SourceContent source) reads = absurd reads
a_brain bytes (SaveContent saved) reads = absurd reads

-- the last fetch of a run
abbrev Answer : Type 0
Answer = Result (List ℕ) FetchFault

record IsLast (IsSo : TextKind → List ℕ → Answer → Type 0) (kind : TextKind) (name : List ℕ) (last : Fetched) : Type 0 where
  answer : Answer
  got : last ≡ fetch name answer
  such : IsSo kind name answer

-- a run that stopped at one of its files
record IsStop (IsSo : TextKind → List ℕ → Answer → Type 0) (asked : RunAsked) (before after : Outside) : Type 0 where
  kind : TextKind
  name : List ℕ
  answer : Answer
  at : StopsAtFile asked before after kind name answer
  such : IsSo kind name answer

module _ (IsOld : File → Fetched → Type 0) (IsSo : TextKind → List ℕ → Answer → Type 0)
    (last_world : (name : List ℕ) (last : Fetched) → IsOld (world_file name) last → IsLast IsSo OfWorld name last)
    (last_brain : (name : List ℕ) (last : Fetched) → IsOld (brain_file name) last → IsLast IsSo OfBrain name last)
    (asked : RunAsked) (before after : Outside) (unwritten : after.out ≡ before.out) where
  ended : {kind : TextKind} {name : List ℕ} (earlier : List Fetched) → ComesNext asked kind name earlier → (last : Fetched) (fetches : List Fetched) → IsLast IsSo kind name last → fetches ≡ []
      → DidFetch before after (earlier ++ (last ∷ fetches)) → IsStop IsSo asked before after
  ended {kind} {name} earlier next last fetches is none did = record {
    kind = kind;
    name = name;
    answer = is.answer;
    at = record {
      earlier = earlier;
      next = next;
      fetched = subst (λ (fs : List Fetched). DidFetch before after (earlier ++ fs))
          (ap (λ (f : Fetched). f ∷ fetches) is.got ∙ ap (λ (more : List Fetched). fetch name is.answer ∷ more) none) did;
      unwritten = unwritten;
    };
    such = is.such;
  }

  at_black : (first second : List ℕ) (fetches : List Fetched) → IsText OfWorld first → IsText OfBrain second → files.StopsAt IsOld (brain_file asked.black ∷ []) fetches
      → DidFetch before after (fetch asked.world (Ok first) ∷ fetch asked.red (Ok second) ∷ fetches) → IsStop IsSo asked before after
  at_black first second [] is_world is_brain at did = absurd at
  at_black first second (c ∷ fetches) is_world is_brain (inr later) did = absurd later.2
  at_black first second (c ∷ fetches) is_world is_brain (inl here) did =
      ended (fetch asked.world (Ok first) ∷ fetch asked.red (Ok second) ∷ []) (BlackLast first second is_world is_brain) c fetches (last_brain asked.black c here.0) here.1 did

  at_red : (first : List ℕ) (fetches : List Fetched) → IsText OfWorld first → files.StopsAt IsOld (brain_file asked.red ∷ brain_file asked.black ∷ []) fetches
      → DidFetch before after (fetch asked.world (Ok first) ∷ fetches) → IsStop IsSo asked before after
  at_red first [] is_world at did = absurd at
  at_red first (b ∷ fetches) is_world (inl here) did =
      ended (fetch asked.world (Ok first) ∷ []) (RedNext first is_world) b fetches (last_brain asked.red b here.0) here.1 did
  at_red first (b ∷ fetches) is_world (inr later) did = at_black first later.1.bytes fetches is_world (a_brain later.1.bytes later.0 later.1.reads) later.2
      (subst (λ (f : Fetched). DidFetch before after (fetch asked.world (Ok first) ∷ f ∷ fetches)) later.1.got did)

  stops : (fetches : List Fetched) → files.StopsAt IsOld (game_files asked.world asked.red asked.black) fetches → DidFetch before after fetches → IsStop IsSo asked before after
  stops [] at did = absurd at
  stops (a ∷ fetches) (inl here) did = ended [] WorldFirst a fetches (last_world asked.world a here.0) here.1 did
  stops (a ∷ fetches) (inr later) did =
      at_red later.1.bytes fetches (a_world later.1.bytes later.0 later.1.reads) later.2 (subst (λ (f : Fetched). DidFetch before after (f ∷ fetches)) later.1.got did)

-- status 3
abbrev IsFailedFetch : List ℕ → TextKind → List ℕ → Answer → Type 0
IsFailedFetch name kind file answer = (file ≡ name) × (answer ≡ Err why.Failed)

last_unsure : (shelf : ShelfState) (name : List ℕ) (kind : FileKind) (text : TextKind) (other : List ℕ) (last : Fetched) → IsUnsure shelf name (record { name = other; kind = kind }) last
    → IsLast (IsFailedFetch name) text other last
last_unsure shelf name kind text other last is = record { answer = Err why.Failed; got = is.failed; such = (is.named, refl) }

never_sure : (shelf : ShelfState) (name : List ℕ) (list : List File) (fetches : List Fetched) → files.StopsAt (IsUnsure shelf name) list fetches → shelf.sure name ≡ false
never_sure shelf name [] fetches at = absurd at
never_sure shelf name (file ∷ list) [] at = absurd at
never_sure shelf name (file ∷ list) (fetch ∷ fetches) (inl here) = here.0.unsure
never_sure shelf name (file ∷ list) (fetch ∷ fetches) (inr later) = never_sure shelf name list fetches later.2

-- status 5
abbrev IsUnfitFile : List ℕ → List ℕ → TextKind → List ℕ → Answer → Type 0
IsUnfitFile name says kind file answer = (file ≡ name) × IsUnfit kind answer says

last_unfit : (kind : FileKind) (text : TextKind) → ((bytes : List ℕ) → IsText text bytes → (content : FileContent) × Reads kind bytes content)
    → (other : List ℕ) (fault : FileFault) (last : Fetched) → IsRefused (record { name = other; kind = kind }) last fault
    → IsLast (λ text file answer. IsUnfit text answer (file_fault_text fault)) text other last
last_unfit kind text reads other fault last (inl long) = record { answer = Err why.TooLong; got = long.1; such = (refl, ap file_fault_text long.0) }
last_unfit kind text reads other fault last (inr it) =
    record { answer = Ok it.bytes; got = it.got; such = λ is. (let read = reads it.bytes is in never_both kind it.bytes read.0 fault read.1 it.refuses) }

last_refused : (kind : FileKind) (text : TextKind) → ((bytes : List ℕ) → IsText text bytes → (content : FileContent) × Reads kind bytes content)
    → (name other : List ℕ) (fault : FileFault) (last : Fetched) → IsRefusedAs name fault (record { name = other; kind = kind }) last
    → IsLast (IsUnfitFile name (file_fault_text fault)) text other last
last_refused kind text reads name other fault last is =
    let unfit = last_unfit kind text reads other fault last is.refused in
    record { answer = unfit.answer; got = unfit.got; such = (is.named, unfit.such) }

read_world : (bytes : List ℕ) → IsText OfWorld bytes → (content : FileContent) × Reads WorldFile bytes content
read_world bytes is = (WorldContent is.0, is.1)

read_brain : (bytes : List ℕ) → IsText OfBrain bytes → (content : FileContent) × Reads BrainFile bytes content
read_brain bytes is = (BrainContent is.0, is.1)

-- status 6
abbrev IsNoFault : TextKind → List ℕ → Answer → Type 0
IsNoFault kind file answer = ((bytes : List ℕ) × (answer ≡ Ok bytes)) ⊎ (answer ≡ Err why.OutOfMemory)

last_got : (kind : FileKind) (text : TextKind) (other : List ℕ) (last : Fetched) → IsFetched (record { name = other; kind = kind }) last → IsLast IsNoFault text other last
last_got kind text other last (inl got) = record { answer = Ok got.0; got = got.1; such = inl (got.0, refl) }
last_got kind text other last (inr want) = record { answer = Err why.OutOfMemory; got = want; such = inr refl }

begun_stops : (list : List File) (fetches : List Fetched) → AreBegun list fetches → (fetches ≡ []) ⊎ files.StopsAt IsFetched list fetches
begun_stops [] fetches e = inl e
begun_stops (file ∷ list) [] begun = inl refl
begun_stops (file ∷ list) (fetch ∷ fetches) (inl here) = inr (inl here)
begun_stops (file ∷ list) (fetch ∷ fetches) (inr later) = elim (begun_stops list fetches later.2) [
  | inl none ↦ inr (inl (inl (later.1.bytes, later.1.got), none))
  | inr rest ↦ inr (inr (later.0, later.1, rest))
]

-- a run that stopped for a reason
record HasStopped (world red black : List ℕ) (setup : RunSetup) (before after : Outside) (reason : Reason) : Type 0 where
  fetches : List Fetched
  fetched : FetchesEach before.shelf after.shelf fetches
  stopped : StopsFor (run_job world red black setup) before after fetches reason
  line : GotLine before.err after.err (fault_line reason)

-- the status if a file was not read
unread_at : (world red black : List ℕ) (setup : RunSetup) (before after : Outside) (name : List ℕ) → HasStopped world red black setup before after (AtFile name)
    → (kind : TextKind) × StopsAtFile (asked_for world red black setup) before after kind name (Err why.Failed)
unread_at world red black setup before after name it =
    let asked = asked_for world red black setup in
    let stop : IsStop (IsFailedFetch name) asked before after =
    stops (IsUnsure before.shelf name) (IsFailedFetch name) (last_unsure before.shelf name WorldFile OfWorld) (last_unsure before.shelf name BrainFile OfBrain)
    asked before after it.stopped.unwritten it.fetches it.stopped.stopped it.fetched.log in (
      stop.kind,
      subst (λ (answer : Answer). StopsAtFile asked before after stop.kind name answer) stop.such.1 (subst (λ (n : List ℕ). StopsAtFile asked before after stop.kind n stop.answer) stop.such.0 stop.at),
    )

unread : (world red black : List ℕ) (setup : RunSetup) (before after : Outside) (name : List ℕ) → HasStopped world red black setup before after (AtFile name) → IsNotRead (asked_for world red black setup) before after
unfolding fault_line
unread world red black setup before after name it =
    let at = unread_at world red black setup before after name it in
    record {
      kind = at.0;
      name = name;
      stopped = at.1;
      line = subst (HasLine before.err after.err) (ap (λ (says : List ℕ). codes "ants: " +++ says) (append_assoc name (codes ": not read") (codes "\n")))
          (has_line before.err after.err (fault_line (AtFile name)) it.line);
    }

cut_off : (world red black : List ℕ) (setup : RunSetup) (before after : Outside) → setup.stats ≡ false → HasStopped world red black setup before after AtOutput
    → IsCutOff (asked_for world red black setup) before after
unfolding fault_line
cut_off world red black setup before after off it = record {
  plays = plays PushedFront world red black setup before after it.fetches it.stopped.contents it.stopped.text it.fetched.log it.stopped.accepted it.stopped.is_text off it.stopped.cut;
  line = has_line before.err after.err (fault_line AtOutput) it.line;
}

not_accepted : (world red black : List ℕ) (setup : RunSetup) (before after : Outside) (name : List ℕ) (fault : FileFault) → HasStopped world red black setup before after (AtInput name fault)
    → IsNotAccepted (asked_for world red black setup) before after
unfolding fault_line
not_accepted world red black setup before after name fault it =
    let asked = asked_for world red black setup in
    let stop : IsStop (IsUnfitFile name (file_fault_text fault)) asked before after =
    stops (IsRefusedAs name fault) (IsUnfitFile name (file_fault_text fault))
    (λ other last. last_refused WorldFile OfWorld read_world name other fault last) (λ other last. last_refused BrainFile OfBrain read_brain name other fault last)
    asked before after it.stopped.unwritten it.fetches it.stopped.stopped it.fetched.log in
    record {
      kind = stop.kind;
      name = name;
      answer = stop.answer;
      says = file_fault_text fault;
      stopped = subst (λ (n : List ℕ). StopsAtFile asked before after stop.kind n stop.answer) stop.such.0 stop.at;
      unfit = stop.such.1;
      line = subst (HasLine before.err after.err) (ap (λ (says : List ℕ). codes "ants: " +++ says) (append_assoc name (codes ": " +++ file_fault_text fault) (codes "\n")))
          (has_line before.err after.err (fault_line (AtInput name fault)) it.line);
    }

-- a run that stopped at a file without a fault
stopped_short : {asked : RunAsked} {before after : Outside} → IsStop IsNoFault asked before after → IsNotBegun asked before after
stopped_short {asked} {before} {after} stop = elim stop.such [
  | inl came ↦ BytesCame stop.kind stop.name came.0 (subst (StopsAtFile asked before after stop.kind stop.name) came.1 stop.at)
  | inr wanting ↦ NoBytes stop.kind stop.name (subst (StopsAtFile asked before after stop.kind stop.name) wanting stop.at)
]

-- memory ran out before the text was begun, or after a proper prefix of it
wants_memory : (world red black : List ℕ) (setup : RunSetup) (before after : Outside) → setup.stats ≡ false → HasStopped world red black setup before after AtMemory
    → IsOutOfMemory (asked_for world red black setup) before after
unfolding fault_line
wants_memory world red black setup before after off it = record {
  stopped = elim it.stopped [
    | inl unbegun ↦ inl (elim (begun_stops (game_files world red black) it.fetches unbegun.begun) [
      | inl none ↦ NothingFetched (subst (DidFetch before after) none it.fetched.log) unbegun.unwritten
      | inr at ↦ stopped_short (stops IsFetched IsNoFault (last_got WorldFile OfWorld) (last_got BrainFile OfBrain)
          (asked_for world red black setup) before after unbegun.unwritten it.fetches at it.fetched.log)
    ])
    | inr it_broke ↦ inr (let part = it_broke.broken in plays PushedPart world red black setup before after it.fetches it_broke.contents it_broke.text it.fetched.log it_broke.accepted it_broke.is_text off
        (part.front, part.rest, part.whole, part.some_left, part.pushed))
  ];
  line = has_line before.err after.err (fault_line AtMemory) it.line;
}

-- the reason for which the command stopped is the reason for which this run stopped
has_stopped : (words : List (List ℕ)) (before after : Outside) (reason : Reason) → IsCommand words (asked_in Run words) → NamesTheReason words before after reason
    → HasStopped ((asked_in Run words).file 0) ((asked_in Run words).file 1) ((asked_in Run words).file 2) (setup_of (asked_in Run words)) before after reason
has_stopped words before after reason is it = record {
  fetches = it.fetches;
  fetched = it.fetched;
  stopped = subst (λ (command : PlainAsked). StopsFor (job_of command) before after it.fetches reason) (words_laws.one_command words it.command (asked_in Run words) it.is_command is) it.stopped;
  line = it.line;
}

ends : (words : List (List ℕ)) (before after : Outside) (number : ℕ) → KeepsPromise words before after number → IsCommand words (asked_in Run words) → (asked_in Run words).has choice.Stats ≡ false
    → RunEnds (run_said (asked_in Run words)) before after number
ends words before after number keeps is off =
    let asked : PlainAsked = asked_in Run words in
    let world = asked.file 0 in
    let red = asked.file 1 in
    let black = asked.file 2 in
    let setup : RunSetup = setup_of asked in
    elim keeps.no_other [
      | inl zero ↦ inl (zero, printed world red black setup before after off (keeps.game zero asked is refl).0)
      | inr (inl two) ↦ absurd ((keeps.no_command two).none asked is)
      | inr (inr (inl three)) ↦ (let it = keeps.not_read three in
          inr (inl (three, unread world red black setup before after it.0 (has_stopped words before after (AtFile it.0) is it.1))))
      | inr (inr (inr (inl four))) ↦ inr (inr (inl (four, cut_off world red black setup before after off (has_stopped words before after AtOutput is (keeps.output_failed four)))))
      | inr (inr (inr (inr (inl five)))) ↦ elim (keeps.refused five) [
        | inl it ↦ inr (inr (inr (inl (five, not_accepted world red black setup before after it.0 it.1 (has_stopped words before after (AtInput it.0 it.1) is it.2)))))
        | inr it ↦ absurd ((has_stopped words before after (AtRoom it.0) is it.1).stopped.lacks)
      ]
      | inr (inr (inr (inr (inr six)))) ↦ inr (inr (inr (inr (six, wants_memory world red black setup before after off (has_stopped words before after AtMemory is (keeps.out_of_memory six))))))
    ]

kept : (words : List (List ℕ)) (asked : RunAsked) → IsRunOf words asked → (before after : Outside) (number : ℕ) → IsRunTo words before after number → RunEnds asked before after number
kept words asked is before after number run =
    let it : IsTableRun words asked = table_run words asked is in
    subst (λ (a : RunAsked). RunEnds a before after number) it.said (ends words before after number (headline words before after number run) it.is it.uncounted)

-- both readings are that of the table
one : (words : List (List ℕ)) (a b : RunAsked) → IsRunOf words a → IsRunOf words b → a ≡ b
one words a b is also = sym (table_run words a is).said ∙ (table_run words b also).said

-- words that weren't refused are a command
commanded : (words : List (List ℕ)) (before after : Outside) (number : ℕ) → KeepsPromise words before after number → number ≢ 2 → (command : PlainAsked) × IsCommand words command
commanded words before after number keeps other = elim keeps.no_other [
  | inl zero ↦ (let it = keeps.printed zero in (it.command, it.is_command))
  | inr (inl two) ↦ absurd (other two)
  | inr (inr (inl three)) ↦ (let it = (keeps.not_read three).1 in (it.command, it.is_command))
  | inr (inr (inr (inl four))) ↦ (let it = keeps.output_failed four in (it.command, it.is_command))
  | inr (inr (inr (inr (inl five)))) ↦ elim (keeps.refused five) [ inl it ↦ (it.2.command, it.2.is_command) | inr it ↦ (it.1.command, it.1.is_command) ]
  | inr (inr (inr (inr (inr six)))) ↦ (let it = keeps.out_of_memory six in (it.command, it.is_command))
]

-- a command that begins with `run` is one
run_begins : (kind : CommandKind) → command_kind_of (word_of kind) ≡ Some kind → codes "run" ≡ word_of kind → kind ≡ Run
unfolding command_kind_of
run_begins kind known begins =
    let one : Some Run ≡ Some kind = ap command_kind_of begins ∙ known in
    cc

every : (words : List (List ℕ)) (before after : Outside) (number : ℕ) → IsRunTo (codes "run" ∷ words) before after number → number ≢ 2 → ¬ Contains words (codes "--stats")
    → (asked : RunAsked) × IsRunOf (codes "run" ∷ words) asked
every words before after number run other uncounted =
    let is = (commanded (codes "run" ∷ words) before after number (headline (codes "run" ∷ words) before after number run) other).1 in
    let begins : codes "run" ≡ word_of is.kind = (let whole = is.form.whole in cc) in
    let rest : words ≡ joined is.front ++ flat_map given_words is.given = (let whole = is.form.whole in cc) in
    let kind : is.kind ≡ Run = run_begins is.kind (command_kind_of-word is.kind is.form.known) begins in
    run_of_form is.front is.given (codes "run" ∷ words) (subst (λ (k : CommandKind). IsCommandOf k is.front is.given (codes "run" ∷ words)) kind is.form)
    (λ has. uncounted (subst (λ (ws : List (List ℕ)). Contains ws (option_of choice.Stats)) (sym rest) (among_words (joined is.front) is.given choice.Stats has)))

pub run_promise : RunPromise
run_promise = record { kept = kept; one = one; every = every }

-- a run that ended because a file was not read
unread_of : (words : List (List ℕ)) (asked : RunAsked) → IsRunOf words asked → (before after : Outside) → IsRunTo words before after 3
    → (kind : TextKind) × (name : List ℕ) × StopsAtFile asked before after kind name (Err why.Failed) × (before.shelf.sure name ≡ false) × Rose before.shelf.faults after.shelf.faults
unread_of words asked is before after run =
    let it : IsTableRun words asked = table_run words asked is in
    let plain : PlainAsked = asked_in Run words in
    let found = (headline words before after 3 run).not_read refl in
    let stop = has_stopped words before after (AtFile found.0) it.is found.1 in
    let at = unread_at (plain.file 0) (plain.file 1) (plain.file 2) (setup_of plain) before after found.0 stop in
    subst (λ (a : RunAsked). (kind : TextKind) × (name : List ℕ) × StopsAtFile a before after kind name (Err why.Failed) × (before.shelf.sure name ≡ false) × Rose before.shelf.faults after.shelf.faults)
    it.said
    (at.0, found.0, at.1, never_sure before.shelf found.0 (game_files (plain.file 0) (plain.file 1) (plain.file 2)) stop.fetches stop.stopped.stopped, stop.stopped.rose)

pub run_shelf : RunShelf
run_shelf = record {
  each = λ words asked is before after number run. (run.run.fetches, run.run.fetched);
  unread = unread_of;
}

accepted : (words : List (List ℕ)) (plain : PlainAsked) → IsCommand words plain → plain.kind ≡ Run → plain.has choice.Stats ≡ false → (asked : RunAsked) × IsRunOf words asked
accepted words plain is run off =
    let kind : is.kind ≡ Run = ap (λ (a : PlainAsked). a.kind) is.says ∙ run in
    run_of_form is.front is.given words (subst (λ (k : CommandKind). IsCommandOf k is.front is.given words) kind is.form)
    (λ has. false≢true (sym off ∙ said_laws.says_its_words.given words plain is choice.Stats has))

pub refused_words : RefusedWords
refused_words = record {
  refused = λ words before after number run none.
      let keeps = headline words before after number run in
      elim keeps.no_other [
        | inl zero ↦ absurd (none (keeps.printed zero).command (keeps.printed zero).is_command)
        | inr (inl two) ↦ (two, keeps.no_command two)
        | inr (inr (inl three)) ↦ (let it = (keeps.not_read three).1 in absurd (none it.command it.is_command))
        | inr (inr (inr (inl four))) ↦ (let it = keeps.output_failed four in absurd (none it.command it.is_command))
        | inr (inr (inr (inr (inl five)))) ↦ elim (keeps.refused five) [ inl it ↦ absurd (none it.2.command it.2.is_command) | inr it ↦ absurd (none it.1.command it.1.is_command) ]
        | inr (inr (inr (inr (inr six)))) ↦ (let it = keeps.out_of_memory six in absurd (none it.command it.is_command))
      ];
  accepted = accepted;
}
