-- What the end of a run says of its status: when the words are not a command, when input is refused, and that nothing
-- else prevents the run from being done.
use Rattle.std.proofs.Common.{◌≡◌, ◌≢◌, ◌⊎◌, inl, inr, ℕ, ◌<◌, ◌≤◌, true, List, [], ◌∷◌, ◌++◌, length, map, Ok, Err, Option, Some, None, refl, sym, ◌∙◌, ap, subst, arith}
use Rattle.std.specs.List.{AllByRecursion}
use Rattle.std.specs.Prelude.{IsSomeAnd}
use Rattle.std.proofs.lemmas.Bool.{false≢true}
use Rattle.ant_base.specs.Fetched.{Fetched}
use Rattle.ant_base.specs.Faults.{Rose}
use Rattle.ant_base.specs.Shelf.{AnswerIsTold, AreSure, IsTold, ShelfState, longest}
use Rattle.ant_base.specs.declared.shelf.FetchFault.TheVariants as answer
use Rattle.command_words.proofs.WordLaws as words_laws
use Rattle.command_words.specs.Command.{IsCommand, PlainAsked}
use Rattle.ant_commands.proofs.JobTexts.{laws_of}
use Rattle.ant_commands.specs.Jobs.{job_of}
use Rattle.ant_commands.specs.Job.{HasRoom, Job, LacksRoom, files_of}
use Rattle.ant_commands.specs.declared.status.Status.{Status}
use Rattle.ant_commands.specs.declared.status.Status.TheVariants as status
use Rattle.ant_commands.specs.declared.stop.FileFault.{FileFault}
use Rattle.ant_commands.specs.Files.{AreAccepted, AreBegun, AreInOrder, FileContent, File, IsAccepted, IsFetched, IsNoText, IsRefused, Reads, Refuses, StopsAt}
use Rattle.ant_commands.specs.Inner.Reading.{EndsBy}
use Rattle.ant_commands.specs.Verdict.{IsRefusedAs, Judged, FilesVerdict}
use Rattle.ant_commands.specs.Verdict.FilesVerdict.{AllAccepted, FirstRefused}
use Rattle.ant_commands.specs.Outside.{Outside}
use Rattle.ant_commands.specs.Endings.{IsUnsure}
use Rattle.ant_commands.specs.Run.{EndsAsPromised, Ends, IsComplete, IsCrowding, IsNoCommand, IsOrderly, IsRefusing, IsRun, NeverUnread}
use Rattle.ant_commands.specs.FaultLines.{Ending, Reason, ending_by, ending_status, status_of}
use Rattle.ant_commands.specs.FaultLines.Ending.{Done, RefusedWord, Stopped}
use Rattle.ant_commands.specs.FaultLines.Reason.{AtFile, AtOutput, AtInput, AtRoom, AtMemory}
use Rattle.ant_commands.proofs.Texts.{never_both, one_reading}

-- the contents of each name
abbrev pub At : Type 0
At = List ℕ → Option (List ℕ)

some_same : (a b : List ℕ) → Some a ≡ Some b → a ≡ b
some_same a b same = cc

-- bytes that were fetched are the reported ones
told_bytes : (at : At) (name bytes : List ℕ) (fetch : Fetched) → IsTold (Some at) fetch → fetch ≡ record { name = name; answer = Ok bytes } → AnswerIsTold (Some at) name (Ok bytes)
told_bytes at name bytes fetch told got = subst (IsTold (Some at)) got told

told_long : (at : At) (name : List ℕ) (fetch : Fetched) → IsTold (Some at) fetch → fetch ≡ record { name = name; answer = Err answer.TooLong } → AnswerIsTold (Some at) name (Err answer.TooLong)
told_long at name fetch told got = subst (IsTold (Some at)) got told

-- two fetches of a name got the same bytes
pub one_bytes : (at : At) (name a b : List ℕ) (first second : Fetched) → IsTold (Some at) first → IsTold (Some at) second → first ≡ record { name = name; answer = Ok a } → second ≡ record { name = name; answer = Ok b } → a ≡ b
one_bytes at name a b first second one two got gets =
    some_same a b (sym (told_bytes at name a first one got).0 ∙ (told_bytes at name b second two gets).0)

never_long : (name bytes : List ℕ) (found : Option (List ℕ)) → found ≡ Some bytes → length bytes ≤ longest → IsSomeAnd found (λ content. longest < length content) → ⊥
never_long name bytes None same short long = cc
never_long name bytes (Some other) same short long =
    let one : other ≡ bytes = cc in
    let more : longest < length bytes = subst (λ (b : List ℕ). longest < length b) one long in
    omega arith

-- if a file is too long, its fetch returns no bytes
pub never_bytes : (at : At) (name bytes : List ℕ) (first second : Fetched) → IsTold (Some at) first → IsTold (Some at) second → first ≡ record { name = name; answer = Ok bytes } → second ≡ record { name = name; answer = Err answer.TooLong } → ⊥
never_bytes at name bytes first second one two got long =
    let content = told_bytes at name bytes first one got in
    never_long name bytes (at name) content.0 content.1 (told_long at name second two long)

-- a file is accepted as one content
pub one_content : (at : At) (file : File) (first second : Fetched) (a b : FileContent) → IsTold (Some at) first → IsTold (Some at) second → IsAccepted file first a → IsAccepted file second b → a ≡ b
one_content at file first second a b one two is also =
    let same = one_bytes at file.name also.bytes is.bytes second first two one also.got is.got in
    one_reading file.kind is.bytes a b is.reads (subst (λ (bytes : List ℕ). Reads file.kind bytes b) same also.reads)

accepted_no_text : (at : At) (file : File) (first second : Fetched) (content : FileContent) (fault : FileFault) → IsTold (Some at) first → IsTold (Some at) second → IsAccepted file first content → IsNoText file second fault → ⊥
accepted_no_text at file first second content fault one two is refused =
    let same = one_bytes at file.name refused.bytes is.bytes second first two one refused.got is.got in
    never_both file.kind is.bytes content fault is.reads (subst (λ (bytes : List ℕ). Refuses file.kind bytes fault) same refused.refuses)

-- a file is never both accepted and refused
pub one_verdict : (at : At) (file : File) (first second : Fetched) (content : FileContent) (fault : FileFault) → IsTold (Some at) first → IsTold (Some at) second → IsAccepted file first content → IsRefused file second fault → ⊥
one_verdict at file first second content fault one two is refused =
    elim refused [ inl long ↦ never_bytes at file.name is.bytes first second one two is.got long.1 | inr bad ↦ accepted_no_text at file first second content fault one two is bad ]

-- if all files are accepted, none is refused
pub accepted_never_refused : (at : At) (files : List File) (first second : List Fetched) (contents : List FileContent) (name : List ℕ) (fault : FileFault) → AllByRecursion (IsTold (Some at)) first → AllByRecursion (IsTold (Some at)) second
    → AreAccepted files first contents → StopsAt (IsRefusedAs name fault) files second → ⊥
accepted_never_refused at [] first second contents name fault one two are stops = stops
accepted_never_refused at (file ∷ files) [] second contents name fault one two are stops = are
accepted_never_refused at (file ∷ files) (x ∷ first) second [] name fault one two are stops = are
accepted_never_refused at (file ∷ files) (x ∷ first) [] (content ∷ contents) name fault one two are stops = stops
accepted_never_refused at (file ∷ files) (x ∷ first) (y ∷ second) (content ∷ contents) name fault one two are stops =
    elim stops [
      | inl here ↦ one_verdict at file x y content fault one.0 two.0 are.0 here.0.refused
      | inr later ↦ accepted_never_refused at files first second contents name fault one.1 two.1 are.1 later.2
    ]

-- the fetch of an accepted file requested its name
accepted_name : (file : File) (fetch : Fetched) (content : FileContent) → IsAccepted file fetch content → fetch.name ≡ file.name
accepted_name file fetch content is = ap (λ (f : Fetched). f.name) is.got

-- the fetch of a refused file requested its name too
refused_name : (file : File) (fetch : Fetched) (fault : FileFault) → IsRefused file fetch fault → fetch.name ≡ file.name
refused_name file fetch fault is = elim is [ inl long ↦ ap (λ (f : Fetched). f.name) long.1 | inr bad ↦ ap (λ (f : Fetched). f.name) bad.got ]

-- a shelf can't be both sure and unsure of a file
never_sure : (shelf : ShelfState) (name : List ℕ) (file : File) (fetch other : Fetched) → IsUnsure shelf name file fetch → other.name ≡ file.name → shelf.sure other.name ≡ true → ⊥
never_sure shelf name file fetch other unsure named sure =
    false≢true (sym unsure.unsure ∙ ap shelf.sure (sym unsure.named ∙ sym named) ∙ sure)

-- if the shelf was sure of all files up to the verdict, no reading stopped because it was unsure of a file
sure_accepted : (shelf : ShelfState) (name : List ℕ) (files : List File) (first second : List Fetched) (contents : List FileContent) → AreSure shelf second → StopsAt (IsUnsure shelf name) files first → AreAccepted files second contents → ⊥
sure_accepted shelf name [] first second contents sure stops are = stops
sure_accepted shelf name (file ∷ files) [] second contents sure stops are = stops
sure_accepted shelf name (file ∷ files) (x ∷ first) [] contents sure stops are = are
sure_accepted shelf name (file ∷ files) (x ∷ first) (y ∷ second) [] sure stops are = are
sure_accepted shelf name (file ∷ files) (x ∷ first) (y ∷ second) (content ∷ contents) sure stops are =
    elim stops [
      | inl here ↦ never_sure shelf name file x y here.0 (accepted_name file y content are.0) sure.0
      | inr later ↦ sure_accepted shelf name files first second contents sure.1 later.2 are.1
    ]

sure_refused : (at : At) (shelf : ShelfState) (name other : List ℕ) (fault : FileFault) (files : List File) (first second : List Fetched) → AllByRecursion (IsTold (Some at)) first → AllByRecursion (IsTold (Some at)) second
    → AreSure shelf second → StopsAt (IsUnsure shelf name) files first → StopsAt (IsRefusedAs other fault) files second → ⊥
sure_refused at shelf name other fault [] first second one two sure stops refused = stops
sure_refused at shelf name other fault (file ∷ files) [] second one two sure stops refused = stops
sure_refused at shelf name other fault (file ∷ files) (x ∷ first) [] one two sure stops refused = refused
sure_refused at shelf name other fault (file ∷ files) (x ∷ first) (y ∷ second) one two sure stops refused =
    elim refused [
      | inl here ↦ elim stops [
        | inl unsure ↦ never_sure shelf name file x y unsure.0 (refused_name file y fault here.0.refused) sure.0
        | inr later ↦ one_verdict at file x y later.0 fault one.0 two.0 later.1 here.0.refused
      ]
      | inr beyond ↦ elim stops [
        | inl unsure ↦ never_sure shelf name file x y unsure.0 (accepted_name file y beyond.0 beyond.1) sure.0
        | inr later ↦ sure_refused at shelf name other fault files first second one.1 two.1 sure.1 later.2 beyond.2
      ]
    ]

sure_judged : (at : At) (shelf : ShelfState) (name : List ℕ) (files : List File) (first second : List Fetched) (verdict : FilesVerdict) → AllByRecursion (IsTold (Some at)) first → AllByRecursion (IsTold (Some at)) second
    → AreSure shelf second → StopsAt (IsUnsure shelf name) files first → Judged files second verdict → ⊥
sure_judged at shelf name files first second (AllAccepted contents) one two sure stops judged = sure_accepted shelf name files first second contents sure stops judged
sure_judged at shelf name files first second (FirstRefused other fault) one two sure stops judged = sure_refused at shelf name other fault files first second one two sure stops judged

-- the names that were fetched, one by one
in_order_then : (file : File) (files : List File) (fetch : Fetched) (fetches : List Fetched) → fetch.name ≡ file.name → AreInOrder files fetches → AreInOrder (file ∷ files) (fetch ∷ fetches)
in_order_then file files fetch fetches named order =
    record { left = order.left; in_order = ap (λ names. file.name ∷ names) order.in_order ∙ ap (λ name. name ∷ (map (λ (f : Fetched). f.name) fetches ++ order.left)) (sym named) }

in_order_none : (files : List File) → AreInOrder files []
in_order_none files = record { left = map (λ (file : File). file.name) files; in_order = refl }

in_order_here : (file : File) (files : List File) (fetch : Fetched) (fetches : List Fetched) → fetch.name ≡ file.name → fetches ≡ [] → AreInOrder (file ∷ files) (fetch ∷ fetches)
in_order_here file files fetch fetches named none = in_order_then file files fetch fetches named (subst (AreInOrder files) (sym none) (in_order_none files))

in_order_accepted : (files : List File) (fetches : List Fetched) (contents : List FileContent) → AreAccepted files fetches contents → AreInOrder files fetches
in_order_accepted [] fetches contents are = subst (AreInOrder []) (sym are.0) (in_order_none [])
in_order_accepted (file ∷ files) [] contents are = absurd are
in_order_accepted (file ∷ files) (fetch ∷ fetches) [] are = absurd are
in_order_accepted (file ∷ files) (fetch ∷ fetches) (content ∷ contents) are =
    in_order_then file files fetch fetches (accepted_name file fetch content are.0) (in_order_accepted files fetches contents are.1)

in_order_stopped : (P : File → Fetched → Type 0) (files : List File) (fetches : List Fetched) → ((file : File) (fetch : Fetched) → P file fetch → fetch.name ≡ file.name) → StopsAt P files fetches → AreInOrder files fetches
in_order_stopped P [] fetches named stops = absurd stops
in_order_stopped P (file ∷ files) [] named stops = absurd stops
in_order_stopped P (file ∷ files) (fetch ∷ fetches) named stops =
    elim stops [
      | inl here ↦ in_order_here file files fetch fetches (named file fetch here.0) here.1
      | inr later ↦ in_order_then file files fetch fetches (accepted_name file fetch later.0 later.1) (in_order_stopped P files fetches named later.2)
    ]

fetched_name : (file : File) (fetch : Fetched) → IsFetched file fetch → fetch.name ≡ file.name
fetched_name file fetch is = elim is [ inl came ↦ ap (λ (f : Fetched). f.name) came.1 | inr want ↦ ap (λ (f : Fetched). f.name) want ]

in_order_begun : (files : List File) (fetches : List Fetched) → AreBegun files fetches → AreInOrder files fetches
in_order_begun [] fetches begun = subst (AreInOrder []) (sym begun) (in_order_none [])
in_order_begun (file ∷ files) [] begun = in_order_none (file ∷ files)
in_order_begun (file ∷ files) (fetch ∷ fetches) begun =
    elim begun [
      | inl here ↦ in_order_here file files fetch fetches (fetched_name file fetch here.0) here.1
      | inr later ↦ in_order_then file files fetch fetches (accepted_name file fetch later.0 later.1) (in_order_begun files fetches later.2)
    ]

in_order_by : (command : Job) (before after : Outside) (fetches : List Fetched) (stop : Option Reason) → EndsBy command before after fetches stop → AreInOrder (files_of command) fetches
in_order_by command before after fetches None ends = in_order_accepted (files_of command) fetches ends.contents ends.accepted
in_order_by command before after fetches (Some (AtFile name)) ends = in_order_stopped (IsUnsure before.shelf name) (files_of command) fetches (λ file fetch is. ap (λ (f : Fetched). f.name) is.failed) ends.stopped
in_order_by command before after fetches (Some AtOutput) ends = in_order_accepted (files_of command) fetches ends.contents ends.accepted
in_order_by command before after fetches (Some (AtInput name fault)) ends =
    in_order_stopped (IsRefusedAs name fault) (files_of command) fetches (λ file fetch is. refused_name file fetch fault is.refused) ends.stopped
in_order_by command before after fetches (Some (AtRoom element)) ends = in_order_accepted (files_of command) fetches ends.contents ends.accepted
in_order_by command before after fetches (Some AtMemory) ends =
    elim ends [ inl unbegun ↦ in_order_begun (files_of command) fetches unbegun.begun | inr broken ↦ in_order_accepted (files_of command) fetches broken.contents broken.accepted ]

-- if two lists are equal and have the same prefix, their rests are equal
same_rest : {X : Type 0} (front a b : List X) → front ++ a ≡ front ++ b → a ≡ b
same_rest [] a b same = same
same_rest (x ∷ front) a b same = same_rest front a b (cc)

-- how the words' command ended
record EndsAs (command : PlainAsked) (before after : Outside) (fetches : List Fetched) (ending : Ending) : Type 0 where
  stop : Option Reason
  is : ending ≡ ending_by stop
  ends : EndsBy (job_of command) before after fetches stop

as_command : (words : List (List ℕ)) (command : PlainAsked) (before after : Outside) (fetches : List Fetched) (ending : Ending) → IsCommand words command → Ends words before after fetches ending
    → EndsAs command before after fetches ending
as_command words command before after fetches Done is ends =
    record { stop = None; is = refl; ends = subst (λ (c : PlainAsked). EndsBy (job_of c) before after fetches None) (words_laws.one_command words ends.command command ends.is_command is) ends.done }
as_command words command before after fetches (RefusedWord word) is ends = absurd (words_laws.never_both words command word is ends.refused)
as_command words command before after fetches (Stopped reason) is ends =
    record { stop = Some reason; is = refl; ends = subst (λ (c : PlainAsked). EndsBy (job_of c) before after fetches (Some reason)) (words_laws.one_command words ends.command command ends.is_command is) ends.stopped }

-- the status of a run whose words are a command
status_by : (words : List (List ℕ)) (command : PlainAsked) (before after : Outside) (ended : Status) → (run : IsRun words before after ended) → (it : EndsAs command before after run.fetches run.ending)
    → ended ≡ ending_status (ending_by it.stop)
status_by words command before after ended run it = run.is_status ∙ ap ending_status it.is

-- the fetches of a run are in order
pub orderly_run : (words : List (List ℕ)) (before after : Outside) (ended : Status) → IsRun words before after ended → IsOrderly words before after
orderly_run words before after ended run = λ command is fetches logged.
    let it = as_command words command before after run.fetches run.ending is run.ends in
    let same = same_rest before.shelf.log run.fetches fetches (sym run.fetched.log ∙ logged) in
    subst (AreInOrder (files_of (job_of command))) same (in_order_by (job_of command) before after run.fetches it.stop it.ends)

-- a run whose files are all accepted is done, or runs out of memory
complete_by : (at : At) (command : Job) (before after : Outside) (fetches told : List Fetched) (contents : List FileContent) (stop : Option Reason) → AllByRecursion (IsTold (Some at)) fetches
    → AllByRecursion (IsTold (Some at)) told → AreAccepted (files_of command) told contents → HasRoom command → EndsBy command before after fetches stop → ¬ Rose before.shelf.faults after.shelf.faults → ¬ Rose before.out.faults after.out.faults
    → (ending_status (ending_by stop) ≡ status.Done) ⊎ (ending_status (ending_by stop) ≡ status.Memory)
complete_by at command before after fetches told contents None one two are room ends shelf_held out_held = inl refl
complete_by at command before after fetches told contents (Some (AtFile name)) one two are room ends shelf_held out_held = absurd (shelf_held ends.rose)
complete_by at command before after fetches told contents (Some AtOutput) one two are room ends shelf_held out_held = absurd (out_held ends.cut.rose)
complete_by at command before after fetches told contents (Some (AtInput name fault)) one two are room ends shelf_held out_held =
    absurd (accepted_never_refused at (files_of command) told fetches contents name fault two one are ends.stopped)
complete_by at command before after fetches told contents (Some (AtRoom element)) one two are room ends shelf_held out_held = absurd (room element ends.lacks)
complete_by at command before after fetches told contents (Some AtMemory) one two are room ends shelf_held out_held = inr refl

-- the fetches of a run agree with the reported contents
told_of_run : (words : List (List ℕ)) (before after : Outside) (ended : Status) (at : At) → (run : IsRun words before after ended) → before.shelf.files ≡ Some at → AllByRecursion (IsTold (Some at)) run.fetches
told_of_run words before after ended at run told = subst (λ (files : Option At). AllByRecursion (IsTold files) run.fetches) told run.fetched.told

pub complete_run : (words : List (List ℕ)) (before after : Outside) (ended : Status) → IsRun words before after ended → IsComplete words before after ended
complete_run words before after ended run = λ contents is room shelf_held out_held.
    let it = as_command words is.command before after run.fetches run.ending is.is_command run.ends in
    subst (λ (s : Status). (s ≡ status.Done) ⊎ (s ≡ status.Memory)) (sym (status_by words is.command before after ended run it))
    (complete_by is.at (job_of is.command) before after run.fetches is.judged.fetches contents it.stop (told_of_run words before after ended is.at run is.told) is.judged.told is.judged.judged room it.ends shelf_held out_held)

-- if an element has no room, a run ends with that reason, or runs out of memory
crowding_by : (command : PlainAsked) (before after : Outside) (fetches : List Fetched) (element : ℕ) (stop : Option Reason) → LacksRoom (job_of command) element → EndsBy (job_of command) before after fetches stop
    → (ending_status (ending_by stop) ≡ status.Input) ⊎ (ending_status (ending_by stop) ≡ status.Memory)
crowding_by command before after fetches element None lacks ends = absurd (((laws_of command).crowded element lacks).1 ends.contents ends.text ends.is_text)
crowding_by command before after fetches element (Some (AtFile name)) lacks ends = absurd (subst (λ files. StopsAt (IsUnsure before.shelf name) files fetches) ((laws_of command).crowded element lacks).0 ends.stopped)
crowding_by command before after fetches element (Some AtOutput) lacks ends = absurd (((laws_of command).crowded element lacks).1 ends.contents ends.text ends.is_text)
crowding_by command before after fetches element (Some (AtInput name fault)) lacks ends = inl refl
crowding_by command before after fetches element (Some (AtRoom other)) lacks ends = inl refl
crowding_by command before after fetches element (Some AtMemory) lacks ends = inr refl

pub crowding_run : (words : List (List ℕ)) (before after : Outside) (ended : Status) → IsRun words before after ended → IsCrowding words ended
crowding_run words before after ended run = λ command element is lacks.
    let it = as_command words command before after run.fetches run.ending is run.ends in
    subst (λ (s : Status). (s ≡ status.Input) ⊎ (s ≡ status.Memory)) (sym (status_by words command before after ended run it))
    (crowding_by command before after run.fetches element it.stop lacks it.ends)

-- if a file is refused, a run ends with that reason, or runs out of memory
refusing_by : (at : At) (command : Job) (before after : Outside) (fetches told : List Fetched) (name : List ℕ) (fault : FileFault) (stop : Option Reason) → AllByRecursion (IsTold (Some at)) fetches
    → AllByRecursion (IsTold (Some at)) told → StopsAt (IsRefusedAs name fault) (files_of command) told → EndsBy command before after fetches stop → ¬ Rose before.shelf.faults after.shelf.faults
    → (ending_status (ending_by stop) ≡ status.Input) ⊎ (ending_status (ending_by stop) ≡ status.Memory)
refusing_by at command before after fetches told name fault None one two stops ends shelf_held =
    absurd (accepted_never_refused at (files_of command) fetches told ends.contents name fault one two ends.accepted stops)
refusing_by at command before after fetches told name fault (Some (AtFile other)) one two stops ends shelf_held = absurd (shelf_held ends.rose)
refusing_by at command before after fetches told name fault (Some AtOutput) one two stops ends shelf_held =
    absurd (accepted_never_refused at (files_of command) fetches told ends.contents name fault one two ends.accepted stops)
refusing_by at command before after fetches told name fault (Some (AtInput other another)) one two stops ends shelf_held = inl refl
refusing_by at command before after fetches told name fault (Some (AtRoom element)) one two stops ends shelf_held = inl refl
refusing_by at command before after fetches told name fault (Some AtMemory) one two stops ends shelf_held = inr refl

pub refusing_run : (words : List (List ℕ)) (before after : Outside) (ended : Status) → IsRun words before after ended → IsRefusing words before after ended
refusing_run words before after ended run = λ name fault is shelf_held.
    let it = as_command words is.command before after run.fetches run.ending is.is_command run.ends in
    subst (λ (s : Status). (s ≡ status.Input) ⊎ (s ≡ status.Memory)) (sym (status_by words is.command before after ended run it))
    (refusing_by is.at (job_of is.command) before after run.fetches is.judged.fetches name fault it.stop (told_of_run words before after ended is.at run is.told) is.judged.told is.judged.judged it.ends shelf_held)

-- if the shelf is sure of the files up to the verdict, no run ends at a file that was not read
read_by : (at : At) (command : Job) (before after : Outside) (fetches told : List Fetched) (verdict : FilesVerdict) (stop : Option Reason) → AllByRecursion (IsTold (Some at)) fetches
    → AllByRecursion (IsTold (Some at)) told → Judged (files_of command) told verdict → AreSure before.shelf told → EndsBy command before after fetches stop → ending_status (ending_by stop) ≢ status.Read
read_by at command before after fetches told verdict (Some (AtFile name)) one two judged sure ends = λ same. sure_judged at before.shelf name (files_of command) fetches told verdict one two sure ends.stopped judged
read_by at command before after fetches told verdict stop one two judged sure ends = λ same. cc

pub read_run : (words : List (List ℕ)) (before after : Outside) (ended : Status) → IsRun words before after ended → NeverUnread words before ended
read_run words before after ended run = λ verdict is sure same.
    let it = as_command words is.command before after run.fetches run.ending is.is_command run.ends in
    read_by is.at (job_of is.command) before after run.fetches is.judged.fetches verdict it.stop (told_of_run words before after ended is.at run is.told) is.judged.told is.judged.judged sure it.ends
    (sym (status_by words is.command before after ended run it) ∙ same)

-- no stop of a command has the status of a refused word
stops_apart : (reason : Reason) → status_of reason ≡ status.Words → ⊥
stops_apart (AtFile name) same = cc
stops_apart reason same = cc

-- the status says Words exactly if the words are not a command
no_command_by : (words : List (List ℕ)) (before after : Outside) (fetches : List Fetched) (ending : Ending) → Ends words before after fetches ending → ending_status ending ≡ status.Words → IsNoCommand words
no_command_by words before after fetches Done ends same = cc
no_command_by words before after fetches (RefusedWord word) ends same = λ command is. words_laws.never_both words command word is ends.refused
no_command_by words before after fetches (Stopped reason) ends same = absurd (stops_apart reason same)

words_by : (words : List (List ℕ)) (before after : Outside) (fetches : List Fetched) (ending : Ending) → Ends words before after fetches ending → IsNoCommand words → ending_status ending ≡ status.Words
words_by words before after fetches Done ends none = absurd (none ends.command ends.is_command)
words_by words before after fetches (RefusedWord word) ends none = refl
words_by words before after fetches (Stopped reason) ends none = absurd (none ends.command ends.is_command)

pub no_command_run : (words : List (List ℕ)) (before after : Outside) (ended : Status) → IsRun words before after ended → ended ≡ status.Words → IsNoCommand words
no_command_run words before after ended run same = no_command_by words before after run.fetches run.ending run.ends (sym run.is_status ∙ same)

pub words_run : (words : List (List ℕ)) (before after : Outside) (ended : Status) → IsRun words before after ended → IsNoCommand words → ended ≡ status.Words
words_run words before after ended run none = run.is_status ∙ words_by words before after run.fetches run.ending run.ends none

-- a run ends as promised
unfoldable pub promised_run : (given : List (List ℕ)) (before after : Outside) (ended : Status) → IsRun given before after ended → EndsAsPromised given before after ended
promised_run given before after ended run = record {
  run = run;
  words = (no_command_run given before after ended run, words_run given before after ended run);
  orderly = orderly_run given before after ended run;
  complete = complete_run given before after ended run;
  crowding = crowding_run given before after ended run;
  refusing = refusing_run given before after ended run;
  read = read_run given before after ended run;
}
