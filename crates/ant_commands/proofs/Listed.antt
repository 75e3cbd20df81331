-- Files of one kind, read one after another.
use Rattle.std.proofs.Common.{◌≡◌, ℕ, ◌+◌, ◌<◌, List, [], ◌∷◌, ◌++◌, length, map, take, drop, get_or, sym, ◌∙◌, ap, subst, Result}
use Rattle.std.proofs.lemmas.List.{map-append, take-append-drop, take_more}
use Rattle.std.specs.Prelude.{IsErrAnd, String, string_bytes}
use Rattle.std.specs.declared.alloc.Global.{Global}
use Rattle.ant_base.specs.Shelf.{ShelfState}
use Rattle.command_words.specs.Words.{texts}
use Rattle.ant_commands.specs.declared.stop.CommandStop.{CommandStop}
use Rattle.ant_commands.specs.declared.stop.CommandStop.TheVariants as stop
use Rattle.ant_commands.specs.Files.{FileContent, File, FileKind}
use Rattle.ant_commands.specs.Inner.Cups.{files_named}
use Rattle.ant_commands.specs.Inner.Reading.{ReadsFiles, outcome_of}
use Rattle.ant_commands.specs.Inner.Reading.ReadOutcome.{Contents, Stopped}
use Rattle.ant_commands.specs.FaultLines.{reason_of}
use Rattle.ant_commands.specs.FaultLines.Reason.{AtMemory}
use Rattle.ant_commands.proofs.Readings.{outcome_stopped, reads_stopped, reads_then, reads_wanting}

-- the file that a word names
abbrev file_of : FileKind → String Global → File
file_of kind word = record { name = string_bytes word; kind = kind }

files-append : (kind : FileKind) (a b : List (String Global)) → files_named kind (texts (a ++ b)) ≡ files_named kind (texts a) ++ files_named kind (texts b)
files-append kind a b =
    ap (files_named kind) (map-append string_bytes a b) ∙ map-append (λ (name : List ℕ). record { name = name; kind = kind }) (texts a) (texts b)

-- the files of the first words, with one word more, have one file more
files-more : (kind : FileKind) (words : List (String Global)) (i : ℕ) (word : String Global) → i < length words → word ≡ get_or words i word
    → files_named kind (texts (take (i + 1) words)) ≡ files_named kind (texts (take i words)) ++ file_of kind word ∷ []
files-more kind words i word below is =
    ap (λ (w : List (String Global)). files_named kind (texts w)) (take_more words i word below)
    ∙ files-append kind (take i words) (get_or words i word ∷ [])
    ∙ ap (λ (w : String Global). files_named kind (texts (take i words)) ++ file_of kind w ∷ []) (sym is)

-- the files of all words are those of the first and those of the others
files-split : (kind : FileKind) (words : List (String Global)) (i : ℕ) → files_named kind (texts (take i words)) ++ files_named kind (texts (drop i words)) ≡ files_named kind (texts words)
files-split kind words i =
    sym (files-append kind (take i words) (drop i words)) ∙ ap (λ (w : List (String Global)). files_named kind (texts w)) (take-append-drop i words)

-- one more file was read
pub reads_more : {V : Type 0} (content_of : V → FileContent) (first second third : ShelfState) (kind : FileKind) (words : List (String Global)) (i : ℕ) (word : String Global) (name : List ℕ) (values : List V) (value : V)
    → i < length words → word ≡ get_or words i word → name ≡ string_bytes word
    → ReadsFiles first second (files_named kind (texts (take i words))) (Contents (map content_of values)) → ReadsFiles second third (record { name = name; kind = kind } ∷ []) (Contents (content_of value ∷ []))
    → ReadsFiles first third (files_named kind (texts (take (i + 1) words))) (Contents (map content_of (values ++ value ∷ [])))
reads_more content_of first second third kind words i word name values value below is named one two =
    subst (λ (contents : List FileContent). ReadsFiles first third (files_named kind (texts (take (i + 1) words))) (Contents contents)) (sym (map-append content_of values (value ∷ [])))
    (subst (λ (files : List File). ReadsFiles first third files (Contents (map content_of values ++ content_of value ∷ []))) (sym (files-more kind words i word below is))
    (reads_then first second third (files_named kind (texts (take i words))) (file_of kind word ∷ []) (map content_of values) (Contents (content_of value ∷ [])) one
    (subst (λ (n : List ℕ). ReadsFiles second third (record { name = n; kind = kind } ∷ []) (Contents (content_of value ∷ []))) named two)))

-- the reading stopped at the next file, and so that of all did
pub stopped_at : {W : Type 0} (contents_of : W → List FileContent) (first second third : ShelfState) (kind : FileKind) (words : List (String Global)) (i : ℕ) (word : String Global) (name : List ℕ) (contents : List FileContent) (result : Result W CommandStop) (why : CommandStop)
    → i < length words → word ≡ get_or words i word → name ≡ string_bytes word → IsErrAnd result (λ other. other ≡ why)
    → ReadsFiles first second (files_named kind (texts (take i words))) (Contents contents) → ReadsFiles second third (record { name = name; kind = kind } ∷ []) (Stopped (reason_of why))
    → ReadsFiles first third (files_named kind (texts words)) (outcome_of contents_of result)
stopped_at contents_of first second third kind words i word name contents result why below is named same one two =
    subst (ReadsFiles first third (files_named kind (texts words))) (outcome_stopped contents_of result why same)
    (subst (λ (files : List File). ReadsFiles first third files (Stopped (reason_of why))) (files-split kind words (i + 1))
    (reads_stopped first third (files_named kind (texts (take (i + 1) words))) (files_named kind (texts (drop (i + 1) words))) (reason_of why)
    (subst (λ (files : List File). ReadsFiles first third files (Stopped (reason_of why))) (sym (files-more kind words i word below is))
    (reads_then first second third (files_named kind (texts (take i words))) (file_of kind word ∷ []) contents (Stopped (reason_of why)) one
    (subst (λ (n : List ℕ). ReadsFiles second third (record { name = n; kind = kind } ∷ []) (Stopped (reason_of why))) named two)))))

-- memory ran out for what was read of the next file, and so the reading of all stopped
pub wanting_at : {W : Type 0} (contents_of : W → List FileContent) (first third : ShelfState) (kind : FileKind) (words : List (String Global)) (i : ℕ) (contents : List FileContent) (result : Result W CommandStop)
    → IsErrAnd result (λ other. other ≡ stop.Memory) → ReadsFiles first third (files_named kind (texts (take i words))) (Contents contents) → ReadsFiles first third (files_named kind (texts words)) (outcome_of contents_of result)
wanting_at contents_of first third kind words i contents result same one =
    subst (ReadsFiles first third (files_named kind (texts words))) (outcome_stopped contents_of result stop.Memory same)
    (subst (λ (files : List File). ReadsFiles first third files (Stopped AtMemory)) (files-split kind words i)
    (reads_stopped first third (files_named kind (texts (take i words))) (files_named kind (texts (drop i words))) AtMemory
    (reads_wanting first third (files_named kind (texts (take i words))) contents one)))
