-- The verdict over the files of a command: there is exactly one.
use Rattle.std.proofs.Common.{◌≡◌, ◌⊎◌, inl, inr, ℕ, ◌<◌, ◌≤◌, List, [], ◌∷◌, length, Ok, Err, Option, Some, None, refl, sym, ◌∙◌, ap, subst, leb, leb-true, leb-false}
use Rattle.std.proofs.lemmas.Bool.{cases_Bool}
use Rattle.std.specs.List.{AllByRecursion}
use Rattle.std.specs.Prelude.{IsSome, IsSomeAnd}
use Rattle.ant_base.specs.Fetched.{Fetched}
use Rattle.ant_base.specs.Shelf.{IsTold, longest}
use Rattle.ant_base.specs.declared.shelf.FetchFault.TheVariants as answer
use Rattle.text_fault.specs.declared.fault.TextFault.TheVariants.{TooLong}
use Rattle.ant_commands.specs.declared.stop.FileFault.{FileFault}
use Rattle.ant_commands.specs.declared.stop.FileFault.TheVariants.{Text}
use Rattle.ant_commands.specs.Files.{AreAccepted, FileContent, File, IsAccepted, IsNoText, IsRefused, Refuses, StopsAt}
use Rattle.ant_commands.specs.Verdict.{AreThere, IsJudged, IsRefusedAs, Judged, JudgesOnce, FilesVerdict}
use Rattle.ant_commands.specs.Verdict.FilesVerdict.{AllAccepted, FirstRefused}
use Rattle.ant_commands.proofs.Texts.{one_refusal, some_reading}
use Rattle.ant_commands.proofs.Verdicts.{At, accepted_never_refused, never_bytes, one_bytes, one_content, one_verdict}

one_text_fault : (at : At) (file : File) (first second : Fetched) (a b : FileFault) → IsTold (Some at) first → IsTold (Some at) second → IsNoText file first a → IsNoText file second b → a ≡ b
one_text_fault at file first second a b one two is also =
    let same = one_bytes at file.name also.bytes is.bytes second first two one also.got is.got in
    one_refusal file.kind is.bytes a b is.refuses (subst (λ (bytes : List ℕ). Refuses file.kind bytes b) same also.refuses)

-- a file is refused with one fault
one_fault : (at : At) (file : File) (first second : Fetched) (a b : FileFault) → IsTold (Some at) first → IsTold (Some at) second → IsRefused file first a → IsRefused file second b → a ≡ b
one_fault at file first second a b one two is also = elim is [
  | inl long ↦ elim also [ inl other ↦ long.0 ∙ sym other.0 | inr bad ↦ absurd (never_bytes at file.name bad.bytes second first two one bad.got long.1) ]
  | inr bad ↦ elim also [ inl long ↦ absurd (never_bytes at file.name bad.bytes first second one two bad.got long.1) | inr other ↦ one_text_fault at file first second a b one two bad other ]
]

-- files are accepted as the same contents
same_contents : (at : At) (files : List File) (first second : List Fetched) (a b : List FileContent) → AllByRecursion (IsTold (Some at)) first → AllByRecursion (IsTold (Some at)) second → AreAccepted files first a → AreAccepted files second b → a ≡ b
same_contents at [] first second a b one two is also = is.1 ∙ sym also.1
same_contents at (file ∷ files) [] second a b one two is also = absurd is
same_contents at (file ∷ files) (x ∷ first) [] a b one two is also = absurd also
same_contents at (file ∷ files) (x ∷ first) (y ∷ second) [] b one two is also = absurd is
same_contents at (file ∷ files) (x ∷ first) (y ∷ second) (c ∷ a) [] one two is also = absurd also
same_contents at (file ∷ files) (x ∷ first) (y ∷ second) (c ∷ a) (d ∷ b) one two is also =
    let here : c ≡ d = one_content at file x y c d one.0 two.0 is.0 also.0 in
    let rest : a ≡ b = same_contents at files first second a b one.1 two.1 is.1 also.1 in
    cc

-- the first that is refused is the same, with the same fault
same_refusal : (at : At) (files : List File) (first second : List Fetched) (name other : List ℕ) (fault another : FileFault) → AllByRecursion (IsTold (Some at)) first → AllByRecursion (IsTold (Some at)) second
    → StopsAt (IsRefusedAs name fault) files first → StopsAt (IsRefusedAs other another) files second → FirstRefused name fault ≡ FirstRefused other another
same_refusal at [] first second name other fault another one two is also = absurd is
same_refusal at (file ∷ files) [] second name other fault another one two is also = absurd is
same_refusal at (file ∷ files) (x ∷ first) [] name other fault another one two is also = absurd also
same_refusal at (file ∷ files) (x ∷ first) (y ∷ second) name other fault another one two is also =
    elim is [
      | inl here ↦ elim also [
        | inl there ↦
            let names : name ≡ other = sym here.0.named ∙ there.0.named in
            let faults : fault ≡ another = one_fault at file x y fault another one.0 two.0 here.0.refused there.0.refused in
            cc
        | inr later ↦ absurd (one_verdict at file y x later.0 fault two.0 one.0 later.1 here.0.refused)
      ]
      | inr beyond ↦ elim also [
        | inl there ↦ absurd (one_verdict at file x y beyond.0 another one.0 two.0 beyond.1 there.0.refused)
        | inr later ↦ same_refusal at files first second name other fault another one.1 two.1 beyond.2 later.2
      ]
    ]

same_verdict : (at : At) (files : List File) (first second : List Fetched) (a b : FilesVerdict) → AllByRecursion (IsTold (Some at)) first → AllByRecursion (IsTold (Some at)) second → Judged files first a → Judged files second b → a ≡ b
same_verdict at files first second (AllAccepted a) (AllAccepted b) one two is also = ap AllAccepted (same_contents at files first second a b one two is also)
same_verdict at files first second (AllAccepted a) (FirstRefused name fault) one two is also = absurd (accepted_never_refused at files first second a name fault one two is also)
same_verdict at files first second (FirstRefused name fault) (AllAccepted b) one two is also = absurd (accepted_never_refused at files second first b name fault two one also is)
same_verdict at files first second (FirstRefused name fault) (FirstRefused other another) one two is also = same_refusal at files first second name other fault another one two is also

-- a file that was judged: by a fetch that agrees with the reported contents it is accepted, or refused
abbrev HasFileVerdict : At → File → Type 0
HasFileVerdict at file =
    ((fetch : Fetched) × (content : FileContent) × IsTold (Some at) fetch × IsAccepted file fetch content) ⊎ ((fetch : Fetched) × (fault : FileFault) × IsTold (Some at) fetch × IsRefused file fetch fault)

short_file : (at : At) (file : File) (bytes : List ℕ) → at file.name ≡ Some bytes → length bytes ≤ longest → HasFileVerdict at file
short_file at file bytes is short =
    elim (some_reading file.kind bytes) [
      | inl reads ↦ inl (record { name = file.name; answer = Ok bytes }, reads.0, (is, short), record { bytes = bytes; got = refl; reads = reads.1 })
      | inr refuses ↦ inr (record { name = file.name; answer = Ok bytes }, refuses.0, (is, short), inr (record { bytes = bytes; got = refl; refuses = refuses.1 }))
    ]

long_file : (at : At) (file : File) (bytes : List ℕ) → at file.name ≡ Some bytes → longest < length bytes → HasFileVerdict at file
long_file at file bytes is long =
    inr (record { name = file.name; answer = Err answer.TooLong }, Text TooLong, subst (λ found. IsSomeAnd found (λ content. longest < length content)) (sym is) long, inl (refl, refl))

one_file : (at : At) (file : File) (found : Option (List ℕ)) → at file.name ≡ found → IsSome found → HasFileVerdict at file
one_file at file None is there = absurd (cc)
one_file at file (Some bytes) is there = elim (cases_Bool (leb (length bytes) longest)) [ inl short ↦ short_file at file bytes is (leb-true (length bytes) longest short) | inr long ↦ long_file at file bytes is (leb-false (length bytes) longest long) ]

judged_then : (at : At) (file : File) (files : List File) (verdict : FilesVerdict) (fetch : Fetched) (content : FileContent) (fetches : List Fetched) → IsTold (Some at) fetch → IsAccepted file fetch content → AllByRecursion (IsTold (Some at)) fetches
    → Judged files fetches verdict → (all : FilesVerdict) × IsJudged at (file ∷ files) all
judged_then at file files (AllAccepted contents) fetch content fetches told is others judged = (AllAccepted (content ∷ contents), record { fetches = fetch ∷ fetches; told = (told, others); judged = (is, judged) })
judged_then at file files (FirstRefused name fault) fetch content fetches told is others judged = (FirstRefused name fault, record { fetches = fetch ∷ fetches; told = (told, others); judged = inr (content, is, judged) })

some_verdict : (at : At) (files : List File) → AreThere at files → (verdict : FilesVerdict) × IsJudged at files verdict
some_verdict at [] there = (AllAccepted [], record { fetches = []; told = tt; judged = (refl, refl) })
some_verdict at (file ∷ files) there =
    elim (one_file at file (at file.name) refl there.0) [
      | inl accepted ↦ (let rest = some_verdict at files there.1 in judged_then at file files rest.0 accepted.0 accepted.1 rest.1.fetches accepted.2 accepted.3 rest.1.told rest.1.judged)
      | inr refused ↦ (FirstRefused file.name refused.1, record { fetches = refused.0 ∷ []; told = (refused.2, tt); judged = inl (record { named = refl; refused = refused.3 }, refl) })
    ]

pub judges_once : JudgesOnce
judges_once at files there =
    let verdict = some_verdict at files there in
    record {
      verdict = verdict.0;
      judged = verdict.1;
      only = λ other is. same_verdict at files is.fetches verdict.1.fetches other verdict.0 is.told verdict.1.told is.judged verdict.1.judged;
    }
