-- Sinks, shelves and the system's answers in small, worked out.
use Rattle.std.proofs.Common.{◌≡◌, ℕ, List, true, false, Some, None, Ok, Err, [], ◌∷◌, map, option_map, codes, refl, arith}
use Rattle.std.specs.declared.io.ErrorKind.TheVariants as kind
use Rattle.ant_base.specs.Faults.{Rose, one_more}
use Rattle.ant_base.specs.Layout.{numbered}
use Rattle.ant_base.specs.Lines.{ends_in_lf}
use Rattle.ant_base.specs.MemShelf.{MemShelfState, content_of, fails, shelf_of}
use Rattle.ant_base.specs.MemSink.{MemSinkState, bytes_taken, sink_of, takes_whole}
use Rattle.ant_base.specs.Sink.{NothingWaits}
use Rattle.ant_base.specs.System.{dash, fetch_fault_at}
use Rattle.ant_base.specs.Inner.Answered.{given_at, taken_at, taken_of}
use Rattle.ant_base.specs.declared.shelf.FetchFault.TheVariants as fault

-- a text ends in LF by its last byte alone
texts_ended : map ends_in_lf (codes "a\n" ∷ codes "\n" ∷ codes "\na" ∷ codes "a" ∷ (97 ∷ 13 ∷ []) ∷ [] ∷ []) ≡ true ∷ true ∷ false ∷ false ∷ false ∷ false ∷ []
texts_ended = refl

-- nothing waits if no byte does; one byte waits, also an LF
nothing_waits : NothingWaits (Some [])
nothing_waits = refl

lf_waits : NothingWaits (Some (10 ∷ [])) → ⊥
lf_waits e = (let never : ◌≡◌ {A = List ℕ} (10 ∷ []) [] = e in absurd (cc))

-- a count stays at the last value of a u64
counts_stay : map one_more (0 ∷ 7 ∷ 18446744073709551614 ∷ 18446744073709551615 ∷ []) ≡ 1 ∷ 8 ∷ 18446744073709551615 ∷ 18446744073709551615 ∷ []
counts_stay = refl

-- a count that stayed or fell didn't rise, but at the last value, if it stays
stayed_counts : (Rose 3 3 → ⊥) × (Rose 3 2 → ⊥) × Rose 3 4 × Rose 3 9 × Rose 18446744073709551615 18446744073709551615
stayed_counts = ((λ rose. omega (arith, rose)), (λ rose. omega (arith, rose)), omega arith, omega arith, omega arith)

-- the name of standard input
dash_alone : dash ≡ codes "-"
dash_alone = refl

-- out of memory is distinguished from every other fault
faults_of_kinds : map fetch_fault_at (kind.NotFound ∷ kind.PermissionDenied ∷ kind.OutOfMemory ∷ kind.Interrupted ∷ []) ≡ fault.Failed ∷ fault.Failed ∷ fault.OutOfMemory ∷ fault.Failed ∷ []
faults_of_kinds = refl

-- only an interruption is no fault, and a write that takes nothing is one
interrupted_goes_on : (taken_at kind.Interrupted ≡ Ok 0) × (given_at kind.Interrupted ≡ Ok None)
interrupted_goes_on = (refl, refl)

other_kinds_fail : (taken_at kind.BrokenPipe ≡ Err (record {})) × (given_at kind.NotFound ≡ Err fault.Failed) × (given_at kind.OutOfMemory ≡ Err fault.OutOfMemory)
other_kinds_fail = (refl, refl, refl)

writes_judged : (taken_of (Ok 0) ≡ Err (record {})) × (taken_of (Ok 1) ≡ Ok 1)
writes_judged = (refl, refl)

-- calls are numbered from 1, and only those that are listed fail
abbrev some_files : ℕ → MemShelfState
some_files calls = record { files = (codes "a", codes "1") ∷ (codes "b", codes "2") ∷ (codes "a", codes "3") ∷ []; failing = 2 ∷ []; calls = calls; faults = 0; log = [] }

calls_numbered : map (λ calls. fails (some_files calls) (codes "a")) (0 ∷ 1 ∷ 2 ∷ []) ≡ false ∷ true ∷ false ∷ []
calls_numbered = refl

-- of a name that was added twice the first bytes count, and a name that wasn't added has none
first_added : map (content_of (some_files 0).files) (codes "a" ∷ codes "b" ∷ codes "A" ∷ []) ≡ Some (codes "1") ∷ Some (codes "2") ∷ None ∷ []
first_added = refl

-- a shelf in which a call may fail is sure of no name
unsure : (shelf_of (some_files 0)).sure (codes "a") ≡ false
unsure = refl

-- a shelf in which no call fails tells its contents, and is sure of the names that it has and of no other
abbrev sure_files : MemShelfState
sure_files = record { files = (codes "a", codes "1") ∷ []; failing = []; calls = 3; faults = 2; log = [] }

sure_of_its_names : (map (shelf_of sure_files).sure (codes "a" ∷ codes "b" ∷ []) ≡ true ∷ false ∷ []) × ((shelf_of sure_files).faults ≡ 2)
sure_of_its_names = (refl, refl)

contents_told : (option_map (λ contents. contents (codes "a")) (shelf_of sure_files).files ≡ Some (Some (codes "1"))) × (option_map (λ contents. contents (codes "b")) (shelf_of sure_files).files ≡ Some None)
contents_told = (refl, refl)

-- a sink takes what it has room for
abbrev small_sink : MemSinkState
small_sink = record { held = codes "ab"; room = 5; failing = []; calls = 0; faults = 0 }

rooms_filled : (map (bytes_taken small_sink) (codes "c" ∷ codes "cde" ∷ codes "cdef" ∷ []) ≡ 1 ∷ 3 ∷ 3 ∷ []) × (map (takes_whole small_sink) (codes "cde" ∷ codes "cdef" ∷ []) ≡ true ∷ false ∷ [])
rooms_filled = (refl, refl)

-- it tells the bytes that it holds, of which none waits
bytes_told : sink_of small_sink ≡ record { held = Some (codes "ab"); waiting = Some []; faults = 0 }
bytes_told = refl

-- numbered texts stand in rising order, from 0 on
texts_numbered : numbered (λ n. n ∷ []) 3 ≡ 0 ∷ 1 ∷ 2 ∷ []
unfolding numbered
texts_numbered = refl
