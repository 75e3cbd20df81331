-- What a call is given, and its status, worked by hand.
use Rattle.std.proofs.Common.{◌≡◌, ℕ, List, [], ◌∷◌, Some, codes, refl, ap, arith}
use Rattle.std.specs.Fmt.{digits}
use Rattle.std.proofs.lemmas.Option.{same_Some}
use Rattle.std.proofs.lemmas.Str.{IsUtf8-nil}
use Rattle.ant_base.specs.Sink.{SinkState}
use Rattle.ant_commands.specs.FaultLines.Ending.{Done, RefusedWord, Stopped}
use Rattle.ant_commands.specs.FaultLines.Reason.{AtInput, AtRoom}
use Rattle.ant_commands.specs.declared.stop.FileFault.TheVariants.{Breaks, Text}
use Rattle.break_view.specs.declared.fault.BreakFault.TheVariants.{ExtraToken}
use Rattle.text_fault.specs.declared.fault.TextFault.TheVariants.{World}
use Rattle.world_read.specs.declared.fault.WorldFault.TheVariants.{OpenRim}
use Rattle.ants_c.specs.Called.{AreFiles, call_fault, call_status, files_in, holding, lent}
use Rattle.ants_c.specs.Ended.{ending_fault, file_named, word_naming}
use Rattle.ants_c.specs.declared.fault.AntsFault.{AntsFault}

-- a has the first two of three bytes, and b the third
two_files : files_in ((97 ∷ []) ∷ (98 ∷ []) ∷ []) (2 ∷ 1 ∷ []) (1 ∷ 2 ∷ 3 ∷ []) ≡ (97 ∷ [], 1 ∷ 2 ∷ []) ∷ (98 ∷ [], 3 ∷ []) ∷ []
two_files = refl

-- three bytes are two files, whose names may be empty
are_two : AreFiles ([] ∷ [] ∷ []) (2 ∷ 1 ∷ []) (1 ∷ 2 ∷ 3 ∷ [])
are_two = record { named = (IsUtf8-nil, (IsUtf8-nil, tt)); sized = refl; whole = refl }

-- no byte may be left, none may be missing, and each name has its size
byte_left : AreFiles ((97 ∷ []) ∷ []) (1 ∷ []) (1 ∷ 2 ∷ []) → ⊥
byte_left are = let whole = are.whole in omega (arith, whole)

byte_wanting : AreFiles ((97 ∷ []) ∷ []) (3 ∷ []) (1 ∷ 2 ∷ []) → ⊥
byte_wanting are = let whole = are.whole in omega (arith, whole)

name_left : AreFiles ((97 ∷ []) ∷ (98 ∷ []) ∷ []) (2 ∷ []) (1 ∷ 2 ∷ []) → ⊥
name_left are = let sized = are.sized in omega (arith, sized)

-- faults that a caller lends
no_fault : AntsFault
no_fault = record { text = 0; kind = 0; line = 0; column = 0; number = 0; words = 0 }

some_fault : AntsFault
some_fault = record { text = 1; kind = 2; line = 3; column = 4; number = 5; words = 6 }

-- a text and a line that just fill their rooms give the program's status; if either is longer, the status is 4
both_fill : call_status (1 ∷ 2 ∷ []) (3 ∷ []) (lent (0 ∷ 0 ∷ []) 0 (0 ∷ []) 0 no_fault) (RefusedWord 1) ≡ 2
both_fill = refl

long_text : call_status (1 ∷ 2 ∷ []) [] (lent (0 ∷ []) 0 [] 0 no_fault) Done ≡ 4
long_text = refl

long_line : call_status [] (1 ∷ 2 ∷ []) (lent [] 0 (0 ∷ []) 0 no_fault) (RefusedWord 1) ≡ 4
long_line = refl

-- The fault that a caller lends is unchanged if a line is too long, and if a run is done. It is written if a word is
-- refused.
fault_stays : call_fault [] [] [] (1 ∷ 2 ∷ []) (lent [] 0 (0 ∷ []) 0 some_fault) (RefusedWord 1) ≡ some_fault
fault_stays = refl

done_tells_nothing : call_fault [] [] [] [] (lent [] 0 [] 0 some_fault) Done ≡ some_fault
done_tells_nothing = refl

word_told : call_fault [] [] [] [] (lent [] 0 [] 0 some_fault) (RefusedWord 3) ≡ record { text = 0; kind = 0; line = 0; column = 0; number = 3; words = 0 }
word_told = refl

-- of two files with one name the first is used
first_file_told : file_named (codes "b") (codes "a" ∷ codes "b" ∷ codes "b" ∷ []) ≡ 2
first_file_told = refl

no_file_told : file_named (codes "c") (codes "a" ∷ codes "b" ∷ []) ≡ 0
no_file_told = refl

-- `run run a b` names the file `run` by its second word, and `brain a` the file `a` by its second
file_as_command : word_naming (codes "run") (codes "run" ∷ codes "run" ∷ codes "a" ∷ codes "b" ∷ []) ≡ 2
file_as_command = refl

last_word : word_naming (codes "b") (codes "run" ∷ codes "run" ∷ codes "a" ∷ codes "b" ∷ []) ≡ 4
last_word = refl

-- the world `w` of `run w a b`, the last of four files, has an open rim in column 4 of row 2: `rim open at (4, 2)` has
-- 18 bytes
world_refused : ending_fault (codes "run" ∷ codes "w" ∷ codes "a" ∷ codes "b" ∷ []) (codes "a" ∷ codes "b" ∷ codes "c" ∷ codes "w" ∷ []) (Stopped (AtInput (codes "w") (Text (World (OpenRim 4 2)))))
    ≡ Some (record { text = 4; kind = 17; line = 2; column = 4; number = 0; words = 18 })
unfolding digits
world_refused = refl

-- a line of breaks has a word more: `line 2: extra token` has 19 bytes
breaks_refused : ending_fault (codes "view" ∷ codes "w" ∷ codes "a" ∷ codes "a" ∷ codes "x" ∷ []) (codes "x" ∷ codes "a" ∷ codes "w" ∷ []) (Stopped (AtInput (codes "x") (Breaks (ExtraToken 2))))
    ≡ Some (record { text = 1; kind = 73; line = 2; column = 0; number = 0; words = 19 })
unfolding digits
breaks_refused = refl

-- an element of a generated world has no room: `no room for element 2` has 21 bytes
crowded : ending_fault (codes "gen" ∷ codes "1" ∷ []) [] (Stopped (AtRoom 2)) ≡ Some (record { text = 0; kind = 60; line = 0; column = 0; number = 2; words = 21 })
unfolding digits
crowded = refl

-- a sink tells what it holds
held_apart : (text other : List ℕ) → holding text ≡ holding other → text ≡ other
held_apart text other same = same_Some text other (ap (λ (s : SinkState). s.held) same)
