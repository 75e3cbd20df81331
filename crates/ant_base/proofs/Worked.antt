-- Lines, separators and numbers of small texts, worked out.
use Rattle.std.proofs.Common.{◌≡◌, [], ◌∷◌, ◌++◌, map, Some, None, codes, refl}
use Rattle.ant_base.specs.Lines.{lines_of, first_line, after_line, after_separators, trimmed}
use Rattle.ant_base.specs.Number.{decimal_value, number_within}
use Rattle.ant_base.specs.FaultText.{failed_text, fetch_fault_text, line_says, memory_text, push_fault_text}
use Rattle.ant_base.specs.declared.shelf.FetchFault.TheVariants.{Failed, TooLong, OutOfMemory}
use Rattle.ant_base.specs.declared.push_fault.PushFault.TheVariants as push
use Rattle.std.specs.Fmt.{digits}

-- an empty line in the middle counts, and a last line needs no LF
pub lines_between : lines_of (97 ∷ 10 ∷ 10 ∷ 98 ∷ []) ≡ codes "a" ∷ [] ∷ codes "b" ∷ []
lines_between = refl

-- no line follows a last LF
pub lines_before_a_last_lf : map lines_of ((97 ∷ 10 ∷ []) ∷ (10 ∷ []) ∷ [] ∷ []) ≡ (codes "a" ∷ []) ∷ ([] ∷ []) ∷ [] ∷ []
lines_before_a_last_lf = refl

-- the first line is cut off, and its LF is gone
pub first_of_two_lines : first_line (97 ∷ 10 ∷ 98 ∷ []) ≡ codes "a"
first_of_two_lines = refl

pub after_the_first : after_line (97 ∷ 10 ∷ 98 ∷ []) ≡ codes "b"
after_the_first = refl

-- space, tab and CR go at both ends, and stay within
pub trimmed_lines : map trimmed ((32 ∷ 9 ∷ codes "# ." ++ 13 ∷ []) ∷ (32 ∷ 9 ∷ 13 ∷ []) ∷ []) ≡ codes "# ." ∷ [] ∷ []
trimmed_lines = refl

pub after_a_tab : after_separators (9 ∷ codes "4 ") ≡ codes "4 "
after_a_tab = refl

-- leading zeros are read, up to ten digits in all
pub numbers_of_texts : map decimal_value (codes "007" ∷ codes "4294967296" ∷ codes "0000000000" ∷ []) ≡ Some 7 ∷ Some 4294967296 ∷ Some 0 ∷ []
unfolding decimal_value
numbers_of_texts = refl

pub texts_without_a_number : map decimal_value ([] ∷ codes "12345678901" ∷ codes "00000000000" ∷ codes "+1" ∷ codes "1 " ∷ []) ≡ None ∷ None ∷ None ∷ None ∷ None ∷ []
unfolding decimal_value
texts_without_a_number = refl

-- both bounds are included
pub numbers_within : map (number_within 3 5) (codes "2" ∷ codes "3" ∷ codes "05" ∷ codes "6" ∷ codes "x" ∷ []) ≡ None ∷ Some 3 ∷ Some 5 ∷ None ∷ None ∷ []
unfolding decimal_value
numbers_within = refl

-- what is said of a failed push, of memory, of a line, and of each fault of a fetch
faults_say : failed_text ∷ memory_text ∷ line_says 12 failed_text ∷ map fetch_fault_text (Failed ∷ TooLong ∷ OutOfMemory ∷ [])
    ≡ codes "output failed" ∷ codes "out of memory" ∷ codes "line 12: output failed" ∷ codes "not read" ∷ codes "too long" ∷ codes "out of memory" ∷ []
unfolding digits
faults_say = refl

-- and of a text that wasn't pushed whole
push_faults_say : map push_fault_text (push.WriteFault ∷ push.OutOfMemory ∷ []) ≡ codes "output failed" ∷ codes "out of memory" ∷ []
push_faults_say = refl
