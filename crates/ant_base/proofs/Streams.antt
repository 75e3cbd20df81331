-- What writers took and readers gave.
use Rattle.std.proofs.Common.{◌≡◌, ℕ, Bool, eqb, min, zero, suc, Result, Ok, Err, ◌<◌, ◌≤◌, ◌+◌, ◌-◌, List, [], ◌∷◌, ◌++◌, length, take, drop, Option, Some, None, IfSome, refl, sym, ◌∙◌, ap, subst, append_assoc, append-nil, take-append-drop, arith}
use Rattle.std.proofs.KnownBytes.{Appends-nil, Appends-trans, Consumes-kept, Consumes-nil, Consumes-trans}
use Rattle.std.proofs.lemmas.Bool.{ne_eqb}
use Rattle.std.proofs.lemmas.List.{length-append, length-drop, length-take, take_all}
use Rattle.std.specs.Io.KnownBytes.{Appends, Consumes, IsAtEnd, Keeps, ReadConsumes, WriteAppends}
use Rattle.std.specs.Counts.{IsPrefixLen}
use Rattle.std.specs.Prelude.{true, false, IfOk, OnErr}
use Rattle.std.specs.IoError.{error_kind}
use Rattle.std.specs.declared.io.Error.{Error}
use Rattle.std.specs.declared.io.ErrorKind.{ErrorKind}
use Rattle.std.specs.declared.io.ErrorKind.TheVariants.{Interrupted}
use Rattle.ant_base.specs.declared.shelf.FetchFault.{FetchFault}
use Rattle.ant_base.specs.declared.shelf.FetchFault.TheVariants.{Failed as ReadFailed, TooLong, OutOfMemory}
use Rattle.ant_base.specs.Inner.Answered.{ReadsOn, given_at, given_of, taken_at, taken_of}
use Rattle.ant_base.specs.Shelf.{longest}
use Rattle.ant_base.specs.System.{GivesWithin, IsReadFrom, TakesAtMost}
use Rattle.ant_base.specs.Streams.{TakesSome, TookUpTo}

-- nothing is taken from a reader yet
pub read_none : (known : Option (List ℕ)) (content : List ℕ) → content ≡ [] → Consumes known known content
read_none known content empty = subst (Consumes known known) (sym empty) (Consumes-nil known)

-- some bytes more are taken, within the bound
pub read_lost : {T E : Type 0} (result : Result T E) (start now next : Option (List ℕ)) (content chunk : List ℕ) (given room most : ℕ) → Consumes start now content → Consumes now next (take given chunk)
    → given ≤ room → length content + room ≤ most → OnErr result (TakesAtMost most start next)
read_lost (Ok value) start now next content chunk given room most first second fits few = tt
read_lost (Err fault) start now next content chunk given room most first second fits few =
    record { bytes = content ++ take given chunk; taken = Consumes-trans start now next content (take given chunk) first second; few = omega (arith, length-append content (take given chunk), length-take given chunk) }

-- a failed read gave nothing
given_none : (kind : ErrorKind) (n : ℕ) → given_at kind ≡ Ok (Some n) → ⊥
given_none Interrupted n is = cc
given_none _ n is = cc

-- a read gives no more than was requested
pub read_fits : (answer : Result ℕ Error) (read : Result (Option ℕ) FetchFault) (field : Option ℕ) (chunk : List ℕ) (given : ℕ) → IfOk answer (λ n. IsPrefixLen n chunk) → read ≡ given_of answer → read ≡ Ok field → field ≡ Some given → given ≤ length chunk
read_fits (Ok n) read field chunk given bound is was some = let same : n ≡ given = cc in subst (λ m. m ≤ length chunk) same bound.0
read_fits (Err error) read field chunk given bound is was some = absurd (given_none (error_kind error) given (sym is ∙ was ∙ ap Ok some))

-- a read that gave something took it from the reader
pub read_gave : (answer : Result ℕ Error) (read : Result (Option ℕ) FetchFault) (field : Option ℕ) (given : ℕ) (before after : Option (List ℕ)) (chunk : List ℕ) → ReadConsumes before after answer chunk → read ≡ given_of answer → read ≡ Ok field → field ≡ Some given
    → Consumes before after (take given chunk) × (given ≡ 0 → 0 < length chunk → IsAtEnd after)
read_gave (Ok n) read field given before after chunk bytes is was some =
    let same : n ≡ given = cc in
    subst (λ m. Consumes before after (take m chunk) × (m ≡ 0 → 0 < length chunk → IsAtEnd after)) same bytes
read_gave (Err error) read field given before after chunk bytes is was some = absurd (given_none (error_kind error) given (sym is ∙ was ∙ ap Ok some))

-- and a reader that is sure is sure of as much less
pub read_less : (answer : Result ℕ Error) (read : Result (Option ℕ) FetchFault) (field : Option ℕ) (given sure left : ℕ) → GivesWithin sure left answer → read ≡ given_of answer → read ≡ Ok field → field ≡ Some given → sure ≤ left + given
read_less (Ok n) read field given sure left gives is was some = let same : n ≡ given = cc in subst (λ m. sure ≤ left + m) same gives
read_less (Err error) read field given sure left gives is was some = absurd gives

-- a read that gave nothing took nothing
pub read_kept : (answer : Result ℕ Error) (read : Result (Option ℕ) FetchFault) (before after : Option (List ℕ)) (chunk : List ℕ) → ReadConsumes before after answer chunk → read ≡ given_of answer → ((n : ℕ) → read ≡ Ok (Some n) → ⊥) → Keeps before after
read_kept (Ok n) read before after chunk bytes is none = absurd (none n is)
read_kept (Err error) read before after chunk bytes is none = bytes

-- and its reader isn't sure
pub read_unsure : (answer : Result ℕ Error) (read : Result (Option ℕ) FetchFault) (sure left : ℕ) → GivesWithin sure left answer → read ≡ given_of answer → ((n : ℕ) → read ≡ Ok (Some n) → ⊥) → ⊥
read_unsure (Ok n) read sure left gives is none = none n is
read_unsure (Err error) read sure left gives is none = gives

-- a read that was a fault, or was interrupted, gave nothing
pub fault_none : (read : Result (Option ℕ) FetchFault) (fault : FetchFault) → read ≡ Err fault → (n : ℕ) → read ≡ Ok (Some n) → ⊥
fault_none read fault is n some = cc

pub interrupted_none : (read : Result (Option ℕ) FetchFault) (field : Option ℕ) → read ≡ Ok field → field ≡ None → (n : ℕ) → read ≡ Ok (Some n) → ⊥
interrupted_none read field is none n some = cc

-- what was taken if nothing more is
pub read_stopped : {T E : Type 0} (result : Result T E) (start before after : Option (List ℕ)) (content : List ℕ) (len room most : ℕ) → Consumes start before content → Keeps before after → len ≡ length content → len + room ≤ most → OnErr result (TakesAtMost most start after)
read_stopped (Ok value) start before after content len room most first keeps all few = tt
read_stopped (Err fault) start before after content len room most first keeps all few = record { bytes = content; taken = Consumes-kept start before after content first keeps; few = omega arith }

-- what was taken with what was given
pub read_more_taken : (start before after : Option (List ℕ)) (content chunk new : List ℕ) (given : ℕ) → Consumes before after (take given chunk) → new ≡ content ++ take given chunk → Consumes start before content → Consumes start after new
read_more_taken start before after content chunk new given second is first = subst (Consumes start after) (sym is) (Consumes-trans start before after content (take given chunk) first second)

-- a content that has got what was given is within the bound
pub read_few : (len longer given room most : ℕ) (chunk : List ℕ) → longer ≡ len + length (take given chunk) → length chunk ≡ room → len + room ≤ most → longer ≤ most
read_few len longer given room most chunk is same fits = omega (arith, length-take given chunk)

-- a reader that is sure gave something, or has nothing left
pub read_on : (sure left len longer given : ℕ) (chunk : List ℕ) → longer ≡ len + length (take given chunk) → given ≤ length chunk → sure ≤ left + given → ReadsOn sure left len longer (Ok (eqb given 0))
read_on sure left len longer zero chunk is fits less = tt
read_on sure left len longer (suc n) chunk is fits less = rw (ne_eqb (suc n) 0 (omega arith)) (omega (arith, length-take (suc n) chunk), omega (arith, length-take (suc n) chunk))

-- if nothing was given, nothing is left
pub read_ended : (given len longer : ℕ) (chunk : List ℕ) (after : Option (List ℕ)) → (given ≡ 0 → 0 < length chunk → IsAtEnd after) → 0 < length chunk → longer ≡ len + length (take given chunk) → ◌≡◌ {A = Result Bool FetchFault} (Ok (eqb given 0)) (Ok true) → IsAtEnd after × (longer ≡ len)
read_ended zero len longer chunk after end some is done = (end refl some, omega (arith, is))
read_ended (suc n) len longer chunk after end some is done = let more = ne_eqb (suc n) 0 (omega arith) in absurd (cc)

-- what was to be read fits after the content
pub read_room : (len all new room most : ℕ) → len ≡ all → new ≡ room → len + room ≤ most → all + new ≤ most
read_room len all new room most same as_long fits = omega arith

-- a reader that gave more than the longest has more
pub read_long : (known now : Option (List ℕ)) (content : List ℕ) → Consumes known now content → longest < length content → IfSome known (λ bytes. longest < length bytes)
read_long None now content consumes long = tt
read_long (Some bytes) None content consumes long = absurd consumes
read_long (Some bytes) (Some rest) content consumes long = omega (arith, ap length consumes, length-append content rest)

-- a reader that has nothing left gave all
pub read_whole : (known now : Option (List ℕ)) (content : List ℕ) → Consumes known now content → IsAtEnd now → IfSome known (λ bytes. content ≡ bytes)
read_whole None now content consumes end = tt
read_whole (Some bytes) None content consumes end = absurd consumes
read_whole (Some bytes) (Some rest) content consumes end = sym (consumes ∙ ap (λ xs. content ++ xs) end ∙ append-nil content)

-- before the first turn a reader gave no byte
pub read_first : (most sure len : ℕ) → len ≡ 0 → (len ≤ most) × (most ≤ sure → (most ≤ sure + len) × (0 ≤ len))
read_first most sure len none = (omega arith, λ enough. (omega arith, omega arith))

-- a reader that is sure gives a byte each turn
pub read_next : (most sure left len longer turn : ℕ) → (most ≤ sure + len) × (turn ≤ len) → (len < longer) × (sure + len ≤ left + longer) → (most ≤ left + longer) × (turn + 1 ≤ longer)
read_next most sure left len longer turn before now = (omega arith, omega arith)

-- it is sure of as much as is requested from it
pub read_asks : (most sure len size n at : ℕ) (chunk : List ℕ) → n ≡ min size (most - at) → at ≡ len → most ≤ sure + len → length (take n chunk) ≤ sure
read_asks most sure len size n at chunk asks is enough = omega (arith, length-take n chunk)

-- so the turns don't end before its bytes do
pub read_turns : (most turns turn len : ℕ) → len ≤ most → turn ≤ len → turns ≤ turn → most < turns → ⊥
read_turns most turns turn len few on end many = omega arith

-- what is read where a read failed
pub read_failed : {A : Type 0} (begun sure left len longer : ℕ) (remaining : Option (List ℕ)) (fault : FetchFault) → (◌≡◌ {A = Result Bool FetchFault} (Err fault) (Err TooLong) → ⊥) → (longest + 1 ≤ begun → ReadsOn sure left len longer (Err fault))
    → IsReadFrom {A = A} begun remaining (Err fault)
read_failed begun sure left len longer remaining ReadFailed other on = record { read = tt; failed = λ enough. absurd (on enough) }
read_failed begun sure left len longer remaining TooLong other on = absurd (other refl)
read_failed begun sure left len longer remaining OutOfMemory other on = record { read = tt; failed = λ _. refl }

keeps_is_nothing : (held now : Option (List ℕ)) → Keeps held now → Appends held now []
keeps_is_nothing None now keeps = tt
keeps_is_nothing (Some held) None keeps = absurd keeps
keeps_is_nothing (Some held) (Some stays) keeps = keeps ∙ sym (append-nil held)

-- nothing is taken yet
pub took_none : (taken : List ℕ) (written : Option (List ℕ)) (piece : List ℕ) → TookUpTo taken taken written written piece piece
took_none taken written piece = record { front = []; whole = refl; took = sym (append-nil taken); told = Appends-nil written }

-- some bytes more are taken
pub took_more : (taken now next : List ℕ) (written tells told : Option (List ℕ)) (piece rest : List ℕ) (n : ℕ) → TookUpTo taken now written tells piece rest → next ≡ now ++ take n rest → Appends tells told (take n rest)
    → TookUpTo taken next written told piece (drop n rest)
took_more taken now next written tells told piece rest n took noted appends = record {
  front = took.front ++ take n rest;
  whole = took.whole ∙ ap (λ bytes. took.front ++ bytes) (sym (take-append-drop n rest)) ∙ sym (append_assoc took.front (take n rest) (drop n rest));
  took = noted ∙ ap (λ bytes. bytes ++ take n rest) took.took ∙ append_assoc taken took.front (take n rest);
  told = Appends-trans written tells told took.front (take n rest) took.told appends;
}

-- a failed write that is no fault took no byte
none_taken : (kind : ErrorKind) (n : ℕ) → taken_at kind ≡ Ok n → 0 ≡ n
none_taken Interrupted n is = cc
none_taken _ n is = absurd (cc)

-- a write that wasn't a fault took this many bytes
pub write_took : (tells told : Option (List ℕ)) (answer : Result ℕ Error) (rest : List ℕ) (n : ℕ) → WriteAppends tells told answer rest → taken_of answer ≡ Ok n → Appends tells told (take n rest)
write_took tells told (Ok zero) rest n appends is = absurd (cc)
write_took tells told (Ok (suc m)) rest n appends is = let same : suc m ≡ n = cc in subst (λ k. Appends tells told (take k rest)) same appends
write_took tells told (Err error) rest n appends is =
    subst (λ k. Appends tells told (take k rest)) (none_taken (error_kind error) n is) (keeps_is_nothing tells told appends)

-- what is after the bytes that were taken
pub rest_left : (n : ℕ) (rest : List ℕ) → take (length rest - n) (drop n rest) ≡ drop n rest
rest_left n rest = take_all (length rest - n) (drop n rest) (omega (arith, length-drop n rest))

-- there is a byte where the length isn't 0
pub some_left : (rest : List ℕ) (empty : Bool) → empty ≡ eqb (length rest) 0 → empty ≡ false → rest ≡ [] → ⊥
some_left rest empty is some none = let all : eqb (length rest) 0 ≡ true = ap (λ xs. eqb (length xs) 0) none in cc

-- a write that takes some took a byte
pub write_some : (answer : Result ℕ Error) (n : ℕ) → TakesSome answer → taken_of answer ≡ Ok n → 0 < n
write_some (Ok zero) n some is = absurd (cc)
write_some (Ok (suc m)) n some is = let same : suc m ≡ n = cc in subst (λ k. 0 < k) same some
write_some (Err error) n some is = absurd some

-- so as many turns were made as bytes were taken at most
pub write_next : (turn n : ℕ) (rest : List ℕ) (all : ℕ) → (rest ≡ [] → ⊥) → 0 < n → turn + length rest ≤ all → turn + 1 + length (drop n rest) ≤ all
write_next turn n [] all some took before = absurd (some refl)
write_next turn n (byte ∷ bytes) all some took before = omega (arith, length-drop n (byte ∷ bytes))

-- before the first turn all is left
pub write_first : (len : ℕ) → 0 + len ≤ len
write_first len = omega arith
