-- Fetches from a list of files.
use Rattle.std.proofs.Common.{◌≡◌, ℕ, ◌+◌, ◌<◌, ◌≤◌, true, false, cond, ◌&&◌, List, [], ◌∷◌, ◌++◌, length, take, drop, get_or, Option, Some, None, Err, is_some, refl, sym, ◌∙◌, ap, subst, append-nil, append_assoc, arith}
use Rattle.std.proofs.lemmas.Bool.{and_right, false≢true}
use Rattle.std.proofs.Math.Seq.{take-append_seam, drop-append_seam, take-length}
use Rattle.std.proofs.lemmas.List.{at_drop_more, drop-append-le, length-append, length-drop, take-append-le}
use Rattle.std.specs.List.{AllByRecursion}
use Rattle.std.specs.Str.{bytes_eq}
use Rattle.list_lemmas.proofs.AllElements.{AllByRecursion-append, AllByRecursion-append_first, AllByRecursion-append_second, AllByRecursion-weaker}
use Rattle.ant_base.specs.Calls.{is_failing}
use Rattle.ant_base.specs.Inner.Entries.{bytes_in, files_in}
use Rattle.ant_base.specs.Inner.Noted.{noted}
use Rattle.ant_base.specs.Faults.{Rose}
use Rattle.ant_base.specs.Fetched.{Fetched}
use Rattle.ant_base.specs.MemShelf.{MemShelfState, content_of, none_fails, shelf_of}
use Rattle.ant_base.specs.Shelf.{Fetches, FetchesEach, IsTold, ShelfState}
use Rattle.ant_base.specs.declared.files.Sizes.{Sizes}
use Rattle.ant_base.specs.declared.shelf.FetchFault.TheVariants.{Failed}

content_of-drop : (entries : List Sizes) (i : ℕ) (sizes : Sizes) (texts name : List ℕ) → i < length entries → sizes ≡ get_or entries i sizes
    → content_of (files_in (drop i entries) texts) name
    ≡ cond (bytes_eq (take sizes.name texts) name) (Some (take sizes.bytes (drop sizes.name texts))) (content_of (files_in (drop (i + 1) entries) (drop sizes.bytes (drop sizes.name texts))) name)
content_of-drop entries i sizes texts name lt is =
    at_drop_more (λ more. content_of (files_in more texts) name) entries i sizes lt
    ∙ ap (λ (one : Sizes). content_of (files_in (one ∷ drop (i + 1) entries) texts) name) (sym is)

-- the entry at i has the name
pub content_found : (entries : List Sizes) (i : ℕ) (sizes : Sizes) (texts name own after bytes : List ℕ) → i < length entries → sizes ≡ get_or entries i sizes
    → own ≡ take sizes.name texts → after ≡ drop sizes.name texts → bytes ≡ take sizes.bytes after → true ≡ bytes_eq own name
    → content_of (files_in (drop i entries) texts) name ≡ Some bytes
content_found entries i sizes texts name own after bytes lt is named left under same =
    let test = sym (same ∙ ap (λ t. bytes_eq t name) named) in
    content_of-drop entries i sizes texts name lt is
    ∙ ap (λ b. cond b (Some (take sizes.bytes (drop sizes.name texts))) (content_of (files_in (drop (i + 1) entries) (drop sizes.bytes (drop sizes.name texts))) name)) test
    ∙ ap Some (sym (under ∙ ap (λ t. take sizes.bytes t) left))

empty_text : (texts : List ℕ) → 0 ≡ length texts → texts ≡ []
empty_text [] none = refl
empty_text (byte ∷ texts) none = absurd (omega (arith, none))

-- a name and its bytes after all others
files_in-append : (entries : List Sizes) (sizes : Sizes) (texts name bytes : List ℕ) → bytes_in entries ≡ length texts → sizes.name ≡ length name → sizes.bytes ≡ length bytes
    → files_in (entries ++ sizes ∷ []) (texts ++ (name ++ bytes)) ≡ files_in entries texts ++ (name, bytes) ∷ []
files_in-append [] sizes texts name bytes full named under =
    ap (λ t. files_in (sizes ∷ []) (t ++ (name ++ bytes))) (empty_text texts full)
    ∙ ap (λ n. (take n (name ++ bytes), take sizes.bytes (drop n (name ++ bytes))) ∷ []) named
    ∙ ap (λ t. (t, take sizes.bytes (drop (length name) (name ++ bytes))) ∷ []) (take-append_seam name bytes)
    ∙ ap (λ t. (name, take sizes.bytes t) ∷ []) (drop-append_seam name bytes)
    ∙ ap (λ n. (name, take n bytes) ∷ []) under
    ∙ ap (λ t. (name, t) ∷ []) (take-length bytes)
files_in-append (one ∷ entries) sizes texts name bytes full named under =
    let tail = name ++ bytes in
    let left = drop one.name texts in
    let first : one.name ≤ length texts = omega (arith, full) in
    let second : one.bytes ≤ length left = omega (arith, full, length-drop one.name texts) in
    let rest : bytes_in entries ≡ length (drop one.bytes left) = omega (arith, full, length-drop one.name texts, length-drop one.bytes left) in
    ap (λ t. (t, take one.bytes (drop one.name (texts ++ tail))) ∷ files_in (entries ++ sizes ∷ []) (drop one.bytes (drop one.name (texts ++ tail)))) (take-append-le one.name texts tail first)
    ∙ ap (λ t. (take one.name texts, take one.bytes t) ∷ files_in (entries ++ sizes ∷ []) (drop one.bytes t)) (drop-append-le one.name texts tail first)
    ∙ ap (λ t. (take one.name texts, t) ∷ files_in (entries ++ sizes ∷ []) (drop one.bytes (left ++ tail))) (take-append-le one.bytes left tail second)
    ∙ ap (λ t. (take one.name texts, take one.bytes left) ∷ files_in (entries ++ sizes ∷ []) t) (drop-append-le one.bytes left tail second)
    ∙ ap (λ files. (take one.name texts, take one.bytes left) ∷ files) (files_in-append entries sizes (drop one.bytes left) name bytes rest named under)

bytes_in-append : (entries : List Sizes) (sizes : Sizes) → bytes_in (entries ++ sizes ∷ []) ≡ bytes_in entries + (sizes.name + sizes.bytes)
bytes_in-append [] sizes = omega arith
bytes_in-append (one ∷ entries) sizes = omega (arith, bytes_in-append entries sizes)

-- they lie end to end again
bytes_in-more : (entries : List Sizes) (sizes : Sizes) (texts name bytes : List ℕ) → bytes_in entries ≡ length texts → sizes.name ≡ length name → sizes.bytes ≡ length bytes
    → bytes_in (entries ++ sizes ∷ []) ≡ length (texts ++ (name ++ bytes))
bytes_in-more entries sizes texts name bytes full named under = omega (arith, bytes_in-append entries sizes, full, named, under, length-append texts (name ++ bytes), length-append name bytes)

-- what an add leaves, by the two lists after each of its steps
pub files_in-added : (entries kept more : List Sizes) (sizes : Sizes) (texts room one two own name bytes : List ℕ) → more ≡ kept ++ sizes ∷ [] → kept ≡ entries → two ≡ one ++ bytes → one ≡ room ++ own → room ≡ texts → own ≡ name
    → bytes_in entries ≡ length texts → sizes.name ≡ length name → sizes.bytes ≡ length bytes
    → (files_in more two ≡ files_in entries texts ++ (name, bytes) ∷ []) × (bytes_in more ≡ length two)
files_in-added entries kept more sizes texts room one two own name bytes pushed kept-is second first room-is own-is full named under =
    let grown : more ≡ entries ++ sizes ∷ [] = pushed ∙ ap (λ xs. xs ++ sizes ∷ []) kept-is in
    let held : two ≡ texts ++ (name ++ bytes) = second ∙ ap (λ xs. xs ++ bytes) (first ∙ ap (λ xs. xs ++ own) room-is ∙ ap (λ xs. texts ++ xs) own-is) ∙ append_assoc texts name bytes in (
      ap (λ xs. files_in xs two) grown ∙ ap (files_in (entries ++ sizes ∷ [])) held ∙ files_in-append entries sizes texts name bytes full named under,
      ap bytes_in grown ∙ bytes_in-more entries sizes texts name bytes full named under ∙ ap length (sym held),
    )

none_fails-failing : (failing : List ℕ) (number : ℕ) → is_failing failing number ≡ true → none_fails failing ≡ false
none_fails-failing [] number e = sym e
none_fails-failing (_ ∷ failing) number e = refl

-- if some call fails, the shelf is sure of no name
pub unsure_by_call : (s : MemShelfState) (number : ℕ) (name : List ℕ) → is_failing s.failing number ≡ true → (shelf_of s).sure name ≡ false
unsure_by_call s number name e = ap (λ b. b && is_some (content_of s.files name)) (none_fails-failing s.failing number e)

-- it is sure of no name that it hasn't
pub unsure_by_name : (s : MemShelfState) (name : List ℕ) → content_of s.files name ≡ None → (shelf_of s).sure name ≡ false
unsure_by_name s name e = ap (λ o. none_fails s.failing && is_some o) e ∙ and_right (none_fails s.failing) false refl

-- a fetch that fails
pub fetch_failed : {A : Type 0} (s t : MemShelfState) (name : List ℕ) → (shelf_of s).sure name ≡ false → t.files ≡ s.files → t.failing ≡ s.failing → t.log ≡ s.log → Rose s.faults t.faults → s.faults ≤ t.faults
    → Fetches {A = A} (shelf_of s) (shelf_of (noted t (record { name = name; answer = Err Failed }))) name (Err Failed)
fetch_failed s t name unsure files failing log rose later = record {
  answer = record { unsure = unsure; rose = rose };
  log = ap (λ fetches. fetches ++ record { name = name; answer = Err Failed } ∷ []) log;
  files = ap (λ f. Some (content_of f)) files;
  sure = λ other sure. ap (λ f. none_fails f && is_some (content_of t.files other)) failing ∙ ap (λ f. none_fails s.failing && is_some (content_of f other)) files ∙ sure;
  quiet = λ sure. absurd (false≢true (sym unsure ∙ sure));
  later = later;
}

-- no fetch does nothing
pub fetches_none : (shelf : ShelfState) → FetchesEach shelf shelf []
fetches_none shelf = record { log = sym (append-nil shelf.log); told = tt; files = refl; sure = λ name is. is; quiet = λ sure. refl; later = omega arith }

-- some fetches, and then others
pub fetches_then : (first second third : ShelfState) (a b : List Fetched) → FetchesEach first second a → FetchesEach second third b → FetchesEach first third (a ++ b)
fetches_then first second third a b one two =
    record {
      log = two.log ∙ ap (λ log. log ++ b) one.log ∙ append_assoc first.log a b;
      told = AllByRecursion-append (IsTold first.files) a b one.told (subst (λ (files : Option (List ℕ → Option (List ℕ))). AllByRecursion (IsTold files) b) one.files two.told);
      files = two.files ∙ one.files;
      sure = λ name is. two.sure name (one.sure name is);
      quiet = λ sure.
          two.quiet (AllByRecursion-weaker (λ fetch. first.sure fetch.name ≡ true) (λ fetch. second.sure fetch.name ≡ true) b
          (AllByRecursion-append_second (λ fetch. first.sure fetch.name ≡ true) a b sure) (λ fetch is. one.sure fetch.name is))
          ∙ one.quiet (AllByRecursion-append_first (λ fetch. first.sure fetch.name ≡ true) a b sure);
      later = omega (arith, one.later, two.later);
    }
