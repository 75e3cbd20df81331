-- A text that is read line by line, and in which each line with a token is one item: the reading stops at the first
-- line at fault, and can continue from any line.
use Rattle.std.proofs.Common.{◌≡◌, ◌+◌, ◌<◌, ◌≤◌, ℕ, Bool, true, false, List, [], ◌∷◌, ◌++◌, length, Option, Some, None, Result, Ok, Err, cond, nat_le, refl, sym, ap, ◌∙◌, arith, leb-false, append_assoc, append-nil}
use Rattle.std.specs.Option.{option_or}
use Rattle.std.proofs.lemmas.Bool.{lt-leb}
use Rattle.std.proofs.lemmas.List.{length-append}
use Rattle.ant_base.specs.Lines.{lines_of}
use Rattle.line_tokens.specs.Steps.{Read}
use Rattle.line_tokens.specs.Tokens.{tokens_of, has_token}
use Rattle.line_tokens.specs.TokenLines.{TokenLine, with_line, token_lines, lines_with_tokens, AreLinesOf}
use Rattle.line_tokens.specs.Faulty.{too_many}
use Rattle.line_tokens.specs.Inner.LineByLine.{Reader, put_before, with_front, unless, at_line, judged_line, line_then, read_lines, reading_from, first_line_fault}
use Rattle.line_tokens.proofs.LineFaults.{IsFaithful, fault_of_read, line_fault}

-- the fault of what was judged, if there is one
abbrev pub fault_of_judged : {A F : Type 0} → Result A F → Option F
fault_of_judged (Ok x) = None
fault_of_judged (Err fault) = Some fault

pub judged_err : {A F : Type 0} (made : Result A F) (fault : F) → fault_of_judged made ≡ Some fault → made ≡ Err fault
judged_err (Ok x) fault e = (let never : None ≡ Some fault = e in absurd (cc))
judged_err (Err other) fault e = (let same : Some other ≡ Some fault = e in cc)

pub judged_ok : {A F : Type 0} (made : Result A F) → fault_of_judged made ≡ None → (x : A) × (made ≡ Ok x)
judged_ok (Ok x) e = (x, refl)
judged_ok (Err fault) e = (let never : Some fault ≡ None = e in absurd (cc))

pub put_before_fault : {A F : Type 0} (x : A) (made : Result (List A) F) → fault_of_judged (put_before x made) ≡ fault_of_judged made
put_before_fault x (Ok xs) = refl
put_before_fault x (Err fault) = refl

-- what put_before made
pub put_before_ok : {A F : Type 0} (x : A) (made : Result (List A) F) (ys : List A) → put_before x made ≡ Ok ys → (xs : List A) × (made ≡ Ok xs) × (ys ≡ x ∷ xs)
put_before_ok {A} {F} x (Ok xs) ys e = (xs, refl, (let same : ◌≡◌ {A = Result (List A) F} (Ok (x ∷ xs)) (Ok ys) = e in cc))
put_before_ok {A} {F} x (Err fault) ys e = (let never : ◌≡◌ {A = Result (List A) F} (Err fault) (Ok ys) = e in absurd (cc))

-- what is kept of the items of these lines
abbrev pub kept : {A P F : Type 0} → Reader A P F → List TokenLine → List A → List P
kept r [] list = []
kept r (line ∷ lines) [] = []
kept r (line ∷ lines) (item ∷ list) = r.keep line.number item ∷ kept r lines list

-- what was read of the lines: some items, of which this was kept
pub record AreRead {A P F : Type 0} (r : Reader A P F) (Says : List (List ℕ) → A → Type 0) (before : ℕ) (lines : List TokenLine) (list : List P) : Type 0 where
  pub items : List A
  pub are : AreLinesOf Says lines items
  pub is : list ≡ kept r lines items
  pub few : before ≤ r.most → before + length items ≤ r.most

-- a line that was read, and those after it
record IsLineThen {A P F : Type 0} (r : Reader A P F) (number : ℕ) (here : Result A F) (later : Result (List P) F) (list : List P) : Type 0 where
  item : A
  rest : List P
  read : here ≡ Ok item
  others : later ≡ Ok rest
  whole : list ≡ r.keep number item ∷ rest

-- before a line that was read there is room, and its tokens are read
record IsJudged {A P F : Type 0} (r : Reader A P F) (before : ℕ) (tokens : List (List ℕ)) (item : A) : Type 0 where
  room : before < r.most
  read : r.read tokens ≡ Ok item

module _ {A P F : Type 0} (r : Reader A P F) where
  line_then_ok : (number : ℕ) (here : Result A F) (later : Result (List P) F) (list : List P) → line_then r.keep number here later ≡ Ok list → IsLineThen r number here later list
  line_then_ok number (Ok item) later list e = let p = put_before_ok (r.keep number item) later list e in record { item = item; rest = p.0; read = refl; others = p.1; whole = p.2 }
  line_then_ok number (Err fault) later list e = (let never : ◌≡◌ {A = Result (List P) F} (Err fault) (Ok list) = e in absurd (cc))

  judged_line-read : (before number : ℕ) (tokens : List (List ℕ)) (item : A) → judged_line r before number tokens ≡ Ok item → IsJudged r before tokens item
  unfolding judged_line
  judged_line-read before number tokens item e = go (nat_le r.most before) refl (r.read tokens) refl e
    where
      go : (full : Bool) → nat_le r.most before ≡ full → (made : Read A) → r.read tokens ≡ made → unless (cond full (Some (r.beyond number)) None) (at_line r.refused number made) ≡ Ok item → IsJudged r before tokens item
      go true t made is q = (let never : ◌≡◌ {A = Result A F} (Err (r.beyond number)) (Ok item) = q in absurd (cc))
      go false t (Ok other) is q = let same : other ≡ item = (let s : ◌≡◌ {A = Result A F} (Ok other) (Ok item) = q in cc) in record { room = leb-false r.most before t; read = is ∙ ap Ok same }
      go false t (Err refusal) is q = (let never : ◌≡◌ {A = Result A F} (Err (r.refused number refusal)) (Ok item) = q in absurd (cc))

  judged_line-again : (before number : ℕ) (tokens : List (List ℕ)) (item : A) → before < r.most → r.read tokens ≡ Ok item → judged_line r before number tokens ≡ Ok item
  unfolding judged_line
  judged_line-again before number tokens item room read =
      ap (λ full. unless (cond full (Some (r.beyond number)) None) (at_line r.refused number (r.read tokens))) (lt-leb r.most before room) ∙ ap (at_line r.refused number) read

module _ {A P F : Type 0} (r : Reader A P F) (Says : List (List ℕ) → A → Type 0) (first : ℕ → List (List ℕ) → Option F) (faithful : IsFaithful r Says first) where
  -- The reading stops at the first line at fault.
  pub lines_faulted : (before : ℕ) (lines : List TokenLine) → first_line_fault (line_fault r first) before lines ≡ fault_of_judged (read_lines r before lines)
  unfolding judged_line
  lines_faulted before [] = refl
  lines_faulted before (line ∷ lines) = go (too_many r.most r.beyond before line.number) (r.read line.tokens) (faithful.faulted line.number line.tokens) (lines_faulted (before + 1) lines)
    where
      go : (full : Option F) (made : Read A) → first line.number line.tokens ≡ fault_of_read r.refused line.number made → first_line_fault (line_fault r first) (before + 1) lines ≡ fault_of_judged (read_lines r (before + 1) lines)
          → option_or (option_or full (first line.number line.tokens)) (first_line_fault (line_fault r first) (before + 1) lines)
          ≡ fault_of_judged (line_then r.keep line.number (unless full (at_line r.refused line.number made)) (read_lines r (before + 1) lines))
      go (Some fault) made here later = refl
      go None (Ok item) here later =
          ap (λ f. option_or f (first_line_fault (line_fault r first) (before + 1) lines)) here ∙ later ∙ sym (put_before_fault (r.keep line.number item) (read_lines r (before + 1) lines))
      go None (Err refusal) here later = ap (λ f. option_or f (first_line_fault (line_fault r first) (before + 1) lines)) here

  pub lines_read : (lines : List TokenLine) (before : ℕ) (list : List P) → read_lines r before lines ≡ Ok list → AreRead r Says before lines list
  lines_read [] before list e =
      let none : list ≡ [] = (let same : ◌≡◌ {A = Result (List P) F} (Ok []) (Ok list) = e in cc) in
      record { items = []; are = tt; is = none; few = λ few. omega arith }
  lines_read (line ∷ lines) before list e =
      let p = line_then_ok r line.number (judged_line r before line.number line.tokens) (read_lines r (before + 1) lines) list e in
      let here = judged_line-read r before line.number line.tokens p.item p.read in
      let rest = lines_read lines (before + 1) p.rest p.others in
      let few : before + 1 + length rest.items ≤ r.most = rest.few (omega (arith, here.room)) in
      record {
        items = p.item ∷ rest.items;
        are = (faithful.said line.tokens p.item here.read, rest.are);
        is = p.whole ∙ ap (λ others. r.keep line.number p.item ∷ others) rest.is;
        few = λ _. omega arith;
      }

  -- lines of items are read
  pub lines_again : (lines : List TokenLine) (before : ℕ) (list : List A) → AreLinesOf Says lines list → before + length list ≤ r.most → read_lines r before lines ≡ Ok (kept r lines list)
  lines_again [] before [] are few = refl
  lines_again (line ∷ lines) before (item ∷ list) are few =
      ap (λ here. line_then r.keep line.number here (read_lines r (before + 1) lines)) (judged_line-again r before line.number line.tokens item (omega (arith, few)) (faithful.again item line.tokens are.0))
      ∙ ap (put_before (r.keep line.number item)) (lines_again lines (before + 1) list are.1 (omega (arith, few)))
  lines_again it before that are few = absurd are

with_front-one : {P F : Type 0} (front : List P) (x : P) (later : Result (List P) F) → with_front front (put_before x later) ≡ with_front (front ++ x ∷ []) later
with_front-one front x (Ok xs) = ap Ok (sym (append_assoc front (x ∷ []) xs))
with_front-one front x (Err fault) = refl

with_front-nothing : {P F : Type 0} (made : Result (List P) F) → with_front [] made ≡ made
with_front-nothing (Ok xs) = refl
with_front-nothing (Err fault) = refl

-- a line without a token adds none
pub with_line-none : (number : ℕ) (tokens : List (List ℕ)) (later : List TokenLine) → has_token tokens ≡ false → with_line number tokens later ≡ later
with_line-none number [] later e = refl
with_line-none number (token ∷ tokens) later e = (let never : true ≡ false = e in absurd (cc))

module _ {A P F : Type 0} (r : Reader A P F) where
  -- A line without a token changes nothing but the number of the next line.
  pub reading_from-skip : (front : List P) (number : ℕ) (line : List ℕ) (lines : List (List ℕ)) → has_token (tokens_of line) ≡ false → reading_from r front (number + 1) lines ≡ reading_from r front number (line ∷ lines)
  unfolding reading_from
  reading_from-skip front number line lines none = sym (ap (λ ls. with_front front (read_lines r (length front) ls)) (with_line-none number (tokens_of line) (token_lines (number + 1) lines) none))

  -- a line with a token
  reading_from-line : (front : List P) (number : ℕ) (line : List ℕ) (lines : List (List ℕ)) → has_token (tokens_of line) ≡ true
      → reading_from r front number (line ∷ lines) ≡ with_front front (line_then r.keep number (judged_line r (length front) number (tokens_of line)) (read_lines r (length front + 1) (token_lines (number + 1) lines)))
  unfolding reading_from
  reading_from-line front number line lines has = ap (with_front front) (keep (tokens_of line) has)
    where
      keep : (tokens : List (List ℕ)) → has_token tokens ≡ true → read_lines r (length front) (with_line number tokens (token_lines (number + 1) lines))
          ≡ line_then r.keep number (judged_line r (length front) number tokens) (read_lines r (length front + 1) (token_lines (number + 1) lines))
      keep [] e = (let never : false ≡ true = e in absurd (cc))
      keep (token ∷ tokens) e = refl

  -- A line that was read, and its item kept.
  pub reading_from-more : (front : List P) (number : ℕ) (line : List ℕ) (item : A) (lines : List (List ℕ)) → has_token (tokens_of line) ≡ true → judged_line r (length front) number (tokens_of line) ≡ Ok item
      → reading_from r (front ++ r.keep number item ∷ []) (number + 1) lines ≡ reading_from r front number (line ∷ lines)
  unfolding reading_from
  reading_from-more front number line item lines has read =
      let count : length (front ++ r.keep number item ∷ []) ≡ length front + 1 = length-append front (r.keep number item ∷ []) in
      ap (λ n. with_front (front ++ r.keep number item ∷ []) (read_lines r n (token_lines (number + 1) lines))) count
      ∙ sym (with_front-one front (r.keep number item) (read_lines r (length front + 1) (token_lines (number + 1) lines)))
      ∙ sym (reading_from-line front number line lines has ∙ ap (λ j. with_front front (line_then r.keep number j (read_lines r (length front + 1) (token_lines (number + 1) lines)))) read)

  -- A line at fault.
  pub reading_from-fault : (front : List P) (number : ℕ) (line : List ℕ) (fault : F) (lines : List (List ℕ)) → has_token (tokens_of line) ≡ true → judged_line r (length front) number (tokens_of line) ≡ Err fault
      → reading_from r front number (line ∷ lines) ≡ Err fault
  reading_from-fault front number line fault lines has failed =
      reading_from-line front number line lines has
      ∙ ap (λ j. with_front front (line_then r.keep number j (read_lines r (length front + 1) (token_lines (number + 1) lines)))) failed

  -- the whole text is read from its first line on
  pub reading_from-start : (text : List ℕ) → reading_from r [] 1 (lines_of text) ≡ read_lines r 0 (lines_with_tokens text)
  unfolding reading_from
  reading_from-start text = with_front-nothing (read_lines r 0 (lines_with_tokens text))

  -- at its end all was read
  pub reading_from-end : (front : List P) (number : ℕ) → reading_from r front number [] ≡ Ok front
  unfolding reading_from
  reading_from-end front number = ap Ok (append-nil front)

-- how far a text has been read: these lines are left, the first of which has this number
pub record IsUnderway {A P F : Type 0} (r : Reader A P F) (front : List P) (number : ℕ) (lines : List (List ℕ)) (text : List ℕ) : Type 0 where
  pub on : reading_from r front number lines ≡ reading_from r [] 1 (lines_of text)
  pub few : length front ≤ r.most
  pub left : number + length lines ≤ length text + 1
