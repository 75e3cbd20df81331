-- The first fault of a text's lines, as the search finds it and as what precedes it.
use Rattle.std.proofs.Common.{◌≡◌, ◌+◌, ◌<◌, ◌≤◌, ℕ, Bool, true, false, List, [], ◌∷◌, ◌++◌, length, Option, Some, None, Ok, Err, cond, nat_le, refl, sym, ap, ◌∙◌, arith, leb-false}
use Rattle.std.specs.Option.{option_or}
use Rattle.std.proofs.lemmas.Bool.{lt-leb}
use Rattle.std.proofs.lemmas.List.{append-nil}
use Rattle.line_tokens.specs.declared.refusal.Refusal.{Refusal}
use Rattle.line_tokens.specs.Steps.{Read}
use Rattle.line_tokens.specs.TokenLines.{TokenLine, lines_with_tokens, AreLinesOf}
use Rattle.line_tokens.specs.Faulty.{too_many, HasLineFault}
use Rattle.line_tokens.specs.Inner.LineByLine.{Reader, first_line_fault}

-- the fault of a line of this number that was read
abbrev pub fault_of_read : {A F : Type 0} → (ℕ → Refusal → F) → ℕ → Read A → Option F
fault_of_read refused line (Ok item) = None
fault_of_read refused line (Err refusal) = Some (refused line refusal)

-- a reader reads what the tokens of a line say, and refuses a line for its first position at fault
pub record IsFaithful {A P F : Type 0} (r : Reader A P F) (Says : List (List ℕ) → A → Type 0) (first : ℕ → List (List ℕ) → Option F) : Type 0 where
  pub said : (tokens : List (List ℕ)) (item : A) → r.read tokens ≡ Ok item → Says tokens item
  pub again : (item : A) (tokens : List (List ℕ)) → Says tokens item → r.read tokens ≡ Ok item
  pub faulted : (line : ℕ) (tokens : List (List ℕ)) → first line tokens ≡ fault_of_read r.refused line (r.read tokens)

-- the fault of a line before which this many items stand
abbrev pub line_fault : {A P F : Type 0} → Reader A P F → (ℕ → List (List ℕ) → Option F) → ℕ → TokenLine → Option F
line_fault r first before line = option_or (too_many r.most r.beyond before line.number) (first line.number line.tokens)

-- a line that isn't at fault is an item's, and there is room before it
record IsGood {A P F : Type 0} (r : Reader A P F) (Says : List (List ℕ) → A → Type 0) (before : ℕ) (line : TokenLine) : Type 0 where
  item : A
  says : Says line.tokens item
  room : before < r.most

-- a line at fault among these, before which this many stand
record IsFound {A P F : Type 0} (r : Reader A P F) (Says : List (List ℕ) → A → Type 0) (first : ℕ → List (List ℕ) → Option F) (n : ℕ) (lines : List TokenLine) (fault : F) : Type 0 where
  before : List TokenLine
  line : TokenLine
  after : List TokenLine
  are : lines ≡ before ++ line ∷ after
  read : List A
  good : AreLinesOf Says before read
  few : n + length before ≤ r.most
  wrong : line_fault r first (n + length before) line ≡ Some fault

module _ {A P F : Type 0} (r : Reader A P F) (Says : List (List ℕ) → A → Type 0) (first : ℕ → List (List ℕ) → Option F) (faithful : IsFaithful r Says first) where
  -- a line of an item, before which there is room, is not at fault
  line_fault-none : (before : ℕ) (line : TokenLine) (item : A) → Says line.tokens item → before < r.most → line_fault r first before line ≡ None
  line_fault-none before line item says room =
      ap (λ full. option_or (cond full (Some (r.beyond line.number)) None) (first line.number line.tokens)) (lt-leb r.most before room)
      ∙ faithful.faulted line.number line.tokens ∙ ap (fault_of_read r.refused line.number) (faithful.again item line.tokens says)

  line_fault-good : (before : ℕ) (line : TokenLine) → line_fault r first before line ≡ None → IsGood r Says before line
  line_fault-good before line none = go (nat_le r.most before) refl (r.read line.tokens) refl none
    where
      go : (full : Bool) → nat_le r.most before ≡ full → (made : Read A) → r.read line.tokens ≡ made → option_or (cond full (Some (r.beyond line.number)) None) (first line.number line.tokens) ≡ None → IsGood r Says before line
      go true t made is q = (let never : ◌≡◌ {A = Option F} (Some (r.beyond line.number)) None = q in absurd (cc))
      go false t (Ok item) is q = record { item = item; says = faithful.said line.tokens item is; room = leb-false r.most before t }
      go false t (Err refusal) is q =
          let never : ◌≡◌ {A = Option F} (Some (r.refused line.number refusal)) None = ap (fault_of_read r.refused line.number) (sym is) ∙ sym (faithful.faulted line.number line.tokens) ∙ q in
          absurd (cc)

  -- lines of items are passed by the search
  first_line_fault-pass : (before : List TokenLine) (n : ℕ) (rest : List TokenLine) (read : List A) → AreLinesOf Says before read → n + length before ≤ r.most
      → first_line_fault (line_fault r first) n (before ++ rest) ≡ first_line_fault (line_fault r first) (n + length before) rest
  first_line_fault-pass [] n rest read are few = ap (λ k. first_line_fault (line_fault r first) k rest) (let same : n ≡ n + 0 = omega arith in same)
  first_line_fault-pass (line ∷ before) n rest [] are few = absurd are
  first_line_fault-pass (line ∷ before) n rest (item ∷ read) are few =
      ap (λ f. option_or f (first_line_fault (line_fault r first) (n + 1) (before ++ rest))) (line_fault-none n line item are.0 (omega (arith, few)))
      ∙ first_line_fault-pass before (n + 1) rest read are.1 (omega (arith, few))
      ∙ ap (λ k. first_line_fault (line_fault r first) k rest) (let same : n + 1 + length before ≡ n + length (line ∷ before) = omega arith in same)

  -- if all lines are those of items, none is at fault
  pub first_line_fault-none : (lines : List TokenLine) (list : List A) → AreLinesOf Says lines list → length lines ≤ r.most → first_line_fault (line_fault r first) 0 lines ≡ None
  first_line_fault-none lines list are few =
      ap (first_line_fault (line_fault r first) 0) (sym (append-nil lines)) ∙ first_line_fault-pass lines 0 [] list are (omega (arith, few))

  -- the first line at fault is found
  pub first_line_fault-found : (text : List ℕ) (fault : F) → HasLineFault Says (line_fault r first) r.most text fault → first_line_fault (line_fault r first) 0 (lines_with_tokens text) ≡ Some fault
  first_line_fault-found text fault h =
      ap (first_line_fault (line_fault r first) 0) h.lines
      ∙ first_line_fault-pass h.before 0 (h.line ∷ h.after) h.read h.good (let few = h.few in omega arith)
      ∙ ap (λ k. first_line_fault (line_fault r first) k (h.line ∷ h.after)) (let same : 0 + length h.before ≡ length h.before = omega arith in same)
      ∙ ap (λ f. option_or f (first_line_fault (line_fault r first) (length h.before + 1) h.after)) h.wrong

  find_line : (n : ℕ) (lines : List TokenLine) (fault : F) → n ≤ r.most → first_line_fault (line_fault r first) n lines ≡ Some fault → IsFound r Says first n lines fault
  find_line n [] fault few e = (let never : ◌≡◌ {A = Option F} None (Some fault) = e in absurd (cc))
  find_line n (line ∷ lines) fault few e = go (line_fault r first n line) refl (λ room q. find_line (n + 1) lines fault room q) e
    where
      Later : Type 0
      Later = n + 1 ≤ r.most → first_line_fault (line_fault r first) (n + 1) lines ≡ Some fault → IsFound r Says first (n + 1) lines fault

      go : (here : Option F) → line_fault r first n line ≡ here → Later → option_or here (first_line_fault (line_fault r first) (n + 1) lines) ≡ Some fault → IsFound r Says first n (line ∷ lines) fault
      go (Some other) is more q =
          let same : n ≡ n + 0 = omega arith in
          record {
            before = [];
            line = line;
            after = lines;
            are = refl;
            read = [];
            good = tt;
            few = omega (arith, few);
            wrong = ap (λ k. line_fault r first k line) (sym same) ∙ is ∙ q;
          }
      go None is more q =
          let good = line_fault-good n line is in
          let later = more (let room = good.room in omega arith) q in
          let same : n + 1 + length later.before ≡ n + length (line ∷ later.before) = omega arith in
          record {
            before = line ∷ later.before;
            line = later.line;
            after = later.after;
            are = ap (λ ls. line ∷ ls) later.are;
            read = good.item ∷ later.read;
            good = (good.says, later.good);
            few = (let low = later.few in omega arith);
            wrong = ap (λ k. line_fault r first k later.line) (sym same) ∙ later.wrong;
          }

  -- what the search finds is the first line at fault
  pub first_line_fault-first : (text : List ℕ) (fault : F) → first_line_fault (line_fault r first) 0 (lines_with_tokens text) ≡ Some fault → HasLineFault Says (line_fault r first) r.most text fault
  first_line_fault-first text fault e =
      let it = find_line 0 (lines_with_tokens text) fault (omega arith) e in
      record {
        before = it.before;
        line = it.line;
        after = it.after;
        lines = it.are;
        read = it.read;
        good = it.good;
        few = (let few = it.few in omega arith);
        wrong = ap (λ k. line_fault r first k it.line) (let same : length it.before ≡ 0 + length it.before = omega arith in same) ∙ it.wrong;
      }
