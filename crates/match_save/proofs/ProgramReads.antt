-- The lines of a brain.
use Rattle.std.proofs.Common.{◌≡◌, ℕ, ◌≤◌, Bool, true, false, cond, List, [], ◌∷◌, ◌++◌, length, map, Some, None, Ok, Err, refl, sym, ◌∙◌, ap, subst, append-nil, arith, codes}
use Rattle.std.specs.List.{AllByRecursion}
use Rattle.std.specs.Str.{bytes_eq}
use Rattle.std.proofs.lemmas.Slice.Eq.{bytes_eq-Decides}
use Rattle.brain_read.specs.declared.instr.Instr.{Instr}
use Rattle.brain_read.specs.declared.instr.Instr.TheVariants.{Sense, Mark, Unmark, PickUp, Drop, Turn, Move, Flip}
use Rattle.line_tokens.specs.Steps.{Read}
use Rattle.line_tokens.specs.Fields.{field_text, SpellsAll, LineField}
use Rattle.brain_read.specs.Forms.{fields_of}
use Rattle.line_tokens.specs.Fields.LineField.{Word, Number}
use Rattle.brain_read.specs.Grammar.{states_of}
use Rattle.brain_read.specs.Soundness.{most_states}
use Rattle.line_tokens.specs.Tokens.{tokens_of}
use Rattle.brain_read.specs.Reading.{read_line}
use Rattle.brain_read.proofs.CanonicalLemmas.{tokens_of-line, sight_token, side_token, condition_printed}
use Rattle.line_tokens.proofs.PrintedLemmas.{token, spelled_again, further_body, body, IsPrinted}
use Rattle.brain_read.proofs.FormsLemmas.{line_again, line_spelled}
use Rattle.line_tokens.proofs.PlacesLemmas.{decimal_value-small}
use Rattle.match_save.specs.Draft.{IsInstruction, IsProgram}
use Rattle.match_save.specs.Text.{instruction_line, program_lines, spaced}
use Rattle.match_save.specs.Inner.Readers.{Spells}
use Rattle.match_save.specs.Inner.Reading.{if_canonical, instruction_of, read_program}
use Rattle.match_save.proofs.Readers.Composed.{Recasts}
use Rattle.match_save.proofs.Readers.Elements.{IsList}
use Rattle.match_save.proofs.Readers.Good.{Good, followed-good, many-good, mapped-good}
use Rattle.match_save.proofs.HeadReads.{named-good, named_tokens}
use Rattle.match_save.proofs.Tokens.{IsBetween, has_no_space}

-- the tokens of fields with a space between them, by brain_read's recursion
spaced-further : (field : LineField) (fields : List LineField) → spaced (map field_text (field ∷ fields)) ≡ field_text field ++ further_body fields
spaced-further field [] = sym (append-nil (field_text field))
spaced-further field (next ∷ fields) = ap (λ l. field_text field ++ (32 ∷ l)) (spaced-further next fields)

pub spaced-body : (fields : List LineField) → spaced (map field_text fields) ≡ body fields
spaced-body [] = refl
spaced-body (field ∷ fields) = spaced-further field fields

-- the fields of an instruction whose states have at most ten digits
pub printed : (i : Instr) → IsInstruction i → AllByRecursion IsPrinted (fields_of i)
printed (Sense s m u c) ok = (token (codes "Sense") refl refl, (sight_token s, (omega (arith, ok.states.0), (omega (arith, ok.states.1.0), condition_printed c ok.in_range))))
printed (Mark i k) ok = (token (codes "Mark") refl refl, (omega (arith, ok.in_range), (omega (arith, ok.states.0), tt)))
printed (Unmark i k) ok = (token (codes "Unmark") refl refl, (omega (arith, ok.in_range), (omega (arith, ok.states.0), tt)))
printed (PickUp m u) ok = (token (codes "PickUp") refl refl, (omega (arith, ok.states.0), (omega (arith, ok.states.1.0), tt)))
printed (Drop k) ok = (token (codes "Drop") refl refl, (omega (arith, ok.states.0), tt))
printed (Turn s k) ok = (token (codes "Turn") refl refl, (side_token s, (omega (arith, ok.states.0), tt)))
printed (Move m u) ok = (token (codes "Move") refl refl, (omega (arith, ok.states.0), (omega (arith, ok.states.1.0), tt)))
printed (Flip b m u) ok = (token (codes "Flip") refl refl, (omega (arith, ok.in_range.1), (omega (arith, ok.states.0), (omega (arith, ok.states.1.0), tt))))

abbrev IsSmall : LineField → Type 0
IsSmall (Word text) = Unit {0}
IsSmall (Number n) = n ≤ 9999999999

small_fields : (fields : List LineField) (tokens : List (List ℕ)) → SpellsAll fields tokens → AllByRecursion IsSmall fields
small_fields [] tokens all = tt
small_fields (field ∷ fields) [] all = absurd all
small_fields (Word text ∷ fields) (t ∷ tokens) all = (tt, small_fields fields tokens all.1)
small_fields (Number n ∷ fields) (t ∷ tokens) all = (decimal_value-small t n all.0, small_fields fields tokens all.1)

-- the states that tokens spell have at most ten digits
small_states : (i : Instr) → AllByRecursion IsSmall (fields_of i) → AllByRecursion (λ state. state ≤ 9999999999) (states_of i)
small_states (Sense s m u c) all = (all.1.1.0, (all.1.1.1.0, tt))
small_states (Mark i k) all = (all.1.1.0, tt)
small_states (PickUp m u) all = (all.1.0, (all.1.1.0, tt))
small_states (Drop k) all = (all.1.0, tt)
small_states (Move m u) all = (all.1.0, (all.1.1.0, tt))
small_states (Flip b m u) all = (all.1.1.0, (all.1.1.1.0, tt))
small_states it all = (all.1.1.0, tt)

-- a line is an instruction's exactly if it is its printing
pub instruction-spells : Spells instruction_of IsInstruction instruction_line
unfolding instruction_of instruction_line
instruction-spells = record { parses = parses; accepted = λ line i e. (known line i e).0; spelled = λ line i e. (known line i e).1 } where
  parses : (i : Instr) → IsInstruction i → instruction_of (instruction_line i) ≡ Some i
  parses i ok =
      let all = printed i ok in
      let tokens : tokens_of (instruction_line i) ≡ map field_text (fields_of i) = ap tokens_of (spaced-body (fields_of i)) ∙ tokens_of-line i all in
      let told : read_line (tokens_of (instruction_line i)) ≡ Ok i = ap read_line tokens ∙ line_again i (map field_text (fields_of i)) (record { spelled = spelled_again (fields_of i) all; in_range = ok.in_range }) in
      ap (if_canonical (instruction_line i)) told ∙ ap (λ b. cond b (Some i) None) ((bytes_eq-Decides (instruction_line i) (instruction_line i)).1 refl)

  last : (line : List ℕ) (j i : Instr) → read_line (tokens_of line) ≡ Ok j → (b : Bool) → bytes_eq (instruction_line j) line ≡ b → cond b (Some j) None ≡ Some i → IsInstruction i × (line ≡ instruction_line i)
  last line j i told false is e = absurd (cc)
  last line j i told true is e =
      let said = line_spelled (tokens_of line) j told in
      let same : j ≡ i = cc in
      subst (λ (v : Instr). IsInstruction v × (line ≡ instruction_line v)) same
      (record { in_range = said.in_range; states = small_states j (small_fields (fields_of j) (tokens_of line) said.spelled) }, sym ((bytes_eq-Decides (instruction_line j) line).0 is))

  go : (line : List ℕ) (i : Instr) (told : Read Instr) → read_line (tokens_of line) ≡ told → if_canonical line told ≡ Some i → IsInstruction i × (line ≡ instruction_line i)
  go line i (Err refusal) is e = absurd (cc)
  go line i (Ok j) is e = last line j i is (bytes_eq (instruction_line j) line) refl e

  known : (line : List ℕ) (i : Instr) → instruction_of line ≡ Some i → IsInstruction i × (line ≡ instruction_line i)
  known line i e = go line i (read_line (tokens_of line)) refl e

abbrev IsCounted : ℕ × List Instr → Type 0
IsCounted z = IsBetween 1 most_states z.0 × IsList instruction-spells z.0 z.1

abbrev counted_print : List ℕ → ℕ × List Instr → List (List ℕ)
counted_print name z = (spaced (named_tokens name z.0) ∷ []) ++ map instruction_line z.1

second : ℕ × List Instr → List Instr
second z = z.1

program-casts : (name : List ℕ) → Recasts (λ (both : ℕ × List Instr). both.1) IsCounted IsProgram (counted_print name) (program_lines name)
program-casts name = record {
  made_ok = λ z ok. record { some = (let l = ok.1.as_many in let b = ok.0.0 in omega (arith, l, b)); few = (let l = ok.1.as_many in let b = ok.0.1 in omega (arith, l, b)); each = ok.1.each };
  same = λ z ok. ap (λ n. spaced (named_tokens name n) ∷ map instruction_line z.1) ok.1.as_many;
  unmade = λ list ok. ((length list, list), ((ok.some, ok.few), record { as_many = refl; each = ok.each }), refl);
}

pub program-good : (name : List ℕ) → has_no_space name ≡ true → Good (read_program name) IsProgram (program_lines name)
program-good name plain = mapped-good (program-casts name)
    (followed-good (named-good name plain 1 most_states (omega arith) (omega arith)) (λ n ok. many-good instruction-spells (Drop 0) (record { in_range = tt; states = (omega arith, tt) }) n))
