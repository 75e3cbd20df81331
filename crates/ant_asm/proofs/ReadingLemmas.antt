-- The reading of a text's lines, as what they lead to, or the first line at fault.
use Rattle.std.proofs.Common.{◌≡◌, inl, inr, ℕ, ◌+◌, true, false, List, [], ◌∷◌, ◌++◌, ◌≤◌, length, Option, Some, None, Result, Ok, Err, refl, sym, ap, ◌∙◌}
use Rattle.line_tokens.proofs.LineLemmas.{with_line-none}
use Rattle.ant_base.specs.Lines.{lines_of}
use Rattle.line_tokens.specs.Tokens.{has_token, tokens_of}
use Rattle.line_tokens.specs.TokenLines.{TokenLine, lines_with_tokens, token_lines, with_line}
use Rattle.ant_asm.specs.declared.fault.AsmFault.{AsmFault}
use Rattle.ant_asm.specs.declared.spelling.SpellingFault.{SpellingFault}
use Rattle.ant_asm.specs.Lines.{Line}
use Rattle.ant_asm.specs.Standing.{Standing, below, nothing_yet, place_fault}
use Rattle.ant_asm.specs.Text.{IsAsmFault, IsLineFault, Leads}
use Rattle.ant_asm.specs.Text.IsAsmFault.{OfLine}
use Rattle.ant_asm.specs.Text.IsLineFault.{OfPlace, OfSpelling}
use Rattle.ant_asm.specs.Inner.ProgramView.{FailsAs, FailsText, IsGoodProgram, placed_or, program_seen, reading, reading_from, stepped, then_lines}
use Rattle.ant_asm.specs.declared.program.Program.{Program}
use Rattle.ant_asm.specs.Inner.Reading.{Read, fault_at, read_line}
use Rattle.ant_asm.specs.Inner.ReadLine.{StopsAs}
use Rattle.ant_asm.specs.Inner.View.{FailsWith}
use Rattle.ant_asm.proofs.LineLemmas.{line_faulted, line_said}
use Rattle.ant_asm.proofs.LineSteps.{fault_of_read}

-- a reading that reaches the end is led by its lines
pub reading-leads : (above : Standing) (lines : List TokenLine) (last : Standing) → reading above lines ≡ Ok last → Leads above lines last
reading-leads above [] last e = let same : above ≡ last = (let s : ◌≡◌ {A = Result Standing AsmFault} (Ok above) (Ok last) = e in cc) in same
reading-leads above (line ∷ lines) last e = go (read_line line.tokens) refl (λ under q. reading-leads under lines last q) e
  where
    placed : (said : Line) → read_line line.tokens ≡ Ok said → ((under : Standing) → reading under lines ≡ Ok last → Leads under lines last) → (o : Option AsmFault) → place_fault above line.number said ≡ o →
        then_lines (placed_or o (below above line.number said)) (λ under. reading under lines) ≡ Ok last → Leads above (line ∷ lines) last
    placed said is later None free q = (said, line_said line.tokens said is, free, later (below above line.number said) q)
    placed said is later (Some fault) wrong q = (let never : ◌≡◌ {A = Result Standing AsmFault} (Err fault) (Ok last) = q in absurd (cc))

    go : (r : Read Line) → read_line line.tokens ≡ r → ((under : Standing) → reading under lines ≡ Ok last → Leads under lines last) →
        then_lines (stepped above line.number r) (λ under. reading under lines) ≡ Ok last → Leads above (line ∷ lines) last
    go (Ok said) is later q = placed said is later (place_fault above line.number said) refl q
    go (Err fault) is later q = (let never : ◌≡◌ {A = Result Standing AsmFault} (Err (fault_at line.number fault)) (Ok last) = q in absurd (cc))

-- a line at fault among these
record Stops (above : Standing) (lines : List TokenLine) (fault : AsmFault) : Type 0 where
  before : List TokenLine
  line : TokenLine
  after : List TokenLine
  are : lines ≡ before ++ line ∷ after
  last : Standing
  leads : Leads above before last
  wrong : IsLineFault last line fault

err_same : (a b : AsmFault) → ◌≡◌ {A = Result Standing AsmFault} (Err a) (Err b) → a ≡ b
err_same a b e = cc

reading-stops : (above : Standing) (lines : List TokenLine) (fault : AsmFault) → reading above lines ≡ Err fault → Stops above lines fault
reading-stops above [] fault e = (let never : ◌≡◌ {A = Result Standing AsmFault} (Ok above) (Err fault) = e in absurd (cc))
reading-stops above (line ∷ lines) fault e = go (read_line line.tokens) refl (λ under q. reading-stops under lines fault q) e
  where
    here : IsLineFault above line fault → Stops above (line ∷ lines) fault
    here wrong = record { before = []; line = line; after = lines; are = refl; last = above; leads = refl; wrong = wrong }

    placed : (said : Line) → read_line line.tokens ≡ Ok said → ((under : Standing) → reading under lines ≡ Err fault → Stops under lines fault) → (o : Option AsmFault) → place_fault above line.number said ≡ o →
        then_lines (placed_or o (below above line.number said)) (λ under. reading under lines) ≡ Err fault → Stops above (line ∷ lines) fault
    placed said is later None free q =
        let stops = later (below above line.number said) q in
        record { before = line ∷ stops.before; line = stops.line; after = stops.after; are = ap (λ (l : List TokenLine). line ∷ l) stops.are; last = stops.last; leads = (said, line_said line.tokens said is, free, stops.leads); wrong = stops.wrong }
    placed said is later (Some other) wrong q = here (OfPlace said (line_said line.tokens said is) (wrong ∙ ap Some (err_same other fault q)))

    go : (r : Read Line) → read_line line.tokens ≡ r → ((under : Standing) → reading under lines ≡ Err fault → Stops under lines fault) →
        then_lines (stepped above line.number r) (λ under. reading under lines) ≡ Err fault → Stops above (line ∷ lines) fault
    go (Ok said) is later q = placed said is later (place_fault above line.number said) refl q
    go (Err other) is later q = here (OfSpelling (line_faulted line.number line.tokens ∙ ap (fault_of_read line.number) is ∙ ap Some (err_same (fault_at line.number other) fault q)))

-- a reading that stops has the text's fault
pub reading-fault : (text : List ℕ) (fault : AsmFault) → reading nothing_yet (lines_with_tokens text) ≡ Err fault → IsAsmFault text fault
reading-fault text fault e =
    let stops = reading-stops nothing_yet (lines_with_tokens text) fault e in
    OfLine (record { before = stops.before; line = stops.line; after = stops.after; lines = stops.are; standing = stops.last; leads = stops.leads; wrong = stops.wrong })

-- a line without a token changes nothing but the number of the next line
pub reading_from-skip : (above : Standing) (number : ℕ) (line : List ℕ) (lines : List (List ℕ)) → has_token (tokens_of line) ≡ false → reading_from above (number + 1) lines ≡ reading_from above number (line ∷ lines)
unfolding reading_from
reading_from-skip above number line lines none = sym (ap (reading above) (with_line-none number (tokens_of line) (token_lines (number + 1) lines) none))

-- a line with a token
pub reading_from-line : (above : Standing) (number : ℕ) (line : List ℕ) (lines : List (List ℕ)) → has_token (tokens_of line) ≡ true →
    reading_from above number (line ∷ lines) ≡ then_lines (stepped above number (read_line (tokens_of line))) (λ under. reading_from under (number + 1) lines)
unfolding reading_from
reading_from-line above number line lines has = keep (tokens_of line) has
  where
    keep : (tokens : List (List ℕ)) → has_token tokens ≡ true → reading above (with_line number tokens (token_lines (number + 1) lines))
        ≡ then_lines (stepped above number (read_line tokens)) (λ under. reading under (token_lines (number + 1) lines))
    keep [] e = (let never : false ≡ true = e in absurd (cc))
    keep (token ∷ tokens) e = refl

-- a line that was read
pub reading_from-more : (above under : Standing) (number : ℕ) (line : List ℕ) (lines : List (List ℕ)) (said : Line) → has_token (tokens_of line) ≡ true → read_line (tokens_of line) ≡ Ok said →
    place_fault above number said ≡ None → under ≡ below above number said → reading_from under (number + 1) lines ≡ reading_from above number (line ∷ lines)
reading_from-more above under number line lines said has read free is =
    ap (λ (s : Standing). reading_from s (number + 1) lines) is
    ∙ sym (reading_from-line above number line lines has
    ∙ ap (λ (r : Read Line). then_lines (stepped above number r) (λ s. reading_from s (number + 1) lines)) read
    ∙ ap (λ (o : Option AsmFault). then_lines (placed_or o (below above number said)) (λ s. reading_from s (number + 1) lines)) free)

-- a line with a fault in its spelling, or in its place
pub reading_from-spelled : (above : Standing) (number : ℕ) (line : List ℕ) (lines : List (List ℕ)) (fault : SpellingFault) → has_token (tokens_of line) ≡ true → read_line (tokens_of line) ≡ Err fault →
    reading_from above number (line ∷ lines) ≡ Err (fault_at number fault)
reading_from-spelled above number line lines fault has read =
    reading_from-line above number line lines has ∙ ap (λ (r : Read Line). then_lines (stepped above number r) (λ s. reading_from s (number + 1) lines)) read

pub reading_from-placed : (above : Standing) (number : ℕ) (line : List ℕ) (lines : List (List ℕ)) (said : Line) (fault : AsmFault) → has_token (tokens_of line) ≡ true → read_line (tokens_of line) ≡ Ok said →
    place_fault above number said ≡ Some fault → reading_from above number (line ∷ lines) ≡ Err fault
reading_from-placed above number line lines said fault has read wrong =
    reading_from-line above number line lines has
    ∙ ap (λ (r : Read Line). then_lines (stepped above number r) (λ s. reading_from s (number + 1) lines)) read
    ∙ ap (λ (o : Option AsmFault). then_lines (placed_or o (below above number said)) (λ s. reading_from s (number + 1) lines)) wrong

-- the whole text is read from its first line on, and nothing at its end
pub reading_from-start : (text : List ℕ) → reading_from nothing_yet 1 (lines_of text) ≡ reading nothing_yet (lines_with_tokens text)
unfolding reading_from
reading_from-start text = refl

pub reading_from-end : (above : Standing) (number : ℕ) → reading_from above number [] ≡ Ok above
unfolding reading_from
reading_from-end above number = refl

-- a line that was refused, or that leads from the state above it to the state below it
pub read-spelled : (above : Standing) (number : ℕ) (line : List ℕ) (lines : List (List ℕ)) (fault : SpellingFault) → has_token (tokens_of line) ≡ true → StopsAs (read_line (tokens_of line)) fault →
    FailsAs (fault_at number fault) (reading_from above number (line ∷ lines))
read-spelled above number line lines fault has (inl is) = inl (reading_from-spelled above number line lines fault has is)
read-spelled above number line lines fault has (inr want) = inr (ap (fault_at number) want)

pub read-placed : (above : Standing) (number : ℕ) (line : List ℕ) (lines : List (List ℕ)) (said : Line) (fault : AsmFault) → has_token (tokens_of line) ≡ true → read_line (tokens_of line) ≡ Ok said → FailsWith fault (place_fault above number said) →
    FailsAs fault (reading_from above number (line ∷ lines))
read-placed above number line lines said fault has read (inl wrong) = inl (reading_from-placed above number line lines said fault has read wrong)
read-placed above number line lines said fault has read (inr want) = inr want

-- How far a text has been read: these lines are left, and the first of them has this number.
pub record IsUnderway (program : Program) (number : ℕ) (lines : List (List ℕ)) (text : List ℕ) : Type 0 where
  pub on : reading_from (program_seen program) number lines ≡ reading_from nothing_yet 1 (lines_of text)
  pub good : IsGoodProgram program
  pub left : number + length lines ≤ length text + 1

-- a reading of the whole text
pub fails-text : (text : List ℕ) (fault : AsmFault) → FailsAs fault (reading nothing_yet (lines_with_tokens text)) → FailsText text fault
fails-text text fault (inl is) = inl (reading-fault text fault is)
fails-text text fault (inr want) = inr want
