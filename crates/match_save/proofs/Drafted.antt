-- Instructions that are read one after another.
use Rattle.std.proofs.Common.{◌≡◌, ℕ, ◌-◌, Bool, cond, Option, Some, None, Ok, Err, List, [], ◌∷◌, ◌++◌, length, map, take, refl, sym, ◌∙◌, ap, length-append, arith}
use Rattle.std.proofs.lemmas.List.{take-append-le, take_all}
use Rattle.line_tokens.proofs.PrintedLemmas.{line_text-body}
use Rattle.brain_read.specs.Canonical.{instruction_text}
use Rattle.brain_read.specs.Forms.{fields_of}
use Rattle.std.specs.Str.{bytes_eq}
use Rattle.brain_read.specs.Reading.{read_line}
use Rattle.line_tokens.specs.Tokens.{tokens_of}
use Rattle.line_tokens.specs.declared.refusal.Refusal.{Refusal}
use Rattle.match_save.specs.Inner.Reading.{if_canonical, instruction_of}
use Rattle.match_save.specs.Text.{instruction_line}
use Rattle.match_save.proofs.ProgramReads.{spaced-body}
use Rattle.brain_read.specs.declared.draft.Draft.{Draft}
use Rattle.brain_read.specs.declared.instr.Instr.{Instr}
use Rattle.brain_read.specs.Drafts.{drafted}

map-behind : (drafts : List Draft) (d : Draft) → map drafted (drafts ++ d ∷ []) ≡ map drafted drafts ++ drafted d ∷ []
map-behind [] d = refl
map-behind (first ∷ drafts) d = ap (λ l. drafted first ∷ l) (map-behind drafts d)

-- one draft more is one instruction more
pub map-more : (new old : List Draft) (d : Draft) → new ≡ old ++ d ∷ [] → map drafted new ≡ map drafted old ++ drafted d ∷ []
map-more new old d e = ap (map drafted) e ∙ map-behind old d

take-ended : (l : List ℕ) → take (length (l ++ 10 ∷ []) - 1) (l ++ 10 ∷ []) ≡ l
take-ended l =
    let long : length (l ++ 10 ∷ []) - 1 ≡ length l = (let a = length-append l (10 ∷ []) in omega (arith, a)) in
    ap (λ n. take n (l ++ 10 ∷ [])) long ∙ take-append-le (length l) l (10 ∷ []) (omega arith) ∙ take_all (length l) l (omega arith)

-- what is printed of an instruction is its line and an LF
pub text-ended : (i : Instr) → instruction_text i ≡ instruction_line i ++ 10 ∷ []
unfolding instruction_text instruction_line
text-ended i = line_text-body (fields_of i) ∙ ap (λ l. l ++ 10 ∷ []) (sym (spaced-body (fields_of i)))

-- without its LF it is the line
pub printed-line : (text : List ℕ) (i : Instr) → text ≡ instruction_text i → take (length text - 1) text ≡ instruction_line i
printed-line text i e =
    let whole : text ≡ instruction_line i ++ 10 ∷ [] = e ∙ text-ended i in
    ap (λ (l : List ℕ). take (length l - 1) l) whole ∙ take-ended (instruction_line i)

-- a line that is refused is not an instruction
pub told-none : (line : List ℕ) (refusal : Refusal) → read_line (tokens_of line) ≡ Err refusal → None ≡ instruction_of line
unfolding instruction_of
told-none line refusal e = sym (ap (if_canonical line) e)

-- a line that is read is one exactly if it is printed so
pub told-some : (line : List ℕ) (i : Instr) (b : Bool) → read_line (tokens_of line) ≡ Ok i → bytes_eq (instruction_line i) line ≡ b → cond {A = Option Instr} b (Some i) None ≡ instruction_of line
unfolding instruction_of
told-some line i b e is = sym (ap (if_canonical line) e ∙ ap (λ (t : Bool). cond {A = Option Instr} t (Some i) None) is)
