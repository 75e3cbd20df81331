-- One token after another: what is read from the tokens of a line, or why the first position at fault is refused. The
-- clauses of `Tokens` use it (this project's own).
use Rattle.std.specs.Prelude.{ℕ, false, List, [], ◌∷◌, Option, Some, None, Result, Ok, Err}
use Rattle.ant_base.specs.Number.{number_within}
use Rattle.word_table.specs.Words.{word_place}
use Rattle.line_tokens.specs.declared.refusal.LineFault.{LineFault}
use Rattle.line_tokens.specs.declared.refusal.LineFault.TheVariants.{UnknownWord, MissingToken, BadNumber, ExtraToken}
use Rattle.line_tokens.specs.declared.refusal.Refusal.{Refusal}
use Rattle.line_tokens.specs.Tokens.{has_bad_byte}

-- what is read, or why it is refused
abbrev pub Read : Type 0 → Type 0
Read A = Result A Refusal

-- what is read, and the tokens that are left
abbrev pub Step : Type 0 → Type 0
Step A = Read (A × List (List ℕ))

infixl 10 ◌>>=◌
abbrev pub ◌>>=◌ : {A B : Type 0} → Read A → (A → Read B) → Read B
(Ok x) >>= f = f x
(Err refusal) >>= f = Err refusal

-- a call's answer, with the tokens that are left after it
abbrev pub with_rest : {A : Type 0} → List (List ℕ) → Read A → Step A
with_rest rest (Ok x) = Ok (x, rest)
with_rest rest (Err refusal) = Err refusal

-- the refusal of a position without a token
abbrev pub missing : Refusal
missing = record { fault = MissingToken; bad_byte = false }

-- the refusal of a token
abbrev pub refused : List ℕ → LineFault → Refusal
refused token fault = record { fault = fault; bad_byte = has_bad_byte token }

-- what a token means, or its refusal
abbrev pub or_refused : {A : Type 0} → Option A → List (List ℕ) → List ℕ → LineFault → Step A
or_refused (Some x) rest token fault = Ok (x, rest)
or_refused None rest token fault = Err (refused token fault)

-- a word of a table, as its place there
abbrev pub take_word : List (List ℕ) → List (List ℕ) → Step ℕ
take_word words [] = Err missing
take_word words (token ∷ rest) = or_refused (word_place words token) rest token UnknownWord

-- a number between the least and the greatest that are accepted
abbrev pub take_number : ℕ → ℕ → List (List ℕ) → Step ℕ
take_number least most [] = Err missing
take_number least most (token ∷ rest) = or_refused (number_within least most token) rest token BadNumber

-- the end of the line
abbrev pub take_end : List (List ℕ) → Step (Unit {0})
take_end [] = Ok (tt, [])
take_end (token ∷ rest) = Err (refused token ExtraToken)
