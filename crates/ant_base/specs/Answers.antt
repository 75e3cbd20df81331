-- What reading a text may return: a value or a fault, or that memory ran out (this project's own).
use Rattle.std.specs.Prelude.{◌≡◌, ◌⊎◌, Result, Ok, Err}

-- a returned fault is the text's, or out of memory, which says nothing of the text
abbrev pub IsFaultOr : {F : Type 0} → F → (F → Type 0) → F → Type 0
IsFaultOr memory IsFault fault = IsFault fault ⊎ (fault ≡ memory)

-- the result is this value, or out of memory
abbrev pub AnswersValue : {A F : Type 0} → F → Result A F → A → Type 0
AnswersValue memory (Ok answered) value = answered ≡ value
AnswersValue memory (Err fault) value = fault ≡ memory

-- the result is this fault, or out of memory
abbrev pub AnswersFault : {A F : Type 0} → F → Result A F → F → Type 0
AnswersFault memory (Ok answered) fault = ⊥
AnswersFault memory (Err answered) fault = (answered ≡ fault) ⊎ (answered ≡ memory)
