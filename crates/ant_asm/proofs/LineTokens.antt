-- The meaning of a line's tokens, as in a brain's text, and as names and labels.
use Rattle.std.proofs.Common.{◌≡◌, ℕ, ◌<◌, ◌≤◌, suc, Bool, true, false, not, ◌&&◌, ◌||◌, List, [], ◌∷◌, ◌++◌, codes, Option, Some, None, Ok, Err, map, option_map, cond, nat_le, refl, sym, ap, ◌∙◌, subst, length, ◌+◌, arith, leb-true, ltb-false, ltb-true, nat_lt, bytes_eq}
use Rattle.std.specs.Prelude.{if◌then◌else◌, ◌==◌}
use Rattle.std.specs.List.{list_any}
use Rattle.std.specs.Char.{to_ascii_lowercase}
use Rattle.std.specs.Str.{str_to_ascii_lowercase}
use Rattle.std.proofs.lemmas.Bool.{and_parts, or_right, cond_both, not-true, eqb-true, false_from_ne_true}
use Rattle.std.proofs.lemmas.Slice.Eq.{bytes_eq-Decides}
use Rattle.ant_base.specs.Number.{decimal_value, number_within}
use Rattle.word_table.specs.Words.{IsSameWord, word_place}
use Rattle.line_tokens.specs.declared.refusal.LineFault.{LineFault}
use Rattle.line_tokens.specs.Tokens.{has_bad_byte, is_bad_byte}
use Rattle.line_tokens.specs.Steps as brain
use Rattle.line_tokens.specs.Steps.{◌>>=◌, or_refused, take_number, take_word}
use Rattle.brain_read.specs.Judgement as judging
use Rattle.line_tokens.proofs.PlacesLemmas.{Names, decimal_value-good, good_byte, has_bad_byte-same, word-good}
use Rattle.line_tokens.proofs.StepsLemmas.{within-some}
use Rattle.ant_asm.specs.declared.spelling.SpellingFault.TheVariants.{BadByte, BadName, BadNumber, UnknownWord}
use Rattle.ant_asm.specs.Names.{Named, are_name_bytes, before_colon, begins_with_letter, is_letter, is_name, is_name_byte, is_next, label_of, name_of, with_first}
use Rattle.ant_asm.specs.Names.Named.{NextWord, Name}
use Rattle.ant_asm.specs.Lines.{IsName, Spells}
use Rattle.ant_asm.specs.Lines.Field.{LabelField, NameField}
use Rattle.line_tokens.specs.Judgement.{nothing_more}
use Rattle.ant_asm.specs.LineFaults.{fault_of}
use Rattle.ant_asm.specs.LineFaults.Position.{LabelToken, MayLabel, MayName, NameToken, Of}
use Rattle.ant_asm.specs.Inner.Reading.{Step, fault_at, fault_spelled, good_token, lifted, or_fault, take_token, with_rest}
use Rattle.ant_asm.proofs.LineSteps.{TakesToken, read_token}

-- one step of a brain's text after another
abbrev pub then_brain : {A B : Type 0} → brain.Read A → (A → brain.Read B) → brain.Read B
then_brain m f = m >>= f

-- a token that is refused, as this language refuses it
lifted-refused : {A : Type 0} (o : Option A) (rest : List (List ℕ)) (token : List ℕ) (fault : LineFault) → ((x : A) → o ≡ Some x → has_bad_byte token ≡ false) →
    lifted (or_refused o rest token fault) ≡ with_rest rest (good_token token (or_fault o (fault_spelled fault)))
lifted-refused {A} None rest token fault good = go (has_bad_byte token)
  where
    go : (b : Bool) → ◌≡◌ {A = Step A} (Err (cond b BadByte (fault_spelled fault))) (with_rest rest (cond b (Err BadByte) (Err (fault_spelled fault))))
    go true = refl
    go false = refl
lifted-refused {A} (Some x) rest token fault good = ap (λ (b : Bool). with_rest rest (cond b (Err BadByte) (Ok x))) (sym (good x refl))

-- a word of a table
pub lifted-word : {words : List (List ℕ)} {n : ℕ} {word : ℕ → List ℕ} → Names words n word → (tokens : List (List ℕ)) → lifted (take_word words tokens) ≡ take_token (read_token (word_place words) UnknownWord) tokens
lifted-word names [] = refl
lifted-word {words} names (token ∷ rest) = lifted-refused (word_place words token) rest token LineFault.UnknownWord (λ i found. word-good names token i found)

-- a number
number-good : (least most : ℕ) (token : List ℕ) (n : ℕ) → number_within least most token ≡ Some n → has_bad_byte token ≡ false
number-good least most token n found = decimal_value-good token n (within-some least most n token (decimal_value token) refl found).value

pub lifted-number : (least most : ℕ) (tokens : List (List ℕ)) → lifted (take_number least most tokens) ≡ take_token (read_token (number_within least most) BadNumber) tokens
lifted-number least most [] = refl
lifted-number least most (token ∷ rest) = lifted-refused (number_within least most token) rest token LineFault.BadNumber (λ n found. number-good least most token n found)

-- the positions that a token adds, as positions of this language
brought : {A : Type 0} (f : A → List judging.Position) (o : Option A) → option_map (map Of) (option_map f o) ≡ option_map (λ x. map Of (f x)) o
brought f None = refl
brought f (Some x) = refl

pub word_token : {words : List (List ℕ)} {n : ℕ} {word : ℕ → List ℕ} → Names words n word → (position : judging.Position) (f : ℕ → List judging.Position) →
    ((token : List ℕ) → judging.accepted position token ≡ option_map f (word_place words token)) → ((number : ℕ) → fault_of (Of position) number ≡ fault_at number UnknownWord) →
    TakesToken (Of position) (word_place words) UnknownWord (λ i. map Of (f i))
word_token {words} names position f accepts faults = record {
  good = λ token i found. word-good names token i found;
  accepts = λ token. ap (option_map (map Of)) (accepts token) ∙ brought f (word_place words token);
  faults = faults;
}

pub number_token : (least most : ℕ) (position : judging.Position) → ((token : List ℕ) → judging.accepted position token ≡ option_map nothing_more (number_within least most token)) →
    ((number : ℕ) → fault_of (Of position) number ≡ fault_at number BadNumber) → TakesToken (Of position) (number_within least most) BadNumber nothing_more
number_token least most position accepts faults = record {
  good = number-good least most;
  accepts = λ token. ap (option_map (map Of)) (accepts token) ∙ brought nothing_more (number_within least most token);
  faults = faults;
}

-- names have good bytes
is_letter-good : (byte : ℕ) → is_letter byte ≡ true → is_bad_byte byte ≡ false
is_letter-good byte is = go (nat_le 65 byte && nat_le byte 90) refl is
  where
    go : (b : Bool) → (nat_le 65 byte && nat_le byte 90) ≡ b → (b || (nat_le 97 byte && nat_le byte 122)) ≡ true → is_bad_byte byte ≡ false
    go true e k = let parts = and_parts (nat_le 65 byte) (nat_le byte 90) e in let low = leb-true 65 byte parts.0 in let high = leb-true byte 90 parts.1 in good_byte byte (omega arith) (omega arith)
    go false e k = let parts = and_parts (nat_le 97 byte) (nat_le byte 122) k in let low = leb-true 97 byte parts.0 in let high = leb-true byte 122 parts.1 in good_byte byte (omega arith) (omega arith)

is_name_byte-good : (byte : ℕ) → is_name_byte byte ≡ true → is_bad_byte byte ≡ false
is_name_byte-good byte is = go (is_letter byte) refl (nat_le 48 byte && nat_le byte 57) refl is
  where
    go : (b : Bool) → is_letter byte ≡ b → (d : Bool) → (nat_le 48 byte && nat_le byte 57) ≡ d → ((b || d) || (byte == 95)) ≡ true → is_bad_byte byte ≡ false
    go true e d f k = is_letter-good byte e
    go false e true f k = let parts = and_parts (nat_le 48 byte) (nat_le byte 57) f in let low = leb-true 48 byte parts.0 in let high = leb-true byte 57 parts.1 in good_byte byte (omega arith) (omega arith)
    go false e false f k = let same : byte ≡ 95 = eqb-true byte 95 k in good_byte byte (omega (arith, same)) (omega (arith, same))

are_name_bytes-good : (bytes : List ℕ) → are_name_bytes bytes ≡ true → has_bad_byte bytes ≡ false
are_name_bytes-good [] all = refl
are_name_bytes-good (byte ∷ bytes) all =
    let parts = and_parts (is_name_byte byte) (are_name_bytes bytes) all in
    rw (is_name_byte-good byte parts.0) (are_name_bytes-good bytes parts.1)

-- what a name keeps
pub record IsNameOf (token : List ℕ) : Type 0 where
  pub letter : begins_with_letter token ≡ true
  pub bytes : are_name_bytes token ≡ true
  pub other : is_next token ≡ false

pub name_parts : (token : List ℕ) → is_name token ≡ true → IsNameOf token
unfolding is_name
name_parts token is =
    let outer = and_parts (begins_with_letter token && nat_le (length token) 32) (are_name_bytes token && not (is_next token)) is in
    let front = and_parts (begins_with_letter token) (nat_le (length token) 32) outer.0 in
    let back = and_parts (are_name_bytes token) (not (is_next token)) outer.1 in
    record { letter = front.0; bytes = back.0; other = not-true (is_next token) back.1 }

pub is_name-good : (token : List ℕ) → is_name token ≡ true → has_bad_byte token ≡ false
is_name-good token is = are_name_bytes-good token (name_parts token is).bytes

-- a token that is a name
pub name_spells : (token name : List ℕ) → name_of token ≡ Some name → Spells (NameField name) token
name_spells token name is = go (is_name token) refl is
  where
    go : (b : Bool) → is_name token ≡ b → cond b (Some token) None ≡ Some name → (token ≡ name) × IsName name
    go true e k = let same : token ≡ name = (let s : Some token ≡ Some name = k in cc) in (same, ap is_name (sym same) ∙ e)
    go false e k = (let never : None ≡ Some name = k in absurd (cc))

pub name_again : (token name : List ℕ) → Spells (NameField name) token → name_of token ≡ Some name
name_again token name spells = ap name_of spells.0 ∙ ap (λ (b : Bool). cond b (Some name) None) spells.1

-- a token that is a label
is_next-same : (token : List ℕ) → is_next token ≡ true → IsSameWord (codes "next") token
unfolding is_next
is_next-same token is = (bytes_eq-Decides (str_to_ascii_lowercase (codes "next")) (str_to_ascii_lowercase token)).0 is

same-is_next : (token : List ℕ) → IsSameWord (codes "next") token → is_next token ≡ true
unfolding is_next
same-is_next token same = (bytes_eq-Decides (str_to_ascii_lowercase (codes "next")) (str_to_ascii_lowercase token)).1 same

pub label_spells : (token : List ℕ) (label : Named) → label_of token ≡ Some label → Spells (LabelField label) token
label_spells token label is = go (is_next token) refl is
  where
    named : (b : Bool) → is_name token ≡ b → cond b (Some (Name token)) None ≡ Some label → Spells (LabelField label) token
    named true e k = let same : Name token ≡ label = (let s : Some (Name token) ≡ Some label = k in cc) in subst (λ (l : Named). Spells (LabelField l) token) same (refl, e)
    named false e k = (let never : ◌≡◌ {A = Option Named} None (Some label) = k in absurd (cc))

    go : (b : Bool) → is_next token ≡ b → cond b (Some NextWord) (cond (is_name token) (Some (Name token)) None) ≡ Some label → Spells (LabelField label) token
    go true e k = let same : NextWord ≡ label = (let s : Some NextWord ≡ Some label = k in cc) in subst (λ (l : Named). Spells (LabelField l) token) same (is_next-same token e)
    go false e k = named (is_name token) refl k

pub label_again : (token : List ℕ) (label : Named) → Spells (LabelField label) token → label_of token ≡ Some label
label_again token NextWord same = ap (λ (b : Bool). cond b (Some NextWord) (cond (is_name token) (Some (Name token)) None)) (same-is_next token same)
label_again token (Name name) spells =
    ap label_of spells.0
    ∙ ap (λ (b : Bool). cond b (Some NextWord) (cond (is_name name) (Some (Name name)) None)) (name_parts name spells.1).other
    ∙ ap (λ (b : Bool). cond b (Some (Name name)) None) spells.1

label-good : (token : List ℕ) (label : Named) → label_of token ≡ Some label → has_bad_byte token ≡ false
label-good token NextWord is = sym (has_bad_byte-same (codes "next") token (label_spells token NextWord is))
label-good token (Name name) is = let spells = label_spells token (Name name) is in ap has_bad_byte spells.0 ∙ is_name-good name spells.1

name-good : (token name : List ℕ) → name_of token ≡ Some name → has_bad_byte token ≡ false
name-good token name is = let spells = name_spells token name is in ap has_bad_byte spells.0 ∙ is_name-good name spells.1

pub label_token : TakesToken LabelToken label_of BadName nothing_more
label_token = record { good = label-good; accepts = λ token. refl; faults = λ number. refl }

pub may_label_token : TakesToken MayLabel label_of BadName nothing_more
may_label_token = record { good = label-good; accepts = λ token. refl; faults = λ number. refl }

pub name_token : TakesToken NameToken name_of BadName nothing_more
name_token = record { good = name-good; accepts = λ token. refl; faults = λ number. refl }

pub may_name_token : TakesToken MayName name_of BadName nothing_more
may_name_token = record { good = name-good; accepts = λ token. refl; faults = λ number. refl }

-- a colon at the end
pub before_colon-again : (name : List ℕ) → before_colon (name ++ codes ":") ≡ Some name
before_colon-again [] = refl
before_colon-again (byte ∷ []) = refl
before_colon-again (byte ∷ other ∷ name) = ap (with_first byte) (before_colon-again (other ∷ name))

pub before_colon-is : (token name : List ℕ) → before_colon token ≡ Some name → token ≡ name ++ codes ":"
before_colon-is [] name is = (let never : None ≡ Some name = is in absurd (cc))
before_colon-is (byte ∷ []) name is = go (byte == 58) refl is
  where
    go : (b : Bool) → (byte == 58) ≡ b → cond b (Some []) None ≡ Some name → byte ∷ [] ≡ name ++ codes ":"
    go true e k = let none : [] ≡ name = (let s : Some [] ≡ Some name = k in cc) in ap (λ (n : ℕ). n ∷ []) (eqb-true byte 58 e) ∙ ap (λ (l : List ℕ). l ++ codes ":") none
    go false e k = (let never : None ≡ Some name = k in absurd (cc))
before_colon-is (byte ∷ other ∷ bytes) name is = go (before_colon (other ∷ bytes)) refl (λ front e. before_colon-is (other ∷ bytes) front e) is
  where
    go : (o : Option (List ℕ)) → before_colon (other ∷ bytes) ≡ o → ((front : List ℕ) → before_colon (other ∷ bytes) ≡ Some front → other ∷ bytes ≡ front ++ codes ":") → with_first byte o ≡ Some name → byte ∷ other ∷ bytes ≡ name ++ codes ":"
    go None e later k = (let never : None ≡ Some name = k in absurd (cc))
    go (Some front) e later k = let same : byte ∷ front ≡ name = (let s : Some (byte ∷ front) ≡ Some name = k in cc) in
        ap (λ (l : List ℕ). byte ∷ l) (later front e) ∙ ap (λ (l : List ℕ). l ++ codes ":") same

-- a token's last byte
pub before_colon-last : (front : List ℕ) (last : ℕ) → before_colon (front ++ last ∷ []) ≡ (if last == 58 then Some front else None)
before_colon-last [] last = refl
before_colon-last (byte ∷ []) last = go (last == 58)
  where
    go : (b : Bool) → with_first byte (cond b (Some []) None) ≡ cond b (Some (byte ∷ [])) None
    go true = refl
    go false = refl
before_colon-last (byte ∷ other ∷ front) last = ap (with_first byte) (before_colon-last (other ∷ front) last) ∙ go (last == 58)
  where
    go : (b : Bool) → with_first byte (cond b (Some (other ∷ front)) None) ≡ cond b (Some (byte ∷ other ∷ front)) None
    go true = refl
    go false = refl

-- whether a token has a colon
abbrev pub has_colon : List ℕ → Bool
has_colon token = list_any (λ byte. byte == 58) token

is_colon-lower : (byte : ℕ) → (to_ascii_lowercase byte == 58) ≡ (byte == 58)
is_colon-lower byte =
    cond_both (nat_lt byte 65) byte (cond (nat_lt byte 91) (byte + 32) byte) (λ b. (b == 58) ≡ (byte == 58))
    (λ _. refl)
    (λ from. cond_both (nat_lt byte 91) (byte + 32) byte (λ b. (b == 58) ≡ (byte == 58))
    (λ below.
    let low : 65 ≤ byte = ltb-false byte 65 from in
    let high : byte < 91 = ltb-true byte 91 below in
    false_from_ne_true (byte + 32 == 58) (λ is. let e : byte + 32 ≡ 58 = eqb-true (byte + 32) 58 is in absurd (omega arith))
    ∙ sym (false_from_ne_true (byte == 58) (λ is. let e : byte ≡ 58 = eqb-true byte 58 is in absurd (omega arith))))
    (λ _. refl))

has_colon-lower : (token : List ℕ) → has_colon (str_to_ascii_lowercase token) ≡ has_colon token
has_colon-lower [] = refl
has_colon-lower (byte ∷ token) = rw (is_colon-lower byte, has_colon-lower token) refl

pub has_colon-same : (word token : List ℕ) → IsSameWord word token → has_colon word ≡ has_colon token
has_colon-same word token same = sym (has_colon-lower word) ∙ ap has_colon same ∙ has_colon-lower token

pub has_colon-end : (name : List ℕ) → has_colon (name ++ codes ":") ≡ true
has_colon-end [] = refl
has_colon-end (byte ∷ name) = or_right (byte == 58) (has_colon (name ++ codes ":")) (has_colon-end name)

pub colon-good : (name : List ℕ) → has_bad_byte name ≡ false → has_bad_byte (name ++ codes ":") ≡ false
colon-good [] good = refl
colon-good (byte ∷ name) good = go (is_bad_byte byte) refl (λ g. colon-good name g) good
  where
    go : (b : Bool) → is_bad_byte byte ≡ b → (has_bad_byte name ≡ false → has_bad_byte (name ++ codes ":") ≡ false) → (b || has_bad_byte name) ≡ false → (is_bad_byte byte || has_bad_byte (name ++ codes ":")) ≡ false
    go true e later k = (let never : true ≡ false = k in absurd (cc))
    go false e later k = rw e (later k)

-- equal words have the same place
pub word_place-same : (words : List (List ℕ)) (a b : List ℕ) → IsSameWord a b → word_place words b ≡ word_place words a
word_place-same [] a b same = refl
word_place-same (word ∷ words) a b same =
    ap (λ (l : List ℕ). cond (bytes_eq (str_to_ascii_lowercase word) l) (Some 0) (option_map suc (word_place words b))) (sym same)
    ∙ ap (λ (o : Option ℕ). cond (bytes_eq (str_to_ascii_lowercase word) (str_to_ascii_lowercase a)) (Some 0) (option_map suc o)) (word_place-same words a b same)
