-- Steps over the tokens of a line: each takes what its position accepts, and stops where its position is at fault.
use Rattle.std.proofs.Common.{◌≡◌, ℕ, zero, suc, ◌≤◌, Bool, true, false, List, [], ◌∷◌, ◌++◌, length, replicate, Option, Some, None, Ok, Err, option_map, cond, refl, sym, ap, ◌∙◌, arith}
use Rattle.line_tokens.specs.Tokens.{has_bad_byte}
use Rattle.ant_asm.specs.declared.fault.AsmFault.{AsmFault}
use Rattle.ant_asm.specs.declared.fault.AsmFault.TheVariants as asm_fault
use Rattle.ant_asm.specs.declared.spelling.SpellingFault.{SpellingFault}
use Rattle.ant_asm.specs.declared.spelling.SpellingFault.TheVariants.{BadByte, ExtraToken, MissingToken}
use Rattle.ant_asm.specs.Lines.{Line}
use Rattle.line_tokens.specs.Judgement.{judged, nothing_more}
use Rattle.ant_asm.specs.LineFaults.{Position, accepted, fault_of, first_fault, missing_at}
use Rattle.ant_asm.specs.Inner.Reading.{Read, Step, ◌>>=◌, ending, fault_at, good_token, or_fault, put_before, take_all, take_token, with_rest}

-- the fault of a line of this number that was read
abbrev pub fault_of_read : {A : Type 0} → ℕ → Read A → Option AsmFault
fault_of_read number (Ok x) = None
fault_of_read number (Err fault) = Some (fault_at number fault)

-- a reader at these positions reads what is spelled there, and stops at the first position at fault
pub record Decides (positions : List Position) (read : List (List ℕ) → Read Line) (Spelled : List (List ℕ) → Line → Type 0) : Type 0 where
  pub said : (tokens : List (List ℕ)) (line : Line) → read tokens ≡ Ok line → Spelled tokens line
  pub again : (tokens : List (List ℕ)) (line : Line) → Spelled tokens line → read tokens ≡ Ok line
  pub faulted : (number : ℕ) (tokens : List (List ℕ)) → first_fault number tokens positions ≡ fault_of_read number (read tokens)

-- an equal reader does too
pub Decides-same : {positions : List Position} {read other : List (List ℕ) → Read Line} {Spelled : List (List ℕ) → Line → Type 0} → ((tokens : List (List ℕ)) → read tokens ≡ other tokens) → Decides positions other Spelled → Decides positions read Spelled
Decides-same same decides = record {
  said = λ tokens line e. decides.said tokens line (sym (same tokens) ∙ e);
  again = λ tokens line s. same tokens ∙ decides.again tokens line s;
  faulted = λ number tokens. decides.faulted number tokens ∙ ap (fault_of_read number) (sym (same tokens));
}

-- what a token is read as, if it has a meaning
abbrev pub read_token : {A : Type 0} → (List ℕ → Option A) → SpellingFault → List ℕ → Read A
read_token of fault token = good_token token (or_fault (of token) fault)

-- a position takes exactly the tokens with a meaning
pub record TakesToken {A : Type 0} (position : Position) (of : List ℕ → Option A) (fault : SpellingFault) (brings : A → List Position) : Type 0 where
  pub good : (token : List ℕ) (x : A) → of token ≡ Some x → has_bad_byte token ≡ false
  pub accepts : (token : List ℕ) → accepted position token ≡ option_map brings (of token)
  pub faults : (number : ℕ) → fault_of position number ≡ fault_at number fault

-- the first token has a meaning, and `S` holds of the tokens after it
abbrev pub SpelledBy : {A : Type 0} → (List ℕ → Option A) → (A → List (List ℕ) → Line → Type 0) → List (List ℕ) → Line → Type 0
SpelledBy of S [] line = ⊥
SpelledBy {A} of S (token ∷ rest) line = (x : A) × (of token ≡ Some x) × S x rest line

-- there is no token, and the line is this one
abbrev pub SpelledEnd : Line → List (List ℕ) → Line → Type 0
SpelledEnd is [] line = is ≡ line
SpelledEnd is (token ∷ rest) line = ⊥

pub ok_same : {A : Type 0} (x y : A) → ◌≡◌ {A = Read A} (Ok x) (Ok y) → x ≡ y
ok_same x y e = cc

never_ok : {A : Type 0} {P : Type 0} (fault : SpellingFault) (x : A) → ◌≡◌ {A = Read A} (Err fault) (Ok x) → P
never_ok fault x e = absurd (cc)

-- at a position's token
module _ {A : Type 0} (position : Position) (of : List ℕ → Option A) (fault : SpellingFault) (brings : A → List Position) (takes : TakesToken position of fault brings) where
  -- the position judges its token as the step reads it
  token_faulted : (number : ℕ) (token : List ℕ) (rest : List (List ℕ)) (positions : List Position) (read : A → Read Line) →
      ((x : A) → first_fault number rest (brings x ++ positions) ≡ fault_of_read number (read x)) →
      first_fault number (token ∷ rest) (position ∷ positions) ≡ fault_of_read number (read_token of fault token >>= read)
  token_faulted number token rest positions read later =
      ap (λ (o : Option (List Position)). cond (has_bad_byte token) (Some (asm_fault.BadByte number)) (judged o (fault_of position number) (λ more. first_fault number rest (more ++ positions)))) (takes.accepts token)
      ∙ ap (λ (f : AsmFault). cond (has_bad_byte token) (Some (asm_fault.BadByte number)) (judged (option_map brings (of token)) f (λ more. first_fault number rest (more ++ positions)))) (takes.faults number)
      ∙ go (of token) (has_bad_byte token)
    where
      go : (o : Option A) (b : Bool) → cond b (Some (asm_fault.BadByte number)) (judged (option_map brings o) (fault_at number fault) (λ more. first_fault number rest (more ++ positions)))
          ≡ fault_of_read number (cond b (Err BadByte) (or_fault o fault) >>= read)
      go o true = refl
      go None false = refl
      go (Some x) false = later x

  -- what is read of the token
  token_again : (token : List ℕ) (x : A) → of token ≡ Some x → read_token of fault token ≡ Ok x
  token_again token x is = ap (λ (b : Bool). cond b (Err BadByte) (or_fault (of token) fault)) (takes.good token x is) ∙ ap (λ (o : Option A). or_fault o fault) is

  token_said : (token : List ℕ) (read : A → Read Line) (line : Line) (P : Type 0) → (read_token of fault token >>= read) ≡ Ok line → ((x : A) → of token ≡ Some x → read x ≡ Ok line → P) → P
  token_said token read line P e k = go (of token) refl (has_bad_byte token) e
    where
      go : (o : Option A) → of token ≡ o → (b : Bool) → (cond b (Err BadByte) (or_fault o fault) >>= read) ≡ Ok line → P
      go o is true q = never_ok BadByte line q
      go None is false q = never_ok fault line q
      go (Some x) is false q = k x is q

-- a step, and the tokens that are left
with_rest-bind : {A B : Type 0} (rest : List (List ℕ)) (m : Read A) (k : A × List (List ℕ) → Read B) → (with_rest rest m >>= k) ≡ (m >>= (λ x. k (x, rest)))
with_rest-bind rest (Ok x) k = refl
with_rest-bind rest (Err fault) k = refl

-- a position that needs a token, and the positions after it
pub then_taken : {A : Type 0} {position : Position} {of : List ℕ → Option A} {fault : SpellingFault} {brings : A → List Position} → TakesToken position of fault brings →
    ((number : ℕ) → missing_at position number ≡ Some (asm_fault.MissingToken number)) → (positions : List Position) (k : A × List (List ℕ) → Read Line) (S : A → List (List ℕ) → Line → Type 0) →
    ((x : A) → Decides (brings x ++ positions) (λ rest. k (x, rest)) (S x)) → Decides (position ∷ positions) (λ tokens. take_token (read_token of fault) tokens >>= k) (SpelledBy of S)
then_taken {A} {position} {of} {fault} {brings} takes needed positions k S decides = record { said = said; again = again; faulted = faulted }
  where
    said : (tokens : List (List ℕ)) (line : Line) → (take_token (read_token of fault) tokens >>= k) ≡ Ok line → SpelledBy of S tokens line
    said [] line e = never_ok MissingToken line e
    said (token ∷ rest) line e =
        token_said position of fault brings takes token (λ x. k (x, rest)) line (SpelledBy of S (token ∷ rest) line) (sym (with_rest-bind rest (read_token of fault token) k) ∙ e)
        (λ x is q. (x, is, (decides x).said rest line q))

    again : (tokens : List (List ℕ)) (line : Line) → SpelledBy of S tokens line → (take_token (read_token of fault) tokens >>= k) ≡ Ok line
    again [] line s = absurd s
    again (token ∷ rest) line s =
        with_rest-bind rest (read_token of fault token) k ∙ ap (λ (m : Read A). m >>= (λ x. k (x, rest))) (token_again position of fault brings takes token s.0 s.1) ∙ (decides s.0).again rest line s.2

    faulted : (number : ℕ) (tokens : List (List ℕ)) → first_fault number tokens (position ∷ positions) ≡ fault_of_read number (take_token (read_token of fault) tokens >>= k)
    faulted number [] = needed number
    faulted number (token ∷ rest) =
        token_faulted position of fault brings takes number token rest positions (λ x. k (x, rest)) (λ x. (decides x).faulted number rest)
        ∙ ap (fault_of_read number) (sym (with_rest-bind rest (read_token of fault token) k))

-- the end of the line
pub end_decides : (is : Line) → Decides [] (ending is) (SpelledEnd is)
end_decides is = record { said = said; again = again; faulted = faulted }
  where
    said : (tokens : List (List ℕ)) (line : Line) → ending is tokens ≡ Ok line → SpelledEnd is tokens line
    said [] line e = ok_same is line e
    said (token ∷ rest) line e = go (has_bad_byte token) e
      where
        go : (b : Bool) → ◌≡◌ {A = Read Line} (Err (cond b BadByte ExtraToken)) (Ok line) → ⊥
        go b q = never_ok (cond b BadByte ExtraToken) line q

    again : (tokens : List (List ℕ)) (line : Line) → SpelledEnd is tokens line → ending is tokens ≡ Ok line
    again [] line s = ap Ok s
    again (token ∷ rest) line s = absurd s

    faulted : (number : ℕ) (tokens : List (List ℕ)) → first_fault number tokens [] ≡ fault_of_read number (ending is tokens)
    faulted number [] = refl
    faulted number (token ∷ rest) = go (has_bad_byte token)
      where
        go : (b : Bool) → Some (cond b (asm_fault.BadByte number) (asm_fault.ExtraToken number)) ≡ Some (fault_at number (cond b BadByte ExtraToken))
        go true = refl
        go false = refl

-- the tokens have these meanings, one by one
abbrev pub AreTokensOf : {A : Type 0} → (List ℕ → Option A) → List (List ℕ) → List A → Type 0
AreTokensOf of [] [] = Unit {0}
AreTokensOf of (token ∷ tokens) (x ∷ xs) = (of token ≡ Some x) × AreTokensOf of tokens xs
AreTokensOf of it that = ⊥

-- there are at most n tokens, each has a meaning, and the line is built from these meanings
pub record SpelledAllBy {A : Type 0} (of : List ℕ → Option A) (n : ℕ) (make : List A → Line) (tokens : List (List ℕ)) (line : Line) : Type 0 where
  pub items : List A
  pub are : AreTokensOf of tokens items
  pub few : length items ≤ n
  pub is : make items ≡ line

-- the tokens that were taken, and the end of the line
abbrev pub all_then : {A : Type 0} → (List A → Line) → List A × List (List ℕ) → Read Line
all_then make taken = ending (make taken.0) taken.1

put_before-then : {A : Type 0} (x : A) (made : Step (List A)) (make : List A → Line) → (put_before x made >>= all_then make) ≡ (made >>= all_then (λ xs. make (x ∷ xs)))
put_before-then x (Ok taken) make = refl
put_before-then x (Err fault) make = refl

-- a sequence of steps may be grouped in either way
pub bind_assoc : {A B C : Type 0} (m : Read A) (f : A → Read B) (g : B → Read C) → ((m >>= f) >>= g) ≡ (m >>= (λ x. f x >>= g))
bind_assoc (Ok x) f g = refl
bind_assoc (Err fault) f g = refl

bind_same : {A B : Type 0} (m : Read A) (f g : A → Read B) → ((x : A) → f x ≡ g x) → (m >>= f) ≡ (m >>= g)
bind_same (Ok x) f g same = same x
bind_same (Err fault) f g same = refl

-- positions that may have a token
module _ {A : Type 0} (position : Position) (of : List ℕ → Option A) (fault : SpellingFault) (takes : TakesToken position of fault nothing_more) (free : (number : ℕ) → missing_at position number ≡ None) where
  all_next : (n : ℕ) (make : List A → Line) (token : List ℕ) (rest : List (List ℕ)) → (take_all (read_token of fault) (suc n) (token ∷ rest) >>= all_then make)
      ≡ (read_token of fault token >>= (λ x. take_all (read_token of fault) n rest >>= all_then (λ xs. make (x ∷ xs))))
  all_next n make token rest =
      bind_assoc (read_token of fault token) (λ x. put_before x (take_all (read_token of fault) n rest)) (all_then make)
      ∙ bind_same (read_token of fault token) (λ x. put_before x (take_all (read_token of fault) n rest) >>= all_then make) (λ x. take_all (read_token of fault) n rest >>= all_then (λ xs. make (x ∷ xs)))
      (λ x. put_before-then x (take_all (read_token of fault) n rest) make)

  all_said : (n : ℕ) (make : List A → Line) (tokens : List (List ℕ)) (line : Line) → (take_all (read_token of fault) n tokens >>= all_then make) ≡ Ok line → SpelledAllBy of n make tokens line
  all_said zero make [] line e = record { items = []; are = tt; few = omega arith; is = ok_same (make []) line e }
  all_said zero make (token ∷ rest) line e = absurd ((end_decides (make [])).said (token ∷ rest) line e)
  all_said (suc n) make [] line e = record { items = []; are = tt; few = omega arith; is = ok_same (make []) line e }
  all_said (suc n) make (token ∷ rest) line e =
      token_said position of fault nothing_more takes token (λ x. take_all (read_token of fault) n rest >>= all_then (λ xs. make (x ∷ xs))) line (SpelledAllBy of (suc n) make (token ∷ rest) line)
      (sym (all_next n make token rest) ∙ e)
      (λ x is q. let later = all_said n (λ xs. make (x ∷ xs)) rest line q in let few = later.few in record { items = x ∷ later.items; are = (is, later.are); few = omega arith; is = later.is })

  all_again : (n : ℕ) (make : List A → Line) (tokens : List (List ℕ)) (line : Line) (xs : List A) → AreTokensOf of tokens xs → length xs ≤ n → make xs ≡ line → (take_all (read_token of fault) n tokens >>= all_then make) ≡ Ok line
  all_again zero make [] line [] are few is = ap Ok is
  all_again zero make (token ∷ rest) line (x ∷ xs) are few is = absurd (omega (arith, few))
  all_again (suc n) make [] line [] are few is = ap Ok is
  all_again (suc n) make (token ∷ rest) line (x ∷ xs) are few is =
      all_next n make token rest
      ∙ ap (λ (m : Read A). m >>= (λ y. take_all (read_token of fault) n rest >>= all_then (λ ys. make (y ∷ ys)))) (token_again position of fault nothing_more takes token x are.0)
      ∙ all_again n (λ ys. make (x ∷ ys)) rest line xs are.1 (omega (arith, few)) is
  all_again n make tokens line xs are few is = absurd are

  all_faulted : (n : ℕ) (make : List A → Line) (number : ℕ) (tokens : List (List ℕ)) → first_fault number tokens (replicate n position) ≡ fault_of_read number (take_all (read_token of fault) n tokens >>= all_then make)
  all_faulted zero make number tokens = (end_decides (make [])).faulted number tokens
  all_faulted (suc n) make number [] = free number
  all_faulted (suc n) make number (token ∷ rest) =
      token_faulted position of fault nothing_more takes number token rest (replicate n position) (λ x. take_all (read_token of fault) n rest >>= all_then (λ xs. make (x ∷ xs))) (λ x. all_faulted n (λ xs. make (x ∷ xs)) number rest)
      ∙ ap (fault_of_read number) (sym (all_next n make token rest))

  pub all_decides : (n : ℕ) (make : List A → Line) → Decides (replicate n position) (λ tokens. take_all (read_token of fault) n tokens >>= all_then make) (SpelledAllBy of n make)
  all_decides n make = record {
    said = all_said n make;
    again = λ tokens line s. all_again n make tokens line s.items s.are s.few s.is;
    faulted = λ number tokens. all_faulted n make number tokens;
  }
