-- A line says one thing, or has one fault.
use Rattle.std.proofs.Common.{◌≡◌, ◌⊎◌, inl, inr, ◌<◌, ℕ, Bool, true, false, List, [], ◌∷◌, codes, map, Option, Some, None, Ok, Err, option_map, cond, slice_get, refl, sym, ap, ◌∙◌, subst, arith}
use Rattle.hex_geometry.specs.declared.direction.Side.{Side}
use Rattle.hex_geometry.specs.declared.direction.Side.TheVariants.{Left, Right}
use Rattle.hex_geometry.specs.declared.neighbourhood.Sight.{Sight}
use Rattle.hex_geometry.specs.declared.neighbourhood.Sight.TheVariants.{Here, Ahead, LeftAhead, RightAhead}
use Rattle.ant_base.specs.Number.{decimal_value, number_within}
use Rattle.word_table.specs.Words.{IsSameWord, word_place}
use Rattle.brain_read.specs.declared.instr.Cond.{Cond}
use Rattle.brain_read.specs.declared.instr.Cond.TheVariants.{Friend, Foe, FriendWithFood, FoeWithFood, Food, Rock, Marker, FoeMarker, Home, FoeHome}
use Rattle.brain_read.specs.declared.form.Form.{Form}
use Rattle.brain_read.specs.declared.form.ConditionWord.{ConditionWord}
use Rattle.line_tokens.specs.TokenLines.{TokenLine}
use Rattle.brain_read.specs.Soundness.{IsSoundCondition}
use Rattle.line_tokens.specs.Tokens.{has_bad_byte}
use Rattle.brain_read.specs.Places.{sight_at, side_at, condition_word_at, form_at}
use Rattle.brain_read.specs.Forms.{most_bound, form_words, forms, sight_words, side_words, condition_words, fields_of_condition, word_of_form, word_of_sight, word_of_side, word_of_condition}
use Rattle.line_tokens.specs.Fields.{named}
use Rattle.line_tokens.specs.Fields.LineField.{Word, Number}
use Rattle.brain_read.specs.Judgement.{positions_of}
use Rattle.line_tokens.proofs.PlacesLemmas.{Names, named-place, word-again, word-found, word-good}
use Rattle.line_tokens.proofs.StepsLemmas.{IsWithin, within-again, within-some}
use Rattle.brain_read.proofs.FormsLemmas.{condition_names, form_names, side_names, sight_names}
use Rattle.ant_asm.specs.declared.action.Action.{Action}
use Rattle.ant_asm.specs.declared.action.Action.TheVariants.{Sense, Mark, Unmark, PickUp, Drop, Turn, Move, Flip}
use Rattle.ant_asm.specs.declared.fault.AsmFault.{AsmFault}
use Rattle.ant_asm.specs.declared.fault.AsmFault.TheVariants as asm_fault
use Rattle.ant_asm.specs.declared.spelling.SpellingFault.TheVariants.{BadByte, MissingToken, UnknownWord}
use Rattle.ant_asm.specs.Names.{Named, before_colon, label_of, name_if, name_of}
use Rattle.ant_asm.specs.Lines.{Field, IsName, Keyword, Line, Says, Spells, SpellsAll, keywords, most_parameters, word_of_keyword}
use Rattle.ant_asm.specs.Lines.Keyword.{BlockWord, EndWord, UseWord}
use Rattle.ant_asm.specs.Lines.Field.{Plain, NameField, ColonField, LabelField}
use Rattle.ant_asm.specs.Lines.Line.{Marks, Begins, Ends, Uses, Instructs}
use Rattle.line_tokens.specs.Judgement.{judged}
use Rattle.ant_asm.specs.LineFaults.{Position, first_fault, labelled_position, or_else, positions_after, positions_of_keyword, positions_of_mark, spelling_fault}
use Rattle.ant_asm.specs.Inner.Reading.{Read, ◌>>=◌, fault_at, keyword_at, keyword_words, or_fault, read_by, read_keyword, read_line, read_mark}
use Rattle.ant_asm.proofs.LineSteps.{AreTokensOf, SpelledAllBy, SpelledBy, SpelledEnd, fault_of_read, ok_same}
use Rattle.ant_asm.proofs.LineTokens.{before_colon-again, before_colon-is, colon-good, has_colon, has_colon-end, has_colon-same, is_name-good, label_again, label_spells, name_again, name_spells, word_place-same}
use Rattle.ant_asm.proofs.LineForms.{SpelledCondition, SpelledForm, SpelledKeyword, SpelledRest, form_decides, keyword_decides}
use Rattle.ant_asm.proofs.TextLemmas.{LinesDecide}

-- the first token, and the others
by_token : {A : Type 0} (of : List ℕ → Option A) (S : A → List (List ℕ) → Line → Type 0) (tokens : List (List ℕ)) (line : Line) (P : List (List ℕ) → Type 0) → SpelledBy of S tokens line →
    ((token : List ℕ) (rest : List (List ℕ)) (x : A) → of token ≡ Some x → S x rest line → P (token ∷ rest)) → P tokens
by_token of S [] line P s k = absurd s
by_token of S (token ∷ rest) line P s k = k token rest s.0 s.1 s.2

by_end : (is : Line) (tokens : List (List ℕ)) (line : Line) (P : List (List ℕ) → Type 0) → SpelledEnd is tokens line → (is ≡ line → P []) → P tokens
by_end is [] line P s k = k s
by_end is (token ∷ rest) line P s k = absurd s

-- the first of several fields, and the last
given : (field : Field) (fields : List Field) (tokens : List (List ℕ)) (P : List (List ℕ) → Type 0) → SpellsAll (field ∷ fields) tokens →
    ((token : List ℕ) (rest : List (List ℕ)) → Spells field token → SpellsAll fields rest → P (token ∷ rest)) → P tokens
given field fields [] P h k = absurd h
given field fields (token ∷ rest) P h k = k token rest h.0 h.1

given_end : (tokens : List (List ℕ)) (P : List (List ℕ) → Type 0) → SpellsAll [] tokens → P [] → P tokens
given_end [] P h k = k
given_end (token ∷ tokens) P h k = absurd h

-- a number that was read
within : (least most : ℕ) (token : List ℕ) (n : ℕ) → number_within least most token ≡ Some n → IsWithin least most n token
within least most token n found = within-some least most n token (decimal_value token) refl found

below_six : (token : List ℕ) (m : ℕ) → number_within 0 5 token ≡ Some m → m < 6
below_six token m found = let high = (within 0 5 token m found).high in omega arith

marker_again : (token : List ℕ) (m : ℕ) → decimal_value token ≡ Some m → m < 6 → number_within 0 5 token ≡ Some m
marker_again token m is below = within-again 0 5 m token (record { value = is; low = omega arith; high = omega arith })

-- a condition at the end of a line: what was read is spelled so
module _ (make : Cond → Line) (line : Line) (P : List (List ℕ) → Type 0) (k : (c : Cond) (front : List (List ℕ)) → SpellsAll (map Plain (fields_of_condition c)) front → IsSoundCondition c → make c ≡ line → P front) where
  rest_said : (word : ConditionWord) (token : List ℕ) (rest : List (List ℕ)) → IsSameWord (word_of_condition word) token → SpelledRest make word rest line → P (token ∷ rest)
  rest_said ConditionWord.Friend token rest h s = by_end (make Friend) rest line (λ r. P (token ∷ r)) s (λ e. k Friend (token ∷ []) (h, tt) tt e)
  rest_said ConditionWord.Foe token rest h s = by_end (make Foe) rest line (λ r. P (token ∷ r)) s (λ e. k Foe (token ∷ []) (h, tt) tt e)
  rest_said ConditionWord.FriendWithFood token rest h s = by_end (make FriendWithFood) rest line (λ r. P (token ∷ r)) s (λ e. k FriendWithFood (token ∷ []) (h, tt) tt e)
  rest_said ConditionWord.FoeWithFood token rest h s = by_end (make FoeWithFood) rest line (λ r. P (token ∷ r)) s (λ e. k FoeWithFood (token ∷ []) (h, tt) tt e)
  rest_said ConditionWord.Food token rest h s = by_end (make Food) rest line (λ r. P (token ∷ r)) s (λ e. k Food (token ∷ []) (h, tt) tt e)
  rest_said ConditionWord.Rock token rest h s = by_end (make Rock) rest line (λ r. P (token ∷ r)) s (λ e. k Rock (token ∷ []) (h, tt) tt e)
  rest_said ConditionWord.Marker token rest h s =
      by_token (number_within 0 5) (λ m. SpelledEnd (make (Marker m))) rest line (λ r. P (token ∷ r)) s (λ number left m found s1.
      by_end (make (Marker m)) left line (λ r. P (token ∷ number ∷ r)) s1 (λ e. k (Marker m) (token ∷ number ∷ []) (h, ((within 0 5 number m found).value, tt)) (below_six number m found) e))
  rest_said ConditionWord.FoeMarker token rest h s = by_end (make FoeMarker) rest line (λ r. P (token ∷ r)) s (λ e. k FoeMarker (token ∷ []) (h, tt) tt e)
  rest_said ConditionWord.Home token rest h s = by_end (make Home) rest line (λ r. P (token ∷ r)) s (λ e. k Home (token ∷ []) (h, tt) tt e)
  rest_said ConditionWord.FoeHome token rest h s = by_end (make FoeHome) rest line (λ r. P (token ∷ r)) s (λ e. k FoeHome (token ∷ []) (h, tt) tt e)

  by_condition : (tokens : List (List ℕ)) → SpelledCondition make tokens line → P tokens
  by_condition tokens s =
      by_token (word_place condition_words) (λ i. SpelledRest make (condition_word_at i)) tokens line P s (λ token rest i found s1. rest_said (condition_word_at i) token rest (word-found condition_names token i found) s1)

-- what follows the word of a form, as it was read, is spelled so
form_said : (form : Form) (first : List ℕ) (rest : List (List ℕ)) (line : Line) → IsSameWord (word_of_form form) first → SpelledForm form rest line → Says (first ∷ rest) line
form_said Form.Sense first rest line same s =
    by_token (word_place sight_words) (λ i. SpelledBy label_of (λ met. SpelledBy label_of (λ unmet. SpelledCondition (λ c. Instructs (Sense (sight_at i) met unmet c))))) rest line (λ r. Says (first ∷ r) line) s (λ t1 r1 i h1 s1.
    by_token label_of (λ met. SpelledBy label_of (λ unmet. SpelledCondition (λ c. Instructs (Sense (sight_at i) met unmet c)))) r1 line (λ r. Says (first ∷ t1 ∷ r) line) s1 (λ t2 r2 met h2 s2.
    by_token label_of (λ unmet. SpelledCondition (λ c. Instructs (Sense (sight_at i) met unmet c))) r2 line (λ r. Says (first ∷ t1 ∷ t2 ∷ r) line) s2 (λ t3 r3 unmet h3 s3.
    by_condition (λ c. Instructs (Sense (sight_at i) met unmet c)) line (λ r. Says (first ∷ t1 ∷ t2 ∷ t3 ∷ r) line) (λ c front hc sound e.
    subst (Says (first ∷ t1 ∷ t2 ∷ t3 ∷ front)) e (record { spelled = (same, (word-found sight_names t1 i h1, (label_spells t2 met h2, (label_spells t3 unmet h3, hc)))); in_range = sound })) r3 s3)))
form_said Form.Mark first rest line same s =
    by_token (number_within 0 5) (λ m. SpelledBy label_of (λ on. SpelledEnd (Instructs (Mark m on)))) rest line (λ r. Says (first ∷ r) line) s (λ t1 r1 m h1 s1.
    by_token label_of (λ on. SpelledEnd (Instructs (Mark m on))) r1 line (λ r. Says (first ∷ t1 ∷ r) line) s1 (λ t2 r2 on h2 s2.
    by_end (Instructs (Mark m on)) r2 line (λ r. Says (first ∷ t1 ∷ t2 ∷ r) line) s2 (λ e.
    subst (Says (first ∷ t1 ∷ t2 ∷ [])) e (record { spelled = (same, ((within 0 5 t1 m h1).value, (label_spells t2 on h2, tt))); in_range = below_six t1 m h1 }))))
form_said Form.Unmark first rest line same s =
    by_token (number_within 0 5) (λ m. SpelledBy label_of (λ on. SpelledEnd (Instructs (Unmark m on)))) rest line (λ r. Says (first ∷ r) line) s (λ t1 r1 m h1 s1.
    by_token label_of (λ on. SpelledEnd (Instructs (Unmark m on))) r1 line (λ r. Says (first ∷ t1 ∷ r) line) s1 (λ t2 r2 on h2 s2.
    by_end (Instructs (Unmark m on)) r2 line (λ r. Says (first ∷ t1 ∷ t2 ∷ r) line) s2 (λ e.
    subst (Says (first ∷ t1 ∷ t2 ∷ [])) e (record { spelled = (same, ((within 0 5 t1 m h1).value, (label_spells t2 on h2, tt))); in_range = below_six t1 m h1 }))))
form_said Form.PickUp first rest line same s =
    by_token label_of (λ met. SpelledBy label_of (λ unmet. SpelledEnd (Instructs (PickUp met unmet)))) rest line (λ r. Says (first ∷ r) line) s (λ t1 r1 met h1 s1.
    by_token label_of (λ unmet. SpelledEnd (Instructs (PickUp met unmet))) r1 line (λ r. Says (first ∷ t1 ∷ r) line) s1 (λ t2 r2 unmet h2 s2.
    by_end (Instructs (PickUp met unmet)) r2 line (λ r. Says (first ∷ t1 ∷ t2 ∷ r) line) s2 (λ e.
    subst (Says (first ∷ t1 ∷ t2 ∷ [])) e (record { spelled = (same, (label_spells t1 met h1, (label_spells t2 unmet h2, tt))); in_range = tt }))))
form_said Form.Drop first rest line same s =
    by_token label_of (λ on. SpelledEnd (Instructs (Drop on))) rest line (λ r. Says (first ∷ r) line) s (λ t1 r1 on h1 s1.
    by_end (Instructs (Drop on)) r1 line (λ r. Says (first ∷ t1 ∷ r) line) s1 (λ e.
    subst (Says (first ∷ t1 ∷ [])) e (record { spelled = (same, (label_spells t1 on h1, tt)); in_range = tt })))
form_said Form.Turn first rest line same s =
    by_token (word_place side_words) (λ i. SpelledBy label_of (λ on. SpelledEnd (Instructs (Turn (side_at i) on)))) rest line (λ r. Says (first ∷ r) line) s (λ t1 r1 i h1 s1.
    by_token label_of (λ on. SpelledEnd (Instructs (Turn (side_at i) on))) r1 line (λ r. Says (first ∷ t1 ∷ r) line) s1 (λ t2 r2 on h2 s2.
    by_end (Instructs (Turn (side_at i) on)) r2 line (λ r. Says (first ∷ t1 ∷ t2 ∷ r) line) s2 (λ e.
    subst (Says (first ∷ t1 ∷ t2 ∷ [])) e (record { spelled = (same, (word-found side_names t1 i h1, (label_spells t2 on h2, tt))); in_range = tt }))))
form_said Form.Move first rest line same s =
    by_token label_of (λ met. SpelledBy label_of (λ unmet. SpelledEnd (Instructs (Move met unmet)))) rest line (λ r. Says (first ∷ r) line) s (λ t1 r1 met h1 s1.
    by_token label_of (λ unmet. SpelledEnd (Instructs (Move met unmet))) r1 line (λ r. Says (first ∷ t1 ∷ r) line) s1 (λ t2 r2 unmet h2 s2.
    by_end (Instructs (Move met unmet)) r2 line (λ r. Says (first ∷ t1 ∷ t2 ∷ r) line) s2 (λ e.
    subst (Says (first ∷ t1 ∷ t2 ∷ [])) e (record { spelled = (same, (label_spells t1 met h1, (label_spells t2 unmet h2, tt))); in_range = tt }))))
form_said Form.Flip first rest line same s =
    by_token (number_within 1 most_bound) (λ b. SpelledBy label_of (λ met. SpelledBy label_of (λ unmet. SpelledEnd (Instructs (Flip b met unmet))))) rest line (λ r. Says (first ∷ r) line) s (λ t1 r1 b h1 s1.
    by_token label_of (λ met. SpelledBy label_of (λ unmet. SpelledEnd (Instructs (Flip b met unmet)))) r1 line (λ r. Says (first ∷ t1 ∷ r) line) s1 (λ t2 r2 met h2 s2.
    by_token label_of (λ unmet. SpelledEnd (Instructs (Flip b met unmet))) r2 line (λ r. Says (first ∷ t1 ∷ t2 ∷ r) line) s2 (λ t3 r3 unmet h3 s3.
    by_end (Instructs (Flip b met unmet)) r3 line (λ r. Says (first ∷ t1 ∷ t2 ∷ t3 ∷ r) line) s3 (λ e.
    let number = within 1 most_bound t1 b h1 in
    subst (Says (first ∷ t1 ∷ t2 ∷ t3 ∷ [])) e (record { spelled = (same, (number.value, (label_spells t2 met h2, (label_spells t3 unmet h3, tt)))); in_range = (number.low, number.high) })))))

-- names and labels that were read, one by one
names_said : (tokens names : List (List ℕ)) → AreTokensOf name_of tokens names → SpellsAll (map NameField names) tokens
names_said [] [] are = tt
names_said (token ∷ tokens) (name ∷ names) are = (name_spells token name are.0, names_said tokens names are.1)
names_said it that are = absurd are

labels_said : (tokens : List (List ℕ)) (labels : List Named) → AreTokensOf label_of tokens labels → SpellsAll (map LabelField labels) tokens
labels_said [] [] are = tt
labels_said (token ∷ tokens) (label ∷ labels) are = (label_spells token label are.0, labels_said tokens labels are.1)
labels_said it that are = absurd are

names_again : (tokens names : List (List ℕ)) → SpellsAll (map NameField names) tokens → AreTokensOf name_of tokens names
names_again [] [] h = tt
names_again (token ∷ tokens) (name ∷ names) h = (name_again token name h.0, names_again tokens names h.1)
names_again it that h = absurd h

labels_again : (tokens : List (List ℕ)) (labels : List Named) → SpellsAll (map LabelField labels) tokens → AreTokensOf label_of tokens labels
labels_again [] [] h = tt
labels_again (token ∷ tokens) (label ∷ labels) h = (label_again token label h.0, labels_again tokens labels h.1)
labels_again it that h = absurd h

keyword_said : (word : Keyword) (first : List ℕ) (rest : List (List ℕ)) (line : Line) → IsSameWord (word_of_keyword word) first → SpelledKeyword word rest line → Says (first ∷ rest) line
keyword_said BlockWord first rest line same s =
    by_token name_of (λ name. SpelledAllBy name_of most_parameters (Begins name)) rest line (λ r. Says (first ∷ r) line) s (λ t1 r1 name h1 s1.
    subst (Says (first ∷ t1 ∷ r1)) s1.is (record { spelled = (same, (name_spells t1 name h1, names_said r1 s1.items s1.are)); in_range = s1.few }))
keyword_said EndWord first rest line same s = by_end Ends rest line (λ r. Says (first ∷ r) line) s (λ e. subst (Says (first ∷ [])) e (record { spelled = (same, tt); in_range = tt }))
keyword_said UseWord first rest line same s =
    by_token name_of (λ name. SpelledAllBy label_of most_parameters (Uses name)) rest line (λ r. Says (first ∷ r) line) s (λ t1 r1 name h1 s1.
    subst (Says (first ∷ t1 ∷ r1)) s1.is (record { spelled = (same, (name_spells t1 name h1, labels_said r1 s1.items s1.are)); in_range = s1.few }))

-- the keywords' table
keyword_names : Names keyword_words 3 (λ i. word_of_keyword (keyword_at i))
unfolding keyword_words
keyword_names = record { distinct = refl; good = refl; count = refl; named = refl }

-- a name before a colon, as it was read
named_said : (o : Option (List ℕ)) (name : List ℕ) → name_if o ≡ Some name → (o ≡ Some name) × IsName name
named_said None name is = (let never : None ≡ Some name = is in absurd (cc))
named_said (Some front) name is = let spells = name_spells front name is in (ap Some spells.0, spells.1)

mark_said : (token : List ℕ) (rest : List (List ℕ)) (line : Line) → read_mark token rest ≡ Ok line → Says (token ∷ rest) line
mark_said token [] line e = go (name_if (before_colon token)) refl e
  where
    go : (o : Option (List ℕ)) → name_if (before_colon token) ≡ o → (or_fault o UnknownWord >>= (λ name. Ok (Marks name))) ≡ Ok line → Says (token ∷ []) line
    go None is q = (let never : ◌≡◌ {A = Read Line} (Err UnknownWord) (Ok line) = q in absurd (cc))
    go (Some name) is q =
        let named = named_said (before_colon token) name is in
        subst (Says (token ∷ [])) (ok_same (Marks name) line q) (record { spelled = ((before_colon-is token name named.0, named.1), tt); in_range = tt })
mark_said token (other ∷ rest) line e = (let never : ◌≡◌ {A = Read Line} (Err UnknownWord) (Ok line) = e in absurd (cc))

-- what is read from a line is what the line says
by_said : (form keyword : Option ℕ) (token : List ℕ) (rest : List (List ℕ)) (line : Line) → word_place form_words token ≡ form → word_place keyword_words token ≡ keyword → read_by form keyword token rest ≡ Ok line → Says (token ∷ rest) line
by_said (Some i) keyword token rest line found other e = form_said (form_at i) token rest line (word-found form_names token i found) ((form_decides (form_at i)).said rest line e)
by_said None (Some i) token rest line none found e = keyword_said (keyword_at i) token rest line (word-found keyword_names token i found) ((keyword_decides (keyword_at i)).said rest line e)
by_said None None token rest line none other e = mark_said token rest line e

pub line_said : (tokens : List (List ℕ)) (line : Line) → read_line tokens ≡ Ok line → Says tokens line
unfolding read_line
line_said [] line e = (let never : ◌≡◌ {A = Read Line} (Err MissingToken) (Ok line) = e in absurd (cc))
line_said (token ∷ rest) line e = go (has_bad_byte token) e
  where
    go : (b : Bool) → cond b (Err BadByte) (read_by (word_place form_words token) (word_place keyword_words token) token rest) ≡ Ok line → Says (token ∷ rest) line
    go true q = (let never : ◌≡◌ {A = Read Line} (Err BadByte) (Ok line) = q in absurd (cc))
    go false q = by_said (word_place form_words token) (word_place keyword_words token) token rest line refl refl q

-- a line by the places of its first token
line_step : (form keyword : Option ℕ) (first : List ℕ) (rest : List (List ℕ)) (line : Line) → has_bad_byte first ≡ false → word_place form_words first ≡ form → word_place keyword_words first ≡ keyword → read_by form keyword first rest ≡ Ok line →
    read_line (first ∷ rest) ≡ Ok line
unfolding read_line
line_step form keyword first rest line good found other next =
    ap (λ (b : Bool). cond b (Err BadByte) (read_by (word_place form_words first) (word_place keyword_words first) first rest)) good
    ∙ ap (λ (o : Option ℕ). read_by o (word_place keyword_words first) first rest) found ∙ ap (λ (o : Option ℕ). read_by form o first rest) other ∙ next

form_step : (p : ℕ) (word first : List ℕ) (rest : List (List ℕ)) (line : Line) → slice_get form_words p ≡ Some word → IsSameWord word first → SpelledForm (form_at p) rest line → read_line (first ∷ rest) ≡ Ok line
form_step p word first rest line stands same s =
    let found = word-again form_names p word first stands same in
    line_step (Some p) (word_place keyword_words first) first rest line (word-good form_names first p found) found refl ((form_decides (form_at p)).again rest line s)

-- a keyword is no form
keyword_no_form : (word : Keyword) → word_place form_words (word_of_keyword word) ≡ None
unfolding form_words
keyword_no_form BlockWord = refl
keyword_no_form it = refl

keyword_step : (p : ℕ) (word : Keyword) (first : List ℕ) (rest : List (List ℕ)) (line : Line) → slice_get keyword_words p ≡ Some (word_of_keyword word) → keyword_at p ≡ word → IsSameWord (word_of_keyword word) first → SpelledKeyword word rest line →
    read_line (first ∷ rest) ≡ Ok line
keyword_step p word first rest line stands at same s =
    let found = word-again keyword_names p (word_of_keyword word) first stands same in
    line_step None (Some p) first rest line (word-good keyword_names first p found) (word_place-same form_words (word_of_keyword word) first same ∙ keyword_no_form word) found
    (ap (λ (w : Keyword). read_keyword w rest) at ∙ (keyword_decides word).again rest line s)

-- a token with a colon is no word of a table
form_no_colon : (form : Form) → has_colon (word_of_form form) ≡ false
form_no_colon Form.Sense = refl
form_no_colon it = refl

keyword_no_colon : (word : Keyword) → has_colon (word_of_keyword word) ≡ false
keyword_no_colon BlockWord = refl
keyword_no_colon it = refl

colon_no_word : {words : List (List ℕ)} {n : ℕ} {word : ℕ → List ℕ} → Names words n word → ((i : ℕ) → has_colon (word i) ≡ false) → (token : List ℕ) → has_colon token ≡ true → word_place words token ≡ None
colon_no_word {words} {n} {word} names plain token colon = go (word_place words token) refl
  where
    go : (o : Option ℕ) → word_place words token ≡ o → word_place words token ≡ None
    go None is = is
    go (Some i) is = (let never : true ≡ false = sym colon ∙ sym (has_colon-same (word i) token (word-found names token i is)) ∙ plain i in absurd (cc))

-- a sight, a side and a condition that are spelled so are read
sight_again : (s : Sight) (token : List ℕ) (S : Sight → Type 0) → IsSameWord (word_of_sight s) token → S s → (i : ℕ) × (word_place sight_words token ≡ Some i) × S (sight_at i)
unfolding sight_words
sight_again Here token S same h = (0, word-again sight_names 0 (codes "Here") token refl same, h)
sight_again Ahead token S same h = (1, word-again sight_names 1 (codes "Ahead") token refl same, h)
sight_again LeftAhead token S same h = (2, word-again sight_names 2 (codes "LeftAhead") token refl same, h)
sight_again RightAhead token S same h = (3, word-again sight_names 3 (codes "RightAhead") token refl same, h)

side_again : (s : Side) (token : List ℕ) (S : Side → Type 0) → IsSameWord (word_of_side s) token → S s → (i : ℕ) × (word_place side_words token ≡ Some i) × S (side_at i)
unfolding side_words
side_again Left token S same h = (0, word-again side_names 0 (codes "Left") token refl same, h)
side_again Right token S same h = (1, word-again side_names 1 (codes "Right") token refl same, h)

plain_again : (make : Cond → Line) (i : ℕ) (word : List ℕ) (line : Line) (tokens : List (List ℕ)) → slice_get condition_words i ≡ Some word → SpelledRest make (condition_word_at i) [] line → SpellsAll (Plain (Word word) ∷ []) tokens → SpelledCondition make tokens line
plain_again make i word line tokens stands end h =
    given (Plain (Word word)) [] tokens (λ ts. SpelledCondition make ts line) h (λ token rest h1 k1.
    given_end rest (λ r. SpelledCondition make (token ∷ r) line) k1 (i, word-again condition_names i word token stands h1, end))

condition_again : (make : Cond → Line) (c : Cond) (tokens : List (List ℕ)) → SpellsAll (map Plain (fields_of_condition c)) tokens → IsSoundCondition c → SpelledCondition make tokens (make c)
unfolding condition_words
condition_again make Friend tokens h sound = plain_again make 0 (codes "Friend") (make Friend) tokens refl refl h
condition_again make Foe tokens h sound = plain_again make 1 (codes "Foe") (make Foe) tokens refl refl h
condition_again make FriendWithFood tokens h sound = plain_again make 2 (codes "FriendWithFood") (make FriendWithFood) tokens refl refl h
condition_again make FoeWithFood tokens h sound = plain_again make 3 (codes "FoeWithFood") (make FoeWithFood) tokens refl refl h
condition_again make Food tokens h sound = plain_again make 4 (codes "Food") (make Food) tokens refl refl h
condition_again make Rock tokens h sound = plain_again make 5 (codes "Rock") (make Rock) tokens refl refl h
condition_again make (Marker m) tokens h sound =
    given (Plain (Word (codes "Marker"))) (Plain (Number m) ∷ []) tokens (λ ts. SpelledCondition make ts (make (Marker m))) h (λ token rest h1 k1.
    given (Plain (Number m)) [] rest (λ r. SpelledCondition make (token ∷ r) (make (Marker m))) k1 (λ number left h2 k2.
    given_end left (λ r. SpelledCondition make (token ∷ number ∷ r) (make (Marker m))) k2
    (6, word-again condition_names 6 (codes "Marker") token refl h1, (m, marker_again number m h2 sound, refl))))
condition_again make FoeMarker tokens h sound = plain_again make 7 (codes "FoeMarker") (make FoeMarker) tokens refl refl h
condition_again make Home tokens h sound = plain_again make 8 (codes "Home") (make Home) tokens refl refl h
condition_again make FoeHome tokens h sound = plain_again make 9 (codes "FoeHome") (make FoeHome) tokens refl refl h

-- an instruction's line that is spelled so is read
action_again : (action : Action Named) (tokens : List (List ℕ)) → Says tokens (Instructs action) → read_line tokens ≡ Ok (Instructs action)
unfolding form_words
action_again (Sense s m u c) tokens says =
    given (Plain (Word (codes "Sense"))) (Plain (Word (word_of_sight s)) ∷ LabelField m ∷ LabelField u ∷ map Plain (fields_of_condition c)) tokens (λ ts. read_line ts ≡ Ok (Instructs (Sense s m u c))) says.spelled (λ first r0 h0 k0.
    form_step 0 (codes "Sense") first r0 (Instructs (Sense s m u c)) refl h0
    (given (Plain (Word (word_of_sight s))) (LabelField m ∷ LabelField u ∷ map Plain (fields_of_condition c)) r0 (λ r. SpelledForm Form.Sense r (Instructs (Sense s m u c))) k0 (λ t1 r1 h1 k1.
    given (LabelField m) (LabelField u ∷ map Plain (fields_of_condition c)) r1 (λ r. SpelledForm Form.Sense (t1 ∷ r) (Instructs (Sense s m u c))) k1 (λ t2 r2 h2 k2.
    given (LabelField u) (map Plain (fields_of_condition c)) r2 (λ r. SpelledForm Form.Sense (t1 ∷ t2 ∷ r) (Instructs (Sense s m u c))) k2 (λ t3 r3 h3 k3.
    sight_again s t1 (λ x. SpelledBy label_of (λ met. SpelledBy label_of (λ unmet. SpelledCondition (λ d. Instructs (Sense x met unmet d)))) (t2 ∷ t3 ∷ r3) (Instructs (Sense s m u c))) h1
    (m, label_again t2 m h2, (u, label_again t3 u h3, condition_again (λ d. Instructs (Sense s m u d)) c r3 k3 says.in_range)))))))
action_again (Mark m on) tokens says =
    given (Plain (Word (codes "Mark"))) (Plain (Number m) ∷ LabelField on ∷ []) tokens (λ ts. read_line ts ≡ Ok (Instructs (Mark m on))) says.spelled (λ first r0 h0 k0.
    form_step 1 (codes "Mark") first r0 (Instructs (Mark m on)) refl h0
    (given (Plain (Number m)) (LabelField on ∷ []) r0 (λ r. SpelledForm Form.Mark r (Instructs (Mark m on))) k0 (λ t1 r1 h1 k1.
    given (LabelField on) [] r1 (λ r. SpelledForm Form.Mark (t1 ∷ r) (Instructs (Mark m on))) k1 (λ t2 r2 h2 k2.
    given_end r2 (λ r. SpelledForm Form.Mark (t1 ∷ t2 ∷ r) (Instructs (Mark m on))) k2
    (m, marker_again t1 m h1 says.in_range, (on, label_again t2 on h2, refl))))))
action_again (Unmark m on) tokens says =
    given (Plain (Word (codes "Unmark"))) (Plain (Number m) ∷ LabelField on ∷ []) tokens (λ ts. read_line ts ≡ Ok (Instructs (Unmark m on))) says.spelled (λ first r0 h0 k0.
    form_step 2 (codes "Unmark") first r0 (Instructs (Unmark m on)) refl h0
    (given (Plain (Number m)) (LabelField on ∷ []) r0 (λ r. SpelledForm Form.Unmark r (Instructs (Unmark m on))) k0 (λ t1 r1 h1 k1.
    given (LabelField on) [] r1 (λ r. SpelledForm Form.Unmark (t1 ∷ r) (Instructs (Unmark m on))) k1 (λ t2 r2 h2 k2.
    given_end r2 (λ r. SpelledForm Form.Unmark (t1 ∷ t2 ∷ r) (Instructs (Unmark m on))) k2
    (m, marker_again t1 m h1 says.in_range, (on, label_again t2 on h2, refl))))))
action_again (PickUp m u) tokens says =
    given (Plain (Word (codes "PickUp"))) (LabelField m ∷ LabelField u ∷ []) tokens (λ ts. read_line ts ≡ Ok (Instructs (PickUp m u))) says.spelled (λ first r0 h0 k0.
    form_step 3 (codes "PickUp") first r0 (Instructs (PickUp m u)) refl h0
    (given (LabelField m) (LabelField u ∷ []) r0 (λ r. SpelledForm Form.PickUp r (Instructs (PickUp m u))) k0 (λ t1 r1 h1 k1.
    given (LabelField u) [] r1 (λ r. SpelledForm Form.PickUp (t1 ∷ r) (Instructs (PickUp m u))) k1 (λ t2 r2 h2 k2.
    given_end r2 (λ r. SpelledForm Form.PickUp (t1 ∷ t2 ∷ r) (Instructs (PickUp m u))) k2
    (m, label_again t1 m h1, (u, label_again t2 u h2, refl))))))
action_again (Drop on) tokens says =
    given (Plain (Word (codes "Drop"))) (LabelField on ∷ []) tokens (λ ts. read_line ts ≡ Ok (Instructs (Drop on))) says.spelled (λ first r0 h0 k0.
    form_step 4 (codes "Drop") first r0 (Instructs (Drop on)) refl h0
    (given (LabelField on) [] r0 (λ r. SpelledForm Form.Drop r (Instructs (Drop on))) k0 (λ t1 r1 h1 k1.
    given_end r1 (λ r. SpelledForm Form.Drop (t1 ∷ r) (Instructs (Drop on))) k1
    (on, label_again t1 on h1, refl))))
action_again (Turn s on) tokens says =
    given (Plain (Word (codes "Turn"))) (Plain (Word (word_of_side s)) ∷ LabelField on ∷ []) tokens (λ ts. read_line ts ≡ Ok (Instructs (Turn s on))) says.spelled (λ first r0 h0 k0.
    form_step 5 (codes "Turn") first r0 (Instructs (Turn s on)) refl h0
    (given (Plain (Word (word_of_side s))) (LabelField on ∷ []) r0 (λ r. SpelledForm Form.Turn r (Instructs (Turn s on))) k0 (λ t1 r1 h1 k1.
    given (LabelField on) [] r1 (λ r. SpelledForm Form.Turn (t1 ∷ r) (Instructs (Turn s on))) k1 (λ t2 r2 h2 k2.
    given_end r2 (λ r. SpelledForm Form.Turn (t1 ∷ t2 ∷ r) (Instructs (Turn s on))) k2
    (side_again s t1 (λ x. SpelledBy label_of (λ l. SpelledEnd (Instructs (Turn x l))) (t2 ∷ []) (Instructs (Turn s on))) h1 (on, label_again t2 on h2, refl))))))
action_again (Move m u) tokens says =
    given (Plain (Word (codes "Move"))) (LabelField m ∷ LabelField u ∷ []) tokens (λ ts. read_line ts ≡ Ok (Instructs (Move m u))) says.spelled (λ first r0 h0 k0.
    form_step 6 (codes "Move") first r0 (Instructs (Move m u)) refl h0
    (given (LabelField m) (LabelField u ∷ []) r0 (λ r. SpelledForm Form.Move r (Instructs (Move m u))) k0 (λ t1 r1 h1 k1.
    given (LabelField u) [] r1 (λ r. SpelledForm Form.Move (t1 ∷ r) (Instructs (Move m u))) k1 (λ t2 r2 h2 k2.
    given_end r2 (λ r. SpelledForm Form.Move (t1 ∷ t2 ∷ r) (Instructs (Move m u))) k2
    (m, label_again t1 m h1, (u, label_again t2 u h2, refl))))))
action_again (Flip b m u) tokens says =
    given (Plain (Word (codes "Flip"))) (Plain (Number b) ∷ LabelField m ∷ LabelField u ∷ []) tokens (λ ts. read_line ts ≡ Ok (Instructs (Flip b m u))) says.spelled (λ first r0 h0 k0.
    form_step 7 (codes "Flip") first r0 (Instructs (Flip b m u)) refl h0
    (given (Plain (Number b)) (LabelField m ∷ LabelField u ∷ []) r0 (λ r. SpelledForm Form.Flip r (Instructs (Flip b m u))) k0 (λ t1 r1 h1 k1.
    given (LabelField m) (LabelField u ∷ []) r1 (λ r. SpelledForm Form.Flip (t1 ∷ r) (Instructs (Flip b m u))) k1 (λ t2 r2 h2 k2.
    given (LabelField u) [] r2 (λ r. SpelledForm Form.Flip (t1 ∷ t2 ∷ r) (Instructs (Flip b m u))) k2 (λ t3 r3 h3 k3.
    given_end r3 (λ r. SpelledForm Form.Flip (t1 ∷ t2 ∷ t3 ∷ r) (Instructs (Flip b m u))) k3
    (b, within-again 1 most_bound b t1 (record { value = h1; low = says.in_range.0; high = says.in_range.1 }), (m, label_again t2 m h2, (u, label_again t3 u h3, refl))))))))

-- what is said is read
pub line_again : (line : Line) (tokens : List (List ℕ)) → Says tokens line → read_line tokens ≡ Ok line
unfolding keyword_words
line_again (Marks name) tokens says =
    given (ColonField name) [] tokens (λ ts. read_line ts ≡ Ok (Marks name)) says.spelled (λ first rest h k.
    given_end rest (λ r. read_line (first ∷ r) ≡ Ok (Marks name)) k
    (let colon : has_colon first ≡ true = ap has_colon h.0 ∙ has_colon-end name in
    line_step None None first [] (Marks name) (ap has_bad_byte h.0 ∙ colon-good name (is_name-good name h.1))
    (colon_no_word form_names (λ i. form_no_colon (form_at i)) first colon) (colon_no_word keyword_names (λ i. keyword_no_colon (keyword_at i)) first colon)
    (ap (λ (o : Option (List ℕ)). or_fault (name_if o) UnknownWord >>= (λ n. Ok (Marks n))) (ap before_colon h.0 ∙ before_colon-again name)
    ∙ ap (λ (o : Option (List ℕ)). or_fault o UnknownWord >>= (λ n. Ok (Marks n))) (name_again name name (refl, h.1)))))
line_again (Begins name parameters) tokens says =
    given (Plain (Word (codes "block"))) (NameField name ∷ map NameField parameters) tokens (λ ts. read_line ts ≡ Ok (Begins name parameters)) says.spelled (λ first rest h k.
    keyword_step 0 BlockWord first rest (Begins name parameters) refl refl h
    (given (NameField name) (map NameField parameters) rest (λ r. SpelledKeyword BlockWord r (Begins name parameters)) k (λ t1 r1 h1 k1.
    (name, name_again t1 name h1, record { items = parameters; are = names_again r1 parameters k1; few = says.in_range; is = refl }))))
line_again Ends tokens says =
    given (Plain (Word (codes "end"))) [] tokens (λ ts. read_line ts ≡ Ok Ends) says.spelled (λ first rest h k.
    given_end rest (λ r. read_line (first ∷ r) ≡ Ok Ends) k (keyword_step 1 EndWord first [] Ends refl refl h refl))
line_again (Uses name handed) tokens says =
    given (Plain (Word (codes "use"))) (NameField name ∷ map LabelField handed) tokens (λ ts. read_line ts ≡ Ok (Uses name handed)) says.spelled (λ first rest h k.
    keyword_step 2 UseWord first rest (Uses name handed) refl refl h
    (given (NameField name) (map LabelField handed) rest (λ r. SpelledKeyword UseWord r (Uses name handed)) k (λ t1 r1 h1 k1.
    (name, name_again t1 name h1, record { items = handed; are = labels_again r1 handed k1; few = says.in_range; is = refl }))))
line_again (Instructs action) tokens says = action_again action tokens says

-- the fault of a line is that of its first position at fault
by_faulted : (number : ℕ) (form keyword : Option ℕ) (token : List ℕ) (rest : List (List ℕ)) →
    judged (or_else (option_map (λ i. map labelled_position (positions_of (form_at i))) form) (or_else (option_map (λ i. positions_of_keyword (keyword_at i)) keyword) (positions_of_mark token rest))) (asm_fault.UnknownWord number) (first_fault number rest)
    ≡ fault_of_read number (read_by form keyword token rest)
by_faulted number (Some i) keyword token rest = (form_decides (form_at i)).faulted number rest
by_faulted number None (Some i) token rest = (keyword_decides (keyword_at i)).faulted number rest
by_faulted number None None token [] = go (name_if (before_colon token))
  where
    go : (o : Option (List ℕ)) → judged (option_map (λ name. []) o) (asm_fault.UnknownWord number) (first_fault number []) ≡ fault_of_read number (or_fault o UnknownWord >>= (λ name. Ok (Marks name)))
    go None = refl
    go (Some name) = refl
by_faulted number None None token (other ∷ rest) = refl

pub line_faulted : (number : ℕ) (tokens : List (List ℕ)) → spelling_fault number tokens ≡ fault_of_read number (read_line tokens)
unfolding spelling_fault read_line form_words keyword_words
line_faulted number [] = refl
line_faulted number (token ∷ rest) =
    ap (λ (o : Option (List Position)). cond (has_bad_byte token) (Some (asm_fault.BadByte number)) (judged o (asm_fault.UnknownWord number) (first_fault number rest))) positions
    ∙ go (has_bad_byte token)
  where
    forms_place : option_map (λ form. map labelled_position (positions_of form)) (named word_of_form forms token) ≡ option_map (λ i. map labelled_position (positions_of (form_at i))) (word_place form_words token)
    forms_place = named-place word_of_form form_at (λ form. map labelled_position (positions_of form)) forms token (refl, (refl, (refl, (refl, (refl, (refl, (refl, (refl, tt))))))))

    keywords_place : option_map positions_of_keyword (named word_of_keyword keywords token) ≡ option_map (λ i. positions_of_keyword (keyword_at i)) (word_place keyword_words token)
    keywords_place = named-place word_of_keyword keyword_at positions_of_keyword keywords token (refl, (refl, (refl, tt)))

    positions : positions_after token rest ≡ or_else (option_map (λ i. map labelled_position (positions_of (form_at i))) (word_place form_words token)) (or_else (option_map (λ i. positions_of_keyword (keyword_at i)) (word_place keyword_words token)) (positions_of_mark token rest))
    positions =
        ap (λ (o : Option (List Position)). or_else o (or_else (option_map positions_of_keyword (named word_of_keyword keywords token)) (positions_of_mark token rest))) forms_place
        ∙ ap (λ (o : Option (List Position)). or_else (option_map (λ i. map labelled_position (positions_of (form_at i))) (word_place form_words token)) (or_else o (positions_of_mark token rest))) keywords_place

    go : (b : Bool) → cond b (Some (asm_fault.BadByte number)) (judged (or_else (option_map (λ i. map labelled_position (positions_of (form_at i))) (word_place form_words token)) (or_else (option_map (λ i. positions_of_keyword (keyword_at i)) (word_place keyword_words token)) (positions_of_mark token rest))) (asm_fault.UnknownWord number) (first_fault number rest))
        ≡ fault_of_read number (cond b (Err BadByte) (read_by (word_place form_words token) (word_place keyword_words token) token rest))
    go true = refl
    go false = by_faulted number (word_place form_words token) (word_place keyword_words token) token rest

-- so a line says one thing, or has one fault
pub lines_decide : LinesDecide
lines_decide = record { says = says; one = one; never = never }
  where
    says : (line : TokenLine) → ((said : Line) × Says line.tokens said) ⊎ ((fault : AsmFault) × (spelling_fault line.number line.tokens ≡ Some fault))
    says line = go (read_line line.tokens) refl
      where
        go : (r : Read Line) → read_line line.tokens ≡ r → ((said : Line) × Says line.tokens said) ⊎ ((fault : AsmFault) × (spelling_fault line.number line.tokens ≡ Some fault))
        go (Ok said) is = inl (said, line_said line.tokens said is)
        go (Err fault) is = inr (fault_at line.number fault, line_faulted line.number line.tokens ∙ ap (fault_of_read line.number) is)

    one : (tokens : List (List ℕ)) (a b : Line) → Says tokens a → Says tokens b → a ≡ b
    one tokens a b first second = ok_same a b (sym (line_again a tokens first) ∙ line_again b tokens second)

    never : (line : TokenLine) (said : Line) (fault : AsmFault) → Says line.tokens said → spelling_fault line.number line.tokens ≡ Some fault → ⊥
    never line said fault is wrong =
        let both : None ≡ Some fault = sym (ap (fault_of_read line.number) (line_again said line.tokens is)) ∙ sym (line_faulted line.number line.tokens) ∙ wrong in absurd (cc)
