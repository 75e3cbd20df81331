-- Which words stand among others, and which don't.
use Rattle.std.proofs.Common.{◌≡◌, ℕ, Bool, true, false, ◌||◌, List, [], ◌∷◌, ◌++◌, bytes_eq, refl, sym, ap, ◌∙◌, inl, inr, subst}
use Rattle.std.specs.List.{flat_map, AllByRecursion}
use Rattle.std.proofs.lemmas.Bool.{or_parts, or_from, or_cases, false≢true, false_from_ne_true}
use Rattle.std.proofs.lemmas.Slice.Eq.{bytes_eq-Decides}
use Rattle.command_words.specs.declared.slot.Slot.{Slot}
use Rattle.command_words.specs.declared.slot.Slot.TheVariants.{FileName}
use Rattle.command_words.specs.declared.slot.Place.{Place}
use Rattle.command_words.specs.declared.slot.Place.TheVariants.{Word, Names}
use Rattle.command_words.specs.declared.table.CommandKind.{CommandKind}
use Rattle.command_words.specs.declared.table.Choice.{Choice}
use Rattle.command_words.specs.Slots.{is_file_name, fits, FitsPlace}
use Rattle.command_words.specs.Table.{option_of, values_of}
use Rattle.command_words.specs.Command.{Given, given_words, joined, FitAll, IsOptionOf, IsGiven, is_among}
use Rattle.command_words.proofs.WalkSearch.{is_among-append, is_among-none, is_among-one, is_among-cons, Unlike, is_among-unlike}
use Rattle.list_lemmas.proofs.AllElements.{AllByRecursion-append, AllByRecursion-weaker}
use Rattle.list_lemmas.proofs.Elements.{Contains-none, Contains-first, Contains-later, Contains-cases}
use Rattle.command_words.proofs.TableLemmas.{option-unfit, same_option, bytes_eq-same}

-- a word that isn't among more isn't among fewer, nor is it the one more
pub is_among-fewer : (word other : List ℕ) (words : List (List ℕ)) → is_among word (words ++ other ∷ []) ≡ false
    → (is_among word words ≡ false) × (bytes_eq other word ≡ false)
is_among-fewer word other words e =
    let parts = or_parts (is_among word words) (is_among word (other ∷ [])) (sym (is_among-append word words (other ∷ [])) ∙ e) in
    (parts.0, (or_parts (bytes_eq other word) false (sym (is_among-one word other) ∙ parts.1)).0)

pub is_among-neither : (word : List ℕ) (front back : List (List ℕ)) → is_among word front ≡ false → is_among word back ≡ false → is_among word (front ++ back) ≡ false
is_among-neither word front back f b = is_among-append word front back ∙ or_from (is_among word front) (is_among word back) f b

-- a file name is no word that isn't one
pub name-unlike : (name text : List ℕ) → is_file_name text ≡ false → is_file_name name ≡ true → bytes_eq name text ≡ false
name-unlike name text no_name is_name =
    false_from_ne_true (bytes_eq name text) (λ e. false≢true (sym no_name ∙ ap is_file_name (sym ((bytes_eq-Decides name text).0 e)) ∙ is_name))

pub names-unlike : (names : List (List ℕ)) (text : List ℕ) → is_file_name text ≡ false → AllByRecursion (λ name. is_file_name name ≡ true) names → Unlike text names
names-unlike names text no_name each =
    AllByRecursion-weaker (λ name. is_file_name name ≡ true) (λ name. bytes_eq name text ≡ false) names each (λ name is_name. name-unlike name text no_name is_name)

-- an option's word is no word that fits a slot
option-unlike : (slot : Slot) (word : List ℕ) (choice : Choice) → fits slot word ≡ true → bytes_eq word (option_of choice) ≡ false
option-unlike slot word choice fit =
    false_from_ne_true (bytes_eq word (option_of choice))
    (λ e. false≢true (sym (option-unfit slot choice) ∙ ap (fits slot) (sym ((bytes_eq-Decides word (option_of choice)).0 e)) ∙ fit))

-- no option's word is at a place
place-unlike : (place : Place) (words : List (List ℕ)) (choice : Choice) → FitsPlace place words → Unlike (option_of choice) words
place-unlike (Word slot) [] choice fit = elim fit [ ]
place-unlike (Word slot) (word ∷ []) choice fit = (option-unlike slot word choice fit, tt)
place-unlike (Word slot) (word ∷ other ∷ more) choice fit = elim fit [ ]
place-unlike (Names list) words choice fit = names-unlike words (option_of choice) (option-unfit FileName choice) fit.each

pub parts-unlike : (places : List Place) (parts : List (List (List ℕ))) (choice : Choice) → FitAll places parts → Unlike (option_of choice) (joined parts)
parts-unlike [] [] choice fit = tt
parts-unlike [] (part ∷ parts) choice fit = elim fit [ ]
parts-unlike (place ∷ places) [] choice fit = elim fit [ ]
parts-unlike (place ∷ places) (part ∷ parts) choice fit =
    AllByRecursion-append (λ word. bytes_eq word (option_of choice) ≡ false) part (joined parts) (place-unlike place part choice fit.0)
    (parts-unlike places parts choice fit.1)

pub is_among-fit : (places : List Place) (parts : List (List (List ℕ))) (choice : Choice) → FitAll places parts → is_among (option_of choice) (joined parts) ≡ false
is_among-fit places parts choice fit = is_among-unlike (option_of choice) (joined parts) (parts-unlike places parts choice fit)

-- an option that is given has its word among the words
pub is_among-given : (given : List Given) (choice : Choice) → IsGiven choice given → is_among (option_of choice) (flat_map given_words given) ≡ true
is_among-given [] choice has = absurd (Contains-none choice has)
is_among-given (g ∷ given) choice has =
    is_among-cons (option_of choice) (option_of g.choice) (joined g.values ++ flat_map given_words given)
    ∙ elim (Contains-cases g.choice choice _ has) [
      | inl here ↦
          ap (λ b. b || is_among (option_of choice) (joined g.values ++ flat_map given_words given))
          (ap (λ o. bytes_eq (option_of o) (option_of choice)) here ∙ bytes_eq-same (option_of choice))
      | inr later ↦
          later_is (bytes_eq (option_of g.choice) (option_of choice)) (is_among (option_of choice) (joined g.values))
          (is_among-append (option_of choice) (joined g.values) (flat_map given_words given)) (is_among-given given choice later)
    ]
  where
    later_is : (a b : Bool) → is_among (option_of choice) (joined g.values ++ flat_map given_words given)
        ≡ (b || is_among (option_of choice) (flat_map given_words given))
        → is_among (option_of choice) (flat_map given_words given) ≡ true → (a || is_among (option_of choice) (joined g.values ++ flat_map given_words given)) ≡ true
    later_is true b e is = refl
    later_is false true e is = e
    later_is false false e is = e ∙ is

-- an option's word among the words is that of an option that is given
pub given-among : (kind : CommandKind) (given : List Given) (choice : Choice) → AllByRecursion (IsOptionOf kind) given
    → is_among (option_of choice) (flat_map given_words given) ≡ true → IsGiven choice given
given-among kind [] choice options e = absurd (false≢true (sym (is_among-none (option_of choice)) ∙ e))
given-among kind (g ∷ given) choice options e =
    elim (or_cases (bytes_eq (option_of g.choice) (option_of choice)) (is_among (option_of choice) (joined g.values ++ flat_map given_words given))
    (sym (is_among-cons (option_of choice) (option_of g.choice) (joined g.values ++ flat_map given_words given)) ∙ e)) [
      | inl same ↦ subst (λ o. IsGiven o (g ∷ given)) (same_option g.choice choice same) (Contains-first g.choice _)
      | inr later ↦
          elim (or_cases (is_among (option_of choice) (joined g.values)) (is_among (option_of choice) (flat_map given_words given))
          (sym (is_among-append (option_of choice) (joined g.values) (flat_map given_words given)) ∙ later)) [
            | inl within ↦ absurd (false≢true (sym (is_among-fit (values_of g.choice) g.values choice options.0.fit) ∙ within))
            | inr further ↦ Contains-later g.choice choice _ (given-among kind given choice options.1 further)
          ]
    ]
