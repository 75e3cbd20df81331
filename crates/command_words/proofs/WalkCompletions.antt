-- Words that the walk accepts are the beginning of a command, and a command's words it accepts.
use Rattle.std.proofs.Common.{◌≡◌, ◌≢◌, ℕ, Bool, true, false, List, [], ◌∷◌, ◌++◌, map, Ok, bytes_eq, refl, sym, ap, ◌∙◌, subst, ◌⊎◌, inl, inr}
use Rattle.std.specs.List.{Contains, flat_map, AllByRecursion}
use Rattle.std.proofs.lemmas.Bool.{false≢true, or_from}
use Rattle.std.proofs.lemmas.Grind.{flat_map-append}
use Rattle.std.proofs.lemmas.List.{append-nil, append_assoc, map-append}
use Rattle.std.proofs.lemmas.List.Elements.{Contains-push, Contains-append_left}
use Rattle.command_words.specs.declared.slot.Place.{Place}
use Rattle.command_words.specs.declared.table.CommandKind.{CommandKind}
use Rattle.command_words.specs.declared.table.Choice.{Choice}
use Rattle.command_words.specs.Table.{kinds, word_of, places_of, choices_of, option_of, values_of}
use Rattle.command_words.specs.Command.{Given, given_words, joined, FitAll, IsOptionOf, NoneTwice, IsCommandOf}
use Rattle.command_words.specs.Inner.Walk.{walk}
use Rattle.list_lemmas.proofs.AllElements.{AllByRecursion-push}
use Rattle.list_lemmas.proofs.Elements.{Contains-none, Contains-first, Contains-later, Contains-cases}
use Rattle.command_words.proofs.TableLemmas.{option-not_first, same_option, bytes_eq-same}
use Rattle.command_words.proofs.WalkSearch.{is_among-one}
use Rattle.command_words.proofs.WalkAmong.{is_among-neither, is_among-fit}
use Rattle.command_words.proofs.WalkShapes.{IsNew, sample_part, samples-fit, walk-accepts, walk-places, walk-options}
use Rattle.command_words.proofs.WalkNames.{open-none, rest-from_all, all-from_rest, places-run, given-no_name}

-- the options that are given
abbrev chosen : List Given → List Choice
chosen given = map (λ g. g.choice) given

-- an option is given, or none of those given is it
chosen-or_other : (given : List Given) (choice : Choice) → Contains (chosen given) choice ⊎ AllByRecursion (λ other. other.choice ≢ choice) given
chosen-or_other [] choice = inr tt
chosen-or_other (g ∷ given) choice = go (bytes_eq (option_of g.choice) (option_of choice)) refl (chosen-or_other given choice) where
  go : (b : Bool) → bytes_eq (option_of g.choice) (option_of choice) ≡ b → Contains (chosen given) choice ⊎ AllByRecursion (λ other. other.choice ≢ choice) given
      → Contains (g.choice ∷ chosen given) choice ⊎ ((g.choice ≢ choice) × AllByRecursion (λ other. other.choice ≢ choice) given)
  go true e rest = inl (subst (λ o. Contains (o ∷ chosen given) choice) (sym (same_option g.choice choice e)) (Contains-first choice (chosen given)))
  go false e (inl later) = inl (Contains-later g.choice choice (chosen given) later)
  go false e (inr others) = inr (λ same. false≢true (sym e ∙ ap (λ o. bytes_eq (option_of o) (option_of choice)) same ∙ bytes_eq-same (option_of choice)), others)

NoneTwice-push : (given : List Given) (g : Given) → NoneTwice given → AllByRecursion (λ other. other.choice ≢ g.choice) given → NoneTwice (given ++ g ∷ [])
NoneTwice-push [] g once differ = (tt, tt)
NoneTwice-push (first ∷ given) g once differ =
    (AllByRecursion-push (λ other. other.choice ≢ first.choice) given g once.0 (λ e. differ.0 (sym e)), NoneTwice-push given g once.1 differ.1)

-- the options given and some more, among which each option of a list is
record Completed (kind : CommandKind) (given : List Given) (list : List Choice) : Type 0 where
  more : List Given
  options : AllByRecursion (IsOptionOf kind) (given ++ more)
  once : NoneTwice (given ++ more)
  each : (choice : Choice) → Contains list choice → Contains (chosen (given ++ more)) choice

-- an option with a fitting word for each of its places
sample_given : Choice → Given
sample_given choice = record { choice = choice; values = map sample_part (values_of choice) }

-- each option of a list can be given
complete : (kind : CommandKind) (given : List Given) (list : List Choice) → ((choice : Choice) → Contains list choice → Contains (choices_of kind) choice)
    → AllByRecursion (IsOptionOf kind) given → NoneTwice given → Completed kind given list
unfolding sample_given
complete kind given [] known options once = record {
  more = [];
  options = subst (AllByRecursion (IsOptionOf kind)) (sym (append-nil given)) options;
  once = subst NoneTwice (sym (append-nil given)) once;
  each = λ choice has. absurd (Contains-none choice has);
}
complete kind given (first ∷ list) known options once =
    go (complete kind given list (λ choice has. known choice (Contains-later first choice list has)) options once) where
      with_more : (rest : Completed kind given list) → AllByRecursion (λ other. other.choice ≢ first) (given ++ rest.more) → Completed kind given (first ∷ list)
      with_more rest others =
          let longer = append_assoc given rest.more (sample_given first ∷ []) in
          let option : IsOptionOf kind (sample_given first) = record { known = known first (Contains-first first list); fit = samples-fit (values_of first) } in
          let all = map-append (λ g. g.choice) (given ++ rest.more) (sample_given first ∷ []) in
          record {
            more = rest.more ++ sample_given first ∷ [];
            options = subst (AllByRecursion (IsOptionOf kind)) longer
                (AllByRecursion-push (IsOptionOf kind) (given ++ rest.more) (sample_given first) rest.options option);
            once = subst NoneTwice longer (NoneTwice-push (given ++ rest.more) (sample_given first) rest.once others);
            each = λ choice has. subst (λ gs. Contains (chosen gs) choice) longer
                (subst (λ cs. Contains cs choice) (sym all) (elim (Contains-cases first choice list has) [
                  | inl here ↦ subst (Contains (chosen (given ++ rest.more) ++ first ∷ [])) here (Contains-push (chosen (given ++ rest.more)) first)
                  | inr later ↦ Contains-append_left (chosen (given ++ rest.more)) (first ∷ []) choice (rest.each choice later)
                ]));
          }

      go : Completed kind given list → Completed kind given (first ∷ list)
      go rest = elim (chosen-or_other (given ++ rest.more) first) [
        | inl here ↦ record {
          more = rest.more;
          options = rest.options;
          once = rest.once;
          each = λ choice has. elim (Contains-cases first choice list has) [
            | inl same ↦ subst
                (Contains (chosen (given ++ rest.more))) same here
            | inr later ↦ rest.each choice later
          ];
        }
        | inr others ↦ with_more rest others
      ]

-- the words with some more are a command
pub record Extends (kind : CommandKind) (words : List (List ℕ)) : Type 0 where
  pub more : List (List ℕ)
  pub front : List (List (List ℕ))
  pub given : List Given
  pub form : IsCommandOf kind front given (words ++ more)

-- words that the walk accepts are the beginning of a command
pub walk-extends : (kind : CommandKind) → Contains kinds kind → (words : List (List ℕ)) (later : List Place)
    → walk kind words (places_of kind) [] (word_of kind ∷ []) ≡ Ok later → Extends kind (word_of kind ∷ words)
walk-extends kind known words later e =
    let ext = walk-accepts kind words (places_of kind) [] (word_of kind ∷ []) later (places-run kind) (open-none (places_of kind)) e in
    let rest = ext.rest in
    let all = complete kind rest.given (choices_of kind) (λ choice has. has) rest.options rest.once in
    record {
      more = ext.more ++ flat_map given_words all.more;
      front = rest.front;
      given = rest.given ++ all.more;
      form = record {
        known = known;
        whole = ap (λ ws. word_of kind ∷ ws)
            (sym (append_assoc words ext.more (flat_map given_words all.more))
            ∙ ap (λ ws. ws ++ flat_map given_words all.more) rest.whole
            ∙ append_assoc (joined rest.front) (flat_map given_words rest.given) (flat_map given_words all.more)
            ∙ ap (λ ws. joined rest.front ++ ws) (sym (flat_map-append given_words rest.given all.more)));
        places = all-from_rest (places_of kind) rest.front rest.places;
        options = all.options;
        once = all.once;
        needed = λ choice has need. all.each choice has;
      };
    }

-- after a command's first words no option has stood
all-new : (kind : CommandKind) (places : List Place) (front : List (List (List ℕ))) (given : List Given) → FitAll places front
    → AllByRecursion (IsNew (word_of kind ∷ joined front)) given
all-new kind places front [] fit = tt
all-new kind places front (g ∷ given) fit = (
  is_among-neither (option_of g.choice) (word_of kind ∷ []) (joined front)
      (is_among-one (option_of g.choice) (word_of kind) ∙ or_from (bytes_eq (word_of kind) (option_of g.choice)) false (option-not_first kind g.choice) refl)
      (is_among-fit places front g.choice fit),
  all-new kind places front given fit,
)

-- the walk accepts a command's words
pub command-walks : (kind : CommandKind) (front : List (List (List ℕ))) (given : List Given) (words : List (List ℕ)) → IsCommandOf kind front given words
    → walk kind (joined front ++ flat_map given_words given) (places_of kind) [] (word_of kind ∷ []) ≡ Ok []
command-walks kind front given words form =
    walk-places kind (places_of kind) [] front (flat_map given_words given) (word_of kind ∷ []) (places-run kind) (rest-from_all (places_of kind) front form.places)
    (given-no_name given)
    ∙ walk-options kind given (word_of kind ∷ joined front) form.options form.once (all-new kind (places_of kind) front given form.places)
