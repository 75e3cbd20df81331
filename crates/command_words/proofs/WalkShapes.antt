-- Going over words succeeds exactly on the beginnings of a command.
use Rattle.std.proofs.Common.{◌≡◌, ◌≢◌, ℕ, ◌+◌, ◌<◌, suc, Bool, true, false, cond, List, [], ◌∷◌, ◌++◌, length, take, map, Option, Some, None, Result, Ok, Err, bytes_eq, refl, sym, ap, ◌∙◌, subst, arith}
use Rattle.std.specs.List.{Contains, flat_map, AllByRecursion}
use Rattle.std.proofs.lemmas.Bool.{false≢true, or_from}
use Rattle.std.proofs.lemmas.List.{append-nil, append_assoc, length_push}
use Rattle.command_words.specs.declared.slot.Slot.{Slot}
use Rattle.command_words.specs.declared.table.NameList.{NameList}
use Rattle.command_words.specs.declared.slot.Place.{Place}
use Rattle.command_words.specs.declared.slot.Place.TheVariants.{Word, Names}
use Rattle.command_words.specs.declared.table.CommandKind.{CommandKind}
use Rattle.command_words.specs.declared.table.Choice.{Choice}
use Rattle.command_words.specs.Slots.{is_file_name, fits, AreNames}
use Rattle.command_words.specs.Table.{choices_of, option_of, values_of}
use Rattle.command_words.specs.Command.{Given, given_words, joined, FitAll, IsOptionOf, NoneTwice, is_among}
use Rattle.command_words.specs.Inner.Walk.{choice_of, has_enough, may_follow, closed, reached, due_after_option, due_after, names_after, go_on, walk}
use Rattle.list_lemmas.proofs.AllElements.{AllByRecursion-weaker}
use Rattle.command_words.proofs.TableLemmas.{sample, sample-fits, choice_of-found, choice_of-known, choice_of-option, same_option-differs, bytes_eq-same}
use Rattle.command_words.proofs.WalkSearch.{is_among-one, NoName}
use Rattle.command_words.proofs.WalkAmong.{is_among-fewer, is_among-neither, is_among-fit}
use Rattle.command_words.proofs.WalkNames.{MayBe, IsOpen, open-none, FitRest, rest-from_all, all-from_rest, Stops, RunsEnd, values-run, rest-stops, further, walk-same, run-ends, walk-run, names-enough, stops-no_name, given-no_name, lacking, lacks_none, open-more}

-- a word may stand where the walk continues
pub stands : (o : Option (List Place)) (n : ℕ) (next : List Place → Result (List Place) ℕ) (later : List Place) → go_on o n next ≡ Ok later
    → (due : List Place) × (o ≡ Some due) × (next due ≡ Ok later)
stands None n next later e = (let no : ⊥ = cc in absurd no)
stands (Some due) n next later e = (due, refl, e)

-- a word that may stand passes the test
stands-passed : (b : Bool) (places due : List Place) → cond b (Some places) None ≡ Some due → (b ≡ true) × (places ≡ due)
stands-passed true places due e = (refl, cc)
stands-passed false places due e = (let no : ⊥ = cc in absurd no)

-- a word that may stand if no place is due is that of an option that didn't stand before
stands-option : (o : Option Choice) (stood : Bool) (due : List Place) → due_after_option o stood ≡ Some due
    → (choice : Choice) × (o ≡ Some choice) × (stood ≡ false) × (values_of choice ≡ due)
stands-option None stood due e = (let no : ⊥ = cc in absurd no)
stands-option (Some choice) true due e = (let no : ⊥ = cc in absurd no)
stands-option (Some choice) false due e = (choice, refl, refl, cc)

-- an option's word doesn't stand among words
abbrev pub IsNew : List (List ℕ) → Given → Type 0
IsNew before given = is_among (option_of given.choice) before ≡ false

-- words for the places that are due, and then options that are new
pub record IsRest (kind : CommandKind) (due : List Place) (names before words : List (List ℕ)) : Type 0 where
  pub front : List (List (List ℕ))
  pub given : List Given
  pub whole : words ≡ joined front ++ flat_map given_words given
  pub places : FitRest due names front
  pub options : AllByRecursion (IsOptionOf kind) given
  pub once : NoneTwice given
  pub new : AllByRecursion (IsNew before) given

-- with some more words, if a place is still due, they are that
pub record Extension (kind : CommandKind) (due : List Place) (names before words : List (List ℕ)) (later : List Place) : Type 0 where
  pub more : List (List ℕ)
  pub finished : later ≡ [] → more ≡ []
  pub rest : IsRest kind due names before (words ++ more)

-- words that fit a place
pub sample_part : Place → List (List ℕ)
sample_part (Word slot) = sample slot ∷ []
sample_part (Names list) = (lacking list [] (open-none (Names list ∷ []))).part

pub samples-fit : (due : List Place) → FitAll due (map sample_part due)
unfolding sample_part
samples-fit [] = tt
samples-fit (Word slot ∷ due) = (sample-fits slot, samples-fit due)
samples-fit (Names list ∷ due) = ((lacking list [] (open-none (Names list ∷ []))).are, samples-fit due)

-- what is new after one more word was new before it
IsNew-before : (before : List (List ℕ)) (word : List ℕ) (given : List Given) → AllByRecursion (IsNew (before ++ word ∷ [])) given → AllByRecursion (IsNew before) given
IsNew-before before word given new =
    AllByRecursion-weaker (IsNew (before ++ word ∷ [])) (IsNew before) given new (λ g fresh. (is_among-fewer (option_of g.choice) word before fresh).0)

-- what is new after an option's word isn't that option
IsNew-other : (before : List (List ℕ)) (choice : Choice) (given : List Given) → AllByRecursion (IsNew (before ++ option_of choice ∷ [])) given
    → AllByRecursion (λ other. other.choice ≢ choice) given
IsNew-other before choice given new = AllByRecursion-weaker (IsNew (before ++ option_of choice ∷ [])) (λ other. other.choice ≢ choice) given new differ where
  differ : (g : Given) → IsNew (before ++ option_of choice ∷ []) g → g.choice ≢ choice
  differ g fresh same =
      false≢true (sym ((is_among-fewer (option_of g.choice) (option_of choice) before fresh).1) ∙ ap (λ o. bytes_eq (option_of choice) (option_of o)) same
      ∙ bytes_eq-same (option_of choice))

-- the words end where places are due
ends : (kind : CommandKind) (due : List Place) (names before : List (List ℕ)) → IsOpen due names → Extension kind due names before [] (closed due names)
ends kind [] names before is_open = record {
  more = [];
  finished = λ e. refl;
  rest = record { front = []; given = []; whole = refl; places = tt; options = tt; once = tt; new = tt };
}
ends kind (Word slot ∷ places) names before is_open = record {
  more = joined (map sample_part (Word slot ∷ places));
  finished = λ e. (let no : ⊥ = cc in absurd no);
  rest = record {
    front = map sample_part (Word slot ∷ places);
    given = [];
    whole = sym (append-nil (joined (map sample_part (Word slot ∷ places))));
    places = (let fit = samples-fit (Word slot ∷ places) in (fit.0, fit.1));
    options = tt;
    once = tt;
    new = tt;
  };
}
ends kind (Names list ∷ places) names before is_open =
    let lack = lacking list names is_open in
    record {
      more = lack.part ++ joined (map sample_part places);
      finished = closes lack.part (has_enough list names) lack.none;
      rest = record {
        front = lack.part ∷ map sample_part places;
        given = [];
        whole = sym (append-nil (lack.part ++ joined (map sample_part places)));
        places = (lack.are, samples-fit places);
        options = tt;
        once = tt;
        new = tt;
      };
    }
  where
    closes : (part : List (List ℕ)) (b : Bool) → (b ≡ true → part ≡ []) → cond b places (Names list ∷ places) ≡ [] → part ++ joined (map sample_part places) ≡ []
    closes part true none e = ap (λ ps. part ++ joined (map sample_part ps)) e ∙ append-nil part ∙ none refl
    closes part false none e = (let no : ⊥ = cc in absurd no)

-- a word at a place, and then the rest
rest-word : (kind : CommandKind) (slot : Slot) (places : List Place) (names before : List (List ℕ)) (word : List ℕ) (words : List (List ℕ)) → fits slot word ≡ true
    → IsRest kind places [] (before ++ word ∷ []) words → IsRest kind (Word slot ∷ places) names before (word ∷ words)
rest-word kind slot places names before word words fit rest = record {
  front = (word ∷ []) ∷ rest.front;
  given = rest.given;
  whole = ap (λ ws. word ∷ ws) rest.whole;
  places = (fit, all-from_rest places rest.front rest.places);
  options = rest.options;
  once = rest.once;
  new = IsNew-before before word rest.given rest.new;
}

-- a name more, and then the rest
rest-name : (kind : CommandKind) (list : NameList) (places : List Place) (names before : List (List ℕ)) (word : List ℕ) (words : List (List ℕ))
    → IsRest kind (Names list ∷ places) (names ++ word ∷ []) (before ++ word ∷ []) words → IsRest kind (Names list ∷ places) names before (word ∷ words)
rest-name kind list places names before word words rest = go rest.front rest.whole rest.places where
  go : (front : List (List (List ℕ))) → words ≡ joined front ++ flat_map given_words rest.given → FitRest (Names list ∷ places) (names ++ word ∷ []) front
      → IsRest kind (Names list ∷ places) names before (word ∷ words)
  go [] whole fit = elim fit [ ]
  go (part ∷ parts) whole fit = record {
    front = (word ∷ part) ∷ parts;
    given = rest.given;
    whole = ap (λ ws. word ∷ ws) whole;
    places = (subst (AreNames list) (append_assoc names (word ∷ []) part) fit.0, fit.1);
    options = rest.options;
    once = rest.once;
    new = IsNew-before before word rest.given rest.new;
  }

-- an option, and then the rest
rest-option : (kind : CommandKind) (choice : Choice) (names before words : List (List ℕ)) → Contains (choices_of kind) choice
    → is_among (option_of choice) before ≡ false
    → IsRest kind (values_of choice) [] (before ++ option_of choice ∷ []) words → IsRest kind [] names before (option_of choice ∷ words)
rest-option kind choice names before words known fresh rest = record {
  front = [];
  given = record { choice = choice; values = rest.front } ∷ rest.given;
  whole = ap (λ ws. option_of choice ∷ ws) rest.whole ∙ sym (append_assoc (option_of choice ∷ []) (joined rest.front) (flat_map given_words rest.given));
  places = tt;
  options = (record { known = known; fit = all-from_rest (values_of choice) rest.front rest.places }, rest.options);
  once = (IsNew-other before choice rest.given rest.new, rest.once);
  new = (fresh, IsNew-before before (option_of choice) rest.given rest.new);
}

-- names that are enough, and then the rest
rest-ended : (kind : CommandKind) (list : NameList) (places : List Place) (names before words : List (List ℕ)) → Stops places → AreNames list names
    → IsRest kind places names before words → IsRest kind (Names list ∷ places) names before words
rest-ended kind list places names before words stops are rest = record {
  front = [] ∷ rest.front;
  given = rest.given;
  whole = rest.whole;
  places = (subst (AreNames list) (sym (append-nil names)) are, rest-stops places names rest.front stops rest.places);
  options = rest.options;
  once = rest.once;
  new = rest.new;
}

-- Words that the walk accepts are, with fitting words for the places that are still due, words for the places that were
-- due and then options.
abbrev Accepts : CommandKind → List (List ℕ) → Type 0
Accepts kind words =
    (due : List Place) (names before : List (List ℕ)) (later : List Place) → RunsEnd due → IsOpen due names → walk kind words due names before ≡ Ok later
    → Extension kind due names before words later

accepts-option : (kind : CommandKind) (words : List (List ℕ)) → Accepts kind words → (names before : List (List ℕ)) (word : List ℕ) (later : List Place)
    → further kind words names before word [] ≡ Ok later → Extension kind [] names before (word ∷ words) later
accepts-option kind words rest_of names before word later e =
    let go = stands (due_after kind [] names before word) (length before + 1) (λ due. walk kind words due [] (before ++ word ∷ [])) later e in
    let option = stands-option (choice_of kind word) (is_among word before) go.0 go.1 in
    let here = choice_of-found kind word option.0 option.1 in
    let walked : walk kind words (values_of option.0) [] (before ++ word ∷ []) ≡ Ok later = ap (λ due. walk kind words due [] (before ++ word ∷ [])) option.3 ∙ go.2 in
    let ext = rest_of (values_of option.0) [] (before ++ word ∷ []) later (values-run option.0) (open-none (values_of option.0)) walked in
    let fresh : is_among (option_of option.0) before ≡ false = ap (λ w. is_among w before) (sym here) ∙ option.2 in
    record {
      more = ext.more;
      finished = ext.finished;
      rest = subst (λ w. IsRest kind [] names before (w ∷ (words ++ ext.more))) (sym here)
          (rest-option kind option.0 names before (words ++ ext.more) (choice_of-known kind word option.0 option.1) fresh
          (subst (λ w. IsRest kind (values_of option.0) [] (before ++ w ∷ []) (words ++ ext.more)) here ext.rest));
    }

accepts-word : (kind : CommandKind) (words : List (List ℕ)) → Accepts kind words
    → (slot : Slot) (places : List Place) (names before : List (List ℕ)) (word : List ℕ) (later : List Place) → RunsEnd places
    → further kind words names before word (Word slot ∷ places) ≡ Ok later → Extension kind (Word slot ∷ places) names before (word ∷ words) later
accepts-word kind words rest_of slot places names before word later end e =
    let go = stands (due_after kind (Word slot ∷ places) names before word) (length before + 1) (λ due. walk kind words due [] (before ++ word ∷ [])) later e in
    let fit = stands-passed (fits slot word) places go.0 go.1 in
    let walked : walk kind words places [] (before ++ word ∷ []) ≡ Ok later = ap (λ due. walk kind words due [] (before ++ word ∷ [])) fit.1 ∙ go.2 in
    let ext = rest_of places [] (before ++ word ∷ []) later end (open-none places) walked in
    record {
      more = ext.more;
      finished = ext.finished;
      rest = rest-word kind slot places names before word (words ++ ext.more) fit.0 ext.rest;
    }

accepts-name : (kind : CommandKind) (words : List (List ℕ)) → Accepts kind words
    → (list : NameList) (places : List Place) (names before : List (List ℕ)) (word : List ℕ) (later : List Place)
    → RunsEnd (Names list ∷ places) → MayBe list names → further kind words names before word (Names list ∷ places) ≡ Ok later
    → Extension kind (Names list ∷ places) names before (word ∷ words) later
accepts-name kind words rest_of list places names before word later end is_open e =
    let next : List Place → Result (List Place) ℕ = λ due. walk kind words due (names ++ word ∷ []) (before ++ word ∷ []) in
    let go = stands (due_after kind (Names list ∷ places) names before word) (length before + 1) next later e in
    let follows = stands-passed (may_follow list names word) (Names list ∷ places) go.0 go.1 in
    let walked : walk kind words (Names list ∷ places) (names ++ word ∷ []) (before ++ word ∷ []) ≡ Ok later = ap next follows.1 ∙ go.2 in
    let ext = rest_of (Names list ∷ places) (names ++ word ∷ []) (before ++ word ∷ []) later end (open-more list names word is_open follows.0) walked in
    record {
      more = ext.more;
      finished = ext.finished;
      rest = rest-name kind list places names before word (words ++ ext.more) ext.rest;
    }

accepts-ended : (kind : CommandKind) (words : List (List ℕ)) → Accepts kind words
    → (list : NameList) (places : List Place) (names before : List (List ℕ)) (word : List ℕ) (later : List Place)
    → RunsEnd (Names list ∷ places) → AreNames list names → further kind words names before word places ≡ Ok later
    → Extension kind (Names list ∷ places) names before (word ∷ words) later
accepts-ended kind words rest_of list places names before word later end are e = ended (go places end.0 end.1 e) where
  go : (places : List Place) → Stops places → RunsEnd places → further kind words names before word places ≡ Ok later
      → Extension kind places names before (word ∷ words) later
  go [] stops end e = accepts-option kind words rest_of names before word later e
  go (Word slot ∷ places) stops end e = accepts-word kind words rest_of slot places names before word later end e
  go (Names other ∷ places) stops end e = elim stops [ ]

  ended : Extension kind places names before (word ∷ words) later → Extension kind (Names list ∷ places) names before (word ∷ words) later
  ended ext = record {
    more = ext.more;
    finished = ext.finished;
    rest = rest-ended kind list places names before (word ∷ (words ++ ext.more)) end.0 are ext.rest;
  }

accepts-names : (kind : CommandKind) (words : List (List ℕ)) → Accepts kind words
    → (list : NameList) (places : List Place) (names before : List (List ℕ)) (word : List ℕ) (later : List Place)
    → RunsEnd (Names list ∷ places) → MayBe list names → (is_name enough : Bool) → has_enough list names ≡ enough
    → further kind words names before word (cond is_name (Names list ∷ places) (cond enough places (Names list ∷ places))) ≡ Ok later
    → Extension kind (Names list ∷ places) names before (word ∷ words) later
accepts-names kind words rest_of list places names before word later end is_open true enough is e =
    accepts-name kind words rest_of list places names before word later end is_open e
accepts-names kind words rest_of list places names before word later end is_open false false is e =
    accepts-name kind words rest_of list places names before word later end is_open e
accepts-names kind words rest_of list places names before word later end is_open false true is e =
    accepts-ended kind words rest_of list places names before word later end
    (let none = lacks_none list names is_open is in subst (AreNames list) (ap (λ ns. names ++ ns) (none.none is) ∙ append-nil names) none.are) e

pub walk-accepts : (kind : CommandKind) (words : List (List ℕ)) → Accepts kind words
walk-accepts kind [] due names before later end is_open e =
    let same : closed due names ≡ later = cc in
    subst (Extension kind due names before []) same (ends kind due names before is_open)
walk-accepts kind (word ∷ words) [] names before later end is_open e = accepts-option kind words (walk-accepts kind words) names before word later e
walk-accepts kind (word ∷ words) (Word slot ∷ places) names before later end is_open e =
    accepts-word kind words (walk-accepts kind words) slot places names before word later end e
walk-accepts kind (word ∷ words) (Names list ∷ places) names before later end is_open e =
    accepts-names kind words (walk-accepts kind words) list places names before word later end is_open (is_file_name word) (has_enough list names) refl e

-- the walk goes over words that fit the places that are due
pub walk-places : (kind : CommandKind) (due : List Place) (names : List (List ℕ)) (parts : List (List (List ℕ))) (words before : List (List ℕ)) → RunsEnd due
    → FitRest due names parts → NoName words
    → walk kind (joined parts ++ words) due names before ≡ walk kind words [] [] (before ++ joined parts)
walk-places kind [] names [] words before end fit no_name = walk-same kind [] words names before tt ∙ ap (walk kind words [] []) (sym (append-nil before))
walk-places kind [] names (part ∷ parts) words before end fit no_name = elim fit [ ]
walk-places kind (place ∷ due) names [] words before end fit no_name = elim fit [ ]
walk-places kind (Word slot ∷ due) names ([] ∷ parts) words before end fit no_name = elim fit.0 [ ]
walk-places kind (Word slot ∷ due) names ((word ∷ []) ∷ parts) words before end fit no_name =
    ap (λ b. go_on (cond b (Some due) None) (length before + 1) (λ later. walk kind (joined parts ++ words) later [] (before ++ word ∷ []))) fit.0
    ∙ walk-places kind due [] parts words (before ++ word ∷ []) end (rest-from_all due parts fit.1) no_name
    ∙ ap (walk kind words [] []) (append_assoc before (word ∷ []) (joined parts))
walk-places kind (Word slot ∷ due) names ((word ∷ other ∷ more) ∷ parts) words before end fit no_name = elim fit.0 [ ]
walk-places kind (Names list ∷ due) names (part ∷ parts) words before end fit no_name =
    ap (λ ws. walk kind ws (Names list ∷ due) names before) (append_assoc part (joined parts) words)
    ∙ walk-run kind list due (joined parts ++ words) part names before fit.0
    ∙ run-ends kind list due (joined parts ++ words) (names ++ part) (before ++ part) (names-enough list (names ++ part) fit.0) end.0
    (stops-no_name due parts words end.0 fit.1 no_name)
    ∙ walk-places kind due [] parts words (before ++ part) end.1 (rest-from_all due parts fit.1) no_name
    ∙ ap (walk kind words [] []) (append_assoc before part (joined parts))

-- after an option and its values the others are still new
still-new : (before : List (List ℕ)) (choice : Choice) (values : List (List (List ℕ))) (places : List Place) (given : List Given) → FitAll places values
    → AllByRecursion (λ other. other.choice ≢ choice) given → AllByRecursion (IsNew before) given
    → AllByRecursion (IsNew ((before ++ option_of choice ∷ []) ++ joined values)) given
still-new before choice values places [] fit differ new = tt
still-new before choice values places (g ∷ given) fit differ new = (
  is_among-neither (option_of g.choice) (before ++ option_of choice ∷ []) (joined values)
      (is_among-neither (option_of g.choice) before (option_of choice ∷ []) new.0
      (is_among-one (option_of g.choice) (option_of choice)
      ∙ or_from (bytes_eq (option_of choice) (option_of g.choice)) false (same_option-differs choice g.choice (λ e. differ.0 (sym e))) refl))
      (is_among-fit places values g.choice fit),
  still-new before choice values places given fit differ.1 new.1,
)

-- the walk goes over options that are new
pub walk-options : (kind : CommandKind) (given : List Given) (before : List (List ℕ)) → AllByRecursion (IsOptionOf kind) given → NoneTwice given
    → AllByRecursion (IsNew before) given
    → walk kind (flat_map given_words given) [] [] before ≡ Ok []
walk-options kind [] before options once new = refl
walk-options kind (g ∷ given) before options once new =
    let words = joined g.values ++ flat_map given_words given in
    let next : List Place → Result (List Place) ℕ = λ later. walk kind words later [] (before ++ option_of g.choice ∷ []) in
    ap (λ o. go_on (due_after_option o (is_among (option_of g.choice) before)) (length before + 1) next) (choice_of-option kind g.choice options.0.known)
    ∙ ap (λ b. go_on (due_after_option (Some g.choice) b) (length before + 1) next) new.0
    ∙ walk-places kind (values_of g.choice) [] g.values (flat_map given_words given) (before ++ option_of g.choice ∷ []) (values-run g.choice)
    (rest-from_all (values_of g.choice) g.values options.0.fit) (given-no_name given)
    ∙ walk-options kind given ((before ++ option_of g.choice ∷ []) ++ joined g.values) options.1 once.1
    (still-new before g.choice g.values (values_of g.choice) given options.0.fit once.0 new.1)

-- the walk accepts the front of words that it accepts
pub walk-front : (kind : CommandKind) (front back : List (List ℕ)) (due : List Place) (names before : List (List ℕ)) (later : List Place)
    → walk kind (front ++ back) due names before ≡ Ok later
    → (mid : List Place) × (walk kind front due names before ≡ Ok mid)
walk-front kind [] back due names before later e = (closed due names, refl)
walk-front kind (word ∷ front) back due names before later e =
    let here = reached due names word in
    let go = stands (due_after kind here names before word) (length before + 1)
    (λ places. walk kind (front ++ back) places (names_after here names word) (before ++ word ∷ [])) later e in
    let rest = walk-front kind front back go.0 (names_after here names word) (before ++ word ∷ []) later go.2 in
    (rest.0, ap (λ o. go_on o (length before + 1) (λ places. walk kind front places (names_after here names word) (before ++ word ∷ []))) go.1 ∙ rest.1)

-- if the walk stops: the words before that one it accepts, and with that one it doesn't
pub record StopsAt (kind : CommandKind) (words : List (List ℕ)) (due : List Place) (names before : List (List ℕ)) (number : ℕ) : Type 0 where
  pub taken : ℕ
  pub here : number ≡ length before + taken + 1
  pub within : taken < length words
  pub later : List Place
  pub accepted : walk kind (take taken words) due names before ≡ Ok later
  pub refused : walk kind (take (suc taken) words) due names before ≡ Err number

pub walk-stops : (kind : CommandKind) (words : List (List ℕ)) (due : List Place) (names before : List (List ℕ)) (number : ℕ)
    → walk kind words due names before ≡ Err number → StopsAt kind words due names before number
walk-stops kind [] due names before number e = (let no : ⊥ = cc in absurd no)
walk-stops kind (word ∷ words) due names before number e =
    go (due_after kind (reached due names word) names before word) refl
    (λ places. walk-stops kind words places (names_after (reached due names word) names word) (before ++ word ∷ []) number) e
  where
    go : (o : Option (List Place)) → due_after kind (reached due names word) names before word ≡ o
        → ((places : List Place) → walk kind words places (names_after (reached due names word) names word) (before ++ word ∷ []) ≡ Err number
        → StopsAt kind words places (names_after (reached due names word) names word) (before ++ word ∷ []) number)
        → go_on o (length before + 1) (λ places. walk kind words places (names_after (reached due names word) names word) (before ++ word ∷ [])) ≡ Err number
        → StopsAt kind (word ∷ words) due names before number
    go None is rest e =
        let at : length before + 1 ≡ number = cc in
        record {
          taken = 0;
          here = omega arith;
          within = omega arith;
          later = closed due names;
          accepted = refl;
          refused = ap (λ o. go_on o (length before + 1) (λ places. walk kind [] places (names_after (reached due names word) names word) (before ++ word ∷ []))) is
              ∙ ap Err at;
        }
    go (Some places) is rest e =
        let stop = rest places e in
        let longer = length_push before word in
        record {
          taken = suc stop.taken;
          here = stop.here ∙ (let more : length (before ++ word ∷ []) + stop.taken + 1 ≡ length before + suc stop.taken + 1 = omega arith in more);
          within = (let less = stop.within in omega arith);
          later = stop.later;
          accepted = ap (λ o. go_on o (length before + 1)
              (λ places. walk kind (take stop.taken words) places (names_after (reached due names word) names word) (before ++ word ∷ []))) is ∙ stop.accepted;
          refused = ap (λ o. go_on o (length before + 1)
              (λ places. walk kind (take (suc stop.taken) words) places (names_after (reached due names word) names word) (before ++ word ∷ []))) is ∙ stop.refused;
        }
