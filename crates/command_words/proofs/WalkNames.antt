-- Names that stand at a place, and how they end.
use Rattle.std.proofs.Common.{◌≡◌, ◌≢◌, ℕ, ◌+◌, ◌<◌, ◌≤◌, Bool, true, false, not, ◌&&◌, cond, nat_lt, codes, List, [], ◌∷◌, ◌++◌, length, Some, None, Result, Ok, bytes_eq, refl, sym, ap, ◌∙◌, subst, arith}
use Rattle.std.specs.List.{flat_map, AllByRecursion}
use Rattle.std.proofs.lemmas.Bool.{false≢true, false_from_ne_true, and_from, and_parts, or_parts, not-true, leb-true, leb-false, le-leb, lt-ltb, ltb-true}
use Rattle.std.proofs.lemmas.List.{append-nil, append_assoc, length-append, length_push}
use Rattle.std.proofs.lemmas.Slice.Eq.{bytes_eq-Decides}
use Rattle.command_words.specs.declared.table.NameList.{NameList}
use Rattle.command_words.specs.declared.table.NameList.TheVariants.{Worlds, Brains}
use Rattle.command_words.specs.declared.slot.Slot.{Slot}
use Rattle.command_words.specs.declared.slot.Slot.TheVariants.{FileName, Keyword}
use Rattle.command_words.specs.declared.slot.Place.{Place}
use Rattle.command_words.specs.declared.slot.Place.TheVariants.{Word, Names}
use Rattle.command_words.specs.declared.table.CommandKind.{CommandKind}
use Rattle.command_words.specs.declared.table.Choice.{Choice}
use Rattle.command_words.specs.Slots.{fits, is_file_name, AllDiffer, AreNames, FitsPlace}
use Rattle.command_words.specs.Table.{places_of, values_of, keyword_of, fewest_names, most_names, must_differ}
use Rattle.command_words.specs.Command.{Given, given_words, is_among, joined, FitAll}
use Rattle.command_words.specs.Inner.Walk.{has_enough, is_repeated, may_follow, closed, due_after, names_after, go_on, walk}
use Rattle.command_words.proofs.WalkSearch.{is_among-none, is_among-cons, is_among-next, NoName}
use Rattle.list_lemmas.proofs.AllElements.{AllByRecursion-push}
use Rattle.command_words.proofs.TableLemmas.{is_keyword, keyword-no_name, option-unfit, places-end, runs_end, stops, values-end}

-- some words may be the first names of a list
pub record MayBe (list : NameList) (names : List (List ℕ)) : Type 0 where
  pub few : length names ≤ most_names
  pub each : AllByRecursion (λ name. is_file_name name ≡ true) names
  pub different : must_differ list ≡ true → AllDiffer names

-- what is at the place that is due may be the first words of it
abbrev pub IsOpen : List Place → List (List ℕ) → Type 0
IsOpen [] names = Unit {0}
IsOpen (Word slot ∷ places) names = Unit {0}
IsOpen (Names list ∷ places) names = MayBe list names

pub open-none : (due : List Place) → IsOpen due []
open-none [] = tt
open-none (Word slot ∷ places) = tt
open-none (Names list ∷ places) = record { few = omega arith; each = tt; different = λ differ. tt }

-- words with which those at a place are what it asks for
abbrev pub GoesOn : Place → List (List ℕ) → List (List ℕ) → Type 0
GoesOn (Word slot) names part = FitsPlace (Word slot) part
GoesOn (Names list) names part = AreNames list (names ++ part)

-- words for the places that are due, if names are at the first one
abbrev pub FitRest : List Place → List (List ℕ) → List (List (List ℕ)) → Type 0
FitRest [] names [] = Unit {0}
FitRest [] names (part ∷ parts) = ⊥
FitRest (place ∷ places) names [] = ⊥
FitRest (place ∷ places) names (part ∷ parts) = GoesOn place names part × FitAll places parts

pub rest-from_all : (places : List Place) (parts : List (List (List ℕ))) → FitAll places parts → FitRest places [] parts
rest-from_all [] [] fit = tt
rest-from_all [] (part ∷ parts) fit = elim fit [ ]
rest-from_all (place ∷ places) [] fit = elim fit [ ]
rest-from_all (Word slot ∷ places) (part ∷ parts) fit = (fit.0, fit.1)
rest-from_all (Names list ∷ places) (part ∷ parts) fit = (fit.0, fit.1)

pub all-from_rest : (places : List Place) (parts : List (List (List ℕ))) → FitRest places [] parts → FitAll places parts
all-from_rest [] [] fit = tt
all-from_rest [] (part ∷ parts) fit = elim fit [ ]
all-from_rest (place ∷ places) [] fit = elim fit [ ]
all-from_rest (Word slot ∷ places) (part ∷ parts) fit = (fit.0, fit.1)
all-from_rest (Names list ∷ places) (part ∷ parts) fit = (fit.0, fit.1)

-- the places end, or continue with a list's word
abbrev pub Stops : List Place → Type 0
Stops [] = Unit {0}
Stops (Word slot ∷ places) = is_keyword slot ≡ true
Stops (Names list ∷ places) = ⊥

Stops-from : (places : List Place) → stops places ≡ true → Stops places
Stops-from [] e = tt
Stops-from (Word slot ∷ places) e = e
Stops-from (Names list ∷ places) e = false≢true e

-- names are followed by a list's word, or by no place
abbrev pub RunsEnd : List Place → Type 0
RunsEnd [] = Unit {0}
RunsEnd (Word slot ∷ places) = RunsEnd places
RunsEnd (Names list ∷ places) = Stops places × RunsEnd places

RunsEnd-from : (places : List Place) → runs_end places ≡ true → RunsEnd places
RunsEnd-from [] e = tt
RunsEnd-from (Word slot ∷ places) e = RunsEnd-from places e
RunsEnd-from (Names list ∷ places) e =
    let parts = and_parts (stops places) (runs_end places) e in
    (Stops-from places parts.0, RunsEnd-from places parts.1)

pub places-run : (kind : CommandKind) → RunsEnd (places_of kind)
places-run kind = RunsEnd-from (places_of kind) (places-end kind)

pub values-run : (choice : Choice) → RunsEnd (values_of choice)
values-run choice = RunsEnd-from (values_of choice) (values-end choice)

pub rest-stops : (places : List Place) (names : List (List ℕ)) (parts : List (List (List ℕ))) → Stops places → FitRest places names parts → FitAll places parts
rest-stops [] names [] stops fit = tt
rest-stops [] names (part ∷ parts) stops fit = elim fit [ ]
rest-stops (place ∷ places) names [] stops fit = elim fit [ ]
rest-stops (Word slot ∷ places) names (part ∷ parts) stops fit = (fit.0, fit.1)
rest-stops (Names list ∷ places) names (part ∷ parts) stops fit = elim stops [ ]

closed-stops : (due : List Place) (names : List (List ℕ)) → Stops due → closed due names ≡ due
closed-stops [] names stops = refl
closed-stops (Word slot ∷ places) names stops = refl
closed-stops (Names list ∷ places) names stops = elim stops [ ]

-- one more word, if this place is reached
abbrev pub further : CommandKind → List (List ℕ) → List (List ℕ) → List (List ℕ) → List ℕ → List Place → Result (List Place) ℕ
further kind words names before word here =
    go_on (due_after kind here names before word) (length before + 1) (λ later. walk kind words later (names_after here names word) (before ++ word ∷ []))

-- if no names are allowed, it doesn't matter which ones are given
pub walk-same : (kind : CommandKind) (due : List Place) (words names before : List (List ℕ)) → Stops due
    → walk kind words due names before ≡ walk kind words due [] before
walk-same kind [] [] names before stops = refl
walk-same kind (Word slot ∷ due) [] names before stops = refl
walk-same kind (Names list ∷ due) words names before stops = elim stops [ ]
walk-same kind due words names before stops = refl

further-stops : (kind : CommandKind) (due : List Place) (words names before : List (List ℕ)) (word : List ℕ) → Stops due
    → further kind words names before word due ≡ walk kind (word ∷ words) due [] before
further-stops kind [] words names before word stops = refl
further-stops kind (Word slot ∷ due) words names before word stops = refl
further-stops kind (Names list ∷ due) words names before word stops = elim stops [ ]

-- names that are enough end if no name follows
pub run-ends : (kind : CommandKind) (list : NameList) (due : List Place) (words names before : List (List ℕ)) → has_enough list names ≡ true → Stops due → NoName words
    → walk kind words (Names list ∷ due) names before ≡ walk kind words due [] before
run-ends kind list due [] names before enough stops no_name =
    ap (λ b. Ok (cond b due (Names list ∷ due))) enough ∙ ap (λ places. Ok places) (sym (closed-stops due [] stops))
run-ends kind list due (word ∷ words) names before enough stops no_name =
    ap (λ b. further kind words names before word (cond b (Names list ∷ due) (closed (Names list ∷ due) names))) no_name
    ∙ ap (λ b. further kind words names before word (cond b due (Names list ∷ due))) enough
    ∙ further-stops kind due words names before word stops

-- a name that may follow
pub run-more : (kind : CommandKind) (list : NameList) (due : List Place) (words names before : List (List ℕ)) (word : List ℕ) → is_file_name word ≡ true
    → may_follow list names word ≡ true
    → walk kind (word ∷ words) (Names list ∷ due) names before ≡ walk kind words (Names list ∷ due) (names ++ word ∷ []) (before ++ word ∷ [])
run-more kind list due words names before word is_name may =
    ap (λ b. further kind words names before word (cond b (Names list ∷ due) (closed (Names list ∷ due) names))) is_name
    ∙ ap (λ b. go_on (cond b (Some (Names list ∷ due)) None) (length before + 1) (λ later. walk kind words later (names ++ word ∷ []) (before ++ word ∷ []))) may

-- what holds of each holds of the one between
pub all-between : {X : Type 0} (P : X → Type 0) (xs : List X) (x : X) (ys : List X) → AllByRecursion P (xs ++ x ∷ ys) → P x
all-between P [] x ys all = all.0
all-between P (first ∷ xs) x ys all = all-between P xs x ys all.1

-- of different names none is among those before it
differ-between : (names : List (List ℕ)) (name : List ℕ) (more : List (List ℕ)) → AllDiffer (names ++ name ∷ more) → is_among name names ≡ false
differ-between [] name more differ = is_among-none name
differ-between (first ∷ names) name more differ =
    is_among-next name first names
    (false_from_ne_true (bytes_eq first name) (λ e. all-between (λ other. other ≢ first) names name more differ.0 (sym ((bytes_eq-Decides first name).0 e))))
    ∙ differ-between names name more differ.1

-- each of a list's names may follow those before it
pub names-follow : (list : NameList) (names : List (List ℕ)) (name : List ℕ) (more : List (List ℕ)) → AreNames list (names ++ name ∷ more)
    → (is_file_name name ≡ true) × (may_follow list names name ≡ true)
names-follow list names name more are = (
  is_name,
  and_from (is_file_name name && nat_lt (length names) most_names) (not (is_repeated list names name))
      (and_from (is_file_name name) (nat_lt (length names) most_names) is_name room) (ap (λ b. not b) (fresh (must_differ list) refl)),
)
  where
    is_name : is_file_name name ≡ true
    is_name = all-between (λ other. is_file_name other ≡ true) names name more are.each

    room : nat_lt (length names) most_names ≡ true
    room = lt-ltb (length names) most_names (let few = are.few in let long = length-append names (name ∷ more) in omega arith)

    fresh : (b : Bool) → must_differ list ≡ b → (b && is_among name names) ≡ false
    fresh true differ = differ-between names name more (are.different differ)
    fresh false differ = refl

-- the walk goes over names
pub walk-run : (kind : CommandKind) (list : NameList) (due : List Place) (words part names before : List (List ℕ)) → AreNames list (names ++ part)
    → walk kind (part ++ words) (Names list ∷ due) names before ≡ walk kind words (Names list ∷ due) (names ++ part) (before ++ part)
walk-run kind list due words [] names before are =
    ap (λ ns. walk kind words (Names list ∷ due) ns before) (sym (append-nil names))
    ∙ ap (walk kind words (Names list ∷ due) (names ++ [])) (sym (append-nil before))
walk-run kind list due words (name ∷ part) names before are =
    let follow = names-follow list names name part are in
    run-more kind list due (part ++ words) names before name follow.0 follow.1
    ∙ walk-run kind list due words part (names ++ name ∷ []) (before ++ name ∷ []) (subst (AreNames list) (sym (append_assoc names (name ∷ []) part)) are)
    ∙ ap (λ ns. walk kind words (Names list ∷ due) ns ((before ++ name ∷ []) ++ part)) (append_assoc names (name ∷ []) part)
    ∙ ap (walk kind words (Names list ∷ due) (names ++ name ∷ part)) (append_assoc before (name ∷ []) part)

pub names-enough : (list : NameList) (names : List (List ℕ)) → AreNames list names → has_enough list names ≡ true
names-enough list names are = le-leb (fewest_names list) (length names) are.enough

-- what is a list's word is not a name
pub keyword-ends : (slot : Slot) (word : List ℕ) → is_keyword slot ≡ true → fits slot word ≡ true → is_file_name word ≡ false
keyword-ends FileName word is same = absurd (false≢true is)
keyword-ends (Keyword list) word is same = ap is_file_name ((bytes_eq-Decides word (keyword_of list)).0 same) ∙ keyword-no_name list
keyword-ends slot word is same = absurd (false≢true is)

-- the words of places that stop names begin with no name
pub stops-no_name : (due : List Place) (parts : List (List (List ℕ))) (words : List (List ℕ)) → Stops due → FitAll due parts → NoName words
    → NoName (joined parts ++ words)
stops-no_name [] [] words stops fit no_name = no_name
stops-no_name [] (part ∷ parts) words stops fit no_name = elim fit [ ]
stops-no_name (place ∷ due) [] words stops fit no_name = elim fit [ ]
stops-no_name (Word slot ∷ due) ([] ∷ parts) words stops fit no_name = elim fit.0 [ ]
stops-no_name (Word slot ∷ due) ((word ∷ []) ∷ parts) words stops fit no_name = keyword-ends slot word stops fit.0
stops-no_name (Word slot ∷ due) ((word ∷ other ∷ more) ∷ parts) words stops fit no_name = elim fit.0 [ ]
stops-no_name (Names list ∷ due) (part ∷ parts) words stops fit no_name = elim stops [ ]

-- options begin with no name
pub given-no_name : (given : List Given) → NoName (flat_map given_words given)
given-no_name [] = tt
given-no_name (g ∷ given) = option-unfit FileName g.choice

-- a name that differs from this one
other_name : List ℕ → List ℕ
other_name name = cond (bytes_eq name (codes "w")) (codes "v") (codes "w")

other_name-differs : (name : List ℕ) → other_name name ≢ name
unfolding other_name
other_name-differs name = go (bytes_eq name (codes "w")) refl where
  go : (b : Bool) → bytes_eq name (codes "w") ≡ b → cond b (codes "v") (codes "w") ≢ name
  go true same e =
      let is_w = (bytes_eq-Decides name (codes "w")).0 same in
      let apart : bytes_eq (codes "v") (codes "w") ≡ false = refl in
      false≢true (sym apart ∙ (bytes_eq-Decides (codes "v") (codes "w")).1 (e ∙ is_w))
  go false differs e = false≢true (sym differs ∙ (bytes_eq-Decides name (codes "w")).1 (sym e))

other_name-is_name : (name : List ℕ) → is_file_name (other_name name) ≡ true
unfolding other_name is_file_name
other_name-is_name name = go (bytes_eq name (codes "w")) where
  go : (b : Bool) → is_file_name (cond b (codes "v") (codes "w")) ≡ true
  go true = refl
  go false = refl

-- names that a list lacks
pub record Lacking (list : NameList) (names : List (List ℕ)) : Type 0 where
  pub part : List (List ℕ)
  pub are : AreNames list (names ++ part)
  pub none : has_enough list names ≡ true → part ≡ []

w_is_name : is_file_name (codes "w") ≡ true
unfolding is_file_name
w_is_name = refl

-- names that are enough lack none
pub lacks_none : (list : NameList) (names : List (List ℕ)) → MayBe list names → has_enough list names ≡ true → Lacking list names
lacks_none list names may enough = record {
  part = [];
  are = subst (AreNames list) (sym (append-nil names))
      (record { enough = (let e = leb-true (fewest_names list) (length names) enough in e); few = may.few; each = may.each; different = may.different });
  none = λ e. refl;
}

-- names that aren't enough lack one or two
lacks_some : (list : NameList) (names : List (List ℕ)) → MayBe list names → has_enough list names ≡ false → Lacking list names
lacks_some Worlds [] may short = record {
  part = codes "w" ∷ [];
  are = record { enough = omega arith; few = omega arith; each = (w_is_name, tt); different = λ differ. (tt, tt) };
  none = λ e. absurd (false≢true (sym short ∙ e));
}
lacks_some Worlds (name ∷ names) may short = (let few : length (name ∷ names) < 1 = leb-false 1 (length (name ∷ names)) short in absurd (omega arith))
lacks_some Brains [] may short = record {
  part = codes "w" ∷ other_name (codes "w") ∷ [];
  are = record {
    enough = omega arith;
    few = omega arith;
    each = (w_is_name, (other_name-is_name (codes "w"), tt));
    different = λ differ. ((other_name-differs (codes "w"), tt), (tt, tt));
  };
  none = λ e. absurd (false≢true (sym short ∙ e));
}
lacks_some Brains (name ∷ []) may short = record {
  part = other_name name ∷ [];
  are = record {
    enough = omega arith;
    few = omega arith;
    each = (may.each.0, (other_name-is_name name, tt));
    different = λ differ. ((other_name-differs name, tt), (tt, tt));
  };
  none = λ e. absurd (false≢true (sym short ∙ e));
}
lacks_some Brains (name ∷ other ∷ names) may short =
    (let few : length (name ∷ other ∷ names) < 2 = leb-false 2 (length (name ∷ other ∷ names)) short in absurd (omega arith))

-- the first names of a list are the front of its names
pub lacking : (list : NameList) (names : List (List ℕ)) → MayBe list names → Lacking list names
lacking list names may = go (has_enough list names) refl where
  go : (b : Bool) → has_enough list names ≡ b → Lacking list names
  go true enough = lacks_none list names may enough
  go false short = lacks_some list names may short

-- a name that may follow leaves names that may be the first ones
pub open-more : (list : NameList) (names : List (List ℕ)) (name : List ℕ) → MayBe list names → may_follow list names name ≡ true → MayBe list (names ++ name ∷ [])
open-more list names name may follows =
    let parts = and_parts (is_file_name name && nat_lt (length names) most_names) (not (is_repeated list names name)) follows in
    let both = and_parts (is_file_name name) (nat_lt (length names) most_names) parts.0 in
    let room = ltb-true (length names) most_names both.1 in
    record {
      few = (let long = length_push names name in omega arith);
      each = AllByRecursion-push (λ other. is_file_name other ≡ true) names name may.each both.0;
      different = λ differ. differ-push names name (may.different differ) (fresh differ (not-true (is_repeated list names name) parts.1));
    }
  where
    fresh : must_differ list ≡ true → is_repeated list names name ≡ false → is_among name names ≡ false
    fresh differ new = ap (λ b. b && is_among name names) (sym differ) ∙ new

    differ-push : (names : List (List ℕ)) (name : List ℕ) → AllDiffer names → is_among name names ≡ false → AllDiffer (names ++ name ∷ [])
    differ-push [] name differ new = (tt, tt)
    differ-push (first ∷ names) name differ new =
        let apart = or_parts (bytes_eq first name) (is_among name names) (sym (is_among-cons name first names) ∙ new) in (
          AllByRecursion-push (λ other. other ≢ first) names name differ.0 (λ e. false≢true (sym apart.0 ∙ (bytes_eq-Decides first name).1 (sym e))),
          differ-push names name differ.1 apart.1,
        )
