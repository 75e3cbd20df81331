-- Each law of words, used on closed command lines: a law that says less, or that asks for more, doesn't give these.
use Rattle.std.proofs.Common.{◌≡◌, inl, inr, ℕ, zero, suc, ◌<◌, true, false, List, [], ◌∷◌, Some, codes, refl, sym, ap, ◌∙◌, lit<, arith}
use Rattle.std.specs.List.{Contains}
use Rattle.std.specs.Prelude.{slice_index_or}
use Rattle.ant_base.specs.Number.{decimal_value}
use Rattle.command_words.specs.Command.{AreWithin, Given, IsBeginning, IsCommand, IsCommandOf, IsGiven, IsRefusedAt, PlainAsked, asked_in, is_among, rest_after}
use Rattle.command_words.specs.Far.{RefusesFar, words_without_far}
use Rattle.command_words.specs.Laws.{AnyOrder, FrontBegins, NeverBoth, OneCommand, OneOfBoth, OneRefusedWord, SaysItsWords, WithinLimits}
use Rattle.command_words.specs.Limits.{IsWithin, number_in}
use Rattle.command_words.specs.Slots.{AreNames, dumps_of, is_file_name}
use Rattle.command_words.specs.Slots.DumpChoice.{ChosenDumps}
use Rattle.command_words.specs.Table.{is_needed}
use Rattle.command_words.specs.declared.limits.NumberKind.TheVariants.{SeedNumber, SideLength, WindowSize}
use Rattle.command_words.specs.declared.table.Choice.{Choice}
use Rattle.command_words.specs.declared.table.Choice.TheVariants.{Blobs, Height, Labels, Lines, Rocks, Width, Window}
use Rattle.command_words.specs.declared.table.CommandKind.TheVariants.{Asm, Brain, Cup, Gen, Run, Show}
use Rattle.command_words.specs.declared.table.NameList.TheVariants.{Brains, Worlds}
use Rattle.command_words.specs.Inner.Walk.{command_kind_of}
use Rattle.command_words.proofs.TableLemmas.{command_kind_of-known}
use Rattle.command_words.proofs.WorkedLines.{brain_command, cup_command, greatest_seed, run_all_greatest, run_other_order, states_with_a_value, words_of}

-- a line is one command: no other number is its seed
one_command_used : OneCommand → (asked : PlainAsked) → IsCommand (words_of (codes "show - 4294967295")) asked → asked.number 1 ≡ 4294967295
one_command_used law asked is =
    ap (λ (a : PlainAsked). a.number 1) (law (words_of (codes "show - 4294967295")) asked (asked_in Show (words_of (codes "show - 4294967295"))) is greatest_seed.is) ∙ greatest_seed.holds.1.0

-- no other word of a line is the refused one
one_refused_word_used : OneRefusedWord → (word : ℕ) → IsRefusedAt (words_of (codes "minimise b --states 1")) word → word ≡ 4
one_refused_word_used law word at = law (words_of (codes "minimise b --states 1")) word 4 at states_with_a_value

-- no word of a command is refused
never_both_used : NeverBoth → (word : ℕ) → ¬ IsRefusedAt (words_of (codes "brain -b")) word
never_both_used law word at = law (words_of (codes "brain -b")) (asked_in Brain (words_of (codes "brain -b"))) word brain_command.is at

-- words of which none is refused are a command, and words that are none have a refused word
one_of_both_used : OneOfBoth →
    ((words : List (List ℕ)) → ((word : ℕ) → ¬ IsRefusedAt words word) → (asked : PlainAsked) × IsCommand words asked)
    × ((words : List (List ℕ)) → ((asked : PlainAsked) → ¬ IsCommand words asked) → (word : ℕ) × IsRefusedAt words word)
one_of_both_used law = (
  λ words never. elim (law words) [ inl command ↦ command | inr at ↦ absurd (never at.0 at.1) ],
  λ words never. elim (law words) [ inl command ↦ absurd (never command.0 command.1) | inr at ↦ at ],
)

-- the first word of a command begins one
front_begins_used : FrontBegins → IsBeginning (codes "brain" ∷ [])
front_begins_used law = law (codes "brain" ∷ []) (codes "-b" ∷ []) (record { more = []; asked = asked_in Brain (words_of (codes "brain -b")); whole = brain_command.is })

-- the options of `asm`, in two orders
abbrev labels : Given
labels = record { choice = Labels; values = [] }

abbrev lines : Given
lines = record { choice = Lines; values = [] }

asm_needs_none : (given : List Given) (choice : Choice) → Contains (Labels ∷ Lines ∷ []) choice → is_needed choice ≡ true → IsGiven choice given
asm_needs_none given choice known needed = go known.0 known.1 known.2 where
  go : (k : ℕ) → k < 2 → slice_index_or (Labels ∷ Lines ∷ []) k choice ≡ choice → IsGiven choice given
  go zero less at = absurd (let no : ⊥ = (let false_is : false ≡ true = ap is_needed at ∙ needed in cc) in no)
  go (suc zero) less at = absurd (let no : ⊥ = (let false_is : false ≡ true = ap is_needed at ∙ needed in cc) in no)
  go (suc (suc k)) less at = absurd (let no : ⊥ = omega (arith, less) in no)

labels_first : IsCommandOf Asm ((codes "p" ∷ []) ∷ []) (labels ∷ lines ∷ []) (words_of (codes "asm p --labels --lines"))
unfolding is_file_name command_kind_of
labels_first = record {
  known = command_kind_of-known (codes "asm") Asm refl;
  whole = refl;
  places = (refl, tt);
  options = (record { known = (0, lit< tt, refl); fit = tt }, (record { known = (1, lit< tt, refl); fit = tt }, tt));
  once = (((λ e. (let no : ⊥ = cc in no)), tt), (tt, tt));
  needed = asm_needs_none (labels ∷ lines ∷ []);
}

lines_first : IsCommandOf Asm ((codes "p" ∷ []) ∷ []) (lines ∷ labels ∷ []) (words_of (codes "asm p --lines --labels"))
unfolding is_file_name command_kind_of
lines_first = record {
  known = command_kind_of-known (codes "asm") Asm refl;
  whole = refl;
  places = (refl, tt);
  options = (record { known = (1, lit< tt, refl); fit = tt }, (record { known = (0, lit< tt, refl); fit = tt }, tt));
  once = (((λ e. (let no : ⊥ = cc in no)), tt), (tt, tt));
  needed = asm_needs_none (lines ∷ labels ∷ []);
}

-- each element of a list of two is one of the list in the other order
other_order : (a b x : Given) → Contains (a ∷ b ∷ []) x → Contains (b ∷ a ∷ []) x
other_order a b x is = go is.0 is.1 is.2 where
  go : (k : ℕ) → k < 2 → slice_index_or (a ∷ b ∷ []) k x ≡ x → Contains (b ∷ a ∷ []) x
  go zero less at = (1, lit< tt, at)
  go (suc zero) less at = (0, lit< tt, at)
  go (suc (suc k)) less at = absurd (let no : ⊥ = omega (arith, less) in no)

-- they ask for the same
any_order_used : AnyOrder → IsCommand (words_of (codes "asm p --lines --labels")) (asked_in Asm (words_of (codes "asm p --labels --lines")))
any_order_used law =
    law (words_of (codes "asm p --labels --lines")) (words_of (codes "asm p --lines --labels")) (asked_in Asm (words_of (codes "asm p --labels --lines")))
    (record { kind = Asm; front = (codes "p" ∷ []) ∷ []; given = labels ∷ lines ∷ []; form = labels_first; says = refl })
    (lines ∷ labels ∷ []) lines_first (other_order labels lines) (other_order lines labels)

-- the numbers of lines that are commands are within the limits, and so are the rounds of a list and the names of a cup
abbrev run_line : List ℕ
run_line = codes "run w r b --stats --rest 255 --corpse 9 --surround 6 --window 16384 --workers 16 --dump all --rounds 0 --seed 0"

abbrev dump_line : List ℕ
dump_line = codes "run w r b --dump 7,0,7 --rounds 02 --seed 5"

abbrev cup_line : List ℕ
cup_line = codes "cup --worlds w --brains a b --seed 1 --rounds 2"

within_limits_used : WithinLimits → IsWithin SeedNumber 4294967295 × IsWithin WindowSize 16384 × AreWithin (ChosenDumps (7 ∷ 0 ∷ 7 ∷ [])) × AreNames Worlds (codes "w" ∷ []) × AreNames Brains (codes "a" ∷ codes "b" ∷ [])
unfolding rest_after is_file_name dumps_of decimal_value
within_limits_used law =
    let cup = law (words_of cup_line) (asked_in Cup (words_of cup_line)) cup_command.is in (
      (law (words_of (codes "show - 4294967295")) (asked_in Show (words_of (codes "show - 4294967295"))) greatest_seed.is).number 1 SeedNumber refl,
      (law (words_of run_line) (asked_in Run (words_of run_line)) run_all_greatest.is).option Window WindowSize refl,
      (law (words_of dump_line) (asked_in Run (words_of dump_line)) run_other_order.is).dumps,
      cup.names Worlds (1, lit< tt, refl),
      cup.names Brains (3, lit< tt, refl),
    )

-- a run with `--far` is not a command to such a reader, and other words stay
refuses_far_used : RefusesFar → ((asked : PlainAsked) → ¬ IsCommand (words_without_far (words_of (codes "run w r b --far --seed 1 --rounds 2"))) asked)
    × (words_without_far (words_of (codes "show w 7")) ≡ words_of (codes "show w 7"))
refuses_far_used law = (λ asked is. law.refused (words_of (codes "run w r b --far --seed 1 --rounds 2")) asked refl is, law.others (words_of (codes "show w 7")) refl)

-- `show` of a world, and `gen` with one option
show_form : IsCommandOf Show ((codes "w" ∷ []) ∷ (codes "7" ∷ []) ∷ []) [] (words_of (codes "show w 7"))
unfolding is_file_name decimal_value command_kind_of
show_form = record {
  known = command_kind_of-known (codes "show") Show refl;
  whole = refl;
  places = (refl, (refl, tt));
  options = tt;
  once = tt;
  needed = λ choice known needed. absurd (let no : ⊥ = (let less = known.1 in omega (arith, less)) in no);
}

abbrev shown : PlainAsked
shown = asked_in Show (words_of (codes "show w 7"))

abbrev width : Given
width = record { choice = Width; values = (codes "5" ∷ []) ∷ [] }

gen_needs_none : (choice : Choice) → Contains (Width ∷ Height ∷ Rocks ∷ Blobs ∷ []) choice → is_needed choice ≡ true → IsGiven choice (width ∷ [])
gen_needs_none choice known needed = go known.0 known.1 known.2 where
  none : (other : Choice) → is_needed other ≡ false → other ≡ choice → IsGiven choice (width ∷ [])
  none other free at = absurd (let no : ⊥ = (let both : false ≡ true = sym free ∙ ap is_needed at ∙ needed in cc) in no)

  go : (k : ℕ) → k < 4 → slice_index_or (Width ∷ Height ∷ Rocks ∷ Blobs ∷ []) k choice ≡ choice → IsGiven choice (width ∷ [])
  go zero less at = none Width refl at
  go (suc zero) less at = none Height refl at
  go (suc (suc zero)) less at = none Rocks refl at
  go (suc (suc (suc zero))) less at = none Blobs refl at
  go (suc (suc (suc (suc k)))) less at = absurd (let no : ⊥ = omega (arith, less) in no)

gen_form : IsCommandOf Gen ((codes "7" ∷ []) ∷ []) (width ∷ []) (words_of (codes "gen 7 --width 5"))
unfolding decimal_value command_kind_of
gen_form = record {
  known = command_kind_of-known (codes "gen") Gen refl;
  whole = refl;
  places = (refl, tt);
  options = (record { known = (0, lit< tt, refl); fit = (refl, tt) }, tt);
  once = (tt, tt);
  needed = gen_needs_none;
}

abbrev generated : PlainAsked
generated = asked_in Gen (words_of (codes "gen 7 --width 5"))

abbrev show_is : IsCommand (words_of (codes "show w 7")) shown
show_is = record { kind = Show; front = (codes "w" ∷ []) ∷ (codes "7" ∷ []) ∷ []; given = []; form = show_form; says = refl }

abbrev gen_is : IsCommand (words_of (codes "gen 7 --width 5")) generated
gen_is = record { kind = Gen; front = (codes "7" ∷ []) ∷ []; given = width ∷ []; form = gen_form; says = refl }

not_height : ¬ IsGiven Height (width ∷ [])
not_height is = go is.0 is.1 is.2 where
  go : (k : ℕ) → k < 1 → slice_index_or (Width ∷ []) k Height ≡ Height → ⊥
  go zero less at = (let no : ⊥ = cc in no)
  go (suc k) less at = omega (arith, less)

-- the file, the seed and the width are those of the words, the height that of the table, and the width is the option
-- that is given
says_its_words_used : SaysItsWords →
    (shown.file 0 ≡ codes "w")
    × (number_in SeedNumber (codes "7") ≡ Some (shown.number 1))
    × (number_in SideLength (codes "5") ≡ Some (generated.option Width))
    × (generated.option Height ≡ 150)
    × IsGiven Width (width ∷ [])
    × (generated.has Width ≡ true)
unfolding is_among
says_its_words_used law =
    let named : Some (codes "w") ≡ Some (shown.file 0) = law.file (words_of (codes "show w 7")) shown show_is 0 refl in
    let number = law.number (words_of (codes "show w 7")) shown show_is 1 SeedNumber refl in
    let option = law.option (words_of (codes "gen 7 --width 5")) generated gen_is width (0, lit< tt, refl) SideLength refl in (
      (let same : shown.file 0 ≡ codes "w" = cc in same),
      ap (number_in SeedNumber) (word_is number.0 (codes "7") number.1) ∙ number.2,
      ap (number_in SideLength) (value_is option.0 (codes "5") option.1) ∙ option.2,
      law.default (words_of (codes "gen 7 --width 5")) generated gen_is Height not_height,
      law.has (words_of (codes "gen 7 --width 5")) generated gen_is Width refl,
      law.given (words_of (codes "gen 7 --width 5")) generated gen_is Width (0, lit< tt, refl),
    ) where
      word_is : (word other : List ℕ) → Some other ≡ Some word → other ≡ word
      word_is word other same = cc

      value_is : (word other : List ℕ) → (other ∷ []) ∷ [] ≡ (word ∷ []) ∷ [] → other ≡ word
      value_is word other same = cc
