-- The search: which lists of answers were looked at, which wait, and what is known of them.
use Rattle.std.proofs.Common.{◌≡◌, ◌⊎◌, inl, inr, ℕ, ◌+◌, ◌*◌, ◌<◌, ◌≤◌, Bool, true, false, cond, List, [], ◌∷◌, ◌++◌, map, length, slice_index, Option, Some, None, unwrap_or, refl, sym, ap, ap₂, ◌∙◌, subst, arith}
use Rattle.std.specs.Prelude.{nat_lt, option_and_then, option_map, option_to_list, ◌-◌}
use Rattle.std.specs.List.{Contains}
use Rattle.std.proofs.lemmas.Bool.{lt-ltb, le-ltb}
use Rattle.std.proofs.lemmas.List.{length-append, length_push, map-append}
use Rattle.std.proofs.lemmas.Option.{none-some, same_Some}
use Rattle.std.proofs.lemmas.List.Elements.{Contains-append_cases, Contains-append_left, Contains-append_right, Contains-push, Contains-push_cases}
use Rattle.std.proofs.Math.Nat.{add-sub_cancel_left}
use Rattle.list_lemmas.proofs.Elements.{Contains-cases, Contains-first, Contains-later, Contains-none, Contains-one}
use Rattle.brain_read.specs.declared.instr.Instr.{Instr}
use Rattle.brain_read.specs.Soundness.{IsBrain}
use Rattle.ant_turn.specs.Turn.{instruction_at}
use Rattle.brain_minimise.specs.Equivalence.{shape_of}
use Rattle.brain_same.specs.declared.search.Pair.{Pair}
use Rattle.brain_same.specs.Answers.{led_to, next_by}
use Rattle.brain_same.specs.Inner.Classes.{AreApart, AreJoined, total}
use Rattle.brain_same.specs.Inner.Pairs.{IsFollowed, IsInside, pair_after}
use Rattle.brain_same.specs.Inner.Pairs.IsFollowed.{Followed, PassedOver}
use Rattle.brain_same.proofs.AnswersLemmas.{led-inside, led-more, number, number-met, number-next, number-unmet}
use Rattle.brain_same.proofs.ClassesLemmas.{total-apart}

-- a label for the states of both brains, those of the second after those of the first
abbrev pub of_both : {A : Type 0} → ℕ → (ℕ → A) → (ℕ → A) → ℕ → A
of_both n f g state = cond (nat_lt state n) (f state) (g (state - n))

pub of_both-first : {A : Type 0} (n : ℕ) (f g : ℕ → A) (a : ℕ) → a < n → of_both n f g a ≡ f a
of_both-first n f g a inside = ap (λ (b : Bool). cond b (f a) (g (a - n))) (lt-ltb a n inside)

pub of_both-second : {A : Type 0} (n : ℕ) (f g : ℕ → A) (b : ℕ) → of_both n f g (n + b) ≡ g b
of_both-second n f g b = ap (λ (t : Bool). cond t (f (n + b)) (g (n + b - n))) (le-ltb (n + b) n (omega arith)) ∙ ap g (add-sub_cancel_left n b)

-- lists that rise
abbrev pub Rising : List (List Bool) → Type 0
Rising [] = Unit {0}
Rising (w ∷ ways) = ((v : List Bool) → Contains ways v → number w < number v) × Rising ways

rising-append : (ways more : List (List Bool)) → Rising ways → Rising more → ((v w : List Bool) → Contains ways v → Contains more w → number v < number w) → Rising (ways ++ more)
rising-append [] more one other between = other
rising-append (w ∷ ways) more one other between = (
  λ v there. elim (Contains-append_cases ways more v there) [
    | inl early ↦ one.0 v early
    | inr late ↦ between w v (Contains-first w ways) late
  ],
  rising-append ways more one.1 other (λ v u early late. between v u (Contains-later w v ways early) late),
)

-- a list of at most one
rising-option : (A : Type 0) (w : List Bool) (o : Option A) → Rising (option_to_list (option_map (λ _. w) o))
rising-option A w None = tt
rising-option A w (Some a) = (λ v there. absurd (Contains-none v there), tt)

only-option : (A : Type 0) (w v : List Bool) (o : Option A) → Contains (option_to_list (option_map (λ _. w) o)) v → (a : A) × (o ≡ Some a) × (w ≡ v)
only-option A w v None there = absurd (Contains-none v there)
only-option A w v (Some a) there = (a, refl, Contains-one w v there)

in-option : (A : Type 0) (w : List Bool) (o : Option A) (a : A) → o ≡ Some a → Contains (option_to_list (option_map (λ _. w) o)) w
in-option A w o a is = subst (λ p. Contains (option_to_list (option_map (λ _. w) p)) w) (sym is) (Contains-first w [])

-- a pair of two successors
abbrev next_pair : ℕ → ℕ → ℕ → Pair
next_pair n a b = record { first = a; second = b; answers = n + 1 }

abbrev paired : ℕ → Option ℕ → Option ℕ → Option Pair
paired n o p = option_and_then (λ a. option_map (next_pair n a) p) o

record Paired (n : ℕ) (o p : Option ℕ) (pair : Pair) : Type 0 where
  pub a : ℕ
  pub b : ℕ
  pub one : o ≡ Some a
  pub other : p ≡ Some b
  pub is : next_pair n a b ≡ pair

paired-parts : (n : ℕ) (o p : Option ℕ) (pair : Pair) → paired n o p ≡ Some pair → Paired n o p pair
paired-parts n (Some a) (Some b) pair is = record { a = a; b = b; one = refl; other = refl; is = same_Some (next_pair n a b) pair is }
paired-parts n it p pair is = absurd (none-some pair is)

pub same_pair : (a b c d n m : ℕ) → a ≡ b → c ≡ d → n ≡ m → ◌≡◌ {A = Pair} (record { first = a; second = c; answers = n }) (record { first = b; second = d; answers = m })
same_pair a b c d n m one other count =
    ap (λ (k : ℕ). let pair : Pair = record { first = k; second = c; answers = n } in pair) one
    ∙ ap (λ (k : ℕ). let pair : Pair = record { first = b; second = k; answers = n } in pair) other
    ∙ ap (λ (k : ℕ). let pair : Pair = record { first = b; second = d; answers = k } in pair) count

-- what is there is what is taken out of it
some_unwrapped : (o : Option ℕ) (a : ℕ) → o ≡ Some a → o ≡ Some (unwrap_or o 0)
some_unwrapped o a is = is ∙ ap Some (sym (ap (λ p. unwrap_or p 0) is))

module _ (first second : List Instr) where
  -- the state to which answers lead in each brain
  abbrev pub one_after : List Bool → ℕ
  one_after w = unwrap_or (led_to first w 0) 0

  abbrev pub other_after : List Bool → ℕ
  other_after w = unwrap_or (led_to second w 0) 0

  -- answers that both brains have
  pub record Lead (w : List Bool) : Type 0 where
    pub one : led_to first w 0 ≡ Some (one_after w)
    pub other : led_to second w 0 ≡ Some (other_after w)

  -- the pair to which they lead
  abbrev pub entry : List Bool → Pair
  entry w = record { first = one_after w; second = other_after w; answers = length w }

  -- the states of a pair have the same label
  abbrev pub SameAt : (ℕ → List Instr) → List Bool → Type 0
  SameAt label w = label (one_after w) ≡ label (length first + other_after w)

  -- why no pair that follows this one has to be looked at: the two states are joined by pairs that were looked at
  -- earlier, or the pairs that follow it were looked at or wait
  pub data IsExplained (done waiting : List (List Bool)) (w : List Bool) : Type 0 where
    ByEarlier : ((label : ℕ → List Instr) → ((u : List Bool) → Contains done u → number u < number w → SameAt label u) → SameAt label w) → IsExplained done waiting w
    ByLater : ((met : Bool) (a b : ℕ) → next_by (instruction_at first (one_after w)) met ≡ Some a → next_by (instruction_at second (other_after w)) met ≡ Some b
        → Contains done (w ++ met ∷ []) ⊎ Contains waiting (w ++ met ∷ [])) → IsExplained done waiting w

  -- what stays in the search
  pub record Searches (classes : List ℕ) (done waiting : List (List Bool)) : Type 0 where
    pub each : length classes ≡ length first + length second
    -- the list of no answers was looked at or waits
    pub start : Contains done [] ⊎ Contains waiting []
    pub lead : (w : List Bool) → Contains done w ⊎ Contains waiting w → Lead w
    -- lists are looked at in their order
    pub before : (u w : List Bool) → Contains done u → Contains waiting w → number u < number w
    pub rising : Rising waiting
    pub near : (v w : List Bool) → Contains waiting v → Contains waiting w → number v ≤ 2 * number w
    -- the instructions to which they led are the same except for the states that they name, and the states are of one
    -- class
    pub alike : (w : List Bool) → Contains done w → shape_of (instruction_at first (one_after w)) ≡ shape_of (instruction_at second (other_after w))
    pub joined : (w : List Bool) → Contains done w → slice_index classes (one_after w) ≡ slice_index classes (length first + other_after w)
    pub explained : (w : List Bool) → Contains done w → IsExplained done waiting w
    -- states of one class have the same label where all pairs that were looked at have
    pub links : (label : ℕ → List Instr) → ((w : List Bool) → Contains done w → SameAt label w)
        → (x y : ℕ) → x < length first + length second → y < length first + length second → slice_index classes x ≡ slice_index classes y → label x ≡ label y
    -- there are few answers
    pub few : (w : List Bool) → Contains waiting w → length w + total classes ≤ 400000000

  -- the lists that follow one by an answer: one, or none
  abbrev pub ways_after : List Bool → Bool → List (List Bool)
  ways_after w met = option_to_list (option_map (λ _. w ++ met ∷ []) (pair_after first second (entry w) met))

  -- the pair to which an answer leads
  pair_after-is : (w : List Bool) (met : Bool) (a b : ℕ) → next_by (instruction_at first (one_after w)) met ≡ Some a → next_by (instruction_at second (other_after w)) met ≡ Some b →
      pair_after first second (entry w) met ≡ Some (next_pair (length w) a b)
  pair_after-is w met a b one other = ap₂ (paired (length w)) one other

  -- a list with this answer leads on
  pub lead-after : (w : List Bool) (met : Bool) (pair : Pair) → Lead w → pair_after first second (entry w) met ≡ Some pair → Lead (w ++ met ∷ [])
  lead-after w met pair lead is =
      let it = paired-parts (length w) (next_by (instruction_at first (one_after w)) met) (next_by (instruction_at second (other_after w)) met) pair is in
      record {
        one = some_unwrapped _ it.a (led-more first w met 0 (one_after w) it.a lead.one it.one);
        other = some_unwrapped _ it.b (led-more second w met 0 (other_after w) it.b lead.other it.other);
      }

  -- to that pair
  pub entry-after : (w : List Bool) (met : Bool) (pair : Pair) → Lead w → pair_after first second (entry w) met ≡ Some pair → entry (w ++ met ∷ []) ≡ pair
  entry-after w met pair lead is =
      let it = paired-parts (length w) (next_by (instruction_at first (one_after w)) met) (next_by (instruction_at second (other_after w)) met) pair is in
      same_pair (one_after (w ++ met ∷ [])) it.a (other_after (w ++ met ∷ [])) it.b (length (w ++ met ∷ [])) (length w + 1)
      (ap (λ o. unwrap_or o 0) (led-more first w met 0 (one_after w) it.a lead.one it.one))
      (ap (λ o. unwrap_or o 0) (led-more second w met 0 (other_after w) it.b lead.other it.other))
      (length_push w met)
      ∙ it.is

  -- the first list
  pub Searches-start : (classes : List ℕ) → AreApart (length first + length second) classes → length first + length second ≤ 20000 → Searches classes [] ([] ∷ [])
  Searches-start classes apart few = record {
    each = apart.each;
    start = inr (Contains-first [] []);
    lead = λ w there. elim there [
      | inl never ↦ absurd (Contains-none w never)
      | inr only ↦ subst Lead (Contains-one [] w only) (record { one = refl; other = refl })
    ];
    before = λ u w there _. absurd (Contains-none u there);
    rising = (λ v there. absurd (Contains-none v there), tt);
    near = λ v w one other. subst (λ v. number v ≤ 2 * number w) (Contains-one [] v one) (omega arith);
    alike = λ w there. absurd (Contains-none w there);
    joined = λ w there. absurd (Contains-none w there);
    explained = λ w there. absurd (Contains-none w there);
    links = λ label _ x y low high same. ap label (sym (apart.own x low) ∙ same ∙ apart.own y high);
    few = λ w there. subst (λ w. length w + total classes ≤ 400000000) (Contains-one [] w there) (let sum = total-apart (length first + length second) classes apart few in omega arith);
  }

  -- what explains a pair explains it later
  explained-more : (done more waiting left : List (List Bool)) (w : List Bool) → ((v : List Bool) → Contains done v → Contains more v) → ((v : List Bool) → Contains done v ⊎ Contains waiting v → Contains more v ⊎ Contains left v) →
      IsExplained done waiting w → IsExplained more left w
  explained-more done more waiting left w still known (ByEarlier same) = ByEarlier (λ label all. same label (λ u there less. all u (still u there) less))
  explained-more done more waiting left w still known (ByLater follow) = ByLater (λ met a b one other. known (w ++ met ∷ []) (follow met a b one other))

  -- what was looked at or waits, when the first waiting list was looked at
  moved : (done ways left : List (List Bool)) (w v : List Bool) → ((u : List Bool) → Contains ways u → Contains left u) → Contains done v ⊎ Contains (w ∷ ways) v → Contains (done ++ w ∷ []) v ⊎ Contains left v
  moved done ways left w v still there =
      elim there [
        | inl early ↦ inl (Contains-append_left done (w ∷ []) v early)
        | inr late ↦ elim (Contains-cases w v ways late) [
          | inl one ↦ inl (subst (Contains (done ++ w ∷ [])) one (Contains-push done w))
          | inr rest ↦ inr (still v rest)
        ]
      ]

  module _ (sound : IsBrain first) (too : IsBrain second) where
    -- the states of a pair are states of the brains
    pub one-inside : (w : List Bool) → Lead w → one_after w < length first
    one-inside w lead = let some = sound.some in led-inside first w 0 (one_after w) sound (omega arith) lead.one

    pub other-inside : (w : List Bool) → Lead w → other_after w < length second
    other-inside w lead = let some = too.some in led-inside second w 0 (other_after w) too (omega arith) lead.other

    module _ (classes : List ℕ) (done ways : List (List Bool)) (w : List Bool) (searches : Searches classes done (w ∷ ways)) (alike : shape_of (instruction_at first (one_after w)) ≡ shape_of (instruction_at second (other_after w))) where
      abbrev looked : List (List Bool)
      looked = done ++ w ∷ []

      leads : Lead w
      leads = searches.lead w (inr (Contains-first w ways))

      low : one_after w < length first + length second
      low = let inside = one-inside w leads in omega arith

      high : length first + other_after w < length first + length second
      high = let inside = other-inside w leads in omega arith

      -- what holds of the lists that were looked at and of this one
      of_looked : (P : List Bool → Type 0) → ((v : List Bool) → Contains done v → P v) → P w → (v : List Bool) → Contains looked v → P v
      of_looked P early last v there =
          elim (Contains-push_cases done w v there) [
            | inl before ↦ early v before
            | inr one ↦ subst P one last
          ]

      -- the first waiting pair is of one class: it is passed over
      pub Searches-over : slice_index classes (one_after w) ≡ slice_index classes (length first + other_after w) → Searches classes looked ways
      Searches-over one_class = record {
        each = searches.each;
        start = moved done ways ways w [] (λ _ there. there) searches.start;
        lead = λ v there. elim there [
          | inl early ↦ of_looked Lead (λ u was. searches.lead u (inl was)) leads v early
          | inr late ↦ searches.lead v (inr (Contains-later w v ways late))
        ];
        before = λ u v there late. of_looked (λ u. number u < number v) (λ u was. searches.before u v was (Contains-later w v ways late)) (searches.rising.0 v late) u there;
        rising = searches.rising.1;
        near = λ u v one other. searches.near u v (Contains-later w u ways one) (Contains-later w v ways other);
        alike = of_looked (λ v. shape_of (instruction_at first (one_after v)) ≡ shape_of (instruction_at second (other_after v))) searches.alike alike;
        joined = of_looked (λ v. slice_index classes (one_after v) ≡ slice_index classes (length first + other_after v)) searches.joined one_class;
        explained = of_looked (IsExplained looked ways)
            (λ v was. explained-more done looked (w ∷ ways) ways v (λ u there. Contains-append_left done (w ∷ []) u there) (λ u there. moved done ways ways w u (λ _ rest. rest) there) (searches.explained v was))
            (ByEarlier (λ label all.
            searches.links label (λ u there. all u (Contains-append_left done (w ∷ []) u there) (searches.before u w there (Contains-first w ways))) (one_after w) (length first + other_after w) low high one_class));
        links = λ label all x y x_low y_low same. searches.links label (λ u there. all u (Contains-append_left done (w ∷ []) u there)) x y x_low y_low same;
        few = λ v late. searches.few v (Contains-later w v ways late);
      }

      -- the lists that wait when this one was followed
      abbrev left : List (List Bool)
      left = (ways ++ ways_after w true) ++ ways_after w false

      still : (u : List Bool) → Contains ways u → Contains left u
      still u there = Contains-append_left (ways ++ ways_after w true) (ways_after w false) u (Contains-append_left ways (ways_after w true) u there)

      -- one of them waited before, or is this one with an answer
      data Later (v : List Bool) : Type 0 where
        Waited : Contains ways v → Later v
        Follows : (met : Bool) → w ++ met ∷ [] ≡ v → Lead v → Later v

      follows : (met : Bool) (v : List Bool) → Contains (ways_after w met) v → Later v
      follows met v there =
          let it = only-option Pair (w ++ met ∷ []) v (pair_after first second (entry w) met) there in
          Follows met it.2 (subst Lead it.2 (lead-after w met it.0 leads it.1))

      later : (v : List Bool) → Contains left v → Later v
      later v there =
          elim (Contains-append_cases (ways ++ ways_after w true) (ways_after w false) v there) [
            | inl early ↦ elim (Contains-append_cases ways (ways_after w true) v early) [
              | inl waited ↦ Waited waited
              | inr met ↦ follows true v met
            ]
            | inr unmet ↦ follows false v unmet
          ]

      -- they stand between this one's number and those of its answers
      lower : (v : List Bool) → Contains left v → number w < number v
      lower v there =
          elim (later v there) [
            | Waited waited ↦ searches.rising.0 v waited
            | Follows met is leads ↦ subst (λ u. number w < number u) is (let more = number-next w met in omega (arith, more.0))
          ]

      upper : (v : List Bool) → Contains left v → number v ≤ 2 * number w + 2
      upper v there =
          elim (later v there) [
            | Waited waited ↦ let near = searches.near v w (Contains-later w v ways waited) (Contains-first w ways) in omega arith
            | Follows met is leads ↦ subst (λ u. number u ≤ 2 * number w + 2) is (let more = number-next w met in omega (arith, more.1))
          ]

      -- they rise
      before_met : (v u : List Bool) → Contains ways v → Contains (ways_after w true) u → number v < number u
      before_met v u early late =
          let near = searches.near v w (Contains-later w v ways early) (Contains-first w ways) in
          let it = only-option Pair (w ++ true ∷ []) u (pair_after first second (entry w) true) late in
          subst (λ u. number v < number u) it.2 (let more = number-met w in omega arith)

      before_unmet : (v u : List Bool) → Contains (ways ++ ways_after w true) v → Contains (ways_after w false) u → number v < number u
      before_unmet v u early late =
          let it = only-option Pair (w ++ false ∷ []) u (pair_after first second (entry w) false) late in
          let more = number-unmet w in
          elim (Contains-append_cases ways (ways_after w true) v early) [
            | inl waited ↦
                let near = searches.near v w (Contains-later w v ways waited) (Contains-first w ways) in
                subst (λ u. number v < number u) it.2 (omega arith)
            | inr met ↦
                let mine = only-option Pair (w ++ true ∷ []) v (pair_after first second (entry w) true) met in
                let less = number-met w in
                subst (λ u. number v < number u) it.2 (subst (λ v. number v < number (w ++ false ∷ [])) mine.2 (omega arith))
          ]

      rise : Rising left
      rise =
          rising-append (ways ++ ways_after w true) (ways_after w false)
          (rising-append ways (ways_after w true) searches.rising.1 (rising-option Pair (w ++ true ∷ []) (pair_after first second (entry w) true)) before_met)
          (rising-option Pair (w ++ false ∷ []) (pair_after first second (entry w) false)) before_unmet

      -- the lists with an answer wait
      waits : (met : Bool) (a b : ℕ) → next_by (instruction_at first (one_after w)) met ≡ Some a → next_by (instruction_at second (other_after w)) met ≡ Some b → Contains left (w ++ met ∷ [])
      waits true a b one other =
          Contains-append_left (ways ++ ways_after w true) (ways_after w false) (w ++ true ∷ [])
          (Contains-append_right ways (ways_after w true) (w ++ true ∷ []) (in-option Pair (w ++ true ∷ []) _ (next_pair (length w) a b) (pair_after-is w true a b one other)))
      waits false a b one other =
          Contains-append_right (ways ++ ways_after w true) (ways_after w false) (w ++ false ∷ []) (in-option Pair (w ++ false ∷ []) _ (next_pair (length w) a b) (pair_after-is w false a b one other))

      -- its classes are joined, and the pairs that follow it wait
      pub Searches-follow : (new : List ℕ) → AreJoined classes new (one_after w) (length first + other_after w) → Searches new looked left
      Searches-follow new joins =
          let falls = joins.falls in
          record {
            each = joins.each ∙ searches.each;
            start = moved done ways left w [] still searches.start;
            lead = λ v there. elim there [
              | inl early ↦ of_looked Lead (λ u was. searches.lead u (inl was)) leads v early
              | inr late ↦ elim (later v late) [
                | Waited waited ↦ searches.lead v (inr (Contains-later w v ways waited))
                | Follows met is lead ↦ lead
              ]
            ];
            before = λ u v there late.
                let more = lower v late in
                of_looked (λ u. number u < number v) (λ u was. let less = searches.before u w was (Contains-first w ways) in omega arith) more u there;
            rising = rise;
            near = λ u v one other. let low = lower v other in let high = upper u one in omega arith;
            alike = of_looked (λ v. shape_of (instruction_at first (one_after v)) ≡ shape_of (instruction_at second (other_after v))) searches.alike alike;
            joined = of_looked (λ v. slice_index new (one_after v) ≡ slice_index new (length first + other_after v))
                (λ v was.
                let lead = searches.lead v (inl was) in
                let one = one-inside v lead in
                let other = other-inside v lead in
                let each = searches.each in
                joins.kept (one_after v) (length first + other_after v) (omega arith) (omega arith) (searches.joined v was))
                joins.joined;
            explained = of_looked (IsExplained looked left)
                (λ v was. explained-more done looked (w ∷ ways) left v (λ u there. Contains-append_left done (w ∷ []) u there) (λ u there. moved done ways left w u still there) (searches.explained v was))
                (ByLater (λ met a b one other. inr (waits met a b one other)));
            links = λ label all x y x_low y_low same.
                let each = searches.each in
                let link = searches.links label (λ u there. all u (Contains-append_left done (w ∷ []) u there)) in
                let own = all w (Contains-push done w) in
                elim (joins.only x y (omega arith) (omega arith) same) [
                  | inl were ↦ link x y x_low y_low were
                  | inr two ↦ elim two [
                    | inl straight ↦ link x (one_after w) x_low low straight.0 ∙ own ∙ link (length first + other_after w) y high y_low (sym straight.1)
                    | inr crossed ↦ link x (length first + other_after w) x_low high crossed.0 ∙ sym own ∙ link (one_after w) y low y_low (sym crossed.1)
                  ]
                ];
            few = λ v late. elim (later v late) [
              | Waited waited ↦ let was = searches.few v (Contains-later w v ways waited) in omega arith
              | Follows met is lead ↦
                  let was = searches.few w (Contains-first w ways) in
                  let longer : length (w ++ met ∷ []) ≡ length w + 1 = length_push w met in
                  subst (λ u. length u + total new ≤ 400000000) is (omega arith)
            ];
          }

  -- the pairs of the lists that follow one by an answer
  pub entries-after : (w : List Bool) (met : Bool) → Lead w → map entry (ways_after w met) ≡ option_to_list (pair_after first second (entry w) met)
  entries-after w met lead = go (pair_after first second (entry w) met) refl where
    go : (o : Option Pair) → pair_after first second (entry w) met ≡ o → map entry (option_to_list (option_map (λ _. w ++ met ∷ []) o)) ≡ option_to_list o
    go None is = refl
    go (Some pair) is = ap (λ p. p ∷ []) (entry-after w met pair lead is)

  -- the pairs that wait are those of the lists that wait
  pub record Searching (classes : List ℕ) (queue : List Pair) : Type 0 where
    pub done : List (List Bool)
    pub ways : List (List Bool)
    pub each : queue ≡ map entry ways
    pub searches : Searches classes done ways

  -- the first of them, and the others
  pub record Front (classes : List ℕ) (pair : Pair) (rest : List Pair) : Type 0 where
    pub done : List (List Bool)
    pub w : List Bool
    pub ways : List (List Bool)
    pub first_pair : entry w ≡ pair
    pub other_pairs : map entry ways ≡ rest
    pub searches : Searches classes done (w ∷ ways)

  front-of : (classes : List ℕ) (done ways : List (List Bool)) (pair : Pair) (rest : List Pair) → map entry ways ≡ pair ∷ rest → Searches classes done ways → Front classes pair rest
  front-of classes done [] pair rest is searches = absurd (cc)
  front-of classes done (w ∷ ways) pair rest is searches = record { done = done; w = w; ways = ways; first_pair = (cc); other_pairs = (cc); searches = searches }

  pub Front-taken : (classes : List ℕ) (queue : List Pair) (pair : Pair) (rest : List Pair) → Searching classes queue → queue ≡ pair ∷ rest → Front classes pair rest
  Front-taken classes queue pair rest searching is = front-of classes searching.done searching.ways pair rest (sym searching.each ∙ is) searching.searches

  pub Searching-start : (classes : List ℕ) → AreApart (length first + length second) classes → length first + length second ≤ 20000 → Searching classes (record { first = 0; second = 0; answers = 0 } ∷ [])
  Searching-start classes apart few = record { done = []; ways = [] ∷ []; each = refl; searches = Searches-start classes apart few }

  module _ (sound : IsBrain first) (too : IsBrain second) (classes : List ℕ) (pair : Pair) (rest : List Pair) (front : Front classes pair rest) where
    leads_there : Lead front.w
    leads_there = front.searches.lead front.w (inr (Contains-first front.w front.ways))

    -- its states are states of the brains
    pub Front-inside : IsInside first second pair
    Front-inside = subst (IsInside first second) front.first_pair (one-inside sound too front.w leads_there, other-inside sound too front.w leads_there)

    -- few answers lead to it
    pub Front-few : pair.answers ≤ 400000000
    Front-few =
        subst (λ (p : Pair). p.answers ≤ 400000000) front.first_pair
        (let few = front.searches.few front.w (Contains-first front.w front.ways) in omega arith)

    -- it is passed over or followed
    abbrev AlikeAt : Pair → Type 0
    AlikeAt p = shape_of (instruction_at first p.first) ≡ shape_of (instruction_at second p.second)

    go_on : (new : List ℕ) (after : List Pair) → AlikeAt (entry front.w) → IsFollowed first second (entry front.w) classes new rest after → Searching new after
    go_on new after alike (PassedOver one_class same stay) =
        subst (λ classes. Searching classes after) (sym same) (record {
          done = front.done ++ front.w ∷ [];
          ways = front.ways;
          each = stay ∙ sym front.other_pairs;
          searches = Searches-over sound too classes front.done front.ways front.w front.searches alike one_class;
        })
    go_on new after alike (Followed joins more) = record {
      done = front.done ++ front.w ∷ [];
      ways = (front.ways ++ ways_after front.w true) ++ ways_after front.w false;
      each =
          more
          ∙ ap (λ rest. (rest ++ option_to_list (pair_after first second (entry front.w) true)) ++ option_to_list (pair_after first second (entry front.w) false)) (sym front.other_pairs)
          ∙ sym (map-append entry (front.ways ++ ways_after front.w true) (ways_after front.w false)
          ∙ ap₂ ◌++◌ (map-append entry front.ways (ways_after front.w true) ∙ ap (λ pairs. map entry front.ways ++ pairs) (entries-after front.w true leads_there)) (entries-after front.w false leads_there));
      searches = Searches-follow sound too classes front.done front.ways front.w front.searches alike new joins;
    }

    pub Searching-on : (new : List ℕ) (after : List Pair) → AlikeAt pair → IsFollowed first second pair classes new rest after → Searching new after
    Searching-on new after = subst (λ p. AlikeAt p → IsFollowed first second p classes new rest after → Searching new after) front.first_pair (go_on new after)

-- there is less to do after each step
pub short : {A : Type 0} (o : Option A) → length (option_to_list o) ≤ 1
short None = omega arith
short (Some one) = omega arith

pub step-work : (first second : List Instr) (pair : Pair) (classes new : List ℕ) (rest after : List Pair) → IsFollowed first second pair classes new rest after →
    2 * total new + length after < 2 * total classes + length (pair ∷ rest)
step-work first second pair classes new rest after (PassedOver one_class same stay) =
    let one = ap total same in let other = ap (λ (pairs : List Pair). length pairs) stay in omega arith
step-work first second pair classes new rest after (Followed joins more) =
    let falls = joins.falls in
    let size : length after ≡ (length rest + length (option_to_list (pair_after first second pair true))) + length (option_to_list (pair_after first second pair false)) =
    ap (λ (pairs : List Pair). length pairs) more
    ∙ length-append (rest ++ option_to_list (pair_after first second pair true)) (option_to_list (pair_after first second pair false))
    ∙ ap (λ n. n + length (option_to_list (pair_after first second pair false))) (length-append rest (option_to_list (pair_after first second pair true))) in
    let one = short (pair_after first second pair true) in
    let other = short (pair_after first second pair false) in
    omega arith
