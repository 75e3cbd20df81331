-- What the search comes to: the first pair whose instructions differ is where the brains first differ, and where none
-- is left they are the same.
use Rattle.std.proofs.Common.{◌≡◌, inl, inr, ℕ, zero, suc, ◌+◌, ◌<◌, ◌≤◌, Bool, List, [], ◌∷◌, ◌++◌, length, map, slice_index, Some, unwrap_or, refl, sym, ap, ap₂, ◌∙◌, subst, arith}
use Rattle.std.specs.List.{Contains}
use Rattle.std.proofs.lemmas.Bool.{cases_lt}
use Rattle.list_lemmas.proofs.Elements.{Contains-cases, Contains-first, Contains-none}
use Rattle.brain_read.specs.declared.instr.Instr.{Instr}
use Rattle.brain_read.specs.Grammar.{states_of}
use Rattle.brain_read.specs.Soundness.{IsBrain}
use Rattle.ant_turn.specs.Renumber.{redirected}
use Rattle.ant_turn.specs.Turn.{instruction_at}
use Rattle.brain_minimise.specs.Equivalence.{IsBisimulation, shape_of}
use Rattle.brain_minimise.proofs.Equivalences.{names-related, same_name, same_name-says, same_name-true}
use Rattle.brain_minimise.proofs.RedirectedLemmas.{shape-from, states-from, successors-below}
use Rattle.brain_same.specs.declared.search.Pair.{Pair}
use Rattle.brain_same.specs.Answers.{IsNoLater, next_by}
use Rattle.brain_same.specs.Difference.{AreSame, IsFirstDifference, TellsApart}
use Rattle.brain_same.proofs.AnswersLemmas.{IsNoLater-number, alike-next, last-shape, led-more, number, number_from, number_from-append, number_from-least, number_from-lower, redirected-alike, shapes_along}
use Rattle.brain_same.proofs.SearchLemmas.{Front, Lead, Searches, Searching, entry, of_both, of_both-first, of_both-second, one-inside, one_after, other_after}
use Rattle.brain_same.proofs.SearchLemmas.IsExplained.{ByEarlier, ByLater}

module _ (first second : List Instr) (sound : IsBrain first) (too : IsBrain second) (classes : List ℕ) (done waiting : List (List Bool)) (searches : Searches first second classes done waiting) where
  -- the state to which a list of answers leads in each brain
  abbrev here : List Bool → ℕ
  here u = one_after first second u

  abbrev there : List Bool → ℕ
  there u = other_after first second u

  leads : (u : List Bool) → Contains done u → Lead first second u
  leads u known = searches.lead u (inl known)

  -- labels of the two states of a pair, joined and apart
  join : (f g : ℕ → List Instr) (u : List Bool) → Contains done u → f (here u) ≡ g (there u) → of_both (length first) f g (here u) ≡ of_both (length first) f g (length first + there u)
  join f g u known same =
      of_both-first (length first) f g (here u) (one-inside first second sound too u (leads u known)) ∙ same ∙ sym (of_both-second (length first) f g (there u))

  part : (f g : ℕ → List Instr) (u : List Bool) → Contains done u → of_both (length first) f g (here u) ≡ of_both (length first) f g (length first + there u) → f (here u) ≡ g (there u)
  part f g u known same =
      sym (of_both-first (length first) f g (here u) (one-inside first second sound too u (leads u known))) ∙ same ∙ of_both-second (length first) f g (there u)

  -- the states to which one more answer leads
  here-more : (u : List Bool) (met : Bool) (a : ℕ) → Contains done u → next_by (instruction_at first (here u)) met ≡ Some a → here (u ++ met ∷ []) ≡ a
  here-more u met a known is = ap (λ o. unwrap_or o 0) (led-more first u met 0 (here u) a (leads u known).one is)

  there-more : (u : List Bool) (met : Bool) (b : ℕ) → Contains done u → next_by (instruction_at second (there u)) met ≡ Some b → there (u ++ met ∷ []) ≡ b
  there-more u met b known is = ap (λ o. unwrap_or o 0) (led-more second u met 0 (there u) b (leads u known).other is)

  -- no list that waits comes before this number
  module _ (bound : ℕ) (beyond : (v : List Bool) → Contains waiting v → bound ≤ number v) where
    -- the shapes along the answers t are the same from both states to which u leads
    abbrev Agree : List Bool → List Bool → Type 0
    Agree t u = shapes_along first t (here u) ≡ shapes_along second t (there u)

    -- so are all lists of lower numbers
    abbrev AgreeBelow : ℕ → Type 0
    AgreeBelow n = (u t : List Bool) → Contains done u → number_from t (number u) < n → Agree t u

    -- a pair that earlier ones join
    agree-earlier : (n : ℕ) → AgreeBelow n → (t u : List Bool) → Contains done u → number_from t (number u) < suc n
        → ((label : ℕ → List Instr) → ((v : List Bool) → Contains done v → number v < number u → label (here v) ≡ label (length first + there v)) → label (here u) ≡ label (length first + there u)) →
        Agree t u
    agree-earlier n below t u known low same =
        part (shapes_along first t) (shapes_along second t) u known
        (same (of_both (length first) (shapes_along first t) (shapes_along second t)) (λ v was less.
        join (shapes_along first t) (shapes_along second t) v was
        (below v t was (let lower = number_from-lower t t (number v) (number u) (omega arith) less in omega arith))))

    -- a list that waits isn't below the bound, whatever follows it
    none-waits : (t v : List Bool) → Contains waiting v → number_from t (number v) < bound → ⊥
    none-waits t v waits low = let far = beyond v waits in let more = number_from-least t (number v) in omega arith

    agree-step : (n : ℕ) → n < bound → AgreeBelow n → (t u : List Bool) → Contains done u → number_from t (number u) < suc n → Agree t u
    agree-step n few below [] u known low = ap (λ (shape : Instr). shape ∷ []) (searches.alike u known)
    agree-step n few below (met ∷ t) u known low =
        elim (searches.explained u known) [
          | ByEarlier same ↦ agree-earlier n below (met ∷ t) u known low same
          | ByLater follow ↦
              let append : number_from t (number (u ++ met ∷ [])) ≡ number_from (met ∷ t) (number u) = ap (number_from t) (number_from-append u (met ∷ []) 0) in
              ap₂ ◌∷◌ (searches.alike u known)
              (ap (λ o. unwrap_or o [])
              (alike-next (shapes_along first t) (shapes_along second t) (instruction_at first (here u)) (instruction_at second (there u)) met (searches.alike u known) (λ a b one other.
              ap (shapes_along first t) (sym (here-more u met a known one))
              ∙ elim (follow met a b one other) [
                | inl was ↦ agree-step n few below t (u ++ met ∷ []) was (omega arith)
                | inr waits ↦ absurd (none-waits t (u ++ met ∷ []) waits (omega arith))
              ]
              ∙ ap (shapes_along second t) (there-more u met b known other))))
        ]

    agree : (n : ℕ) → n ≤ bound → AgreeBelow n
    agree zero few u t known low = absurd (omega arith)
    agree (suc n) few u t known low = agree-step n (omega arith) (agree n (omega arith)) t u known low

    -- no list of answers of a lower number distinguishes the brains
    none-apart : (v : List Bool) (a b : ℕ) → number v < bound → TellsApart first second v a b → ⊥
    none-apart v a b low apart =
        elim searches.start [
          | inl known ↦ apart.differ (last-shape first second v 0 0 a b (agree bound (omega arith) [] v known low) apart.one apart.other)
          | inr waits ↦ none-waits v [] waits low
        ]

-- no number of a later list is lower
least-first : (w : List Bool) (ways : List (List Bool)) → ((v : List Bool) → Contains ways v → number w < number v) → (v : List Bool) → Contains (w ∷ ways) v → number w ≤ number v
least-first w ways rising v known =
    elim (Contains-cases w v ways known) [
      | inl one ↦ subst (λ v. number w ≤ number v) one (omega arith)
      | inr later ↦ let less = rising v later in omega arith
    ]

module _ (first second : List Instr) (sound : IsBrain first) (too : IsBrain second) where
  -- no list that distinguishes the brains comes before that of the first pair
  pub least-front : (classes : List ℕ) (pair : Pair) (rest : List Pair) (front : Front first second classes pair rest) (others : List Bool) (c d : ℕ) → TellsApart first second others c d → IsNoLater front.w others
  least-front classes pair rest front others c d apart =
      elim (cases_lt (number others) (number front.w)) [
        | inl less ↦ absurd
            (none-apart first second sound too classes front.done (front.w ∷ front.ways) front.searches (number front.w) (least-first front.w front.ways front.searches.rising.0) others c d less apart)
        | inr more ↦ IsNoLater-number front.w others more
      ]

  -- the first pair whose instructions differ
  pub IsFirstDifference-front : (classes : List ℕ) (pair : Pair) (rest : List Pair) → Front first second classes pair rest → (shape_of (instruction_at first pair.first) ≡ shape_of (instruction_at second pair.second) → ⊥) →
      IsFirstDifference first second pair.answers pair.first pair.second
  IsFirstDifference-front classes pair rest front =
      subst (λ (p : Pair). (shape_of (instruction_at first p.first) ≡ shape_of (instruction_at second p.second) → ⊥) → IsFirstDifference first second p.answers p.first p.second) front.first_pair
      (λ differ.
      let lead = front.searches.lead front.w (inr (Contains-first front.w front.ways)) in
      record {
        answers = front.w;
        count = refl;
        apart = record { one = lead.one; other = lead.other; differ = differ };
        least = least-front classes pair rest front;
      })

-- if none waits, the classes are a bisimulation
module _ (first second : List Instr) (sound : IsBrain first) (too : IsBrain second) (classes : List ℕ) (done : List (List Bool)) (searches : Searches first second classes done []) where
  -- the class of a state of each brain
  abbrev class : ℕ → ℕ
  class state = slice_index classes state

  abbrev other_class : ℕ → ℕ
  other_class state = slice_index classes (length first + state)

  -- its instruction with the classes of its successors
  abbrev labelled : ℕ → List Instr
  labelled state = redirected class (instruction_at first state) ∷ []

  abbrev other_labelled : ℕ → List Instr
  other_labelled state = redirected other_class (instruction_at second state) ∷ []

  abbrev label : ℕ → List Instr
  label = of_both (length first) labelled other_labelled

  -- the states of each pair do alike
  closed : (n : ℕ) (u : List Bool) → Contains done u → number u < n → label (one_after first second u) ≡ label (length first + other_after first second u)
  closed zero u known low = absurd (omega arith)
  closed (suc n) u known low =
      elim (searches.explained u known) [
        | ByEarlier same ↦ same label (λ v was less. closed n v was (omega arith))
        | ByLater follow ↦
            join first second sound too classes done [] searches labelled other_labelled u known
            (ap (λ (x : Instr). x ∷ [])
            (redirected-alike class other_class (instruction_at first (one_after first second u)) (instruction_at second (other_after first second u)) (searches.alike u known) (λ met a b one other.
            ap class (sym (here-more first second sound too classes done [] searches u met a known one))
            ∙ elim (follow met a b one other) [
              | inl was ↦ searches.joined (u ++ met ∷ []) was
              | inr waits ↦ absurd (Contains-none (u ++ met ∷ []) waits)
            ]
            ∙ ap other_class (there-more first second sound too classes done [] searches u met b known other))))
      ]

  -- so do all states of one class
  classes-alike : (a b : ℕ) → a < length first → b < length second → class a ≡ other_class b → redirected class (instruction_at first a) ≡ redirected other_class (instruction_at second b)
  classes-alike a b low high same =
      only_first
      (sym (of_both-first (length first) labelled other_labelled a low)
      ∙ searches.links label (λ u known. closed (suc (number u)) u known (omega arith)) a (length first + b) (omega arith) (omega arith) same
      ∙ of_both-second (length first) labelled other_labelled b)
    where
      only_first : {x y : Instr} → x ∷ [] ≡ y ∷ [] → x ≡ y
      only_first one = cc

  classes-bisimulation : IsBisimulation first second (same_name (length first) (length second) class other_class)
  classes-bisimulation = record {
    inside = λ a b holds. let it = same_name-says (length first) (length second) class other_class a b holds in (it.low, it.high);
    shape = λ a b holds.
        let it = same_name-says (length first) (length second) class other_class a b holds in
        shape-from class other_class (instruction_at first a) (instruction_at second b) (classes-alike a b it.low it.high it.one);
    onward = λ a b holds.
        let it = same_name-says (length first) (length second) class other_class a b holds in
        names-related (length first) (length second) class other_class (states_of (instruction_at first a)) (states_of (instruction_at second b))
        (states-from class other_class (instruction_at first a) (instruction_at second b) (classes-alike a b it.low it.high it.one))
        (successors-below first a sound it.low) (successors-below second b too it.high);
  }

  pub AreSame-done : AreSame first second
  AreSame-done =
      let some = sound.some in
      let some_too = too.some in
      record {
        related = same_name (length first) (length second) class other_class;
        bisimulation = classes-bisimulation;
        holds = elim searches.start [
          | inl known ↦ same_name-true (length first) (length second) class other_class 0 0 (omega arith) (omega arith) (searches.joined [] known)
          | inr waits ↦ absurd (Contains-none [] waits)
        ];
      }

-- if no pair waits, the brains are the same
pub AreSame-searched : (first second : List Instr) (sound : IsBrain first) (too : IsBrain second) (classes : List ℕ) (queue : List Pair) → length queue ≡ 0 → Searching first second classes queue → AreSame first second
AreSame-searched first second sound too classes queue none searching =
    AreSame-done first second sound too classes searching.done
    (subst (Searches first second classes searching.done) (no_ways searching.ways (sym (ap (λ (pairs : List Pair). length pairs) searching.each) ∙ none)) searching.searches)
  where
    no_ways : (ways : List (List Bool)) → length (map (entry first second) ways) ≡ 0 → ways ≡ []
    no_ways [] is = refl
    no_ways (w ∷ ways) is = absurd (omega arith)
