-- One round of refining: each class is parted into the states that do as its least member and the others.
use Rattle.std.proofs.Common.{◌≡◌, ◌⊎◌, inl, inr, ℕ, zero, suc, ◌+◌, ◌<◌, ◌≤◌, Bool, true, false, List, [], ◌∷◌, ◌++◌, length, slice_index, slice_index_or, slice_set, replicate, Option, Some, None, unwrap_or, refl, sym, ap, ◌∙◌, subst, arith}
use Rattle.std.proofs.lemmas.Bool.{cases_eq, cases_lt}
use Rattle.std.proofs.lemmas.List.{get_or_append_left, get_or-replicate, get_or-set_same, get_or-set_other, get_or_past, get_or_push, length-replicate, length-set, length_push}
use Rattle.std.proofs.lemmas.Option.{none-some, same_Some}
use Rattle.brain_read.specs.declared.instr.Instr.{Instr}
use Rattle.ant_turn.specs.Renumber.{redirected}
use Rattle.ant_turn.specs.Turn.{instruction_at}
use Rattle.brain_minimise.specs.Inner.Classes.{AreClasses, DoAlike, IsNewClass, slack}
use Rattle.brain_minimise.specs.Inner.Classes.IsNewClass.{Stays, Parts}
use Rattle.brain_minimise.proofs.Equivalences.{alike_by}

-- what stays in the round, before the state i
pub record IsRefining (brain : List Instr) (classes : List ℕ) (heirs : List (Option ℕ)) (finer : List ℕ) (parted : Bool) (i : ℕ) : Type 0 where
  pub heirs_each : length heirs ≡ length brain
  pub finer_each : length finer ≡ i
  pub heir : (least first : ℕ) → slice_index_or heirs least None ≡ Some first → (first < i) × (slice_index classes first ≡ least) × (DoAlike brain classes first least → ⊥)
  pub new : (state : ℕ) → state < i → IsNewClass brain classes heirs state (slice_index finer state)
  pub low : (state : ℕ) → state < i → slice_index finer state ≤ state
  pub whole : parted ≡ false → (state : ℕ) → state < i → DoAlike brain classes state (slice_index classes state)
  pub parts : parted ≡ true → (state : ℕ) × (state < i) × (DoAlike brain classes state (slice_index classes state) → ⊥)

module _ (brain : List Instr) (classes : List ℕ) where
  -- the list with one more class
  older : (finer : List ℕ) (class state : ℕ) → state < length finer → slice_index (finer ++ class ∷ []) state ≡ slice_index finer state
  older finer class state below = get_or_append_left finer (class ∷ []) 0 state below

  -- a new class, if the list of heirs keeps what it had
  moved : (heirs others : List (Option ℕ)) (state class other : ℕ) → class ≡ other → ((first : ℕ) → slice_index_or heirs (slice_index classes state) None ≡ Some first → slice_index_or others (slice_index classes state) None ≡ Some first) → IsNewClass brain classes heirs state class → IsNewClass brain classes others state other
  moved heirs others state class other one keeps (Stays alike is) = Stays alike (sym one ∙ is)
  moved heirs others state class other one keeps (Parts unlike is) = Parts unlike (ap (slice_index_or others (slice_index classes state)) refl ∙ keeps class is ∙ ap Some one)

  -- a state that does as its least member stays
  pub IsRefining-stays : (heirs : List (Option ℕ)) (finer : List ℕ) (parted : Bool) (i least : ℕ) → AreClasses brain classes → IsRefining brain classes heirs finer parted i → i < length brain → least ≡ slice_index classes i → DoAlike brain classes i least →
      IsRefining brain classes heirs (finer ++ least ∷ []) parted (i + 1)
  IsRefining-stays heirs finer parted i least are refining below is alike =
      let size = refining.finer_each in
      let own : DoAlike brain classes i (slice_index classes i) = subst (DoAlike brain classes i) is alike in
      let last : slice_index (finer ++ least ∷ []) i ≡ least = get_or_push finer least 0 i refining.finer_each in
      record {
        heirs_each = refining.heirs_each;
        finer_each = length_push finer least ∙ ap (λ n. n + 1) refining.finer_each;
        heir = λ l first there. (omega (arith, (refining.heir l first there).0), (refining.heir l first there).1, (refining.heir l first there).2);
        new = λ state early. elim (cases_lt state i) [
          | inl before ↦ moved heirs heirs state (slice_index finer state) (slice_index (finer ++ least ∷ []) state) (sym (older finer least state (omega arith))) (λ first there. there) (refining.new state before)
          | inr after ↦ let one : i ≡ state = omega arith in subst (λ s. IsNewClass brain classes heirs s (slice_index (finer ++ least ∷ []) s)) one (Stays own (last ∙ is))
        ];
        low = λ state early. elim (cases_lt state i) [
          | inl before ↦ let same = older finer least state (omega arith) in let was = refining.low state before in omega arith
          | inr after ↦ let one : i ≡ state = omega arith in let low = are.low i below in subst (λ s. slice_index (finer ++ least ∷ []) s ≤ s) one (omega arith)
        ];
        whole = λ none state early. elim (cases_lt state i) [
          | inl before ↦ refining.whole none state before
          | inr after ↦ let one : i ≡ state = omega arith in subst (λ s. DoAlike brain classes s (slice_index classes s)) one own
        ];
        parts = λ some. let it = refining.parts some in (it.0, omega (arith, it.1), it.2);
      }

  -- the heir of a class
  heir_of : (o : Option ℕ) (i class : ℕ) → class ≡ unwrap_or o i → ((o ≡ None) × (class ≡ i)) ⊎ (o ≡ Some class)
  heir_of None i class is = inl (refl, is)
  heir_of (Some first) i class is = inr (ap Some (sym is))

  -- one that doesn't goes to its class's heir
  pub IsRefining-parts : (heirs : List (Option ℕ)) (finer : List ℕ) (parted : Bool) (i least class : ℕ) → AreClasses brain classes → IsRefining brain classes heirs finer parted i → i < length brain → least ≡ slice_index classes i → (DoAlike brain classes i least → ⊥) → class ≡ unwrap_or (slice_index_or heirs least None) i →
      IsRefining brain classes (slice_set heirs least (Some class)) (finer ++ class ∷ []) true (i + 1)
  IsRefining-parts heirs finer parted i least class are refining below is unlike chosen =
      let size = refining.finer_each in
      let room = refining.heirs_each in
      let low = are.low i below in
      let inside : least < length heirs = omega arith in
      let heirs' : List (Option ℕ) = slice_set heirs least (Some class) in
      let finer' : List ℕ = finer ++ class ∷ [] in
      let own : DoAlike brain classes i (slice_index classes i) → ⊥ = λ alike. unlike (subst (DoAlike brain classes i) (sym is) alike) in
      let last : slice_index finer' i ≡ class = get_or_push finer class 0 i refining.finer_each in
      let noted : slice_index_or heirs' least None ≡ Some class = get_or-set_same heirs least (Some class) None inside in
      let which : ((slice_index_or heirs least None ≡ None) × (class ≡ i)) ⊎ (slice_index_or heirs least None ≡ Some class) = heir_of (slice_index_or heirs least None) i class chosen in
      let keeps : (l first : ℕ) → slice_index_or heirs l None ≡ Some first → slice_index_or heirs' l None ≡ Some first = λ l first there. elim (cases_eq l least) [
        | inl one ↦ elim which [
          | inl new ↦ absurd (none-some first (sym new.0 ∙ ap (λ k. slice_index_or heirs k None) (sym one) ∙ there))
          | inr old ↦ ap (λ k. slice_index_or heirs' k None) one ∙ noted ∙ sym old ∙ ap (λ k. slice_index_or heirs k None) (sym one) ∙ there
        ]
        | inr apart ↦ get_or-set_other heirs least l (Some class) None apart ∙ there
      ] in
      let fact : (class < i + 1) × (slice_index classes class ≡ least) × (DoAlike brain classes class least → ⊥) = elim which [
        | inl new ↦ (omega (arith, new.1), ap (slice_index classes) new.1 ∙ sym is, subst (λ s. DoAlike brain classes s least → ⊥) (sym new.1) unlike)
        | inr old ↦ (omega (arith, (refining.heir least class old).0), (refining.heir least class old).1, (refining.heir least class old).2)
      ] in
      record {
        heirs_each = length-set heirs least (Some class) ∙ refining.heirs_each;
        finer_each = length_push finer class ∙ ap (λ n. n + 1) refining.finer_each;
        heir = λ l first there. elim (cases_eq l least) [
          | inl one ↦
              let same : class ≡ first = same_Some class first (sym noted ∙ ap (λ k. slice_index_or heirs' k None) (sym one) ∙ there) in
              subst (λ k. (first < i + 1) × (slice_index classes first ≡ k) × (DoAlike brain classes first k → ⊥)) (sym one)
              (subst (λ c. (c < i + 1) × (slice_index classes c ≡ least) × (DoAlike brain classes c least → ⊥)) same fact)
          | inr apart ↦
              let was = refining.heir l first (sym (get_or-set_other heirs least l (Some class) None apart) ∙ there) in
              (omega (arith, was.0), was.1, was.2)
        ];
        new = λ state early. elim (cases_lt state i) [
          | inl before ↦ moved heirs heirs' state (slice_index finer state) (slice_index finer' state) (sym (older finer class state (omega arith))) (λ first there. keeps (slice_index classes state) first there) (refining.new state before)
          | inr after ↦ let one : i ≡ state = omega arith in subst (λ s. IsNewClass brain classes heirs' s (slice_index finer' s)) one (Parts own (ap (λ k. slice_index_or heirs' k None) (sym is) ∙ noted ∙ ap Some (sym last)))
        ];
        low = λ state early. elim (cases_lt state i) [
          | inl before ↦ let same = older finer class state (omega arith) in let was = refining.low state before in omega arith
          | inr after ↦ let one : i ≡ state = omega arith in subst (λ s. slice_index finer' s ≤ s) one (omega (arith, fact.0))
        ];
        whole = λ none. absurd (cc);
        parts = λ _. (i, omega arith, own);
      }

  -- after the last state
  module _ (heirs : List (Option ℕ)) (finer : List ℕ) (parted : Bool) (are : AreClasses brain classes) (refining : IsRefining brain classes heirs finer parted (length brain)) where
    -- a class's name does as itself
    own_alike : (state : ℕ) → state < length brain → (DoAlike brain classes (slice_index classes state) (slice_index classes (slice_index classes state)) → ⊥) → ⊥
    own_alike state below unlike = unlike (ap (λ s. redirected (slice_index classes) (instruction_at brain s)) (sym (are.own state below)))

    -- a state of the class of which this is the name
    finer-name : (state : ℕ) → state < length brain → IsNewClass brain classes heirs (slice_index classes state) (slice_index finer (slice_index classes state)) → slice_index finer (slice_index classes state) ≡ slice_index classes state
    finer-name state below (Stays alike is) = is ∙ are.own state below
    finer-name state below (Parts unlike is) = absurd (own_alike state below unlike)

    finer-heir : (state class : ℕ) → slice_index_or heirs (slice_index classes state) None ≡ Some class → IsNewClass brain classes heirs class (slice_index finer class) → slice_index finer class ≡ class
    finer-heir state class noted (Stays alike is) =
        let it = refining.heir (slice_index classes state) class noted in
        absurd (it.2 (subst (DoAlike brain classes class) it.1 alike))
    finer-heir state class noted (Parts unlike is) =
        let it = refining.heir (slice_index classes state) class noted in
        same_Some (slice_index finer class) class (sym is ∙ ap (λ k. slice_index_or heirs k None) it.1 ∙ noted)

    finer-own : (state : ℕ) → state < length brain → IsNewClass brain classes heirs state (slice_index finer state) → slice_index finer (slice_index finer state) ≡ slice_index finer state
    finer-own state below (Stays alike is) =
        let low = are.low state below in
        ap (slice_index finer) is ∙ finer-name state below (refining.new (slice_index classes state) (omega arith)) ∙ sym is
    finer-own state below (Parts unlike is) =
        let it = refining.heir (slice_index classes state) (slice_index finer state) is in
        finer-heir state (slice_index finer state) is (refining.new (slice_index finer state) it.0)

    -- two states that do alike, of one class, go together
    together : (a b : ℕ) → slice_index classes a ≡ slice_index classes b → DoAlike brain classes a b → IsNewClass brain classes heirs a (slice_index finer a) → IsNewClass brain classes heirs b (slice_index finer b) → slice_index finer a ≡ slice_index finer b
    together a b one alike (Stays _ is) (Stays _ too) = is ∙ one ∙ sym too
    together a b one alike (Stays mine is) (Parts unlike too) =
        absurd (unlike (sym alike ∙ mine ∙ ap (λ s. redirected (slice_index classes) (instruction_at brain s)) one))
    together a b one alike (Parts unlike is) (Stays yours too) =
        absurd (unlike (alike ∙ yours ∙ ap (λ s. redirected (slice_index classes) (instruction_at brain s)) (sym one)))
    together a b one alike (Parts _ is) (Parts _ too) =
        same_Some (slice_index finer a) (slice_index finer b) (sym is ∙ ap (λ k. slice_index_or heirs k None) one ∙ too)

    -- the halves are classes again
    pub IsRefining-classes : AreClasses brain finer
    IsRefining-classes = record {
      each = refining.finer_each;
      low = refining.low;
      own = λ state below. finer-own state below (refining.new state below);
      all = λ related bisimulation a b holds.
          let inside = bisimulation.inside a b holds in
          together a b (are.all related bisimulation a b holds) (alike_by brain classes related bisimulation (are.all related bisimulation) a b holds) (refining.new a inside.0) (refining.new b inside.1);
    }

    -- no class has a lower name than before
    no_lower : (state : ℕ) → IsNewClass brain classes heirs state (slice_index finer state) → slice_index classes state ≤ slice_index finer state
    no_lower state (Stays alike is) = omega arith
    no_lower state (Parts unlike is) =
        let it = refining.heir (slice_index classes state) (slice_index finer state) is in
        let same : slice_index classes (slice_index finer state) ≡ slice_index classes state = it.1 in
        let low = are.low (slice_index finer state) it.0 in
        omega arith

    -- and a state that parted has a higher one
    higher : (state : ℕ) → state < length brain → (DoAlike brain classes state (slice_index classes state) → ⊥) → IsNewClass brain classes heirs state (slice_index finer state) → slice_index classes state < slice_index finer state
    higher state below differs (Stays alike is) = absurd (differs alike)
    higher state below differs (Parts unlike is) =
        let it = refining.heir (slice_index classes state) (slice_index finer state) is in
        elim (cases_lt (slice_index classes state) (slice_index finer state)) [
          | inl more ↦ more
          | inr less ↦
              let least = no_lower state (refining.new state below) in
              let one : slice_index classes state ≡ slice_index finer state = omega arith in
              absurd (it.2 (ap (λ s. redirected (slice_index classes) (instruction_at brain s)) (sym one)))
        ]

-- how far the names are below their states sinks if no name is lower
slack-le : (i : ℕ) (classes finer : List ℕ) → length classes ≡ length finer → ((k : ℕ) → k < length classes → slice_index classes k ≤ slice_index finer k) → slack i finer ≤ slack i classes
slack-le i [] [] same no_lower = omega arith
slack-le i (c ∷ classes) (d ∷ finer) same no_lower =
    let here : c ≤ d = no_lower 0 (omega arith) in
    let rest : slack (i + 1) finer ≤ slack (i + 1) classes = slack-le (i + 1) classes finer (omega arith) (λ k below. no_lower (suc k) (omega arith)) in
    omega arith
slack-le i it that same no_lower = absurd (omega arith)

-- and really where one is higher
slack-lt : (i : ℕ) (classes finer : List ℕ) → length classes ≡ length finer → ((k : ℕ) → k < length classes → slice_index classes k ≤ slice_index finer k) → (k : ℕ) → k < length classes → slice_index classes k < slice_index finer k → slice_index finer k ≤ i + k → slack i finer < slack i classes
slack-lt i (c ∷ classes) (d ∷ finer) same no_lower zero below more low =
    let rest : slack (i + 1) finer ≤ slack (i + 1) classes = slack-le (i + 1) classes finer (omega arith) (λ k below. no_lower (suc k) (omega arith)) in
    omega arith
slack-lt i (c ∷ classes) (d ∷ finer) same no_lower (suc k) below more low =
    let here : c ≤ d = no_lower 0 (omega arith) in
    let rest : slack (i + 1) finer < slack (i + 1) classes = slack-lt (i + 1) classes finer (omega arith) (λ k below. no_lower (suc k) (omega arith)) k (omega arith) more (omega arith) in
    omega arith
slack-lt i it finer same no_lower k below more low = absurd (omega arith)

-- a round in which a state parted leaves less
pub IsRefining-finer : (brain : List Instr) (classes : List ℕ) (heirs : List (Option ℕ)) (finer : List ℕ) (parted : Bool) → AreClasses brain classes → IsRefining brain classes heirs finer parted (length brain) → parted ≡ true → slack 0 finer < slack 0 classes
IsRefining-finer brain classes heirs finer parted are refining some =
    let it = refining.parts some in
    let old = are.each in
    let new = refining.finer_each in
    let inside : it.0 < length classes = omega (arith, it.1) in
    let low = refining.low it.0 it.1 in
    slack-lt 0 classes finer (omega arith) (λ k below. no_lower brain classes heirs finer parted are refining k (refining.new k (omega arith))) it.0 inside (higher brain classes heirs finer parted are refining it.0 it.1 it.2 (refining.new it.0 it.1)) (omega arith)

-- at first all states are of one class
pub AreClasses-one : (brain : List Instr) (n : ℕ) → n ≡ length brain → AreClasses brain (replicate n 0)
AreClasses-one brain n is_length = record {
  each = length-replicate n 0 ∙ is_length;
  low = λ state below. let zero_there = named_zero n state in omega arith;
  own = λ state below. named_zero n (slice_index (replicate n 0) state) ∙ sym (named_zero n state);
  all = λ related bisimulation a b holds. named_zero n a ∙ sym (named_zero n b);
}
  where
    named_zero : (n state : ℕ) → slice_index (replicate n 0) state ≡ 0
    named_zero n state =
        elim (cases_lt state n) [
          | inl below ↦ get_or-replicate n state 0 0 below
          | inr above ↦ let zeros : List ℕ = replicate n 0 in let size : length zeros ≡ n = length-replicate n 0 in get_or_past zeros state 0 (omega arith)
        ]
