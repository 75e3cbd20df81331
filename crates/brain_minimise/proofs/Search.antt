-- The search for the states that can be reached.
use Rattle.std.proofs.Common.{◌≡◌, ◌⊎◌, inl, inr, ℕ, zero, suc, ◌+◌, ◌*◌, ◌<◌, ◌≤◌, Bool, true, false, List, [], ◌∷◌, ◌++◌, length, slice_set, replicate, refl, sym, ap, ◌∙◌, subst, arith}
use Rattle.std.specs.List.{Contains}
use Rattle.std.proofs.lemmas.Bool.{cases_eq, cases_lt, false≢true}
use Rattle.std.proofs.lemmas.List.{get_or-replicate, get_or-set_same, get_or-set_other, get_or_past, length-replicate, length-set, length_push}
use Rattle.std.proofs.lemmas.List.Elements.{Contains-append_left, Contains-push, Contains-push_cases}
use Rattle.list_lemmas.proofs.AllElements.{AllByRecursion-at}
use Rattle.brain_read.specs.declared.instr.Instr.{Instr}
use Rattle.brain_read.specs.declared.instr.Instr.TheVariants.{Sense, Mark, Unmark, PickUp, Drop, Turn, Move, Flip}
use Rattle.brain_read.specs.Grammar.{states_of}
use Rattle.brain_read.specs.Soundness.{IsSound}
use Rattle.brain_read.proofs.SoundnessLemmas.{states_of-below}
use Rattle.ant_turn.specs.Turn.{instruction_at}
use Rattle.brain_minimise.specs.Reach.{IsReachable}
use Rattle.brain_minimise.specs.Reach.IsReachable.{Start, Next}
use Rattle.brain_minimise.specs.Inner.Seen.{AreSeen, is_seen, with_waiting}
use Rattle.brain_minimise.specs.Inner.Successors.{first_next, last_next}

-- how many states weren't seen
abbrev pub unseen : List Bool → ℕ
unseen [] = 0
unseen (true ∷ seen) = unseen seen
unseen (false ∷ seen) = suc (unseen seen)

-- both successors of a state were seen
pub record AreFollowed (brain : List Instr) (seen : List Bool) (state : ℕ) : Type 0 where
  pub first : is_seen seen (first_next (instruction_at brain state)) ≡ true
  pub last : is_seen seen (last_next (instruction_at brain state)) ≡ true

-- what stays in the search, except for the successors of one state: what was seen can be reached, and waits or was
-- followed
pub record ExploresBut (but : ℕ) (brain : List Instr) (seen : List Bool) (waiting : List ℕ) : Type 0 where
  pub each : length seen ≡ length brain
  pub start : is_seen seen 0 ≡ true
  pub waits : (state : ℕ) → Contains waiting state → (state < length brain) × (is_seen seen state ≡ true)
  pub only : (state : ℕ) → is_seen seen state ≡ true → IsReachable brain state
  pub follows : (state : ℕ) → is_seen seen state ≡ true → (Contains waiting state ⊎ (state ≡ but)) ⊎ AreFollowed brain seen state

-- what stays in the search
pub record Explores (brain : List Instr) (seen : List Bool) (waiting : List ℕ) : Type 0 where
  pub each : length seen ≡ length brain
  pub start : is_seen seen 0 ≡ true
  pub waits : (state : ℕ) → Contains waiting state → (state < length brain) × (is_seen seen state ≡ true)
  pub only : (state : ℕ) → is_seen seen state ≡ true → IsReachable brain state
  pub follows : (state : ℕ) → is_seen seen state ≡ true → Contains waiting state ⊎ AreFollowed brain seen state

-- a state is seen after a visit
seen_now : (seen : List Bool) (state : ℕ) → state < length seen → is_seen (slice_set seen state true) state ≡ true
seen_now seen state below = get_or-set_same seen state true false below

-- what was seen stays so
seen_stays : (seen : List Bool) (t state : ℕ) → t < length seen → is_seen seen state ≡ true → is_seen (slice_set seen t true) state ≡ true
seen_stays seen t state below was =
    elim (cases_eq state t) [
      | inl one ↦ ap (is_seen (slice_set seen t true)) one ∙ seen_now seen t below
      | inr apart ↦ get_or-set_other seen t state true false apart ∙ was
    ]

-- what is seen now was visited or seen before
seen_cases : (seen : List Bool) (t state : ℕ) → is_seen (slice_set seen t true) state ≡ true → (state ≡ t) ⊎ (is_seen seen state ≡ true)
seen_cases seen t state now =
    elim (cases_eq state t) [
      | inl one ↦ inl one
      | inr apart ↦ inr (sym (get_or-set_other seen t state true false apart) ∙ now)
    ]

-- waiting states still wait
waits_still : (before : Bool) (waiting : List ℕ) (t state : ℕ) → Contains waiting state → Contains (with_waiting waiting before t) state
waits_still true waiting t state there = there
waits_still false waiting t state there = Contains-append_left waiting (t ∷ []) state there

-- what waits now waited before, or is the new state
waits_cases : (before : Bool) (waiting : List ℕ) (t state : ℕ) → Contains (with_waiting waiting before t) state → Contains waiting state ⊎ (t ≡ state)
waits_cases true waiting t state there = inl there
waits_cases false waiting t state there = Contains-push_cases waiting t state there

-- both successors stay seen
follows_still : (brain : List Instr) (seen : List Bool) (t state : ℕ) → t < length seen → AreFollowed brain seen state → AreFollowed brain (slice_set seen t true) state
follows_still brain seen t state below followed = record {
  first = seen_stays seen t (first_next (instruction_at brain state)) below followed.first;
  last = seen_stays seen t (last_next (instruction_at brain state)) below followed.last;
}

-- a visited state waits, or was seen before
visited_waits : (before : Bool) (brain : List Instr) (seen : List Bool) (waiting : List ℕ) (but t : ℕ) → is_seen seen t ≡ before → t < length seen → ExploresBut but brain seen waiting →
    (Contains (with_waiting waiting before t) t ⊎ (t ≡ but)) ⊎ AreFollowed brain (slice_set seen t true) t
visited_waits false brain seen waiting but t was below explores = inl (inl (Contains-push waiting t))
visited_waits true brain seen waiting but t was below explores =
    elim (explores.follows t was) [
      | inl early ↦ inl early
      | inr followed ↦ inr (follows_still brain seen t t below followed)
    ]

-- a visit
visit_but : (but : ℕ) (brain : List Instr) (seen : List Bool) (waiting : List ℕ) (t : ℕ) → t < length brain → IsReachable brain t → ExploresBut but brain seen waiting →
    ExploresBut but brain (slice_set seen t true) (with_waiting waiting (is_seen seen t) t)
visit_but but brain seen waiting t below reached explores =
    let each = explores.each in
    let inside : t < length seen = omega arith in
    let before : Bool = is_seen seen t in
    record {
      each = length-set seen t true ∙ explores.each;
      start = seen_stays seen t 0 inside explores.start;
      waits = λ state there. elim (waits_cases before waiting t state there) [
        | inl early ↦ ((explores.waits state early).0, seen_stays seen t state inside (explores.waits state early).1)
        | inr one ↦ (subst (λ s. s < length brain) one below, subst (λ s. is_seen (slice_set seen t true) s ≡ true) one (seen_now seen t inside))
      ];
      only = λ state now. elim (seen_cases seen t state now) [
        | inl one ↦ subst (IsReachable brain) (sym one) reached
        | inr was ↦ explores.only state was
      ];
      follows = λ state now. elim (seen_cases seen t state now) [
        | inl one ↦ subst (λ s. (Contains (with_waiting waiting before t) s ⊎ (s ≡ but)) ⊎ AreFollowed brain (slice_set seen t true) s) (sym one) (visited_waits before brain seen waiting but t refl inside explores)
        | inr was ↦ elim (explores.follows state was) [
          | inl early ↦ elim early [
            | inl there ↦ inl (inl (waits_still before waiting t state there))
            | inr one ↦ inl (inr one)
          ]
          | inr followed ↦ inr (follows_still brain seen t state inside followed)
        ]
      ];
    }

-- a state is taken from those that wait
take_one : (brain : List Instr) (seen : List Bool) (rest : List ℕ) (state : ℕ) → Explores brain seen (rest ++ state ∷ []) → ExploresBut state brain seen rest
take_one brain seen rest state explores = record {
  each = explores.each;
  start = explores.start;
  waits = λ s there. explores.waits s (Contains-append_left rest (state ∷ []) s there);
  only = explores.only;
  follows = λ s was. elim (explores.follows s was) [
    | inl there ↦ elim (Contains-push_cases rest state s there) [
      | inl early ↦ inl (inl early)
      | inr one ↦ inl (inr (sym one))
    ]
    | inr followed ↦ inr followed
  ];
}

-- and is followed
follow_one : (brain : List Instr) (seen : List Bool) (waiting : List ℕ) (state : ℕ) → ExploresBut state brain seen waiting → AreFollowed brain seen state → Explores brain seen waiting
follow_one brain seen waiting state explores followed = record {
  each = explores.each;
  start = explores.start;
  waits = explores.waits;
  only = explores.only;
  follows = λ s was. elim (explores.follows s was) [
    | inl early ↦ elim early [
      | inl there ↦ inl there
      | inr one ↦ inr (subst (AreFollowed brain seen) (sym one) followed)
    ]
    | inr there ↦ inr there
  ];
}

-- the first and the last state are among those that an instruction names
first_named : (x : Instr) → Contains (states_of x) (first_next x)
first_named (Sense sight met unmet condition) = (0, omega arith, refl)
first_named it = (0, omega arith, refl)

last_named : (x : Instr) → Contains (states_of x) (last_next x)
last_named (Sense sight met unmet condition) = (1, omega arith, refl)
last_named (Mark i next) = (0, omega arith, refl)
last_named (Unmark i next) = (0, omega arith, refl)
last_named (Drop next) = (0, omega arith, refl)
last_named (Turn side next) = (0, omega arith, refl)
last_named it = (1, omega arith, refl)

-- one of one, and one of two
one_of_one : (a state : ℕ) → Contains (a ∷ []) state → (state ≡ a) ⊎ (state ≡ a)
one_of_one a state (zero, below, is) = inl (sym is)
one_of_one a state (suc k, below, is) = absurd (omega arith)

one_of_two : (a b state : ℕ) → Contains (a ∷ b ∷ []) state → (state ≡ a) ⊎ (state ≡ b)
one_of_two a b state (zero, below, is) = inl (sym is)
one_of_two a b state (suc zero, below, is) = inr (sym is)
one_of_two a b state (suc (suc k), below, is) = absurd (omega arith)

-- it names no others
named_cases : (x : Instr) (state : ℕ) → Contains (states_of x) state → (state ≡ first_next x) ⊎ (state ≡ last_next x)
named_cases (Sense sight met unmet condition) state there = one_of_two met unmet state there
named_cases (Mark i next) state there = one_of_one next state there
named_cases (Unmark i next) state there = one_of_one next state there
named_cases (PickUp met unmet) state there = one_of_two met unmet state there
named_cases (Drop next) state there = one_of_one next state there
named_cases (Turn side next) state there = one_of_one next state there
named_cases (Move met unmet) state there = one_of_two met unmet state there
named_cases (Flip bound met unmet) state there = one_of_two met unmet state there

-- the first and the last state of a sound instruction are states of the brain
pub first-below : (n : ℕ) (x : Instr) → IsSound n x → first_next x < n
first-below n x sound = AllByRecursion-at (λ state. state < n) (states_of x) (first_next x) (states_of-below n x sound) (first_named x)

pub last-below : (n : ℕ) (x : Instr) → IsSound n x → last_next x < n
last-below n x sound = AllByRecursion-at (λ state. state < n) (states_of x) (last_next x) (states_of-below n x sound) (last_named x)

-- a state is taken, and its two successors are visited
pub Explores-more : (brain : List Instr) (seen : List Bool) (rest : List ℕ) (state first last : ℕ) → Explores brain seen (rest ++ state ∷ []) → first ≡ first_next (instruction_at brain state) → last ≡ last_next (instruction_at brain state) → first < length brain → last < length brain →
    Explores brain (slice_set (slice_set seen first true) last true) (with_waiting (with_waiting rest (is_seen seen first) first) (is_seen (slice_set seen first true) last) last)
Explores-more brain seen rest state first last explores is_first is_last low high =
    let each = explores.each in
    let inside : first < length seen = omega arith in
    let size : length (slice_set seen first true) ≡ length seen = length-set seen first true in
    let inside_too : last < length (slice_set seen first true) = omega arith in
    let here : IsReachable brain state = explores.only state (explores.waits state (Contains-push rest state)).1 in
    let to_first : IsReachable brain first = Next state first here (subst (Contains (states_of (instruction_at brain state))) (sym is_first) (first_named (instruction_at brain state))) in
    let to_last : IsReachable brain last = Next state last here (subst (Contains (states_of (instruction_at brain state))) (sym is_last) (last_named (instruction_at brain state))) in
    let one = visit_but state brain seen rest first low to_first (take_one brain seen rest state explores) in
    let two = visit_but state brain (slice_set seen first true) (with_waiting rest (is_seen seen first) first) last high to_last one in
    follow_one brain (slice_set (slice_set seen first true) last true) (with_waiting (with_waiting rest (is_seen seen first) first) (is_seen (slice_set seen first true) last) last) state two (record {
      first = subst (λ s. is_seen (slice_set (slice_set seen first true) last true) s ≡ true) is_first (seen_stays (slice_set seen first true) last first inside_too (seen_now seen first inside));
      last = subst (λ s. is_seen (slice_set (slice_set seen first true) last true) s ≡ true) is_last (seen_now (slice_set seen first true) last inside_too);
    })

-- nothing was seen at first
none_seen : (n state : ℕ) → is_seen (replicate n false) state ≡ false
none_seen n state =
    elim (cases_lt state n) [
      | inl below ↦ get_or-replicate n state false false below
      | inr above ↦ let size : length (replicate n false) ≡ n = length-replicate n false in get_or_past (replicate n false) state false (omega arith)
    ]

-- state 0 is visited
pub Explores-start : (brain : List Instr) (n : ℕ) → n ≡ length brain → 1 ≤ length brain → Explores brain (slice_set (replicate n false) 0 true) (with_waiting [] (is_seen (replicate n false) 0) 0)
Explores-start brain n is_length some =
    let size : length (replicate n false) ≡ n = length-replicate n false in
    let inside : 0 < length (replicate n false) = omega arith in
    let seen : List Bool = slice_set (replicate n false) 0 true in
    subst (λ before. Explores brain seen (with_waiting [] before 0)) (sym (none_seen n 0)) (record {
      each = length-set (replicate n false) 0 true ∙ size ∙ is_length;
      start = seen_now (replicate n false) 0 inside;
      waits = λ state there. elim (Contains-push_cases [] 0 state there) [
        | inl early ↦ absurd (omega (arith, early.1))
        | inr one ↦ (omega arith, subst (λ s. is_seen seen s ≡ true) one (seen_now (replicate n false) 0 inside))
      ];
      only = λ state now. elim (seen_cases (replicate n false) 0 state now) [
        | inl one ↦ subst (IsReachable brain) (sym one) Start
        | inr was ↦ absurd (false≢true (sym (none_seen n state) ∙ was))
      ];
      follows = λ state now. elim (seen_cases (replicate n false) 0 state now) [
        | inl one ↦ inl (subst (Contains ([] ++ 0 ∷ [])) (sym one) (Contains-push [] 0))
        | inr was ↦ absurd (false≢true (sym (none_seen n state) ∙ was))
      ];
    })

-- once none waits, each state that can be reached was seen
all_seen : (brain : List Instr) (seen : List Bool) → Explores brain seen [] → (state : ℕ) → IsReachable brain state → is_seen seen state ≡ true
all_seen brain seen explores state Start = explores.start
all_seen brain seen explores state (Next before _ reached named) =
    elim (explores.follows before (all_seen brain seen explores before reached)) [
      | inl there ↦ absurd (omega (arith, there.1))
      | inr followed ↦ elim (named_cases (instruction_at brain before) state named) [
        | inl one ↦ ap (is_seen seen) one ∙ followed.first
        | inr one ↦ ap (is_seen seen) one ∙ followed.last
      ]
    ]

-- so the seen states are those
pub Explores-all : (brain : List Instr) (seen : List Bool) (waiting : List ℕ) → length waiting ≡ 0 → Explores brain seen waiting → AreSeen brain seen
Explores-all brain seen [] none explores = record { each = explores.each; only = explores.only; all = all_seen brain seen explores }
Explores-all brain seen (state ∷ waiting) none explores = absurd (omega arith)

-- a visit of a seen state
unseen-again : (seen : List Bool) (t : ℕ) → is_seen seen t ≡ true → unseen (slice_set seen t true) ≡ unseen seen
unseen-again (false ∷ seen) zero was = absurd (cc)
unseen-again (true ∷ seen) (suc t) was = unseen-again seen t was
unseen-again (false ∷ seen) (suc t) was = ap suc (unseen-again seen t was)
unseen-again it t was = refl

-- and of one that wasn't
unseen-new : (seen : List Bool) (t : ℕ) → t < length seen → is_seen seen t ≡ false → suc (unseen (slice_set seen t true)) ≡ unseen seen
unseen-new [] t below was = absurd (omega arith)
unseen-new (true ∷ seen) zero below was = absurd (cc)
unseen-new (false ∷ seen) zero below was = refl
unseen-new (true ∷ seen) (suc t) below was = unseen-new seen t (omega arith) was
unseen-new (false ∷ seen) (suc t) below was = ap suc (unseen-new seen t (omega arith) was)

-- a visit leaves no more work
visit-work : (before : Bool) (seen : List Bool) (waiting : List ℕ) (t : ℕ) → is_seen seen t ≡ before → t < length seen → 2 * unseen (slice_set seen t true) + length (with_waiting waiting before t) ≤ 2 * unseen seen + length waiting
visit-work true seen waiting t was below = let same = unseen-again seen t was in omega arith
visit-work false seen waiting t was below =
    let fewer : suc (unseen (slice_set seen t true)) ≡ unseen seen = unseen-new seen t below was in
    let more : length (waiting ++ t ∷ []) ≡ length waiting + 1 = length_push waiting t in
    omega arith

-- a step leaves less
pub step-work : (seen : List Bool) (rest : List ℕ) (state first last : ℕ) → first < length seen → last < length seen →
    2 * unseen (slice_set (slice_set seen first true) last true) + length (with_waiting (with_waiting rest (is_seen seen first) first) (is_seen (slice_set seen first true) last) last)
    < 2 * unseen seen + length (rest ++ state ∷ [])
step-work seen rest state first last low high =
    let size : length (slice_set seen first true) ≡ length seen = length-set seen first true in
    let one = visit-work (is_seen seen first) seen rest first refl low in
    let two = visit-work (is_seen (slice_set seen first true) last) (slice_set seen first true) (with_waiting rest (is_seen seen first) first) last refl (omega arith) in
    let more : length (rest ++ state ∷ []) ≡ length rest + 1 = length_push rest state in
    omega arith

-- the state that is taken is one of the brain
pub Explores-below : (brain : List Instr) (seen : List Bool) (waiting rest : List ℕ) (state : ℕ) → Explores brain seen waiting → waiting ≡ rest ++ state ∷ [] → state < length brain
Explores-below brain seen waiting rest state explores is = (explores.waits state (subst (λ list. Contains list state) (sym is) (Contains-push rest state))).0
