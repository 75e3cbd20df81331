-- The reports of turns and rounds, one after another.
use Rattle.std.proofs.Common.{◌≡◌, ℕ, zero, suc, ◌+◌, ◌-◌, ◌<◌, ◌≤◌, List, [], ◌++◌, refl, sym, ◌∙◌, ap, ap₂, append_assoc, append-nil, add-one, lt-ltb, le-ltb, arith}
use Rattle.std.specs.Prelude.{if◌then◌else◌, nat_lt}
use Rattle.std.specs.List.{flat_map}
use Rattle.std.proofs.Math.Path.{fun_ext}
use Rattle.std.proofs.lemmas.Bool.{cond-false, cond-true, cond_both}
use Rattle.std.proofs.lemmas.Grind.{flat_map-append}
use Rattle.ant_turn.specs.Minds.{Minds}
use Rattle.ant_turn.specs.Rounds.{Moment, after_rounds, after_turns}
use Rattle.match_run.specs.Told.{Telling, from_round, told_in_round, told_in_rounds, told_in_turns}

-- a list that grows by a part at each step begins with what it was
grown : {A : Type 0} (all part : ℕ → List A) → ((n : ℕ) → all (n + 1) ≡ all n ++ part n) → (i k : ℕ) → (rest : List A) × (all (i + k) ≡ all i ++ rest)
grown all part more i zero = ([], ap all (let e : i + 0 ≡ i = omega arith in e) ∙ sym (append-nil (all i)))
grown all part more i (suc k) =
    let front = grown all part more i k in (
      front.0 ++ part (i + k),
      ap all (let e : i + suc k ≡ (i + k) + 1 = omega arith in e)
          ∙ more (i + k)
          ∙ ap (λ t. t ++ part (i + k)) front.1
          ∙ append_assoc (all i) front.0 (part (i + k)),
    )

-- also up to a later step
grown-front : {A : Type 0} (all part : ℕ → List A) → ((n : ℕ) → all (n + 1) ≡ all n ++ part n) → (i n : ℕ) → i ≤ n → (rest : List A) × (all n ≡ all i ++ rest)
grown-front all part more i n early =
    let front = grown all part more i (n - i) in
    (front.0, ap all (let e : n ≡ i + (n - i) = omega (arith, early) in e) ∙ front.1)

module _ {A : Type 0} (minds : Minds) (seed : ℕ) where
  -- one more turn is reported last
  pub told_in_turns-more : (telling : Telling A) (m : Moment) (from n : ℕ) → told_in_turns telling minds seed m from (n + 1) ≡ told_in_turns telling minds seed m from n ++ telling (after_turns minds seed m from n) (from + n)
  told_in_turns-more telling m from n = rw add-one refl

  -- the first turns are reported first
  pub told_in_turns-front : (telling : Telling A) (m : Moment) (from i n : ℕ) → i ≤ n → (rest : List A) × (told_in_turns telling minds seed m from n ≡ told_in_turns telling minds seed m from i ++ rest)
  told_in_turns-front telling m from i n early =
      grown-front (told_in_turns telling minds seed m from) (λ k. telling (after_turns minds seed m from k) (from + k)) (told_in_turns-more telling m from) i n early

  -- one more round is reported last
  pub told_in_rounds-more : (telling : ℕ → Telling A) (m : Moment) (n : ℕ) → told_in_rounds telling minds seed m (n + 1) ≡ told_in_rounds telling minds seed m n ++ told_in_round (telling (n + 1)) minds seed (after_rounds minds seed m n)
  told_in_rounds-more telling m n = rw add-one refl

  -- the first rounds are reported first
  pub told_in_rounds-front : (telling : ℕ → Telling A) (m : Moment) (i n : ℕ) → i ≤ n → (rest : List A) × (told_in_rounds telling minds seed m n ≡ told_in_rounds telling minds seed m i ++ rest)
  told_in_rounds-front telling m i n early =
      grown-front (told_in_rounds telling minds seed m) (λ k. told_in_round (telling (k + 1)) minds seed (after_rounds minds seed m k)) (told_in_rounds-more telling m) i n early

-- before the first round nothing is reported
told-before : {A : Type 0} (from : ℕ) (telling : ℕ → Telling A) (round : ℕ) → round < from → from_round from telling round ≡ (λ m t. [])
told-before from telling round early = fun_ext λ m. fun_ext λ t. cond-true _ _ _ (lt-ltb round from early)

-- from it on all is
told-after : {A : Type 0} (from : ℕ) (telling : ℕ → Telling A) (round : ℕ) → from ≤ round → from_round from telling round ≡ telling round
told-after from telling round late = fun_ext λ m. fun_ext λ t. cond-false _ _ _ (le-ltb round from late)

module _ {A : Type 0} (minds : Minds) (seed : ℕ) where
  abbrev nothing : Telling A
  nothing m t = []

  nothing-in_turns : (m : Moment) (first n : ℕ) → told_in_turns nothing minds seed m first n ≡ []
  nothing-in_turns m first zero = refl
  nothing-in_turns m first (suc n) = ap (λ (told : List A). told ++ []) (nothing-in_turns m first n)

  -- rounds before the first one have no reports
  pub told_in_rounds-before : (telling : ℕ → Telling A) (m : Moment) (from n : ℕ) → n < from → told_in_rounds (from_round from telling) minds seed m n ≡ []
  told_in_rounds-before telling m from zero early = refl
  told_in_rounds-before telling m from (suc n) early =
      let mid : Moment = after_rounds minds seed m n in
      ap₂ (λ (front last : List A). front ++ last)
      (told_in_rounds-before telling m from n (omega (arith, early)))
      (ap (λ (one : Telling A). told_in_round one minds seed mid) (told-before from telling (suc n) early) ∙ nothing-in_turns mid 0 mid.world.ids)

  -- the reports of the first rounds, and then those from the next one on, are all reports
  pub told_in_rounds-split : (telling : ℕ → Telling A) (m : Moment) (first more : ℕ)
      → told_in_rounds telling minds seed m first ++ told_in_rounds (from_round (first + 1) telling) minds seed m (first + more) ≡ told_in_rounds telling minds seed m (first + more)
  told_in_rounds-split telling m first zero =
      ap (λ (rest : List A). told_in_rounds telling minds seed m first ++ rest) (told_in_rounds-before telling m (first + 1) (first + 0) (omega arith))
      ∙ append-nil (told_in_rounds telling minds seed m first)
      ∙ ap (told_in_rounds telling minds seed m) (let e : first ≡ first + 0 = omega arith in e)
  told_in_rounds-split telling m first (suc more) =
      let n : ℕ = first + more in
      let next : first + suc more ≡ n + 1 = omega arith in
      let last : List A = told_in_round (telling (n + 1)) minds seed (after_rounds minds seed m n) in
      ap (λ k. told_in_rounds telling minds seed m first ++ told_in_rounds (from_round (first + 1) telling) minds seed m k) next
      ∙ ap (λ (rest : List A). told_in_rounds telling minds seed m first ++ rest)
      (told_in_rounds-more minds seed (from_round (first + 1) telling) m n
      ∙ ap (λ (one : Telling A). told_in_rounds (from_round (first + 1) telling) minds seed m n ++ told_in_round one minds seed (after_rounds minds seed m n))
      (told-after (first + 1) telling (n + 1) (omega arith)))
      ∙ sym (append_assoc (told_in_rounds telling minds seed m first) (told_in_rounds (from_round (first + 1) telling) minds seed m n) last)
      ∙ ap (λ (front : List A). front ++ last) (told_in_rounds-split telling m first more)
      ∙ sym (told_in_rounds-more minds seed telling m n)
      ∙ ap (told_in_rounds telling minds seed m) (sym next)

-- a report of reports is one of all of them, turn by turn
module _ {A B : Type 0} (f : A → List B) (minds : Minds) (seed : ℕ) where
  told_in_turns-mapped : (telling : Telling A) (m : Moment) (first n : ℕ) → told_in_turns (λ m t. flat_map f (telling m t)) minds seed m first n ≡ flat_map f (told_in_turns telling minds seed m first n)
  told_in_turns-mapped telling m first zero = refl
  told_in_turns-mapped telling m first (suc n) =
      let last : List A = telling (after_turns minds seed m first n) (first + n) in
      ap (λ (front : List B). front ++ flat_map f last) (told_in_turns-mapped telling m first n)
      ∙ sym (flat_map-append f (told_in_turns telling minds seed m first n) last)

  pub told_in_rounds-mapped : (telling : ℕ → Telling A) (m : Moment) (n : ℕ) → told_in_rounds (λ round m t. flat_map f (telling round m t)) minds seed m n ≡ flat_map f (told_in_rounds telling minds seed m n)
  told_in_rounds-mapped telling m zero = refl
  told_in_rounds-mapped telling m (suc n) =
      let mid : Moment = after_rounds minds seed m n in
      ap₂ (λ (front last : List B). front ++ last) (told_in_rounds-mapped telling m n) (told_in_turns-mapped (telling (suc n)) mid 0 mid.world.ids)
      ∙ sym (flat_map-append f (told_in_rounds telling minds seed m n) (told_in_round (telling (suc n)) minds seed mid))

-- the reports from a round on of reports are those from this round on
pub from_round-mapped : {A B : Type 0} (f : A → List B) (from : ℕ) (telling : ℕ → Telling A) → from_round from (λ round m t. flat_map f (telling round m t)) ≡ (λ round m t. flat_map f (from_round from telling round m t))
from_round-mapped f from telling =
    fun_ext λ round. fun_ext λ m. fun_ext λ t. cond_both (nat_lt round from) [] (telling round m t) (λ told. (if nat_lt round from then [] else flat_map f (telling round m t)) ≡ flat_map f told)
    (λ early. cond-true _ _ _ early) (λ late. cond-false _ _ _ late)

-- from round 0 on everything is reported
pub from_round-all : {A : Type 0} (telling : ℕ → Telling A) → from_round 0 telling ≡ telling
from_round-all telling = fun_ext λ round. fun_ext λ m. fun_ext λ t. cond-false _ _ _ (le-ltb round 0 (omega arith))
