-- The looks of a job.
use Rattle.std.proofs.Common.{◌≡◌, ℕ, zero, suc, ◌+◌, ◌-◌, ◌<◌, ◌≤◌, ◌^◌, List, [], ◌∷◌, ◌++◌, length, slice_index_or, take, drop, refl, sym, subst, ap, ◌∙◌, arith}
use Rattle.std.specs.List.{AllByRecursion}
use Rattle.std.proofs.lemmas.List.{length-drop, length-take}
use Rattle.list_lemmas.proofs.AllElements.{AllByRecursion-push}
use Rattle.cell_world.specs.Grid.{Grid, world_of}
use Rattle.ant_turn.specs.Minds.{Minds}
use Rattle.spec_record.specs.Look.{LookValue, look_of}
use Rattle.far_crew.specs.declared.guesses.GuessedTurns.{GuessedTurns}
use Rattle.far_crew.specs.Inner.Turns.{CanLookAt}
use Rattle.far_crew.specs.Jobs.{IsLookOf, JobValue, looks_of}

-- what holds of all of a list holds at each place
pub all_at : {X : Type 0} (P : X → Type 0) (xs : List X) (i : ℕ) (d : X) → AllByRecursion P xs → i < length xs → P (slice_index_or xs i d)
all_at P [] i d all early = absurd (omega arith)
all_at P (x ∷ xs) zero d all early = all.0
all_at P (x ∷ xs) (suc i) d all early = all_at P xs i d all.1 (omega arith)

is_look_of : (minds : Minds) (seed : ℕ) (base : Grid) (guess t : ℕ) → t < base.ids → IsLookOf minds seed base (look_of minds seed (world_of base) guess t)
unfolding look_of
is_look_of minds seed base guess t below = record { below = below; is = refl }

-- each of them is one of the job's brains, seed and world
looks_of-each : (job : JobValue) (n : ℕ) → job.from + n ≤ job.base.ids → AllByRecursion (IsLookOf job.minds job.seed job.base) (looks_of job n)
looks_of-each job zero within = tt
looks_of-each job (suc n) within =
    AllByRecursion-push (IsLookOf job.minds job.seed job.base) (looks_of job n) (look_of job.minds job.seed (world_of job.base) (slice_index_or job.guesses n 0) (job.from + n))
    (looks_of-each job n (omega arith)) (is_look_of job.minds job.seed job.base (slice_index_or job.guesses n 0) (job.from + n) (omega arith))

pub looked-each : (job : JobValue) (looks : List LookValue) → job.from ≤ job.to → job.to ≤ job.base.ids → looks ≡ looks_of job (job.to - job.from) → AllByRecursion (IsLookOf job.minds job.seed job.base) looks
looked-each job looks forwards ids looked = subst (AllByRecursion (IsLookOf job.minds job.seed job.base)) (sym looked) (looks_of-each job (job.to - job.from) (omega arith))

-- one look more
pub looked-more : (job : JobValue) (n k t : ℕ) (looks new : List LookValue) (seed place : ℕ) → take n looks ≡ looks_of job n → k ≡ suc n → t ≡ job.from + n → seed ≡ job.seed → place ≡ slice_index_or job.guesses n 0 →
    take (n + 1) new ≡ take n looks ++ look_of job.minds seed (world_of job.base) place t ∷ [] → take k new ≡ looks_of job k
looked-more job n k t looks new seed place so_far next turn same guess made =
    let count : k ≡ n + 1 = omega arith in
    ap (λ i. take i new) count
    ∙ made
    ∙ ap (λ l. l ++ look_of job.minds seed (world_of job.base) place t ∷ []) so_far
    ∙ ap (λ s. looks_of job n ++ look_of job.minds s (world_of job.base) place t ∷ []) same
    ∙ ap (λ p. looks_of job n ++ look_of job.minds job.seed (world_of job.base) p t ∷ []) guess
    ∙ ap (λ u. looks_of job n ++ look_of job.minds job.seed (world_of job.base) (slice_index_or job.guesses n 0) u ∷ []) turn
    ∙ ap (looks_of job) (sym next)

-- what holds of each holds of each of a part
all_take : {X : Type 0} (P : X → Type 0) (n : ℕ) (xs : List X) → AllByRecursion P xs → AllByRecursion P (take n xs)
all_take P (suc n) (x ∷ xs) all = (all.0, all_take P n xs all.1)
all_take it that other all = tt

all_drop : {X : Type 0} (P : X → Type 0) (n : ℕ) (xs : List X) → AllByRecursion P xs → AllByRecursion P (drop n xs)
all_drop P zero (x ∷ xs) all = all
all_drop P (suc n) (x ∷ xs) all = all_drop P n xs all.1
all_drop it that other all = tt

pub all_between : {X : Type 0} (P : X → Type 0) (n k : ℕ) (xs : List X) → AllByRecursion P xs → AllByRecursion P (take n (drop k xs))
all_between P n k xs all = all_take P n (drop k xs) (all_drop P k xs all)

-- a part of turns that can be looked at can be looked at
pub part-looks : (base : Grid) (turns part : GuessedTurns) (first last : ℕ) → CanLookAt base turns → first ≤ last → last ≤ turns.to - turns.from
    → part.from ≡ turns.from + first → part.to ≡ turns.from + last → part.guesses.now ≡ take (last - first) (drop first turns.guesses.now) → CanLookAt base part
part-looks base turns part first last can forwards within begins ends guesses =
    let all = turns.guesses.now in let few = length-take (last - first) (drop first all) in let left = length-drop first all in let count = can.count in let ids = can.ids in let long = ap length guesses in
    record {
      forwards = omega arith;
      ids = omega arith;
      count = omega arith;
      small = subst (AllByRecursion (λ guess. guess + 1 < 2 ^ 63)) (sym guesses) (all_between (λ guess. guess + 1 < 2 ^ 63) (last - first) first all can.small);
    }

-- at each guess of such turns a number can be drawn
pub guess_small : (base : Grid) (turns : GuessedTurns) (id : ℕ) → CanLookAt base turns → turns.from ≤ id → id < turns.to → slice_index_or turns.guesses.now (id - turns.from) 0 + 1 < 2 ^ 63
guess_small base turns id can first last =
    let count = can.count in
    all_at (λ guess. guess + 1 < 2 ^ 63) turns.guesses.now (id - turns.from) 0 can.small (omega (arith, count, first, last))
