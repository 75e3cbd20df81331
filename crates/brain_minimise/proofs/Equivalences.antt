-- Equivalent states and classes of states.
use Rattle.std.proofs.Common.{◌≡◌, ℕ, ◌<◌, true, ◌&&◌, List, [], ◌∷◌, map, length, slice_index, refl, sym, ap, ap₂, ◌∙◌}
use Rattle.std.specs.Prelude.{◌==◌, nat_lt}
use Rattle.std.specs.List.{AllByRecursion}
use Rattle.std.proofs.lemmas.Bool.{and_from, and_parts, eq-eqb, eqb-true, lt-ltb, ltb-true}
use Rattle.brain_read.specs.declared.instr.Instr.{Instr}
use Rattle.brain_read.specs.Grammar.{states_of}
use Rattle.brain_read.specs.Soundness.{IsBrain}
use Rattle.ant_turn.specs.Renumber.{redirected}
use Rattle.ant_turn.specs.Turn.{instruction_at}
use Rattle.brain_minimise.specs.Equivalence.{Relation, AreRelated, AreEquivalent, IsBisimulation}
use Rattle.brain_minimise.specs.Inner.Classes.{AreClasses, AreStable, DoAlike}
use Rattle.brain_minimise.proofs.RedirectedLemmas.{redirected-same, shape-from, states-from, successors-below}

-- a test that is kept under a map keeps related lists
pub map-related : (related : Relation) (f : ℕ → ℕ) → ((a b : ℕ) → related a b ≡ true → f a ≡ f b) → (states others : List ℕ) → AreRelated related states others → map f states ≡ map f others
map-related related f keeps [] [] all = refl
map-related related f keeps (a ∷ states) (b ∷ others) all = ap₂ ◌∷◌ (keeps a b all.0) (map-related related f keeps states others all.1)
map-related related f keeps it that all = absurd all

-- states that a bisimulation relates do alike under any classes that it keeps
pub alike_by : (brain : List Instr) (classes : List ℕ) (related : Relation) → IsBisimulation brain brain related → ((a b : ℕ) → related a b ≡ true → slice_index classes a ≡ slice_index classes b) → (a b : ℕ) → related a b ≡ true → DoAlike brain classes a b
alike_by brain classes related bisimulation keeps a b holds =
    redirected-same (slice_index classes) (slice_index classes) (instruction_at brain a) (instruction_at brain b) (bisimulation.shape a b holds)
    (map-related related (slice_index classes) keeps (states_of (instruction_at brain a)) (states_of (instruction_at brain b)) (bisimulation.onward a b holds))

-- whether a number below n and one below m have the same name
pub same_name : (n m : ℕ) (f g : ℕ → ℕ) → Relation
same_name n m f g a b = nat_lt a n && (nat_lt b m && (f a == g b))

pub same_name-true : (n m : ℕ) (f g : ℕ → ℕ) (a b : ℕ) → a < n → b < m → f a ≡ g b → same_name n m f g a b ≡ true
unfolding same_name
same_name-true n m f g a b low high one =
    and_from (nat_lt a n) _ (lt-ltb a n low) (and_from (nat_lt b m) _ (lt-ltb b m high) (eq-eqb _ _ one))

-- what the test says
pub record SameName (n m : ℕ) (f g : ℕ → ℕ) (a b : ℕ) : Type 0 where
  pub low : a < n
  pub high : b < m
  pub one : f a ≡ g b

pub same_name-says : (n m : ℕ) (f g : ℕ → ℕ) (a b : ℕ) → same_name n m f g a b ≡ true → SameName n m f g a b
unfolding same_name
same_name-says n m f g a b holds =
    let both = and_parts (nat_lt a n) (nat_lt b m && (f a == g b)) holds in
    let more = and_parts (nat_lt b m) (f a == g b) both.1 in
    record { low = ltb-true a n both.0; high = ltb-true b m more.0; one = eqb-true (f a) (g b) more.1 }

-- lists with the same names are related
pub names-related : (n m : ℕ) (f g : ℕ → ℕ) (states others : List ℕ) → map f states ≡ map g others → AllByRecursion (λ state. state < n) states → AllByRecursion (λ state. state < m) others →
    AreRelated (same_name n m f g) states others
names-related n m f g [] [] same low high = tt
names-related n m f g (a ∷ states) (b ∷ others) same low high =
    (same_name-true n m f g a b low.0 high.0 (cc), names-related n m f g states others (cc) low.1 high.1)
names-related n m f g it that same low high = absurd (cc)

-- whether two states of a brain are of one class
abbrev same_class : List Instr → List ℕ → Relation
same_class brain classes = same_name (length brain) (length brain) (slice_index classes) (slice_index classes)

-- states of one stable class do alike
pub stable_alike : (brain : List Instr) (classes : List ℕ) → AreStable brain classes → (a b : ℕ) → a < length brain → b < length brain → slice_index classes a ≡ slice_index classes b → DoAlike brain classes a b
stable_alike brain classes stable a b low high one =
    stable a low ∙ ap (λ s. redirected (slice_index classes) (instruction_at brain s)) one ∙ sym (stable b high)

-- stable classes are a bisimulation
classes-bisimulation : (brain : List Instr) (classes : List ℕ) → IsBrain brain → AreStable brain classes → IsBisimulation brain brain (same_class brain classes)
classes-bisimulation brain classes is_brain stable = record {
  inside = λ a b holds. let it = same_name-says (length brain) (length brain) (slice_index classes) (slice_index classes) a b holds in (it.low, it.high);
  shape = λ a b holds.
      let it = same_name-says (length brain) (length brain) (slice_index classes) (slice_index classes) a b holds in
      shape-from (slice_index classes) (slice_index classes) (instruction_at brain a) (instruction_at brain b) (stable_alike brain classes stable a b it.low it.high it.one);
  onward = λ a b holds.
      let it = same_name-says (length brain) (length brain) (slice_index classes) (slice_index classes) a b holds in
      names-related (length brain) (length brain) (slice_index classes) (slice_index classes) (states_of (instruction_at brain a)) (states_of (instruction_at brain b))
      (states-from (slice_index classes) (slice_index classes) (instruction_at brain a) (instruction_at brain b) (stable_alike brain classes stable a b it.low it.high it.one))
      (successors-below brain a is_brain it.low) (successors-below brain b is_brain it.high);
}

-- so states of one stable class are equivalent
pub class-equivalent : (brain : List Instr) (classes : List ℕ) → IsBrain brain → AreStable brain classes → (a b : ℕ) → a < length brain → b < length brain → slice_index classes a ≡ slice_index classes b → AreEquivalent brain a b
class-equivalent brain classes is_brain stable a b low high one = record {
  related = same_class brain classes;
  bisimulation = classes-bisimulation brain classes is_brain stable;
  holds = same_name-true (length brain) (length brain) (slice_index classes) (slice_index classes) a b low high one;
}

-- and equivalent states are of one class
pub equivalent-class : (brain : List Instr) (classes : List ℕ) → AreClasses brain classes → (a b : ℕ) → AreEquivalent brain a b → slice_index classes a ≡ slice_index classes b
equivalent-class brain classes are a b equivalent = are.all equivalent.related equivalent.bisimulation a b equivalent.holds
