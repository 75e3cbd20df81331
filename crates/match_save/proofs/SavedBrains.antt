-- Brains of a save, whose states are below their number.
use Rattle.std.proofs.Common.{◌≡◌, ℕ, zero, suc, ◌+◌, ◌*◌, ◌<◌, ◌≤◌, Bool, true, false, not, cond, nat_eq, nat_le, nat_lt, ltb, List, [], ◌∷◌, ◌++◌, length, map, drop, get_or, slice_get, Option, Some, None, Ok, Err, refl, sym, ◌∙◌, ap, subst, append_assoc, arith}
use Rattle.std.specs.List.{AllByRecursion}
use Rattle.std.proofs.lemmas.Bool.{eq-eqb, eqb-true, le-leb, leb-true, lt-ltb, ltb-true, ltb-false, and_parts, and_from}
use Rattle.brain_read.proofs.FirstFaults.{not_below_none}
use Rattle.brain_read.specs.declared.draft.Draft.{Draft}
use Rattle.brain_read.specs.declared.instr.Instr.{Instr}
use Rattle.brain_read.specs.Drafts.{draft_settled, drafted, or_state}
use Rattle.brain_read.specs.Faulty.{first_not_below}
use Rattle.brain_read.specs.Grammar.{StatesBelow, states_of}
use Rattle.brain_read.specs.Soundness.{IsBrain, IsSound}
use Rattle.brain_read.proofs.SoundnessLemmas.{sound_of}
use Rattle.cell_world.specs.declared.ant.Colour.{Colour}
use Rattle.cell_world.specs.declared.ant.Colour.TheVariants.{Red, Black}
use Rattle.cell_world.specs.declared.ant.PlacedAnt.{PlacedAnt}
use Rattle.match_save.proofs.PutLemmas.{drop-from}
use Rattle.match_save.specs.declared.head.Head.{Head}
use Rattle.match_save.specs.Draft.{Draft as SaveDraft, IsInstruction, IsProgram}
use Rattle.match_save.specs.State.{program_of}
use Rattle.match_save.specs.Inner.Fit.{are_fit, has_turns, length_of}

-- every state of an instruction is below n
abbrev pub AreBelow : ℕ → Instr → Type 0
AreBelow n i = AllByRecursion (λ state. state < n) (states_of i)

some-above : (n : ℕ) (states : List ℕ) (s : ℕ) → first_not_below n states ≡ Some s → AllByRecursion (λ state. state < n) states → ⊥
some-above n [] s e all = absurd (cc)
some-above n (state ∷ states) s e all = go (ltb state n) refl e (some-above n states s) where
  go : (b : Bool) → ltb state n ≡ b → cond (not b) (Some state) (first_not_below n states) ≡ Some s → (first_not_below n states ≡ Some s → AllByRecursion (λ state. state < n) states → ⊥) → ⊥
  go true is e rest = rest e all.1
  go false is e rest = (let low = ltb-false state n is in let high = all.0 in let wrong : ⊥ = omega (arith, low, high) in wrong)

-- an instruction that was settled is the draft's, and its states are below n
pub settled-ok : (n : ℕ) (i j : Instr) → draft_settled n i ≡ Ok j → (i ≡ j) × AreBelow n i
settled-ok n i j e = go (first_not_below n (states_of i)) refl e where
  go : (o : Option ℕ) → first_not_below n (states_of i) ≡ o → or_state o i ≡ Ok j → (i ≡ j) × AreBelow n i
  go None is e = ((let s : i ≡ j = cc in s), not_below_none n (states_of i) is)
  go (Some s) is e = absurd (cc)

-- one that wasn't has a state that isn't
pub settled-err : (n : ℕ) (i : Instr) (s : ℕ) → draft_settled n i ≡ Err s → AreBelow n i → ⊥
settled-err n i s e all = go (first_not_below n (states_of i)) refl e where
  go : (o : Option ℕ) → first_not_below n (states_of i) ≡ o → or_state o i ≡ Err s → ⊥
  go None is e = absurd (cc)
  go (Some state) is e = some-above n (states_of i) state is all

-- how far instructions were settled
pub record SettlesOn (n : ℕ) (list : List Instr) (drafts : List Draft) (i : ℕ) : Type 0 where
  pub are : list ++ map drafted (drop i drafts) ≡ map drafted drafts
  pub below : StatesBelow n list

below-append : (n : ℕ) (a b : List Instr) → StatesBelow n a → StatesBelow n b → StatesBelow n (a ++ b)
below-append n [] b p q = q
below-append n (x ∷ a) b p q = (p.0, below-append n a b p.1 q)

below-part : (n : ℕ) (a b : List Instr) → StatesBelow n (a ++ b) → StatesBelow n b
below-part n [] b p = p
below-part n (x ∷ a) b p = below-part n a b p.1

pub SettlesOn-more : (n : ℕ) (list new : List Instr) (drafts : List Draft) (i : ℕ) (none : Draft) (j : Instr) → i < length drafts → SettlesOn n list drafts i → draft_settled n (drafted (get_or drafts i none)) ≡ Ok j → new ≡ list ++ j ∷ [] → SettlesOn n new drafts (i + 1)
SettlesOn-more n list new drafts i none j low on e pushed =
    let ok = settled-ok n (drafted (get_or drafts i none)) j e in
    subst (λ (l : List Instr). SettlesOn n l drafts (i + 1)) (sym pushed) (record {
      are =
          append_assoc list (j ∷ []) (map drafted (drop (i + 1) drafts))
          ∙ ap (λ (x : Instr). list ++ (x ∷ map drafted (drop (i + 1) drafts))) (sym ok.0)
          ∙ ap (λ (l : List Draft). list ++ map drafted l) (sym (drop-from drafts i none low))
          ∙ on.are;
      below = below-append n list (j ∷ []) on.below (subst (AreBelow n) ok.0 ok.1, tt);
    })

pub SettlesOn-stop : (n : ℕ) (list : List Instr) (drafts : List Draft) (i : ℕ) (none : Draft) (s : ℕ) → i < length drafts → SettlesOn n list drafts i → draft_settled n (drafted (get_or drafts i none)) ≡ Err s → StatesBelow n (map drafted drafts) → ⊥
SettlesOn-stop n list drafts i none s low on e all =
    let rest = below-part n list (map drafted (drop i drafts)) (subst (StatesBelow n) (sym on.are) all) in
    let here = subst (λ (l : List Draft). StatesBelow n (map drafted l)) (drop-from drafts i none low) rest in
    settled-err n (drafted (get_or drafts i none)) s e here.0

pub length-drafted : (drafts : List Draft) → length (map drafted drafts) ≡ length drafts
length-drafted [] = refl
length-drafted (d ∷ drafts) = ap suc (length-drafted drafts)

-- a program whose states are below its length is a brain
pub IsBrain-program : (list : List Instr) → IsProgram list → StatesBelow (length list) list → IsBrain list
IsBrain-program list ok below = record { some = ok.some; few = ok.few; sound = λ i instruction at. sound list (length list) i instruction ok.each below at } where
  sound : (l : List Instr) (n i : ℕ) (instruction : Instr) → AllByRecursion IsInstruction l → StatesBelow n l → slice_get l i ≡ Some instruction → IsSound n instruction
  sound [] n i instruction all low at = absurd (cc)
  sound (first ∷ l) n zero instruction all low at = (let same : first ≡ instruction = (let e : Some first ≡ Some instruction = at in cc) in subst (IsSound n) same (sound_of n first all.0.in_range low.0))
  sound (first ∷ l) n (suc i) instruction all low at = sound l n i instruction all.1 low.1 at

-- how many states the brain of a colour has
length_of-program : (d : SaveDraft) (colour : Colour) → length_of (length d.red) (length d.black) colour ≡ length (program_of d colour)
length_of-program d Red = refl
length_of-program d Black = refl

-- whether ants fit their brains, as a test
pub fit-true : (d : SaveDraft) (ants : List PlacedAnt) → are_fit (length d.red) (length d.black) ants ≡ true → AllByRecursion (λ (it : PlacedAnt). it.ant.state < length (program_of d it.ant.colour)) ants
fit-true d [] e = tt
fit-true d (it ∷ ants) e =
    let parts = and_parts (nat_lt it.ant.state (length_of (length d.red) (length d.black) it.ant.colour)) (are_fit (length d.red) (length d.black) ants) e in
    (subst (λ (n : ℕ). it.ant.state < n) (length_of-program d it.ant.colour) (ltb-true it.ant.state _ parts.0), fit-true d ants parts.1)

pub fit-holds : (d : SaveDraft) (ants : List PlacedAnt) → AllByRecursion (λ (it : PlacedAnt). it.ant.state < length (program_of d it.ant.colour)) ants → are_fit (length d.red) (length d.black) ants ≡ true
fit-holds d [] all = refl
fit-holds d (it ∷ ants) all = and_from (nat_lt it.ant.state (length_of (length d.red) (length d.black) it.ant.colour)) (are_fit (length d.red) (length d.black) ants)
    (lt-ltb it.ant.state _ (subst (λ (n : ℕ). it.ant.state < n) (sym (length_of-program d it.ant.colour)) all.0)) (fit-holds d ants all.1)

-- whether turns fit their rounds, as a test
pub turns-true : (head : Head) (ids : ℕ) → has_turns head ids ≡ true → (head.place ≤ ids * head.round) × (head.taken + head.redone ≡ ids * head.round)
turns-true head ids e =
    let parts = and_parts (nat_le head.place (ids * head.round)) (nat_eq (head.taken + head.redone) (ids * head.round)) e in
    (leb-true head.place (ids * head.round) parts.0, eqb-true (head.taken + head.redone) (ids * head.round) parts.1)

pub turns-hold : (head : Head) (ids : ℕ) → head.place ≤ ids * head.round → head.taken + head.redone ≡ ids * head.round → has_turns head ids ≡ true
turns-hold head ids place turns =
    and_from (nat_le head.place (ids * head.round)) (nat_eq (head.taken + head.redone) (ids * head.round)) (le-leb head.place (ids * head.round) place) (eq-eqb (head.taken + head.redone) (ids * head.round) turns)
