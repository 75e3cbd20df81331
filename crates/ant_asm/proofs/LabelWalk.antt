-- The report of a body, line by line.
use Rattle.std.proofs.Common.{◌≡◌, ℕ, ◌+◌, Bool, true, false, List, [], ◌++◌, refl, sym, ap, ◌∙◌, subst, arith, append_assoc}
use Rattle.std.specs.Prelude.{◌==◌, if◌then◌else◌}
use Rattle.std.proofs.lemmas.Bool.{eq-eqb, eqb-true}
use Rattle.ant_base.specs.Sink.{PushedAll, PushedFront, SinkState}
use Rattle.ant_base.proofs.Pushes.{all_of_nothing, all_then, front_more, front_then}
use Rattle.ant_asm.specs.Labels.{Outline}
use Rattle.ant_asm.specs.Inner.Outlines.{outline_size, state_at}

-- A text was reported. The rest of it is the text of the lines that are left, and the first instruction of these lines
-- has this number.
pub record AreTold (tell : Outline → ℕ → List ℕ) (all : List ℕ) (end : ℕ) (rest : Outline) (at : ℕ) (old new : SinkState) : Type 0 where
  pub told : List ℕ
  pub pushed : PushedAll old new told
  pub left : told ++ tell rest at ≡ all
  pub ends : at + outline_size rest ≡ end

module _ (tell : Outline → ℕ → List ℕ) where
  pub told-none : (rest : Outline) (at end : ℕ) (state : SinkState) → at + outline_size rest ≡ end → AreTold tell (tell rest at) end rest at state state
  told-none rest at end state ends = record { told = []; pushed = all_of_nothing state; left = refl; ends = ends }

  -- some more
  pub told-more : (all more : List ℕ) (end at next : ℕ) (rest later : Outline) (old mid new : SinkState) → AreTold tell all end rest at old mid → PushedAll mid new more →
      tell rest at ≡ more ++ tell later next → next + outline_size later ≡ end → AreTold tell all end later next old new
  told-more all more end at next rest later old mid new before pushed split ends = record {
    told = before.told ++ more;
    pushed = all_then old mid new before.told more before.pushed pushed;
    left = append_assoc before.told more (tell later next) ∙ ap (λ (t : List ℕ). before.told ++ t) (sym split) ∙ before.left;
    ends = ends;
  }

  -- a prefix of some more
  pub told-front : (all more others : List ℕ) (end at : ℕ) (rest : Outline) (old mid new : SinkState) → AreTold tell all end rest at old mid → PushedFront mid new more →
      tell rest at ≡ more ++ others → PushedFront old new all
  told-front all more others end at rest old mid new before pushed split =
      subst (PushedFront old new) (ap (λ (t : List ℕ). before.told ++ t) (sym split) ∙ before.left)
      (front_then old mid new before.told (more ++ others) before.pushed (front_more mid new more others pushed))

-- the state of a label at this number
pub state-is : (at end after left : ℕ) → at + left ≡ end → (if at == end then after else at) ≡ state_at left at after
state-is at end after left sum = ap (λ (b : Bool). if b then after else at) (same (at == end) (left == 0) refl refl)
  where
    same : (a b : Bool) → (at == end) ≡ a → (left == 0) ≡ b → a ≡ b
    same true true first second = refl
    same false false first second = refl
    same true false first second =
        let e : at ≡ end = eqb-true at end first in let z : left ≡ 0 = omega (arith, e, sum) in let never : true ≡ false = sym (eq-eqb left 0 z) ∙ second in absurd (cc)
    same false true first second =
        let z : left ≡ 0 = eqb-true left 0 second in let e : at ≡ end = omega (arith, z, sum) in let never : true ≡ false = sym (eq-eqb at end e) ∙ first in absurd (cc)

-- a text was reported; this one is the rest of it
pub record IsToldTo (all left : List ℕ) (old new : SinkState) : Type 0 where
  pub told : List ℕ
  pub pushed : PushedAll old new told
  pub rest : told ++ left ≡ all

pub to_none : (all : List ℕ) (state : SinkState) → IsToldTo all all state state
to_none all state = record { told = []; pushed = all_of_nothing state; rest = refl }

pub to_more : (all left more later : List ℕ) (old mid new : SinkState) → IsToldTo all left old mid → PushedAll mid new more → left ≡ more ++ later → IsToldTo all later old new
to_more all left more later old mid new before pushed split = record {
  told = before.told ++ more;
  pushed = all_then old mid new before.told more before.pushed pushed;
  rest = append_assoc before.told more later ∙ ap (λ (t : List ℕ). before.told ++ t) (sym split) ∙ before.rest;
}

pub to_front : (all left more later : List ℕ) (old mid new : SinkState) → IsToldTo all left old mid → PushedFront mid new more → left ≡ more ++ later → PushedFront old new all
to_front all left more later old mid new before pushed split =
    subst (PushedFront old new) (ap (λ (t : List ℕ). before.told ++ t) (sym split) ∙ before.rest)
    (front_then old mid new before.told (more ++ later) before.pushed (front_more mid new more later pushed))
