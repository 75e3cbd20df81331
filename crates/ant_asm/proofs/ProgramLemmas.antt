-- A program that is being read, line by line, is the state above a line.
use Rattle.std.proofs.Common.{◌≡◌, ℕ, ◌<◌, Bool, true, false, not, cond, List, length, Option, Some, None, refl, sym, ap, ◌∙◌, subst, is_some}
use Rattle.std.specs.Prelude.{slice_get, ◌==◌}
use Rattle.std.proofs.lemmas.Bool.{eq-eqb, eqb-true, false_from_ne_true}
use Rattle.ant_asm.specs.declared.fault.AsmFault.{AsmFault}
use Rattle.ant_asm.specs.declared.fault.AsmFault.TheVariants.{NoBlock, WrongCount}
use Rattle.ant_asm.specs.declared.open.OpenBody.{OpenBody}
use Rattle.ant_asm.specs.declared.program.Outer.{Outer}
use Rattle.ant_asm.specs.declared.program.Program.{Program}
use Rattle.ant_asm.specs.Program.{size_of}
use Rattle.ant_asm.specs.Names.{Named}
use Rattle.ant_asm.specs.Lines.Line.{Instructs, Marks, Uses}
use Rattle.ant_asm.specs.Standing.{Draft, current, mark_fault, place_fault, size_fault, use_fault, used, with_current, with_line, with_mark}
use Rattle.ant_asm.specs.Standing.Item.{Call, Instruction}
use Rattle.ant_asm.specs.declared.action.Action.{Action}
use Rattle.ant_asm.specs.Inner.Flat.{tree_at, trees_of}
use Rattle.ant_asm.specs.Inner.ProgramView.{IsGoodProgram, IsReadInto, block_in, main_of, program_seen, standing_of}
use Rattle.ant_asm.specs.Inner.Scopes.{known_as}
use Rattle.ant_asm.specs.Inner.View.{FailsWith, IsGoodOpen, open_seen, parameters_in}

-- the faults of equal rules are equal
pub fails-same : (fault : AsmFault) (o other : Option AsmFault) → o ≡ other → FailsWith fault o → FailsWith fault other
fails-same fault o other same fails = subst (FailsWith fault) same fails

-- the body to which lines add
pub current-seen : (p : Program) → current (program_seen p) ≡ open_seen (trees_of p.bodies.items) p.current
current-seen p = go p.outer
  where
    go : (outer : Option Outer) → current (standing_of p.bodies.items outer p.current p.blocks.entries p.unknown) ≡ open_seen (trees_of p.bodies.items) p.current
    go None = refl
    go (Some outer) = refl

-- with another such body
pub current-with : (p : Program) (draft : OpenBody) → program_seen (record p { current = draft }) ≡ with_current (program_seen p) (open_seen (trees_of p.bodies.items) draft)
current-with p draft = go p.outer
  where
    go : (outer : Option Outer) → standing_of p.bodies.items outer draft p.blocks.entries p.unknown ≡ with_current (standing_of p.bodies.items outer p.current p.blocks.entries p.unknown) (open_seen (trees_of p.bodies.items) draft)
    go None = refl
    go (Some outer) = refl

main-with : (outer : Option Outer) (draft other : OpenBody) → other.parameters ≡ draft.parameters → (main_of outer draft).parameters ≡ 0 → (main_of outer other).parameters ≡ 0
main-with None draft other same none = same ∙ none
main-with (Some outer) draft other same none = none

pub good-with : (p : Program) (draft : OpenBody) → IsGoodProgram p → IsGoodOpen p.bodies.items draft → draft.parameters ≡ p.current.parameters → IsGoodProgram (record p { current = draft })
good-with p draft good is same = record {
  bodies = good.bodies;
  few = good.few;
  blocks = good.blocks;
  current = is;
  outer = good.outer;
  main = main-with p.outer p.current draft same good.main;
}

-- a name more
module _ (p : Program) (name : List ℕ) (number : ℕ) where
  pub mark-fault : place_fault (program_seen p) number (Marks name) ≡ mark_fault (known_as p.current.names.entries name) number
  mark-fault = ap (λ (d : Draft). mark_fault (d.meaning name) number) (current-seen p)

  pub mark-into : (draft : OpenBody) → mark_fault (known_as p.current.names.entries name) number ≡ None → open_seen (trees_of p.bodies.items) draft ≡ with_mark (open_seen (trees_of p.bodies.items) p.current) name →
      IsReadInto (program_seen p) number (Marks name) (program_seen (record p { current = draft }))
  mark-into draft free is = record {
    free = mark-fault ∙ free;
    is = current-with p draft ∙ ap (with_current (program_seen p)) (is ∙ ap (λ (d : Draft). with_mark d name) (sym (current-seen p)));
  }

-- an instruction more
module _ (p : Program) (action : Action Named) (number : ℕ) where
  pub instruct-fault : place_fault (program_seen p) number (Instructs action) ≡ size_fault p.current.size 1 number
  instruct-fault = ap (λ (d : Draft). size_fault d.size 1 number) (current-seen p)

  pub instruct-into : (draft : OpenBody) → size_fault p.current.size 1 number ≡ None → open_seen (trees_of p.bodies.items) draft ≡ with_line (open_seen (trees_of p.bodies.items) p.current) number (Instruction action) →
      IsReadInto (program_seen p) number (Instructs action) (program_seen (record p { current = draft }))
  instruct-into draft free is = record {
    free = instruct-fault ∙ free;
    is = current-with p draft ∙ ap (with_current (program_seen p)) (is ∙ ap (λ (d : Draft). with_line d number (Instruction action)) (sym (current-seen p)));
  }

-- a block used
module _ (p : Program) (name : List ℕ) (handed : List Named) (number : ℕ) where
  pub put-none : known_as p.blocks.entries name ≡ None → place_fault (program_seen p) number (Uses name handed) ≡ Some (NoBlock number)
  put-none none = ap (λ (o : Option ℕ). use_fault (current (program_seen p)).size (block_in p.bodies.items o) handed number) none

  pub put-counts : (n : ℕ) → known_as p.blocks.entries name ≡ Some n → (length handed ≡ parameters_in (slice_get p.bodies.items n) → ⊥) → place_fault (program_seen p) number (Uses name handed) ≡ Some (WrongCount number)
  put-counts n known other =
      ap (λ (o : Option ℕ). use_fault (current (program_seen p)).size (block_in p.bodies.items o) handed number) known
      ∙ ap (λ (b : Bool). cond (not b) (Some (WrongCount number)) (size_fault (current (program_seen p)).size (size_of (tree_at p.bodies.items n)) number)) (false_from_ne_true (length handed == parameters_in (slice_get p.bodies.items n)) (λ is. other (eqb-true (length handed) (parameters_in (slice_get p.bodies.items n)) is)))

  pub put-fault : (n : ℕ) → known_as p.blocks.entries name ≡ Some n → length handed ≡ parameters_in (slice_get p.bodies.items n) → place_fault (program_seen p) number (Uses name handed) ≡ size_fault p.current.size (size_of (tree_at p.bodies.items n)) number
  put-fault n known same =
      ap (λ (o : Option ℕ). use_fault (current (program_seen p)).size (block_in p.bodies.items o) handed number) known
      ∙ ap (λ (b : Bool). cond (not b) (Some (WrongCount number)) (size_fault (current (program_seen p)).size (size_of (tree_at p.bodies.items n)) number)) (eq-eqb (length handed) (parameters_in (slice_get p.bodies.items n)) same)
      ∙ ap (λ (d : Draft). size_fault d.size (size_of (tree_at p.bodies.items n)) number) (current-seen p)

  pub put-into : (n : ℕ) (draft : OpenBody) → known_as p.blocks.entries name ≡ Some n → length handed ≡ parameters_in (slice_get p.bodies.items n) → size_fault p.current.size (size_of (tree_at p.bodies.items n)) number ≡ None →
      open_seen (trees_of p.bodies.items) draft ≡ with_line (open_seen (trees_of p.bodies.items) p.current) number (Call handed (tree_at p.bodies.items n)) →
      IsReadInto (program_seen p) number (Uses name handed) (program_seen (record p { current = draft }))
  put-into n draft known same free is = record {
    free = put-fault n known same ∙ free;
    is = current-with p draft
        ∙ ap (with_current (program_seen p)) (is ∙ ap (λ (d : Draft). with_line d number (Call handed (tree_at p.bodies.items n))) (sym (current-seen p)))
        ∙ sym (ap (λ (o : Option ℕ). used (block_in p.bodies.items o) (program_seen p) number handed) known);
  }

-- a block begins
module _ (p : Program) (name : List ℕ) (parameters : List (List ℕ)) (number : ℕ) where
  pub begin-good : (draft : OpenBody) (outer : Outer) → IsGoodProgram p → p.outer ≡ None → IsGoodOpen p.bodies.items draft → outer.main ≡ p.current → length p.bodies.items < 256 → IsGoodProgram (record p { current = draft; outer = Some outer })
  begin-good draft outer good none new main room = record {
    bodies = good.bodies;
    few = good.few;
    blocks = good.blocks;
    current = new;
    outer = (subst (IsGoodOpen p.bodies.items) (sym main) good.current, room);
    main = ap (λ (d : OpenBody). d.parameters) (main ∙ sym (ap (λ (o : Option Outer). main_of o p.current) none)) ∙ good.main;
  }

-- there is none
pub none-of : {A : Type 0} (o : Option A) → is_some o ≡ false → o ≡ None
none-of None none = refl
none-of (Some x) none = (let never : true ≡ false = none in absurd (cc))
