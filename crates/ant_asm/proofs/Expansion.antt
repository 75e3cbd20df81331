-- The bodies of a text, expanded, are its program assembled.
use Rattle.std.proofs.Common.{◌≡◌, ◌⊎◌, inl, inr, ℕ, ◌<◌, ◌≤◌, List, [], length, sym, subst, arith}
use Rattle.brain_read.specs.declared.instr.Instr.{Instr}
use Rattle.brain_read.specs.Soundness.{IsBrain}
use Rattle.ant_asm.proofs.FlatLemmas.{the_body}
use Rattle.ant_asm.specs.declared.body.Body.{Body}
use Rattle.ant_asm.specs.declared.fault.AsmFault.{AsmFault}
use Rattle.ant_asm.specs.declared.fault.AsmFault.TheVariants.{OutOfMemory}
use Rattle.ant_asm.specs.Program.{Items, size_of}
use Rattle.ant_asm.specs.Places.{Address, places}
use Rattle.ant_asm.specs.Assembled.{IsAssembled}
use Rattle.ant_asm.specs.Answers.{IsAssembledText}
use Rattle.ant_asm.specs.Text.{IsAsmFault, IsAsmText}
use Rattle.ant_asm.specs.Inner.Emission.{emitted, main_numbers}
use Rattle.ant_asm.specs.Inner.Flat.{most, tree_at}
use Rattle.ant_asm.specs.Inner.ProgramView.{AreBodiesOf, last_of}
use Rattle.ant_asm.proofs.Brains.{assembled-brain}
use Rattle.ant_asm.proofs.Emission.{emitted-assembled, places_of-size}
use Rattle.ant_asm.proofs.LineLemmas.{lines_decide}
use Rattle.ant_asm.proofs.TextLemmas.{never_both, one_fault, one_program}

module _ (text : List ℕ) (bodies : List Body) (are : AreBodiesOf text bodies) where
  abbrev main : Items
  main = tree_at bodies (last_of bodies)

  pub last-inside : last_of bodies < length bodies
  last-inside = let some = are.some in omega (arith, some)

  pub main-few : size_of main ≤ most
  main-few = let there = the_body bodies (last_of bodies) last-inside in (are.blocks.good.each (last_of bodies) there.0 there.1).few

  pub main-some : 1 ≤ length (places main)
  main-some = let all = places_of-size main [] 0 in let some = are.blocks.some (last_of bodies) last-inside in omega (arith, all, some)

  pub main-assembled : IsAssembled main (emitted main main main_numbers 0) (places main)
  main-assembled = emitted-assembled main main-some

  pub main-brain : IsBrain (emitted main main main_numbers 0)
  main-brain =
      assembled-brain main (emitted main main main_numbers 0) (places main) main-assembled (are.blocks.ranged (last_of bodies) last-inside)
      (let all = places_of-size main [] 0 in let as_many = main-assembled.as_many in let few = main-few in omega (arith, all, as_many, few))

  -- what was returned
  pub text-assembled : (brain : List Instr) (list : List Address) → brain ≡ emitted main main main_numbers 0 → list ≡ places main → IsAssembledText text brain list
  text-assembled brain list is at = record {
    main = main;
    is = are.main;
    assembled = subst (λ (b : List Instr). IsAssembled main b list) (sym is) (subst (IsAssembled main (emitted main main main_numbers 0)) (sym at) main-assembled);
  }

-- of every program of the text
pub program-assembled : (text : List ℕ) (brain : List Instr) (list : List Address) → IsAssembledText text brain list → (items : Items) → IsAsmText text items → IsAssembled items brain list
program-assembled text brain list made items is = subst (λ (m : Items). IsAssembled m brain list) (one_program lines_decide text made.main items made.is is) made.assembled

pub no-fault : (text : List ℕ) (brain : List Instr) (list : List Address) → IsAssembledText text brain list → (fault : AsmFault) → IsAsmFault text fault → ⊥
no-fault text brain list made fault wrong = never_both lines_decide text made.main fault made.is wrong

-- a fault that was returned, of a program's text and of one with a fault
pub want-only : (text : List ℕ) (fault : AsmFault) → IsAsmFault text fault ⊎ (fault ≡ OutOfMemory) → (items : Items) → IsAsmText text items → fault ≡ OutOfMemory
want-only text fault (inl is) items program = absurd (never_both lines_decide text items fault program is)
want-only text fault (inr want) items program = want

pub fault-only : (text : List ℕ) (answered : AsmFault) → IsAsmFault text answered ⊎ (answered ≡ OutOfMemory) → (fault : AsmFault) → IsAsmFault text fault → (answered ≡ fault) ⊎ (answered ≡ OutOfMemory)
fault-only text answered (inl is) fault wrong = inl (one_fault lines_decide text answered fault is wrong)
fault-only text answered (inr want) fault wrong = inr want
