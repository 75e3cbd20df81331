-- What is read of a text is what the relations say of it.
use Rattle.std.proofs.Common.{◌≡◌, ◌⊎◌, inl, inr, ℕ, List, Result, Ok, Err, IfErr, IfOk, refl, sym, ◌∙◌, ap, subst}
use Rattle.ant_base.proofs.AnswerLemmas.{fault-of_fault, fault-of_value}
use Rattle.ant_base.specs.Answers.{AnswersFault, AnswersValue, IsFaultOr}
use Rattle.cell_world.specs.Grid.{Grid}
use Rattle.cell_world.specs.Opening.{opening}
use Rattle.world_read.specs.declared.fault.WorldFault.{WorldFault}
use Rattle.world_read.specs.declared.fault.WorldFault.TheVariants.{OutOfMemory}
use Rattle.world_read.specs.Faulty.{IsWorldFault}
use Rattle.world_read.specs.Grammar.{Plan}
use Rattle.world_read.specs.Opened.{IsOpeningWorld, OpensAs}
use Rattle.world_read.specs.Inner.Reading.{ReadsAs, opened, plan_of, world_of_text}
use Rattle.world_read.proofs.FaultReads.{plan_of-fault}
use Rattle.world_read.proofs.TextReads.{plan_of-known, plan_of-text}
use Rattle.world_read.proofs.WrongReads.{plan_of-wrong}

-- the opening of a plan that was read
OpensAs-plan : (text : List ℕ) (plan : Plan) → plan_of text ≡ Ok plan → OpensAs text (opening plan.width plan.height plan.kinds)
unfolding opening
OpensAs-plan text plan is = record { kinds = plan.kinds; is = plan_of-known text plan is; opened = refl }

-- a world that is read is the one of which the text is
pub OpensAs-known : (text : List ℕ) (world : Grid) → world_of_text text ≡ Ok world → OpensAs text world
unfolding world_of_text
OpensAs-known text world is = go (plan_of text) refl is where
  go : (read : Result Plan WorldFault) → plan_of text ≡ read → opened read ≡ Ok world → OpensAs text world
  go (Err fault) told is = absurd (cc)
  go (Ok plan) told is =
      let one : opening plan.width plan.height plan.kinds ≡ world = cc in
      subst (OpensAs text) one (OpensAs-plan text plan told)

-- a world's text is read as that world
pub world_of_text-opens : (text : List ℕ) (world : Grid) → OpensAs text world → world_of_text text ≡ Ok world
unfolding world_of_text
world_of_text-opens text world opens =
    ap opened (plan_of-text text world.width world.height opens.kinds opens.is) ∙ ap Ok (sym opens.opened)

-- a fault that is read is what is wrong with the text
pub IsWorldFault-known : (text : List ℕ) (fault : WorldFault) → world_of_text text ≡ Err fault → IsWorldFault text fault
unfolding world_of_text
IsWorldFault-known text fault is = go (plan_of text) refl is where
  go : (read : Result Plan WorldFault) → plan_of text ≡ read → opened read ≡ Err fault → IsWorldFault text fault
  go (Ok plan) told is = absurd (cc)
  go (Err other) told is =
      let one : other ≡ fault = cc in
      subst (IsWorldFault text) one (plan_of-fault text other told)

-- what is wrong with a text is read as its fault
pub world_of_text-wrong : (text : List ℕ) (fault : WorldFault) → IsWorldFault text fault → world_of_text text ≡ Err fault
unfolding world_of_text
world_of_text-wrong text fault wrong = ap opened (plan_of-wrong text fault wrong)

-- a fault that is returned is out of memory, or it was judged
pub ReadsAs-fault : {A : Type 0} (told : Result A WorldFault) (fault : WorldFault) → ReadsAs told (Err fault) → (fault ≡ OutOfMemory) ⊎ (told ≡ Err fault)
ReadsAs-fault told OutOfMemory is = inl refl
ReadsAs-fault told it is = inr is

-- an answered world is the text's
pub OpensAs-answered : (text : List ℕ) (result : Result Grid WorldFault) → ReadsAs (world_of_text text) result → IfOk result (OpensAs text)
OpensAs-answered text (Ok world) told = OpensAs-known text world told
OpensAs-answered text (Err fault) told = tt

-- so it is an opening world
pub IsOpeningWorld-answered : (text : List ℕ) (result : Result Grid WorldFault) → ReadsAs (world_of_text text) result → IfOk result IsOpeningWorld
IsOpeningWorld-answered text (Ok world) told =
    let opens = OpensAs-known text world told in record { kinds = opens.kinds; plan = opens.is.plan; is = opens.opened }
IsOpeningWorld-answered text (Err fault) told = tt

-- an answered fault is the text's
pub IsFaultOr-answered : (text : List ℕ) (result : Result Grid WorldFault) → ReadsAs (world_of_text text) result → IfErr result (IsFaultOr OutOfMemory (IsWorldFault text))
IsFaultOr-answered text (Ok world) told = tt
IsFaultOr-answered text (Err fault) told = elim (ReadsAs-fault (world_of_text text) fault told) [ inl want ↦ inr want | inr is ↦ inl (IsWorldFault-known text fault is) ]

-- of a world's text that world is returned
pub AnswersValue-answered : (text : List ℕ) (result : Result Grid WorldFault) (world : Grid) → ReadsAs (world_of_text text) result → OpensAs text world → AnswersValue OutOfMemory result world
AnswersValue-answered text (Ok answered) world told opens = let read = world_of_text-opens text world opens in cc
AnswersValue-answered text (Err fault) world told opens = fault-of_value (world_of_text text) world OutOfMemory fault (world_of_text-opens text world opens) (ReadsAs-fault (world_of_text text) fault told)

-- of a text with a fault that fault is returned
pub AnswersFault-answered : (text : List ℕ) (result : Result Grid WorldFault) (fault : WorldFault) → ReadsAs (world_of_text text) result → IsWorldFault text fault → AnswersFault OutOfMemory result fault
AnswersFault-answered text (Ok answered) fault told wrong = let read = world_of_text-wrong text fault wrong in cc
AnswersFault-answered text (Err answered) fault told wrong = fault-of_fault (world_of_text text) fault OutOfMemory answered (world_of_text-wrong text fault wrong) (ReadsAs-fault (world_of_text text) answered told)
