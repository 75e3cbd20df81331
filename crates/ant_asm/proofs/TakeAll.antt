-- Tokens that are taken one after another.
use Rattle.std.proofs.Common.{◌≡◌, inl, inr, ℕ, suc, List, [], Ok, Err, refl, sym, ap, ◌∙◌, subst, ◌+◌, ◌-◌, ◌<◌, ◌≤◌, arith}
use Rattle.std.proofs.lemmas.List.{append-nil}
use Rattle.line_tokens.specs.declared.refusal.Refusal.{Refusal}
use Rattle.line_tokens.specs.Steps as brain
use Rattle.line_tokens.specs.Steps.{take_end}
use Rattle.ant_asm.specs.declared.spelling.SpellingFault.{SpellingFault}
use Rattle.ant_asm.specs.Inner.Reading.{Read, Step, ◌>>=◌, all_read, lifted, spelling_of, take_all}
use Rattle.ant_asm.specs.Inner.ReadLine.{StopsAs, all_before}

-- nothing in front
pub before-nothing : {A : Type 0} (made : Step (List A)) → all_before [] made ≡ made
before-nothing (Ok others) = refl
before-nothing (Err fault) = refl

-- a step that stops stops all
pub all-stops : {A : Type 0} (read : List ℕ → Read A) (n : ℕ) (tokens : List (List ℕ)) (fault : SpellingFault) → StopsAs (take_all read n tokens) fault → StopsAs (all_read read n tokens) fault
all-stops read n tokens fault (inl is) = inl (ap (λ (m : Step (List _)). m >>= (λ others. lifted (take_end others.1) >>= (λ end. Ok others.0))) is)
all-stops read n tokens fault (inr want) = inr want

-- a fault of equal readings
pub stops-same : {A : Type 0} (made other : Step (List A)) (fault : SpellingFault) → made ≡ other → StopsAs made fault → StopsAs other fault
stops-same made other fault same stops = subst (λ (m : Step (List _)). StopsAs m fault) same stops

-- how many are left
pub left-one : (k : ℕ) → k < 8 → suc (8 - (k + 1)) ≡ 8 - k
left-one k inside = omega (arith, inside)

-- no more tokens are taken; the line ends here, or it doesn't
module _ {A : Type 0} (read : List ℕ → Read A) (front : List A) (k : ℕ) (left tokens : List (List ℕ)) (done : 8 ≤ k) (before : all_before front (take_all read (8 - k) left) ≡ take_all read 8 tokens) where
  all-taken : take_all read 8 tokens ≡ Ok (front, left)
  all-taken =
      sym before
      ∙ ap (λ (n : ℕ). all_before front (take_all read n left)) (none-left k done)
      ∙ ap (λ (l : List A). Ok (l, left)) (append-nil front)
    where
      none-left : (k : ℕ) → 8 ≤ k → 8 - k ≡ 0
      none-left k done = omega (arith, done)

  pub all-ends : (end : Unit {0} × List (List ℕ)) → take_end left ≡ Ok end → all_read read 8 tokens ≡ Ok front
  all-ends end is =
      ap (λ (m : Step (List A)). m >>= (λ others. lifted (take_end others.1) >>= (λ end. Ok others.0))) all-taken
      ∙ ap (λ (m : brain.Step (Unit {0})). lifted m >>= (λ end. Ok front)) is

  pub all-goes-on : (refusal : Refusal) → take_end left ≡ Err refusal → all_read read 8 tokens ≡ Err (spelling_of refusal)
  all-goes-on refusal is =
      ap (λ (m : Step (List A)). m >>= (λ others. lifted (take_end others.1) >>= (λ end. Ok others.0))) all-taken
      ∙ ap (λ (m : brain.Step (Unit {0})). lifted m >>= (λ end. Ok front)) is
