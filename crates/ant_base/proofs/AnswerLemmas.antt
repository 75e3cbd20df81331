-- What is returned for a text whose verdict was judged, if memory may run out.
use Rattle.std.proofs.Common.{◌≡◌, ◌⊎◌, inl, inr, Result, Ok, Err, sym, ◌∙◌}

-- if it was judged to have a value, memory ran out
pub fault-of_value : {A F : Type 0} (judged : Result A F) (value : A) (memory fault : F) → judged ≡ Ok value → (fault ≡ memory) ⊎ (judged ≡ Err fault) → fault ≡ memory
fault-of_value judged value memory fault is (inl want) = want
fault-of_value {A} {F} judged value memory fault is (inr told) = (let differ : ◌≡◌ {A = Result A F} (Ok value) (Err fault) = sym is ∙ told in absurd (cc))

-- if it was judged to have a fault, that one is returned, or memory ran out
pub fault-of_fault : {A F : Type 0} (judged : Result A F) (fault memory answered : F) → judged ≡ Err fault → (answered ≡ memory) ⊎ (judged ≡ Err answered) → (answered ≡ fault) ⊎ (answered ≡ memory)
fault-of_fault judged fault memory answered is (inl want) = inr want
fault-of_fault {A} {F} judged fault memory answered is (inr told) = inl (let same : ◌≡◌ {A = Result A F} (Err answered) (Err fault) = sym told ∙ is in cc)
