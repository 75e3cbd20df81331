-- What is emitted is the assembled program.
use Rattle.std.proofs.Common.{◌≡◌, inl, ℕ, zero, suc, ◌+◌, ◌≤◌, false, List, [], ◌∷◌, ◌++◌, length, map, Option, Some, refl, sym, ap, ap₂, ◌∙◌, subst, arith, append_assoc, option_map}
use Rattle.std.proofs.lemmas.List.{length-append, length-map, map-append}
use Rattle.std.proofs.lemmas.Option.{slice_get-map}
use Rattle.std.proofs.Math.ListN.{get_or-map}
use Rattle.std.specs.Prelude.{slice_get, slice_index_or, if◌then◌else◌, ◌==◌}
use Rattle.std.proofs.Math.Path.{fun_ext}
use Rattle.std.proofs.lemmas.Bool.{cond-false, eqb-true, false_from_ne_true}
use Rattle.brain_read.specs.declared.instr.Instr.{Instr}
use Rattle.ant_asm.specs.declared.action.Label.{Label}
use Rattle.ant_asm.specs.declared.action.Label.TheVariants.{Next, Place, Parameter}
use Rattle.ant_asm.specs.Program.{Items, from_place, size_of}
use Rattle.ant_asm.specs.Program.Items.{End, Do, Use}
use Rattle.ant_asm.specs.Places.{Address, Frame, Placed, beginning, first_at, inner, main_frame, placed, placed_at, placed_from, placed_or_first, places, places_of, target}
use Rattle.ant_asm.specs.LabelGame.{instruction_by}
use Rattle.ant_asm.specs.Assembled.{IsAssembled, number_in}
use Rattle.ant_asm.specs.Inner.Emission.{Numbers, emitted, inner_numbers, main_numbers, number_first, number_of, number_target, number_walk, offset}
use Rattle.ant_asm.proofs.Addresses.{HoldsIn, HoldsIn-all, HoldsIn-body, HoldsIn-each, IsAmong, beginning-number, first_of-places, first_or, number_in-found}

-- addresses in a list have the numbers from n on, by the way that leads to them
abbrev AreNumberedFrom : Items → List Address → ℕ → Type 0
AreNumberedFrom main [] n = Unit {0}
AreNumberedFrom main (address ∷ list) n = (number_of main address ≡ n) × AreNumberedFrom main list (n + 1)

AreNumberedFrom-append : (main : Items) (list others : List Address) (n : ℕ) → AreNumberedFrom main list n → AreNumberedFrom main others (n + length list) → AreNumberedFrom main (list ++ others) n
AreNumberedFrom-append main [] others n first second = subst (AreNumberedFrom main others) (let e : n + 0 ≡ n = omega arith in e) second
AreNumberedFrom-append main (address ∷ list) others n first second =
    (first.0, AreNumberedFrom-append main list others (n + 1) first.1 (subst (AreNumberedFrom main others) (let e : n + suc (length list) ≡ n + 1 + length list = omega arith in e) second))

AreNumberedFrom-at : (main : Items) (list : List Address) (n i : ℕ) (address : Address) → AreNumberedFrom main list n → slice_get list i ≡ Some address → number_of main address ≡ n + i
AreNumberedFrom-at main [] n i address all at = absurd (cc)
AreNumberedFrom-at main (place ∷ list) n zero address all at = let same : place ≡ address = cc in ap (number_of main) (sym same) ∙ all.0 ∙ (let e : n ≡ n + 0 = omega arith in e)
AreNumberedFrom-at main (place ∷ list) n (suc i) address all at = AreNumberedFrom-at main list (n + 1) i address all.1 at ∙ (let e : n + 1 + i ≡ n + suc i = omega arith in e)

-- as many addresses as instructions
pub places_of-size : (items : Items) (path : Address) (k : ℕ) → length (places_of items path k) ≡ size_of items
places_of-size End path k = refl
places_of-size (Do action others) path k = ap suc (places_of-size others path (suc k))
places_of-size (Use handed block others) path k =
    length-append (places_of block (path ++ k ∷ []) 0) (places_of others path (suc k)) ∙ ap₂ ◌+◌ (places_of-size block (path ++ k ∷ []) 0) (places_of-size others path (suc k))

-- no successor is 0
suc-some : (n : ℕ) → (suc n == 0) ≡ false
suc-some n = false_from_ne_true (suc n == 0) (λ same. let e : suc n ≡ 0 = eqb-true (suc n) 0 same in absurd (omega arith))

-- one item more
pub from_place-next : (k : ℕ) (items : Items) → from_place (suc k) items ≡ from_place 1 (from_place k items)
from_place-next (suc k) (Do action others) = from_place-next k others
from_place-next (suc k) (Use handed block others) = from_place-next k others
from_place-next it items = refl

pub offset-next : (k : ℕ) (items : Items) → offset (suc k) items ≡ offset k items + offset 1 (from_place k items)
offset-next zero items = let e : offset 1 items ≡ 0 + offset 1 items = omega arith in e
offset-next (suc k) End = refl
offset-next (suc k) (Do action others) = let e : offset (suc k) others ≡ offset k others + offset 1 (from_place k others) = offset-next k others in let f : suc (offset (suc k) others) ≡ suc (offset k others) + offset 1 (from_place k others) = omega arith in f
offset-next (suc k) (Use handed block others) = let e : offset (suc k) others ≡ offset k others + offset 1 (from_place k others) = offset-next k others in let f : size_of block + offset (suc k) others ≡ size_of block + offset k others + offset 1 (from_place k others) = omega arith in f

module _ (main : Items) where
  abbrev number : Address → ℕ
  number = number_in (places main)

  -- the body that a path leads to, its frame, and its numbers
  pub record Stands (body : Items) (frame : Frame) (numbers : Numbers) : Type 0 where
    pub walks : (k : ℕ) (rest : Address) → placed_at main (frame.path ++ k ∷ rest) ≡ placed_from rest body frame k (from_place k body)
    counts : (k : ℕ) (rest : Address) → number_of main (frame.path ++ k ∷ rest) ≡ number_walk rest (numbers.base + offset k body) (from_place k body)

  pub Stands-main : Stands main (main_frame main) main_numbers
  Stands-main = record { walks = λ k rest. refl; counts = λ k rest. ap (λ (n : ℕ). number_walk rest n (from_place k main)) (let e : offset k main ≡ 0 + offset k main = omega arith in e) }

  pub Stands-inner : (body : Items) (frame : Frame) (numbers : Numbers) (k : ℕ) (handed : List Label) (block others : Items) →
      Stands body frame numbers → from_place k body ≡ Use handed block others →
      Stands block (inner body frame k handed) (inner_numbers body numbers k handed)
  Stands-inner body frame numbers k handed block others stands is = record {
    walks = λ j rest. ap (placed_at main) (append_assoc frame.path (k ∷ []) (j ∷ rest)) ∙ stands.walks k (j ∷ rest) ∙ ap (placed_from (j ∷ rest) body frame k) is;
    counts = λ j rest. ap (number_of main) (append_assoc frame.path (k ∷ []) (j ∷ rest)) ∙ stands.counts k (j ∷ rest) ∙ ap (number_walk (j ∷ rest) (numbers.base + offset k body)) is;
  }

  -- the addresses of a body's items have their numbers
  places_of-numbered : (items : Items) (body : Items) (frame : Frame) (numbers : Numbers) (k : ℕ) → Stands body frame numbers → from_place k body ≡ items →
      AreNumberedFrom main (places_of items frame.path k) (numbers.base + offset k body)
  places_of-numbered End body frame numbers k stands is = tt
  places_of-numbered (Do action others) body frame numbers k stands is = (
    stands.counts k [],
    subst (AreNumberedFrom main (places_of others frame.path (suc k)))
        (let e : offset (suc k) body ≡ offset k body + 1 = offset-next k body ∙ ap (λ (i : Items). offset k body + offset 1 i) is in let f : numbers.base + offset (suc k) body ≡ numbers.base + offset k body + 1 = omega arith in f)
        (places_of-numbered others body frame numbers (suc k) stands (from_place-next k body ∙ ap (from_place 1) is)),
  )
  places_of-numbered (Use handed block others) body frame numbers k stands is =
      let front : List Address = places_of block (frame.path ++ k ∷ []) 0 in
      let many : length front ≡ size_of block = places_of-size block (frame.path ++ k ∷ []) 0 in
      AreNumberedFrom-append main front (places_of others frame.path (suc k)) (numbers.base + offset k body)
      (subst (AreNumberedFrom main front) (let e : numbers.base + offset k body + 0 ≡ numbers.base + offset k body = omega arith in e)
      (places_of-numbered block block (inner body frame k handed) (inner_numbers body numbers k handed) 0
      (Stands-inner body frame numbers k handed block others stands is) refl))
      (subst (AreNumberedFrom main (places_of others frame.path (suc k)))
      (let e : offset (suc k) body ≡ offset k body + (size_of block + 0) = offset-next k body ∙ ap (λ (i : Items). offset k body + offset 1 i) is in
      let f : numbers.base + offset (suc k) body ≡ numbers.base + offset k body + length front = omega arith in f)
      (places_of-numbered others body frame numbers (suc k) stands (from_place-next k body ∙ ap (from_place 1) is)))

  -- so each address has one number, and the list has it once
  number-is : (address : Address) → IsAmong (places main) address → number address ≡ number_of main address
  number-is address among =
      sym (AreNumberedFrom-at main (places main) 0 (number address) address (places_of-numbered main main (main_frame main) main_numbers 0 Stands-main refl) (number_in-found (places main) address among) ∙ (let e : 0 + number address ≡ number address = omega arith in e))

  -- the places of an address are its number
  place-number : (i : ℕ) (address : Address) → slice_get (places main) i ≡ Some address → number_of main address ≡ i
  place-number i address at =
      AreNumberedFrom-at main (places main) 0 i address (places_of-numbered main main (main_frame main) main_numbers 0 Stands-main refl) at ∙ (let e : 0 + i ≡ i = omega arith in e)

  place-once : (i j : ℕ) (address : Address) → slice_get (places main) i ≡ Some address → slice_get (places main) j ≡ Some address → i ≡ j
  place-once i j address first second = sym (place-number i address first) ∙ place-number j address second

  -- the instruction at an address, with numbers for labels
  abbrev pub assembled : Address → Instr
  assembled address = instruction_by (λ label. number ((placed main address).target label)) (placed main address).action

  -- All addresses of the body are main's too, and the numbers are those of the frame.
  pub record IsNumbered (body : Items) (frame : Frame) (numbers : Numbers) : Type 0 where
    stands : Stands body frame numbers
    among : HoldsIn (IsAmong (places main)) body frame.path 0
    after : number frame.after ≡ numbers.after
    given : map number frame.given ≡ numbers.given

  -- the number of the first of some addresses, or of another
  first_or-number : (list : List Address) (other : Address) (base after size : ℕ) → length list ≡ size → ((address : Address) → IsAmong list address → IsAmong (places main) address) → AreNumberedFrom main list base → number other ≡ after →
      number (first_or list other) ≡ (if size == 0 then after else base)
  first_or-number [] other base after size many among numbered same = same ∙ ap (λ (n : ℕ). if n == 0 then after else base) many
  first_or-number (place ∷ list) other base after size many among numbered same =
      number-is place (among place (inl refl)) ∙ numbered.0 ∙ sym (cond-false (suc (length list) == 0) after base (suc-some (length list))) ∙ ap (λ (n : ℕ). if n == 0 then after else base) many

  pub number_first-is : (body : Items) (frame : Frame) (numbers : Numbers) (k : ℕ) → IsNumbered body frame numbers → number (first_at body frame k) ≡ number_first body numbers k
  number_first-is body frame numbers k is =
      let items : Items = from_place k body in
      ap number (first_of-places items frame.path k frame.after)
      ∙ first_or-number (places_of items frame.path k) frame.after (numbers.base + offset k body) numbers.after (size_of items) (places_of-size items frame.path k)
      (HoldsIn-each (IsAmong (places main)) items frame.path k (HoldsIn-body (IsAmong (places main)) k body frame.path is.among))
      (places_of-numbered items body frame numbers k is.stands refl) is.after

  number_target-is : (body : Items) (frame : Frame) (numbers : Numbers) (k : ℕ) (label : Label) → IsNumbered body frame numbers → number (target body frame k label) ≡ number_target body numbers k label
  number_target-is body frame numbers k Next is = number_first-is body frame numbers (suc k) is
  number_target-is body frame numbers k (Place j) is = number_first-is body frame numbers j is
  number_target-is body frame numbers k (Parameter i) is =
      sym (get_or-map number frame.given i frame.after) ∙ ap₂ (λ (list : List ℕ) (other : ℕ). slice_index_or list i other) is.given is.after

  map-both : (body : Items) (frame : Frame) (numbers : Numbers) (k : ℕ) (labels : List Label) → IsNumbered body frame numbers → map number (map (target body frame k) labels) ≡ map (number_target body numbers k) labels
  map-both body frame numbers k [] is = refl
  map-both body frame numbers k (label ∷ labels) is = ap₂ (λ (n : ℕ) (list : List ℕ). n ∷ list) (number_target-is body frame numbers k label is) (map-both body frame numbers k labels is)

  pub IsNumbered-inner : (body : Items) (frame : Frame) (numbers : Numbers) (k : ℕ) (handed : List Label) (block others : Items) →
      IsNumbered body frame numbers → from_place k body ≡ Use handed block others →
      IsNumbered block (inner body frame k handed) (inner_numbers body numbers k handed)
  IsNumbered-inner body frame numbers k handed block others is at = record {
    stands = Stands-inner body frame numbers k handed block others is.stands at;
    among = (subst (λ (i : Items). HoldsIn (IsAmong (places main)) i frame.path k) at (HoldsIn-body (IsAmong (places main)) k body frame.path is.among)).0;
    after = number_first-is body frame numbers (suc k) is;
    given = map-both body frame numbers k handed is;
  }

  -- what is emitted of some items
  emitted-is : (items : Items) (body : Items) (frame : Frame) (numbers : Numbers) (k : ℕ) → IsNumbered body frame numbers → from_place k body ≡ items →
      emitted items body numbers k ≡ map assembled (places_of items frame.path k)
  unfolding placed
  emitted-is End body frame numbers k is at = refl
  emitted-is (Do action others) body frame numbers k is at =
      ap₂ (λ (i : Instr) (l : List Instr). i ∷ l)
      (ap (λ (state : Label → ℕ). instruction_by state action) (fun_ext λ label. sym (number_target-is body frame numbers k label is))
      ∙ sym (ap (λ (o : Option Placed). instruction_by (λ label. number ((placed_or_first main o).target label)) (placed_or_first main o).action)
      (is.stands.walks k [] ∙ ap (placed_from [] body frame k) at)))
      (emitted-is others body frame numbers (suc k) is (from_place-next k body ∙ ap (from_place 1) at))
  emitted-is (Use handed block others) body frame numbers k is at =
      ap₂ ◌++◌
      (emitted-is block block (inner body frame k handed) (inner_numbers body numbers k handed) 0
      (IsNumbered-inner body frame numbers k handed block others is at) refl)
      (emitted-is others body frame numbers (suc k) is (from_place-next k body ∙ ap (from_place 1) at))
      ∙ sym (map-append assembled (places_of block (frame.path ++ k ∷ []) 0) (places_of others frame.path (suc k)))

  module _ (some : 1 ≤ length (places main)) where
    main_first : number (beginning main) ≡ 0
    main_first = beginning-number main some

    pub IsNumbered-main : IsNumbered main (main_frame main) main_numbers
    IsNumbered-main = record {
      stands = Stands-main;
      among = HoldsIn-all (IsAmong (places main)) main [] 0 (λ address among. among);
      after = main_first;
      given = refl;
    }

    -- main is assembled so
    pub emitted-assembled : IsAssembled main (emitted main main main_numbers 0) (places main)
    unfolding placed
    emitted-assembled =
        let all : emitted main main main_numbers 0 ≡ map assembled (places main) = emitted-is main main (main_frame main) main_numbers 0 IsNumbered-main refl in
        record {
          places = refl;
          once = λ i j address first second. place-once i j address first second;
          some = some;
          as_many = ap length all ∙ length-map (places main) assembled;
          each = λ i address at. ap (λ (l : List Instr). slice_get l i) all ∙ (slice_get-map assembled (places main) i ∙ ap (option_map assembled) at);
        }
