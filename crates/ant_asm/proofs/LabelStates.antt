-- The labels of a program by addresses are those by numbers of instructions.
use Rattle.std.proofs.Common.{◌≡◌, ℕ, suc, ◌+◌, ◌≤◌, List, [], ◌∷◌, ◌++◌, length, refl, sym, ap, ap₂, ◌∙◌, subst, arith}
use Rattle.std.specs.Prelude.{◌==◌, if◌then◌else◌}
use Rattle.ant_asm.specs.Program.{Items, from_place, size_of}
use Rattle.ant_asm.specs.Program.Items.{End, Do, Use}
use Rattle.ant_asm.specs.Places.{Frame, inner, main_frame, places}
use Rattle.ant_asm.specs.Assembled.{number_in}
use Rattle.ant_asm.specs.Labels.{LabelState, Outline, PutBody, WayStep, block_at, handed_at, inner_labels, own_labels, put_inside, put_main}
use Rattle.ant_asm.specs.Labels.Outline.{Closed, Labelled, Instructed, Used}
use Rattle.ant_asm.specs.Inner.Emission.{Numbers, inner_numbers, main_numbers, number_first, offset}
use Rattle.ant_asm.specs.Inner.Outlines.{all_states, further, inner_states, outline_size, own_states, state_at}
use Rattle.ant_asm.proofs.Emission.{IsNumbered, IsNumbered-inner, IsNumbered-main, from_place-next, number_first-is, offset-next}
use Rattle.ant_asm.proofs.OutlineFits.{Fits, fits-size}

-- what follows the first of some items
fits-next : (others : Outline) (items rest : Items) (k : ℕ) → from_place k items ≡ rest → Fits others (from_place 1 rest) → Fits others (from_place (suc k) items)
fits-next others items rest k at fits = subst (Fits others) (sym (from_place-next k items ∙ ap (from_place 1) at)) fits

module _ (main : Items) where
  abbrev put : Items → Frame → List WayStep → PutBody
  put items frame way = record { state = number_in (places main); items = items; frame = frame; way = way }

  -- the number of the first instruction from a place on
  first-state : (items : Items) (frame : Frame) (numbers : Numbers) (k : ℕ) (outline : Outline) (at : ℕ) → IsNumbered main items frame numbers → Fits outline (from_place k items) → at ≡ numbers.base + offset k items →
      number_first items numbers k ≡ state_at (outline_size outline) at numbers.after
  first-state items frame numbers k outline at is fits there =
      ap₂ (λ (left here : ℕ). if left == 0 then numbers.after else here) (sym (fits-size outline (from_place k items) fits)) (sym there)

  own-is : (outline : Outline) (items : Items) (frame : Frame) (numbers : Numbers) (way : List WayStep) (k at : ℕ) → IsNumbered main items frame numbers → Fits outline (from_place k items) → at ≡ numbers.base + offset k items →
      own_labels outline (put items frame way) k ≡ own_states outline at numbers.after way
  own-is Closed items frame numbers way k at is fits there = refl
  own-is (Labelled name others) items frame numbers way k at is fits there =
      ap₂ (λ (s : ℕ) (l : List LabelState). (let one : LabelState = record { way = way; name = name; state = s } in one) ∷ l)
      (number_first-is main items frame numbers k is ∙ first-state items frame numbers k others at is fits there)
      (own-is others items frame numbers way k at is fits there)
  own-is (Instructed line others) items frame numbers way k at is fits there =
      go (from_place k items) refl fits (λ fit next. own-is others items frame numbers way (suc k) (at + 1) is fit next)
    where
      go : (rest : Items) → from_place k items ≡ rest → Fits (Instructed line others) rest → (Fits others (from_place (suc k) items) → at + 1 ≡ numbers.base + offset (suc k) items →
          own_labels others (put items frame way) (suc k) ≡ own_states others (at + 1) numbers.after way) → own_labels others (put items frame way) (suc k) ≡ own_states others (at + 1) numbers.after way
      go End e fit later = absurd fit
      go (Do action left) e fit later =
          later (fits-next others items (Do action left) k e fit.1)
          (let next : offset (suc k) items ≡ offset k items + 1 = offset-next k items ∙ ap (λ (i : Items). offset k items + offset 1 i) e in omega (arith, there, next))
      go (Use handed block left) e fit later = absurd fit
  own-is (Used line name block others) items frame numbers way k at is fits there =
      go (from_place k items) refl fits (λ fit next. own-is others items frame numbers way (suc k) (at + outline_size block) is fit next)
    where
      go : (rest : Items) → from_place k items ≡ rest → Fits (Used line name block others) rest → (Fits others (from_place (suc k) items) → at + outline_size block ≡ numbers.base + offset (suc k) items →
          own_labels others (put items frame way) (suc k) ≡ own_states others (at + outline_size block) numbers.after way) → own_labels others (put items frame way) (suc k) ≡ own_states others (at + outline_size block) numbers.after way
      go End e fit later = absurd fit
      go (Do action left) e fit later = absurd fit
      go (Use handed body left) e fit later =
          later (fits-next others items (Use handed body left) k e fit.1)
          (let next : offset (suc k) items ≡ offset k items + (size_of body + 0) = offset-next k items ∙ ap (λ (i : Items). offset k items + offset 1 i) e in
          let size = fits-size block body fit.0 in omega (arith, there, next, size))

  inner-is : (outline : Outline) (items : Items) (frame : Frame) (numbers : Numbers) (way : List WayStep) (k at : ℕ) → IsNumbered main items frame numbers → Fits outline (from_place k items) → at ≡ numbers.base + offset k items →
      inner_labels outline (put items frame way) k ≡ inner_states outline at numbers.after way
  inner-is Closed items frame numbers way k at is fits there = refl
  inner-is (Labelled name others) items frame numbers way k at is fits there = inner-is others items frame numbers way k at is fits there
  inner-is (Instructed line others) items frame numbers way k at is fits there =
      go (from_place k items) refl fits (λ fit next. inner-is others items frame numbers way (suc k) (at + 1) is fit next)
    where
      go : (rest : Items) → from_place k items ≡ rest → Fits (Instructed line others) rest → (Fits others (from_place (suc k) items) → at + 1 ≡ numbers.base + offset (suc k) items →
          inner_labels others (put items frame way) (suc k) ≡ inner_states others (at + 1) numbers.after way) → inner_labels others (put items frame way) (suc k) ≡ inner_states others (at + 1) numbers.after way
      go End e fit later = absurd fit
      go (Do action left) e fit later =
          later (fits-next others items (Do action left) k e fit.1)
          (let next : offset (suc k) items ≡ offset k items + 1 = offset-next k items ∙ ap (λ (i : Items). offset k items + offset 1 i) e in omega (arith, there, next))
      go (Use handed block left) e fit later = absurd fit
  inner-is (Used line name block others) items frame numbers way k at is fits there =
      go (from_place k items) refl fits (λ body f n inside fit here. inner-is block body f n (further way name line) 0 at inside fit here)
      (λ fit next. inner-is others items frame numbers way (suc k) (at + outline_size block) is fit next)
    where
      path : List WayStep
      path = further way name line

      follows : ℕ
      follows = state_at (outline_size others) (at + outline_size block) numbers.after

      go : (rest : Items) → from_place k items ≡ rest → Fits (Used line name block others) rest →
          ((body : Items) (f : Frame) (n : Numbers) → IsNumbered main body f n → Fits block body → at ≡ n.base + 0 → inner_labels block (put body f path) 0 ≡ inner_states block at n.after path) →
          (Fits others (from_place (suc k) items) → at + outline_size block ≡ numbers.base + offset (suc k) items → inner_labels others (put items frame way) (suc k) ≡ inner_states others (at + outline_size block) numbers.after way) →
          (own_labels block (put_inside (put items frame way) k name line) 0 ++ inner_labels block (put_inside (put items frame way) k name line) 0) ++ inner_labels others (put items frame way) (suc k)
          ≡ (own_states block at follows path ++ inner_states block at follows path) ++ inner_states others (at + outline_size block) numbers.after way
      go End e fit within later = absurd fit
      go (Do action left) e fit within later = absurd fit
      go (Use handed body left) e fit within later =
          ap₂ ◌++◌
          (ap (λ (b : PutBody). own_labels block b 0 ++ inner_labels block b 0) (ap (λ (i : Items). put (block_at i) (inner items frame k (handed_at i)) path) e)
          ∙ ap₂ ◌++◌
          (own-is block body (inner items frame k handed) (inner_numbers items numbers k handed) path 0 at inside fit.0 here ∙ ap (λ (n : ℕ). own_states block at n path) after)
          (within body (inner items frame k handed) (inner_numbers items numbers k handed) inside fit.0 here ∙ ap (λ (n : ℕ). inner_states block at n path) after))
          (later further-fits next-at)
        where
          inside : IsNumbered main body (inner items frame k handed) (inner_numbers items numbers k handed)
          inside = IsNumbered-inner main items frame numbers k handed body left is e

          further-fits : Fits others (from_place (suc k) items)
          further-fits = fits-next others items (Use handed body left) k e fit.1

          next-at : at + outline_size block ≡ numbers.base + offset (suc k) items
          next-at =
              let next : offset (suc k) items ≡ offset k items + (size_of body + 0) = offset-next k items ∙ ap (λ (i : Items). offset k items + offset 1 i) e in
              let size = fits-size block body fit.0 in omega (arith, there, next, size)

          here : at ≡ numbers.base + offset k items + 0
          here = omega (arith, there)

          after : number_first items numbers (suc k) ≡ follows
          after = first-state items frame numbers (suc k) others (at + outline_size block) is further-fits next-at

  pub labels-are : (outline : Outline) → Fits outline main → 1 ≤ length (places main) → own_labels outline (put_main main) 0 ++ inner_labels outline (put_main main) 0 ≡ all_states outline 0 0 []
  labels-are outline fits some =
      ap₂ ◌++◌ (own-is outline main (main_frame main) main_numbers [] 0 0 (IsNumbered-main main some) fits refl) (inner-is outline main (main_frame main) main_numbers [] 0 0 (IsNumbered-main main some) fits refl)
