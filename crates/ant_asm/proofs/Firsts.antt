-- The four cases of First, and the three of Target, as the rules have them.
use Rattle.std.proofs.Common.{◌≡◌, ℕ, suc, List, [], ◌∷◌, ◌++◌, refl, sym, ap, ◌∙◌}
use Rattle.ant_asm.specs.declared.action.Action.{Action}
use Rattle.ant_asm.specs.declared.action.Label.{Label}
use Rattle.ant_asm.specs.declared.action.Label.TheVariants.{Next, Place, Parameter}
use Rattle.ant_asm.specs.Program.{Items, from_place}
use Rattle.ant_asm.specs.Program.Items.{End, Do, Use}
use Rattle.ant_asm.specs.Places.{Frame, beginning, first_at, first_of, inner, main_frame, target}

-- item k is an instruction: its address
first_instruction : (items : Items) (frame : Frame) (k : ℕ) (action : Action Label) (others : Items) → from_place k items ≡ Do action others → first_at items frame k ≡ frame.path ++ k ∷ []
first_instruction items frame k action others is = ap (λ (i : Items). first_of i frame.path k frame.after) is

-- item k is a use of a block that has an item: First of item 0 of its block, and the path is that of the use, followed
-- by k
first_use : (items : Items) (frame : Frame) (k : ℕ) (handed : List Label) (block others : Items) → from_place k items ≡ Use handed block others → from_place (suc k) items ≡ others →
    first_at items frame k ≡ first_at block (inner items frame k handed) 0
first_use items frame k handed block others is rest =
    ap (λ (i : Items). first_of i frame.path k frame.after) is
    ∙ ap (λ (i : Items). first_of block (frame.path ++ k ∷ []) 0 (first_of i frame.path (suc k) frame.after)) (let e : others ≡ from_place (suc k) items = sym rest in e)

-- k is the length of a block's body: First of what follows the use, in the body one level up
first_end : (block items : Items) (frame : Frame) (j k : ℕ) (handed : List Label) → from_place j block ≡ End → first_at block (inner items frame k handed) j ≡ first_at items frame (suc k)
first_end block items frame j k handed is = ap (λ (i : Items). first_of i (frame.path ++ k ∷ []) j (first_at items frame (suc k))) is

-- k is the length of main: First of item 0 of main
first_main_end : (main : Items) (k : ℕ) → from_place k main ≡ End → first_at main (main_frame main) k ≡ beginning main
first_main_end main k is = ap (λ (i : Items). first_of i [] k (beginning main)) is

-- `next`, a place of the body, and a parameter, which leads to where the label leads that the use gives for it
target_next : (items : Items) (frame : Frame) (k : ℕ) → target items frame k Next ≡ first_at items frame (suc k)
target_next items frame k = refl

target_place : (items : Items) (frame : Frame) (k j : ℕ) → target items frame k (Place j) ≡ first_at items frame j
target_place items frame k j = refl

target_parameter : (block items : Items) (frame : Frame) (j k : ℕ) (label : Label) (handed : List Label) → target block (inner items frame k (label ∷ handed)) j (Parameter 0) ≡ target items frame k label
target_parameter block items frame j k label handed = refl
