-- The writes of a look, set in two passes: first those that don't raise the weight of their cell, then the others.
use Rattle.std.specs.Prelude.{◌≡◌, Bool, true, false, ⊤, if◌then◌else◌, not, List, [], ◌∷◌}
use Rattle.cell_world.specs.Valid.{CanSet}
use Rattle.cell_world.specs.World.{World, put}
use Rattle.spec_record.specs.Claims.{Sighting, seen_place}
use Rattle.spec_record.specs.Patches.{patched_by_write, raises}

-- whether a write that raises its cell's weight, or doesn't, is one of the pass
abbrev pub is_in_pass : Bool → Bool → Bool
is_in_pass false raises = not raises
is_in_pass true raises = raises

-- the world with a write set, if it is one of the pass
abbrev pub with_pass : Bool → World → Sighting → World
with_pass heavier w write =
    if is_in_pass heavier (raises w.cells write) then put w (seen_place write) (patched_by_write w.cells write) else w

-- the world with those writes set that are of the pass
abbrev pub after_pass : Bool → World → List Sighting → World
after_pass heavier w [] = w
after_pass heavier w (write ∷ writes) = after_pass heavier (with_pass heavier w write) writes

-- a write may be set, if it is one of the pass
abbrev pub CanSetInPass : Bool → World → Sighting → Type 0
CanSetInPass heavier w write =
    is_in_pass heavier (raises w.cells write) ≡ true → CanSet w 9 (seen_place write) (patched_by_write w.cells write)

-- those writes that are of the pass may be set, one after another
abbrev pub CanSetPass : Bool → World → List Sighting → Type 0
CanSetPass heavier w [] = ⊤
CanSetPass heavier w (write ∷ writes) =
    CanSetInPass heavier w write × CanSetPass heavier (with_pass heavier w write) writes
