-- A program that is being expanded, and what is left of it.
use Rattle.std.specs.Prelude.{◌≡◌, ℕ, suc, ◌+◌, ◌<◌, ◌≤◌, Bool, true, false, List, [], ◌∷◌, ◌++◌, length, map, Some, slice_get}
use Rattle.std.specs.List.{AllByRecursion}
use Rattle.brain_read.specs.declared.instr.Instr.{Instr}
use Rattle.ant_asm.specs.declared.body.Body.{Body}
use Rattle.ant_asm.specs.declared.expand.Expansion.{Expansion}
use Rattle.ant_asm.specs.declared.expand.Put.{Put}
use Rattle.ant_asm.specs.declared.expand.Work.{Work}
use Rattle.ant_asm.specs.Program.{Items, from_place, size_of}
use Rattle.ant_asm.specs.Program.Items.{End, Do, Use}
use Rattle.ant_asm.specs.Places.{Address, places_of}
use Rattle.ant_asm.specs.Inner.Emission.{Numbers, emitted}
use Rattle.ant_asm.specs.Inner.Flat.{most, tree_at}
use Rattle.ant_asm.specs.Inner.Left.{left_by}

-- the numbers of a body in use
abbrev pub numbers_in : Put → Numbers
numbers_in put = record { base = put.base; after = put.after; given = put.given.items }

-- a body's instructions from its k-th item on, and their addresses
abbrev pub list_from : List Body → ℕ → Put → List ℕ → List Instr
list_from bodies k put path =
    emitted (from_place k (tree_at bodies put.number)) (tree_at bodies put.number) (numbers_in put) k

abbrev pub places_from : List Body → ℕ → Put → List ℕ → List Address
places_from bodies k put path = places_of (from_place k (tree_at bodies put.number)) path k

-- a place in a body: that of its next item, or, while a block that it uses is expanded, that of the use
abbrev pub place_in : Put → ℕ
place_in put = put.place

-- what is left of the current body and of the bodies around it
abbrev pub left_of_work : {A : Type 0} → (ℕ → Put → List ℕ → List A) → Work → List A
left_of_work tell work =
    tell work.top.place work.top (map place_in work.outer.items)
    ++ left_by place_in (λ put path. tell (put.place + 1) put path) work.outer.items []

abbrev pub list_left : List Body → Work → List Instr
list_left bodies work = left_of_work (list_from bodies) work

abbrev pub places_left : List Body → Work → List Address
places_left bodies work = left_of_work (places_from bodies) work

-- how many steps are left
abbrev pub nodes_in : Items → ℕ
nodes_in End = 1
nodes_in (Do action others) = suc (nodes_in others)
nodes_in (Use handed block others) = suc (nodes_in block + nodes_in others)

abbrev pub nodes_after : List Body → List Put → ℕ
nodes_after bodies [] = 0
nodes_after bodies (put ∷ puts) =
    nodes_in (from_place (put.place + 1) (tree_at bodies put.number)) + nodes_after bodies puts

abbrev pub nodes_left : List Body → Work → ℕ
nodes_left bodies work =
    nodes_in (from_place work.top.place (tree_at bodies work.top.number)) + nodes_after bodies work.outer.items

-- A body in use is one of these. It has a number for each parameter, and all its instructions have numbers.
pub record IsPutIn (bodies : List Body) (put : Put) : Type 0 where
  pub known : put.number < length bodies
  pub given : (body : Body) → slice_get bodies put.number ≡ Some body → length put.given.items ≡ body.parameters
  pub fits : put.base + size_of (tree_at bodies put.number) ≤ most

-- the same for a body around it, at a place of one of its items
abbrev pub IsPutAt : List Body → Put → Type 0
IsPutAt bodies put = IsPutIn bodies put × (put.place < most)

pub record IsWork (bodies : List Body) (work : Work) : Type 0 where
  pub top : IsPutIn bodies work.top
  pub outer : AllByRecursion (IsPutAt bodies) work.outer.items
  pub path : work.path.items ≡ map place_in work.outer.items

-- A step of the work. What was expanded so far, followed by what is left, is the same before and after it. If there is
-- more to do, fewer steps are left. Otherwise nothing is left.
pub record IsGone (bodies : List Body) (old new : Work) (before after : Expansion) (more : Bool) : Type 0 where
  pub work : IsWork bodies new
  pub list : after.list.items ++ list_left bodies new ≡ before.list.items ++ list_left bodies old
  pub places : after.places.items ++ places_left bodies new ≡ before.places.items ++ places_left bodies old
  pub fewer : more ≡ true → nodes_left bodies new < nodes_left bodies old
  pub end : more ≡ false → (list_left bodies new ≡ []) × (places_left bodies new ≡ [])
