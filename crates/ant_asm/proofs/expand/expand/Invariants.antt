use Rattle.std.proofs.Common.{◌≡◌, ◌++◌, []}
use Rattle.ant_asm.specs.Places.{places_of}
use Rattle.ant_asm.specs.Inner.Emission.{emitted, main_numbers}
use Rattle.ant_asm.specs.Inner.Flat.{tree_at}
use Rattle.ant_asm.specs.Inner.Works.{IsWork, list_left, nodes_left, places_left}
use Rattle.ant_asm.proofs.expand.expand.Given as goal

-- each step leaves less
abbrev pub decreases-steps : goal.decreases-steps
decreases-steps l = nodes_left l.bodies l.work

-- what was expanded so far, followed by what is left, is all
abbrev pub invariant-steps : goal.invariant-steps
invariant-steps l = record {
  work : IsWork l.bodies l.work;
  list : l.out.list.items ++ list_left l.bodies l.work ≡ l.initial.out.list.items ++ emitted (tree_at l.bodies l.fn.number) (tree_at l.bodies l.fn.number) main_numbers 0;
  places : l.out.places.items ++ places_left l.bodies l.work ≡ l.initial.out.places.items ++ places_of (tree_at l.bodies l.fn.number) [] 0;
}
