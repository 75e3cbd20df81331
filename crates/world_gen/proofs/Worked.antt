-- Elements of a world whose numbers are known: the stream of seed 12345 begins 7193, 2932, 10386, 5575, 100, 15976,
-- 430.
use Rattle.ant_random.specs.Stream.{drawn, random_at, state_at}
use Rattle.cell_world.specs.declared.ant.Colour.TheVariants.{Red, Black}
use Rattle.hex_geometry.specs.Neighbourhood.{adjacent_point}
use Rattle.hex_geometry.specs.Position.{Point}
use Rattle.hex_geometry.specs.declared.direction.Dir.TheVariants.{SouthEast, SouthWest}
use Rattle.hex_geometry.specs.declared.position.Pos.{Pos}
use Rattle.std.proofs.Common.{◌≡◌, ℕ, [], ◌∷◌, codes, map, refl}
use Rattle.std.specs.Fmt.{digits}
use Rattle.std.specs.Prelude.{pos}
use Rattle.world_gen.specs.Elements.{element_of, point_after}
use Rattle.world_gen.specs.Placing.{after_begun, figure_begun, try_of}
use Rattle.world_gen.specs.declared.element.Element.TheVariants as element
use Rattle.world_gen.specs.declared.spot.Figure.TheVariants.{Hill, Rock, Blob}
use Rattle.world_gen.specs.FaultText.{gen_fault_text}
use Rattle.world_gen.specs.declared.generator.GenFault.TheVariants.{NoRoom, OutOfMemory}

abbrev pub place : ℕ → ℕ → Pos
place x y = record { x = x; y = y }

abbrev point : ℕ → ℕ → Point
point x y = record { x = pos x; y = pos y }

-- the first three elements of 64 by 64 cells without rocks, at their first tries
pub red_hill : try_of 12345 64 64 (figure_begun 12345 0 (element.Hill Red)) (after_begun 0 (element.Hill Red)) 0 ≡ record { figure = Hill Red; place = place 25 52 }
unfolding state_at random_at drawn
red_hill = refl

pub black_hill : try_of 12345 64 64 (figure_begun 12345 2 (element.Hill Black)) (after_begun 2 (element.Hill Black)) 0 ≡ record { figure = Hill Black; place = place 18 7 }
unfolding state_at random_at drawn
black_hill = refl

pub blob : try_of 12345 64 64 (figure_begun 12345 4 element.Blob) (after_begun 4 element.Blob) 0 ≡ record { figure = Blob SouthEast; place = place 36 40 }
unfolding state_at random_at drawn
blob = refl

-- a rock that is begun at place 0 of the stream has radius 2 in all its tries, the first of which draws from place 1 on
-- and the next from 3
pub rock_tries : map (try_of 12345 150 150 (figure_begun 12345 0 element.Rock) (after_begun 0 element.Rock)) (0 ∷ 1 ∷ []) ≡ record { figure = Rock 2; place = place 82 36 } ∷ record { figure = Rock 2; place = place 25 100 } ∷ []
unfolding state_at random_at drawn
rock_tries = refl

-- the blob's side in its first direction, and the side at the end of that in its second
pub blob_sides : map (λ (n : ℕ). point_after n SouthEast (point 36 40)) (1 ∷ 2 ∷ 3 ∷ 4 ∷ []) ≡ point 36 41 ∷ point 37 42 ∷ point 37 43 ∷ point 38 44 ∷ []
unfolding point_after adjacent_point
blob_sides = refl

pub blob_far_side : map (λ (n : ℕ). point_after n SouthWest (point_after 4 SouthEast (point 36 40))) (1 ∷ 2 ∷ 3 ∷ 4 ∷ []) ≡ point 37 45 ∷ point 37 46 ∷ point 36 47 ∷ point 36 48 ∷ []
unfolding point_after adjacent_point
blob_far_side = refl

-- the elements in their order
pub elements : map (element_of (record { width = 64; height = 64; rocks = 2; blobs = 1 })) (0 ∷ 1 ∷ 2 ∷ 3 ∷ 4 ∷ []) ≡ element.Hill Red ∷ element.Hill Black ∷ element.Rock ∷ element.Rock ∷ element.Blob ∷ []
elements = refl

-- what each fault says
faults_say : gen_fault_text (NoRoom 13) ∷ gen_fault_text OutOfMemory ∷ [] ≡ codes "no room for element 13" ∷ codes "out of memory" ∷ []
unfolding digits
faults_say = refl
