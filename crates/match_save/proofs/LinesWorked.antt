-- Lines of saves as they are spelled, at the limits of their numbers and beyond them, by hand.
use Rattle.std.proofs.Common.{◌≡◌, ℕ, true, List, [], ◌∷◌, ◌++◌, map, Some, None, Ok, Err, codes, refl}
use Rattle.ant_base.specs.Lines.{lines_of}
use Rattle.hex_geometry.specs.declared.direction.Dir.TheVariants.{NorthEast}
use Rattle.cell_world.specs.declared.ant.Colour.TheVariants.{Black}
use Rattle.match_save.specs.declared.head.Head.{Head}
use Rattle.match_save.specs.Inner.Readers.{Left}
use Rattle.match_save.specs.Inner.Reading.{ant_of, draft_of_text, food_of, read_head, strict_value}
use Rattle.std.specs.Fmt.{digits}
use Rattle.match_save.specs.FaultText.{already_at_text, save_fault_text}
use Rattle.match_save.specs.declared.fault.SaveFault.TheVariants.{BadLine, BadState, OutOfMemory}

-- a line has one space between its tokens and none else, and its words in their case
pub spelled_otherwise : map (λ line. draft_of_text (codes "ants save 1\n" ++ line)) (codes "seed  1\n" ∷ codes "seed 1 \n" ∷ codes " seed 1\n" ∷ codes "seed\t1\n" ∷ codes "Seed 1\n" ∷ [])
    ≡ Err 2 ∷ Err 2 ∷ Err 2 ∷ Err 2 ∷ Err 2 ∷ []
unfolding draft_of_text strict_value
spelled_otherwise = refl

-- the first eight lines at their greatest numbers, and at their least
abbrev head_lines : List ℕ → Left (List ℕ)
head_lines text = record { number = 1; items = lines_of text }

abbrev greatest : Head
greatest = record {
  seed = 4294967295;
  surround = 6;
  corpse = 9;
  rest = 255;
  window = 16384;
  round = 1000000;
  place = 99999999999;
  taken = 99999999999;
  redone = 99999999999;
  width = 512;
  height = 512;
}

pub greatest_read : read_head (head_lines (codes "ants save 1\nseed 4294967295\nsheet 6 9 255\nwindow 16384\nround 1000000\nplace 99999999999\ntaken 99999999999 redone 99999999999\nsize 512 512\n"))
    ≡ Ok (greatest, record { number = 9; items = [] })
unfolding strict_value
greatest_read = refl

abbrev least : Head
least = record {
  seed = 0;
  surround = 4;
  corpse = 0;
  rest = 0;
  window = 1;
  round = 0;
  place = 0;
  taken = 0;
  redone = 0;
  width = 3;
  height = 3;
}

pub least_read : read_head (head_lines (codes "ants save 1\nseed 0\nsheet 4 0 0\nwindow 1\nround 0\nplace 0\ntaken 0 redone 0\nsize 3 3\n")) ≡ Ok (least, record { number = 9; items = [] })
unfolding strict_value
least_read = refl

-- one more or one less is no number of its line
pub sheets_beyond : map (λ line. draft_of_text (codes "ants save 1\nseed 1\n" ++ line)) (codes "sheet 3 3 14" ∷ codes "sheet 7 3 14" ∷ codes "sheet 5 10 14" ∷ codes "sheet 5 3 256" ∷ [])
    ≡ Err 3 ∷ Err 3 ∷ Err 3 ∷ Err 3 ∷ []
unfolding draft_of_text strict_value
sheets_beyond = refl

pub sizes_beyond : map (λ line. draft_of_text (codes "ants save 1\nseed 1\nsheet 5 3 14\nwindow 1\nround 1\nplace 0\ntaken 1 redone 0\n" ++ line)) (codes "size 2 3" ∷ codes "size 513 3" ∷ codes "size 3 2" ∷ codes "size 3 513" ∷ [])
    ≡ Err 8 ∷ Err 8 ∷ Err 8 ∷ Err 8 ∷ []
unfolding draft_of_text strict_value
sizes_beyond = refl

-- a brain has 1 to 10,000 instructions: after the line of its length its first is missing
pub lengths_judged : map (λ line. draft_of_text (codes "ants save 1\nseed 1\nsheet 5 3 14\nwindow 1\nround 1\nplace 0\ntaken 1 redone 0\nsize 3 3\n" ++ line)) (codes "red 0" ∷ codes "red 1" ∷ codes "red 10000" ∷ codes "red 10001" ∷ [])
    ≡ Err 9 ∷ Err 10 ∷ Err 10 ∷ Err 9 ∷ []
unfolding draft_of_text strict_value
lengths_judged = refl

-- an ant's numbers at their greatest in a world of 4 by 3 cells, and each of them one greater
pub greatest_ant : ant_of 4 3 (codes "ant 16383 black 3 2 5 1 9999 255") ≡
    Some (record { place = record { x = 3; y = 2 }; ant = record { id = 16383; colour = Black; state = 9999; resting = 255; facing = NorthEast; laden = true } })
unfolding strict_value
greatest_ant = refl

pub ants_beyond : map (ant_of 4 3)
    (codes "ant 16384 red 3 2 5 1 0 0" ∷ codes "ant 0 red 4 2 5 1 0 0" ∷ codes "ant 0 red 3 3 5 1 0 0" ∷ codes "ant 0 red 3 2 6 1 0 0" ∷ codes "ant 0 red 3 2 5 2 0 0" ∷ codes "ant 0 red 3 2 5 1 10000 0" ∷ codes "ant 0 red 3 2 5 1 0 256" ∷ [])
    ≡ None ∷ None ∷ None ∷ None ∷ None ∷ None ∷ None ∷ []
unfolding strict_value
ants_beyond = refl

-- the line of an amount has 63 to 2,340,900 particles
pub foods_judged : map (food_of 2 1) (codes "food 2 1 62" ∷ codes "food 2 1 63" ∷ codes "food 2 1 2340900" ∷ codes "food 2 1 2340901" ∷ []) ≡ None ∷ Some 63 ∷ Some 2340900 ∷ None ∷ []
unfolding strict_value
foods_judged = refl

-- what each fault says
faults_say : already_at_text 60 ∷ map save_fault_text (BadLine 1 ∷ BadState ∷ OutOfMemory ∷ [])
    ≡ codes "already at round 60" ∷ codes "line 1: not a save" ∷ codes "no valid state" ∷ codes "out of memory" ∷ []
unfolding digits
faults_say = refl
