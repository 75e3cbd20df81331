-- the cell, and one neighbour after another
use Rattle.hex_geometry.proofs.Beside.{adjacent_pos_inside}
use Rattle.hex_geometry.proofs.Places.{inner_inside}
use Rattle.hex_geometry.proofs.Turns.{dir_of_number_of}
use Rattle.hex_geometry.specs.Direction.{dir_of}
use Rattle.hex_geometry.specs.Neighbourhood.{adjacent_pos}
use Rattle.hex_geometry.specs.Position.{IsInside}
use Rattle.std.proofs.Common.{◌≡◌, ◌*◌, length, sym, ◌∙◌, ap, arith, subst}
use Rattle.hex_geometry.proofs.RowLemmas.{index_of-inside}
use Rattle.world_gen.proofs.Stamps.{round_all, round_first, round_more}
use Rattle.world_gen.proofs.draft.block_round.Goals as goal
use Rattle.world_gen.proofs.draft.block_round.Goals.{After-adjacent}

pub loop-number-init : goal.loop-number-init
loop-number-init c = rw c.block.ensures (round_first c.args.width c.args.height c.args.p c.args.blocked.now c.requires.full (inner_inside c.requires.inner))

-- the neighbour is inside
inside : (c : After-adjacent) → IsInside c.args.width c.args.height c.adjacent.result
inside c = subst (IsInside c.args.width c.args.height) (sym c.adjacent.ensures.neighbour) (adjacent_pos_inside c.new.result c.requires.inner)

pub block-requires-in-loop-number : goal.block-requires-in-loop-number
block-requires-in-loop-number c =
    let low = index_of-inside c.args.width c.args.height c.adjacent.result (inside c) in
    let long : length c.loop-number.blocked ≡ c.args.width * c.args.height = c.loop-number.invariant.same_length ∙ c.requires.full in
    omega arith

pub loop-number-preserved : goal.loop-number-preserved
loop-number-preserved c =
    let way : dir_of c.loop-number.number ≡ c.new.result = sym (ap dir_of c.new.ensures) ∙ dir_of_number_of c.new.result in
    let is : c.adjacent.result ≡ adjacent_pos c.args.p (dir_of c.loop-number.number) = c.adjacent.ensures.neighbour ∙ ap (adjacent_pos c.args.p) (sym way) in
    rw c.block-in-loop-number.ensures
    (round_more c.args.width c.args.height c.args.p c.adjacent.result c.loop-number.number c.args.blocked.now c.loop-number.blocked c.loop-number.invariant c.requires.full is
    (subst (IsInside c.args.width c.args.height) (sym c.adjacent.ensures.neighbour) (adjacent_pos_inside c.new.result c.requires.inner)))

pub returns : goal.returns
returns c = round_all c.args.width c.args.height c.args.p c.loop-number.number c.args.blocked.now c.loop-number.blocked (omega arith) c.loop-number.invariant
