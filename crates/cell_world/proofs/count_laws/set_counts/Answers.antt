-- each is a sum over the cells
use Rattle.cell_world.proofs.Tallies.{alive_of-put, food_of-put, hill_food_of-put}
use Rattle.cell_world.proofs.count_laws.set_counts.Goals as goal

pub returns : goal.returns
returns c = record { food = food_of-put; hill = hill_food_of-put; alive = alive_of-put }
