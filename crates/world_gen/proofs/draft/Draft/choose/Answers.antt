-- no try fits, and the grid is searched
use Rattle.world_gen.proofs.Trials.{search_chosen}
use Rattle.world_gen.proofs.draft.Draft.choose.Goals as goal
use Rattle.world_gen.specs.Inner.Open.{AllOpen}

pub returns-in-None-clause-chosen : goal.returns-in-None-clause-chosen
returns-in-None-clause-chosen c =
    search_chosen (AllOpen c.args.self.now.width c.args.self.now.height c.args.self.now.blocked.items) c.args.stream.now.seed c.begin-figure.new.stream.seed c.args.self.now.width c.args.self.now.height c.args.element c.args.stream.now.place c.begin-figure.new.stream.place c.try_spots.new.stream.place c.begin-figure.result c.first_place.result
    c.begin-figure.ensures.seed c.begin-figure.ensures.place c.begin-figure.ensures.figure c.in-None.ensures.tried c.first_place.ensures
