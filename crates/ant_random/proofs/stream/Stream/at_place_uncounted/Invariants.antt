use Rattle.ant_random.proofs.stream.Stream.at_place_uncounted.Given as goal

abbrev pub ghosts-at_place_from : goal.ghosts-at_place_from
ghosts-at_place_from a = record { name = a.blank.name; parts = a.blank.parts }
