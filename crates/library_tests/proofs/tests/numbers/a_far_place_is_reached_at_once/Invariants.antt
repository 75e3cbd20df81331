use Rattle.library_tests.proofs.tests.numbers.a_far_place_is_reached_at_once.Given as goal

abbrev pub ghosts-two_numbers_at : goal.ghosts-two_numbers_at
ghosts-two_numbers_at g a = record { name = a.blank.name; parts = a.blank.parts }
