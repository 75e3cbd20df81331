-- The text of the task's sample brain, as the task prints it, is read as these instructions.
use Rattle.std.proofs.Common.{codes, refl, arith}
use Rattle.ant_base.specs.Number.{decimal_value}
use Rattle.brain_read.proofs.SoundnessLemmas.{brain_of}
use Rattle.brain_read.specs.Grammar.{IsBrainText}
use Rattle.brain_read.specs.Soundness.{IsBrain}
use Rattle.ant_commands.specs.Sample.{sample_brain}

pub sample_text : IsBrainText (codes "Sense Ahead 1 3 Food\nMove 2 0\nPickUp 8 0\nFlip 3 4 5\nTurn Left 0\nFlip 2 6 7\nTurn Right 0\nMove 0 3\nSense Ahead 9 11 Home\nMove 10 8\nDrop 0\nFlip 3 12 13\nTurn Left 8\nFlip 2 14 15\nTurn Right 8\nMove 8 11\n") sample_brain
unfolding decimal_value sample_brain
sample_text = record {
  lines = (
    record { spelled = (refl, (refl, (refl, (refl, (refl, tt))))); in_range = tt },
    (
      record { spelled = (refl, (refl, (refl, tt))); in_range = tt },
      (
        record { spelled = (refl, (refl, (refl, tt))); in_range = tt },
        (
          record { spelled = (refl, (refl, (refl, (refl, tt)))); in_range = (omega arith, omega arith) },
          (
            record { spelled = (refl, (refl, (refl, tt))); in_range = tt },
            (
              record { spelled = (refl, (refl, (refl, (refl, tt)))); in_range = (omega arith, omega arith) },
              (
                record { spelled = (refl, (refl, (refl, tt))); in_range = tt },
                (
                  record { spelled = (refl, (refl, (refl, tt))); in_range = tt },
                  (
                    record { spelled = (refl, (refl, (refl, (refl, (refl, tt))))); in_range = tt },
                    (
                      record { spelled = (refl, (refl, (refl, tt))); in_range = tt },
                      (
                        record { spelled = (refl, (refl, tt)); in_range = tt },
                        (
                          record { spelled = (refl, (refl, (refl, (refl, tt)))); in_range = (omega arith, omega arith) },
                          (
                            record { spelled = (refl, (refl, (refl, tt))); in_range = tt },
                            (
                              record { spelled = (refl, (refl, (refl, (refl, tt)))); in_range = (omega arith, omega arith) },
                              (
                                record { spelled = (refl, (refl, (refl, tt))); in_range = tt },
                                (
                                  record { spelled = (refl, (refl, (refl, tt))); in_range = tt },
                                  tt,
                                ),
                              ),
                            ),
                          ),
                        ),
                      ),
                    ),
                  ),
                ),
              ),
            ),
          ),
        ),
      ),
    ),
  );
  some = omega arith;
  few = omega arith;
  states = (
    (omega arith, (omega arith, tt)),
    (
      (omega arith, (omega arith, tt)),
      (
        (omega arith, (omega arith, tt)),
        (
          (omega arith, (omega arith, tt)),
          (
            (omega arith, tt),
            (
              (omega arith, (omega arith, tt)),
              (
                (omega arith, tt),
                (
                  (omega arith, (omega arith, tt)),
                  (
                    (omega arith, (omega arith, tt)),
                    (
                      (omega arith, (omega arith, tt)),
                      (
                        (omega arith, tt),
                        (
                          (omega arith, (omega arith, tt)),
                          (
                            (omega arith, tt),
                            (
                              (omega arith, (omega arith, tt)),
                              (
                                (omega arith, tt),
                                (
                                  (omega arith, (omega arith, tt)),
                                  tt,
                                ),
                              ),
                            ),
                          ),
                        ),
                      ),
                    ),
                  ),
                ),
              ),
            ),
          ),
        ),
      ),
    ),
  );
}

pub sample_brain-sound : IsBrain sample_brain
sample_brain-sound = brain_of (codes "Sense Ahead 1 3 Food\nMove 2 0\nPickUp 8 0\nFlip 3 4 5\nTurn Left 0\nFlip 2 6 7\nTurn Right 0\nMove 0 3\nSense Ahead 9 11 Home\nMove 10 8\nDrop 0\nFlip 3 12 13\nTurn Left 8\nFlip 2 14 15\nTurn Right 8\nMove 8 11\n") sample_brain sample_text
