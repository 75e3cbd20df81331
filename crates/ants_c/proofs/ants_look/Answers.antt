use Rattle.ants_c.proofs.ants_look.Goals as goal

-- the texts are a game's, which was looked at
pub returns-clause-done : goal.returns-clause-done
returns-clause-done c = λ _. record {
  game = record {
    world = c.in-Ok.setting.world;
    red = c.in-Ok.setting.red;
    black = c.in-Ok.setting.black;
    is_game = record { is_world = c.in-Ok.ensures.setting.is_world; is_red = c.in-Ok.ensures.setting.is_red; is_black = c.in-Ok.ensures.setting.is_black };
    made = c.ant_count.ensures.ids;
  };
  scored = c.put_looks.ensures.scores;
  seen = rw (c.ant_count.ensures.ids) c.put_looks.ensures.ants;
}
