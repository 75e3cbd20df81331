-- The text of a view, in parts.
use Rattle.std.proofs.Common.{◌≡◌, ℕ, ◌++◌, Option, refl}
use Rattle.cell_world.specs.World.{World}
use Rattle.dump_print.specs.Texts.{seed_text}
use Rattle.break_view.specs.declared.stop.Stop.{Stop}
use Rattle.break_view.specs.Texts.{end_text, view_text}

pub view_text-parts : (w : World) (seed rounds : ℕ) (stop : Option Stop) → view_text w seed rounds stop ≡ seed_text seed ++ end_text w rounds stop
unfolding view_text
view_text-parts w seed rounds stop = refl
