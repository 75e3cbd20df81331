-- if a game requests no counts, its text is the one without counts
use Rattle.std.proofs.Common.{◌≡◌, ℕ, Bool, false, List, sym, ap, ◌∙◌, subst}
use Rattle.std.proofs.lemmas.Result.{err_from_is_err_and}
use Rattle.ant_base.specs.Sink.{PushedAll, PushedFront}
use Rattle.ant_turn.specs.Minds.{Minds}
use Rattle.ant_turn.specs.Sheet.{sheet_of}
use Rattle.cell_world.specs.Grid.{world_of}
use Rattle.cell_world.specs.World.{World}
use Rattle.match_run.specs.Counts.{whole_text}
use Rattle.match_run.specs.Dumps.{chooses}
use Rattle.match_run.specs.Run.{run_text}
use Rattle.match_run.specs.declared.plan.Plan.{Plan}
use Rattle.match_run.proofs.CountLaws.{counts_come_last}
use Rattle.ant_commands.proofs.commands.run.play_setting_alone.Goals as goal

uncounted : (minds : Minds) (plan : Plan) (w : World) → plan.stats ≡ false → whole_text minds plan.seed plan.rounds (chooses plan.dumps) plan.window plan.stats w ≡ run_text minds plan.seed plan.rounds (chooses plan.dumps) w
uncounted minds plan w none =
    ap (λ (stats : Bool). whole_text minds plan.seed plan.rounds (chooses plan.dumps) plan.window stats w) none
    ∙ counts_come_last.without minds plan.seed plan.rounds (chooses plan.dumps) plan.window w

pub returns-in_err-play_alone : goal.returns-in_err-play_alone
returns-in_err-play_alone g c =
    let minds : Minds = record { red = c.args.setting.red; black = c.args.setting.black; sheet = sheet_of c.args.game.now.sheet } in
    let p = err_from_is_err_and c.from_residual.result c.from_residual.ensures.1 in
    rw (p.1, p.2)
    (subst (λ (text : List ℕ). PushedFront (g.K.Sink.state c.args.out.now) (g.K.Sink.state c.play_alone.new.sink) text) (sym (uncounted minds c.args.game.now.plan (world_of c.args.setting.world) c.requires.uncounted)) c.in_err-play_alone.ensures.text)

pub returns : goal.returns
returns g c =
    let minds : Minds = record { red = c.args.setting.red; black = c.args.setting.black; sheet = sheet_of c.args.game.now.sheet } in
    subst (λ (text : List ℕ). PushedAll (g.K.Sink.state c.args.out.now) (g.K.Sink.state c.play_alone.new.sink) text) (sym (uncounted minds c.args.game.now.plan (world_of c.args.setting.world) c.requires.uncounted)) c.in_ok-play_alone.ensures.text
