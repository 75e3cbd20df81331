use Rattle.std.proofs.Common.{◌≡◌, ℕ, ◌+◌, ◌-◌, ◌<◌, min, sym, ◌∙◌, ap, subst, arith}
use Rattle.cell_world.specs.Grid.{Grid}
use Rattle.dump_print.specs.declared.totals.Totals.{Totals}
use Rattle.round_book.specs.Book.{window_of}
use Rattle.round_book.specs.Counts.{Counted}
use Rattle.round_book.proofs.CountLemmas.{counts-add_up}
use Rattle.match_run.specs.Inner.Windows.{WindowsPlayed}
use Rattle.match_run.proofs.WindowLemmas.{counted-more, counted-none, played-more, played-none, played-next, played-place, played-turns}
use Rattle.match_run.proofs.windows.play_windows.Goals as goal

pub loop-progress-init : goal.loop-progress-init
loop-progress-init g c = record {
  ready = c.requires.ready;
  played = played-none c.args.field.now c.args.size c.args.from c.args.totals c.requires.sized c.requires.begins c.requires.whole;
  add_up = c.requires.add_up;
  turns = counted-none (g.C.Crew.played c.args.crew.now) c.args.totals.turns (omega (arith, c.turns-count.ensures, c.turns-count.type_inv));
}

pub window-requires-clause-window : goal.window-requires-clause-window
window-requires-clause-window g c =
    let ids : c.ant_count-ids.result ≡ c.args.field.now.world.ids = c.ant_count-ids.ensures.ids ∙ ap (λ (grid : Grid). grid.ids) c.world.ensures.world in
    let left = c.loop-progress-test.true in
    let here = played-next c.loop-progress.invariant.played (omega (arith, ids, left)) in
    let place = played-place c.loop-progress.invariant.played in
    let most = place.to in
    let lasting = c.requires.lasting in
    let same = c.loop-progress.invariant.played.ids in
    record {
      whole = c.loop-progress.invariant.played.whole;
      forwards = omega arith;
      ids = omega (arith, c.min.ensures, left, ids, same);
      lasting = omega (arith, c.min.ensures, left, ids, most, lasting, here);
    }

pub after-progress-requires-clause-few : goal.after-progress-requires-clause-few
after-progress-requires-clause-few g c =
    let ids : c.ant_count-ids.result ≡ c.args.field.now.world.ids = c.ant_count-ids.ensures.ids ∙ ap (λ (grid : Grid). grid.ids) c.world.ensures.world in
    let left = c.loop-progress-test.true in
    let here = played-next c.loop-progress.invariant.played (omega (arith, ids, left)) in
    let turns = played-turns c.loop-progress.invariant.played c.requires.begins in
    omega (arith, c.min.ensures, left, ids, here, turns, c.requires.few)

pub after-progress-requires-clause-counted : goal.after-progress-requires-clause-counted
after-progress-requires-clause-counted g c =
    ap (λ (counts : Counted). counts.taken + counts.redone) c.in-Ok.ensures.counts ∙ counts-add_up (window_of c.loop-progress.field c.loop-progress.progress.next (c.loop-progress.progress.next + c.min.result))

pub loop-progress-preserved : goal.loop-progress-preserved
loop-progress-preserved g c =
    let ids : c.ant_count-ids.result ≡ c.args.field.now.world.ids = c.ant_count-ids.ensures.ids ∙ ap (λ (grid : Grid). grid.ids) c.world.ensures.world in
    let left : c.loop-progress.progress.next < c.args.field.now.world.ids = omega (arith, ids, c.loop-progress-test.true) in
    let to : ℕ = c.loop-progress.progress.next + c.min.result in
    let ends : to ≡ c.loop-progress.progress.next + min c.args.size (c.args.field.now.world.ids - c.loop-progress.progress.next) = omega (arith, ids, c.min.ensures) in
    let old : WindowsPlayed c.args.field.now c.args.size c.args.from c.args.totals c.loop-progress.field c.loop-progress.progress.next c.loop-progress.progress.totals = c.loop-progress.invariant.played in
    let one : WindowsPlayed c.args.field.now c.args.size c.args.from c.args.totals c.window.new.field to c.after-progress.result.totals =
    played-more old to left ends c.window.new.field c.in-Ok.counts c.after-progress.result.totals c.in-Ok.ensures.played c.in-Ok.ensures.counts c.after-progress.ensures.totals in
    let counted = after-progress-requires-clause-counted g c.before in
    let turns = ap (λ (t : Totals). t.turns) c.after-progress.ensures.totals in
    let taken = ap (λ (t : Totals). t.taken) c.after-progress.ensures.totals in
    let redone = ap (λ (t : Totals). t.redone) c.after-progress.ensures.totals in
    let before = played-turns old c.requires.begins in
    record {
      ready = c.in-Ok.ensures.ready;
      played = subst (λ (next : ℕ). WindowsPlayed c.args.field.now c.args.size c.args.from c.args.totals c.window.new.field next c.after-progress.result.totals) (sym c.after-progress.ensures.next) one;
      add_up = omega (arith, turns, taken, redone, c.loop-progress.invariant.add_up, counted);
      turns = counted-more (g.C.Crew.played c.args.crew.now) (g.C.Crew.played c.loop-progress.crew) (g.C.Crew.played c.window.new.self) c.args.totals.turns c.loop-progress.progress.totals.turns c.after-progress.result.totals.turns (to - c.loop-progress.progress.next)
          c.loop-progress.invariant.turns c.in-Ok.ensures.turns (omega (arith, before)) turns;
    }
