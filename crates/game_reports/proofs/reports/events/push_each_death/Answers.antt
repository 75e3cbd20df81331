use Rattle.std.proofs.Common.{Option, None, ◌≡◌, ◌+◌, ◌++◌, ◌∙◌, ℕ, List, [], ap, drop, slice_index_or, subst, sym, take, take-append-drop}
use Rattle.std.specs.List.{flat_map}
use Rattle.std.proofs.lemmas.Grind.{flat_map-append}
use Rattle.std.proofs.lemmas.List.{flat_map_more, take_more}
use Rattle.std.proofs.lemmas.Result.{err_from_is_err_and}
use Rattle.ant_base.specs.Sink.{PushedAll, PushedFront}
use Rattle.ant_base.proofs.Pushes.{all_then, front_more, front_then}
use Rattle.cell_world.specs.declared.ant.PlacedAnt.{PlacedAnt}
use Rattle.game_reports.specs.Inner.EventWords.{told_death}
use Rattle.game_reports.proofs.reports.events.push_each_death.Goals as goal

pub returns-in_err-push_to : goal.returns-in_err-push_to
returns-in_err-push_to g c =
    let f : Option PlacedAnt → List ℕ = told_death c.args.turn.round c.args.turn.actor in
    let killed : List (Option PlacedAnt) = c.args.dead.now in
    let i : ℕ = c.loop-killed.killed-index in
    let p = err_from_is_err_and c.from_residual.result c.from_residual.ensures.1 in
    let more : flat_map f (take (i + 1) killed) ≡ flat_map f (take i killed) ++ f (slice_index_or killed i None) =
    ap (flat_map f) (take_more killed i None c.loop-killed-test.true) ∙ sym (flat_map_more f [] (take i killed) (slice_index_or killed i None)) in
    let whole : flat_map f killed ≡ (flat_map f (take i killed) ++ f (slice_index_or killed i None)) ++ flat_map f (drop (i + 1) killed) =
    ap (flat_map f) (sym (take-append-drop (i + 1) killed)) ∙ flat_map-append f (take (i + 1) killed) (drop (i + 1) killed) ∙ ap (λ t. t ++ flat_map f (drop (i + 1) killed)) more in
    rw (p.1, whole)
    (front_more _ _ _ _ (front_then _ _ _ _ _ c.loop-killed.invariant
    (subst (λ (text : List ℕ). PushedFront (g.K.Sink.state c.loop-killed.sink) (g.K.Sink.state c.push_to.new.sink) text) c.death.ensures c.in_err-push_to.ensures)))

pub loop-killed-preserved : goal.loop-killed-preserved
loop-killed-preserved g c =
    let f : Option PlacedAnt → List ℕ = told_death c.args.turn.round c.args.turn.actor in
    let killed : List (Option PlacedAnt) = c.args.dead.now in
    let i : ℕ = c.loop-killed.killed-index in
    let more : flat_map f (take (i + 1) killed) ≡ flat_map f (take i killed) ++ f (slice_index_or killed i None) =
    ap (flat_map f) (take_more killed i None c.loop-killed-test.true) ∙ sym (flat_map_more f [] (take i killed) (slice_index_or killed i None)) in
    rw more
    (all_then _ _ _ _ _ c.loop-killed.invariant
    (subst (λ (text : List ℕ). PushedAll (g.K.Sink.state c.loop-killed.sink) (g.K.Sink.state c.push_to.new.sink) text) c.death.ensures c.in_ok-push_to.ensures))
