use Rattle.std.proofs.Common.{◌<◌, Ok, Bool, arith, ap, subst, refl}
use Rattle.std.specs.Prelude.{vec_len}
use Rattle.std.proofs.lemmas.Result.{err_from_is_err_and}
use Rattle.ant_base.specs.Inner.Answered.{ReadsOn}
use Rattle.ant_base.proofs.Streams.{read_asks, read_failed, read_first, read_long, read_next, read_none, read_turns, read_whole}
use Rattle.ant_base.proofs.file_shelf.read_content.Goals as goal

pub loop-turn-init : goal.loop-turn-init
loop-turn-init g c =
    let first = read_first 4194305 (g.R.SureReader.sure c.args.reader.now) (vec_len c.new-content.result) c.new-content.ensures.len in
    (read_none _ _ c.new-content.ensures.items, first.0, first.1)

pub returns-then-len-gt-LONGEST-clause-made : goal.returns-then-len-gt-LONGEST-clause-made
returns-then-len-gt-LONGEST-clause-made g c =
    let long : 4194304 < vec_len c.loop-turn.content = subst (λ n. 4194304 < n) c.len.ensures c.if-len-gt-LONGEST.true in
    record {
      read = read_long _ _ c.loop-turn.content.items c.loop-turn.invariant.0 (subst (λ n. 4194304 < n) c.loop-turn.content.ok.0 long);
      failed = λ _. refl;
    }

pub returns-in_err-read_more-clause-made : goal.returns-in_err-read_more-clause-made
returns-in_err-read_more-clause-made g c =
    let p = err_from_is_err_and c.from_residual.result c.from_residual.ensures.1 in
    rw (p.1, p.2)
    (read_failed (g.R.SureReader.sure c.args.reader.now) (g.R.SureReader.sure c.loop-turn.reader) (g.R.SureReader.sure c.read_more.new.reader) (vec_len c.loop-turn.content) (vec_len c.read_more.new.content) (g.R.Read.remaining c.args.reader.now) c.in_err-read_more.field-0.0
    c.in_err-read_more.ensures.no_length
    (λ sure. c.in_err-read_more.ensures.sure (read_asks 4194305 _ (vec_len c.loop-turn.content) 8192 c.min-most.result c.len-in-loop-turn.result c.loop-turn.chunk c.min-most.ensures c.len-in-loop-turn.ensures (c.loop-turn.invariant.2 sure).0)))

pub returns-then-branch-clause-made : goal.returns-then-branch-clause-made
returns-then-branch-clause-made g c = record {
  read = read_whole _ _ _ (c.in_ok-read_more.ensures.taken _ c.loop-turn.invariant.0) (c.in_ok-read_more.ensures.end (ap Ok c.if-branch.true)).0;
  failed = λ _. refl;
}

pub loop-turn-preserved : goal.loop-turn-preserved
loop-turn-preserved g c =
    let more = c.in_ok-read_more.ensures in
    let old = c.loop-turn.invariant in (
      more.taken _ old.0,
      more.few,
      λ sure.
          let on = more.sure (read_asks 4194305 _ (vec_len c.loop-turn.content) 8192 c.min-most.result c.len-in-loop-turn.result c.loop-turn.chunk c.min-most.ensures c.len-in-loop-turn.ensures (old.2 sure).0) in
          read_next 4194305 _ _ _ _ _ (old.2 sure) (subst (λ (end : Bool). ReadsOn (g.R.SureReader.sure c.loop-turn.reader) (g.R.SureReader.sure c.read_more.new.reader) (vec_len c.loop-turn.content) (vec_len c.read_more.new.content) (Ok end)) c.if-branch.false on),
    )

pub returns-clause-made : goal.returns-clause-made
returns-clause-made g c = record {
  read = tt;
  failed = λ sure. absurd (read_turns 4194305 18446744073709551615 c.loop-turn._turn (vec_len c.loop-turn.content) c.loop-turn.invariant.1 (c.loop-turn.invariant.2 sure).1 c.loop-turn-test.false (omega arith));
}
