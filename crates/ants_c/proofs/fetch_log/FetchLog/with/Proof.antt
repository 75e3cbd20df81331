-- `with` makes the empty struct, with what was noted before and the note.
use Rattle.std.proofs.Common.{[], ◌∷◌, ◌++◌, refl}
use Rattle.std.proofs.raw_atomic.Walks.{proved}
use mir.Syntax.{named}
use mir.Val.{vstruct, vnil}
use base.Fml.{ftrue}
use types.Kit.{‵, raw, ◌⊛◌, ◌$◌, ◌∵◌, !, qed, keep, split, move, suffices, done}
use types.Run.{no_more, returns, enter}
use types.Part.{agg}
use types.ByLocal.{alloc_all, pass_all, free_all, look_at, sets}
use denote.Exit.{yes}
use denote.Ref.{shr_vals, shr_Tells}
use denote.RattleType.{owns}
use denote.Shadow.{pure_i}
use denote.Signature.{plain, types_at, named_lft}
use denote.Triple.Entry.{alive}
use denote.Triple.Walked.{Stays, stay_none_ref, Goes-none_ref, walk_of, says, ends_at}
use Rattle.ants_c.specs.contracts.fetch_log.FetchLog as made
use Rattle.ants_c.specs.contracts.fetch_log.Note as note
use Rattle.ants_c.specs.contracts.fetch_log.FetchLog.with as f
use Rattle.ants_c.specs.Inner.Fetches.{noted_fetch}
use Rattle.ants_c.proofs.fetch_log.FetchLog.with.Statement.{statement}
use Rattle.ants_c.proofs.fetch_log.FetchLog.with.Code as code

abbrev stayed : Stays f.ended.signature.params f.ended.kept
stayed = (stay_none_ref (0 ∷ []) tt (plain (λ _. made.the_row)) yes, (stay_none_ref (1 ∷ []) tt (plain (λ κs. note.the_row (named_lft 3 2 tt κs))) yes, tt))

pub with_spec : {M : Type 1} → statement M
with_spec 𝓤 𝓛 𝓜 𝓡 wired =
    let c = f.clauses 𝓛 𝓜.mem 𝓡.returns in let W = walk_of 𝓛 f.ended stayed c in
    proved 𝓛 f.ended stayed c 𝓜 𝓡
    (Goes-none_ref 𝓛 3 (0 ∷ []) tt (plain (λ _. made.the_row)) yes, (Goes-none_ref 𝓛 3 (1 ∷ []) tt (plain (λ κs. note.the_row (named_lft 3 2 tt κs))) yes, tt))
    f.Key.name code.function (code.unfolded 𝓤 𝓛.H 𝓜 𝓡 wired)
    (λ κs. (shr_vals, (shr_vals, tt)))
    (λ κs. (shr_Tells (named 0) κs.0 made.the_row, (shr_Tells (named 1) κs.1.0 (note.the_row (named_lft 3 2 tt κs)), tt)))
    (λ κs qs bounds a n are.
    let vs = shr_vals a.0 in let us = shr_vals a.1.0 in
    let y : W.Ghost = ((κs, qs, bounds, a, (vs, (us, tt))), n) in
    let noted : made.the_row.Denot = record { fetches = a.0.now.fetches ++ noted_fetch a.1.0.now ∷ [] } in
    qed 𝓛 ((raw (alive 𝓛 f.signature κs qs) ⊛ ‵ (owns (types_at f.signature.params κs) a (vs, (us, tt)))) ∷ ‵ ftrue ∷ []) ∵ keep ! (0 ∷ []) $ split ! $
    enter ! _ _ _ _ _ $ alloc_all ! (λ l. pass_all ! refl ((tt, tt), ((tt, tt), tt)) $
    sets ! (agg ! (no_more !)) refl (tt, tt) $ returns ! (look_at ! 0 refl) $ free_all ! refl $
    suffices ! _ (ends_at 𝓛 f.ended stayed c y (vstruct vnil) noted (tt, (tt, tt)) (tt, (tt, tt))) $ says ! refl $
    pure_i ! (made.the_row.own_val noted (vstruct vnil ∷ [])) ((λ vss. (tt, tt)), tt) ((tt, (refl, tt)), tt) $
    move ! (1 ∷ 2 ∷ 0 ∷ []) $ done !))
