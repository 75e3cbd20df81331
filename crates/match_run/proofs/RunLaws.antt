-- What holds of all games and runs.
use Rattle.std.proofs.Common.{◌≡◌, ℕ, ◌+◌, Bool, true, false, cond, nat_eq, List, [], ◌∷◌, ◌++◌, refl, sym, ap, ◌∙◌, inl, inr, subst, zero, suc, arith}
use Rattle.std.specs.List.{Contains}
use Rattle.std.proofs.lemmas.Bool.{eqb-true, eq-eqb, false≢true}
use Rattle.std.proofs.lemmas.List.Elements.{Contains-append_left, Contains-push_cases}
use Rattle.std.proofs.lemmas.List.Folds.{list_any_at}
use Rattle.std.proofs.lemmas.Map.Views.{Contains-from_any}
use Rattle.ant_base.specs.Layout.{numbered}
use Rattle.ant_base.proofs.Numbered.{numbered-same}
use Rattle.ant_turn.specs.Rounds.{Moment, start_of}
use Rattle.ant_turn.proofs.KeptByRounds.{after_rounds-then}
use Rattle.cell_world.specs.Score.{score_of}
use Rattle.dump_print.specs.Texts.{dump_text, score_text, seed_text}
use Rattle.match_run.specs.Dumps.{has_round}
use Rattle.match_run.specs.Run.{chosen_dump, dumps_text, run_text, world_after}
use Rattle.match_run.specs.RunLaws.{AllDumps, NoDumps, SameRounds, RepeatAddsNothing, LaterAddsNothing, GamesGoOn}

pub all_dumps : AllDumps
unfolding run_text dumps_text
all_dumps minds seed rounds w = refl

-- parts without a text have none together
numbered-empty : (n : ℕ) → numbered (λ round. []) n ≡ []
unfolding numbered
numbered-empty zero = refl
numbered-empty (suc n) = ap (λ t. t ++ []) (numbered-empty n)

pub no_dumps : NoDumps
unfolding run_text dumps_text
no_dumps minds seed rounds w = ap (λ t. seed_text seed ++ (t ++ score_text (score_of (world_after minds seed w rounds)))) (numbered-empty (rounds + 1))

-- a list has the rounds that it contains
has_round-from : (list : List ℕ) (round : ℕ) → Contains list round → has_round list round ≡ true
has_round-from list round (k, within, is) = list_any_at (λ other. nat_eq other round) list k round within (eq-eqb _ _ is)

Contains-round : (list : List ℕ) (round : ℕ) → has_round list round ≡ true → Contains list round
Contains-round list round has = Contains-from_any {eq = λ a b. nat_eq b a} (λ a b same. sym (eqb-true b a same)) round list has

-- two lists that contain the same rounds have the same
has_round-same : (list other : List ℕ) (round : ℕ) → (Contains list round → Contains other round) → (Contains other round → Contains list round) → has_round list round ≡ has_round other round
has_round-same list other round to from = go (has_round list round) refl (has_round other round) refl where
  go : (a : Bool) → has_round list round ≡ a → (b : Bool) → has_round other round ≡ b → a ≡ b
  go true is_a true is_b = refl
  go false is_a false is_b = refl
  go true is_a false is_b = absurd (false≢true (sym is_b ∙ has_round-from other round (to (Contains-round list round is_a))))
  go false is_a true is_b = absurd (false≢true (sym is_a ∙ has_round-from list round (from (Contains-round other round is_b))))

pub same_rounds : SameRounds
unfolding run_text dumps_text
same_rounds minds seed rounds w list other to from =
    ap (λ t. seed_text seed ++ (t ++ score_text (score_of (world_after minds seed w rounds))))
    (numbered-same (λ round. chosen_dump (has_round list) (world_after minds seed w round) round) (λ round. chosen_dump (has_round other) (world_after minds seed w round) round) (rounds + 1)
    (λ round below. ap (λ has. cond has (dump_text (world_after minds seed w round) round) []) (has_round-same list other round (to round (omega arith)) (from round (omega arith)))))

pub repeat_adds_nothing : RepeatAddsNothing
repeat_adds_nothing minds seed rounds w list round has =
    same_rounds minds seed rounds w (list ++ round ∷ []) list
    (λ other within longer. elim (Contains-push_cases list round other longer) [ inl there ↦ there | inr here ↦ subst (Contains list) here has ])
    (λ other within there. Contains-append_left list (round ∷ []) other there)

pub later_adds_nothing : LaterAddsNothing
later_adds_nothing minds seed rounds w list round later =
    same_rounds minds seed rounds w (list ++ round ∷ []) list
    (λ other within longer. elim (Contains-push_cases list round other longer) [ inl there ↦ there | inr here ↦ absurd (let no : ⊥ = omega arith in no) ])
    (λ other within there. Contains-append_left list (round ∷ []) other there)

pub goes_on : GamesGoOn
unfolding world_after
goes_on minds seed w r q = ap (λ (m : Moment). score_of m.world) (sym (after_rounds-then minds seed (start_of w) r q))
