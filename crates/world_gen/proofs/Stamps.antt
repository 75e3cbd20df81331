-- Cells stamped one after another.
use Rattle.std.proofs.Common.{◌≡◌, ℕ, suc, ◌+◌, ◌*◌, ◌<◌, ◌≤◌, List, [], ◌∷◌, ◌++◌, length, take, get_or, true, sym, ◌∙◌, ap, arith, subst, inl, inr}
use Rattle.std.proofs.Math.ListN.{length-set, set}
use Rattle.std.proofs.Math.Seq.{take-append_seam}
use Rattle.std.proofs.lemmas.Bool.{cases_lt}
use Rattle.std.proofs.lemmas.List.{length_push, take_more}
use Rattle.std.proofs.lemmas.List.Elements.{All-set, Contains-append_left, Contains-push, Contains-push_cases}
use Rattle.std.specs.Prelude.{Bool, Contains, ◌⊎◌}
use Rattle.list_lemmas.proofs.Elements.{Contains-none}
use Rattle.hex_geometry.specs.RowOrder.{index_of}
use Rattle.hex_geometry.specs.Direction.{dir_of, number_of}
use Rattle.hex_geometry.specs.Neighbourhood.{adjacent_pos, neighbours_of}
use Rattle.hex_geometry.specs.Position.{IsInside}
use Rattle.hex_geometry.specs.declared.position.Pos.{Pos}
use Rattle.hex_geometry.proofs.Beside.{neighbours_of_contains, neighbours_of_only}
use Rattle.hex_geometry.proofs.Turns.{dir_of_number_of, number_of_below}
use Rattle.cell_world.specs.Cell.{one_if}
use Rattle.cell_world.specs.Opening.{IsFed, hill_count, is_hill}
use Rattle.cell_world.specs.declared.kind.Kind.{Kind}
use Rattle.world_gen.specs.Inner.Sets.{IsRound, IsRoundAny, IsRoundBelow, SetsWhere}
use Rattle.world_gen.specs.Inner.Drafts.{IsStamped}
use Rattle.world_gen.proofs.SetLists.{sets_as, sets_both, sets_none, sets_one}

-- the cell alone is blocked
pub round_first : (width height : ℕ) (p : Pos) (xs : List Bool) → length xs ≡ width * height → IsInside width height p → SetsWhere width height true (IsRoundBelow p 0) xs (set xs (index_of width p) true)
round_first width height p xs full inside =
    sets_as width height true (λ q. p ≡ q) (IsRoundBelow p 0) xs (set xs (index_of width p) true) (sets_one width height true p xs full inside)
    (λ q here. elim here [ inl e ↦ e | inr far ↦ let h = far.1 in absurd (omega arith) ])
    (λ q e. inl e)

-- one neighbour more
later_one : (p q : Pos) (n k : ℕ) → k < n + 1 → adjacent_pos p (dir_of k) ≡ q → IsRoundBelow p n q ⊎ (adjacent_pos p (dir_of n) ≡ q)
later_one p q n k below e =
    elim (cases_lt k n) [
      | inl h ↦ inl (inr (k, h, e))
      | inr h ↦ let same : k ≡ n = omega arith in inr (subst (λ m. adjacent_pos p (dir_of m) ≡ q) same e)
    ]

split_one : (p q : Pos) (n : ℕ) → IsRoundBelow p (n + 1) q → IsRoundBelow p n q ⊎ (adjacent_pos p (dir_of n) ≡ q)
split_one p q n here = elim here [ inl e ↦ inl (inl e) | inr near ↦ later_one p q n near.0 near.1 near.2 ]

pub round_more : (width height : ℕ) (p next : Pos) (n : ℕ) (xs ys : List Bool) → SetsWhere width height true (IsRoundBelow p n) xs ys → length xs ≡ width * height → next ≡ adjacent_pos p (dir_of n) → IsInside width height next
    → SetsWhere width height true (IsRoundBelow p (n + 1)) xs (set ys (index_of width next) true)
round_more width height p next n xs ys sets full is inside =
    sets_both width height true (IsRoundBelow p n) (λ q. next ≡ q) (IsRoundBelow p (n + 1)) xs ys (set ys (index_of width next) true)
    sets (sets_one width height true next ys (sets.same_length ∙ full) inside)
    (λ q here. elim (split_one p q n here) [ inl old ↦ inl old | inr e ↦ inr (is ∙ e) ])
    (λ q here. elim here [ inl e ↦ inl e | inr near ↦ let h = near.1 in inr (near.0, omega arith, near.2) ])
    (λ q e. inr (n, omega arith, sym is ∙ e))

-- the six directions are all neighbours
pub round_all : (width height : ℕ) (p : Pos) (n : ℕ) (xs ys : List Bool) → n ≡ 6 → SetsWhere width height true (IsRoundBelow p n) xs ys → SetsWhere width height true (IsRound p) xs ys
round_all width height p n xs ys six sets =
    sets_as width height true (IsRoundBelow p n) (IsRound p) xs ys sets
    (λ q here. elim here [
      | inl e ↦ inl e
      | inr near ↦
          let way = neighbours_of_only p q near in
          let h = number_of_below way.0 in
          inr (number_of way.0, omega arith, ap (adjacent_pos p) (dir_of_number_of way.0) ∙ way.1)
    ])
    (λ q here. elim here [
      | inl e ↦ inl e
      | inr near ↦ inr (subst (Contains (neighbours_of p)) near.2 (neighbours_of_contains p (dir_of near.0)))
    ])

-- one more hill cell at most
hills_set : (kinds : List Kind) (i : ℕ) (kind : Kind) → hill_count (set kinds i kind) ≤ hill_count kinds + one_if (is_hill kind)
hills_set (k ∷ kinds) (suc i) kind = let h = hills_set kinds i kind in omega arith
hills_set it i kind = omega arith

-- no cell is stamped
pub stamped_none : (width height : ℕ) (kind : Kind) (blocked : List Bool) (kinds : List Kind) → IsStamped width height [] kind blocked blocked kinds kinds
stamped_none width height kind blocked kinds = record {
  blocks = sets_none width height true (IsRoundAny []) blocked (λ p here. Contains-none here.0 here.1);
  paints = sets_none width height kind (Contains []) kinds (λ p here. Contains-none p here);
  hills = omega arith;
  fed = λ one all. all;
}

-- one cell more
pub stamped_more : (width height : ℕ) (done : List Pos) (cell : Pos) (kind : Kind) (blocked mid now : List Bool) (kinds paint : List Kind)
    → IsStamped width height done kind blocked mid kinds paint → SetsWhere width height true (IsRound cell) mid now → length kinds ≡ width * height → IsInside width height cell
    → IsStamped width height (done ++ cell ∷ []) kind blocked now kinds (set paint (index_of width cell) kind)
stamped_more width height done cell kind blocked mid now kinds paint before round full inside = record {
  blocks = sets_both width height true (IsRoundAny done) (IsRound cell) (IsRoundAny (done ++ cell ∷ [])) blocked mid now before.blocks round
      (λ p here. elim (Contains-push_cases done cell here.0 here.1) [
        | inl old ↦ inl (here.0, old, here.2)
        | inr e ↦ inr (subst (λ r. IsRound r p) (sym e) here.2)
      ])
      (λ p here. (here.0, Contains-append_left done (cell ∷ []) here.0 here.1, here.2))
      (λ p here. (cell, Contains-push done cell, here));
  paints = sets_both width height kind (Contains done) (λ p. cell ≡ p) (Contains (done ++ cell ∷ [])) kinds paint (set paint (index_of width cell) kind) before.paints
      (sets_one width height kind cell paint (before.paints.same_length ∙ full) inside)
      (λ p here. Contains-push_cases done cell p here)
      (λ p here. Contains-append_left done (cell ∷ []) p here)
      (λ p e. subst (Contains (done ++ cell ∷ [])) e (Contains-push done cell));
  hills =
      let one = hills_set paint (index_of width cell) kind in
      let so_far = before.hills in
      let long : length (done ++ cell ∷ []) ≡ length done + 1 = length_push done cell in
      rw long (omega arith);
  fed = λ one all. All-set IsFed paint (index_of width cell) kind one (before.fed one all);
}

-- a list that is written back whole
pub written_back : {X : Type 0} (xs ys : List X) (n : ℕ) → n ≡ length xs → take n (xs ++ ys) ≡ xs
written_back xs ys n is = ap (λ k. take k (xs ++ ys)) is ∙ take-append_seam xs ys

-- the next cell of a list is stamped, if the lists were lent and are written back
pub stamped_on : (width height : ℕ) (cells : List Pos) (i : ℕ) (kind : Kind) (blocked mid lent now rest : List Bool) (n : ℕ) (kinds paint lent_kinds kinds_now rest_kinds : List Kind) (m : ℕ)
    → IsStamped width height (take i cells) kind blocked mid kinds paint → i < length cells → IsInside width height (get_or cells i (record { x = 0; y = 0 })) → length kinds ≡ width * height
    → lent ≡ mid → SetsWhere width height true (IsRound (get_or cells i (record { x = 0; y = 0 }))) lent now → n ≡ length mid
    → lent_kinds ≡ paint → kinds_now ≡ set lent_kinds (index_of width (get_or cells i (record { x = 0; y = 0 }))) kind → m ≡ length paint
    → IsStamped width height (take (i + 1) cells) kind blocked (take n (now ++ rest)) kinds (take m (kinds_now ++ rest_kinds))
stamped_on width height cells i kind blocked mid lent now rest n kinds paint lent_kinds kinds_now rest_kinds m before low inside full is_lent round long is_kinds set_one long_kinds =
    let cell : Pos = get_or cells i (record { x = 0; y = 0 }) in
    let round_mid : SetsWhere width height true (IsRound cell) mid now = subst (λ (l : List Bool). SetsWhere width height true (IsRound cell) l now) is_lent round in
    let whole : take n (now ++ rest) ≡ now = written_back now rest n (long ∙ sym round_mid.same_length) in
    let painted : kinds_now ≡ set paint (index_of width cell) kind = set_one ∙ ap (λ (l : List Kind). set l (index_of width cell) kind) is_kinds in
    let same : length kinds_now ≡ length paint = ap (λ (l : List Kind). length l) painted ∙ length-set paint (index_of width cell) kind in
    let whole_kinds : take m (kinds_now ++ rest_kinds) ≡ set paint (index_of width cell) kind = written_back kinds_now rest_kinds m (long_kinds ∙ sym same) ∙ painted in
    rw (take_more cells i (record { x = 0; y = 0 }) low, whole, whole_kinds) (stamped_more width height (take i cells) cell kind blocked mid now kinds paint before round_mid full inside)
