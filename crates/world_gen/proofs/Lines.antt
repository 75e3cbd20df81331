-- Positions walked to in one direction, and the lines of a blob.
use Rattle.hex_geometry.proofs.Beside.{adjacent_pos_table}
use Rattle.hex_geometry.proofs.Places.{inner_has_neighbours}
use Rattle.hex_geometry.specs.Direction.{turned_by}
use Rattle.hex_geometry.specs.Neighbourhood.{adjacent_point, adjacent_pos}
use Rattle.hex_geometry.specs.Position.{HasNeighbours, Point, point_of}
use Rattle.hex_geometry.specs.declared.direction.Dir.{Dir}
use Rattle.hex_geometry.specs.declared.direction.Side.TheVariants.{Right}
use Rattle.hex_geometry.specs.declared.position.Pos.{Pos}
use Rattle.std.proofs.Common.{◌≡◌, ℕ, zero, suc, ◌+◌, ◌<◌, List, [], ◌∷◌, ◌++◌, true, refl, sym, ◌∙◌, ap, arith, subst, inl, inr, add-one, append_assoc}
use Rattle.std.proofs.lemmas.Bool.{cases_lt}
use Rattle.std.proofs.lemmas.List.{append-nil}
use Rattle.std.proofs.lemmas.List.Elements.{Contains-append_cases, Contains-append_left, Contains-append_right, Contains-push, Contains-push_cases}
use Rattle.std.specs.Prelude.{Bool, Contains}
use Rattle.world_gen.proofs.Steps.{point_one}
use Rattle.world_gen.specs.Elements.{IsInBlob, point_after}
use Rattle.world_gen.specs.Inner.Open.{BlobHasNeighbours, BlobIsOpen, IsFenced, IsOpen, LineIsOpen, LinesAreOpen, is_unblocked, line_from, lines_from, walked}

-- a place that is a position with neighbours
abbrev pub HasRound : Point → Type 0
HasRound q = (p : Pos) × (point_of p ≡ q) × HasNeighbours p

-- an open position has neighbours
pub open_neighbours : (width height : ℕ) (blocked : List Bool) (p : Pos) → IsFenced width height blocked → is_unblocked width height blocked p ≡ true → HasNeighbours p
open_neighbours width height blocked p fence free =
    let wide = fence.narrow in
    let high = fence.low in
    inner_has_neighbours (fence.rim p free) (omega arith) (omega arith)

pub open_here : (width height : ℕ) (blocked : List Bool) (p : Pos) (q : Point) → point_of p ≡ q → IsOpen width height blocked q → is_unblocked width height blocked p ≡ true
open_here width height blocked p q is free = subst (λ r. is_unblocked width height blocked r ≡ true) (point_one free.0 p (free.1 ∙ sym is)) free.2

-- one step on
pub step_on : (p : Pos) (way : Dir) (n : ℕ) (start : Point) → HasNeighbours p → point_of p ≡ point_after n way start → point_of (adjacent_pos p way) ≡ point_after (n + 1) way start
unfolding point_after
step_on p way n start has here = rw (add-one n) (adjacent_pos_table p way has.from_left has.from_top ∙ ap (λ q. adjacent_point q way) here)

pub step_none : (way : Dir) (start : Point) → start ≡ point_after 0 way start
unfolding point_after
step_none way start = refl

-- one position more
pub line_more : (width height : ℕ) (blocked : List Bool) (p : Pos) (start : Point) (way : Dir) (n : ℕ) → point_of p ≡ point_after n way start → is_unblocked width height blocked p ≡ true
    → LineIsOpen width height blocked start way n → LineIsOpen width height blocked start way (n + 1)
line_more width height blocked p start way n here free before j below =
    elim (cases_lt j n) [
      | inl h ↦ before j h
      | inr h ↦ let same : n ≡ j = omega arith in subst (λ k. IsOpen width height blocked (point_after k way start)) same (p, here, free)
    ]

-- one line more
pub lines_more : (width height : ℕ) (blocked : List Bool) (start : Pos) (corner : Point) (first : Dir) (n : ℕ) → point_of start ≡ point_after n first corner
    → LineIsOpen width height blocked (point_of start) (turned_by first Right) 5 → LinesAreOpen width height blocked corner first n → LinesAreOpen width height blocked corner first (n + 1)
lines_more width height blocked start corner first n here free before i below =
    elim (cases_lt i n) [
      | inl h ↦ before i h
      | inr h ↦
          let same : n ≡ i = omega arith in
          subst (λ k. LineIsOpen width height blocked (point_after k first corner) (turned_by first Right) 5) same
          (subst (λ q. LineIsOpen width height blocked q (turned_by first Right) 5) here free)
    ]

-- five lines of five are the blob
pub lines_blob : (width height : ℕ) (blocked : List Bool) (corner : Point) (first : Dir) (n : ℕ) → n ≡ 5 → LinesAreOpen width height blocked corner first n → BlobIsOpen width height blocked corner first
lines_blob width height blocked corner first n five free q cell =
    let long = cell.is_long in
    let wide = cell.is_wide in
    subst (IsOpen width height blocked) cell.is (free cell.along (omega arith) cell.beside (omega arith))

pub blob_line : (width height : ℕ) (blocked : List Bool) (start : Pos) (corner : Point) (first : Dir) (n : ℕ) → n < 5 → point_of start ≡ point_after n first corner
    → BlobIsOpen width height blocked corner first → LineIsOpen width height blocked (point_of start) (turned_by first Right) 5
blob_line width height blocked start corner first n low here free j below =
    subst (λ q. IsOpen width height blocked (point_after j (turned_by first Right) q)) (sym here)
    (free (point_after j (turned_by first Right) (point_after n first corner)) (record { along = n; beside = j; is_long = omega arith; is_wide = omega arith; is = refl }))

-- the start of an open line is open
pub line_start : (width height : ℕ) (blocked : List Bool) (start : Pos) (way : Dir) → LineIsOpen width height blocked (point_of start) way 5 → is_unblocked width height blocked start ≡ true
line_start width height blocked start way free =
    open_here width height blocked start (point_after 0 way (point_of start)) (step_none way (point_of start)) (free 0 (omega arith))

-- if all positions on the way have neighbours, steps over positions are steps over places
pub walked_is : (n : ℕ) (d : Dir) (p : Pos) (q : Point) → point_of p ≡ q → ((k : ℕ) → k < n → HasRound (point_after k d q)) → point_of (walked n d p) ≡ point_after n d q
unfolding walked point_after
walked_is zero d p q is has = is
walked_is (suc n) d p q is has =
    let before = walked_is n d p q is (λ k h. has k (omega arith)) in
    let here = has n (omega arith) in
    let around : HasNeighbours (walked n d p) = subst HasNeighbours (point_one here.0 (walked n d p) (here.1 ∙ sym before)) here.2 in
    adjacent_pos_table (walked n d p) d around.from_left around.from_top ∙ ap (λ r. adjacent_point r d) before

module _ (corner : Pos) (first : Dir) (all : (q : Point) → IsInBlob (point_of corner) first q → (p : Pos) × (point_of p ≡ q) × HasNeighbours p) where
  in_blob : (i j : ℕ) → i < 5 → j < 5 → IsInBlob (point_of corner) first (point_after j (turned_by first Right) (point_after i first (point_of corner)))
  in_blob i j hi hj = record { along = i; beside = j; is_long = omega arith; is_wide = omega arith; is = refl }

  start_is : (i : ℕ) → i < 5 → point_of (walked i first corner) ≡ point_after i first (point_of corner)
  start_is i hi = walked_is i first corner (point_of corner) refl (λ k h. let found = all _ (in_blob k 0 (omega arith) (omega arith)) in (found.0, found.1 ∙ sym (step_none (turned_by first Right) (point_after k first (point_of corner))), found.2))

  cell_is : (i j : ℕ) → i < 5 → j < 5 → point_of (walked j (turned_by first Right) (walked i first corner)) ≡ point_after j (turned_by first Right) (point_after i first (point_of corner))
  cell_is i j hi hj = walked_is j (turned_by first Right) (walked i first corner) (point_after i first (point_of corner)) (start_is i hi) (λ k h. all _ (in_blob i k hi (omega arith)))

  pub blob_neighbours : BlobHasNeighbours corner first
  blob_neighbours i hi j hj =
      let found = all _ (in_blob i j hi hj) in
      subst HasNeighbours (point_one found.0 _ (found.1 ∙ sym (cell_is i j hi hj))) found.2

  line_member : (n : ℕ) (d : Dir) (p z : Pos) → Contains (line_from n d p) z → (j : ℕ) × (j < n) × (walked j d p ≡ z)
  unfolding line_from
  line_member zero d p z found = absurd (let h = found.1 in omega arith)
  line_member (suc n) d p z found =
      elim (Contains-push_cases (line_from n d p) (walked n d p) z found) [
        | inl old ↦ let before = line_member n d p z old in (before.0, (let h = before.1 in omega arith), before.2)
        | inr e ↦ (n, omega arith, e)
      ]

  line_has : (n : ℕ) (d : Dir) (p : Pos) (j : ℕ) → j < n → Contains (line_from n d p) (walked j d p)
  unfolding line_from
  line_has zero d p j h = absurd (omega arith)
  line_has (suc n) d p j h =
      elim (cases_lt j n) [
        | inl low ↦ Contains-append_left (line_from n d p) (walked n d p ∷ []) (walked j d p) (line_has n d p j low)
        | inr high ↦ let same : n ≡ j = omega arith in subst (λ k. Contains (line_from (suc n) d p) (walked k d p)) same (Contains-push (line_from n d p) (walked n d p))
      ]

  lines_member : (n : ℕ) (z : Pos) → Contains (lines_from n first corner) z → (i : ℕ) × (i < n) × ((j : ℕ) × (j < 5) × (walked j (turned_by first Right) (walked i first corner) ≡ z))
  unfolding lines_from
  lines_member zero z found = absurd (let h = found.1 in omega arith)
  lines_member (suc n) z found =
      elim (Contains-append_cases (lines_from n first corner) (line_from 5 (turned_by first Right) (walked n first corner)) z found) [
        | inl old ↦ let before = lines_member n z old in (before.0, (let h = before.1 in omega arith), before.2)
        | inr here ↦ (n, omega arith, line_member 5 (turned_by first Right) (walked n first corner) z here)
      ]

  lines_has : (n i j : ℕ) → i < n → j < 5 → Contains (lines_from n first corner) (walked j (turned_by first Right) (walked i first corner))
  unfolding lines_from
  lines_has zero i j hi hj = absurd (omega arith)
  lines_has (suc n) i j hi hj =
      elim (cases_lt i n) [
        | inl low ↦ Contains-append_left (lines_from n first corner) (line_from 5 (turned_by first Right) (walked n first corner)) _ (lines_has n i j low hj)
        | inr high ↦
            let same : n ≡ i = omega arith in
            subst (λ k. Contains (lines_from (suc n) first corner) (walked j (turned_by first Right) (walked k first corner))) same
            (Contains-append_right (lines_from n first corner) (line_from 5 (turned_by first Right) (walked n first corner)) _ (line_has 5 (turned_by first Right) (walked n first corner) j hj))
      ]

  pub lines_each : (p : Pos) → Contains (lines_from 5 first corner) p → IsInBlob (point_of corner) first (point_of p)
  lines_each p found =
      let place = lines_member 5 p found in
      let i = place.0 in
      let j = place.2.0 in
      subst (IsInBlob (point_of corner) first) (sym (cell_is i j place.1 place.2.1) ∙ ap point_of place.2.2) (in_blob i j place.1 place.2.1)

  pub lines_every : (q : Point) → IsInBlob (point_of corner) first q → (p : Pos) × (point_of p ≡ q) × Contains (lines_from 5 first corner) p
  lines_every q cell =
      let long : cell.along < 5 = let h = cell.is_long in omega arith in
      let wide : cell.beside < 5 = let h = cell.is_wide in omega arith in
      (walked cell.beside (turned_by first Right) (walked cell.along first corner), cell_is cell.along cell.beside long wide ∙ cell.is, lines_has 5 cell.along cell.beside long wide)

-- the lists that the code makes, one longer
pub line_from_more : (items before : List Pos) (n : ℕ) (d : Dir) (start p : Pos) → p ≡ walked n d start → items ≡ before ++ line_from n d start → items ++ p ∷ [] ≡ before ++ line_from (n + 1) d start
unfolding line_from
line_from_more items before n d start p here is =
    rw (add-one n) (ap (λ (l : List Pos). l ++ p ∷ []) is ∙ append_assoc before (line_from n d start) (p ∷ []) ∙ ap (λ (q : Pos). before ++ (line_from n d start ++ q ∷ [])) here)

pub walked_more : (n : ℕ) (d : Dir) (start p : Pos) → p ≡ walked n d start → adjacent_pos p d ≡ walked (n + 1) d start
unfolding walked
walked_more n d start p here = rw (add-one n) (ap (λ q. adjacent_pos q d) here)

pub walked_none : (d : Dir) (p : Pos) → p ≡ walked 0 d p
unfolding walked
walked_none d p = refl

pub line_from_none : (items : List Pos) (d : Dir) (p : Pos) → items ≡ items ++ line_from 0 d p
unfolding line_from
line_from_none items d p = sym (append-nil items)

pub lines_from_none : (d : Dir) (p : Pos) → [] ≡ lines_from 0 d p
unfolding lines_from
lines_from_none d p = refl

pub lines_from_more : (items next : List Pos) (n : ℕ) (first second : Dir) (corner start : Pos) → second ≡ turned_by first Right → start ≡ walked n first corner → items ≡ lines_from n first corner
    → next ≡ items ++ line_from 5 second start → next ≡ lines_from (n + 1) first corner
unfolding lines_from
lines_from_more items next n first second corner start turn here is more =
    rw (add-one n) (more ∙ ap (λ (l : List Pos). l ++ line_from 5 second start) is ∙ ap (λ (d : Dir). lines_from n first corner ++ line_from 5 d start) turn ∙ ap (λ (p : Pos). lines_from n first corner ++ line_from 5 (turned_by first Right) p) here)
