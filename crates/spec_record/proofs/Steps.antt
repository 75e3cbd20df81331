-- A step of two worlds at once: in the claimed parts both come out alike, and every other part stays.
use Rattle.std.proofs.Common.{◌≡◌, ◌⊎◌, inl, inr, Bool, true, false, ◌||◌, Option, Some, None, option_map, List, [], ◌∷◌, ◌++◌, refl, sym, ◌∙◌, subst}
use Rattle.std.proofs.lemmas.Bool.{cases_Bool, or_left, or_right, or_parts, false≢true}
use Rattle.hex_geometry.specs.declared.position.Pos.{Pos}
use Rattle.cell_world.specs.declared.ant.Ant.{Ant}
use Rattle.cell_world.specs.declared.cell.Cell.{Cell}
use Rattle.cell_world.specs.declared.part.Part.{Part}
use Rattle.cell_world.specs.declared.part.Part.TheVariants.{Who}
use Rattle.cell_world.specs.declared.part.Parts.{Parts}
use Rattle.cell_world.specs.Parts.{Agree, Alike, CanPatch, IsSameAnt, has_part, identity_of, no_parts, union}
use Rattle.cell_world.specs.World.{Cells, put_cell}
use Rattle.cell_world.proofs.Patches.{CanPatch-alike}
use Rattle.cell_world.proofs.Puts.{cases_pos, put_cell-other, put_cell-same}
use Rattle.spec_record.specs.Claims.{Claim, claim}
use Rattle.spec_record.specs.Patches.{parts_at}
use Rattle.spec_record.proofs.ClaimLemmas.{Agree-union, has_part-none, has_part-union, parts_at-append, parts_there-elsewhere, parts_there-here, union-none}

-- a step of one cell of each: the base's from c to c', now's from d to d'
pub record CellStep (parts : Parts) (c d c' d' : Cell) : Type 0 where
  -- these parts are alike then
  pub named : Agree parts c' d'
  -- every other part is unchanged
  pub base_others : (k : Part) → has_part parts k ≡ false → Alike k c' c
  pub now_others : (k : Part) → has_part parts k ≡ false → Alike k d' d
  -- so are ground and hill
  pub same_kind : d'.rocky ≡ d.rocky
  pub same_hill : d'.hill ≡ d.hill
  -- and the parts can be patched
  pub can : CanPatch d c' parts

-- a step of all cells
pub record InStep (claims : List Claim) (v w v' w' : Cells) : Type 0 where
  pub each : (r : Pos) → CellStep (parts_at claims r) (v r) (w r) (v' r) (w' r)

-- cells that were alike in a part are so still
pub CellStep-keeps : {parts : Parts} {c d c' d' : Cell} → CellStep parts c d c' d' → (k : Part) → Alike k c d → Alike k c' d'
CellStep-keeps {parts} {c} {d} {c'} {d'} step k alike =
    elim (cases_Bool (has_part parts k)) [
      | inl named ↦ step.named k named
      | inr other ↦ step.base_others k other ∙ alike ∙ sym (step.now_others k other)
    ]

pub InStep-keeps : {claims : List Claim} {v w v' w' : Cells} → InStep claims v w v' w' → (r : Pos) (k : Part) → Alike k (v r) (w r) → Alike k (v' r) (w' r)
InStep-keeps {claims} {v} {w} {v'} {w'} step r k alike = CellStep-keeps (step.each r) k alike

-- nothing can always be patched
CanPatch-none : (cell source : Cell) → CanPatch cell source no_parts
CanPatch-none cell source = record { mind = λ e. e; load = λ e. e; same_ant = λ _ e. absurd (false≢true e) }

-- if nothing happens
pub CellStep-none : (c d : Cell) → CellStep no_parts c d c d
CellStep-none c d = record {
  named = λ k named. absurd (false≢true (sym (has_part-none k) ∙ named));
  base_others = λ k _. refl;
  now_others = λ k _. refl;
  same_kind = refl;
  same_hill = refl;
  can = CanPatch-none d c;
}

pub InStep-none : (v w : Cells) → InStep [] v w v w
InStep-none v w = record { each = λ r. CellStep-none (v r) (w r) }

-- one ant stays one
IsSameAnt-then : (own source after : Option Ant) → option_map identity_of after ≡ option_map identity_of source → IsSameAnt own source → IsSameAnt own after
IsSameAnt-then None source after who same = same
IsSameAnt-then (Some ant) None after who same = absurd same
IsSameAnt-then (Some ant) (Some there) None who same = absurd (cc)
IsSameAnt-then (Some ant) (Some there) (Some another) who same = let one : identity_of another ≡ identity_of there = cc in same ∙ sym one

-- four tests of which one holds
one_of_four : (a b c d : Bool) → ((a || c) || (b || d)) ≡ true → ((a || b) ≡ true) ⊎ ((c || d) ≡ true)
one_of_four false b true d any = inr refl
one_of_four false false false d any = inr any
one_of_four it b c d any = inl refl

-- a named part brings another that it is never named without
union_brings : (x y u v : Bool) → (x ≡ true → y ≡ true) → (u ≡ true → v ≡ true) → (x || u) ≡ true → (y || v) ≡ true
union_brings true y u v first second any = or_left y v (first refl)
union_brings false y u v first second any = or_right y v (second any)

-- two steps after one another
pub CellStep-then : {a b : Parts} {c d c1 d1 c2 d2 : Cell} → CellStep a c d c1 d1 → CellStep b c1 d1 c2 d2 → CellStep (union a b) c d c2 d2
CellStep-then {a} {b} {c} {d} {c1} {d1} {c2} {d2} first second = record {
  named = Agree-union a b c2 d2 (λ k in_a. CellStep-keeps second k (first.named k in_a)) second.named;
  base_others = λ k other. let neither = or_parts (has_part a k) (has_part b k) (sym (has_part-union a b k) ∙ other) in second.base_others k neither.1 ∙ first.base_others k neither.0;
  now_others = λ k other. let neither = or_parts (has_part a k) (has_part b k) (sym (has_part-union a b k) ∙ other) in second.now_others k neither.1 ∙ first.now_others k neither.0;
  same_kind = second.same_kind ∙ first.same_kind;
  same_hill = second.same_hill ∙ first.same_hill;
  can = record {
    mind = union_brings a.who a.mind b.who b.mind first.can.mind second.can.mind;
    load = union_brings a.who a.load b.who b.load first.can.load second.can.load;
    same_ant = λ alone named. let neither = or_parts a.who b.who alone in
        elim (one_of_four a.mind a.load b.mind b.load named) [
          | inl in_a ↦ IsSameAnt-then d.ant c1.ant c2.ant (second.base_others Who neither.1) (first.can.same_ant neither.0 in_a)
          | inr in_b ↦ (CanPatch-alike d1 d c2 b (first.now_others Who neither.0) second.can).same_ant neither.1 in_b
        ];
  };
}

pub InStep-then : {claims more : List Claim} {v w v1 w1 v2 w2 : Cells} → InStep claims v w v1 w1 → InStep more v1 w1 v2 w2 → InStep (claims ++ more) v w v2 w2
InStep-then {claims} {more} {v} {w} {v1} {w1} {v2} {w2} first second = record {
  each = λ r. subst (λ parts. CellStep parts (v r) (w r) (v2 r) (w2 r)) (sym (parts_at-append claims more r)) (CellStep-then (first.each r) (second.each r));
}

-- what is claimed counts alone, however it is listed
pub InStep-same : {claims other : List Claim} {v w v' w' : Cells} → ((r : Pos) → parts_at claims r ≡ parts_at other r) → InStep claims v w v' w' → InStep other v w v' w'
InStep-same {claims} {other} {v} {w} {v'} {w'} same step = record {
  each = λ r. subst (λ parts. CellStep parts (v r) (w r) (v' r) (w' r)) (same r) (step.each r);
}

-- a step of one cell alone
pub InStep-put : (p : Pos) (parts : Parts) (v w : Cells) (c' d' : Cell) → CellStep parts (v p) (w p) c' d' → InStep (claim p parts ∷ []) v w (put_cell v p c') (put_cell w p d')
InStep-put p parts v w c' d' step = record {
  each = λ r. elim (cases_pos p r) [
    | inl one ↦ subst (λ q. CellStep (parts_at (claim p parts ∷ []) q) (v q) (w q) (put_cell v p c' q) (put_cell w p d' q)) one
        (rw (put_cell-same v p c', put_cell-same w p d', parts_there-here (claim p parts) p refl, union-none parts) step)
    | inr apart ↦ rw (put_cell-other v p c' r apart, put_cell-other w p d' r apart, parts_there-elsewhere (claim p parts) r apart) (CellStep-none (v r) (w r))
  ];
}
