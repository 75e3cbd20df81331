-- Cells and their parts, and patches.
use Rattle.std.proofs.Common.{◌≡◌, inl, inr, ℕ, Bool, true, false, ◌||◌, Option, Some, None, option_map, refl, sym, ◌∙◌, ap}
use Rattle.std.proofs.Math.Bool.{or-true}
use Rattle.std.proofs.lemmas.Bool.{both_ways, cases_Bool, cond-true, cond-false, false≢true, or_cases}
use Rattle.cell_world.specs.declared.ant.Ant.{Ant}
use Rattle.cell_world.specs.declared.ant.Colour.{Colour}
use Rattle.cell_world.specs.declared.cell.Cell.{Cell}
use Rattle.cell_world.specs.declared.marks.Marks.{Marks}
use Rattle.cell_world.specs.declared.part.Part.{Part}
use Rattle.cell_world.specs.declared.part.Part.TheVariants.{Who, Mind, Load, Food, RedMarks, BlackMarks}
use Rattle.cell_world.specs.declared.part.Parts.{Parts}
use Rattle.cell_world.specs.Parts.{Agree, Alike, CanPatch, Identity, IsSameAnt, Posture, has_part, identity_of, patched, patched_ant, posture_of}
use Rattle.cell_world.specs.PartLaws.{AreDisjoint, HasParts}

-- ants of one identity, posture and load are one
pub same_parts_ant : (a b : Ant) → identity_of a ≡ identity_of b → posture_of a ≡ posture_of b → a.laden ≡ b.laden → a ≡ b
same_parts_ant a b who mind load =
    let made : Identity → Posture → Bool → Ant = λ i m l. record { id = i.id; colour = i.colour; state = m.state; resting = m.resting; facing = m.facing; laden = l } in
    ap (λ i. made i (posture_of a) a.laden) who ∙ ap (λ m. made (identity_of b) m a.laden) mind ∙ ap (made (identity_of b) (posture_of b)) load

-- what two options hold is one where they are
pub some_one : {A : Type 0} {a b : A} → Some a ≡ Some b → a ≡ b
some_one {A} {a} {b} e = cc

-- ants that may not be there, of one identity, posture and load, are one
same_parts_option : (a b : Option Ant) → option_map identity_of a ≡ option_map identity_of b → option_map posture_of a ≡ option_map posture_of b → option_map (λ ant. ant.laden) a ≡ option_map (λ ant. ant.laden) b → a ≡ b
same_parts_option None None who mind load = refl
same_parts_option (Some a) (Some b) who mind load = ap Some (same_parts_ant a b (some_one who) (some_one mind) (some_one load))
same_parts_option it that who mind load = absurd (cc)

-- cells that are equal in every part, of one ground and hill, are equal
pub same_parts : (c d : Cell) → ((k : Part) → Alike k c d) → c.rocky ≡ d.rocky → c.hill ≡ d.hill → c ≡ d
same_parts c d alike rocky hill =
    let made : Bool → Option Colour → ℕ → Marks → Marks → Option Ant → Cell = λ r h f m n a. record { rocky = r; hill = h; food = f; red = m; black = n; ant = a } in
    ap (λ r. made r c.hill c.food c.red c.black c.ant) rocky
    ∙ ap (λ h. made d.rocky h c.food c.red c.black c.ant) hill
    ∙ ap (λ f. made d.rocky d.hill f c.red c.black c.ant) (alike Food)
    ∙ ap (λ m. made d.rocky d.hill d.food m c.black c.ant) (alike RedMarks)
    ∙ ap (λ m. made d.rocky d.hill d.food d.red m c.ant) (alike BlackMarks)
    ∙ ap (made d.rocky d.hill d.food d.red d.black) (same_parts_option c.ant d.ant (alike Who) (alike Mind) (alike Load))

-- an ant that may be patched, by what is named
patched_ant-who : (parts : Parts) (own source : Option Ant) → option_map identity_of (patched_ant parts own source) ≡ option_map identity_of own
patched_ant-who parts None source = refl
patched_ant-who parts (Some ant) None = refl
patched_ant-who parts (Some ant) (Some other) = refl

-- its posture, if it is named
patched_ant-mind : (parts : Parts) (own source : Option Ant) → parts.mind ≡ true → IsSameAnt own source → option_map posture_of (patched_ant parts own source) ≡ option_map posture_of source
patched_ant-mind parts (Some ant) (Some other) named same = rw named
patched_ant-mind parts it source named same = absurd same

-- and where it isn't
patched_ant-mind_own : (parts : Parts) (own source : Option Ant) → parts.mind ≡ false → option_map posture_of (patched_ant parts own source) ≡ option_map posture_of own
patched_ant-mind_own parts (Some ant) (Some other) other_s = rw other_s
patched_ant-mind_own parts it source other_s = refl

-- what it carries, if that is named
patched_ant-load : (parts : Parts) (own source : Option Ant) → parts.load ≡ true → IsSameAnt own source → option_map (λ ant. ant.laden) (patched_ant parts own source) ≡ option_map (λ ant. ant.laden) source
patched_ant-load parts (Some ant) (Some other) named same = rw named
patched_ant-load parts it source named same = absurd same

-- and where it isn't
patched_ant-load_own : (parts : Parts) (own source : Option Ant) → parts.load ≡ false → option_map (λ ant. ant.laden) (patched_ant parts own source) ≡ option_map (λ ant. ant.laden) own
patched_ant-load_own parts (Some ant) (Some other) other_s = rw other_s
patched_ant-load_own parts it source other_s = refl

module _ (cell source : Cell) (parts : Parts) where
  -- who is there comes from the source where it is named
  pub patched-ant : parts.who ≡ true → (patched cell source parts).ant ≡ source.ant
  unfolding patched
  patched-ant named = cond-true _ _ _ named

  -- and otherwise it is patched
  pub patched-ant_own : parts.who ≡ false → (patched cell source parts).ant ≡ patched_ant parts cell.ant source.ant
  unfolding patched
  patched-ant_own other = cond-false _ _ _ other

  -- ground and hill are the cell's
  pub patched-rocky : (patched cell source parts).rocky ≡ cell.rocky
  unfolding patched
  patched-rocky = refl

  pub patched-hill : (patched cell source parts).hill ≡ cell.hill
  unfolding patched
  patched-hill = refl

  module _ (can : CanPatch cell source parts) where
    -- if the posture or the load are named alone, both cells hold one ant
    mind_alone : parts.who ≡ false → parts.mind ≡ true → IsSameAnt cell.ant source.ant
    mind_alone other named = can.same_ant other (ap (λ b. b || parts.load) named)

    load_alone : parts.who ≡ false → parts.load ≡ true → IsSameAnt cell.ant source.ant
    load_alone other named = can.same_ant other (ap (λ b. parts.mind || b) named ∙ or-true parts.mind)

    -- each named part is the source's
    pub patched-named : (k : Part) → has_part parts k ≡ true → Alike k (patched cell source parts) source
    unfolding patched
    patched-named Who named = ap (option_map identity_of) (patched-ant named)
    patched-named Mind named = elim (cases_Bool parts.who) [
      | inl who ↦ ap (option_map posture_of) (patched-ant who)
      | inr other ↦ ap (option_map posture_of) (patched-ant_own other) ∙ patched_ant-mind parts cell.ant source.ant named (mind_alone other named)
    ]
    patched-named Load named = elim (cases_Bool parts.who) [
      | inl who ↦ ap (option_map (λ ant. ant.laden)) (patched-ant who)
      | inr other ↦ ap (option_map (λ ant. ant.laden)) (patched-ant_own other) ∙ patched_ant-load parts cell.ant source.ant named (load_alone other named)
    ]
    patched-named Food named = cond-true _ _ _ named
    patched-named it named = cond-true _ _ _ named

    -- who is there is named only with its posture and its load
    who_unnamed : (b : Bool) → b ≡ false → (parts.who ≡ true → b ≡ true) → parts.who ≡ false
    who_unnamed b other whole = elim (cases_Bool parts.who) [
      | inl who ↦ absurd (false≢true (sym other ∙ whole who))
      | inr not ↦ not
    ]

    -- every other part is the cell's
    pub patched-others : (k : Part) → has_part parts k ≡ false → Alike k (patched cell source parts) cell
    unfolding patched
    patched-others Who other = ap (option_map identity_of) (patched-ant_own other) ∙ patched_ant-who parts cell.ant source.ant
    patched-others Mind other =
        ap (option_map posture_of) (patched-ant_own (who_unnamed parts.mind other can.mind)) ∙ patched_ant-mind_own parts cell.ant source.ant other
    patched-others Load other =
        ap (option_map (λ ant. ant.laden)) (patched-ant_own (who_unnamed parts.load other can.load)) ∙ patched_ant-load_own parts cell.ant source.ant other
    patched-others it other = cond-false _ _ _ other

    -- so a patched cell is the one that has these
    pub patched-HasParts : HasParts cell source parts (patched cell source parts)
    patched-HasParts = record { named = patched-named; others = patched-others; same_kind = patched-rocky; same_hill = patched-hill }

    -- and the only one
    pub patched-only : (new : Cell) → HasParts cell source parts new → new ≡ patched cell source parts
    patched-only new has = same_parts new (patched cell source parts)
        (λ k. elim (cases_Bool (has_part parts k)) [
          | inl named ↦ has.named k named ∙ sym (patched-named k named)
          | inr other ↦ has.others k other ∙ sym (patched-others k other)
        ])
        (has.same_kind ∙ sym patched-rocky) (has.same_hill ∙ sym patched-hill)

    -- what the cell already has changes nothing
    pub patched-unchanged : Agree parts cell source → patched cell source parts ≡ cell
    patched-unchanged agree = sym (patched-only cell (record { named = agree; others = λ k other. refl; same_kind = refl; same_hill = refl }))

-- one ant stays one when both are patched
IsSameAnt-alike : (own other source : Option Ant) → option_map identity_of own ≡ option_map identity_of other → IsSameAnt own source → IsSameAnt other source
IsSameAnt-alike (Some ant) None (Some there) who same = absurd (cc)
IsSameAnt-alike (Some ant) (Some another) (Some there) who same = sym (some_one who) ∙ same
IsSameAnt-alike it other source who same = absurd same

-- a cell of the same ant can be patched alike
pub CanPatch-alike : (cell other source : Cell) (parts : Parts) → Alike Who cell other → CanPatch cell source parts → CanPatch other source parts
CanPatch-alike cell other source parts who can = record {
  mind = can.mind;
  load = can.load;
  same_ant = λ alone named. IsSameAnt-alike cell.ant other.ant source.ant who (can.same_ant alone named);
}

-- patches that have no part in common
module _ (cell one other : Cell) (a b : Parts) (apart : AreDisjoint a b) (can_one : CanPatch cell one a) (can_other : CanPatch cell other b) where
  -- the second can be made after the first
  CanPatch-after : CanPatch (patched cell one a) other b
  CanPatch-after = record {
    mind = can_other.mind;
    load = can_other.load;
    same_ant = λ alone named. elim (cases_Bool a.who) [
      | inl who ↦ absurd (elim (or_cases b.mind b.load named) [
        | inl mind ↦ both_ways b.mind (apart Mind (can_one.mind who)) mind
        | inr load ↦ both_ways b.load (apart Load (can_one.load who)) load
      ])
      | inr none ↦ IsSameAnt-alike cell.ant (patched cell one a).ant other.ant (sym (patched-others cell one a can_one Who none)) (can_other.same_ant alone named)
    ];
  }

-- settle in any order
pub patched-swap : (cell one other : Cell) (a b : Parts) → AreDisjoint a b → CanPatch cell one a → CanPatch cell other b → patched (patched cell one a) other b ≡ patched (patched cell other b) one a
patched-swap cell one other a b apart can_one can_other =
    let back : AreDisjoint b a = λ k in_b. elim (cases_Bool (has_part a k)) [
      | inl in_a ↦ absurd (false≢true (sym (apart k in_a) ∙ in_b))
      | inr not ↦ not
    ] in
    let first : CanPatch (patched cell one a) other b = CanPatch-after cell one other a b apart can_one can_other in
    let second : CanPatch (patched cell other b) one a = CanPatch-after cell other one b a back can_other can_one in
    patched-only (patched cell other b) one a second (patched (patched cell one a) other b) (record {
      named = λ k in_a. patched-others (patched cell one a) other b first k (apart k in_a) ∙ patched-named cell one a can_one k in_a;
      others = λ k not_a. elim (cases_Bool (has_part b k)) [
        | inl in_b ↦ patched-named (patched cell one a) other b first k in_b ∙ sym (patched-named cell other b can_other k in_b)
        | inr not_b ↦ patched-others (patched cell one a) other b first k not_b ∙ patched-others cell one a can_one k not_a ∙ sym (patched-others cell other b can_other k not_b)
      ];
      same_kind = patched-rocky (patched cell one a) other b ∙ patched-rocky cell one a ∙ sym (patched-rocky cell other b);
      same_hill = patched-hill (patched cell one a) other b ∙ patched-hill cell one a ∙ sym (patched-hill cell other b);
    })
