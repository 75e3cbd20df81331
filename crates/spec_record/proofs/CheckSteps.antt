-- Checks of surrounded ants, in two worlds at once.
use Rattle.std.proofs.Common.{◌≡◌, inl, inr, ℕ, Bool, true, false, if◌then◌else◌, nat_le, Option, Some, None, option_map, List, [], ◌∷◌, ◌++◌, map, length, filter, refl, sym, ◌∙◌, ap, ap₂, subst}
use Rattle.std.specs.List.{AllByRecursion, flat_map}
use Rattle.std.proofs.lemmas.Bool.{cases_Bool, cond-true, cond-false}
use Rattle.list_lemmas.proofs.AllElements.{AllByRecursion-append_first, AllByRecursion-append_second, AllByRecursion-weaker}
use Rattle.hex_geometry.specs.declared.position.Pos.{Pos}
use Rattle.hex_geometry.specs.Neighbourhood.{neighbours_of}
use Rattle.cell_world.specs.declared.ant.Ant.{Ant}
use Rattle.cell_world.specs.declared.ant.Colour.{Colour}
use Rattle.cell_world.specs.declared.part.Part.TheVariants.{Who, Load, Food}
use Rattle.cell_world.specs.Cell.{is_ant_of}
use Rattle.cell_world.specs.Colour.{foe_of, same_colour}
use Rattle.cell_world.specs.Parts.{Alike, Identity, identity_of}
use Rattle.cell_world.specs.World.{Cells}
use Rattle.ant_turn.specs.Kills.{after_kill, ants_among, check_all, check_at, has_foes, id_of, is_surrounded, killed_all, killed_at}
use Rattle.ant_turn.specs.Sheet.{Sheet}
use Rattle.ant_turn.specs.Turn.{has_ant}
use Rattle.ant_turn.proofs.Checks.{check_at-spared, check_at-struck}
use Rattle.ant_turn.proofs.KeptByChecks.{check_all-ant}
use Rattle.spec_record.specs.Claims.{Claim, claim}
use Rattle.spec_record.specs.Reads.{ant_and_food, emptied}
use Rattle.spec_record.proofs.OwnSteps.{kill_step}
use Rattle.spec_record.proofs.Steps.{InStep, InStep-keeps, InStep-none, InStep-put, InStep-then}

-- what is asked of an ant that may not be there, if that depends on its identity alone
of_identity : {A : Type 0} (f : Option Ant → A) (g : Option Identity → A) → ((o : Option Ant) → f o ≡ g (option_map identity_of o)) → (a b : Option Ant) → option_map identity_of a ≡ option_map identity_of b → f a ≡ f b
of_identity {A} f g by a b who = by a ∙ ap g who ∙ sym (by b)

-- whether one of a colour is there
colour_of : Colour → Option Identity → Bool
colour_of colour None = false
colour_of colour (Some who) = same_colour colour who.colour

is_ant_of-colour : (colour : Colour) (o : Option Ant) → is_ant_of colour o ≡ colour_of colour (option_map identity_of o)
unfolding colour_of
is_ant_of-colour colour None = refl
is_ant_of-colour colour (Some ant) = refl

pub is_ant_of-alike : (colour : Colour) (a b : Option Ant) → option_map identity_of a ≡ option_map identity_of b → is_ant_of colour a ≡ is_ant_of colour b
is_ant_of-alike colour = of_identity (is_ant_of colour) (colour_of colour) (is_ant_of-colour colour)

-- whether anybody does
someone : Option Identity → Bool
someone None = false
someone (Some who) = true

has_ant-someone : (o : Option Ant) → has_ant o ≡ someone (option_map identity_of o)
unfolding someone
has_ant-someone None = refl
has_ant-someone (Some ant) = refl

pub has_ant-alike : (a b : Option Ant) → option_map identity_of a ≡ option_map identity_of b → has_ant a ≡ has_ant b
has_ant-alike = of_identity has_ant someone has_ant-someone

-- and under which id
number_of : Option Identity → List ℕ
number_of None = []
number_of (Some who) = who.id ∷ []

id_of-number : (o : Option Ant) → id_of o ≡ number_of (option_map identity_of o)
unfolding number_of
id_of-number None = refl
id_of-number (Some ant) = refl

id_of-alike : (a b : Option Ant) → option_map identity_of a ≡ option_map identity_of b → id_of a ≡ id_of b
id_of-alike = of_identity id_of number_of id_of-number

-- two tests that agree on a list keep the same of it
filter-alike : {A : Type 0} (f g : A → Bool) (xs : List A) → AllByRecursion (λ x. f x ≡ g x) xs → filter f xs ≡ filter g xs
filter-alike {A} f g [] all = refl
filter-alike {A} f g (x ∷ xs) all = ap₂ (λ (b : Bool) (rest : List A). if b then x ∷ rest else rest) all.0 (filter-alike f g xs all.1)

-- what a check of a cell depends on: whose ant is there, and if there is one, whose ants are around it
pub record Sees (v w : Cells) (x : Pos) : Type 0 where
  pub here : Alike Who (v x) (w x)
  pub around : has_ant (v x).ant ≡ true → AllByRecursion (λ n. Alike Who (v n) (w n)) (neighbours_of x)

-- as many ants of a colour are among places whose ants are alike
ants_among-alike : (v w : Cells) (colour : Colour) (places : List Pos) → AllByRecursion (λ n. Alike Who (v n) (w n)) places → ants_among v colour places ≡ ants_among w colour places
ants_among-alike v w colour places all =
    ap length (filter-alike (λ q. is_ant_of colour (v q).ant) (λ q. is_ant_of colour (w q).ant) places
    (AllByRecursion-weaker (λ n. Alike Who (v n) (w n)) (λ q. is_ant_of colour (v q).ant ≡ is_ant_of colour (w q).ant) places all (λ q who. is_ant_of-alike colour (v q).ant (w q).ant who)))

has_foes-alike : (sheet : Sheet) (v w : Cells) (places : List Pos) (a b : Option Ant) → option_map identity_of a ≡ option_map identity_of b → (has_ant a ≡ true → AllByRecursion (λ n. Alike Who (v n) (w n)) places) →
    has_foes sheet v places a ≡ has_foes sheet w places b
has_foes-alike sheet v w places None None who around = refl
has_foes-alike sheet v w places (Some a) (Some b) who around =
    let one : identity_of a ≡ identity_of b = cc in
    ap (nat_le sheet.surround) (ants_among-alike v w (foe_of a.colour) places (around refl) ∙ ap (λ (i : Identity). ants_among w (foe_of i.colour) places) one)
has_foes-alike sheet v w places it that who around = absurd (cc)

-- a cell that is seen alike is surrounded in both or in none
pub is_surrounded-alike : (sheet : Sheet) (v w : Cells) (x : Pos) → Sees v w x → is_surrounded sheet v x ≡ is_surrounded sheet w x
unfolding is_surrounded
is_surrounded-alike sheet v w x sees = has_foes-alike sheet v w (neighbours_of x) (v x).ant (w x).ant sees.here sees.around

-- so one check kills the same
killed_at-alike : (sheet : Sheet) (v w : Cells) (x : Pos) → Sees v w x → killed_at sheet v x ≡ killed_at sheet w x
unfolding killed_at
killed_at-alike sheet v w x sees = ap₂ (λ (b : Bool) (ids : List ℕ). if b then ids else []) (is_surrounded-alike sheet v w x sees) (id_of-alike (v x).ant (w x).ant sees.here)

-- claims of cells whose ants were killed
abbrev pub claims_emptied : List Pos → List Claim
claims_emptied places = map (λ r. claim r ant_and_food) places

-- what the killed leave is alike
abbrev pub LeavesAlike : Cells → Cells → Pos → Type 0
LeavesAlike v w r = Alike Load (v r) (w r) × Alike Food (v r) (w r)

-- the cell that one check empties
abbrev emptied_at : Sheet → Cells → Pos → List Pos
emptied_at sheet v x = if is_surrounded sheet v x then x ∷ [] else []

-- one check is a step of both
check_step : (sheet : Sheet) (v w : Cells) (x : Pos) → Sees v w x → AllByRecursion (LeavesAlike v w) (emptied_at sheet v x) → InStep (claims_emptied (emptied_at sheet v x)) v w (check_at sheet v x) (check_at sheet w x)
check_step sheet v w x sees leaves =
    elim (cases_Bool (is_surrounded sheet v x)) [
      | inl struck ↦
          let one : emptied_at sheet v x ≡ x ∷ [] = cond-true _ _ _ struck in
          let it : AllByRecursion (LeavesAlike v w) (x ∷ []) = subst (AllByRecursion (LeavesAlike v w)) one leaves in
          rw (one, check_at-struck sheet v x struck, check_at-struck sheet w x (sym (is_surrounded-alike sheet v w x sees) ∙ struck))
          (InStep-put x ant_and_food v w (after_kill sheet (v x)) (after_kill sheet (w x)) (kill_step sheet (v x) (w x) it.0.0 it.0.1))
      | inr spared ↦
          let none : emptied_at sheet v x ≡ [] = cond-false _ _ _ spared in
          rw (none, check_at-spared sheet v x spared, check_at-spared sheet w x (sym (is_surrounded-alike sheet v w x sees) ∙ spared)) (InStep-none v w)
    ]

-- after a check no ant is where none was
pub no_new : (sheet : Sheet) (v : Cells) (x q : Pos) → has_ant (check_at sheet v x q).ant ≡ true → has_ant (v q).ant ≡ true
no_new sheet v x q has = go (check_at sheet v x q).ant refl has where
  go : (o : Option Ant) → (check_at sheet v x q).ant ≡ o → has_ant o ≡ true → has_ant (v q).ant ≡ true
  go None is has = absurd (cc)
  go (Some ant) is has = ap has_ant (check_all-ant sheet (x ∷ []) v q ant is)

-- what a check depends on is alike still after another
Sees-kept : (sheet : Sheet) (claims : List Claim) (v w : Cells) (x q : Pos) → InStep claims v w (check_at sheet v x) (check_at sheet w x) → Sees v w q → Sees (check_at sheet v x) (check_at sheet w x) q
Sees-kept sheet claims v w x q step sees = record {
  here = InStep-keeps step q Who sees.here;
  around = λ has. AllByRecursion-weaker (λ n. Alike Who (v n) (w n)) (λ n. Alike Who (check_at sheet v x n) (check_at sheet w x n)) (neighbours_of q) (sees.around (no_new sheet v x q has)) (λ n who. InStep-keeps step n Who who);
}

-- what holds of all of two lists
pub all_split : {A : Type 0} (P : A → Type 0) (xs ys : List A) → AllByRecursion P (xs ++ ys) → AllByRecursion P xs × AllByRecursion P ys
all_split P xs ys all = (AllByRecursion-append_first P xs ys all, AllByRecursion-append_second P xs ys all)

-- what holds of all that each brings
pub all_of_flat_map : {A B : Type 0} (P : B → Type 0) (f : A → List B) (xs : List A) → AllByRecursion P (flat_map f xs) → AllByRecursion (λ x. AllByRecursion P (f x)) xs
all_of_flat_map {A} {B} P f [] all = tt
all_of_flat_map {A} {B} P f (x ∷ xs) all = let both : AllByRecursion P (f x) × AllByRecursion P (flat_map f xs) = all_split P (f x) (flat_map f xs) all in (both.0, all_of_flat_map P f xs both.1)

-- claims of two lists
claims_emptied-append : (xs ys : List Pos) → claims_emptied (xs ++ ys) ≡ claims_emptied xs ++ claims_emptied ys
claims_emptied-append [] ys = refl
claims_emptied-append (x ∷ xs) ys = ap (λ l. claim x ant_and_food ∷ l) (claims_emptied-append xs ys)

-- what checks come to in both
pub record Checked (sheet : Sheet) (v w : Cells) (places : List Pos) : Type 0 where
  pub step : InStep (claims_emptied (emptied sheet v places)) v w (check_all sheet v places) (check_all sheet w places)
  pub killed : killed_all sheet v places ≡ killed_all sheet w places

-- checks of any list of places that are seen alike are a step of both, and kill the same
pub check_steps : (sheet : Sheet) (places : List Pos) (v w : Cells) → AllByRecursion (Sees v w) places → AllByRecursion (LeavesAlike v w) (emptied sheet v places) → Checked sheet v w places
check_steps sheet [] v w sees leaves = record { step = InStep-none v w; killed = refl }
check_steps sheet (x ∷ places) v w sees leaves =
    let later : List Pos = emptied sheet (check_at sheet v x) places in
    let parts : AllByRecursion (LeavesAlike v w) (emptied_at sheet v x) × AllByRecursion (LeavesAlike v w) later = all_split (LeavesAlike v w) (emptied_at sheet v x) later leaves in
    let first : InStep (claims_emptied (emptied_at sheet v x)) v w (check_at sheet v x) (check_at sheet w x) = check_step sheet v w x sees.0 parts.0 in
    let rest : Checked sheet (check_at sheet v x) (check_at sheet w x) places =
    check_steps sheet places (check_at sheet v x) (check_at sheet w x)
    (AllByRecursion-weaker (Sees v w) (Sees (check_at sheet v x) (check_at sheet w x)) places sees.1 (λ q seen. Sees-kept sheet (claims_emptied (emptied_at sheet v x)) v w x q first seen))
    (AllByRecursion-weaker (LeavesAlike v w) (LeavesAlike (check_at sheet v x) (check_at sheet w x)) later parts.1 (λ r left. (InStep-keeps first r Load left.0, InStep-keeps first r Food left.1))) in
    record {
      step = subst (λ claims. InStep claims v w (check_all sheet v (x ∷ places)) (check_all sheet w (x ∷ places))) (sym (claims_emptied-append (emptied_at sheet v x) later)) (InStep-then first rest.step);
      killed = ap₂ (λ (l m : List ℕ). l ++ m) (killed_at-alike sheet v w x sees.0) rest.killed;
    }
