-- Ants read from their bodies, before and after the ant of one cell changes.
use Rattle.std.proofs.Common.{◌≡◌, ℕ, ◌<◌, Bool, true, false, cond, nat_eq, List, length, get_or, Option, Some, None, refl, sym, ap, ◌∙◌, subst, arith}
use Rattle.std.proofs.lemmas.Bool.{cond-true, cond-false, cond_both, eq-eqb, eqb-false, eqb-true, false≢true, ne_eqb}
use Rattle.std.proofs.lemmas.List.{get_or_default, get_or-map}
use Rattle.hex_geometry.specs.declared.position.Pos.{Pos}
use Rattle.cell_world.specs.declared.ant.Ant.{Ant}
use Rattle.cell_world.specs.declared.body.Body.{Body}
use Rattle.cell_world.specs.Cell.{is_ant}
use Rattle.cell_world.specs.Inner.Bodies.{IsKnown, IsMadeBody, Moved, came, gone}
use Rattle.cell_world.specs.Inner.Stored.{ant_from, ant_named, body_at, stored_id, no_body, nobody, occupant_id, occupant_of, stored_places}

-- the number that stands for nobody is no id
pub occupant_id-of : (o : Option Ant) → IsKnown nobody o → occupant_id (occupant_of o) ≡ stored_id o
occupant_id-of None known = refl
occupant_id-of (Some ant) known = cond-false _ _ _ (ne_eqb ant.id nobody (λ e. omega arith))

-- what holds of the ant, if there is one, holds of who is known
pub IsKnown-from : (ids : ℕ) (o : Option Ant) → ((ant : Ant) → o ≡ Some ant → ant.id < ids) → IsKnown ids o
IsKnown-from ids None known = tt
IsKnown-from ids (Some ant) known = known ant refl

-- whether the id, if there is one, is this
abbrev pub is_id : ℕ → Option ℕ → Bool
is_id t None = false
is_id t (Some u) = nat_eq u t

-- the id that is this
pub is_id-true : (t : ℕ) (o : Option ℕ) → is_id t o ≡ true → o ≡ Some t
is_id-true t None same = absurd (false≢true same)
is_id-true t (Some u) same = ap Some (eqb-true u t same)

-- the ant of an id that was made, whatever stands for bodies beyond the last
pub ant_named-body : (bodies : List Body) (t : ℕ) (none : Body) → t < length bodies → ant_named bodies (Some t) ≡ Some (ant_from t (get_or bodies t none))
unfolding ant_named
ant_named-body bodies t none made = ap (λ b. Some (ant_from t b)) (get_or_default bodies t no_body none made)

-- the ant that is read has that id
pub is_ant-named : (t : ℕ) (bodies : List Body) (o : Option ℕ) → is_ant t (ant_named bodies o) ≡ is_id t o
unfolding ant_named
is_ant-named t bodies None = refl
is_ant-named t bodies (Some u) = refl

-- an id was made where the ant that is read is known
pub IsMadeBody-named : (ids : ℕ) (bodies : List Body) (o : Option ℕ) → ((ant : Ant) → ant_named bodies o ≡ Some ant → ant.id < ids) → IsMadeBody ids o
unfolding ant_named
IsMadeBody-named ids bodies None known = tt
IsMadeBody-named ids bodies (Some t) known = known (ant_from t (get_or bodies t no_body)) refl

-- the place of a body whose ant was on the cell
gone-place : (t : ℕ) (before : Option ℕ) (body : Body) → (gone t before body).place ≡ cond (is_id t before) None body.place
gone-place t None body = refl
gone-place t (Some u) body =
    cond_both (nat_eq u t) (record body { place = None }) body (λ b. b.place ≡ cond (nat_eq u t) None body.place) (λ same. sym (cond-true _ _ _ same)) (λ apart. sym (cond-false _ _ _ apart))

-- the place of a body whose ant is on the cell
came-place : (t : ℕ) (p : Pos) (after : Option Ant) (body : Body) → (came t p after body).place ≡ cond (is_ant t after) (Some p) body.place
came-place t p None body = refl
came-place t p (Some ant) body =
    cond_both (nat_eq ant.id t) (body_at p ant) body (λ b. b.place ≡ cond (nat_eq ant.id t) (Some p) body.place) (λ same. sym (cond-true _ _ _ same)) (λ apart. sym (cond-false _ _ _ apart))

-- an ant that is on a cell no more is unchanged, except for its place
ant_from-gone : (t : ℕ) (before : Option ℕ) (body : Body) → ant_from t (gone t before body) ≡ ant_from t body
ant_from-gone t None body = refl
ant_from-gone t (Some u) body = cond_both (nat_eq u t) (record body { place = None }) body (λ b. ant_from t b ≡ ant_from t body) (λ _. refl) (λ _. refl)

-- the body of the ant that is on the cell
pub came-same : (p : Pos) (ant : Ant) (body : Body) → came ant.id p (Some ant) body ≡ body_at p ant
came-same p ant body = cond-true _ _ _ (eq-eqb ant.id ant.id refl)

-- the body of another
pub came-other : (t : ℕ) (p : Pos) (after : Option Ant) (body : Body) → is_ant t after ≡ false → came t p after body ≡ body
came-other t p None body other = refl
came-other t p (Some ant) body other = cond-false _ _ _ other

-- an ant isn't t where t isn't its id
other_id : (t : ℕ) (after : Option Ant) → ((ant : Ant) → after ≡ Some ant → nat_eq t ant.id ≡ false) → is_ant t after ≡ false
other_id t None other = refl
other_id t (Some ant) other = ne_eqb ant.id t (λ e. eqb-false t ant.id (other ant refl) (sym e))

module _ {old new : List Body} {p : Pos} {before : Option ℕ} {after : Option Ant} (moved : Moved old new p before after) where
  -- an id that was made is among the new bodies
  still_made : (t : ℕ) → t < length old → t < length new
  still_made t made = subst (λ n. t < n) (sym moved.all_ids) made

  -- the places of all ants after the change
  pub places_of-moved : (t : ℕ) (none : Option Pos) → t < length old → get_or (stored_places new) t none ≡ cond (is_ant t after) (Some p) (cond (is_id t before) None (get_or (stored_places old) t none))
  places_of-moved t none made =
      get_or-map (λ (b : Body). b.place) new t no_body none (still_made t made)
      ∙ ap (λ (b : Body). b.place) (moved.each t no_body made)
      ∙ came-place t p after (gone t before (get_or old t no_body))
      ∙ ap (cond (is_ant t after) (Some p)) (gone-place t before (get_or old t no_body) ∙ ap (cond (is_id t before) None) (sym (get_or-map (λ (b : Body). b.place) old t no_body none made)))

  -- the ant that is on the cell is read as it is
  pub ant_named-came : (o : Option Ant) → after ≡ o → ((ant : Ant) → o ≡ Some ant → ant.id < length old) → ant_named new (stored_id o) ≡ o
  unfolding ant_named
  ant_named-came None is known = refl
  ant_named-came (Some ant) is known =
      let made : ant.id < length old = known ant refl in
      ant_named-body new ant.id no_body (still_made ant.id made)
      ∙ ap (λ b. Some (ant_from ant.id b)) (moved.each ant.id no_body made ∙ ap (λ a. came ant.id p a (gone ant.id before (get_or old ant.id no_body))) is ∙ came-same p ant (gone ant.id before (get_or old ant.id no_body)))

  -- every other is read as before
  pub ant_named-stays : (o : Option ℕ) → IsMadeBody (length old) o → ((ant : Ant) → after ≡ Some ant → is_id ant.id o ≡ false) → ant_named new o ≡ ant_named old o
  unfolding ant_named
  ant_named-stays None made other = refl
  ant_named-stays (Some t) made other =
      ap (λ b. Some (ant_from t b))
      (get_or_default new t no_body no_body (still_made t made) ∙ moved.each t no_body made ∙ came-other t p after (gone t before (get_or old t no_body)) (other_id t after other))
      ∙ ap Some (ant_from-gone t before (get_or old t no_body))
