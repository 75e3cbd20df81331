-- The fields of a world after each of its two changes.
use Rattle.std.proofs.Common.{◌≡◌, inl, inr, ℕ, ◌<◌, Bool, true, List, ◌++◌, length, get_or, set, take, drop, Option, Some, None, refl, sym, ap, ap₂, ◌∙◌, subst, arith}
use Rattle.std.proofs.Math.Seq.{take-append_seam}
use Rattle.std.proofs.lemmas.Bool.{cases_eq, cond-false, ne_eqb}
use Rattle.std.proofs.lemmas.List.{get_or-map, get_or-set_other, get_or-set_same, length-set, set-get_or}
use Rattle.std.specs.Vec.{with_item, with_items}
use Rattle.hex_geometry.specs.declared.position.Pos.{Pos}
use Rattle.cell_world.specs.declared.ant.Ant.{Ant}
use Rattle.cell_world.specs.declared.ant.Colour.{Colour}
use Rattle.cell_world.specs.declared.body.Body.{Body}
use Rattle.cell_world.specs.declared.cell.Cell.{Cell}
use Rattle.cell_world.specs.declared.occupant.Occupant.{Occupant}
use Rattle.cell_world.specs.declared.tile.Tile.{Tile}
use Rattle.cell_world.specs.declared.world.World.TheInside.{Inside}
use Rattle.cell_world.specs.Cell.{holds_id, rock}
use Rattle.cell_world.specs.Grid.{Grid, IsWorld, cell_in, world_of}
use Rattle.hex_geometry.specs.RowOrder.{index_of}
use Rattle.cell_world.specs.Inner.Index.{IsIndex}
use Rattle.cell_world.specs.Inner.Inside.{IsWellStored, grid_of}
use Rattle.cell_world.specs.Inner.Bodies.{IsKnown, Moved, came, gone}
use Rattle.cell_world.specs.Inner.Stored.{ant_from, ant_named, body_at, cell_from, grid_from, nobody, occupant_id, occupant_of, stored_places, tile_of}
use Rattle.cell_world.specs.Valid.{CanSet, CanThink}
use Rattle.cell_world.specs.World.{place_in, put}
use Rattle.cell_world.proofs.Bodies.{IsKnown-from, occupant_id-of, ant_named-body, ant_named-came, came-other, came-same}
use Rattle.cell_world.proofs.Places.{holds_id-own, place_in-found}
use Rattle.cell_world.proofs.Sets.{grid_set, world_of-set}
use Rattle.cell_world.proofs.StoredLemmas.{Changed, ant-read, cell_in-tile_at, cell_in-tile_is, stored-set}
use Rattle.cell_world.proofs.ValidLemmas.{CanSet-mind, Thinker, thinker}

-- the old tile's kind and hill, and all else of the new cell, with this occupant
abbrev pub merged_tile : Tile → Cell → Occupant → Tile
merged_tile old cell occupant = record old { food = cell.food; ant = occupant; red = cell.red; black = cell.black }

-- which reads as the new cell, if its kind and hill are the old one's and its ant is read
merged : (new : List Body) (old : Tile) (cell : Cell) (occupant : Occupant) → old.rocky ≡ cell.rocky → old.hill ≡ cell.hill → ant_named new (occupant_id occupant) ≡ cell.ant → cell_from new (merged_tile old cell occupant) ≡ cell
merged new old cell occupant kind hill ant =
    let with : Bool → Option Colour → Option Ant → Cell = λ r h o. record { rocky = r; hill = h; food = cell.food; red = cell.red; black = cell.black; ant = o } in
    ap₂ (λ r h. with r h (ant_named new (occupant_id occupant))) kind hill ∙ ap (with cell.rocky cell.hill) ant

-- a vector all of whose items were written again holds the new ones
pub refilled : {X : Type 0} (n : ℕ) (items new : List X) → n ≡ length items → length new ≡ length items → take n (new ++ drop (length new) items) ≡ new
refilled n items new long same =
    subst (λ k. take k (new ++ drop (length new) items) ≡ new) (same ∙ sym long) (take-append_seam new (drop (length new) items))

-- the fields after a change of the tile of this number, if the bodies became these
abbrev pub fields_set : Inside → ℕ → Tile → List Body → Inside
fields_set fields i tile new = record {
  width = fields.width;
  height = fields.height;
  tiles = with_item fields.tiles i tile;
  bodies = with_items fields.bodies new;
}

-- what a change of fields comes to
pub record FieldsChanged (fields after : Inside) (p : Pos) (cell : Cell) : Type 0 where
  pub grid : grid_of after ≡ grid_set (grid_of fields) p cell
  pub kept : IsWellStored after

-- the fields after a change that may be made, and after which the bodies were moved, are a world's
fields_set-changed_at : (fields : Inside) (p : Pos) (old : Tile) (cell : Cell) (occupant : Occupant) (before : Option ℕ) (room : ℕ) (known new : List Body) → IsWellStored fields → CanSet (world_of (grid_of fields)) room p cell → old ≡ get_or fields.tiles.items (index_of fields.width p) old → occupant ≡ occupant_of cell.ant → before ≡ occupant_id old.ant → known ≡ fields.bodies.items → Moved known new p before cell.ant →
    FieldsChanged fields (fields_set fields (index_of fields.width p) (merged_tile old cell occupant) new) p cell
fields_set-changed_at fields p old cell occupant before room known new kept can item named was is moved =
    let width : ℕ = fields.width in
    let height : ℕ = fields.height in
    let tiles : List Tile = fields.tiles.items in
    let bodies : List Body = fields.bodies.items in
    let tile : Tile = merged_tile old cell occupant in
    let after : List Tile = set tiles (index_of width p) tile in
    let there : cell_in (grid_of fields) p ≡ cell_from bodies old = cell_in-tile_is width height tiles bodies p (index_of width p) old kept.world can.inside refl item in
    let long : length new ≡ length bodies = moved.all_ids ∙ ap length is in
    let whole : (fields_set fields (index_of width p) tile new).bodies.items ≡ new = refilled fields.bodies.len bodies new fields.bodies.ok.0 long in
    let moved_there : Moved bodies new p (occupant_id old.ant) cell.ant = subst (λ o. Moved bodies new p o cell.ant) was (subst (λ k. Moved k new p before cell.ant) is moved) in
    let few = kept.world.valid.few in
    let known_here : IsKnown nobody cell.ant = IsKnown-from nobody cell.ant (λ ant there. let early : ant.id < length bodies = can.ant_known ant there in omega arith) in
    let reads : cell_from new tile ≡ cell =
    merged new old cell occupant (ap (λ (c : Cell). c.rocky) (sym there) ∙ can.was_clear ∙ sym can.is_clear) (ap (λ (c : Cell). c.hill) (sym there) ∙ sym can.same_hill)
    (ap (λ o. ant_named new (occupant_id o)) named ∙ ap (ant_named new) (occupant_id-of cell.ant known_here) ∙ ant_named-came moved_there cell.ant refl can.ant_known) in
    let changed : Changed width height tiles bodies p tile new cell = stored-set width height tiles bodies kept.world can moved_there tile kept.index (ap (λ (c : Cell). c.ant) there) reads in
    record {
      grid = ap (grid_from width height after) whole ∙ changed.grid;
      kept = record {
        world = subst (λ b. IsWorld (grid_from width height after b)) (sym whole) changed.world;
        index = subst (λ b. IsIndex (grid_from width height after b) (stored_places b)) (sym whole) changed.index;
      };
    }

-- even if the tile was read and changed at what is the number of its position
pub fields_set-changed : (fields : Inside) (p : Pos) (i : ℕ) (old : Tile) (cell : Cell) (occupant : Occupant) (before : Option ℕ) (room : ℕ) (known new : List Body) → IsWellStored fields → CanSet (world_of (grid_of fields)) room p cell → i ≡ index_of fields.width p → old ≡ get_or fields.tiles.items i old → occupant ≡ occupant_of cell.ant → before ≡ occupant_id old.ant → known ≡ fields.bodies.items → Moved known new p before cell.ant →
    FieldsChanged fields (fields_set fields i (merged_tile old cell occupant) new) p cell
fields_set-changed fields p i old cell occupant before room known new kept can at item named was is moved =
    subst (λ k. FieldsChanged fields (fields_set fields k (merged_tile old cell occupant) new) p cell) (sym at)
    (fields_set-changed_at fields p old cell occupant before room known new kept can (item ∙ ap (λ k. get_or fields.tiles.items k old) at) named was is moved)

-- a body has its ant's place
pub body-place : (fields : Inside) (t : ℕ) (body : Body) → IsWellStored fields → t < length fields.bodies.items → body ≡ get_or fields.bodies.items t body → body.place ≡ place_in (world_of (grid_of fields)) t
body-place fields t body kept made item =
    ap (λ (b : Body). b.place) item
    ∙ sym (get_or-map (λ (b : Body). b.place) fields.bodies.items t body None made)
    ∙ kept.index.agrees t None made

-- an ant that a cell holds is that of its body
pub body-ant : (fields : Inside) (t : ℕ) (p : Pos) (body : Body) → IsWellStored fields → t < length fields.bodies.items → body ≡ get_or fields.bodies.items t body → holds_id t (cell_in (grid_of fields) p) ≡ true → (cell_in (grid_of fields) p).ant ≡ Some (ant_from t body)
body-ant fields t p body kept made item holds =
    (ant-read fields.width fields.height fields.tiles.items fields.bodies.items t p (tile_of rock) kept.world holds).1
    ∙ ant_named-body fields.bodies.items t body made
    ∙ ap (λ b. Some (ant_from t b)) (sym item)

-- the body with this ant's state, rest and direction
abbrev pub minded : Body → Ant → Body
minded body ant = record body { state = ant.state; resting = ant.resting; facing = ant.facing }

-- the fields after a state, a rest and a direction were set
abbrev pub fields_minded : Inside → Body → Ant → Inside
fields_minded fields body ant = record fields { bodies = with_item fields.bodies ant.id (minded body ant) }

-- which is the ant's own body at p, if the body is at p and is of its colour and load
minded-own : (p : Pos) (body : Body) (ant : Ant) → body.place ≡ Some p → body.colour ≡ ant.colour → body.laden ≡ ant.laden → minded body ant ≡ body_at p ant
minded-own p body ant place colour load =
    let with : Option Pos → Colour → Bool → Body = λ o k l. record { place = o; state = ant.state; resting = ant.resting; facing = ant.facing; colour = k; laden = l } in
    ap₂ (λ o k. with o k body.laden) place colour ∙ ap (with (Some p) ant.colour) load

-- the bodies when one of them became its ant's own
Moved-own : (bodies : List Body) (p : Pos) (ant : Ant) (body : Body) → ant.id < length bodies → body ≡ body_at p ant → Moved bodies (set bodies ant.id body) p (Some ant.id) (Some ant)
Moved-own bodies p ant body made own = record {
  all_ids = length-set bodies ant.id body;
  each = λ t none early. elim (cases_eq t ant.id) [
    | inl same ↦
        ap (λ i. get_or (set bodies ant.id body) i none) same
        ∙ get_or-set_same bodies ant.id body none made
        ∙ own
        ∙ sym (came-same p ant _)
        ∙ ap (λ i. came i p (Some ant) (gone i (Some ant.id) (get_or bodies i none))) (sym same)
    | inr apart ↦
        get_or-set_other bodies ant.id t body none apart
        ∙ sym (came-other t p (Some ant) _ (ne_eqb ant.id t (λ e. apart (sym e))) ∙ cond-false _ _ _ (ne_eqb ant.id t (λ e. apart (sym e))))
  ];
}

-- the fields after a state, a rest and a direction that may be set were set are those of the world with that ant
pub fields_minded-changed : (fields : Inside) (p : Pos) (body : Body) (ant : Ant) (room : ℕ) → IsWellStored fields → CanThink (world_of (grid_of fields)) room p ant → body ≡ get_or fields.bodies.items ant.id body → FieldsChanged fields (fields_minded fields body ant) p (record (cell_in (grid_of fields) p) { ant = Some ant })
fields_minded-changed fields p body ant room kept can item =
    let width : ℕ = fields.width in
    let height : ℕ = fields.height in
    let tiles : List Tile = fields.tiles.items in
    let bodies : List Body = fields.bodies.items in
    let here : Cell = cell_in (grid_of fields) p in
    let new : List Body = set bodies ant.id (minded body ant) in
    let tile : Tile = get_or tiles (index_of width p) (tile_of rock) in
    let it : Thinker ant here.ant = thinker ant here.ant can.stands in
    let holds : holds_id ant.id here ≡ true = ap (λ i. holds_id i here) it.same.same_id ∙ holds_id-own here it.before it.is in
    let made : ant.id < length bodies = subst (λ i. i < length bodies) (sym it.same.same_id) (kept.world.valid.known p it.before it.is) in
    let read = ant-read width height tiles bodies ant.id p (tile_of rock) kept.world holds in
    let stood : it.before ≡ ant_from ant.id body = let e : Some it.before ≡ Some (ant_from ant.id body) = sym it.is ∙ body-ant fields ant.id p body kept made item holds in cc in
    let place : body.place ≡ Some p = body-place fields ant.id body kept made item ∙ place_in-found (world_of (grid_of fields)) ant.id p kept.world.valid holds in
    let own : minded body ant ≡ body_at p ant = minded-own p body ant place (sym (ap (λ (a : Ant). a.colour) stood) ∙ sym it.same.same_colour) (sym (ap (λ (a : Ant). a.laden) stood) ∙ sym it.same.same_load) in
    let moved : Moved bodies new p (Some ant.id) (Some ant) = Moved-own bodies p ant (minded body ant) made own in
    let with : Option Ant → Cell = λ o. record (cell_from bodies tile) { ant = o } in
    let content : here ≡ cell_from bodies tile = cell_in-tile_at width height tiles bodies p (tile_of rock) kept.world can.inside in
    let reads : cell_from new tile ≡ record here { ant = Some ant } =
    ap with (ap (ant_named new) read.0 ∙ ant_named-came moved (Some ant) refl (λ a is. let same : ant ≡ a = cc in subst (λ (b : Ant). b.id < length bodies) same made))
    ∙ ap (λ (c : Cell). record c { ant = Some ant }) (sym content) in
    let changed : Changed width height tiles bodies p tile new (record here { ant = Some ant }) =
    stored-set width height tiles bodies kept.world (CanSet-mind (world_of (grid_of fields)) room p ant kept.world.valid can) moved tile kept.index read.1 reads in
    let same : set tiles (index_of width p) tile ≡ tiles = set-get_or tiles (index_of width p) (tile_of rock) in
    record {
      grid = ap (λ k. grid_from width height k new) (sym same) ∙ changed.grid;
      kept = record {
        world = subst (λ k. IsWorld (grid_from width height k new)) same changed.world;
        index = subst (λ k. IsIndex (grid_from width height k new) (stored_places new)) same changed.index;
      };
    }

-- what a change of a state, a rest and a direction comes to, of a world that the fields stand for
pub record MindPut (fields : Inside) (now : Grid) (p : Pos) (body : Body) (ant : Ant) : Type 0 where
  pub kept : IsWellStored (fields_minded fields body ant)
  pub made : world_of (grid_of (fields_minded fields body ant)) ≡ put (world_of now) p (record (cell_in now p) { ant = Some ant })

pub fields_minded-put : (fields : Inside) (now : Grid) (p : Pos) (body : Body) (ant : Ant) (room : ℕ) → grid_of fields ≡ now → IsWellStored fields → CanThink (world_of now) room p ant → body ≡ get_or fields.bodies.items ant.id body → MindPut fields now p body ant
fields_minded-put fields now p body ant room same kept can item =
    subst (λ (g : Grid). CanThink (world_of g) room p ant → MindPut fields g p body ant) same
    (λ may.
    let changed = fields_minded-changed fields p body ant room kept may item in
    record { kept = changed.kept; made = ap world_of changed.grid ∙ world_of-set (grid_of fields) p (record (cell_in (grid_of fields) p) { ant = Some ant }) kept.world.full may.inside })
    can
