-- Bodies that are being read, and the blocks that they become.
use Rattle.std.proofs.Common.{◌≡◌, ◌⊎◌, inl, inr, ℕ, zero, suc, ◌+◌, ◌<◌, ◌≤◌, Bool, true, false, ◌||◌, cond, List, [], ◌∷◌, ◌++◌, length, map, Option, Some, None, refl, sym, ap, ap₂, ◌∙◌, subst, arith, add-one}
use Rattle.std.proofs.lemmas.List.{length-map, length_push}
use Rattle.std.specs.Prelude.{unwrap_or, slice_get, slice_index_or, bytes_eq}
use Rattle.std.specs.List.{AllByRecursion, list_any}
use Rattle.std.proofs.lemmas.Option.{same_Some}
use Rattle.list_lemmas.proofs.Entries.{slice_get-front, slice_get-last}
use Rattle.brain_read.specs.Forms.{IsInRange}
use Rattle.ant_asm.specs.declared.action.Action.{Action}
use Rattle.ant_asm.specs.declared.action.Action.TheVariants.{Sense, Mark, Unmark, PickUp, Drop, Turn, Move, Flip}
use Rattle.ant_asm.specs.declared.action.Label.{Label}
use Rattle.ant_asm.specs.declared.action.Label.TheVariants.{Next, Place, Parameter}
use Rattle.ant_asm.specs.declared.body.Body.{Body}
use Rattle.ant_asm.specs.declared.body.Item as code_item
use Rattle.ant_asm.specs.declared.open.OpenBody.{OpenBody}
use Rattle.ant_asm.specs.declared.open.OpenItem.{OpenItem}
use Rattle.ant_asm.specs.declared.open.OpenKind.{OpenKind}
use Rattle.ant_asm.specs.declared.spelling.Source.{Source}
use Rattle.ant_asm.specs.Program.{Items, size_of}
use Rattle.ant_asm.specs.Program.Items.{End, Do, Use}
use Rattle.ant_asm.specs.LabelGame.{instruction_by}
use Rattle.ant_asm.specs.Names.{Named}
use Rattle.ant_asm.specs.Names.Named.{NextWord, Name}
use Rattle.ant_asm.specs.Standing.{Item, ItemLine, items_by, items_of, mapped, parameter_names, way_or_next, with_item, with_name}
use Rattle.ant_asm.specs.Inner.Emission.{offset}
use Rattle.ant_asm.specs.Inner.Flat.{AreGood, IsGood, IsGoodAction, IsGoodItem, IsGoodLabel, most, tree_at, tree_of, trees_from, trees_of}
use Rattle.ant_asm.specs.Inner.Ranged.{AreRanged}
use Rattle.ant_asm.specs.Inner.Reading.{seen}
use Rattle.ant_asm.specs.Inner.ReadLine.{labels_seen}
use Rattle.ant_asm.specs.Inner.Scopes.{known_as}
use Rattle.ant_asm.specs.Inner.View.{AreGoodItems, Flat, IsClosedAs, IsGoodKind, IsGoodOpen, IsNew, flat_kind, flat_of, flat_resolved, kind_seen, open_items, open_seen, parameters_in, start_of}
use Rattle.ant_asm.specs.Inner.View.Flat.{Acts, Puts}
use Rattle.ant_asm.proofs.FlatLemmas.{get_or-front, get_or-last}

-- one more item at the end
pub good-append : (bodies : List Body) (before : ℕ) (items : List OpenItem) (all size : ℕ) (item : OpenItem) → AreGoodItems bodies before items all → IsGoodKind bodies size item.kind → item.start ≡ all →
    AreGoodItems bodies before (items ++ item ∷ []) (all + size)
good-append bodies before [] all size item good kind start = (size, kind, start ∙ sym good, ap (λ (n : ℕ). n + size) good)
good-append bodies before (first ∷ items) all size item good kind start =
    (good.0, good.1, good.2, good-append bodies (before + good.0) items all size item good.3 kind start)

pub length-open : (trees : List Items) (items : List OpenItem) → length (open_items trees items) ≡ length items
length-open trees [] = refl
length-open trees (item ∷ items) = ap suc (length-open trees items)

-- a good label stays good if items are added
pub label-more : (parameters n m : ℕ) (label : Label) → n ≤ m → IsGoodLabel parameters n label → IsGoodLabel parameters m label
label-more parameters n m Next more good = tt
label-more parameters n m (Place j) more good = omega (arith, good, more)
label-more parameters n m (Parameter i) more good = good

-- each item expands to at least one instruction
kind-some : (bodies : List Body) (size : ℕ) (kind : OpenKind) → IsGoodKind bodies size kind → 1 ≤ size
kind-some bodies size (OpenKind.Do action) good = let one : size ≡ 1 = good.1 in omega arith
kind-some bodies size (OpenKind.Use block handed) good = good.3

pub items-size : (bodies : List Body) (before : ℕ) (items : List OpenItem) (all : ℕ) → AreGoodItems bodies before items all → before + length items ≤ all
items-size bodies before [] all good = let same : before ≡ all = good in omega arith
items-size bodies before (item ∷ items) all good =
    let one : 1 ≤ good.0 = kind-some bodies good.0 item.kind good.1 in
    let later : before + good.0 + length items ≤ all = items-size bodies (before + good.0) items all good.3 in
    omega arith

-- items as trees, by what they are
abbrev tree_one : List Items → Flat → Items → Items
tree_one trees (Acts action) others = Do action others
tree_one trees (Puts block handed) others = Use handed (slice_index_or trees block End) others

abbrev tree_by : List Items → List Flat → Items
tree_by trees [] = End
tree_by trees (flat ∷ flats) = tree_one trees flat (tree_by trees flats)

tree_of-flat : (trees : List Items) (items : List code_item.Item) → tree_of trees items ≡ tree_by trees (map flat_of items)
tree_of-flat trees [] = refl
tree_of-flat trees (code_item.Item.Do action ∷ items) = ap (λ (i : Items). Do action i) (tree_of-flat trees items)
tree_of-flat trees (code_item.Item.Use block handed ∷ items) = ap (λ (i : Items). Use handed.items (slice_index_or trees block End) i) (tree_of-flat trees items)

mapped-both : {A B C : Type 0} (f : A → B) (g : B → C) (action : Action A) → mapped (λ x. g (f x)) action ≡ mapped g (mapped f action)
mapped-both f g (Sense sight met unmet condition) = refl
mapped-both f g it = refl

map-both : {A B C : Type 0} (f : A → B) (g : B → C) (list : List A) → map (λ x. g (f x)) list ≡ map g (map f list)
map-both f g [] = refl
map-both f g (x ∷ list) = ap (λ (l : List _). g (f x) ∷ l) (map-both f g list)

one-flat : (way : Named → Label) (trees : List Items) (kind : OpenKind) (others : Items) → tree_one trees (flat_kind way kind) others ≡ with_item way (kind_seen trees kind) others
one-flat way trees (OpenKind.Do action) others = ap (λ (a : Action Label). Do a others) (mapped-both seen way action)
one-flat way trees (OpenKind.Use block handed) others = ap (λ (l : List Label). Use l (slice_index_or trees block End) others) (map-both seen way handed.items)

items_by-flat : (way : Named → Label) (trees : List Items) (items : List OpenItem) → tree_by trees (map (flat_resolved way) items) ≡ items_by way (open_items trees items)
items_by-flat way trees [] = refl
items_by-flat way trees (item ∷ items) = ap (tree_one trees (flat_resolved way item)) (items_by-flat way trees items) ∙ one-flat way trees item.kind (items_by way (open_items trees items))

-- good items, by what they are
abbrev IsGoodFlat : List Body → ℕ → ℕ → ℕ → Flat → Type 0
IsGoodFlat bodies number parameters count (Acts action) = IsGoodAction parameters count action
IsGoodFlat bodies number parameters count (Puts block handed) =
    (block < number) × AllByRecursion (IsGoodLabel parameters count) handed × ((body : Body) → slice_get bodies block ≡ Some body → length handed ≡ body.parameters)

good-item : (bodies : List Body) (number parameters count : ℕ) (item : code_item.Item) → IsGoodFlat bodies number parameters count (flat_of item) → IsGoodItem bodies number parameters count item
good-item bodies number parameters count (code_item.Item.Do action) good = good
good-item bodies number parameters count (code_item.Item.Use block handed) good = good

good-items : (bodies : List Body) (number parameters count : ℕ) (items : List code_item.Item) → AllByRecursion (IsGoodFlat bodies number parameters count) (map flat_of items) → AllByRecursion (IsGoodItem bodies number parameters count) items
good-items bodies number parameters count [] good = tt
good-items bodies number parameters count (item ∷ items) good = (good-item bodies number parameters count item good.0, good-items bodies number parameters count items good.1)

action-good : {A : Type 0} (parameters count : ℕ) (f : A → Label) (each : (x : A) → IsGoodLabel parameters count (f x)) (action : Action A) → IsGoodAction parameters count (mapped f action)
action-good parameters count f each (Sense sight met unmet condition) = (each met, each unmet)
action-good parameters count f each (Mark i on) = each on
action-good parameters count f each (Unmark i on) = each on
action-good parameters count f each (PickUp met unmet) = (each met, each unmet)
action-good parameters count f each (Drop on) = each on
action-good parameters count f each (Turn side on) = each on
action-good parameters count f each (Move met unmet) = (each met, each unmet)
action-good parameters count f each (Flip bound met unmet) = (each met, each unmet)

labels-good : {A : Type 0} (parameters count : ℕ) (f : A → Label) (each : (x : A) → IsGoodLabel parameters count (f x)) (list : List A) → AllByRecursion (IsGoodLabel parameters count) (map f list)
labels-good parameters count f each [] = tt
labels-good parameters count f each (x ∷ list) = (each x, labels-good parameters count f each list)

module _ (bodies more : List Body) (parameters count : ℕ) (way : Named → Label) (each : (label : Named) → IsGoodLabel parameters count (way label)) where
  kind-good : (size : ℕ) (kind : OpenKind) → IsGoodKind bodies size kind → IsGoodFlat (bodies ++ more) (length bodies) parameters count (flat_kind way kind)
  kind-good size (OpenKind.Do action) good = action-good parameters count (λ label. way (seen label)) (λ label. each (seen label)) action
  kind-good size (OpenKind.Use block handed) good = (
    good.0,
    labels-good parameters count (λ label. way (seen label)) (λ label. each (seen label)) handed.items,
    λ body at. length-map handed.items (λ label. way (seen label)) ∙ good.1 ∙ ap parameters_in (sym (slice_get-front bodies more block good.0) ∙ at),
  )

  resolved-good : (before : ℕ) (items : List OpenItem) (all : ℕ) → AreGoodItems bodies before items all → AllByRecursion (IsGoodFlat (bodies ++ more) (length bodies) parameters count) (map (flat_resolved way) items)
  resolved-good before [] all good = tt
  resolved-good before (item ∷ items) all good = (kind-good good.0 item.kind good.1, resolved-good (before + good.0) items all good.3)

-- where the items of a body start
module _ (bodies : List Body) (way : Named → Label) where
  one-size : (size : ℕ) (kind : OpenKind) (others : Items) → IsGoodKind bodies size kind → size_of (tree_one (trees_of bodies) (flat_kind way kind) others) ≡ size + size_of others
  one-size size (OpenKind.Do action) others good = let one : size ≡ 1 = good.1 in omega arith
  one-size size (OpenKind.Use block handed) others good = ap (λ (n : ℕ). n + size_of others) (sym good.2)

  one-offset : (size k : ℕ) (kind : OpenKind) (others : Items) → IsGoodKind bodies size kind → offset (suc k) (tree_one (trees_of bodies) (flat_kind way kind) others) ≡ size + offset k others
  one-offset size k (OpenKind.Do action) others good = let one : size ≡ 1 = good.1 in omega arith
  one-offset size k (OpenKind.Use block handed) others good = ap (λ (n : ℕ). n + offset k others) (sym good.2)

  tree-size : (before : ℕ) (items : List OpenItem) (all : ℕ) → AreGoodItems bodies before items all → before + size_of (tree_by (trees_of bodies) (map (flat_resolved way) items)) ≡ all
  tree-size before [] all good = let same : before ≡ all = good in omega arith
  tree-size before (item ∷ items) all good =
      let here = one-size good.0 item.kind (tree_by (trees_of bodies) (map (flat_resolved way) items)) good.1 in
      let later = tree-size (before + good.0) items all good.3 in
      omega (arith, here, later)

  tree-starts : (before : ℕ) (items : List OpenItem) (all k : ℕ) → AreGoodItems bodies before items all → k ≤ length items →
      slice_get (map start_of items ++ all ∷ []) k ≡ Some (before + offset k (tree_by (trees_of bodies) (map (flat_resolved way) items)))
  tree-starts before [] all zero good inside = ap Some (let same : before ≡ all = good in let e : all ≡ before + 0 = omega arith in e)
  tree-starts before [] all (suc k) good inside = absurd (omega (arith, inside))
  tree-starts before (item ∷ items) all zero good inside = ap Some (good.2 ∙ (let e : before ≡ before + 0 = omega arith in e))
  tree-starts before (item ∷ items) all (suc k) good inside =
      let here = one-offset good.0 k item.kind (tree_by (trees_of bodies) (map (flat_resolved way) items)) good.1 in
      tree-starts (before + good.0) items all k good.3 (omega (arith, inside)) ∙ ap Some (omega (arith, here))

-- markers and bounds in their ranges
range-mapped : {A B C : Type 0} (f : A → B) (g : A → C) (action : Action A) → IsInRange (instruction_by (λ x. 0) (mapped f action)) → IsInRange (instruction_by (λ x. 0) (mapped g action))
range-mapped f g (Sense sight met unmet condition) range = range
range-mapped f g (Mark i on) range = range
range-mapped f g (Unmark i on) range = range
range-mapped f g (Flip bound met unmet) range = range
range-mapped f g action range = tt

module _ (bodies : List Body) (way : Named → Label) (blocks : (n : ℕ) → n < length bodies → AreRanged (tree_at bodies n)) where
  one-ranged : (size : ℕ) (kind : OpenKind) (others : Items) → IsGoodKind bodies size kind → AreRanged others → AreRanged (tree_one (trees_of bodies) (flat_kind way kind) others)
  one-ranged size (OpenKind.Do action) others good later = (range-mapped seen (λ label. way (seen label)) action good.0, later)
  one-ranged size (OpenKind.Use block handed) others good later = (blocks block good.0, later)

  tree-ranged : (before : ℕ) (items : List OpenItem) (all : ℕ) → AreGoodItems bodies before items all → AreRanged (tree_by (trees_of bodies) (map (flat_resolved way) items))
  tree-ranged before [] all good = tt
  tree-ranged before (item ∷ items) all good = one-ranged good.0 item.kind (tree_by (trees_of bodies) (map (flat_resolved way) items)) good.1 (tree-ranged (before + good.0) items all good.3)

-- one body more
trees_from-push : (trees : List Items) (bodies : List Body) (body : Body) → trees_from trees (bodies ++ body ∷ []) ≡ trees_from trees bodies ++ tree_of (trees_from trees bodies) body.items.items ∷ []
trees_from-push trees [] body = refl
trees_from-push trees (first ∷ bodies) body = trees_from-push (trees ++ tree_of trees first.items.items ∷ []) bodies body

trees_from-length : (trees : List Items) (bodies : List Body) → length (trees_from trees bodies) ≡ length trees + length bodies
trees_from-length trees [] = let e : length trees ≡ length trees + 0 = omega arith in e
trees_from-length trees (body ∷ bodies) =
    let more = length_push trees (tree_of trees body.items.items) in
    trees_from-length (trees ++ tree_of trees body.items.items ∷ []) bodies ∙ (let e : length (trees ++ tree_of trees body.items.items ∷ []) + length bodies ≡ length trees + suc (length bodies) = omega (arith, more) in e)

pub trees_of-length : (bodies : List Body) → length (trees_of bodies) ≡ length bodies
trees_of-length bodies = trees_from-length [] bodies ∙ (let e : 0 + length bodies ≡ length bodies = omega arith in e)

module _ (bodies : List Body) (body : Body) where
  pub tree_at-before : (n : ℕ) → n < length bodies → tree_at (bodies ++ body ∷ []) n ≡ tree_at bodies n
  tree_at-before n inside =
      ap (λ (trees : List Items). slice_index_or trees n End) (trees_from-push [] bodies body)
      ∙ get_or-front (trees_of bodies) (tree_of (trees_of bodies) body.items.items ∷ []) n (let all = trees_of-length bodies in omega (arith, inside, all))

  pub tree_at-last : tree_at (bodies ++ body ∷ []) (length bodies) ≡ tree_of (trees_of bodies) body.items.items
  tree_at-last =
      ap (λ (trees : List Items). slice_index_or trees (length bodies) End) (trees_from-push [] bodies body)
      ∙ ap (λ (n : ℕ). slice_index_or (trees_of bodies ++ tree_of (trees_of bodies) body.items.items ∷ []) n End) (sym (trees_of-length bodies))
      ∙ get_or-last (trees_of bodies) (tree_of (trees_of bodies) body.items.items)

  item-push : (number parameters count : ℕ) (item : code_item.Item) → number ≤ length bodies → IsGoodItem bodies number parameters count item → IsGoodItem (bodies ++ body ∷ []) number parameters count item
  item-push number parameters count (code_item.Item.Do action) early good = good
  item-push number parameters count (code_item.Item.Use block handed) early good = (good.0, good.1, λ other at. good.2 other (sym (slice_get-front bodies (body ∷ []) block (let below = good.0 in omega (arith, below, early))) ∙ at))

  items-push : (number parameters count : ℕ) (items : List code_item.Item) → number ≤ length bodies → AllByRecursion (IsGoodItem bodies number parameters count) items → AllByRecursion (IsGoodItem (bodies ++ body ∷ []) number parameters count) items
  items-push number parameters count [] early good = tt
  items-push number parameters count (item ∷ items) early good = (item-push number parameters count item early good.0, items-push number parameters count items early good.1)

  good-push : (number : ℕ) (other : Body) → number < length bodies → IsGood bodies number other → IsGood (bodies ++ body ∷ []) number other
  good-push number other inside good = record {
    items = items-push number other.parameters (length other.items.items) other.items.items (omega (arith, inside)) good.items;
    starts = λ k early. good.starts k early ∙ ap (λ (t : Items). Some (offset k t)) (sym (tree_at-before number inside));
    counted = good.counted;
    short = good.short;
    few = subst (λ (t : Items). size_of t ≤ most) (sym (tree_at-before number inside)) good.few;
  }

  -- a number is that of a body before, or of the last
  before-or-last : (number : ℕ) (other : Body) → slice_get (bodies ++ body ∷ []) number ≡ Some other → (number < length bodies) ⊎ (number ≡ length bodies)
  before-or-last number other at = go bodies number at
    where
      go : (list : List Body) (n : ℕ) → slice_get (list ++ body ∷ []) n ≡ Some other → (n < length list) ⊎ (n ≡ length list)
      go [] zero e = inr refl
      go [] (suc n) e = (let never : None ≡ Some other = e in absurd (cc))
      go (first ∷ list) zero e = inl (omega arith)
      go (first ∷ list) (suc n) e = elim (go list n e) [
        | inl inside ↦ inl (omega (arith, inside))
        | inr same ↦ inr (ap suc same)
      ]

  pub AreGood-push : AreGood bodies → IsGood (bodies ++ body ∷ []) (length bodies) body → AreGood (bodies ++ body ∷ [])
  AreGood-push good last = record {
    each = λ number other at. elim (before-or-last number other at) [
      | inl inside ↦ good-push number other inside (good.each number other (sym (slice_get-front bodies (body ∷ []) number inside) ∙ at))
      | inr same ↦
          let is : body ≡ other = same_Some body other (sym (slice_get-last bodies body) ∙ ap (slice_get (bodies ++ body ∷ [])) (sym same) ∙ at) in
          subst (λ (n : ℕ). IsGood (bodies ++ body ∷ []) n other) (sym same) (subst (IsGood (bodies ++ body ∷ []) (length bodies)) is last)
    ];
  }

  -- a body that is being read stays good
  kind-push : (size : ℕ) (kind : OpenKind) → IsGoodKind bodies size kind → IsGoodKind (bodies ++ body ∷ []) size kind
  kind-push size (OpenKind.Do action) good = good
  kind-push size (OpenKind.Use block handed) good = (
    let below = good.0 in let more = length_push bodies body in omega (arith, below, more),
    good.1 ∙ ap parameters_in (sym (slice_get-front bodies (body ∷ []) block good.0)),
    good.2 ∙ ap size_of (sym (tree_at-before block good.0)),
    good.3,
  )

  open_items-push : (before : ℕ) (items : List OpenItem) (all : ℕ) → AreGoodItems bodies before items all → AreGoodItems (bodies ++ body ∷ []) before items all
  open_items-push before [] all good = good
  open_items-push before (item ∷ items) all good = (good.0, kind-push good.0 item.kind good.1, good.2, open_items-push (before + good.0) items all good.3)

  pub open-push : (draft : OpenBody) → IsGoodOpen bodies draft → IsGoodOpen (bodies ++ body ∷ []) draft
  open-push draft good = record { items = open_items-push 0 draft.items.items draft.size good.items; names = good.names; few = good.few }

  -- and is seen as before
  kind_seen-push : (size : ℕ) (kind : OpenKind) → IsGoodKind bodies size kind → kind_seen (trees_of (bodies ++ body ∷ [])) kind ≡ kind_seen (trees_of bodies) kind
  kind_seen-push size (OpenKind.Do action) good = refl
  kind_seen-push size (OpenKind.Use block handed) good = ap (λ (t : Items). Item.Call (labels_seen handed.items) t) (tree_at-before block good.0)

  open_items-seen : (before : ℕ) (items : List OpenItem) (all : ℕ) → AreGoodItems bodies before items all → open_items (trees_of (bodies ++ body ∷ [])) items ≡ open_items (trees_of bodies) items
  open_items-seen before [] all good = refl
  open_items-seen before (item ∷ items) all good =
      ap₂ (λ (i : Item) (l : List ItemLine). record { line = item.line; item = i } ∷ l) (kind_seen-push good.0 item.kind good.1) (open_items-seen (before + good.0) items all good.3)

  pub open_seen-push : (draft : OpenBody) → IsGoodOpen bodies draft → open_seen (trees_of (bodies ++ body ∷ [])) draft ≡ open_seen (trees_of bodies) draft
  open_seen-push draft good =
      ap (λ (l : List ItemLine). record (open_seen (trees_of bodies) draft) { items = l }) (open_items-seen 0 draft.items.items draft.size good.items)

-- the meaning of a label of a body is good
way-good : (draft : OpenBody) → ((name : List ℕ) (label : Label) → known_as draft.names.entries name ≡ Some label → IsGoodLabel draft.parameters (length draft.items.items) label) → (label : Named) →
    IsGoodLabel draft.parameters (length draft.items.items) (way_or_next (known_as draft.names.entries) label)
way-good draft names NextWord = tt
way-good draft names (Name name) = go (known_as draft.names.entries name) refl
  where
    go : (o : Option Label) → known_as draft.names.entries name ≡ o → IsGoodLabel draft.parameters (length draft.items.items) (unwrap_or o Next)
    go None is = tt
    go (Some label) is = names name label is

-- a body that was read becomes a block
module _ (bodies : List Body) (draft : OpenBody) (body : Body) (good : IsGoodOpen bodies draft) (closed : IsClosedAs draft body) where
  abbrev way : Named → Label
  way = way_or_next (known_as draft.names.entries)

  closed-length : length body.items.items ≡ length draft.items.items
  closed-length = sym (length-map body.items.items flat_of) ∙ ap length closed.items ∙ length-map draft.items.items (flat_resolved way)

  closed-flat : tree_of (trees_of bodies) body.items.items ≡ tree_by (trees_of bodies) (map (flat_resolved way) draft.items.items)
  closed-flat = tree_of-flat (trees_of bodies) body.items.items ∙ ap (tree_by (trees_of bodies)) closed.items

  -- its items are those that it is seen to have
  pub closed-tree : tree_at (bodies ++ body ∷ []) (length bodies) ≡ items_of (open_seen (trees_of bodies) draft)
  closed-tree = tree_at-last bodies body ∙ closed-flat ∙ items_by-flat way (trees_of bodies) draft.items.items

  closed-place : tree_at (bodies ++ body ∷ []) (length bodies) ≡ tree_by (trees_of bodies) (map (flat_resolved way) draft.items.items)
  closed-place = tree_at-last bodies body ∙ closed-flat

  pub closed-size : size_of (tree_at (bodies ++ body ∷ []) (length bodies)) ≡ draft.size
  closed-size = ap size_of closed-place ∙ (let e = tree-size bodies way 0 draft.items.items draft.size good.items in omega (arith, e))

  pub closed-some : 1 ≤ length draft.items.items → 1 ≤ size_of (tree_at (bodies ++ body ∷ []) (length bodies))
  closed-some some = let all = closed-size in let low = items-size bodies 0 draft.items.items draft.size good.items in omega (arith, all, low, some)

  pub closed-ranged : ((n : ℕ) → n < length bodies → AreRanged (tree_at bodies n)) → AreRanged (tree_at (bodies ++ body ∷ []) (length bodies))
  closed-ranged blocks = subst AreRanged (sym closed-place) (tree-ranged bodies way blocks 0 draft.items.items draft.size good.items)

  pub closed-good : IsGood (bodies ++ body ∷ []) (length bodies) body
  closed-good = record {
    items = good-items (bodies ++ body ∷ []) (length bodies) body.parameters (length body.items.items) body.items.items
        (subst (AllByRecursion (IsGoodFlat (bodies ++ body ∷ []) (length bodies) body.parameters (length body.items.items))) (sym closed.items)
        (resolved-good bodies (body ∷ []) body.parameters (length body.items.items) way
        (λ label. subst (λ (n : ℕ). IsGoodLabel body.parameters n (way label)) (sym closed-length) (subst (λ (p : ℕ). IsGoodLabel p (length draft.items.items) (way label)) (sym closed.parameters) (way-good draft good.names label)))
        0 draft.items.items draft.size good.items));
    starts = λ k inside.
        ap (λ (l : List ℕ). slice_get l k) closed.starts
        ∙ tree-starts bodies way 0 draft.items.items draft.size k good.items (subst (λ (n : ℕ). k ≤ n) closed-length inside)
        ∙ ap Some (let e : 0 + offset k (tree_by (trees_of bodies) (map (flat_resolved way) draft.items.items)) ≡ offset k (tree_by (trees_of bodies) (map (flat_resolved way) draft.items.items)) = omega arith in e)
        ∙ ap (λ (t : Items). Some (offset k t)) (sym closed-place);
    counted = ap length closed.starts ∙ length_push (map start_of draft.items.items) draft.size ∙ add-one (length (map start_of draft.items.items)) ∙ ap suc (length-map draft.items.items start_of ∙ sym closed-length);
    short = (let few = good.few in let low = items-size bodies 0 draft.items.items draft.size good.items in let same = closed-length in omega (arith, few, low, same));
    few = (let few = good.few in let all = closed-size in omega (arith, few, all));
  }

-- a body that is being read is short
pub open-short : (bodies : List Body) (draft : OpenBody) → IsGoodOpen bodies draft → length draft.items.items ≤ most
open-short bodies draft good = let low = items-size bodies 0 draft.items.items draft.size good.items in let few = good.few in omega (arith, low, few)

-- a body stays good if it gets one more name
pub names-mark : (draft : OpenBody) (known : List ℕ → Option Label) (name : List ℕ) (place : ℕ) → known ≡ with_name name (Place place) (known_as draft.names.entries) → place ≡ length draft.items.items →
    ((other : List ℕ) (label : Label) → known_as draft.names.entries other ≡ Some label → IsGoodLabel draft.parameters (length draft.items.items) label) →
    (other : List ℕ) (label : Label) → known other ≡ Some label → IsGoodLabel draft.parameters (length draft.items.items) label
names-mark draft known name place same here names other label is = go (bytes_eq name other) (ap (λ (k : List ℕ → Option Label). k other) (sym same) ∙ is)
  where
    go : (b : Bool) → cond b (Some (Place place)) (known_as draft.names.entries other) ≡ Some label → IsGoodLabel draft.parameters (length draft.items.items) label
    go true q = let e : Place place ≡ label = (let s : Some (Place place) ≡ Some label = q in cc) in subst (IsGoodLabel draft.parameters (length draft.items.items)) e (let i : place ≤ length draft.items.items = omega (arith, here) in i)
    go false q = names other label q

-- whether one of some labels has no meaning
pub any_seen : (f : Named → Bool) (labels : List Source) → list_any f (labels_seen labels) ≡ list_any (λ (label : Source). f (seen label)) labels
any_seen f [] = refl
any_seen f (label ∷ labels) = ap (λ (b : Bool). f (seen label) || b) (any_seen f labels)

-- the meanings of parameters are good
parameters-good : (i : ℕ) (parameters : List (List ℕ)) (all count : ℕ) (name : List ℕ) (label : Label) → i + length parameters ≡ all → parameter_names i parameters name ≡ Some label → IsGoodLabel all count label
parameters-good i [] all count name label same is = (let never : None ≡ Some label = is in absurd (cc))
parameters-good i (parameter ∷ parameters) all count name label same is =
    go (bytes_eq parameter name) (parameters-good (suc i) parameters all count name label (let e : suc i + length parameters ≡ all = omega (arith, same) in e)) is
  where
    go : (b : Bool) → (parameter_names (suc i) parameters name ≡ Some label → IsGoodLabel all count label) → cond b (Some (Parameter i)) (parameter_names (suc i) parameters name) ≡ Some label → IsGoodLabel all count label
    go true later q = let e : Parameter i ≡ label = (let s : Some (Parameter i) ≡ Some label = q in cc) in subst (IsGoodLabel all count) e (let inside : i < all = omega (arith, same) in inside)
    go false later q = later q

-- a new body is good
pub new-good : (bodies : List Body) (parameters : List (List ℕ)) (draft : OpenBody) → IsNew parameters draft → IsGoodOpen bodies draft
new-good bodies parameters draft new = record {
  items = subst (λ (l : List OpenItem). AreGoodItems bodies 0 l draft.size) (sym new.items) (sym new.size);
  names = λ name label known.
      parameters-good 0 parameters draft.parameters (length draft.items.items) name label (let all = new.parameters in omega (arith, all)) (ap (λ (k : List ℕ → Option Label). k name) (sym new.names) ∙ known);
  few = (let none = new.size in omega (arith, none));
}
