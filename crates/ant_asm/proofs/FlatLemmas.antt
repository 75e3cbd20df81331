-- Bodies and their items.
use Rattle.std.proofs.Common.{◌≡◌, ℕ, zero, suc, ◌+◌, ◌<◌, ◌≤◌, List, [], ◌∷◌, ◌++◌, length, Some, refl, sym, ap, ap₂, ◌∙◌, subst, arith}
use Rattle.std.proofs.lemmas.List.{length_push}
use Rattle.std.specs.Prelude.{slice_get, slice_index_or, ◌==◌, Vec}
use Rattle.std.specs.List.{AllByRecursion}
use Rattle.std.proofs.lemmas.Bool.{cond-true, cond-false, eqb-true, eq-eqb, false_from_ne_true}
use Rattle.std.proofs.lemmas.Option.{get_or_from_slice_get, same_Some}
use Rattle.std.specs.declared.alloc.Global.{Global}
use Rattle.ant_asm.specs.declared.body.Body.{Body}
use Rattle.ant_asm.specs.declared.body.Item.{Item}
use Rattle.ant_asm.specs.declared.expand.Frame.{Frame}
use Rattle.ant_asm.specs.declared.action.Label.TheVariants.{Parameter}
use Rattle.ant_asm.specs.Program.{Items, from_place, size_of}
use Rattle.ant_asm.specs.Program.Items.{End, Do, Use}
use Rattle.ant_asm.specs.declared.action.Label.{Label}
use Rattle.ant_asm.specs.Inner.Emission.{Numbers, number_first, offset}
use Rattle.ant_asm.specs.Inner.Flat.{AreGood, HasGiven, IsGood, IsGoodItem, IsLabelOf, IsPlace, most, tree_at, tree_of, trees_from, trees_of}

-- what precedes a place, and what is there from the place on, are all
pub offset-rest : (k : ℕ) (items : Items) → offset k items + size_of (from_place k items) ≡ size_of items
offset-rest (suc k) (Do action others) = let e : offset k others + size_of (from_place k others) ≡ size_of others = offset-rest k others in omega arith
offset-rest (suc k) (Use handed block others) = let e : offset k others + size_of (from_place k others) ≡ size_of others = offset-rest k others in omega arith
offset-rest it items = omega arith

-- how many items there are
abbrev pub count_of : Items → ℕ
count_of End = 0
count_of (Do action others) = suc (count_of others)
count_of (Use handed block others) = suc (count_of others)

pub offset-all : (items : Items) → offset (count_of items) items ≡ size_of items
offset-all End = refl
offset-all (Do action others) = ap suc (offset-all others)
offset-all (Use handed block others) = ap (λ (n : ℕ). size_of block + n) (offset-all others)

pub count_of-tree : (trees : List Items) (items : List Item) → count_of (tree_of trees items) ≡ length items
count_of-tree trees [] = refl
count_of-tree trees (Item.Do action ∷ items) = ap suc (count_of-tree trees items)
count_of-tree trees (Item.Use block handed ∷ items) = ap suc (count_of-tree trees items)

-- the number of a place by its start, and by the start of the end
pub number_first-after : (items : Items) (numbers : Numbers) (k start last : ℕ) → start ≡ offset k items → last ≡ size_of items → start ≡ last → number_first items numbers k ≡ numbers.after
number_first-after items numbers k start last is all same =
    let e : offset k items + size_of (from_place k items) ≡ size_of items = offset-rest k items in
    let none : size_of (from_place k items) ≡ 0 = omega arith in
    cond-true (size_of (from_place k items) == 0) numbers.after (numbers.base + offset k items) (eq-eqb (size_of (from_place k items)) 0 none)

pub number_first-inside : (items : Items) (numbers : Numbers) (k start last : ℕ) → start ≡ offset k items → last ≡ size_of items → (start ≡ last → ⊥) → number_first items numbers k ≡ numbers.base + start
number_first-inside items numbers k start last is all apart =
    let e : offset k items + size_of (from_place k items) ≡ size_of items = offset-rest k items in
    cond-false (size_of (from_place k items) == 0) numbers.after (numbers.base + offset k items) (false_from_ne_true (size_of (from_place k items) == 0)
    (λ none. let z : size_of (from_place k items) ≡ 0 = eqb-true (size_of (from_place k items)) 0 none in apart (omega arith)))
    ∙ ap (λ (n : ℕ). numbers.base + n) (sym is)

-- an element that was read
pub read_at : {A : Type 0} (list : List A) (i : ℕ) (x : A) → i < length list → x ≡ slice_index_or list i x → slice_get list i ≡ Some x
read_at [] i x inside is = absurd (omega arith)
read_at (y ∷ list) zero x inside is = ap Some (sym is)
read_at (y ∷ list) (suc i) x inside is = read_at list i x (omega arith) is

-- an element before others
pub get_or-front : (list others : List Items) (i : ℕ) → i < length list → slice_index_or (list ++ others) i End ≡ slice_index_or list i End
get_or-front [] others i inside = absurd (omega arith)
get_or-front (tree ∷ list) others zero inside = refl
get_or-front (tree ∷ list) others (suc i) inside = get_or-front list others i (omega arith)

pub get_or-last : (list : List Items) (tree : Items) → slice_index_or (list ++ tree ∷ []) (length list) End ≡ tree
get_or-last [] tree = refl
get_or-last (other ∷ list) tree = get_or-last list tree

-- further bodies change no tree
trees_from-keeps : (trees : List Items) (bodies : List Body) (i : ℕ) → i < length trees → slice_index_or (trees_from trees bodies) i End ≡ slice_index_or trees i End
trees_from-keeps trees [] i inside = refl
trees_from-keeps trees (body ∷ bodies) i inside =
    let tree : Items = tree_of trees body.items.items in
    let more : length (trees ++ tree ∷ []) ≡ suc (length trees) = omega (arith, length_push trees tree) in
    trees_from-keeps (trees ++ tree ∷ []) bodies i (omega arith) ∙ get_or-front trees (tree ∷ []) i inside

-- the uses of some items are of blocks below a number
abbrev pub UsesBelow : ℕ → List Item → Type 0
UsesBelow n [] = Unit {0}
UsesBelow n (Item.Do action ∷ items) = UsesBelow n items
UsesBelow n (Item.Use block handed ∷ items) = (block < n) × UsesBelow n items

UsesBelow-good : (bodies : List Body) (number parameters count : ℕ) (items : List Item) → AllByRecursion (IsGoodItem bodies number parameters count) items → UsesBelow number items
UsesBelow-good bodies number parameters count [] good = tt
UsesBelow-good bodies number parameters count (Item.Do action ∷ items) good = UsesBelow-good bodies number parameters count items good.1
UsesBelow-good bodies number parameters count (Item.Use block handed ∷ items) good = (good.0.0, UsesBelow-good bodies number parameters count items good.1)

pub tree_of-agree : (trees others : List Items) (n : ℕ) (items : List Item) → UsesBelow n items → ((b : ℕ) → b < n → slice_index_or trees b End ≡ slice_index_or others b End) → tree_of trees items ≡ tree_of others items
tree_of-agree trees others n [] below agree = refl
tree_of-agree trees others n (Item.Do action ∷ items) below agree = ap (λ (i : Items). Do action i) (tree_of-agree trees others n items below agree)
tree_of-agree trees others n (Item.Use block handed ∷ items) below agree =
    ap₂ (λ (b i : Items). Use handed.items b i) (agree block below.0) (tree_of-agree trees others n items below.1 agree)

-- the tree of each body
trees_from-at : (trees : List Items) (bodies : List Body) (i : ℕ) (body : Body) → slice_get bodies i ≡ Some body → UsesBelow (length trees + i) body.items.items →
    slice_index_or (trees_from trees bodies) (length trees + i) End ≡ tree_of (trees_from trees bodies) body.items.items
trees_from-at trees [] i body at below = absurd (cc)
trees_from-at trees (other ∷ bodies) zero body at below =
    let same : other ≡ body = cc in
    let tree : Items = tree_of trees other.items.items in
    let more : length (trees ++ tree ∷ []) ≡ suc (length trees) = omega (arith, length_push trees tree) in
    let here : length trees + 0 ≡ length trees = omega arith in
    ap (λ (n : ℕ). slice_index_or (trees_from (trees ++ tree ∷ []) bodies) n End) here
    ∙ trees_from-keeps (trees ++ tree ∷ []) bodies (length trees) (omega arith)
    ∙ get_or-last trees tree
    ∙ ap (λ (b : Body). tree_of trees b.items.items) same
    ∙ tree_of-agree trees (trees_from (trees ++ tree ∷ []) bodies) (length trees) body.items.items (subst (λ (n : ℕ). UsesBelow n body.items.items) here below)
    (λ b early. sym (trees_from-keeps (trees ++ tree ∷ []) bodies b (omega arith) ∙ get_or-front trees (tree ∷ []) b early))
trees_from-at trees (other ∷ bodies) (suc i) body at below =
    let tree : Items = tree_of trees other.items.items in
    let more : length (trees ++ tree ∷ []) ≡ suc (length trees) = omega (arith, length_push trees tree) in
    let shift : length (trees ++ tree ∷ []) + i ≡ length trees + suc i = omega arith in
    subst (λ (n : ℕ). slice_index_or (trees_from (trees ++ tree ∷ []) bodies) n End ≡ tree_of (trees_from (trees ++ tree ∷ []) bodies) body.items.items) shift
    (trees_from-at (trees ++ tree ∷ []) bodies i body at (subst (λ (n : ℕ). UsesBelow n body.items.items) (sym shift) below))

module _ (bodies : List Body) (number : ℕ) (body : Body) (good : AreGood bodies) (known : number < length bodies) (is : body ≡ slice_index_or bodies number body) where
  pub good_body : IsGood bodies number body
  good_body = good.each number body (read_at bodies number body known is)

  pub place_of : (k : ℕ) → IsPlace bodies number k → k ≤ length body.items.items
  place_of k place = place body (read_at bodies number body known is)

  pub start_at : (k start : ℕ) → k ≤ length body.items.items → start ≡ slice_index_or body.starts.items k start → start ≡ offset k (tree_at bodies number)
  start_at k start inside at = at ∙ get_or_from_slice_get body.starts.items k (offset k (tree_at bodies number)) start (good_body.starts k inside)

  -- its tree
  pub tree_is : tree_at bodies number ≡ tree_of (trees_of bodies) body.items.items
  tree_is =
      let here : 0 + number ≡ number = omega arith in
      subst (λ (n : ℕ). slice_index_or (trees_of bodies) n End ≡ tree_of (trees_of bodies) body.items.items) here
      (trees_from-at [] bodies number body (read_at bodies number body known is)
      (subst (λ (n : ℕ). UsesBelow n body.items.items) (sym here) (UsesBelow-good bodies number body.parameters (length body.items.items) body.items.items good_body.items)))

  -- the start of its end
  pub end_at : (start : ℕ) → start ≡ slice_index_or body.starts.items (length body.items.items) start → start ≡ size_of (tree_at bodies number)
  end_at start at =
      start_at (length body.items.items) start (omega arith) at
      ∙ ap (λ (n : ℕ). offset n (tree_at bodies number)) (sym (count_of-tree (trees_of bodies) body.items.items) ∙ ap count_of (sym tree_is))
      ∙ offset-all (tree_at bodies number)

-- there is a body of a number that is known
pub the_body : (bodies : List Body) (number : ℕ) → number < length bodies → (body : Body) × (slice_get bodies number ≡ Some body)
the_body [] number known = absurd (omega arith)
the_body (body ∷ bodies) zero known = (body, refl)
the_body (body ∷ bodies) (suc number) known = the_body bodies number (omega arith)

-- a parameter of a body has a number in its frame
pub parameter_given : (bodies : List Body) (number : ℕ) (frame : Frame) (i : ℕ) → number < length bodies → IsLabelOf bodies number (Parameter i) → HasGiven bodies number frame → i < length frame.given.now
parameter_given bodies number frame i known label given =
    let body : (body : Body) × (slice_get bodies number ≡ Some body) = the_body bodies number known in
    let inside : i < body.0.parameters = label body.0 body.1 in
    let all : length frame.given.now ≡ body.0.parameters = given body.0 body.1 in
    omega arith

-- if an element exists, the default for a missing one doesn't matter
pub get_or-any : {A : Type 0} (list : List A) (i : ℕ) (one other : A) → i < length list → slice_index_or list i one ≡ slice_index_or list i other
get_or-any [] i one other inside = absurd (omega arith)
get_or-any (x ∷ list) zero one other inside = refl
get_or-any (x ∷ list) (suc i) one other inside = get_or-any list i one other (omega arith)

-- one item of a tree, before others
abbrev pub with_item : List Items → Item → Items → Items
with_item trees (Item.Do action) others = Do action others
with_item trees (Item.Use block handed) others = Use handed.items (slice_index_or trees block End) others

from_place-tree : (trees : List Items) (items : List Item) (k : ℕ) (item : Item) → slice_get items k ≡ Some item →
    from_place k (tree_of trees items) ≡ with_item trees item (from_place (suc k) (tree_of trees items))
from_place-tree trees [] k item at = absurd (cc)
from_place-tree trees (Item.Do action ∷ items) zero item at = let same : Item.Do action ≡ item = cc in ap (λ (i : Item). with_item trees i (tree_of trees items)) same
from_place-tree trees (Item.Use block handed ∷ items) zero item at = let same : Item.Use block handed ≡ item = cc in ap (λ (i : Item). with_item trees i (tree_of trees items)) same
from_place-tree trees (Item.Do action ∷ items) (suc k) item at = from_place-tree trees items k item at
from_place-tree trees (Item.Use block handed ∷ items) (suc k) item at = from_place-tree trees items k item at

pub all_at : {A : Type 0} (P : A → Type 0) (list : List A) (i : ℕ) (x : A) → AllByRecursion P list → slice_get list i ≡ Some x → P x
all_at P [] i x all at = absurd (cc)
all_at P (y ∷ list) zero x all at = let same : y ≡ x = cc in subst P same all.0
all_at P (y ∷ list) (suc i) x all at = all_at P list i x all.1 at

-- an item of a body, as it was read
pub record AtItem (bodies : List Body) (number : ℕ) (body : Body) (k : ℕ) (item : Item) : Type 0 where
  pub good : AreGood bodies
  pub known : number < length bodies
  pub is : body ≡ slice_index_or bodies number body
  pub inside : k < length body.items.items
  pub at : item ≡ slice_index_or body.items.items k item

pub at_item : {bodies : List Body} {number : ℕ} {body : Body} {k : ℕ} {item : Item} → AreGood bodies → number < length bodies → body ≡ slice_index_or bodies number body →
    (slice : List Item) → slice ≡ body.items.items → k < length slice → item ≡ slice_index_or slice k item → AtItem bodies number body k item
at_item {bodies} {number} {body} {k} {item} good known is slice same inside at = record {
  good = good;
  known = known;
  is = is;
  inside = subst (λ (l : List Item). k < length l) same inside;
  at = subst (λ (l : List Item). item ≡ slice_index_or l k item) same at;
}

module _ {bodies : List Body} {number : ℕ} {body : Body} {k : ℕ} {item : Item} (a : AtItem bodies number body k item) where
  -- a fact of the body is one of each body of its number
  pub of_body : (P : Body → Type 0) → P body → (other : Body) → slice_get bodies number ≡ Some other → P other
  of_body P holds other there = let same : body ≡ other = same_Some body other (sym (read_at bodies number body a.known a.is) ∙ there) in subst P same holds

  pub item_short : k < most
  item_short = let few : length body.items.items ≤ 10000 = (good_body bodies number body a.good a.known a.is).short in let i : k < length body.items.items = a.inside in omega arith

  pub item_good : IsGoodItem bodies number body.parameters (length body.items.items) item
  item_good = all_at (IsGoodItem bodies number body.parameters (length body.items.items)) body.items.items k item (good_body bodies number body a.good a.known a.is).items (read_at body.items.items k item a.inside a.at)

  -- the place of the item in the tree
  pub item_tree : from_place k (tree_at bodies number) ≡ with_item (trees_of bodies) item (from_place (suc k) (tree_at bodies number))
  item_tree =
      let tree : tree_at bodies number ≡ tree_of (trees_of bodies) body.items.items = tree_is bodies number body a.good a.known a.is in
      ap (from_place k) tree ∙ from_place-tree (trees_of bodies) body.items.items k item (read_at body.items.items k item a.inside a.at)
      ∙ ap (λ (t : Items). with_item (trees_of bodies) item (from_place (suc k) t)) (sym tree)

  pub start_inside : k < length body.starts.items
  start_inside = let all : length body.starts.items ≡ suc (length body.items.items) = (good_body bodies number body a.good a.known a.is).counted in let i : k < length body.items.items = a.inside in omega arith

  pub item_start : (start : ℕ) → start ≡ slice_index_or body.starts.items k start → start ≡ offset k (tree_at bodies number)
  item_start start there = start_at bodies number body a.good a.known a.is k start (let i : k < length body.items.items = a.inside in omega arith) there

  -- what precedes a use, and its block, are at most all
  pub use_fits : (block : ℕ) (handed : Vec Label Global) → item ≡ Item.Use block handed → offset k (tree_at bodies number) + size_of (tree_at bodies block) ≤ size_of (tree_at bodies number)
  use_fits block handed puts =
      let rest : offset k (tree_at bodies number) + size_of (from_place k (tree_at bodies number)) ≡ size_of (tree_at bodies number) = offset-rest k (tree_at bodies number) in
      let here : size_of (from_place k (tree_at bodies number)) ≡ size_of (tree_at bodies block) + size_of (from_place (suc k) (tree_at bodies number)) =
      ap size_of (item_tree ∙ ap (λ (i : Item). with_item (trees_of bodies) i (from_place (suc k) (tree_at bodies number))) puts) in
      let i : k < length body.items.items = a.inside in omega arith

-- what the block of an item needs
pub use_good : {bodies : List Body} {number : ℕ} {body : Body} {k : ℕ} {item : Item} → AtItem bodies number body k item → (block : ℕ) (handed : Vec Label Global) → item ≡ Item.Use block handed →
    IsGoodItem bodies number body.parameters (length body.items.items) (Item.Use block handed)
use_good {bodies} {number} {body} a block handed puts = subst (IsGoodItem bodies number body.parameters (length body.items.items)) puts (item_good a)

pub same_numbers : {base one after other : ℕ} {given handed : List ℕ} → base ≡ one → after ≡ other → given ≡ handed →
    (let n : Numbers = record { base = base; after = after; given = given } in n) ≡ record { base = one; after = other; given = handed }
same_numbers {base} {one} {after} {other} {given} {handed} bases afters givens =
    ap (λ (b : ℕ). let n : Numbers = record { base = b; after = after; given = given } in n) bases
    ∙ ap (λ (a : ℕ). let n : Numbers = record { base = one; after = a; given = given } in n) afters
    ∙ ap (λ (g : List ℕ). let n : Numbers = record { base = one; after = other; given = g } in n) givens
