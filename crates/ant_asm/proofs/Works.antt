-- A program that is being expanded, step by step.
use Rattle.std.proofs.Common.{◌≡◌, ℕ, zero, suc, ◌+◌, ◌<◌, ◌≤◌, true, false, List, [], ◌∷◌, ◌++◌, length, map, Some, refl, sym, ap, ap₂, ◌∙◌, subst, arith, append_assoc, append-nil}
use Rattle.std.specs.Prelude.{slice_get, slice_index_or, Vec}
use Rattle.std.specs.List.{AllByRecursion}
use Rattle.std.specs.declared.alloc.Global.{Global}
use Rattle.std.proofs.lemmas.List.{length-map, map_push}
use Rattle.list_lemmas.proofs.AllElements.{AllByRecursion-append_first, AllByRecursion-append_second, AllByRecursion-push}
use Rattle.brain_read.specs.declared.instr.Instr.{Instr}
use Rattle.ant_asm.specs.declared.action.Action.{Action}
use Rattle.ant_asm.specs.declared.action.Label.{Label}
use Rattle.ant_asm.specs.declared.body.Body.{Body}
use Rattle.ant_asm.specs.declared.body.Item.{Item}
use Rattle.ant_asm.specs.declared.expand.Expansion.{Expansion}
use Rattle.ant_asm.specs.declared.expand.Put.{Put}
use Rattle.ant_asm.specs.declared.expand.Spot.{Spot}
use Rattle.ant_asm.specs.declared.expand.Work.{Work}
use Rattle.ant_asm.specs.LabelGame.{instruction_by}
use Rattle.ant_asm.specs.Program.{Items, from_place, size_of}
use Rattle.ant_asm.specs.Program.Items.{End, Do, Use}
use Rattle.ant_asm.specs.Places.{Address, places_of}
use Rattle.ant_asm.specs.Inner.Emission.{Numbers, emitted, inner_numbers, main_numbers, number_first, number_target}
use Rattle.ant_asm.specs.Inner.Flat.{AreGood, AreLabelsOf, IsActionOf, IsGoodAction, IsGoodItem, IsGoodLabel, IsSpot, most, number_led, numbers_of, tree_at, tree_of, trees_of}
use Rattle.ant_asm.specs.Inner.Left.{left_by}
use Rattle.ant_asm.specs.Inner.Works.{IsGone, IsPutAt, IsPutIn, IsWork, left_of_work, list_from, list_left, nodes_after, nodes_in, numbers_in, place_in, places_from, places_left}
use Rattle.ant_asm.proofs.FlatLemmas.{AtItem, item_good, item_short, item_start, item_tree, of_body, same_numbers, tree_is, use_fits, use_good, with_item}
use Rattle.ant_asm.proofs.Lefts.{left_by-last}

nodes-last : (bodies : List Body) (front : List Put) (put : Put) → nodes_after bodies (front ++ put ∷ []) ≡ nodes_after bodies front + nodes_in (from_place (put.place + 1) (tree_at bodies put.number))
nodes-last bodies [] put = omega arith
nodes-last bodies (other ∷ front) put = let later = nodes-last bodies front put in omega (arith, later)

module _ (bodies : List Body) (old : Work) (is : IsWork bodies old) where
  abbrev k : ℕ
  k = old.top.place

  abbrev tree : Items
  tree = tree_at bodies old.top.number

  abbrev numbers : Numbers
  numbers = numbers_in old.top

  abbrev path : List ℕ
  path = map place_in old.outer.items

  abbrev list-outside : List Instr
  list-outside = left_by place_in (λ put path. list_from bodies (put.place + 1) put path) old.outer.items []

  abbrev places-outside : List Address
  places-outside = left_by place_in (λ put path. places_from bodies (put.place + 1) put path) old.outer.items []

  -- an instruction more
  module _ (action : Action Label) (at : from_place k tree ≡ Do action (from_place (suc k) tree)) where
    abbrev done-work : Work
    done-work = record { path = old.path; outer = old.outer; top = record { number = old.top.number; place = k + 1; base = old.top.base; after = old.top.after; given = old.top.given } }

    pub gone-do : (before after : Expansion) → after.list.items ≡ before.list.items ++ instruction_by (number_target tree numbers k) action ∷ [] → after.places.items ≡ before.places.items ++ (path ++ k ∷ []) ∷ [] →
        IsGone bodies old done-work before after true
    gone-do before after lists addresses = record {
      work = record { top = record { known = is.top.known; given = is.top.given; fits = is.top.fits }; outer = is.outer; path = is.path };
      list =
          ap (λ (l : List Instr). l ++ list_left bodies done-work) lists
          ∙ append_assoc before.list.items (one ∷ []) (list_left bodies done-work)
          ∙ ap (λ (n : ℕ). before.list.items ++ (one ∷ (emitted (from_place n tree) tree numbers n ++ list-outside))) next
          ∙ ap (λ (t : Items). before.list.items ++ (emitted t tree numbers k ++ list-outside)) (sym at);
      places =
          ap (λ (l : List Address). l ++ places_left bodies done-work) addresses
          ∙ append_assoc before.places.items ((path ++ k ∷ []) ∷ []) (places_left bodies done-work)
          ∙ ap (λ (n : ℕ). before.places.items ++ ((path ++ k ∷ []) ∷ (places_of (from_place n tree) path n ++ places-outside))) next
          ∙ ap (λ (t : Items). before.places.items ++ (places_of t path k ++ places-outside)) (sym at);
      fewer = λ more.
          let one : nodes_in (from_place k tree) ≡ suc (nodes_in (from_place (suc k) tree)) = ap nodes_in at in
          let two : nodes_in (from_place (k + 1) tree) ≡ nodes_in (from_place (suc k) tree) = ap (λ (n : ℕ). nodes_in (from_place n tree)) next in
          omega (arith, one, two);
      end = λ never. absurd (cc);
    }
      where
        one : Instr
        one = instruction_by (number_target tree numbers k) action

        next : k + 1 ≡ suc k
        next = omega arith

  -- a body begins
  module _ (handed : List Label) (top : Put) (at : from_place k tree ≡ Use handed (tree_at bodies top.number) (from_place (suc k) tree)) (first : top.place ≡ 0) (good : IsPutIn bodies top) (small : k < most)
      (handed-is : numbers_in top ≡ inner_numbers tree numbers k handed) (steps : Vec ℕ Global) (steps-is : steps.items ≡ old.path.items ++ k ∷ []) (outer : Vec Put Global) (outer-is : outer.items ≡ old.outer.items ++ old.top ∷ []) where
    abbrev used-work : Work
    used-work = record { path = steps; outer = outer; top = top }

    k-next : k + 1 ≡ suc k
    k-next = omega arith

    path-is : map place_in outer.items ≡ path ++ k ∷ []
    path-is = ap (map place_in) outer-is ∙ map_push place_in old.outer.items old.top

    block : Items
    block = tree_at bodies top.number

    later : {A : Type 0} (tell : ℕ → Put → List ℕ → List A) → left_by place_in (λ put path. tell (put.place + 1) put path) outer.items [] ≡ tell (suc k) old.top path ++ left_by place_in (λ put path. tell (put.place + 1) put path) old.outer.items []
    later tell =
        ap (λ (l : List Put). left_by place_in (λ put path. tell (put.place + 1) put path) l []) outer-is
        ∙ left_by-last place_in (λ put path. tell (put.place + 1) put path) old.outer.items old.top []
        ∙ ap (λ (n : ℕ). tell n old.top path ++ left_by place_in (λ put path. tell (put.place + 1) put path) old.outer.items []) k-next

    pub gone-use : (before after : Expansion) → after.list.items ≡ before.list.items → after.places.items ≡ before.places.items → IsGone bodies old used-work before after true
    gone-use before after lists addresses = record {
      work = record {
        top = good;
        outer = subst (AllByRecursion (IsPutAt bodies)) (sym outer-is) (AllByRecursion-push (IsPutAt bodies) old.outer.items old.top is.outer (is.top, small));
        path = steps-is ∙ ap (λ (l : List ℕ). l ++ k ∷ []) is.path ∙ sym path-is;
      };
      list = ap₂ (λ (a b : List Instr). a ++ b) lists
          (ap₂ (λ (n : Numbers) (l : List Instr). emitted (from_place top.place (tree_at bodies top.number)) (tree_at bodies top.number) n top.place ++ l) handed-is (later (list_from bodies))
          ∙ ap (λ (n : ℕ). emitted (from_place n (tree_at bodies top.number)) (tree_at bodies top.number) (inner_numbers tree numbers k handed) n ++ (list_from bodies (suc k) old.top path ++ list-outside)) first
          ∙ sym (append_assoc (emitted (tree_at bodies top.number) (tree_at bodies top.number) (inner_numbers tree numbers k handed) 0) (list_from bodies (suc k) old.top path) list-outside)
          ∙ ap (λ (t : Items). emitted t tree numbers k ++ list-outside) (sym at));
      places = ap₂ (λ (a b : List Address). a ++ b) addresses
          (ap₂ (λ (p : List ℕ) (l : List Address). places_of (from_place top.place (tree_at bodies top.number)) p top.place ++ l) path-is (later (places_from bodies))
          ∙ ap (λ (n : ℕ). places_of (from_place n (tree_at bodies top.number)) (path ++ k ∷ []) n ++ (places_from bodies (suc k) old.top path ++ places-outside)) first
          ∙ sym (append_assoc (places_of (tree_at bodies top.number) (path ++ k ∷ []) 0) (places_from bodies (suc k) old.top path) places-outside)
          ∙ ap (λ (t : Items). places_of t path k ++ places-outside) (sym at));
      fewer = λ more.
          let one : nodes_in (from_place k tree) ≡ suc (nodes_in (tree_at bodies top.number) + nodes_in (from_place (suc k) tree)) = ap nodes_in at in
          let two : nodes_after bodies outer.items ≡ nodes_after bodies old.outer.items + nodes_in (from_place (k + 1) tree) = ap (nodes_after bodies) outer-is ∙ nodes-last bodies old.outer.items old.top in
          let three : nodes_in (from_place (k + 1) tree) ≡ nodes_in (from_place (suc k) tree) = ap (λ (n : ℕ). nodes_in (from_place n tree)) k-next in
          let four : nodes_in (from_place top.place (tree_at bodies top.number)) ≡ nodes_in (tree_at bodies top.number) = ap (λ (n : ℕ). nodes_in (from_place n (tree_at bodies top.number))) first in
          omega (arith, one, two, three, four);
      end = λ never. absurd (cc);
    }

  -- a body ends
  module _ (at : from_place k tree ≡ End) where
    ended-list : (p : List ℕ) → list_from bodies k old.top p ≡ []
    ended-list p = ap (λ (t : Items). emitted t tree numbers k) at

    ended-places : (p : List ℕ) → places_from bodies k old.top p ≡ []
    ended-places p = ap (λ (t : Items). places_of t p k) at

    pub gone-end : old.outer.items ≡ [] → (outer : Vec Put Global) → outer.items ≡ [] → (out : Expansion) → IsGone bodies old (record { path = old.path; outer = outer; top = old.top }) out out false
    gone-end none outer empty out = record {
      work = record { top = is.top; outer = subst (AllByRecursion (IsPutAt bodies)) (sym empty) tt; path = is.path ∙ ap (map place_in) (none ∙ sym empty) };
      list = ap (λ (l : List Instr). out.list.items ++ l) (all-list ∙ sym old-list);
      places = ap (λ (l : List Address). out.places.items ++ l) (all-places ∙ sym old-places);
      fewer = λ never. absurd (cc);
      end = λ same. (all-list, all-places);
    }
      where
        all-list : list_from bodies k old.top (map place_in outer.items) ++ left_by place_in (λ put path. list_from bodies (put.place + 1) put path) outer.items [] ≡ []
        all-list = ap₂ (λ (a b : List Instr). a ++ b) (ended-list (map place_in outer.items)) (ap (λ (l : List Put). left_by place_in (λ put path. list_from bodies (put.place + 1) put path) l []) empty)

        old-list : list_left bodies old ≡ []
        old-list = ap₂ (λ (a b : List Instr). a ++ b) (ended-list path) (ap (λ (l : List Put). left_by place_in (λ put path. list_from bodies (put.place + 1) put path) l []) none)

        all-places : places_from bodies k old.top (map place_in outer.items) ++ left_by place_in (λ put path. places_from bodies (put.place + 1) put path) outer.items [] ≡ []
        all-places = ap₂ (λ (a b : List Address). a ++ b) (ended-places (map place_in outer.items)) (ap (λ (l : List Put). left_by place_in (λ put path. places_from bodies (put.place + 1) put path) l []) empty)

        old-places : places_left bodies old ≡ []
        old-places = ap₂ (λ (a b : List Address). a ++ b) (ended-places path) (ap (λ (l : List Put). left_by place_in (λ put path. places_from bodies (put.place + 1) put path) l []) none)

    module _ (outer : Vec Put Global) (put : Put) (split : old.outer.items ≡ outer.items ++ put ∷ []) (steps : Vec ℕ Global) (steps-is : steps.items ≡ map place_in outer.items) where
      abbrev left-work : Work
      left-work = record { path = steps; outer = outer; top = record { number = put.number; place = put.place + 1; base = put.base; after = put.after; given = put.given } }

      put-is : IsPutAt bodies put
      put-is = (AllByRecursion-append_second (IsPutAt bodies) outer.items (put ∷ []) (subst (AllByRecursion (IsPutAt bodies)) split is.outer)).0

      behind : {A : Type 0} (tell : ℕ → Put → List ℕ → List A) → tell k old.top path ≡ [] → left_of_work tell old ≡ tell (put.place + 1) put (map place_in outer.items) ++ left_by place_in (λ put path. tell (put.place + 1) put path) outer.items []
      behind tell none =
          ap (λ (l : _). l ++ left_by place_in (λ put path. tell (put.place + 1) put path) old.outer.items []) none
          ∙ ap (λ (l : List Put). left_by place_in (λ put path. tell (put.place + 1) put path) l []) split
          ∙ left_by-last place_in (λ put path. tell (put.place + 1) put path) outer.items put []

      pub gone-leave : (out : Expansion) → IsGone bodies old left-work out out true
      gone-leave out = record {
        work = record {
          top = record { known = put-is.0.known; given = put-is.0.given; fits = put-is.0.fits };
          outer = AllByRecursion-append_first (IsPutAt bodies) outer.items (put ∷ []) (subst (AllByRecursion (IsPutAt bodies)) split is.outer);
          path = steps-is;
        };
        list = ap (λ (l : List Instr). out.list.items ++ l) (sym (behind (list_from bodies) (ended-list path)));
        places = ap (λ (l : List Address). out.places.items ++ l) (sym (behind (places_from bodies) (ended-places path)));
        fewer = λ more.
            let one : nodes_in (from_place k tree) ≡ 1 = ap nodes_in at in
            let two : nodes_after bodies old.outer.items ≡ nodes_after bodies outer.items + nodes_in (from_place (put.place + 1) (tree_at bodies put.number)) = ap (nodes_after bodies) split ∙ nodes-last bodies outer.items put in
            omega (arith, one, two);
        end = λ never. absurd (cc);
      }

-- the next item of the body that is used
module _ (bodies : List Body) (top : Put) (is : IsPutIn bodies top) (spot : Spot) (same : spot.bodies.now ≡ bodies) (number : spot.number ≡ top.number) (place : spot.place ≡ top.place) (numbers-are : numbers_of spot.frame ≡ numbers_in top) where
  there-too : (body : Body) → slice_get spot.bodies.now spot.number ≡ Some body → slice_get bodies top.number ≡ Some body
  there-too body there = sym (ap₂ (λ (b : List Body) (n : ℕ). slice_get b n) same number) ∙ there

  pub led-is : number_led spot ≡ number_target (tree_at bodies top.number) (numbers_in top) top.place
  led-is =
      ap₂ (λ (b : List Body) (n : ℕ). number_target (tree_at b n) (numbers_of spot.frame) spot.place) same number
      ∙ ap₂ (λ (n : Numbers) (p : ℕ). number_target (tree_at bodies top.number) n p) numbers-are place

  module _ {body : Body} {item : Item} (a : AtItem bodies top.number body top.place item) where
    pub spot-is : IsSpot spot
    spot-is = record {
      good = subst AreGood (sym same) a.good;
      known = let all = ap length same in let known = is.known in omega (arith, all, known, number);
      inside = λ other there. let inside = of_body a (λ (b : Body). top.place < length b.items.items) a.inside other (there-too other there) in omega (arith, inside, place);
      small = let short = item_short a in omega (arith, short, place);
      given = λ other there. ap (λ (n : Numbers). length n.given) numbers-are ∙ is.given other (there-too other there);
      fits =
          let base = ap (λ (n : Numbers). n.base) numbers-are in
          let size = ap₂ (λ (b : List Body) (n : ℕ). size_of (tree_at b n)) same number in
          let fits = is.fits in omega (arith, base, size, fits);
    }

    pub action-is : (action : Action Label) → item ≡ Item.Do action → IsActionOf spot.bodies.now spot.number action
    action-is action puts = λ other there.
        of_body a (λ (b : Body). IsGoodAction b.parameters (length b.items.items) action)
        (subst (IsGoodItem bodies top.number body.parameters (length body.items.items)) puts (item_good a)) other (there-too other there)

    pub labels-are : (block : ℕ) (handed : Vec Label Global) → item ≡ Item.Use block handed → (labels : List Label) → labels ≡ handed.items → AreLabelsOf spot.bodies.now spot.number labels
    labels-are block handed puts labels these = λ other there.
        of_body a (λ (b : Body). AllByRecursion (IsGoodLabel b.parameters (length b.items.items)) labels)
        (subst (AllByRecursion (IsGoodLabel body.parameters (length body.items.items))) (sym these) (use_good a block handed puts).1) other (there-too other there)

    -- the block of a use
    module _ (block : ℕ) (handed : Vec Label Global) (puts : item ≡ Item.Use block handed) (start : ℕ) (start-is : start ≡ slice_index_or body.starts.items top.place start) where
      pub inner-few : top.base + start + size_of (tree_at bodies block) ≤ most
      inner-few =
          let at = item_start a start start-is in let some = use_fits a block handed puts in let fits = is.fits in omega (arith, at, some, fits)

      module _ (put : Put) (number-is : put.number ≡ block) (base-is : put.base ≡ top.base + start) (after-is : put.after ≡ number_first (tree_at bodies top.number) (numbers_of spot.frame) (top.place + 1))
          (given-is : put.given.items ≡ map (number_led spot) handed.items) where
        pub put-good : IsPutIn bodies put
        put-good = record {
          known = let early = (use_good a block handed puts).0 in let known = is.known in omega (arith, early, known, number-is);
          given = λ other there.
              ap length given-is ∙ length-map handed.items (number_led spot) ∙ (use_good a block handed puts).2 other (ap (slice_get bodies) (sym number-is) ∙ there);
          fits = let few = inner-few in let size = ap (λ (n : ℕ). size_of (tree_at bodies n)) number-is in omega (arith, few, size, base-is);
        }

        pub put-numbers : numbers_in put ≡ inner_numbers (tree_at bodies top.number) (numbers_in top) top.place handed.items
        put-numbers = same_numbers (base-is ∙ ap (λ (n : ℕ). top.base + n) (item_start a start start-is))
            (after-is ∙ ap₂ (λ (n : Numbers) (p : ℕ). number_first (tree_at bodies top.number) n p) numbers-are (let e : top.place + 1 ≡ suc top.place = omega arith in e))
            (given-is ∙ ap (λ (f : Label → ℕ). map f handed.items) led-is)

        pub put-tree : from_place top.place (tree_at bodies top.number) ≡ Use handed.items (tree_at bodies put.number) (from_place (suc top.place) (tree_at bodies top.number))
        put-tree =
            item_tree a ∙ ap (λ (i : Item). with_item (trees_of bodies) i (from_place (suc top.place) (tree_at bodies top.number))) puts
            ∙ ap (λ (n : ℕ). Use handed.items (tree_at bodies n) (from_place (suc top.place) (tree_at bodies top.number))) (sym number-is)

-- main begins
pub work-begins : (bodies : List Body) (work : Work) → work.outer.items ≡ [] → work.path.items ≡ [] → work.top.place ≡ 0 → numbers_in work.top ≡ main_numbers → IsPutIn bodies work.top →
    IsWork bodies work × (list_left bodies work ≡ emitted (tree_at bodies work.top.number) (tree_at bodies work.top.number) main_numbers 0) × (places_left bodies work ≡ places_of (tree_at bodies work.top.number) [] 0)
work-begins bodies work none start first numbers-are good = (
  record { top = good; outer = subst (AllByRecursion (IsPutAt bodies)) (sym none) tt; path = start ∙ ap (map place_in) (sym none) },
  ap (λ (l : List Put). list_from bodies work.top.place work.top (map place_in l) ++ left_by place_in (λ put path. list_from bodies (put.place + 1) put path) l []) none
      ∙ append-nil (list_from bodies work.top.place work.top [])
      ∙ ap₂ (λ (n : Numbers) (p : ℕ). emitted (from_place p (tree_at bodies work.top.number)) (tree_at bodies work.top.number) n p) numbers-are first,
  ap (λ (l : List Put). places_from bodies work.top.place work.top (map place_in l) ++ left_by place_in (λ put path. places_from bodies (put.place + 1) put path) l []) none
      ∙ append-nil (places_from bodies work.top.place work.top [])
      ∙ ap (λ (p : ℕ). places_of (from_place p (tree_at bodies work.top.number)) [] p) first,
)

-- the end of a body
from_place-past : (trees : List Items) (items : List Item) (k : ℕ) → length items ≤ k → from_place k (tree_of trees items) ≡ End
from_place-past trees [] zero past = refl
from_place-past trees [] (suc k) past = refl
from_place-past trees (item ∷ items) zero past = absurd (omega (arith, past))
from_place-past trees (Item.Do action ∷ items) (suc k) past = from_place-past trees items k (omega (arith, past))
from_place-past trees (Item.Use block handed ∷ items) (suc k) past = from_place-past trees items k (omega (arith, past))

pub past-end : (bodies : List Body) (number : ℕ) (body : Body) → AreGood bodies → number < length bodies → body ≡ slice_index_or bodies number body → (k : ℕ) → length body.items.items ≤ k → from_place k (tree_at bodies number) ≡ End
past-end bodies number body good known is k past = ap (from_place k) (tree_is bodies number body good known is) ∙ from_place-past (trees_of bodies) body.items.items k past

pub nothing-in : {A : Type 0} (list : List A) → length list ≡ 0 → list ≡ []
nothing-in [] none = refl
nothing-in (x ∷ list) none = absurd (omega (arith, none))
