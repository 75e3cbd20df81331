-- Elements placed and painted, one after another.
use Rattle.cell_world.specs.Limits.{most_size}
use Rattle.cell_world.specs.Opening.{hill_count}
use Rattle.cell_world.specs.declared.kind.Kind.{Kind}
use Rattle.std.proofs.Common.{◌≡◌, ℕ, ◌+◌, ◌*◌, ◌<◌, ◌≤◌, List, [], ◌∷◌, ◌++◌, length, refl, sym, ◌∙◌, ap, arith, subst}
use Rattle.std.proofs.lemmas.List.{length_push}
use Rattle.std.specs.Prelude.{Bool, Err}
use Rattle.world_gen.proofs.Bares.{bare_hills, bare_draft}
use Rattle.world_gen.proofs.Follows.{follow_more, goes_as, goes_fits, hills_step, none_as, paint_fed}
use Rattle.world_gen.proofs.Steps.{fits_open, open_fits, draft_more}
use Rattle.world_gen.specs.Elements.{count_of, element_of}
use Rattle.world_gen.specs.FreeSpots.{IsFreeSpot}
use Rattle.world_gen.specs.Inner.Answers.{IsGeneratedGrid, IsElementPut, IsStep}
use Rattle.world_gen.specs.Inner.Open.{AllOpen}
use Rattle.world_gen.specs.Inner.Drafts.{IsBegun, bare_blocked, bare_kinds}
use Rattle.world_gen.specs.Placing.{Goes, HasNone, HasNoRoom}
use Rattle.world_gen.specs.declared.element.Element.{Element}
use Rattle.world_gen.specs.Generated.{IsRefusal}
use Rattle.world_gen.specs.declared.generator.GenFault.{GenFault}
use Rattle.world_gen.specs.declared.generator.GenFault.TheVariants.{NoRoom, OutOfMemory}
use Rattle.world_gen.specs.declared.shape.Shape.{Shape}
use Rattle.world_gen.specs.declared.spot.Spot.{Spot}

-- no element is placed
pub begun_none : (seed : ℕ) (shape : Shape) (blocked : List Bool) (kinds : List Kind) (g : ℕ) → shape.width ≤ most_size → shape.height ≤ most_size
    → blocked ≡ bare_blocked shape.width shape.height (shape.width * shape.height) → kinds ≡ bare_kinds shape.width shape.height (shape.width * shape.height) → g ≡ 0 → IsBegun seed shape 0 blocked kinds g
begun_none seed shape blocked kinds g narrow low is_blocked is_kinds zero =
    let area = shape.width * shape.height in
    let bare = bare_draft shape.width shape.height narrow low in
    record {
      placed = [];
      follow = sym zero;
      count = refl;
      draft = rw (is_blocked, is_kinds) bare;
      few = let none : hill_count kinds ≡ 0 = ap hill_count is_kinds ∙ bare_hills shape.width shape.height area in omega arith;
    }

-- one element more, in a draft of the shape's sizes
module _ (seed : ℕ) (shape : Shape) (n g after : ℕ) (blocked now : List Bool) (kinds paint : List Kind) (begun : IsBegun seed shape n blocked kinds g) where
  goes_there : (spot : Spot) → Goes (AllOpen shape.width shape.height blocked) seed shape.width shape.height (element_of shape n) g spot after → Goes (IsFreeSpot shape.width shape.height begun.placed) seed shape.width shape.height (element_of shape n) g spot after
  goes_there spot goes =
      goes_as (AllOpen shape.width shape.height blocked) (IsFreeSpot shape.width shape.height begun.placed) (λ s open_all. open_fits shape.width shape.height begun.placed blocked kinds s begun.draft open_all) (λ s fits. fits_open shape.width shape.height begun.placed blocked kinds s begun.draft fits)
      seed shape.width shape.height (element_of shape n) g spot after goes

  step : (spot : Spot) → Goes (AllOpen shape.width shape.height blocked) seed shape.width shape.height (element_of shape n) g spot after → IsElementPut spot shape.width shape.height blocked now kinds paint → IsBegun seed shape (n + 1) now paint after
  step spot goes put =
      let there = goes_there spot goes in
      let fits = goes_fits (IsFreeSpot shape.width shape.height begun.placed) seed shape.width shape.height (element_of shape n) g spot after there in
      record {
        placed = begun.placed ++ spot ∷ [];
        follow = follow_more seed shape [] 0 begun.placed g spot after begun.follow (subst (λ m. Goes (IsFreeSpot shape.width shape.height begun.placed) seed shape.width shape.height (element_of shape m) g spot after) (sym begun.count) there);
        count = length_push begun.placed spot ∙ ap (λ m. m + 1) begun.count;
        draft = draft_more shape.width shape.height begun.placed blocked now kinds paint spot put.cells begun.draft fits put.lists put.stamped (paint_fed spot.figure);
        few = hills_step (AllOpen shape.width shape.height blocked) seed shape n g spot after (hill_count kinds) (hill_count paint) (length put.cells) goes begun.few put.few put.stamped.hills;
      }

  barred : n < count_of shape → HasNone (AllOpen shape.width shape.height blocked) seed shape.width shape.height (element_of shape n) g → HasNoRoom seed shape n
  barred low none = record {
    placed = begun.placed;
    after = g;
    follow = begun.follow;
    before = begun.count;
    low = low;
    none = none_as (AllOpen shape.width shape.height blocked) (IsFreeSpot shape.width shape.height begun.placed) (λ s fits. fits_open shape.width shape.height begun.placed blocked kinds s begun.draft fits) seed shape.width shape.height (element_of shape n) g none;
  }

-- if the sizes, the seed and the element are those of the shape
pub begun_more : (seed : ℕ) (shape : Shape) (n width height seed_now g after : ℕ) (e : Element) (blocked now : List Bool) (kinds paint : List Kind) → width ≡ shape.width → height ≡ shape.height → seed_now ≡ seed → e ≡ element_of shape n
    → IsBegun seed shape n blocked kinds g → (spot : Spot) × Goes (AllOpen width height blocked) seed_now width height e g spot after × IsElementPut spot width height blocked now kinds paint
    → IsBegun seed shape (n + 1) now paint after
begun_more seed shape n width height seed_now g after e blocked now kinds paint wide high same_seed element begun (spot, goes, put) =
    let a : Goes (AllOpen shape.width height blocked) seed_now shape.width height e g spot after = subst (λ w. Goes (AllOpen w height blocked) seed_now w height e g spot after) wide goes in
    let b : Goes (AllOpen shape.width shape.height blocked) seed_now shape.width shape.height e g spot after = subst (λ h. Goes (AllOpen shape.width h blocked) seed_now shape.width h e g spot after) high a in
    let d : Goes (AllOpen shape.width shape.height blocked) seed shape.width shape.height e g spot after = subst (λ s. Goes (AllOpen shape.width shape.height blocked) s shape.width shape.height e g spot after) same_seed b in
    let f : Goes (AllOpen shape.width shape.height blocked) seed shape.width shape.height (element_of shape n) g spot after = subst (λ (x : Element). Goes (AllOpen shape.width shape.height blocked) seed shape.width shape.height x g spot after) element d in
    let p : IsElementPut spot shape.width height blocked now kinds paint = subst (λ w. IsElementPut spot w height blocked now kinds paint) wide put in
    let q : IsElementPut spot shape.width shape.height blocked now kinds paint = subst (λ h. IsElementPut spot shape.width h blocked now kinds paint) high p in
    step seed shape n g after blocked now kinds paint begun spot f q

pub refusal : (seed : ℕ) (shape : Shape) (n width height seed_now g : ℕ) (e : Element) (blocked : List Bool) (kinds : List Kind) → width ≡ shape.width → height ≡ shape.height → seed_now ≡ seed → e ≡ element_of shape n
    → IsBegun seed shape n blocked kinds g → n < count_of shape → HasNone (AllOpen width height blocked) seed_now width height e g → HasNoRoom seed shape n
refusal seed shape n width height seed_now g e blocked kinds wide high same_seed element begun low none =
    let a : HasNone (AllOpen shape.width height blocked) seed_now shape.width height e g = subst (λ w. HasNone (AllOpen w height blocked) seed_now w height e g) wide none in
    let b : HasNone (AllOpen shape.width shape.height blocked) seed_now shape.width shape.height e g = subst (λ h. HasNone (AllOpen shape.width h blocked) seed_now shape.width h e g) high a in
    let d : HasNone (AllOpen shape.width shape.height blocked) seed shape.width shape.height e g = subst (λ s. HasNone (AllOpen shape.width shape.height blocked) s shape.width shape.height e g) same_seed b in
    let f : HasNone (AllOpen shape.width shape.height blocked) seed shape.width shape.height (element_of shape n) g = subst (λ (x : Element). HasNone (AllOpen shape.width shape.height blocked) seed shape.width shape.height x g) element d in
    barred seed shape n g 0 blocked blocked kinds kinds begun low f

-- all elements are placed
pub begun_whole : (seed : ℕ) (shape : Shape) (n width height : ℕ) (blocked : List Bool) (kinds : List Kind) (g : ℕ) → width ≡ shape.width → height ≡ shape.height → IsBegun seed shape n blocked kinds g → n ≡ count_of shape
    → IsGeneratedGrid seed shape width height kinds
begun_whole seed shape n width height blocked kinds g wide high begun all = record {
  wide = wide;
  high = high;
  placed = begun.placed;
  placing = record { after = g; follow = begun.follow; all = begun.count ∙ all };
  painted = begun.draft.painted;
  fed = begun.draft.fed;
  few = let h = begun.few in omega arith;
}

-- what is refused at an element
pub step_refused : (seed : ℕ) (shape : Shape) (n width height seed_now g after : ℕ) (e : Element) (blocked now : List Bool) (kinds paint : List Kind) (fault : GenFault) → width ≡ shape.width → height ≡ shape.height → seed_now ≡ seed → e ≡ element_of shape n
    → IsBegun seed shape n blocked kinds g → n < count_of shape → IsStep seed_now width height e n g after blocked now kinds paint (Err fault) → IsRefusal seed shape fault
step_refused seed shape n width height seed_now g after e blocked now kinds paint (NoRoom m) wide high same_seed element begun low none =
    subst (HasNoRoom seed shape) (sym none.0) (refusal seed shape n width height seed_now g e blocked kinds wide high same_seed element begun low none.1)
step_refused seed shape n width height seed_now g after e blocked now kinds paint OutOfMemory wide high same_seed element begun low none = tt
