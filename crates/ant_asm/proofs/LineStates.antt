-- The lines of a program's instructions: by addresses the same as by numbers, and one for each state.
use Rattle.std.proofs.Common.{◌≡◌, ℕ, zero, suc, ◌+◌, List, [], ◌∷◌, ◌++◌, length, Some, refl, sym, ap, ap₂, ◌∙◌, arith, append_assoc}
use Rattle.std.specs.Prelude.{slice_get}
use Rattle.ant_asm.specs.Program.{Items}
use Rattle.ant_asm.specs.Program.Items.{End, Do, Use}
use Rattle.ant_asm.specs.Places.{Address, places, places_of}
use Rattle.ant_asm.specs.Labels.{Outline, WayStep}
use Rattle.ant_asm.specs.Labels.Outline.{Closed, Labelled, Instructed, Used}
use Rattle.ant_asm.specs.StateLines.{StateLine, from_item, line_at, line_from, lines_at}
use Rattle.ant_asm.specs.Inner.Outlines.{further, outline_size, told_lines}
use Rattle.ant_asm.proofs.Emission.{places_of-size}
use Rattle.ant_asm.proofs.OutlineFits.{Fits, fits-size}

-- one item more
from_item-next : (k : ℕ) (outline : Outline) → from_item (suc k) outline ≡ from_item 1 (from_item k outline)
from_item-next k Closed = refl
from_item-next k (Labelled name others) = from_item-next k others
from_item-next (suc k) (Instructed line others) = from_item-next k others
from_item-next (suc k) (Used line name block others) = from_item-next k others
from_item-next zero outline = refl

-- further addresses
lines_at-append : (main : Outline) (state : ℕ) (front back : List Address) → lines_at main state (front ++ back) ≡ lines_at main state front ++ lines_at main (state + length front) back
lines_at-append main state [] back = ap (λ (n : ℕ). lines_at main n back) (let e : state ≡ state + 0 = omega arith in e)
lines_at-append main state (address ∷ front) back =
    ap (λ (l : List StateLine). line_at main state address ∷ l)
    (lines_at-append main (suc state) front back ∙ ap (λ (n : ℕ). lines_at main (suc state) front ++ lines_at main n back) (let e : suc state + length front ≡ state + suc (length front) = omega arith in e))

module _ (main : Outline) where
  -- a path leads to a body with these lines, by these uses
  abbrev LeadsTo : Address → Outline → List WayStep → Type 0
  LeadsTo path body way = (state k : ℕ) (address : Address) → line_at main state (path ++ k ∷ address) ≡ line_from state address (from_item k body) way

  inside : (path : Address) (body : Outline) (way : List WayStep) (k line : ℕ) (name : List ℕ) (block others : Outline) → from_item k body ≡ Used line name block others → LeadsTo path body way →
      LeadsTo (path ++ k ∷ []) block (further way name line)
  inside path body way k line name block others at leads = λ state j address.
      ap (line_at main state) (append_assoc path (k ∷ []) (j ∷ address)) ∙ leads state k (j ∷ address) ∙ ap (λ (o : Outline). line_from state (j ∷ address) o way) at

  lines-from : (outline : Outline) (items : Items) (body : Outline) (path : Address) (way : List WayStep) (k state : ℕ) → Fits outline items → from_item k body ≡ from_item 0 outline → LeadsTo path body way →
      lines_at main state (places_of items path k) ≡ told_lines outline state way
  lines-from Closed End body path way k state fits at leads = refl
  lines-from (Labelled name others) items body path way k state fits at leads = lines-from others items body path way k state fits at leads
  lines-from (Instructed line others) (Do action rest) body path way k state fits at leads =
      ap₂ (λ (it : StateLine) (l : List StateLine). it ∷ l)
      (leads state k [] ∙ ap (λ (o : Outline). line_from state [] o way) at)
      (lines-from others rest body path way (suc k) (suc state) fits.1 (from_item-next k body ∙ ap (from_item 1) at) leads
      ∙ ap (λ (n : ℕ). told_lines others n way) (let e : suc state ≡ state + 1 = omega arith in e))
  lines-from (Used line name block others) (Use handed items rest) body path way k state fits at leads =
      lines_at-append main state (places_of items (path ++ k ∷ []) 0) (places_of rest path (suc k))
      ∙ ap₂ ◌++◌
      (lines-from block items block (path ++ k ∷ []) (further way name line) 0 state fits.0 refl (inside path body way k line name block others at leads))
      (ap (λ (n : ℕ). lines_at main (state + n) (places_of rest path (suc k))) (places_of-size items (path ++ k ∷ []) 0 ∙ sym (fits-size block items fits.0))
      ∙ lines-from others rest body path way (suc k) (state + outline_size block) fits.1 (from_item-next k body ∙ ap (from_item 1) at) leads)
  lines-from it items body path way k state fits at leads = absurd fits

  pub lines-are : (items : Items) → Fits main items → lines_at main 0 (places items) ≡ told_lines main 0 []
  lines-are items fits = lines-from main items main [] [] 0 0 fits refl (λ state k address. refl)

-- there is one line for each address
pub lines_at-length : (main : Outline) (state : ℕ) (addresses : List Address) → length (lines_at main state addresses) ≡ length addresses
lines_at-length main state [] = refl
lines_at-length main state (address ∷ addresses) = ap suc (lines_at-length main (suc state) addresses)

-- each is reported with its state
line_from-state : (state : ℕ) (address : Address) (outline : Outline) (way : List WayStep) → (line_from state address outline way).state ≡ state
line_from-state state [] (Instructed line others) way = refl
line_from-state state (k ∷ address) (Used line name block others) way = line_from-state state address (from_item k block) (further way name line)
line_from-state state address it way = refl

line_at-state : (main : Outline) (state : ℕ) (address : Address) → (line_at main state address).state ≡ state
line_at-state main state [] = refl
line_at-state main state (k ∷ address) = line_from-state state address (from_item k main) []

pub lines_at-state : (main : Outline) (state : ℕ) (addresses : List Address) (i : ℕ) (it : StateLine) → slice_get (lines_at main state addresses) i ≡ Some it → it.state ≡ state + i
lines_at-state main state [] i it at = absurd (cc)
lines_at-state main state (address ∷ addresses) zero it at =
    let same : line_at main state address ≡ it = cc in ap (λ (l : StateLine). l.state) (sym same) ∙ line_at-state main state address ∙ (let e : state ≡ state + 0 = omega arith in e)
lines_at-state main state (address ∷ addresses) (suc i) it at = lines_at-state main (suc state) addresses i it at ∙ (let e : suc state + i ≡ state + suc i = omega arith in e)
