-- Labels lead to addresses of the program.
use Rattle.std.proofs.Common.{◌≡◌, ◌⊎◌, inl, inr, ℕ, zero, suc, ◌+◌, ◌≤◌, Bool, true, false, List, [], ◌∷◌, ◌++◌, length, map, Option, Some, None, refl, sym, ap, ◌∙◌, subst, arith}
use Rattle.std.specs.Prelude.{slice_get, if◌then◌else◌, bytes_eq, slice_index_or}
use Rattle.std.proofs.lemmas.Slice.Eq.{bytes_eq-Decides}
use Rattle.ant_asm.specs.declared.action.Label.{Label}
use Rattle.ant_asm.specs.declared.action.Label.TheVariants.{Next, Place, Parameter}
use Rattle.ant_asm.specs.Program.{Items, from_place}
use Rattle.ant_asm.specs.Program.Items.{End, Do, Use}
use Rattle.ant_asm.specs.Places.{Address, Frame, Placed, beginning, first_at, first_of, inner, main_frame, placed, placed_at, placed_from, placed_or_first, places, places_of, target}
use Rattle.ant_asm.specs.Assembled.{number_in}

-- an address is one of a list
abbrev pub IsAmong : List Address → Address → Type 0
IsAmong [] address = ⊥
IsAmong (place ∷ list) address = (place ≡ address) ⊎ IsAmong list address

pub IsAmong-left : (list others : List Address) (address : Address) → IsAmong list address → IsAmong (list ++ others) address
IsAmong-left [] others address among = absurd among
IsAmong-left (place ∷ list) others address (inl same) = inl same
IsAmong-left (place ∷ list) others address (inr among) = inr (IsAmong-left list others address among)

pub IsAmong-right : (list others : List Address) (address : Address) → IsAmong others address → IsAmong (list ++ others) address
IsAmong-right [] others address among = among
IsAmong-right (place ∷ list) others address among = inr (IsAmong-right list others address among)

-- the number is the place of the address in the list, whether the first is it or not
number_in-step : (place address : Address) (list : List Address) (b : Bool) → bytes_eq place address ≡ b → (IsAmong list address → slice_get list (number_in list address) ≡ Some address) →
    (place ≡ address) ⊎ IsAmong list address → slice_get (place ∷ list) (if b then 0 else suc (number_in list address)) ≡ Some address
number_in-step place address list true test later among = ap Some ((bytes_eq-Decides place address).0 test)
number_in-step place address list false test later (inl same) = let both : true ≡ false = sym ((bytes_eq-Decides place address).1 same) ∙ test in absurd (cc)
number_in-step place address list false test later (inr among) = later among

-- so its number in the list is its place there
pub number_in-found : (list : List Address) (address : Address) → IsAmong list address → slice_get list (number_in list address) ≡ Some address
number_in-found [] address among = absurd among
number_in-found (place ∷ list) address among = number_in-step place address list (bytes_eq place address) refl (number_in-found list address) among

-- the first of a list has the number 0
pub number_in-first : (place : Address) (list : List Address) → number_in (place ∷ list) place ≡ 0
number_in-first place list = ap (λ (b : Bool). if b then 0 else suc (number_in list place)) ((bytes_eq-Decides place place).1 refl)

-- the first of some addresses, or another
abbrev pub first_or : List Address → Address → Address
first_or [] other = other
first_or (place ∷ list) other = place

first_or-append : (list others : List Address) (other : Address) → first_or (list ++ others) other ≡ first_or list (first_or others other)
first_or-append [] others other = refl
first_or-append (place ∷ list) others other = refl

-- the first instruction of some items is at the first of their addresses
pub first_of-places : (items : Items) (path : Address) (k : ℕ) (after : Address) → first_of items path k after ≡ first_or (places_of items path k) after
first_of-places (Use handed block others) path k after =
    first_of-places block (path ++ k ∷ []) 0 (first_of others path (suc k) after)
    ∙ ap (first_or (places_of block (path ++ k ∷ []) 0)) (first_of-places others path (suc k) after)
    ∙ sym (first_or-append (places_of block (path ++ k ∷ []) 0) (places_of others path (suc k)) after)
first_of-places it path k after = refl

module _ (P : Address → Type 0) where
  -- a fact holds of the addresses of some items
  abbrev pub HoldsIn : Items → Address → ℕ → Type 0
  HoldsIn End path k = Unit {0}
  HoldsIn (Do action others) path k = P (path ++ k ∷ []) × HoldsIn others path (suc k)
  HoldsIn (Use handed block others) path k = HoldsIn block (path ++ k ∷ []) 0 × HoldsIn others path (suc k)

  pub HoldsIn-all : (items : Items) (path : Address) (k : ℕ) → ((address : Address) → IsAmong (places_of items path k) address → P address) → HoldsIn items path k
  HoldsIn-all End path k each = tt
  HoldsIn-all (Do action others) path k each = (each (path ++ k ∷ []) (inl refl), HoldsIn-all others path (suc k) (λ address among. each address (inr among)))
  HoldsIn-all (Use handed block others) path k each = (
    HoldsIn-all block (path ++ k ∷ []) 0 (λ address among. each address (IsAmong-left (places_of block (path ++ k ∷ []) 0) (places_of others path (suc k)) address among)),
    HoldsIn-all others path (suc k) (λ address among. each address (IsAmong-right (places_of block (path ++ k ∷ []) 0) (places_of others path (suc k)) address among)),
  )

  -- so it holds of those from a place on
  HoldsIn-from : (n : ℕ) (items : Items) (path : Address) (k : ℕ) → HoldsIn items path k → HoldsIn (from_place n items) path (k + n)
  HoldsIn-from zero items path k all = subst (HoldsIn items path) (let e : k ≡ k + 0 = omega arith in e) all
  HoldsIn-from (suc n) End path k all = tt
  HoldsIn-from (suc n) (Do action others) path k all =
      subst (HoldsIn (from_place n others) path) (let e : suc k + n ≡ k + suc n = omega arith in e) (HoldsIn-from n others path (suc k) all.1)
  HoldsIn-from (suc n) (Use handed block others) path k all =
      subst (HoldsIn (from_place n others) path) (let e : suc k + n ≡ k + suc n = omega arith in e) (HoldsIn-from n others path (suc k) all.1)

  pub HoldsIn-body : (n : ℕ) (items : Items) (path : Address) → HoldsIn items path 0 → HoldsIn (from_place n items) path n
  HoldsIn-body n items path all = subst (HoldsIn (from_place n items) path) (let e : 0 + n ≡ n = omega arith in e) (HoldsIn-from n items path 0 all)

  HoldsIn-cases : (list others : List Address) → ((address : Address) → IsAmong list address → P address) → ((address : Address) → IsAmong others address → P address) → (address : Address) → IsAmong (list ++ others) address → P address
  HoldsIn-cases [] others first second address among = second address among
  HoldsIn-cases (place ∷ list) others first second address (inl same) = first address (inl same)
  HoldsIn-cases (place ∷ list) others first second address (inr among) = HoldsIn-cases list others (λ a later. first a (inr later)) second address among

  pub HoldsIn-each : (items : Items) (path : Address) (k : ℕ) → HoldsIn items path k → (address : Address) → IsAmong (places_of items path k) address → P address
  HoldsIn-each End path k all address among = absurd among
  HoldsIn-each (Do action others) path k all address (inl same) = subst P same all.0
  HoldsIn-each (Do action others) path k all address (inr among) = HoldsIn-each others path (suc k) all.1 address among
  HoldsIn-each (Use handed block others) path k all address among =
      HoldsIn-cases (places_of block (path ++ k ∷ []) 0) (places_of others path (suc k)) (HoldsIn-each block (path ++ k ∷ []) 0 all.0) (HoldsIn-each others path (suc k) all.1) address among

  -- the first instruction of some items, or what follows them
  first_of-holds : (items : Items) (path : Address) (k : ℕ) (after : Address) → HoldsIn items path k → P after → P (first_of items path k after)
  first_of-holds End path k after all follows = follows
  first_of-holds (Do action others) path k after all follows = all.0
  first_of-holds (Use handed block others) path k after all follows =
      first_of-holds block (path ++ k ∷ []) 0 (first_of others path (suc k) after) all.0 (first_of-holds others path (suc k) after all.1 follows)

  -- the fact holds of every address to which a body's frame leads
  record HoldsOf (body : Items) (frame : Frame) : Type 0 where
    items : HoldsIn body frame.path 0
    after : P frame.after
    given : (i : ℕ) (other : Address) → P other → P (slice_index_or frame.given i other)

  first_at-holds : (body : Items) (frame : Frame) (k : ℕ) → HoldsOf body frame → P (first_at body frame k)
  first_at-holds body frame k holds = first_of-holds (from_place k body) frame.path k frame.after (HoldsIn-body k body frame.path holds.items) holds.after

  -- it holds of the targets of labels
  target-holds : (body : Items) (frame : Frame) (k : ℕ) (label : Label) → HoldsOf body frame → P (target body frame k label)
  target-holds body frame k Next holds = first_at-holds body frame (suc k) holds
  target-holds body frame k (Place j) holds = first_at-holds body frame j holds
  target-holds body frame k (Parameter i) holds = holds.given i frame.after holds.after

  -- it holds of each target of some labels
  map-holds : (f : Label → Address) (labels : List Label) → ((label : Label) → P (f label)) → (i : ℕ) (other : Address) → P other → P (slice_index_or (map f labels) i other)
  map-holds f [] each i other holds = holds
  map-holds f (label ∷ labels) each zero other holds = each label
  map-holds f (label ∷ labels) each (suc i) other holds = map-holds f labels each i other holds

  inner-holds : (body : Items) (frame : Frame) (k : ℕ) (handed : List Label) (block : Items) → HoldsOf body frame → HoldsIn block (frame.path ++ k ∷ []) 0 →
      HoldsOf block (inner body frame k handed)
  inner-holds body frame k handed block holds all = record {
    items = all;
    after = first_at-holds body frame (suc k) holds;
    given = map-holds (target body frame k) handed (λ label. target-holds body frame k label holds);
  }

  -- it holds of all targets of an instruction that was found
  abbrev Leads : Option Placed → Type 0
  Leads None = Unit {0}
  Leads (Some at) = (label : Label) → P (at.target label)

  placed_from-leads : (address : Address) (body : Items) (frame : Frame) (k : ℕ) (items : Items) → HoldsOf body frame → HoldsIn items frame.path k → Leads (placed_from address body frame k items)
  placed_from-leads [] body frame k (Do action others) holds all = λ label. target-holds body frame k label holds
  placed_from-leads (next ∷ address) body frame k (Use handed block others) holds all =
      placed_from-leads address block (inner body frame k handed) next (from_place next block)
      (inner-holds body frame k handed block holds all.0) (HoldsIn-body next block (frame.path ++ k ∷ []) all.0)
  placed_from-leads address body frame k items holds all = tt

  module _ (main : Items) (all : HoldsIn main [] 0) (first : P (beginning main)) where
    main-holds : HoldsOf main (main_frame main)
    main-holds = record { items = all; after = first; given = λ i other holds. holds }

    placed_at-leads : (address : Address) → Leads (placed_at main address)
    placed_at-leads [] = tt
    placed_at-leads (k ∷ address) = placed_from-leads address main (main_frame main) k (from_place k main) main-holds (HoldsIn-body k main [] all)

    or_first-leads : (o : Option Placed) → Leads o → (label : Label) → P ((placed_or_first main o).target label)
    or_first-leads None leads label = first
    or_first-leads (Some at) leads label = leads label

    -- it holds of the targets of every instruction
    pub placed-leads : (address : Address) (label : Label) → P ((placed main address).target label)
    unfolding placed
    placed-leads address = or_first-leads (placed_at main address) (placed_at-leads address)

-- main begins with the first of its addresses
pub beginning-first : (main : Items) → beginning main ≡ first_or (places main) []
unfolding beginning
beginning-first main = first_of-places main [] 0 []

-- and its number is 0
first_or-number : (list : List Address) → 1 ≤ length list → number_in list (first_or list []) ≡ 0
first_or-number [] some = absurd (omega arith)
first_or-number (place ∷ list) some = number_in-first place list

first_or-among : (list : List Address) → 1 ≤ length list → IsAmong list (first_or list [])
first_or-among [] some = absurd (omega arith)
first_or-among (place ∷ list) some = inl refl

-- the fact that matters: an address has its place in the list
abbrev pub HasPlace : List Address → Address → Type 0
HasPlace list address = slice_get list (number_in list address) ≡ Some address

module _ (main : Items) (some : 1 ≤ length (places main)) where
  pub beginning-number : number_in (places main) (beginning main) ≡ 0
  beginning-number = ap (number_in (places main)) (beginning-first main) ∙ first_or-number (places main) some

  pub beginning-place : HasPlace (places main) (beginning main)
  beginning-place = number_in-found (places main) (beginning main) (subst (IsAmong (places main)) (sym (beginning-first main)) (first_or-among (places main) some))

  -- every label leads to an address of the program
  pub target-place : (address : Address) (label : Label) → HasPlace (places main) ((placed main address).target label)
  unfolding beginning
  target-place = placed-leads (HasPlace (places main)) main (HoldsIn-all (HasPlace (places main)) main [] 0 (number_in-found (places main))) beginning-place
