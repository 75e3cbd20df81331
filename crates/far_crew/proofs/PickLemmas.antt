-- Picks: each names the look at its turn.
use Rattle.std.proofs.Common.{◌≡◌, inl, inr, ℕ, ◌+◌, ◌-◌, ◌<◌, ◌≤◌, true, List, [], ◌∷◌, ◌++◌, length, get_or, set, slice_get, Option, Some, None, refl, sym, ◌∙◌, ap, subst, arith}
use Rattle.std.specs.Option.{is_some}
use Rattle.std.proofs.lemmas.Bool.{cases_eq}
use Rattle.std.proofs.lemmas.List.{get_or-set_other, get_or-set_same}
use Rattle.std.proofs.lemmas.Option.{slice_get_past, slice_get_read, slice_get_within}
use Rattle.list_lemmas.proofs.Entries.{slice_get-front, slice_get-last}
use Rattle.cell_world.proofs.Patches.{some_one}
use Rattle.round_book.specs.Book.{FieldValue, window_of}
use Rattle.round_book.specs.Window.{Window, look_for}
use Rattle.spec_record.specs.Look.{LookValue}
use Rattle.far_crew.specs.declared.channels.WorkerChannels.{WorkerChannels}
use Rattle.far_crew.specs.declared.pick.Pick.{Pick}
use Rattle.far_crew.specs.declared.pick.Pick.TheVariants.{Theirs, Own}
use Rattle.far_crew.specs.Inner.Picks.{AreFilled, AreNone, ArePicked, look_named, looks_in, looks_of_answer, looks_of_line}
use Rattle.far_crew.specs.Jobs.{FoundValue}

-- a pick of one look more among the own ones
look_named-grown : (lines : List WorkerChannels) (own more : List LookValue) (pick : Pick) (look : LookValue) → look_named lines own pick ≡ Some look → look_named lines (own ++ more) pick ≡ Some look
look_named-grown lines own more (Theirs line at) look is = is
look_named-grown lines own more (Own at) look is = slice_get-front own more at (slice_get_within own at look is) ∙ is

module _ (lines : List WorkerChannels) (own : List LookValue) (window : Window) where
  -- no turn has a pick
  pub none_picked : (picks : List (Option Pick)) → AreNone picks → ArePicked lines own picks window
  none_picked picks none j pick is = let e : None ≡ Some pick = sym (none j) ∙ is in absurd (cc)

  -- one pick more
  pub ArePicked-set : (picks : List (Option Pick)) (turn : ℕ) (pick : Pick) → turn < length picks → ArePicked lines own picks window → look_named lines own pick ≡ Some (look_for window (window.from + turn)) → ArePicked lines own (set picks turn (Some pick)) window
  ArePicked-set picks turn pick within picked named j other is =
      elim (cases_eq j turn) [
        | inl at ↦
            let here : get_or (set picks turn (Some pick)) j None ≡ Some pick = ap (λ k. get_or (set picks turn (Some pick)) k None) at ∙ get_or-set_same picks turn (Some pick) None within in
            let one : pick ≡ other = some_one (sym here ∙ is) in
            subst (λ p. look_named lines own p ≡ Some (look_for window (window.from + j))) one (named ∙ ap (λ k. Some (look_for window (window.from + k))) (sym at))
        | inr apart ↦ picked j other (sym (get_or-set_other picks turn j (Some pick) None apart) ∙ is)
      ]

-- the picks stay with one look more among the own ones
pub ArePicked-grown : (lines : List WorkerChannels) (own : List LookValue) (look : LookValue) (picks : List (Option Pick)) (window : Window) → ArePicked lines own picks window → ArePicked lines (own ++ look ∷ []) picks window
ArePicked-grown lines own look picks window picked j pick is = look_named-grown lines own (look ∷ []) pick (look_for window (window.from + j)) (picked j pick is)

-- the picks of a window's turns are those of the same turns under other names
pub ArePicked-same : (lines : List WorkerChannels) (own : List LookValue) (picks : List (Option Pick)) (field : FieldValue) (from to first last : ℕ) → first ≡ from → last ≡ to → ArePicked lines own picks (window_of field from to) → ArePicked lines own picks (window_of field first last)
ArePicked-same lines own picks field from to first last begins ends picked =
    subst (λ i. ArePicked lines own picks (window_of field i last)) (sym begins) (subst (λ i. ArePicked lines own picks (window_of field from i)) (sym ends) picked)

-- and so are those of the same lines, looks and picks
pub ArePicked-so : (lines lines' : List WorkerChannels) (own own' : List LookValue) (picks picks' : List (Option Pick)) (window window' : Window) → lines' ≡ lines → own' ≡ own → picks' ≡ picks → window' ≡ window → ArePicked lines own picks window → ArePicked lines' own' picks' window'
ArePicked-so lines lines' own own' picks picks' window window' same_lines same_own same_picks same_window picked =
    subst (λ l. ArePicked l own' picks' window') (sym same_lines)
    (subst (λ l. ArePicked lines l picks' window') (sym same_own)
    (subst (λ l. ArePicked lines own l window') (sym same_picks)
    (subst (ArePicked lines own picks) (sym same_window) picked)))

-- a look of one's own is made and picked
pub ArePicked-own : (lines : List WorkerChannels) (own new : List LookValue) (look : LookValue) (picks : List (Option Pick)) (window : Window) (turn t at : ℕ) → turn < length picks → at ≡ length own → t ≡ window.from + turn → look ≡ look_for window t → new ≡ own ++ look ∷ [] →
    ArePicked lines own picks window → ArePicked lines new (set picks turn (Some (Own at))) window
ArePicked-own lines own new look picks window turn t at within last here is grown picked =
    let named : slice_get new at ≡ Some (look_for window (window.from + turn)) =
    ap (λ (l : List LookValue). slice_get l at) grown ∙ ap (λ i. slice_get (own ++ look ∷ []) i) last ∙ slice_get-last own look ∙ ap Some is ∙ ap (λ k. Some (look_for window k)) here in
    ArePicked-set lines new window picks turn (Own at) within (subst (λ l. ArePicked lines l picks window) (sym grown) (ArePicked-grown lines own look picks window picked)) named

pub AreFilled-more : (picks : List (Option Pick)) (n k : ℕ) → k ≡ n + 1 → AreFilled picks n → is_some (get_or picks n None) ≡ true → AreFilled picks k
AreFilled-more picks n k next filled has j early =
    elim (cases_eq j n) [
      | inl at ↦ ap (λ i. is_some (get_or picks i None)) at ∙ has
      | inr apart ↦ filled j (omega arith)
    ]

pub AreFilled-set : (picks : List (Option Pick)) (n k : ℕ) (pick : Pick) → k ≡ n + 1 → n < length picks → AreFilled picks n → AreFilled (set picks n (Some pick)) k
AreFilled-set picks n k pick next within filled =
    AreFilled-more (set picks n (Some pick)) n k next
    (λ j early. ap is_some (get_or-set_other picks n j (Some pick) None (λ at. omega arith)) ∙ filled j early)
    (ap is_some (get_or-set_same picks n (Some pick) None within))

-- the turns up to one of a window have picks, if those before it do and it has one
module _ (picks : List (Option Pick)) (from to id : ℕ) (first : from ≤ id) (last : id < to) (filled : AreFilled picks (id - from)) where
  pub AreFilled-kept : is_some (get_or picks (id - from) None) ≡ true → AreFilled picks (id + 1 - from)
  AreFilled-kept has = AreFilled-more picks (id - from) (id + 1 - from) (omega arith) filled has

  pub AreFilled-own : (pick : Pick) → length picks ≡ to - from → AreFilled (set picks (id - from) (Some pick)) (id + 1 - from)
  AreFilled-own pick count = AreFilled-set picks (id - from) (id + 1 - from) pick (omega arith) (omega arith) filled

-- the looks of a line that has an answer
pub looks_in_some : (lines : List WorkerChannels) (i : ℕ) (line : WorkerChannels) (found : FoundValue) → i < length lines → line ≡ get_or lines i line → line.found ≡ Some found → looks_in lines i ≡ found.looks
looks_in_some lines i line found within is answered = ap looks_of_line (slice_get_read lines (length lines) i line refl within is) ∙ ap looks_of_answer answered

pub looks_in_none : (lines : List WorkerChannels) (i : ℕ) (line : WorkerChannels) → i < length lines → line ≡ get_or lines i line → line.found ≡ None → looks_in lines i ≡ []
looks_in_none lines i line within is none = ap looks_of_line (slice_get_read lines (length lines) i line refl within is) ∙ ap looks_of_answer none

pub looks_in_past : (lines : List WorkerChannels) (i : ℕ) → length lines ≤ i → looks_in lines i ≡ []
looks_in_past lines i past = ap looks_of_line (slice_get_past lines i past)
