-- What a worker does with a ticket.
use Rattle.std.proofs.Common.{◌≡◌, ◌≢◌, ℕ, suc, ◌+◌, ◌-◌, ◌<◌, ◌≤◌, Bool, true, false, cond, nat_eq, nat_le, nat_lt, List, [], ◌∷◌, ◌++◌, map, length, Some, sym, refl, ap, ap₂, ◌∙◌, subst, arith, length-append, lt_of_not-le, Option}
use Rattle.std.proofs.lemmas.List.{length-map, map-append}
use native.Mathlib.Decide.{dec_le}
use Rattle.std.specs.List.{AllByRecursion}
use Rattle.std.proofs.lemmas.Bool.{and_from, and_parts, false≢true, le-leb, le-ltb, leb-true, lt-ltb}
use Rattle.cell_world.specs.Cell.{one_if}
use Rattle.cell_world.specs.World.{World}
use Rattle.ant_turn.specs.Minds.{Minds}
use Rattle.spec_record.specs.Look.{look_of}
use Rattle.round_book.specs.Book.{BookValue, FieldValue, IsLentFor, IsSameWindow, StandsFor, StandsOn, window_of}
use Rattle.round_book.specs.Machine.{times}
use Rattle.round_book.specs.Window.{Window, guess_for, look_for}
use Rattle.round_workers.specs.declared.board.view.View.{View}
use Rattle.round_workers.specs.BoardPlays.{drew, has_put}
use Rattle.round_workers.specs.BoardView.{window_about}
use Rattle.round_workers.specs.BoardWorker.{HasServed, IsSameButTook, IsWorker, ascends, those_below, turns_in}
use Rattle.round_workers.proofs.BoardTotalLemmas.{late-append, late-one, other-none, same-one, times-append}

-- numbers in order, and one more above them
ascends-snoc : (least t : ℕ) (xs : List ℕ) → least ≤ t → ascends least xs ≡ true → AllByRecursion (λ k. k < t) xs → ascends least (xs ++ t ∷ []) ≡ true
ascends-snoc least t [] le up all = and_from (nat_le least t) true (le-leb least t le) refl
ascends-snoc least t (x ∷ xs) le up all =
    let both = and_parts (nat_le least x) (ascends (x + 1) xs) up in and_from (nat_le least x) (ascends (x + 1) (xs ++ t ∷ [])) both.0 (ascends-snoc (x + 1) t xs (let l : x < t = all.0 in omega arith) both.1 all.1)

-- numbers in order that are below t are no more than t
ascends-length : (least t : ℕ) (xs : List ℕ) → least ≤ t → ascends least xs ≡ true → AllByRecursion (λ k. k < t) xs → length xs + least ≤ t
ascends-length least t [] le up all = omega arith
ascends-length least t (x ∷ xs) le up all =
    let both = and_parts (nat_le least x) (ascends (x + 1) xs) up in let l : x < t = all.0 in let rest = ascends-length (x + 1) t xs (omega arith) both.1 all.1 in let from = leb-true least x both.0 in omega arith

-- one more element, or none
keep-snoc : (b : Bool) (x t : ℕ) (l m : List ℕ) → l ≡ m ++ t ∷ [] → cond b (x ∷ l) l ≡ cond b (x ∷ m) m ++ t ∷ []
keep-snoc true x t l m e = ap (λ (z : List ℕ). x ∷ z) e
keep-snoc false x t l m e = e

keep-length : (b : Bool) (x n : ℕ) (l : List ℕ) → length l ≤ n → length (cond b (x ∷ l) l) ≤ suc n
keep-length true x n l le = omega arith
keep-length false x n l le = omega arith

keep-times : (b : Bool) (x k n : ℕ) (l : List ℕ) → times k l ≤ n → times k (cond b (x ∷ l) l) ≤ one_if (nat_eq x k) + n
keep-times true x k n l le = omega arith
keep-times false x k n l le = omega arith

-- of a list and one more, those below n
those_below-early : (n t : ℕ) (xs : List ℕ) → t < n → those_below n (xs ++ t ∷ []) ≡ those_below n xs ++ t ∷ []
those_below-early n t [] h = ap (λ (b : Bool). cond b (t ∷ []) []) (lt-ltb t n h)
those_below-early n t (x ∷ xs) h = keep-snoc (nat_lt x n) x t (those_below n (xs ++ t ∷ [])) (those_below n xs) (those_below-early n t xs h)

those_below-late : (n t : ℕ) (xs : List ℕ) → n ≤ t → those_below n (xs ++ t ∷ []) ≡ those_below n xs
those_below-late n t [] h = ap (λ (b : Bool). cond b (t ∷ []) []) (le-ltb t n h)
those_below-late n t (x ∷ xs) h = ap (λ (z : List ℕ). cond (nat_lt x n) (x ∷ z) z) (those_below-late n t xs h)

those_below-length : (n : ℕ) (xs : List ℕ) → length (those_below n xs) ≤ length xs
those_below-length n [] = omega arith
those_below-length n (x ∷ xs) = keep-length (nat_lt x n) x (length xs) (those_below n xs) (those_below-length n xs)

times-those_below : (n k : ℕ) (xs : List ℕ) → times k (those_below n xs) ≤ times k xs
times-those_below n k [] = omega arith
times-those_below n k (x ∷ xs) = keep-times (nat_lt x n) x k (times k xs) (those_below n xs) (times-those_below n k xs)

within-one : (n k x m : ℕ) (l : List ℕ) → k < n → times k l ≡ m → Dec (n ≤ x) → times k (cond (nat_lt x n) (x ∷ l) l) ≡ one_if (nat_eq x k) + m
within-one n k x m l h e (yes le) = ap (λ (b : Bool). times k (cond b (x ∷ l) l)) (le-ltb x n le) ∙ (let not_it = other-none x k (λ d. omega arith) in omega arith)
within-one n k x m l h e (no gt) = ap (λ (b : Bool). times k (cond b (x ∷ l) l)) (lt-ltb x n (lt_of_not-le gt)) ∙ (omega arith)

pub times-within : (n k : ℕ) (xs : List ℕ) → k < n → times k (those_below n xs) ≡ times k xs
times-within n k [] h = refl
times-within n k (x ∷ xs) h = within-one n k x (times k xs) (those_below n xs) h (times-within n k xs h) (dec_le n x)

-- a number above all of a list isn't in it
times-above : (t : ℕ) (xs : List ℕ) → AllByRecursion (λ k. k < t) xs → times t xs ≡ 0
times-above t [] all = refl
times-above t (x ∷ xs) all = let l : x < t = all.0 in let not_it = other-none x t (λ e. omega arith) in let rest = times-above t xs all.1 in omega arith

module _ (v : View) (made : List ℕ) (is : IsWorker v made) (t : ℕ) (above : AllByRecursion (λ k. k < t) v.drawn) where
  abbrev turns : ℕ
  turns = turns_in (window_about v.about)

  -- what it put is no more than what it drew
  pub made-few : length made ≤ t
  made-few = let put_few = those_below-length turns v.drawn in let drawn_few = ascends-length 0 t v.drawn (omega arith) is.in_order above in
      let a : length made ≡ length v.put = ap length is.made_them ∙ length-map v.put (λ k. (window_about v.about).from + k) in let b : length v.put ≡ length (those_below turns v.drawn) = ap length is.puts in omega arith

  -- it didn't put the look of a new ticket
  pub unput : times t v.put ≡ 0
  unput = let a : times t v.put ≡ times t (those_below turns v.drawn) = ap (times t) is.puts in let b = times-those_below turns t v.drawn in let d = times-above t v.drawn above in omega arith

  pub new-drawn : 1 ≤ times t (v.drawn ++ t ∷ [])
  new-drawn = let a = times-append t v.drawn (t ∷ []) in let b = same-one t t refl in omega arith

  -- a worker that drew a ticket after the window
  pub worker-late : turns_in (window_about v.about) ≤ t → IsWorker (drew v t) made
  worker-late le = record { other = is.other; free = is.free; alone = is.alone; in_order = ascends-snoc 0 t v.drawn (omega arith) is.in_order above; puts = is.puts ∙ sym (those_below-late turns t v.drawn le); made_them = is.made_them }

  pub served-late : turns_in (window_about v.about) ≤ t → HasServed (turns_in (window_about v.about)) v (drew v t) false
  served-late le = record {
    about = refl;
    number = refl;
    opened = refl;
    drew = length-append v.drawn (t ∷ []);
    early = λ e. absurd (false≢true e);
    late = λ e. (let a = late-append turns v.drawn (t ∷ []) in let b = late-one turns t le in omega arith);
    tries = omega arith;
  }

  -- a worker that drew a turn's ticket, put its look, and tried
  module _ (within : t < turns_in (window_about v.about)) (w : View) (same : IsSameButTook (has_put (drew v t) t) w) (tried : v.tries + 1 ≤ w.tries) where
    pub worker-more : IsWorker w (made ++ ((window_about v.about).from + t) ∷ [])
    worker-more =
        let from : ℕ = (window_about v.about).from in let put : v.put ++ t ∷ [] ≡ those_below turns (v.drawn ++ t ∷ []) = ap (λ (l : List ℕ). l ++ t ∷ []) is.puts ∙ sym (those_below-early turns t v.drawn within) in record {
          other = subst (λ (k : ℕ). k ≢ 0) (sym same.number) is.other;
          free = same.holds ∙ is.free;
          alone = same.parts ∙ (is.alone ∙ ap (λ (k : ℕ). k ∷ []) (sym same.number));
          in_order = ap (ascends 0) same.drawn ∙ ascends-snoc 0 t v.drawn (omega arith) is.in_order above;
          puts = same.put ∙ (put ∙ ap₂ (λ (z : Option _) (l : List ℕ). those_below (turns_in (window_about z)) l) (sym same.about) (sym same.drawn));
          made_them = ap (λ (l : List ℕ). l ++ (from + t) ∷ []) is.made_them ∙ (sym (map-append (λ k. from + k) v.put (t ∷ [])) ∙ ap₂ (λ (z : Option _) (l : List ℕ). map (λ k. (window_about z).from + k) l) (sym same.about) (sym same.put));
        }

    early-then : (a b : ℕ) → a < b → (xs : List ℕ) → AllByRecursion (λ k. k < a) xs → AllByRecursion (λ k. k < b) (xs ++ a ∷ [])
    early-then a b h [] all = (h, tt)
    early-then a b h (x ∷ xs) all = ((let l : x < a = all.0 in let r : x < b = omega arith in r), early-then a b h xs all.1)

    pub served-more : HasServed (turns_in (window_about v.about)) v w true
    served-more = record {
      about = same.about;
      number = same.number;
      opened = same.opened;
      drew = ap length same.drawn ∙ length-append v.drawn (t ∷ []);
      early = λ e. subst (AllByRecursion (λ k. k < turns)) (sym same.drawn) (early-then t turns within v.drawn above);
      late = λ e. absurd (false≢true (sym e));
      tries = (let a : length w.put ≡ length v.put + 1 = ap length same.put ∙ length-append v.put (t ∷ []) in omega arith);
    }

-- the same, of a seat that is said to be so
pub late-is : (v w : View) (made : List ℕ) (t n : ℕ) → n ≡ turns_in (window_about v.about) → IsWorker v made → w ≡ drew v t → AllByRecursion (λ k. k < t) v.drawn → n ≤ t → IsWorker w made
late-is v w made t n same is drew_it above le = subst (λ (u : View). IsWorker u made) (sym drew_it) (worker-late v made is t above (subst (λ (m : ℕ). m ≤ t) same le))

pub late-served : (v w : View) (made : List ℕ) (t n : ℕ) → n ≡ turns_in (window_about v.about) → IsWorker v made → w ≡ drew v t → AllByRecursion (λ k. k < t) v.drawn → n ≤ t → HasServed n v w false
late-served v w made t n same is drew_it above le = subst (λ (u : View). HasServed n v u false) (sym drew_it)
    (subst (λ (m : ℕ). HasServed m v (drew v t) false) (sym same) (served-late v made is t above (subst (λ (m : ℕ). m ≤ t) same le)))

-- a seat that drew a turn's ticket, put its look and tried
module _ (v drawn put w : View) (made : List ℕ) (t n : ℕ) (same_n : n ≡ turns_in (window_about v.about)) (is : IsWorker v made) (drew_it : drawn ≡ drew v t) (above : AllByRecursion (λ k. k < t) v.drawn) (within : t < n)
    (put_it : put ≡ has_put drawn t) (same : IsSameButTook put w) (tried : put.tries + 1 ≤ w.tries) where
  put-is : put ≡ has_put (drew v t) t
  put-is = put_it ∙ ap (λ (u : View). has_put u t) drew_it

  same-is : IsSameButTook (has_put (drew v t) t) w
  same-is = subst (λ (u : View). IsSameButTook u w) put-is same

  tried-is : v.tries + 1 ≤ w.tries
  tried-is = let a : put.tries ≡ v.tries = ap (λ (u : View). u.tries) put-is in omega arith

  pub more-is : (new : List ℕ) (turn from : ℕ) → from ≡ (window_about v.about).from → turn ≡ from + t → new ≡ made ++ turn ∷ [] → IsWorker w new
  more-is new turn from begins turn_is new_is = subst (IsWorker w) (sym (new_is ∙ ap (λ (m : ℕ). made ++ m ∷ []) (turn_is ∙ ap (λ (m : ℕ). m + t) begins)))
      (worker-more v made is t above (subst (λ (m : ℕ). t < m) same_n within) w same-is tried-is)

  pub more-served : HasServed n v w true
  more-served = subst (λ (m : ℕ). HasServed m v w true) (sym same_n) (served-more v made is t above (subst (λ (m : ℕ). t < m) same_n within) w same-is tried-is)

-- a book stands on a field that is lent for a window exactly if it stands for the window
module _ (field : FieldValue) (window : Window) (lent : IsLentFor field window) where
  its-window : (book : BookValue) → book.from ≡ window.from → book.to ≡ window.to → window_of field book.from book.to ≡ window
  its-window book a b = ap₂ (window_of field) a b ∙ lent.same

  pub on-for : (book : BookValue) → StandsFor window book → StandsOn field book
  on-for book for = let one = its-window book for.stands.from for.stands.to in
      record { lent = lent.lent ∙ ap₂ (λ (from to : ℕ). Some (from, to)) (sym for.stands.from) (sym for.stands.to); stands = subst (λ (w : Window). StandsFor w book) (sym one) for }

  pub for-on : (old book : BookValue) → StandsFor window old → IsSameWindow old book → StandsOn field book → StandsFor window book
  for-on old book for same on = let one = its-window book (same.from ∙ for.stands.from) (same.to ∙ for.stands.to) in
      subst (λ (w : Window). StandsFor w book) one on.stands

-- the look of a window, from what it is built from
pub look-so : (window : Window) (t g seed : ℕ) (minds : Minds) (base : World) → minds ≡ window.minds → seed ≡ window.seed → base ≡ window.base → g ≡ guess_for window t → look_of minds seed base g t ≡ look_for window t
unfolding look_for
look-so window t g seed minds base em es eb eg = λ k. look_of (em k) (es k) (eb k) (eg k) t

-- a field that is lent for a window has it, between the window's ends
pub window_at : (field : FieldValue) (window : Window) → IsLentFor field window → (from to : ℕ) → from ≡ window.from → to ≡ window.to → window_of field from to ≡ window
window_at field window lent from to a b = ap₂ (window_of field) a b ∙ lent.same

-- a worker that continues has fewer tickets left
pub fewer : (n : ℕ) (v w : View) (made : List ℕ) → IsWorker w made → HasServed n v w true → n + 1 - length w.drawn < n + 1 - length v.drawn
fewer n v w made is served = let long = ascends-length 0 n w.drawn (omega arith) is.in_order (served.early refl) in let one = served.drew in omega arith

-- what a worker put is what it drew, within the window
pub put-drawn : (v : View) (made : List ℕ) (n k : ℕ) → n ≡ turns_in (window_about v.about) → IsWorker v made → k < n → times k v.put ≡ times k v.drawn
put-drawn v made n k same is h = ap (times k) is.puts ∙ times-within (turns_in (window_about v.about)) k v.drawn (subst (λ (m : ℕ). k < m) same h)
