-- Pushes one after another.
use Rattle.std.proofs.Common.{◌≡◌, ℕ, ◌+◌, ◌-◌, ◌≤◌, Bool, true, ◌&&◌, nat_lt, ◌==◌, List, [], ◌∷◌, ◌++◌, length, slice_index, take, drop, Some, None, Ok, Err, Option, option_map, Result, refl, sym, ◌∙◌, ap, append_assoc, append-nil, take-append-drop, arith}
use Rattle.std.proofs.lemmas.Bool.{false≢true, lt-ltb}
use Rattle.std.proofs.lemmas.List.{get_or-append-add, length-append}
use Rattle.list_lemmas.proofs.Elements.{append-empty}
use Rattle.ant_base.specs.declared.sink.Failed.{Failed}
use Rattle.ant_base.specs.Lines.{ends_in_lf}
use Rattle.ant_base.specs.Faults.{Rose}
use Rattle.ant_base.specs.Sink.{SinkState, NothingWaits, PushedAll, PushedFront, Pushed}

-- the bytes held after some more, if they are reported
abbrev with_more : Option (List ℕ) → List ℕ → Option (List ℕ)
with_more held more = option_map (λ bytes. bytes ++ more) held

with_more-with_more : (held : Option (List ℕ)) (a b : List ℕ) → with_more (with_more held a) b ≡ with_more held (a ++ b)
with_more-with_more None a b = refl
with_more-with_more (Some held) a b = ap Some (append_assoc held a b)

pub rose_later : (before mid now : ℕ) → before ≤ mid → Rose mid now → Rose before now
rose_later before mid now le rose = omega arith

-- a prefix of a text is a prefix of a longer one
pub front_more : (old new : SinkState) (a b : List ℕ) → PushedFront old new a → PushedFront old new (a ++ b)
front_more old new a b p = record {
  front = p.front;
  rest = p.rest ++ b;
  whole = ap (λ t. t ++ b) p.whole ∙ append_assoc p.front p.rest b;
  held = p.held;
  rose = p.rose;
  later = p.later;
}

-- one text, and then a prefix of another
pub front_then : (old mid new : SinkState) (a b : List ℕ) → PushedAll old mid a → PushedFront mid new b → PushedFront old new (a ++ b)
front_then old mid new a b p q = record {
  front = a ++ q.front;
  rest = q.rest;
  whole = ap (λ t. a ++ t) q.whole ∙ sym (append_assoc a q.front q.rest);
  held = q.held ∙ ap (λ h. with_more h q.front) p.held ∙ with_more-with_more old.held a q.front;
  rose = (let quiet = p.quiet in let rose = q.rose in omega arith);
  later = (let quiet = p.quiet in let later = q.later in omega arith);
}

-- a text that continues is ended by what it continues with
pub ends_in_lf-append : (a : List ℕ) (byte : ℕ) (b : List ℕ) → ends_in_lf (a ++ byte ∷ b) ≡ ends_in_lf (byte ∷ b)
ends_in_lf-append a byte b =
    let more = length-append a (byte ∷ b) in
    let last : length (a ++ byte ∷ b) - 1 ≡ length a + length b = omega (arith, more) in
    let back : length (byte ∷ b) - 1 ≡ length b = omega arith in
    let some : nat_lt 0 (length (a ++ byte ∷ b)) ≡ true = lt-ltb 0 (length (a ++ byte ∷ b)) (omega (arith, more)) in
    let also : nat_lt 0 (length (byte ∷ b)) ≡ true = lt-ltb 0 (length (byte ∷ b)) (omega arith) in
    ap (λ (t : Bool). t && (slice_index (a ++ byte ∷ b) (length (a ++ byte ∷ b) - 1) == 10)) some
    ∙ ap (λ (n : ℕ). slice_index (a ++ byte ∷ b) n == 10) last
    ∙ ap (λ (last : ℕ). last == 10) (get_or-append-add a (byte ∷ b) (length b) 0)
    ∙ sym (ap (λ (t : Bool). t && (slice_index (byte ∷ b) (length (byte ∷ b) - 1) == 10)) also ∙ ap (λ (n : ℕ). slice_index (byte ∷ b) n == 10) back)

flushed_then : (old mid new : SinkState) (a b : List ℕ) → PushedAll old mid a → PushedAll mid new b → ends_in_lf (a ++ b) ≡ true → NothingWaits new.waiting
flushed_then old mid new a [] p q ends = q.kept refl (p.flushed (ap ends_in_lf (sym (append-nil a)) ∙ ends))
flushed_then old mid new a (byte ∷ b) p q ends = q.flushed (sym (ends_in_lf-append a byte b) ∙ ends)

-- one text, and then another
pub all_then : (old mid new : SinkState) (a b : List ℕ) → PushedAll old mid a → PushedAll mid new b → PushedAll old new (a ++ b)
all_then old mid new a b p q = record {
  held = q.held ∙ ap (λ h. with_more h b) p.held ∙ with_more-with_more old.held a b;
  quiet = q.quiet ∙ p.quiet;
  flushed = flushed_then old mid new a b p q;
  kept = λ none waits. q.kept (append-empty a b none).1 (p.kept (append-empty a b none).0 waits);
}

-- one text, and then a push of another
pub pushed_then : (old mid new : SinkState) (a b : List ℕ) (result : Result (Unit {0}) Failed) → PushedAll old mid a → Pushed mid new b result → Pushed old new (a ++ b) result
pushed_then old mid new a b (Ok _) p q = all_then old mid new a b p q
pushed_then old mid new a b (Err _) p q = front_then old mid new a b p q

with_more-nothing : (held : Option (List ℕ)) → held ≡ with_more held []
with_more-nothing None = refl
with_more-nothing (Some held) = ap Some (sym (append-nil held))

-- nothing is pushed
pub all_of_nothing : (state : SinkState) → PushedAll state state []
all_of_nothing state = record { held = with_more-nothing state.held; quiet = refl; flushed = λ ends. absurd (false≢true ends); kept = λ none waits. waits }

-- the first bytes of a text are a prefix of it
pub front_of_first : (old new : SinkState) (text : List ℕ) (n : ℕ) → new.held ≡ with_more old.held (take n text) → Rose old.faults new.faults → old.faults ≤ new.faults → PushedFront old new text
front_of_first old new text n held rose later = record {
  front = take n text;
  rest = drop n text;
  whole = sym (take-append-drop n text);
  held = held;
  rose = rose;
  later = later;
}
