-- The status of a call, by how its run ended and whether the text and the line have room.
use Rattle.std.proofs.Common.{◌≡◌, ◌≤◌, ◌<◌, ◌^◌, ◌∙◌, ◌&&◌, ℕ, Bool, true, false, cond, nat_le, List, length, refl, sym, ap, arith, leb-true}
use Rattle.std.specs.Prelude.{unwrap_or}
use Rattle.ant_commands.specs.FaultLines.{Ending, ending_status}
use Rattle.ant_commands.specs.Status.{status_number}
use Rattle.ant_commands.specs.declared.status.Status.TheVariants.{Write}
use Rattle.ants_c.specs.Called.{IsCalled, Lent, Runs, have_room}
use Rattle.ants_c.specs.Ended.{ending_fault}
use Rattle.ants_c.specs.Rooms.{counted, overlaid}
use Rattle.ants_c.proofs.Overlaid.{overlaid-length}

same_test : (a b c : ℕ) → (a ≤ c → b ≤ c) → (b ≤ c → a ≤ c) → nat_le a c ≡ nat_le b c
same_test a b c there back = go (nat_le a c) refl (nat_le b c) refl
  where
    go : (d : Bool) → nat_le a c ≡ d → (e : Bool) → nat_le b c ≡ e → nat_le a c ≡ nat_le b c
    go true is true also = is ∙ sym also
    go false is false also = is ∙ sym also
    go true is false also = let under = there (leb-true a c is) in absurd (grind (arith, under, also))
    go false is true also = let under = back (leb-true b c also) in absurd (grind (arith, under, is))

-- a text that was laid over a room is no longer than it, by the count of its bytes, exactly if it is by its length
counted_fits : (text room laid : List ℕ) (used : ℕ) → laid ≡ overlaid room text → used ≡ counted text → length laid < 2 ^ 63 → nat_le used (length laid) ≡ nat_le (length text) (length room)
counted_fits text room laid used over count short =
    let same : length laid ≡ length room = ap length over ∙ overlaid-length room text in
    ap (λ (n : ℕ). nat_le used n) same
    ∙ same_test used (length text) (length room) (λ under. omega (arith, under, same, short, count)) (λ under. omega (arith, under, same, short, count))

pub is_called : (words names : List (List ℕ)) (files : List (List ℕ × List ℕ)) (text line : List ℕ) (ending : Ending) (before after : Lent) (status : ℕ) (fit : Bool)
    → Runs words files text line ending → (ending_status ending ≡ Write → ⊥)
    → after.out ≡ overlaid before.out text → after.used ≡ counted text → after.said ≡ overlaid before.said line → after.told ≡ counted line
    → length after.out < 2 ^ 63 → length after.said < 2 ^ 63 → fit ≡ (nat_le after.used (length after.out) && nat_le after.told (length after.said))
    → status ≡ cond fit (status_number (ending_status ending)) 4
    → after.fault ≡ cond fit (unwrap_or (ending_fault words names ending) before.fault) before.fault
    → IsCalled words names files before after status
is_called words names files text line ending before after status fit runs unfailing out used said told short_out short_said fits answered faulted =
    let first = counted_fits text before.out after.out after.used out used short_out in
    let second = counted_fits line before.said after.said after.told said told short_said in
    let same : fit ≡ have_room text line before = fits ∙ ap (λ (b : Bool). b && nat_le after.told (length after.said)) first ∙ ap (λ (b : Bool). nat_le (length text) (length before.out) && b) second in
    record {
      text = text;
      line = line;
      ending = ending;
      runs = runs;
      unfailing = unfailing;
      written = out;
      count = used;
      reported = said;
      line_count = told;
      answered = answered ∙ ap (λ (b : Bool). cond b (status_number (ending_status ending)) 4) same;
      faulted = faulted ∙ ap (λ (b : Bool). cond b (unwrap_or (ending_fault words names ending) before.fault) before.fault) same;
    }
