-- Bytes and the kinds for which they stand.
use Rattle.std.proofs.Common.{◌≡◌, ℕ, ◌+◌, ◌-◌, ◌≤◌, true, ◌&&◌, eqb, leb, Option, Some, refl, ap, subst, arith}
use Rattle.std.proofs.lemmas.Bool.{and_parts, cond_both, eqb-true, leb-true, le-leb, ne_eqb}
use Rattle.cell_world.specs.declared.kind.Kind.{Kind}
use Rattle.cell_world.specs.declared.kind.Kind.TheVariants.{Rock, Clear, RedHill, BlackHill, Food}
use Rattle.cell_world.specs.Opening.{IsFed}
use Rattle.world_read.specs.Bytes.{byte_of}
use Rattle.world_read.specs.Inner.Reading.{kind_of}

-- a byte is that of this kind, whose food is in range
pub record Spells (byte : ℕ) (kind : Kind) : Type 0 where
  pub is : byte ≡ byte_of kind
  pub fed : IsFed kind

-- if a byte stands for a kind, it is that kind's byte
abbrev Stands : ℕ → Option Kind → Type 0
Stands byte told = (kind : Kind) → told ≡ Some kind → Spells byte kind

stands : (byte : ℕ) (kind : Kind) → byte ≡ byte_of kind → IsFed kind → Stands byte (Some kind)
stands byte kind is fed = λ other same. let one : kind ≡ other = cc in subst (Spells byte) one (record { is = is; fed = fed })

stands-digit : (byte : ℕ) → (leb 49 byte && leb byte 57) ≡ true → Stands byte (Some (Food (byte - 48)))
stands-digit byte digit =
    let both = and_parts (leb 49 byte) (leb byte 57) digit in
    let low : 49 ≤ byte = leb-true 49 byte both.0 in
    let high : byte ≤ 57 = leb-true byte 57 both.1 in
    let same : byte ≡ 48 + (byte - 48) = omega arith in
    let least : 1 ≤ byte - 48 = omega arith in
    let most : byte - 48 ≤ 9 = omega arith in
    stands byte (Food (byte - 48)) same (least, most)

-- the kind for which a byte stands has that byte
pub command_kind_of-known : (byte : ℕ) (kind : Kind) → kind_of byte ≡ Some kind → Spells byte kind
command_kind_of-known byte =
    cond_both (eqb byte 35) _ _ (Stands byte) (λ e. stands byte Rock (eqb-true byte 35 e) tt) λ _.
    cond_both (eqb byte 46) _ _ (Stands byte) (λ e. stands byte Clear (eqb-true byte 46 e) tt) λ _.
    cond_both (eqb byte 43) _ _ (Stands byte) (λ e. stands byte RedHill (eqb-true byte 43 e) tt) λ _.
    cond_both (eqb byte 45) _ _ (Stands byte) (λ e. stands byte BlackHill (eqb-true byte 45 e) tt) λ _.
    cond_both (leb 49 byte && leb byte 57) _ _ (Stands byte) (λ e. stands-digit byte e) (λ _ kind none. absurd (cc))

-- the byte of a kind stands for it
pub kind_of-byte_of : (kind : Kind) → IsFed kind → kind_of (byte_of kind) ≡ Some kind
kind_of-byte_of Rock fed = refl
kind_of-byte_of Clear fed = refl
kind_of-byte_of RedHill fed = refl
kind_of-byte_of BlackHill fed = refl
kind_of-byte_of (Food n) fed =
    let least : 1 ≤ n = fed.0 in
    let most : n ≤ 9 = fed.1 in
    let same : 48 + n - 48 ≡ n = omega arith in
    rw (ne_eqb (48 + n) 35 (omega arith), ne_eqb (48 + n) 46 (omega arith), ne_eqb (48 + n) 43 (omega arith), ne_eqb (48 + n) 45 (omega arith), le-leb 49 (48 + n) (omega arith), le-leb (48 + n) 57 (omega arith))
    (ap (λ m. Some (Food m)) same)
