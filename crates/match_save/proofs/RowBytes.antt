-- What one byte of a row stands for.
use Rattle.std.proofs.Common.{◌≡◌, ℕ, ◌+◌, ◌-◌, ◌<◌, Bool, true, false, ◌&&◌, cond, eqb, leb, ltb, Some, None, refl, ◌∙◌, ap, arith}
use Rattle.std.proofs.lemmas.Bool.{eqb-true, le-leb, leb-true, lt-ltb, ltb-true, and_parts}
use Rattle.match_save.specs.declared.soil.Soil.{Soil}
use Rattle.match_save.specs.declared.soil.Soil.TheVariants.{Rock, Clear, RedHill, BlackHill}
use Rattle.match_save.specs.Text.{marks_byte, soil_byte}
use Rattle.match_save.specs.Inner.Readers.{Spells}
use Rattle.match_save.specs.Inner.Reading.{soil_of, value_of_byte}

-- every ground is accepted
abbrev pub IsSoil : Soil → Type 0
IsSoil soil = Unit {0}

pub soil-spells : Spells soil_of IsSoil soil_byte
soil-spells = record { parses = parses; accepted = λ byte soil e. tt; spelled = λ byte soil e. known byte soil e } where
  parses : (soil : Soil) → IsSoil soil → soil_of (soil_byte soil) ≡ Some soil
  parses Rock ok = refl
  parses Clear ok = refl
  parses RedHill ok = refl
  parses BlackHill ok = refl

  known : (byte : ℕ) (soil : Soil) → soil_of byte ≡ Some soil → byte ≡ soil_byte soil
  known byte soil e = go (eqb byte 35) refl (eqb byte 46) refl (eqb byte 43) refl (eqb byte 45) refl e where
    go : (a : Bool) → eqb byte 35 ≡ a → (b : Bool) → eqb byte 46 ≡ b → (c : Bool) → eqb byte 43 ≡ c → (d : Bool) → eqb byte 45 ≡ d
        → cond a (Some Rock) (cond b (Some Clear) (cond c (Some RedHill) (cond d (Some BlackHill) None))) ≡ Some soil → byte ≡ soil_byte soil
    go true is_a b is_b c is_c d is_d e = let same : Rock ≡ soil = cc in eqb-true byte 35 is_a ∙ ap soil_byte same
    go false is_a true is_b c is_c d is_d e = let same : Clear ≡ soil = cc in eqb-true byte 46 is_b ∙ ap soil_byte same
    go false is_a false is_b true is_c d is_d e = let same : RedHill ≡ soil = cc in eqb-true byte 43 is_c ∙ ap soil_byte same
    go false is_a false is_b false is_c true is_d e = let same : BlackHill ≡ soil = cc in eqb-true byte 45 is_d ∙ ap soil_byte same
    go false is_a false is_b false is_c false is_d e = absurd (cc)

-- a number that a byte stands for
abbrev pub IsSet : ℕ → Type 0
IsSet set = set < 64

pub value-spells : Spells value_of_byte IsSet marks_byte
value-spells = record {
  parses = λ set ok. rw (le-leb 48 (48 + set) (omega arith), lt-ltb (48 + set) 112 (omega (arith, ok))) (ap Some (let s : 48 + set - 48 ≡ set = omega arith in s));
  accepted = λ byte set e. (known byte set (leb 48 byte && ltb byte 112) refl e).0;
  spelled = λ byte set e. (known byte set (leb 48 byte && ltb byte 112) refl e).1;
} where
  known : (byte set : ℕ) (t : Bool) → (leb 48 byte && ltb byte 112) ≡ t → cond t (Some (byte - 48)) None ≡ Some set → IsSet set × (byte ≡ marks_byte set)
  known byte set false is e = absurd (cc)
  known byte set true is e =
      let same : byte - 48 ≡ set = cc in
      let parts = and_parts (leb 48 byte) (ltb byte 112) is in
      let low = leb-true 48 byte parts.0 in
      let high = ltb-true byte 112 parts.1 in
      (omega (arith, low, high, same), omega (arith, low, same))
