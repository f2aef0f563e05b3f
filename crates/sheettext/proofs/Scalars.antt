-- One character of a text, over plain variables.
use native.Mathlib.Omega.{arith}
use Prim.Native.Nat.{ℕ, ◌+◌, ◌*◌, ◌-◌, ◌≤◌, ◌<◌}
use mathlib.Core.Path.{◌≡◌, refl, sym, ◌∙◌}
use mathlib.Core.Bool.{Bool, true, false, cond, ◌&&◌}
use mathlib.Core.List.{List}
use lib.Dec.{leb}
use lib.ListN.{get_or}
use borrow.Author.Tests.{lt-ltb, le-ltb, le-leb, lt-leb}
use Rattle.sheettext.specs.Scalars.{glyph, is_scalar, tail_of, shortest, decoded}
use Rattle.std.specs.Prelude.{Result, Err}
use Rattle.sheettext.specs.declared.Glyph.{Glyph}
use Rattle.sheettext.specs.declared.GlyphError.{GlyphError}
use Rattle.sheettext.specs.declared.GlyphError.TheVariants.{NotUtf8}

pub below_surrogates : (value : ℕ) → value < 0xD800 → true ≡ is_scalar value
unfolding is_scalar
below_surrogates value h = simp (lt-ltb _ _ h)

pub above_surrogates : (value : ℕ) → 0xDFFF < value → leb value 0x10FFFF ≡ is_scalar value
unfolding is_scalar
above_surrogates value h = simp (le-ltb value 0xD800 (omega arith), lt-ltb 0xDFFF value h)

pub too_far : (value : ℕ) → 0x10FFFF < value → false ≡ is_scalar value
unfolding is_scalar
too_far value h = simp (le-ltb value 0xD800 (omega arith), lt-ltb 0xDFFF value (omega arith), lt-leb value 0x10FFFF h)

-- what a byte after the first adds

pub a_tail : (b w : ℕ) → w ≡ b → 0x80 ≤ b → b < 0xC0 → w - 0x80 ≡ tail_of b
unfolding tail_of
a_tail b w e h l = simp (e, le-leb 0x80 b h, lt-ltb b 0xC0 l)

-- a value in so many bytes

pub a_scalar : (from size value : ℕ) (s : Bool) → from ≤ value → s ≡ is_scalar value → s ≡ true → glyph value size ≡ shortest from size value
unfolding shortest
a_scalar from size value s h e t = simp (le-leb from value h, sym e ∙ t)

-- a value past the last scalar value is written in no bytes
pub past_scalars : (from size value : ℕ) → 0x10FFFF < value → Err NotUtf8 ≡ shortest from size value
unfolding shortest
past_scalars from size value h = sym (by (leb from value))
  where
    by : (b : Bool) → cond (b && is_scalar value) (glyph value size) (Err NotUtf8) ≡ Err NotUtf8
    by true = rw (sym (too_far value h))
    by false = refl

-- the four lengths of a character: the lead is the first byte as the code widens it, and the tails are those of the bytes after it
module _ (bytes : List ℕ) (r : Result Glyph GlyphError) (b₀ lead b₁ one b₂ two b₃ three : ℕ) where
  pub in_one : b₀ ≡ get_or bytes 0 255 → lead ≡ b₀ → lead < 0x80 → r ≡ shortest 0 1 lead → r ≡ decoded bytes
  unfolding decoded
  in_one p q h e = simp (← p, ← q, lt-ltb _ _ h) e

  pub in_two :
      (low : ℕ) →
      b₀ ≡ get_or bytes 0 255 →
      lead ≡ b₀ →
      b₁ ≡ get_or bytes 1 255 →
      one ≡ tail_of b₁ →
      0x80 ≤ lead →
      lead < 0xE0 →
      low ≡ lead - 0xC0 →
      r ≡ shortest 0x80 2 (low * 0x40 + one) →
      r ≡ decoded bytes
  unfolding decoded
  in_two low p q s t h l m e = simp (← p, ← q, ← s, ← t, ← m, le-ltb _ _ h, lt-ltb _ _ l) e

  pub in_three :
      b₀ ≡ get_or bytes 0 255 →
      lead ≡ b₀ →
      b₁ ≡ get_or bytes 1 255 →
      one ≡ tail_of b₁ →
      b₂ ≡ get_or bytes 2 255 →
      two ≡ tail_of b₂ →
      0xE0 ≤ lead →
      lead < 0xF0 →
      r ≡ shortest 0x800 3 ((lead - 0xE0) * 0x1000 + one * 0x40 + two) →
      r ≡ decoded bytes
  unfolding decoded
  in_three p q s t u v h l e =
      simp (← p, ← q, ← s, ← t, ← u, ← v, le-ltb lead 0x80 (omega arith), le-ltb _ _ h, lt-ltb _ _ l) e

  pub in_four :
      b₀ ≡ get_or bytes 0 255 →
      lead ≡ b₀ →
      b₁ ≡ get_or bytes 1 255 →
      one ≡ tail_of b₁ →
      b₂ ≡ get_or bytes 2 255 →
      two ≡ tail_of b₂ →
      b₃ ≡ get_or bytes 3 255 →
      three ≡ tail_of b₃ →
      0xF0 ≤ lead →
      r ≡ shortest 0x10000 4 ((lead - 0xF0) * 0x40000 + one * 0x1000 + two * 0x40 + three) →
      r ≡ decoded bytes
  unfolding decoded
  in_four p q s t u v w x h e =
      simp
      (← p, ← q, ← s, ← t, ← u, ← v, ← w, ← x, le-ltb lead 0x80 (omega arith), le-ltb lead 0xE0 (omega arith), le-ltb _ _ h) e
