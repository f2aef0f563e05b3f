-- Pieces of a sequence written one after the other, over plain variables.
use native.Mathlib.Omega.{arith}
use Prim.Native.Nat.{ℕ, ◌+◌, ◌/◌, ◌%◌, ◌≤◌, ◌<◌}
use mathlib.Core.Path.{◌≡◌}
use mathlib.Core.List.{List, [], ◌∷◌, ◌++◌}
use lib.ListN.{length}
use borrow.Author.Tests.{lt-ltb, le-ltb, ne_eqb}
use Rattle.utf8.proofs.Written.{Put, put_both, fits_first, fits_then}
use Rattle.sequence.specs.Sequence.{decimal, numeral, semicolon, ending, reset, basic, indexed, direct, red_green_blue, sequence}

-- a number's digits

pub one_digit : (n : ℕ) → n < 10 → decimal n ≡ (48 + n) ∷ []
unfolding decimal
one_digit n h = simp (lt-ltb _ _ h)

pub two_digits : (n : ℕ) → 10 ≤ n → n < 100 → decimal n ≡ (48 + n / 10) ∷ (48 + n % 10) ∷ []
unfolding decimal
two_digits n h l = simp (le-ltb _ _ h, lt-ltb _ _ l)

pub three_digits : (n : ℕ) → 100 ≤ n → decimal n ≡ (48 + n / 100) ∷ (48 + n / 10 % 10) ∷ (48 + n % 10) ∷ []
unfolding decimal
three_digits n h = simp (le-ltb n 10 (omega arith), le-ltb _ _ h)

-- a number and the byte after it
module _ (at n byte : ℕ) (start : List ℕ) (fits : at + length (numeral n byte) ≤ length start) where
  pub fits_decimal : at + length (decimal n) ≤ length start
  unfolding numeral
  fits_decimal = fits_first at _ (decimal n) (byte ∷ []) fits

  pub fits_byte : (end : ℕ) → end ≡ at + length (decimal n) → end + 1 ≤ length start
  unfolding numeral
  fits_byte end e = fits_then at _ (decimal n) (byte ∷ []) fits end e

  pub numeral_put :
      (end k : ℕ) (out after : List ℕ) → Put at (decimal n) start end out → Put end (byte ∷ []) out k after → length out ≡ length start → Put at (numeral n byte) start k after
  unfolding numeral
  numeral_put end k out after p q same = put_both at end k (decimal n) (byte ∷ []) start out after (omega (arith, fits_decimal)) p q

-- red, green and blue
module _ (at c : ℕ) (start : List ℕ) (fits : at + length (red_green_blue c) ≤ length start) where
  abbrev reds : List ℕ
  reds = numeral (c / 0x10000 % 0x100) semicolon

  abbrev greens : List ℕ
  greens = numeral (c / 0x100 % 0x100) semicolon

  abbrev blues : List ℕ
  blues = numeral (c % 0x100) ending

  pub fits_red : at + length reds ≤ length start
  unfolding red_green_blue
  fits_red = fits_first at _ reds (greens ++ blues) fits

  rest_fits : (i : ℕ) → i ≡ at + length reds → i + length (greens ++ blues) ≤ length start
  unfolding red_green_blue
  rest_fits i e = fits_then at _ reds (greens ++ blues) fits i e

  pub fits_green : (i : ℕ) → i ≡ at + length reds → i + length greens ≤ length start
  fits_green i e = fits_first i _ greens blues (rest_fits i e)

  pub fits_blue : (i j : ℕ) → i ≡ at + length reds → j ≡ i + length greens → j + length blues ≤ length start
  fits_blue i j e f = fits_then i _ greens blues (rest_fits i e) j f

  pub three_numerals :
      (i j k : ℕ) (r g b : List ℕ) → length r ≡ length start →
      Put at reds start i r → Put i greens r j g → Put j blues g k b → Put at (red_green_blue c) start k b
  unfolding red_green_blue
  three_numerals i j k r g b same p q s =
      let some : i ≤ length r = omega (arith, fits_green i p.0) in
      put_both at i k reds (greens ++ blues) start r b (omega (arith, fits_red)) p (put_both i j k greens blues r g b some q s)

-- the sequence of a colour, by its kind

module _ (c : ℕ) where
  pub is_reset : c ≡ 0 → sequence c ≡ reset
  unfolding sequence
  is_reset h = rw h

  pub reset_fits : (at : ℕ) (start : List ℕ) → c ≡ 0 → at + length (sequence c) ≤ length start → at + length reset ≤ length start
  reset_fits at start h fits = rw (is_reset h) at fits

  pub is_basic : (c ≡ 0 → ⊥) → c < 8 → sequence c ≡ basic ++ numeral c ending
  unfolding sequence
  is_basic n h = rw (ne_eqb _ _ n, lt-ltb _ _ h)

  pub is_indexed : (c ≡ 0 → ⊥) → 8 ≤ c → c < 0x100 → sequence c ≡ indexed ++ numeral c ending
  unfolding sequence
  is_indexed n h l = rw (ne_eqb _ _ n, le-ltb _ _ h, lt-ltb _ _ l)

  pub is_direct : (c ≡ 0 → ⊥) → 8 ≤ c → 0x100 ≤ c → sequence c ≡ direct ++ red_green_blue c
  unfolding sequence
  is_direct n h l = rw (ne_eqb _ _ n, le-ltb _ _ h, le-ltb _ _ l)

-- a sequence that is a front and a number after it
module _ (at : ℕ) (start front more text : List ℕ) (e : text ≡ front ++ more) (fits : at + length text ≤ length start) where
  both_fit : at + length (front ++ more) ≤ length start
  both_fit = rw e at fits

  pub front_fits : at + length front ≤ length start
  front_fits = fits_first at _ front more both_fit

  pub number_fits : (end : ℕ) → end ≡ at + length front → end + length more ≤ length start
  number_fits end p = fits_then at _ front more both_fit end p

  pub after_front : (end k : ℕ) (out after : List ℕ) → Put at front start end out → Put end more out k after → Put at text start k after
  after_front end k out after p q = rw e (put_both at end k front more start out after (omega (arith, front_fits)) p q)
