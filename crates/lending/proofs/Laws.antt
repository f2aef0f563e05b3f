-- The rules on bands and lent buffers, each as the code tests it.
use native.Mathlib.Omega.{arith}
use native.Mathlib.Nat.{mul-le-mul}
use Prim.Native.Nat.{ℕ, ◌+◌, ◌-◌, ◌*◌, ◌≤◌, ◌<◌}
use mathlib.Core.Bool.{Bool, true, false, not}
use mathlib.Core.List.{List, [], ◌∷◌}
use mathlib.Core.Path.{◌≡◌, refl, sym, ◌∙◌}
use lib.Dec.{leb, ltb}
use lib.ListN.{length}
use borrow.Author.Tests.{le-leb, lt-leb, lt-ltb, le-ltb}
use mir.Val.{Fits}
use mir.Syntax.{w64}
use Rattle.ground.specs.Judged.{Judged, first_bad}
use Rattle.ground.proofs.Order.{by_order}
use Rattle.refusals.specs.FirstBroken.{Verdict, Passed, Refused, rule, first_broken}
use Rattle.picture.specs.Picture.{width, height}
use Rattle.picture.specs.Painted.{outside_sheet, too_little_room, room, scratch_room, band_judged, plain_rooms, coloured_rooms, plain_judged, coloured_judged, band_rules}

-- Whether a sum is above a number, without making the sum.
module _ (image : List ℕ) (word h first rows : ℕ) (e : word ≡ height image) (d : h ≡ word) where
  pub outside_few : rows ≤ h → ltb (h - rows) first ≡ not (leb (first + rows) (height image))
  outside_few p =
      rw (← e, ← d)
      (by_order (h - rows) first
      (λ q. let r : h < first + rows = omega arith in rw (lt-ltb _ _ q, lt-leb _ _ r))
      (λ q. let r : first + rows ≤ h = omega arith in rw (le-ltb _ _ q, le-leb _ _ r)))

  pub outside_many : h < rows → true ≡ not (leb (first + rows) (height image))
  outside_many p = let r : h < first + rows = omega arith in rw (← e, ← d, lt-leb _ _ r)

-- Whether a number is below another.
pub short_of : (lent wanted : ℕ) → ltb lent wanted ≡ not (leb wanted lent)
short_of lent wanted =
    by_order lent wanted
    (λ q. rw (lt-ltb _ _ q, lt-leb _ _ q))
    (λ q. rw (le-ltb _ _ q, le-leb _ _ q))

-- a test and its contrary
held : (test good : Bool) → test ≡ not good → test ≡ false → good ≡ true
held test true e f = refl
held test false e f = sym f ∙ e

broken : (test good : Bool) → test ≡ not good → test ≡ true → good ≡ false
broken test true e f = sym f ∙ e
broken test false e f = refl

-- Of lent buffers in order the first that is short.

module _ (words needed : ℕ) (cells scratch : List ℕ) (a z : Bool) (cells_tested : a ≡ not (leb words (length cells))) where
  abbrev Plain : Verdict → Type 0
  Plain v = v ≡ first_broken (rule too_little_room (plain_rooms words needed cells scratch) ∷ [])

  pub plain_cells : (v : Verdict) → v ≡ Refused too_little_room 1 → a ≡ true → Plain v
  unfolding first_broken plain_rooms first_bad
  plain_cells v e s = e ∙ rw (broken a (leb words (length cells)) cells_tested s)

  module _ (scratch_tested : z ≡ not (leb needed (length scratch))) (f : a ≡ false) where
    pub plain_scratch : (v : Verdict) → v ≡ Refused too_little_room 4 → z ≡ true → Plain v
    unfolding first_broken plain_rooms first_bad
    plain_scratch v e s =
        e ∙ rw (held a (leb words (length cells)) cells_tested f, broken z (leb needed (length scratch)) scratch_tested s)

    pub plain_fine : z ≡ false → Plain Passed
    unfolding first_broken plain_rooms first_bad
    plain_fine g = rw (held a (leb words (length cells)) cells_tested f, held z (leb needed (length scratch)) scratch_tested g)

module _ (words needed : ℕ) (cells colours stamps scratch : List ℕ) (a b c z : Bool) (cells_tested : a ≡ not (leb words (length cells))) where
  abbrev Coloured : Verdict → Type 0
  Coloured v = v ≡ first_broken (rule too_little_room (coloured_rooms words needed cells colours stamps scratch) ∷ [])

  pub coloured_cells : (v : Verdict) → v ≡ Refused too_little_room 1 → a ≡ true → Coloured v
  unfolding first_broken coloured_rooms first_bad
  coloured_cells v e s = e ∙ rw (broken a (leb words (length cells)) cells_tested s)

  module _ (colours_tested : b ≡ not (leb words (length colours))) (f : a ≡ false) where
    pub coloured_colours : (v : Verdict) → v ≡ Refused too_little_room 2 → b ≡ true → Coloured v
    unfolding first_broken coloured_rooms first_bad
    coloured_colours v e s =
        e ∙ rw (held a (leb words (length cells)) cells_tested f, broken b (leb words (length colours)) colours_tested s)

    module _ (stamps_tested : c ≡ not (leb words (length stamps))) (g : b ≡ false) where
      pub coloured_stamps : (v : Verdict) → v ≡ Refused too_little_room 3 → c ≡ true → Coloured v
      unfolding first_broken coloured_rooms first_bad
      coloured_stamps v e s =
          e ∙ rw (
            held a (leb words (length cells)) cells_tested f,
            held b (leb words (length colours)) colours_tested g,
            broken c (leb words (length stamps)) stamps_tested s,
          )

      module _ (scratch_tested : z ≡ not (leb needed (length scratch))) (h : c ≡ false) where
        pub coloured_scratch : (v : Verdict) → v ≡ Refused too_little_room 4 → z ≡ true → Coloured v
        unfolding first_broken coloured_rooms first_bad
        coloured_scratch v e s =
            e ∙ rw (
              held a (leb words (length cells)) cells_tested f,
              held b (leb words (length colours)) colours_tested g,
              held c (leb words (length stamps)) stamps_tested h,
              broken z (leb needed (length scratch)) scratch_tested s,
            )

        pub coloured_fine : z ≡ false → Coloured Passed
        unfolding first_broken coloured_rooms first_bad
        coloured_fine i =
            rw (
              held a (leb words (length cells)) cells_tested f,
              held b (leb words (length colours)) colours_tested g,
              held c (leb words (length stamps)) stamps_tested h,
              held z (leb needed (length scratch)) scratch_tested i,
            )

-- The rules of a band: it leaves the sheet, or all hangs on the buffers.
module _ (image : List ℕ) (first rows : ℕ) (out : Bool) (tested : out ≡ not (leb (first + rows) (height image))) where
  pub band_outside : (lent : List Judged) → out ≡ true → Refused outside_sheet 0 ≡ first_broken (band_rules image first rows lent)
  unfolding first_broken band_judged first_bad
  band_outside lent o = rw (broken out (leb (first + rows) (height image)) tested o)

  module _ (inside : out ≡ false) where
    band_inside : (lent : List Judged) (v : Verdict) → v ≡ first_broken (rule too_little_room lent ∷ []) → v ≡ first_broken (band_rules image first rows lent)
    unfolding first_broken band_judged first_bad
    band_inside lent v e = e ∙ rw (held out (leb (first + rows) (height image)) tested inside)

    module _ (wanted needed : ℕ) (is : wanted ≡ room image rows) (so : needed ≡ scratch_room image) (v : Verdict) where
      pub plain_inside :
          (cells scratch : List ℕ) → v ≡ first_broken (rule too_little_room (plain_rooms wanted needed cells scratch) ∷ []) →
          v ≡ first_broken (band_rules image first rows (plain_judged image rows cells scratch))
      plain_inside cells scratch e = band_inside _ v (rw (is, so) at e)

      pub coloured_inside :
          (cells colours stamps scratch : List ℕ) →
          v ≡ first_broken (rule too_little_room (coloured_rooms wanted needed cells colours stamps scratch) ∷ []) →
          v ≡ first_broken (band_rules image first rows (coloured_judged image rows cells colours stamps scratch))
      coloured_inside cells colours stamps scratch e = band_inside _ v (rw (is, so) at e)

-- a product of two words
pub product_fits : (a b : ℕ) → a < 0x100000000 → b < 0x100000000 → Fits w64 (a * b)
product_fits a b p q =
    let x : a ≤ 0xFFFFFFFF = omega arith in
    let y : b ≤ 0xFFFFFFFF = omega arith in
    let m : a * b ≤ 0xFFFFFFFF * 0xFFFFFFFF = mul-le-mul x y in
    record { fits = omega arith }

pub room_made : (image : List ℕ) (word n rows : ℕ) → word ≡ width image → n ≡ word → n * rows ≡ room image rows
room_made image word n rows e d = rw (d, e)
