-- Laws over plain variables: a turn of the search for a glyph that makes ink.
use native.Mathlib.Numerals.{add-one}
use Prim.Native.Nat.{ℕ, ◌+◌, ◌≤◌, ◌<◌}
use mathlib.Core.Bool.{Bool, true, false}
use mathlib.Core.List.{List}
use mathlib.Core.Path.{◌≡◌, sym}
use lib.ListN.{length, get_or, drop, drop_of_length-le}
use lib.Seq.{drop-cons}
use borrow.Author.Tests.{lt-ltb, le-ltb}
use Rattle.ground.specs.Each.{some}
use Rattle.glyph.specs.Width.{width_of}
use Rattle.frame.specs.Computed.{any_ink}

module _ (ranges glyphs : List ℕ) (k : ℕ) (r : Bool) (i : any_ink ranges (drop k glyphs) ≡ r) where
  -- no glyph is left
  pub none_left : length glyphs ≤ k → false ≡ r
  unfolding any_ink some
  none_left h = rw (drop_of_length-le glyphs h) at i

  module _ (width : ℕ) (h : k < length glyphs) (e : width ≡ width_of ranges (get_or glyphs k 0)) where
    -- the next glyph makes ink, and it does not

    pub ink : 0 < width → true ≡ r
    unfolding any_ink some
    ink p = simp (drop-cons glyphs k 0 h, sym e, lt-ltb _ _ p) at i

    pub no_ink : width ≤ 0 → any_ink ranges (drop (k + 1) glyphs) ≡ r
    unfolding any_ink some
    no_ink p = rw add-one (simp (drop-cons glyphs k 0 h, sym e, le-ltb _ _ p) at i)
