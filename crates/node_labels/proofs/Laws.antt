-- A node's label painted in a window: in a box, and between brackets.
use Prim.Native.Nat.{ℕ, _+_, _≤_, _<_}
use mathlib.Core.Bool.{cond}
use mathlib.Core.List.{List, [], _∷_, _++_}
use mathlib.Core.Path.{_≡_}
use lib.Dec.{leb}
use borrow.Author.Tests.{le-leb, lt-leb}
use Rattle·cell.specs.declared.Weight.the-variants.{Light}
use Rattle·image.specs.declared.Node.{Node}
use Rattle·rows.specs.declared.Window.{Window}
use Rattle·rows.specs.Spots.{Spot, at, glyph}
use Rattle·window.specs.declared.Tint.{Tint}
use Rattle·window.specs.Writes.{Canvas, tinted}
use Rattle·window.specs.Window.{inkWindow}
use Rattle·window.proofs.Stretches.{inked-same, inked-then, inked-if, inked-else}
use Rattle·frame.specs.Frames.{box, text, fittingPart}
use Rattle·frame.specs.Nodes.{boxedSpots, closing, textUntil, simpleSpots}

module _ (v : Window) (ranges : List ℕ) (tint : Tint) where
  abbrev Inked : List Spot → Canvas → Canvas → Type 0
  Inked spots c d = d ≡ inkWindow v ranges (tinted tint spots) c

  -- a light box with the label's fitting part in it
  pub boxed-inked :
      (n : Node) (label : List ℕ) (x y width height : ℕ) (part : List ℕ) (c d e : Canvas) →
      x ≡ n .x →
      y ≡ n .y →
      width ≡ n .width →
      height ≡ n .height →
      part ≡ fittingPart ranges (n .width) label →
      Inked (box Light x y width height) c d →
      Inked (text ranges (x + 2) (y + 1) part) d e →
      Inked (boxedSpots ranges n label) c e
  boxed-inked n label x y width height part c d e h i j k l p q =
      let same : box Light x y width height ++ text ranges (x + 2) (y + 1) part ≡ boxedSpots ranges n label = cc in
      inked-same v ranges tint _ _ c e same (inked-then v ranges tint (box Light x y width height) (text ranges (x + 2) (y + 1) part) c d e p q)

  -- an opening bracket, the glyphs before the closing column, and a closing bracket there if it is wide enough

  abbrev bracket : ℕ → ℕ → ℕ → List Spot
  bracket width close y = cond (leb 2 width) (at close y (glyph 0x5D) ∷ []) []

  simple-inked :
      (n : Node) (label : List ℕ) (x y close : ℕ) (c d e f : Canvas) →
      x ≡ n .x →
      y ≡ n .y →
      close ≡ closing n →
      Inked (at x y (glyph 0x5B) ∷ []) c d →
      Inked (textUntil ranges close (x + 1) y label) d e →
      Inked (bracket (n .width) close y) e f →
      Inked (simpleSpots ranges n label) c f
  simple-inked n label x y close c d e f h i j p q r =
      rw (← j, ← h, ← i)
      (inked-then v ranges tint (at x y (glyph 0x5B) ∷ []) (textUntil ranges close (x + 1) y label ++ bracket (n .width) close y) c d f p
      (inked-then v ranges tint (textUntil ranges close (x + 1) y label) (bracket (n .width) close y) d e f q r))

  pub simple-closed :
      (n : Node) (label : List ℕ) (x y close : ℕ) (c d e f : Canvas) →
      x ≡ n .x →
      y ≡ n .y →
      close ≡ closing n →
      2 ≤ n .width →
      Inked (at x y (glyph 0x5B) ∷ []) c d →
      Inked (textUntil ranges close (x + 1) y label) d e →
      Inked (at close y (glyph 0x5D) ∷ []) e f →
      Inked (simpleSpots ranges n label) c f
  simple-closed n label x y close c d e f h i j w p q r =
      simple-inked n label x y close c d e f h i j p q (inked-if v ranges tint (leb 2 (n .width)) _ e f (le-leb _ _ w) r)

  pub simple-open :
      (n : Node) (label : List ℕ) (x y close : ℕ) (c d e : Canvas) →
      x ≡ n .x →
      y ≡ n .y →
      close ≡ closing n →
      n .width < 2 →
      Inked (at x y (glyph 0x5B) ∷ []) c d →
      Inked (textUntil ranges close (x + 1) y label) d e →
      Inked (simpleSpots ranges n label) c e
  simple-open n label x y close c d e h i j w p q =
      simple-inked n label x y close c d e e h i j p q (inked-else v ranges tint (leb 2 (n .width)) _ e (lt-leb _ _ w))
