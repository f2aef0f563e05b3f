-- Laws over plain values, which the functions' proofs and the theorems cite.
use Prim.Native.Nat.{ℕ, ◌+◌, ◌*◌, ◌/◌, ◌%◌, ◌≤◌, ◌<◌}
use native.Mathlib.Omega.{arith}
use mathlib.Core.Path.{◌≡◌, refl, ap, ◌∙◌}
use mathlib.Core.Bool.{Bool, true, false, cond}
use mathlib.Core.Logic.{◌⊎◌, inl, inr}
use lib.Dec.{eqb}
use borrow.Author.Tests.{le-leb, lt-leb}
use Rattle.ground.proofs.Each.{cond_holds}
use Rattle.cell.specs.declared.Weight.{Weight}
use Rattle.cell.specs.declared.Weight.TheVariants as weight
use Rattle.cell.specs.declared.MarkerKind.{MarkerKind}
use Rattle.cell.specs.declared.MarkerKind.TheVariants.{Arrow, SelfLoop, Dummy}
use Rattle.cell.specs.declared.Dir.{Dir}
use Rattle.cell.specs.declared.Dir.TheVariants.{Up, Down, Left, Right}
use Rattle.cell.specs.declared.Arms.{Arms}
use Rattle.cell.specs.declared.Parts.{Parts}
use Rattle.cell.specs.declared.Parts.TheVariants.{Empty, Text, Continuation, Stroke, Marker}
use Rattle.cell.specs.OneCell.{weight_number, marker_number, dir_number, weight_of, marker_of, dir_of}
use Rattle.cell.specs.OneCell.{pack_arms, pack_marker, pack, read_arms, read_text, read_marker, read, Valid}
use Rattle.cell.specs.OneCell.{heavier, has_double, double_on_marker, stroked, marked}
use Rattle.cell.specs.Computed.{double_on}

-- the heavier of two weights, where the first is it
pub heavier_first : (a b : Weight) → weight_number b ≤ weight_number a → a ≡ heavier a b
heavier_first a b h = simp (le-leb _ _ h)

-- and where the second is
pub heavier_second : (a b : Weight) → weight_number a < weight_number b → b ≡ heavier a b
heavier_second a b h = simp (lt-leb _ _ h)

module _ (kind : MarkerKind) (dir : Dir) (dashed : Bool) where
  -- a marker on text or a continuation
  pub marked_kept : (p : Parts) → ((ch : ℕ) × (p ≡ Text ch)) ⊎ (p ≡ Continuation) → p ≡ marked p kind dir dashed
  unfolding marked
  marked_kept p (inl text) = rw text.1
  marked_kept p (inr e) = rw e

  -- a marker on what is neither
  pub marked_rest : (p : Parts) → ((ch : ℕ) → p ≡ Text ch → ⊥) → (p ≡ Continuation → ⊥) → Marker kind dir dashed ≡ marked p kind dir dashed
  unfolding marked
  marked_rest Empty t k = refl
  marked_rest (Text ch) t k = absurd (t ch refl)
  marked_rest Continuation t k = absurd (k refl)
  marked_rest (Stroke arms) t k = refl
  marked_rest (Marker old d x) t k = refl

-- a stroke with a Double arm replaces what is no marker
pub no_marker : (new : Arms) (p : Parts) → ((kind : MarkerKind) (dir : Dir) (dashed : Bool) → p ≡ Marker kind dir dashed → ⊥) → Stroke new ≡ double_on p new
unfolding double_on
no_marker new Empty h = refl
no_marker new (Text ch) h = refl
no_marker new Continuation h = refl
no_marker new (Stroke arms) h = refl
no_marker new (Marker k d x) h = absurd (h k d x refl)

-- it replaces markers that are no Arrow
pub other_kind :
    (new : Arms) (dir : Dir) (dashed : Bool) (kind : MarkerKind) (p : Parts) →
    (kind ≡ Arrow → ⊥) →
    p ≡ Marker kind dir dashed →
    Stroke new ≡ double_on p new
unfolding double_on double_on_marker
other_kind new dir dashed Arrow p h e = absurd (h refl)
other_kind new dir dashed SelfLoop p h e = rw e
other_kind new dir dashed Dummy p h e = rw e

module _ (new : Arms) (double : Bool) (e : double ≡ has_double new) where
  -- a stroke on text or a marker, with a Double arm
  pub stroked_over :
      (r p : Parts) →
      (p ≡ Empty → ⊥) →
      ((arms : Arms) → p ≡ Stroke arms → ⊥) →
      double ≡ true →
      r ≡ double_on p new →
      r ≡ stroked p new
  unfolding stroked double_on
  stroked_over r Empty h s d f = absurd (h refl)
  stroked_over r (Text ch) h s d f = rw (← e, d) f
  stroked_over r Continuation h s d f = rw (← e, d) f
  stroked_over r (Stroke arms) h s d f = absurd (s arms refl)
  stroked_over r (Marker k i x) h s d f = rw (← e, d) f

  -- and without one
  pub stroked_kept : (p : Parts) → (p ≡ Empty → ⊥) → ((arms : Arms) → p ≡ Stroke arms → ⊥) → double ≡ false → p ≡ stroked p new
  unfolding stroked
  stroked_kept Empty h s d = absurd (h refl)
  stroked_kept (Text ch) h s d = rw (← e, d)
  stroked_kept Continuation h s d = rw (← e, d)
  stroked_kept (Stroke arms) h s d = absurd (s arms refl)
  stroked_kept (Marker k i x) h s d = rw (← e, d)

-- The numbers are small, and what they stand for is what they are the numbers of.

pub weight_small : (w : Weight) → weight_number w ≤ 3
weight_small weight.None = omega arith
weight_small weight.Dashed = omega arith
weight_small weight.Light = omega arith
weight_small weight.Double = omega arith

pub marker_small : (k : MarkerKind) → marker_number k ≤ 3
marker_small Arrow = omega arith
marker_small SelfLoop = omega arith
marker_small Dummy = omega arith

pub dir_small : (d : Dir) → dir_number d ≤ 3
dir_small Up = omega arith
dir_small Down = omega arith
dir_small Left = omega arith
dir_small Right = omega arith

pub dashed_small : (b : Bool) → cond b 1 0 ≤ 1
dashed_small true = omega arith
dashed_small false = omega arith

pub weight_back : (w : Weight) → weight_of (weight_number w) ≡ w
weight_back weight.None = refl
weight_back weight.Dashed = refl
weight_back weight.Light = refl
weight_back weight.Double = refl

marker_back : (k : MarkerKind) → marker_of (marker_number k) ≡ k
marker_back Arrow = refl
marker_back SelfLoop = refl
marker_back Dummy = refl

dir_back : (d : Dir) → dir_of (dir_number d) ≡ d
dir_back Up = refl
dir_back Down = refl
dir_back Left = refl
dir_back Right = refl

dashed_back : (b : Bool) → eqb (cond b 1 0) 1 ≡ b
dashed_back true = refl
dashed_back false = refl

-- The fields of a word that is a packing.

stroke_fields :
    (u d l r w : ℕ) →
    u ≤ 3 →
    d ≤ 3 →
    l ≤ 3 →
    r ≤ 3 →
    w ≡ 0x80000000 + (u + 8 * d + 64 * l + 512 * r) →
    (w / 0x40000000 ≡ 2) × (w % 8 ≡ u) × (w / 8 % 8 ≡ d) × (w / 64 % 8 ≡ l) × (w / 512 % 8 ≡ r)
stroke_fields u d l r w hu hd hl hr e = omega arith

marker_fields :
    (k d x w : ℕ) →
    k ≤ 3 →
    d ≤ 3 →
    x ≤ 1 →
    w ≡ 0xC0000000 + (k + 16 * d + 64 * x) →
    (w / 0x40000000 ≡ 3) × (w % 16 ≡ k) × (w / 16 % 4 ≡ d) × (w / 64 % 2 ≡ x)
marker_fields k d x w hk hd hx e = omega arith

text_fields :
    (ch w : ℕ) →
    ch ≤ 0x10FFFF →
    w ≡ 0x40000000 + ch % 0x200000 →
    (w / 0x40000000 ≡ 1) × (w / 0x200000 % 2 ≡ 0) × (w % 0x200000 ≡ ch)
text_fields ch w h e = omega arith

pub read_stroke : (a : Arms) (w : ℕ) → w ≡ pack (Stroke a) → read w ≡ Stroke a
unfolding pack pack_arms read read_arms
read_stroke a w e =
    let u = weight_small a.up in
    let d = weight_small a.down in
    let l = weight_small a.left in
    let r = weight_small a.right in
    let f = stroke_fields _ _ _ _ w u d l r e in
    let up : weight_of (w % 8) ≡ a.up = ap weight_of f.1 ∙ weight_back _ in
    let down : weight_of (w / 8 % 8) ≡ a.down = ap weight_of f.2 ∙ weight_back _ in
    let left : weight_of (w / 64 % 8) ≡ a.left = ap weight_of f.3 ∙ weight_back _ in
    let right : weight_of (w / 512 % 8) ≡ a.right = ap weight_of f.4 ∙ weight_back _ in
    rw (f.0, up, down, left, right)

pub read_marker_lem :
    (k : MarkerKind) (d : Dir) (x : Bool) (w : ℕ) →
    w ≡ pack (Marker k d x) →
    read w ≡ Marker k d x
unfolding pack pack_marker read read_marker
read_marker_lem k d x w e =
    let f = marker_fields _ _ _ w (marker_small k) (dir_small d) (dashed_small x) e in
    let kind : marker_of (w % 16) ≡ k = ap marker_of f.1 ∙ marker_back _ in
    let dir : dir_of (w / 16 % 4) ≡ d = ap dir_of f.2 ∙ dir_back _ in
    let dashed : eqb (w / 64 % 2) 1 ≡ x = ap (λ (n : ℕ). eqb n 1) f.3 ∙ dashed_back _ in
    rw (f.0, kind, dir, dashed)

pub read_text_lem : (ch w : ℕ) → ch ≤ 0x10FFFF → w ≡ pack (Text ch) → read w ≡ Text ch
unfolding pack read read_text
read_text_lem ch w h e =
    let f = text_fields ch w h e in
    rw (f.0, f.1, f.2)

-- A stroke or a marker on valid parts leaves valid parts.

double_valid : (new : Arms) (k : MarkerKind) (d : Dir) → Valid (double_on_marker new k d)
unfolding Valid double_on_marker
double_valid new Arrow d = tt
double_valid new SelfLoop d = tt
double_valid new Dummy d = tt

pub stroke_valid : (new : Arms) (p : Parts) → Valid p → Valid (stroked p new)
unfolding Valid stroked
stroke_valid new Empty h = tt
stroke_valid new (Text ch) h = cond_holds Valid (has_double new) tt h
stroke_valid new Continuation h = cond_holds Valid (has_double new) tt h
stroke_valid new (Stroke old) h = tt
stroke_valid new (Marker k d x) h = cond_holds Valid (has_double new) (double_valid new k d) h

pub marker_valid :
    (kind : MarkerKind) (dir : Dir) (dashed : Bool) (p : Parts) →
    Valid p →
    Valid (marked p kind dir dashed)
unfolding Valid marked
marker_valid kind dir dashed Empty h = tt
marker_valid kind dir dashed (Text ch) h = h
marker_valid kind dir dashed Continuation h = h
marker_valid kind dir dashed (Stroke arms) h = tt
marker_valid kind dir dashed (Marker k d x) h = tt
