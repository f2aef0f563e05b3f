-- What holds of one cell's packing, and of the rules on words.
use Prim.Native.Nat.{ℕ, ◌≤◌, ◌<◌}
use native.Mathlib.Omega.{arith}
use mathlib.Core.Bool.{Bool, true, false}
use mathlib.Core.Path.{◌≡◌, refl}
use Rattle.ground.proofs.Each.{cond_holds}
use Rattle.cell.specs.declared.Parts.{Parts}
use Rattle.cell.specs.declared.Parts.TheVariants.{Empty, Text, Continuation, Stroke, Marker}
use Rattle.cell.specs.declared.Arms.{Arms}
use Rattle.cell.specs.declared.MarkerKind.{MarkerKind}
use Rattle.cell.specs.declared.MarkerKind.TheVariants.{Arrow, SelfLoop, Dummy}
use Rattle.cell.specs.declared.Dir.{Dir}
use Rattle.cell.specs.declared.Dir.TheVariants.{Down}
use Rattle.cell.specs.OneCell.{pack_arms, pack_marker, pack, read_arms, read_text, read_marker, read, Valid, Packed}
use Rattle.cell.specs.declared.Weight.TheVariants.{Double}
use Rattle.cell.specs.OneCell.{horizontal, heavier_arms, has_double, double_on_marker, stroked, marked, painted_stroke, painted_marker, painted_text}
use Rattle.cell.specs.ProofTable.{ProofTableCell}
use Rattle.cell.proofs.Laws.{weight_small, marker_small, dir_small, dashed_small}
use Rattle.cell.proofs.Laws.{read_stroke, read_marker_lem, read_text_lem, stroke_valid, marker_valid}

-- Reading a packing gives the parts back.
pub read_pack : (p : Parts) → Valid p → read (pack p) ≡ p
unfolding Valid pack read read_text
read_pack Empty h = refl
read_pack (Text ch) h = read_text_lem ch _ h refl
read_pack Continuation h = refl
read_pack (Stroke a) h = read_stroke a _ refl
read_pack (Marker k d x) h = read_marker_lem k d x _ refl

-- Packing what a packed word reads as gives the word back.
pub pack_read : (w : ℕ) → Packed w → pack (read w) ≡ w
pack_read w h = rw (h.packing, read_pack h.parts h.valid)

-- Every packing fits a word of 32 bits.
pub pack_fits : (p : Parts) → pack p < 4294967296
unfolding pack pack_arms pack_marker
pack_fits Empty = omega arith
pack_fits (Text ch) = omega arith
pack_fits Continuation = omega arith
pack_fits (Stroke a) =
    omega (arith, weight_small a.up, weight_small a.down, weight_small a.left, weight_small a.right)
pack_fits (Marker k d x) = omega (arith, marker_small k, dir_small d, dashed_small x)

-- The empty cell is a packing.
pub empty_packed : Packed 0
unfolding Valid pack
empty_packed = record { parts = Empty; valid = tt; packing = refl }

-- The continuation, the second column of a wide glyph, is a packing.
pub continuation_packed : Packed 0x40200000
unfolding Valid pack
continuation_packed = record { parts = Continuation; valid = tt; packing = refl }

-- What a packed word reads as is valid.
read_valid : (w : ℕ) → Packed w → Valid (read w)
read_valid w h = rw (h.packing, read_pack h.parts h.valid) h.valid

-- A stroke on a packed word leaves a packed word.
pub stroke_packed : (new : Arms) (w : ℕ) → Packed w → Packed (painted_stroke w new)
unfolding painted_stroke
stroke_packed new w h = record {
  parts = stroked (read w) new;
  valid = stroke_valid new (read w) (read_valid w h);
  packing = refl;
}

-- A marker on a packed word leaves a packed word.
pub marker_packed :
    (kind : MarkerKind) (dir : Dir) (dashed : Bool) (w : ℕ) →
    Packed w →
    Packed (painted_marker w kind dir dashed)
unfolding painted_marker
marker_packed kind dir dashed w h = record {
  parts = marked (read w) kind dir dashed;
  valid = marker_valid kind dir dashed (read w) (read_valid w h);
  packing = refl;
}

-- Text of a Unicode code point on any word leaves a packed word.
pub text_packed : (ch w : ℕ) → ch ≤ 0x10FFFF → Packed (painted_text w ch)
unfolding painted_text Valid
text_packed ch w h = record { parts = Text ch; valid = h; packing = refl }

-- Read back, a stroke and a marker are what the rules make of the parts that stood there.

pub read_stroked : (new : Arms) (w : ℕ) → Packed w → read (painted_stroke w new) ≡ stroked (read w) new
unfolding painted_stroke
read_stroked new w h = read_pack (stroked (read w) new) (stroke_valid new (read w) (read_valid w h))

pub read_marked :
    (kind : MarkerKind) (dir : Dir) (dashed : Bool) (w : ℕ) →
    Packed w →
    read (painted_marker w kind dir dashed) ≡ marked (read w) kind dir dashed
unfolding painted_marker
read_marked kind dir dashed w h = read_pack (marked (read w) kind dir dashed) (marker_valid kind dir dashed (read w) (read_valid w h))

-- Neither writes a character: one that stands there stood there before.

never_text : {P : Type 0} (arms : Arms) (ch : ℕ) → Stroke arms ≡ Text ch → P
never_text arms ch e = let z : ◌≡◌ {A = ℕ} 0 1 = cc in absurd (omega arith)

double_text : {P : Type 0} (new : Arms) (kind : MarkerKind) (dir : Dir) (ch : ℕ) → double_on_marker new kind dir ≡ Text ch → P
unfolding double_on_marker
double_text new Arrow dir ch e = never_text _ ch e
double_text new SelfLoop dir ch e = never_text _ ch e
double_text new Dummy dir ch e = never_text _ ch e

pub stroke_text : (p : Parts) (new : Arms) (ch : ℕ) → stroked p new ≡ Text ch → p ≡ Text ch
unfolding stroked
stroke_text Empty new ch e = never_text _ ch e
stroke_text (Text old) new ch e = cond_holds (λ (q : Parts). q ≡ Text ch → Text old ≡ Text ch) (has_double new) (never_text _ ch) (λ f. f) e
stroke_text Continuation new ch e = cond_holds (λ (q : Parts). q ≡ Text ch → Continuation ≡ Text ch) (has_double new) (never_text _ ch) (λ f. f) e
stroke_text (Stroke old) new ch e = never_text _ ch e
stroke_text (Marker kind dir dashed) new ch e =
    cond_holds (λ (q : Parts). q ≡ Text ch → Marker kind dir dashed ≡ Text ch) (has_double new) (double_text new kind dir ch) (λ f. f) e

pub marker_text : (p : Parts) (kind : MarkerKind) (dir : Dir) (dashed : Bool) (ch : ℕ) → marked p kind dir dashed ≡ Text ch → p ≡ Text ch
unfolding marked
marker_text Empty kind dir dashed ch e = let z : ◌≡◌ {A = ℕ} 0 1 = cc in absurd (omega arith)
marker_text (Text old) kind dir dashed ch e = e
marker_text Continuation kind dir dashed ch e = e
marker_text (Stroke arms) kind dir dashed ch e = let z : ◌≡◌ {A = ℕ} 0 1 = cc in absurd (omega arith)
marker_text (Marker k d x) kind dir dashed ch e = let z : ◌≡◌ {A = ℕ} 0 1 = cc in absurd (omega arith)

-- The cases P1 to P4 of the proof table hold.
pub proof_table_cell : ProofTableCell
unfolding pack_arms pack_marker pack read_arms read_text read_marker read heavier_arms has_double double_on_marker stroked painted_stroke
proof_table_cell = record {
  p1 = refl;
  p2 = λ dashed. elim dashed as (λ d. painted_stroke (pack (Marker Arrow Down d)) (horizontal Double) ≡ 0x800006D0) [ true ↦ refl | false ↦ refl ];
  p3 = refl;
  p4 = refl;
}
