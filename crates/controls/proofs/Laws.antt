-- Laws over plain values, which the functions' proofs cite: a control character, glyph by glyph.
use Prim.Native.Nat.{ℕ, ◌+◌, ◌≤◌, ◌<◌}
use mathlib.Core.Bool.{Bool, true, false, not}
use mathlib.Core.List.{List}
use mathlib.Core.Path.{◌≡◌}
use Rattle.std.specs.Prelude.{Option, Some, None}
use Rattle.layout.specs.declared.Table.{Table}
use Rattle.layout.specs.Layout.{glyph_value}
use Rattle.layout.specs.Tables.{field, record_at}
use Rattle.elements.proofs.Records.{found_from, records_again, records_hit, records_done}
use Rattle.controls.specs.Controls.{is_control}

-- glyph k is none
abbrev pub printable : List ℕ → Table → ℕ → Bool
printable image glyphs k = not (is_control (field image glyphs k glyph_value))

module _ (image : List ℕ) (glyphs : Table) (k : ℕ) (first : Option ℕ) where
  module _ (value : ℕ) (control : Bool) (h : k < glyphs.count) (i : found_from glyphs (printable image glyphs) k ≡ first)
      (v : value ≡ field image glyphs k glyph_value) (e : control ≡ is_control value) where
    pub control_kept : control ≡ false → found_from glyphs (printable image glyphs) (k + 1) ≡ first
    control_kept z = records_again glyphs (printable image glyphs) k first h i (rw (← v, ← e, z))

    pub control_found : (place : ℕ) → place ≡ record_at glyphs k → control ≡ true → Some place ≡ first
    control_found place p z = records_hit glyphs (printable image glyphs) k first h i place p (rw (← v, ← e, z))

  pub control_done : glyphs.count ≤ k → found_from glyphs (printable image glyphs) k ≡ first → None ≡ first
  control_done h i = records_done glyphs (printable image glyphs) k first h i
