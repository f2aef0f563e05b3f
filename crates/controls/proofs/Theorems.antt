-- Code 13 finds nothing exactly where no glyph is a control character.
use native.Mathlib.Omega.{arith}
use Prim.Native.Nat.{ℕ}
use mathlib.Core.Bool.{true, ◌&&◌, or-true}
use mathlib.Core.List.{List}
use mathlib.Core.Logic.{◌↔◌, inl, inr, ⊎_elim}
use mathlib.Core.Path.{◌≡◌}
use lib.Dec.{leb}
use borrow.Author.Tests.{le-leb, leb-true, not-true}
use Rattle.std.specs.Prelude.{None}
use Rattle.ground.specs.Judged.{first_bad}
use Rattle.ground.proofs.Each.{by_bool, and_left, and_right}
use Rattle.layout.specs.declared.Table.{Table}
use Rattle.layout.specs.Layout.{glyph_value}
use Rattle.layout.specs.Tables.{field}
use Rattle.elements.proofs.Records.{records_good_iff}
use Rattle.controls.specs.Controls.{is_control, controls_judged, Control, NoControls}
use Rattle.controls.proofs.Laws.{printable}

-- The test is the rule in words.
pub control_iff : (value : ℕ) → (is_control value ≡ true) ↔ Control value
unfolding is_control
control_iff value = (
  λ h. by_bool (leb value 0x1F)
      (λ low. inl (leb-true _ _ low))
      (λ high.
      let both : leb 0x7F value && leb value 0x9F ≡ true = rw high at h in
      inr (leb-true _ _ (and_left _ _ both), leb-true _ _ (and_right (leb 0x7F value) _ both))),
  λ c. ⊎_elim
      (λ low. rw (le-leb value 0x1F low))
      (λ high. rw (le-leb 0x7F value high.0, le-leb value 0x9F high.1) (or-true (leb value 0x1F)))
      c,
)

-- No glyph is found exactly where none is a control character.
pub controls_iff : (image : List ℕ) (glyphs : Table) → (first_bad (controls_judged image glyphs) ≡ None) ↔ NoControls image glyphs
unfolding controls_judged
controls_iff image glyphs =
    let each = records_good_iff glyphs (printable image glyphs) in (
      (λ h k p c.
          let found = (control_iff (field image glyphs k glyph_value)).1 c in
          let none = not-true (is_control (field image glyphs k glyph_value)) (each.0 h k p) in
          let z : ◌≡◌ {A = ℕ} 0 1 = cc in omega arith),
      (λ g. each.1 (λ k p. by_bool (is_control (field image glyphs k glyph_value)) (λ t. absurd (g k p ((control_iff _).0 t))) (λ t. rw t))),
    )
