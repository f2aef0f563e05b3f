-- The text of a band that was painted is the text of the picture's rows, and how long it is at most.
use native.Mathlib.Omega.{arith}
use native.Mathlib.Nat.{zero-add}
use Prim.Native.Nat.{ℕ, zero, suc, ◌+◌, ◌*◌, ◌≤◌, ◌<◌}
use mathlib.Core.List.{List, []}
use mathlib.Core.Path.{◌≡◌, refl}
use lib.ListN.{length, take, drop}
use Rattle.refusals.specs.FirstBroken.{Verdict, Passed}
use Rattle.ground.specs.Each.{numbers, each}
use Rattle.picture.specs.Picture.{width, picture_row, picture_cells, picture_colours}
use Rattle.picture.specs.Painted.{afterwards}
use Rattle.picture.proofs.Laws.{row_width}
use Rattle.picture.proofs.Answers.{row_of_band, colours_of_band}
use Rattle.rowtext.specs.Text.{row_text, text_room}
use Rattle.rowtext.specs.Coloured.{coloured_row, band_text, coloured_room}
use Rattle.rowtext.proofs.Theorems.{row_room, coloured_row_room, rows_room, uncoloured}
use Rattle.painttext.specs.PaintedText.{picture_text, picture_coloured_text}

-- over numbers from different firsts on, where the same is made one by one
each_alike :
    {B : Type 0} (f g : ℕ → List B) (a b n : ℕ) → ((r : ℕ) → r < n → f (a + r) ≡ g (b + r)) → each (numbers a n) f ≡ each (numbers b n) g
unfolding each numbers
each_alike f g a b zero h = refl
each_alike f g a b (suc n) h =
    let za : a + 0 ≡ a = omega arith in
    let zb : b + 0 ≡ b = omega arith in
    let this : f a ≡ g b = rw (za, zb) at (h 0 (omega arith)) in
    let sa : (r : ℕ) → suc a + r ≡ a + suc r = λ r. omega arith in
    let sb : (r : ℕ) → suc b + r ≡ b + suc r = λ r. omega arith in
    rw (this, each_alike f g (suc a) (suc b) n (λ r p. rw (sa r, sb r) (h (suc r) (omega arith))))

module _ (image : List ℕ) (first rows : ℕ) where
  -- "rows × (4 × width + 1) bytes" are room for the text of any rows
  pub text_room_lem : length (picture_text image first rows) ≤ text_room (width image) rows
  unfolding picture_text
  text_room_lem =
      rows_room (λ y. row_text (picture_row image y).cells) (4 * width image + 1) first rows
      (λ y. omega (arith, row_room (picture_row image y).cells, row_width image y))

  pub coloured_text_room : length (picture_coloured_text image first rows) ≤ coloured_room (width image) rows
  unfolding picture_coloured_text
  coloured_text_room =
      rows_room (λ y. coloured_row (picture_row image y).cells (picture_row image y).colours) (23 * width image + 5) first rows
      (λ y. omega (arith, coloured_row_room (picture_row image y).cells (picture_row image y).colours, row_width image y))

  module _ (v : Verdict) (e : v ≡ Passed) (cells colours : List ℕ) where
    -- the text of what painting leaves in the lent planes
    pub coloured_text_of_band :
        band_text (width image) rows (afterwards v (picture_cells image first rows) cells) (afterwards v (picture_colours image first rows) colours)
        ≡ picture_coloured_text image first rows
    unfolding band_text picture_coloured_text
    coloured_text_of_band =
        each_alike _ _ 0 first rows
        (λ r h. rw (zero-add r, row_of_band image first rows r v cells e h, colours_of_band image first rows r v colours e h))

    -- and without colours
    pub text_of_band : band_text (width image) rows (afterwards v (picture_cells image first rows) cells) [] ≡ picture_text image first rows
    unfolding band_text picture_text
    text_of_band =
        each_alike _ _ 0 first rows
        (λ r h. rw (zero-add r, row_of_band image first rows r v cells e h, no_row (width image) (width image * r)) (uncoloured (picture_row image (first + r)).cells))
      where
        no_row : (n m : ℕ) → ◌≡◌ {A = List ℕ} (take n (drop m [])) []
        no_row zero zero = refl
        no_row zero (suc m) = refl
        no_row (suc n) zero = refl
        no_row (suc n) (suc m) = refl
