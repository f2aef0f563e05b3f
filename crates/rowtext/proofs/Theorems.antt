-- What the text of a row amounts to: how long it is at most, and that of a band, that without colours it is the plain text, and that without its sequences it is too.
use native.Mathlib.Omega.{arith}
use native.Mathlib.Nat.{suc-mul}
use Prim.Native.Nat.{ℕ, zero, suc, ◌+◌, ◌*◌, ◌/◌, ◌%◌, ◌≤◌, ◌<◌}
use mathlib.Core.Bool.{Bool, true, false, not}
use mathlib.Core.List.{List, [], ◌∷◌, ◌++◌, append_assoc}
use mathlib.Core.Path.{◌≡◌, refl, sym, ◌∙◌}
use lib.Dec.{eqb}
use lib.ListN.{length, get_or, drop, length-append, length-take}
use borrow.Author.Tests.{ne_eqb, not-true}
use Rattle.ground.specs.Each.{numbers, each, every}
use Rattle.ground.proofs.Each.{by_bool, and_left, and_right}
use Rattle.ground.proofs.Order.{by_order}
use Rattle.cell.specs.OneCell.{read}
use Rattle.std.specs.Prelude.{Option, None, Some}
use Rattle.shapes.specs.Shapes.{shape_of}
use Rattle.utf8.specs.Utf8.{utf8}
use Rattle.utf8.proofs.Laws.{one_byte, two_bytes, three_bytes, four_bytes, by_size, utf8_length}
use Rattle.sequence.specs.Sequence.{decimal, numeral, semicolon, ending, red_green_blue, sequence}
use Rattle.sequence.proofs.Laws.{one_digit, two_digits, three_digits, is_reset, is_basic, is_indexed, is_direct}
use Rattle.sequence.proofs.Theorems.{by_kind, sequence_length, zero_resets}
use Rattle.rowtext.specs.Text.{feed, shape_text, cell_text, row_text}
use Rattle.rowtext.specs.Coloured.{change_to, shape_coloured, colour_after, coloured_from, coloured_row, row_at, band_text, coloured_room, outside, without_sequences}

-- Room.

-- a cell's text has four bytes at most
cell_room : (s : Option ℕ) → length (shape_text s) ≤ 4
unfolding shape_text
cell_room None = omega arith
cell_room (Some ch) = utf8_length ch

cells_room : (row : List ℕ) → length (each row cell_text) ≤ 4 * length row
unfolding each cell_text
cells_room [] = omega arith
cells_room (w ∷ row) = simp length-append (omega (arith, cell_room (shape_of (read w)), cells_room row))

-- "4 × width + 1 bytes" are room for a row's plain text.
pub row_room : (row : List ℕ) → length (row_text row) ≤ 4 * length row + 1
unfolding row_text
row_room row = simp length-append (omega (arith, cells_room row))

change_room : (now colour : ℕ) → length (change_to now colour) ≤ 19
unfolding change_to
change_room now colour = by_bool (eqb now colour) (λ t. rw t (omega arith)) (λ f. rw f (sequence_length colour))

reset_room : (now : ℕ) → length (change_to now 0) ≤ 4
unfolding change_to
reset_room now = by_bool (eqb now 0) (λ t. rw t (omega arith)) (λ f. rw (f, zero_resets) (omega arith))

shape_room : (now colour : ℕ) (s : Option ℕ) → length (shape_coloured now colour s) ≤ 23
unfolding shape_coloured
shape_room now colour None = omega arith
shape_room now colour (Some ch) = simp length-append (omega (arith, change_room now colour, utf8_length ch))

from_room : (now : ℕ) (row colours : List ℕ) → length (coloured_from now row colours) ≤ 23 * length row + 5
unfolding coloured_from
from_room now [] colours = simp length-append (omega (arith, reset_room now))
from_room now (w ∷ row) colours =
    simp length-append
    (omega (
      arith,
      shape_room now (get_or colours 0 0) (shape_of (read w)),
      from_room (colour_after now (get_or colours 0 0) (shape_of (read w))) row (drop 1 colours),
    ))

-- 23 × width + 5 bytes are room for its coloured text.
pub coloured_row_room : (row colours : List ℕ) → length (coloured_row row colours) ≤ 23 * length row + 5
coloured_row_room row colours = from_room 0 row colours

-- as many bytes as each row has at most
pub rows_room : (f : ℕ → List ℕ) (most first n : ℕ) → ((y : ℕ) → length (f y) ≤ most) → length (each (numbers first n) f) ≤ n * most
unfolding each numbers
rows_room f most first zero h = omega arith
rows_room f most first (suc n) h =
    rw (suc-mul n most) (simp length-append (omega (arith, h first, rows_room f most (suc first) n h)))

-- rows × (23 × width + 5) bytes are room for the text of so many rows, whatever the cells and the colours.
pub band_room : (width rows : ℕ) (cells colours : List ℕ) → length (band_text width rows cells colours) ≤ coloured_room width rows
unfolding band_text
band_room width rows cells colours =
    rows_room (λ r. coloured_row (row_at width cells r) (row_at width colours r)) (23 * width + 5) 0 rows
    (λ r. omega (arith, coloured_row_room (row_at width cells r) (row_at width colours r), length-take width (drop (width * r) cells)))

-- Without colours.

uncoloured_cell : (s : Option ℕ) → (shape_coloured 0 0 s ≡ shape_text s) × (colour_after 0 0 s ≡ 0)
unfolding shape_coloured shape_text colour_after change_to
uncoloured_cell None = (refl, refl)
uncoloured_cell (Some ch) = (refl, refl)

-- Where no colours are lent, a row's text is its plain text.
pub uncoloured : (row : List ℕ) → coloured_row row [] ≡ row_text row
unfolding coloured_from row_text each cell_text change_to
uncoloured [] = refl
uncoloured (w ∷ row) =
    rw ((uncoloured_cell (shape_of (read w))).0, (uncoloured_cell (shape_of (read w))).1, uncoloured row) (sym (append_assoc (shape_text (shape_of (read w))) (each row cell_text) (feed ∷ [])))

-- Without sequences.

-- Bytes that begin no sequence stay, and those that end none are left out with it.

abbrev plain_byte : ℕ → Bool
plain_byte b = not (eqb b 0x1B)

abbrev inside : ℕ → Bool
inside b = not (eqb b ending)

stay : (bytes rest : List ℕ) → every bytes plain_byte ≡ true → outside false (bytes ++ rest) ≡ bytes ++ outside false rest
unfolding every outside
stay [] rest h = refl
stay (b ∷ bytes) rest h = rw (not-true (eqb b 0x1B) (and_left (plain_byte b) _ h), stay bytes rest (and_right (plain_byte b) _ h))

left_out : (bytes rest : List ℕ) → every bytes inside ≡ true → outside true (bytes ++ rest) ≡ outside true rest
unfolding every outside
left_out [] rest h = refl
left_out (b ∷ bytes) rest h = rw (not-true (eqb b ending) (and_left (inside b) _ h)) (left_out bytes rest (and_right (inside b) _ h))

-- A sequence is left out whole.

digits_inside : (n : ℕ) → n < 0x100 → every (decimal n) inside ≡ true
unfolding every
digits_inside n h =
    by_order n 10
    (λ p. rw (one_digit n p, digit (48 + n) (omega arith)))
    (λ p. by_order n 100
    (λ q. rw (two_digits n p q, digit (48 + n / 10) (omega arith), digit (48 + n % 10) (omega arith)))
    (λ q. rw (three_digits n q, digit (48 + n / 100) (omega arith), digit (48 + n / 10 % 10) (omega arith), digit (48 + n % 10) (omega arith))))
  where
    digit : (b : ℕ) → b < ending → eqb b ending ≡ false
    digit b l = ne_eqb b ending (λ e. omega arith)

module _ (n : ℕ) (small : n < 0x100) (rest : List ℕ) where
  number_out : (byte : ℕ) → outside true (numeral n byte ++ rest) ≡ outside true (byte ∷ rest)
  unfolding numeral
  number_out byte = rw (append_assoc (decimal n) (byte ∷ []) rest) (left_out (decimal n) (byte ∷ rest) (digits_inside n small))

  next_out : outside true (numeral n semicolon ++ rest) ≡ outside true rest
  unfolding outside
  next_out = number_out semicolon

  last_out : outside true (numeral n ending ++ rest) ≡ outside false rest
  unfolding outside
  last_out = number_out ending

colours_out : (c : ℕ) (rest : List ℕ) → outside true (red_green_blue c ++ rest) ≡ outside false rest
unfolding red_green_blue
colours_out c rest =
    simp append_assoc
    (next_out (c / 0x10000 % 0x100) (omega arith) _ ∙ next_out (c / 0x100 % 0x100) (omega arith) _ ∙ last_out (c % 0x100) (omega arith) rest)

sequence_out : (c : ℕ) (rest : List ℕ) → outside false (sequence c ++ rest) ≡ outside false rest
unfolding outside
sequence_out c rest =
    by_kind c
    (λ z. rw (is_reset c z))
    (λ some h. rw (is_basic c some h) (last_out c (omega arith) rest))
    (λ some h l. rw (is_indexed c some h l) (last_out c l rest))
    (λ some h l. rw (is_direct c some h l) (colours_out c rest))

change_out : (now colour : ℕ) (rest : List ℕ) → outside false (change_to now colour ++ rest) ≡ outside false rest
unfolding change_to
change_out now colour rest = by_bool (eqb now colour) (λ t. rw t) (λ f. rw f (sequence_out colour rest))

-- A character stays.

plain_bytes : (ch : ℕ) → (ch ≡ 0x1B → ⊥) → every (utf8 ch) plain_byte ≡ true
unfolding every
plain_bytes ch other =
    by_size ch
    (λ h. rw (one_byte ch h, ne_eqb ch 0x1B other))
    (λ h l. rw (two_bytes ch h l, tail (ch % 0x40), head (0xC0 + ch / 0x40) (omega arith)))
    (λ h l. rw (three_bytes ch h l, tail (ch / 0x40 % 0x40), tail (ch % 0x40), head (0xE0 + ch / 0x1000) (omega arith)))
    (λ h. rw (four_bytes ch h, tail (ch / 0x1000 % 0x40), tail (ch / 0x40 % 0x40), tail (ch % 0x40), head (0xF0 + ch / 0x40000) (omega arith)))
  where
    head : (b : ℕ) → 0x1B < b → eqb b 0x1B ≡ false
    head b h = ne_eqb b 0x1B (λ e. omega arith)

    tail : (b : ℕ) → eqb (0x80 + b) 0x1B ≡ false
    tail b = head (0x80 + b) (omega arith)

shape_kept :
    (now colour : ℕ) (s : Option ℕ) (rest : List ℕ) → ((ch : ℕ) → s ≡ Some ch → ch ≡ 0x1B → ⊥) →
    outside false (shape_coloured now colour s ++ rest) ≡ shape_text s ++ outside false rest
unfolding shape_coloured shape_text
shape_kept now colour None rest none = refl
shape_kept now colour (Some ch) rest none =
    rw (append_assoc (change_to now colour) (utf8 ch) rest) (change_out now colour (utf8 ch ++ rest) ∙ stay (utf8 ch) rest (plain_bytes ch (none ch refl)))

-- no cell of a row is written as an ESC
abbrev pub NoEscape : List ℕ → Type 0
NoEscape row = (x ch : ℕ) → shape_of (read (get_or row x 0)) ≡ Some ch → ch ≡ 0x1B → ⊥

from_kept :
    (row colours : List ℕ) (now : ℕ) (rest : List ℕ) → NoEscape row →
    outside false (coloured_from now row colours ++ rest) ≡ each row cell_text ++ (feed ∷ outside false rest)
unfolding each outside cell_text coloured_from
from_kept [] colours now rest none = rw (append_assoc (change_to now 0) (feed ∷ []) rest) (change_out now 0 (feed ∷ rest))
from_kept (w ∷ row) colours now rest none =
    let s : Option ℕ = shape_of (read w) in
    let colour : ℕ = get_or colours 0 0 in
    let more : List ℕ = coloured_from (colour_after now colour s) row (drop 1 colours) ++ rest in
    rw (append_assoc (shape_coloured now colour s) (coloured_from (colour_after now colour s) row (drop 1 colours)) rest)
    (shape_kept now colour s more (none 0)
    ∙ rw (from_kept row (drop 1 colours) (colour_after now colour s) rest (λ x. none (suc x)))
    (sym (append_assoc (shape_text s) (each row cell_text) (feed ∷ outside false rest))))

-- Without its sequences the coloured text of a row is its plain text, whatever text follows.
pub plain_of_coloured_row :
    (row colours rest : List ℕ) → NoEscape row → without_sequences (coloured_row row colours ++ rest) ≡ row_text row ++ without_sequences rest
unfolding row_text
plain_of_coloured_row row colours rest none =
    from_kept row colours 0 rest none ∙ sym (append_assoc (each row cell_text) (feed ∷ []) (without_sequences rest))
