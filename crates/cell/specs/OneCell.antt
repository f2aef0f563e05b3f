-- "One cell": its parts, how they are packed into a word and read back, and the three rules by which ink falls on what is there.
use Rattle.std.specs.Prelude.{ℕ, ◌+◌, ◌*◌, ◌/◌, ◌%◌, ◌≤◌, Bool, cond, ◌||◌, ◌≡◌, eqb, leb}
use Rattle.cell.specs.declared.Weight.{Weight}
use Rattle.cell.specs.declared.Weight.TheVariants as weight
use Rattle.cell.specs.declared.MarkerKind.{MarkerKind}
use Rattle.cell.specs.declared.MarkerKind.TheVariants.{Arrow, SelfLoop, Dummy}
use Rattle.cell.specs.declared.Dir.{Dir}
use Rattle.cell.specs.declared.Dir.TheVariants.{Up, Down, Left, Right}
use Rattle.cell.specs.declared.Arms.{Arms}
use Rattle.cell.specs.declared.Parts.{Parts}
use Rattle.cell.specs.declared.Parts.TheVariants.{Empty, Text, Continuation, Stroke, Marker}

-- The numbers that the document gives.

-- a weight: 1 Dashed, 2 Light, 3 Double; 0 is no arm
abbrev pub weight_number : Weight → ℕ
weight_number weight.None = 0
weight_number weight.Dashed = 1
weight_number weight.Light = 2
weight_number weight.Double = 3

-- a marker's kind: 1 Arrow, 2 SelfLoop, 3 Dummy
abbrev pub marker_number : MarkerKind → ℕ
marker_number Arrow = 1
marker_number SelfLoop = 2
marker_number Dummy = 3

-- a direction: Up, Down, Left, Right from 0
abbrev pub dir_number : Dir → ℕ
dir_number Up = 0
dir_number Down = 1
dir_number Left = 2
dir_number Right = 3

-- What a number stands for. A number that no weight has is no arm; one that no other kind has is an Arrow.

abbrev pub weight_of : ℕ → Weight
weight_of n =
    cond (eqb n 1) weight.Dashed (cond (eqb n 2) weight.Light (cond (eqb n 3) weight.Double weight.None))

abbrev pub marker_of : ℕ → MarkerKind
marker_of n = cond (eqb n 2) SelfLoop (cond (eqb n 3) Dummy Arrow)

abbrev pub dir_of : ℕ → Dir
dir_of n = cond (eqb n 0) Up (cond (eqb n 1) Down (cond (eqb n 2) Left Right))

-- The arms of a line that goes through a cell.

abbrev pub vertical : Weight → Arms
vertical w = record { up = w; down = w; left = weight.None; right = weight.None }

abbrev pub horizontal : Weight → Arms
horizontal w = record { up = weight.None; down = weight.None; left = w; right = w }

-- Packing. "Tag in bits 31..30: 0 empty, 1 text, 2 stroke, 3 marker."

-- "weights at bits 0 up, 3 down, 6 left, 9 right"
unfoldable pub pack_arms : Arms → ℕ
pack_arms a =
    weight_number a.up + 8 * weight_number a.down + 64 * weight_number a.left
    + 512 * weight_number a.right

-- "kind in bits 3..0, direction in 5..4, dashed in bit 6"
unfoldable pub pack_marker : MarkerKind → Dir → Bool → ℕ
pack_marker kind dir dashed = marker_number kind + 16 * dir_number dir + 64 * cond dashed 1 0

-- "Text: code point; bit 21 alone is a continuation." A code point has 21 bits.
unfoldable pub pack : Parts → ℕ
pack Empty = 0
pack (Text ch) = 0x40000000 + ch % 0x200000
pack Continuation = 0x40000000 + 0x200000
pack (Stroke arms) = 0x80000000 + pack_arms arms
pack (Marker kind dir dashed) = 0xC0000000 + pack_marker kind dir dashed

-- Reading, of any word.

unfoldable pub read_arms : ℕ → Arms
read_arms w = record {
  up = weight_of (w % 8);
  down = weight_of (w / 8 % 8);
  left = weight_of (w / 64 % 8);
  right = weight_of (w / 512 % 8);
}

unfoldable pub read_text : ℕ → Parts
read_text w = cond (eqb (w / 0x200000 % 2) 1) Continuation (Text (w % 0x200000))

unfoldable pub read_marker : ℕ → Parts
read_marker w = Marker (marker_of (w % 16)) (dir_of (w / 16 % 4)) (eqb (w / 64 % 2) 1)

unfoldable pub read : ℕ → Parts
read w =
    cond (eqb (w / 0x40000000) 0) Empty
    (cond (eqb (w / 0x40000000) 1) (read_text w)
    (cond (eqb (w / 0x40000000) 2) (Stroke (read_arms w)) (read_marker w)))

-- The parts that a picture has: a text's code point is one of Unicode's.
unfoldable pub Valid : Parts → Type 0
Valid Empty = Unit {0}
Valid (Text ch) = ch ≤ 0x10FFFF
Valid Continuation = Unit {0}
Valid (Stroke arms) = Unit {0}
Valid (Marker kind dir dashed) = Unit {0}

-- a word that is the packing of valid parts
pub record Packed (w : ℕ) : Type 0 where
  pub parts : Parts
  pub valid : Valid parts
  pub packing : w ≡ pack parts

-- The rules.

-- "the greater weight per arm"
abbrev pub heavier : Weight → Weight → Weight
heavier a b = cond (leb (weight_number b) (weight_number a)) a b

unfoldable pub heavier_arms : Arms → Arms → Arms
heavier_arms a b = record {
  up = heavier a.up b.up;
  down = heavier a.down b.down;
  left = heavier a.left b.left;
  right = heavier a.right b.right;
}

abbrev pub is_double : Weight → Bool
is_double w = eqb (weight_number w) 3

-- "with one", a Double arm
unfoldable pub has_double : Arms → Bool
has_double a = is_double a.up || is_double a.down || is_double a.left || is_double a.right

-- "a Light stem in its direction"
abbrev pub stem : Dir → Arms
stem Up = record { up = weight.Light; down = weight.None; left = weight.None; right = weight.None }
stem Down = record { up = weight.None; down = weight.Light; left = weight.None; right = weight.None }
stem Left = record { up = weight.None; down = weight.None; left = weight.Light; right = weight.None }
stem Right = record { up = weight.None; down = weight.None; left = weight.None; right = weight.Light }

-- a stroke that has a Double arm, on a marker: "it replaces .. SelfLoop and Dummy, and an Arrow first becomes a Light stem in its direction, then merges"
unfoldable pub double_on_marker : Arms → MarkerKind → Dir → Parts
double_on_marker new Arrow dir = Stroke (heavier_arms (stem dir) new)
double_on_marker new SelfLoop dir = Stroke new
double_on_marker new Dummy dir = Stroke new

-- "A stroke on a stroke takes the greater weight per arm; on empty, itself. On text or a marker it does nothing without a Double arm; with one it replaces text .."
unfoldable pub stroked : Parts → Arms → Parts
stroked Empty new = Stroke new
stroked (Text ch) new = cond (has_double new) (Stroke new) (Text ch)
stroked Continuation new = cond (has_double new) (Stroke new) Continuation
stroked (Stroke old) new = Stroke (heavier_arms old new)
stroked (Marker kind dir dashed) new = cond (has_double new) (double_on_marker new kind dir) (Marker kind dir dashed)

-- "A marker replaces all but text."
unfoldable pub marked : Parts → MarkerKind → Dir → Bool → Parts
marked Empty kind dir dashed = Marker kind dir dashed
marked (Text ch) kind dir dashed = Text ch
marked Continuation kind dir dashed = Continuation
marked (Stroke arms) kind dir dashed = Marker kind dir dashed
marked (Marker k d x) kind dir dashed = Marker kind dir dashed

-- The same on a cell's word.

unfoldable pub painted_stroke : ℕ → Arms → ℕ
painted_stroke w new = pack (stroked (read w) new)

unfoldable pub painted_marker : ℕ → MarkerKind → Dir → Bool → ℕ
painted_marker w kind dir dashed = pack (marked (read w) kind dir dashed)

-- "Text replaces everything."
unfoldable pub painted_text : ℕ → ℕ → ℕ
painted_text w ch = pack (Text ch)
