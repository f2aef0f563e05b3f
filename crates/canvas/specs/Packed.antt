-- For the proofs alone: how the code lays a stroke on a stroke, by arithmetic on their words.
use Rattle.std.specs.Prelude.{ℕ, ◌+◌, ◌*◌, ◌/◌, ◌%◌, ◌≤◌, max}
use Rattle.cell.specs.OneCell.{weight_number, weight_of}

-- a field of three bits as a weight: what no weight has is no arm
abbrev pub arm_number : ℕ → ℕ
arm_number field = weight_number (weight_of field)

-- the greater weight per arm, of the strokes in two words
unfoldable pub merged_word : ℕ → ℕ → ℕ
merged_word old word =
    0x80000000
    + (max (arm_number (old % 8)) (word % 8)
    + 8 * max (arm_number (old / 8 % 8)) (word / 8 % 8)
    + 64 * max (arm_number (old / 64 % 8)) (word / 64 % 8)
    + 512 * max (arm_number (old / 512 % 8)) (word / 512 % 8))

-- the four fields of a word are weights
abbrev pub FourArms : ℕ → Type 0
FourArms word = (word % 8 ≤ 3) × (word / 8 % 8 ≤ 3) × (word / 64 % 8 ≤ 3) × (word / 512 % 8 ≤ 3)
