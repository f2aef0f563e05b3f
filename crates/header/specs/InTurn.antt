-- For the proofs alone: words looked at in turn, with what was found before them.
use Rattle.std.specs.Prelude.{ℕ, suc, ◌+◌, Bool, true, false, List, [], ◌∷◌, Option, Some}
use Rattle.std.specs.Option.{option_or}
use Rattle.layout.specs.Tables.{word}
use Rattle.header.specs.Words.{at_most}

-- what was found before, or the place of a word that is not good
abbrev pub or_unless : Option ℕ → Bool → ℕ → Option ℕ
or_unless before true place = before
or_unless before false place = option_or before (Some place)

-- the same for the words of the record at `at`, from word i on
unfoldable pub or_words : Option ℕ → ℕ → ℕ → List Bool → Option ℕ
or_words before at i [] = before
or_words before at i (good ∷ rest) = or_words (or_unless before good (at + i)) at (suc i) rest

-- the words of the record at `at`, by their offsets
abbrev pub words_at : List ℕ → ℕ → ℕ → ℕ
words_at image at offset = word image (at + offset)

-- four numbers in a row with one limit
abbrev pub four_rules : (ℕ → ℕ) → ℕ → List Bool
four_rules w limit = at_most (w 0) limit ∷ at_most (w 1) limit ∷ at_most (w 2) limit ∷ at_most (w 3) limit ∷ []
