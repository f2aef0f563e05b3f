-- Words looked at in turn: what is found is the first that is not good, and of four the first over their limit.
use native.Mathlib.Nat.{add-zero}
use Prim.Native.Nat.{ℕ, suc, ◌+◌, ◌≤◌, ◌<◌}
use mathlib.Core.Bool.{Bool, true, false}
use mathlib.Core.List.{List, [], ◌∷◌}
use mathlib.Core.Path.{◌≡◌, refl, sym, ◌∙◌}
use borrow.Author.Tests.{le-leb, lt-leb}
use Rattle.std.specs.Prelude.{Option, Some, None}
use Rattle.std.specs.Option.{option_or}
use Rattle.ground.specs.Judged.{judged_words, first_bad}
use Rattle.layout.specs.Tables.{word}
use Rattle.header.specs.Words.{at_most}
use Rattle.header.specs.InTurn.{or_words, words_at, four_rules}

-- what was found first stays
kept : (p at i : ℕ) (rules : List Bool) → or_words (Some p) at i rules ≡ Some p
unfolding or_words
kept p at i [] = refl
kept p at i (true ∷ rest) = kept p at (suc i) rest
kept p at i (false ∷ rest) = kept p at (suc i) rest

-- and so does what was found before a word, or else the word
stays : (before : Option ℕ) (p at i : ℕ) (rules : List Bool) → or_words (option_or before (Some p)) at i rules ≡ option_or before (Some p)
stays None p at i rules = kept p at i rules
stays (Some q) p at i rules = kept q at i rules

all_words : (at i : ℕ) (rules : List Bool) → or_words None at i rules ≡ first_bad (judged_words at i rules)
unfolding or_words judged_words first_bad
all_words at i [] = refl
all_words at i (true ∷ rest) = all_words at (suc i) rest
all_words at i (false ∷ rest) = kept (at + i) at (suc i) rest

pub in_turn : (r : Option ℕ) (at i : ℕ) (rules : List Bool) → r ≡ or_words None at i rules → r ≡ first_bad (judged_words at i rules)
in_turn r at i rules e = e ∙ all_words at i rules

-- Of four the first, the second, the third or the last is over the limit, or none is.

module _ (image : List ℕ) (before r : Option ℕ) (at limit one : ℕ) (e : one ≡ word image at) where
  abbrev rule : ℕ → Bool
  rule i = at_most (words_at image at i) limit

  pub over_first : r ≡ option_or before (Some at) → limit < one → r ≡ or_words before at 0 (four_rules (words_at image at) limit)
  unfolding or_words
  over_first h p = rw (add-zero, ← e, lt-leb _ _ p) (h ∙ sym (stays before at at 1 (rule 1 ∷ rule 2 ∷ rule 3 ∷ [])))

  module _ (two : ℕ) (p : one ≤ limit) (f : two ≡ word image (at + 1)) where
    pub over_second : r ≡ option_or before (Some (at + 1)) → limit < two → r ≡ or_words before at 0 (four_rules (words_at image at) limit)
    unfolding or_words
    over_second h q = rw (add-zero, ← e, le-leb _ _ p, ← f, lt-leb _ _ q) (h ∙ sym (stays before (at + 1) at 2 (rule 2 ∷ rule 3 ∷ [])))

    module _ (three : ℕ) (q : two ≤ limit) (g : three ≡ word image (at + 2)) where
      pub over_third : r ≡ option_or before (Some (at + 2)) → limit < three → r ≡ or_words before at 0 (four_rules (words_at image at) limit)
      unfolding or_words
      over_third h s = rw (add-zero, ← e, le-leb _ _ p, ← f, le-leb _ _ q, ← g, lt-leb _ _ s) (h ∙ sym (stays before (at + 2) at 3 (rule 3 ∷ [])))

      module _ (four : ℕ) (s : three ≤ limit) (k : four ≡ word image (at + 3)) where
        pub over_last : r ≡ option_or before (Some (at + 3)) → limit < four → r ≡ or_words before at 0 (four_rules (words_at image at) limit)
        unfolding or_words
        over_last h u =
            rw (add-zero, ← e, le-leb _ _ p, ← f, le-leb _ _ q, ← g, le-leb _ _ s, ← k, lt-leb _ _ u) (h ∙ sym (stays before (at + 3) at 4 []))

        pub over_none : r ≡ before → four ≤ limit → r ≡ or_words before at 0 (four_rules (words_at image at) limit)
        unfolding or_words
        over_none h u = rw (add-zero, ← e, le-leb _ _ p, ← f, le-leb _ _ q, ← g, le-leb _ _ s, ← k, le-leb _ _ u) h
