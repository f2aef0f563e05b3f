-- Each call permits one answer.
use Prim.Native.Nat.{ℕ}
use mathlib.Core.List.{List}
use mathlib.Core.Path.{◌≡◌, sym, ◌∙◌}
use Rattle.painttext.specs.declared.Written.{Written}
use Rattle.painttext.specs.PaintedText.{TextPainted, TextPaintedColoured}

-- Any two answers that the contract of `paint_text` permits are equal: the code, the place and the bytes, and each lent word and byte afterwards.
pub text_one_answer :
    (image : List ℕ) (first rows : ℕ) (cells scratch out : List ℕ) (r s : Written) (c d t u o p : List ℕ) →
    TextPainted image first rows cells scratch out r c t o → TextPainted image first rows cells scratch out s d u p →
    (r ≡ s) × (c ≡ d) × (t ≡ u) × (o ≡ p)
text_one_answer image first rows cells scratch out r s c d t u o p a b = (
  a.answered ∙ sym b.answered,
  a.in_cells ∙ sym b.in_cells,
  a.in_scratch ∙ sym b.in_scratch,
  a.in_out ∙ sym b.in_out,
)

-- The same of `paint_text_coloured`.
pub coloured_text_one_answer :
    (image : List ℕ) (first rows : ℕ) (cells colours stamps scratch out : List ℕ) (r s : Written) (c d k l m n t u o p : List ℕ) →
    TextPaintedColoured image first rows cells colours stamps scratch out r c k m t o →
    TextPaintedColoured image first rows cells colours stamps scratch out s d l n u p →
    (r ≡ s) × (c ≡ d) × (k ≡ l) × (m ≡ n) × (t ≡ u) × (o ≡ p)
coloured_text_one_answer image first rows cells colours stamps scratch out r s c d k l m n t u o p a b = (
  a.answered ∙ sym b.answered,
  a.in_cells ∙ sym b.in_cells,
  a.in_colours ∙ sym b.in_colours,
  a.in_stamps ∙ sym b.in_stamps,
  a.in_scratch ∙ sym b.in_scratch,
  a.in_out ∙ sym b.in_out,
)
