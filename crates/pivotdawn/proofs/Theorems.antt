-- Any two answers that the contract of a call for C and Rust permits are equal: the code, and each lent word afterwards.
use Prim.Native.Nat.{ℕ}
use mathlib.Core.List.{List}
use mathlib.Core.Path.{◌≡◌, sym, ap, ◌∙◌}
use Rattle.refusals.specs.Rules.{checked}
use Rattle.picture.specs.Painted.{painted, painted_coloured}
use Rattle.paint.specs.declared.Outcome.{Outcome}
use Rattle.paint.specs.Outcome.{outcome_of}
use Rattle.painttext.specs.declared.Written.{Written}
use Rattle.painttext.proofs.Theorems.{text_one_answer, coloured_text_one_answer}
use Rattle.paintsheet.proofs.Theorems.{sheet_one_answer, coloured_sheet_one_answer}
use Rattle.pivotdawn.specs.Told.{told, told_place, told_written, TextTold, TextToldColoured, SheetTold, SheetToldColoured}

pub one_answer :
    (image words : List ℕ) (r s : ℕ) (a b : List ℕ) →
    r ≡ (checked image).code → a ≡ told (checked image) words →
    s ≡ (checked image).code → b ≡ told (checked image) words →
    (r ≡ s) × (a ≡ b)
one_answer image words r s a b p q t u = (p ∙ sym t, q ∙ sym u)

module _ (image : List ℕ) (first rows : ℕ) (cells scratch words : List ℕ) where
  -- what `pivotdawn_paint` promises of its answer and of the lent buffers afterwards
  pub record Permitted (code : ℕ) (cells' scratch' words' : List ℕ) : Type 0 where
    pub answered : code ≡ (outcome_of (painted image first rows cells scratch).verdict).code
    pub in_cells : cells' ≡ (painted image first rows cells scratch).cells
    pub in_scratch : scratch' ≡ (painted image first rows cells scratch).scratch
    pub in_words : words' ≡ told_place (outcome_of (painted image first rows cells scratch).verdict) words

  pub paint_one_answer :
      (r s : ℕ) (c d t u a b : List ℕ) → Permitted r c t a → Permitted s d u b →
      (r ≡ s) × (c ≡ d) × (t ≡ u) × (a ≡ b)
  paint_one_answer r s c d t u a b p q = (
    p.answered ∙ sym q.answered,
    p.in_cells ∙ sym q.in_cells,
    p.in_scratch ∙ sym q.in_scratch,
    p.in_words ∙ sym q.in_words,
  )

module _ (image : List ℕ) (first rows : ℕ) (cells colours stamps scratch words : List ℕ) where
  -- what `pivotdawn_paint_coloured` promises
  pub record PermittedColoured (code : ℕ) (cells' colours' stamps' scratch' words' : List ℕ) : Type 0 where
    pub answered : code ≡ (outcome_of (painted_coloured image first rows cells colours stamps scratch).verdict).code
    pub in_cells : cells' ≡ (painted_coloured image first rows cells colours stamps scratch).cells
    pub in_colours : colours' ≡ (painted_coloured image first rows cells colours stamps scratch).colours
    pub in_stamps : stamps' ≡ (painted_coloured image first rows cells colours stamps scratch).stamps
    pub in_scratch : scratch' ≡ (painted_coloured image first rows cells colours stamps scratch).scratch
    pub in_words : words' ≡ told_place (outcome_of (painted_coloured image first rows cells colours stamps scratch).verdict) words

  pub paint_coloured_one_answer :
      (r s : ℕ) (c d k l m n t u a b : List ℕ) → PermittedColoured r c k m t a → PermittedColoured s d l n u b →
      (r ≡ s) × (c ≡ d) × (k ≡ l) × (m ≡ n) × (t ≡ u) × (a ≡ b)
  paint_coloured_one_answer r s c d k l m n t u a b p q = (
    p.answered ∙ sym q.answered,
    p.in_cells ∙ sym q.in_cells,
    p.in_colours ∙ sym q.in_colours,
    p.in_stamps ∙ sym q.in_stamps,
    p.in_scratch ∙ sym q.in_scratch,
    p.in_words ∙ sym q.in_words,
  )

-- what is told of one answer is one
told_once :
    {A : Type 0} (code : A → ℕ) (tell : A → List ℕ) (v w : A) (r s : ℕ) (a b : List ℕ) →
    v ≡ w → r ≡ code v → s ≡ code w → a ≡ tell v → b ≡ tell w → (r ≡ s) × (a ≡ b)
told_once code tell v w r s a b e p q t u = (p ∙ ap code e ∙ sym q, t ∙ ap tell e ∙ sym u)

-- of a band as text
written_once : (v w : Written) (r s : ℕ) (words a b : List ℕ) → v ≡ w → r ≡ v.code → s ≡ w.code → a ≡ told_written v words → b ≡ told_written w words → (r ≡ s) × (a ≡ b)
written_once v w r s words = told_once (λ (x : Written). x.code) (λ (x : Written). told_written x words) v w r s

-- of a sheet
place_once : (v w : Outcome) (r s : ℕ) (words a b : List ℕ) → v ≡ w → r ≡ v.code → s ≡ w.code → a ≡ told_place v words → b ≡ told_place w words → (r ≡ s) × (a ≡ b)
place_once v w r s words = told_once (λ (x : Outcome). x.code) (λ (x : Outcome). told_place x words) v w r s

pub text_told_one_answer :
    (image : List ℕ) (first rows : ℕ) (cells scratch out words : List ℕ) (r s : ℕ) (c d t u o p a b : List ℕ) →
    TextTold image first rows cells scratch out words r c t o a → TextTold image first rows cells scratch out words s d u p b →
    (r ≡ s) × (c ≡ d) × (t ≡ u) × (o ≡ p) × (a ≡ b)
text_told_one_answer image first rows cells scratch out words r s c d t u o p a b one other =
    let same = text_one_answer image first rows cells scratch out one.written other.written c d t u o p one.painted other.painted in
    let told' = written_once one.written other.written r s words a b same.0 one.answered other.answered one.in_words other.in_words in
    (told'.0, same.1, same.2, same.3, told'.1)

pub coloured_text_told_one_answer :
    (image : List ℕ) (first rows : ℕ) (cells colours stamps scratch out words : List ℕ) (r s : ℕ) (c d k l m n t u o p a b : List ℕ) →
    TextToldColoured image first rows cells colours stamps scratch out words r c k m t o a →
    TextToldColoured image first rows cells colours stamps scratch out words s d l n u p b →
    (r ≡ s) × (c ≡ d) × (k ≡ l) × (m ≡ n) × (t ≡ u) × (o ≡ p) × (a ≡ b)
coloured_text_told_one_answer image first rows cells colours stamps scratch out words r s c d k l m n t u o p a b one other =
    let same =
    coloured_text_one_answer image first rows cells colours stamps scratch out one.written other.written c d k l m n t u o p one.painted other.painted
    in
    let told' = written_once one.written other.written r s words a b same.0 one.answered other.answered one.in_words other.in_words in
    (told'.0, same.1, same.2, same.3, same.4, same.5, told'.1)

pub sheet_told_one_answer :
    (image : List ℕ) (band : ℕ) (cells scratch words : List ℕ) (r s : ℕ) (c d t u a b : List ℕ) →
    SheetTold image band cells scratch words r c t a → SheetTold image band cells scratch words s d u b →
    (r ≡ s) × (c ≡ d) × (t ≡ u) × (a ≡ b)
sheet_told_one_answer image band cells scratch words r s c d t u a b one other =
    let same = sheet_one_answer image band cells scratch one.outcome other.outcome c d t u one.painted other.painted in
    let told' = place_once one.outcome other.outcome r s words a b same.0 one.answered other.answered one.in_words other.in_words in
    (told'.0, same.1, same.2, told'.1)

pub coloured_sheet_told_one_answer :
    (image : List ℕ) (band : ℕ) (cells colours stamps scratch words : List ℕ) (r s : ℕ) (c d k l m n t u a b : List ℕ) →
    SheetToldColoured image band cells colours stamps scratch words r c k m t a →
    SheetToldColoured image band cells colours stamps scratch words s d l n u b →
    (r ≡ s) × (c ≡ d) × (k ≡ l) × (m ≡ n) × (t ≡ u) × (a ≡ b)
coloured_sheet_told_one_answer image band cells colours stamps scratch words r s c d k l m n t u a b one other =
    let same =
    coloured_sheet_one_answer image band cells colours stamps scratch one.outcome other.outcome c d k l m n t u one.painted other.painted
    in
    let told' = place_once one.outcome other.outcome r s words a b same.0 one.answered other.answered one.in_words other.in_words in
    (told'.0, same.1, same.2, same.3, same.4, told'.1)
