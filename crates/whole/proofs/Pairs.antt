-- What a cell that is put into a row changes of its wide leads and continuations.
use native.Mathlib.Omega.{arith}
use Prim.Native.Nat.{ℕ, ◌+◌, ◌-◌, ◌<◌}
use mathlib.Core.Bool.{Bool, true, false, not, ◌&&◌, and-true, and-not_self}
use mathlib.Core.List.{List}
use mathlib.Core.Path.{◌≡◌, refl, sym, ◌∙◌, ap}
use lib.ListN.{length, get_or, set, length-set, get_or-eq_default}
use lib.Seq.{get_or-set_same, get_or-set_other}
use Rattle.ground.proofs.Order.{by_order, by_three}
use Rattle.ground.proofs.Each.{by_bool}
use Rattle.cell.specs.declared.Parts.{Parts}
use Rattle.cell.specs.declared.Parts.TheVariants.{Empty, Text, Continuation, Stroke, Marker}
use Rattle.cell.specs.OneCell.{pack, read, Valid}
use Rattle.cell.proofs.Theorems.{read_pack}
use Rattle.glyph.specs.Width.{width_of}
use Rattle.canvas.specs.Row.{space, lead_parts, continuation_parts, is_wide_lead, is_continuation, empty_continuation, blank_lead, put}
use Rattle.canvas.proofs.Laws.{past_end, emptied, no_lead_here, no_continuation_next, blanked, no_continuation_here, no_lead_before, first_column, put_other}
use Rattle.canvas.proofs.Theorems.{put_length}

-- the cell at a column is a continuation
abbrev pub cont : List ℕ → ℕ → Bool
cont row k = is_continuation (get_or row k 0)

-- the cell at a column is a wide lead
abbrev pub lead : List ℕ → List ℕ → ℕ → Bool
lead ranges row k = is_wide_lead (get_or row k 0) ranges

-- no test both holds and does not
pub never : {P : Type 0} (test : Bool) → test ≡ true → test ≡ false → P
never test p q = absurd (let z : ◌≡◌ {A = ℕ} 0 1 = cc in omega arith)

-- a packing is what its parts are

pub pack_lead : (ranges : List ℕ) (p : Parts) → Valid p → is_wide_lead (pack p) ranges ≡ lead_parts p ranges
unfolding is_wide_lead
pack_lead ranges p valid = rw (read_pack p valid)

pub pack_cont : (p : Parts) → Valid p → is_continuation (pack p) ≡ continuation_parts p
unfolding is_continuation
pack_cont p valid = rw (read_pack p valid)

-- no cell is both

lead_alone : (ranges : List ℕ) (p : Parts) → lead_parts p ranges ≡ true → continuation_parts p ≡ false
lead_alone ranges Empty h = refl
lead_alone ranges (Text ch) h = refl
lead_alone ranges Continuation h = sym h
lead_alone ranges (Stroke arms) h = refl
lead_alone ranges (Marker kind dir dashed) h = refl

module _ (ranges : List ℕ) where
  lead_no_cont : (w : ℕ) → is_wide_lead w ranges ≡ true → is_continuation w ≡ false
  unfolding is_wide_lead is_continuation
  lead_no_cont w h = lead_alone ranges (read w) h

  cont_no_lead : (w : ℕ) → is_continuation w ≡ true → is_wide_lead w ranges ≡ false
  cont_no_lead w h = by_bool (is_wide_lead w ranges) (λ l. never (is_continuation w) h (lead_no_cont w l)) (λ l. l)

  -- the empty cell is neither

  empty_lead : is_wide_lead 0 ranges ≡ false
  unfolding is_wide_lead read
  empty_lead = refl

  empty_cont : is_continuation 0 ≡ false
  unfolding is_continuation read
  empty_cont = refl

  -- so both stand inside the row

  pub cont_inside : (row : List ℕ) (k : ℕ) → cont row k ≡ true → k < length row
  cont_inside row k h = by_order k (length row) (λ p. p) (λ p. never (cont row k) h (past_end k row p))

  lead_inside : (row : List ℕ) (k : ℕ) → lead ranges row k ≡ true → k < length row
  lead_inside row k h =
      by_order k (length row) (λ p. p) (λ p. never (lead ranges row k) h (rw (get_or-eq_default row 0 p) empty_lead))

  -- The continuation of column x's lead is emptied: nothing else changes.

  record Emptied (row after : List ℕ) (x : ℕ) : Type 0 where
    -- a continuation stays in the next column exactly where column x held no lead
    pub next : cont after (x + 1) ≡ cont row (x + 1) && not (lead ranges row x)
    pub leads : (k : ℕ) → lead ranges after k ≡ lead ranges row k
    pub conts : (k : ℕ) → (k ≡ x + 1 → ⊥) → cont after k ≡ cont row k

  emptied_same : (row : List ℕ) (x : ℕ) → cont row (x + 1) ≡ cont row (x + 1) && not (lead ranges row x) → Emptied row row x
  emptied_same row x e = record { next = e; leads = λ k. refl; conts = λ k n. refl }

  emptied_set : (row : List ℕ) (x : ℕ) → lead ranges row x ≡ true → cont row (x + 1) ≡ true → Emptied row (set row (x + 1) 0) x
  emptied_set row x l c =
      let here : get_or (set row (x + 1) 0) (x + 1) 0 ≡ 0 = get_or-set_same row (x + 1) 0 0 (cont_inside row (x + 1) c) in
      record {
        next = rw (here, l, c) empty_cont;
        leads = λ k. by_three k (x + 1)
            (λ p. rw (get_or-set_other row (x + 1) k 0 0 (λ e. omega arith)))
            (λ p. rw (get_or-set_other row (x + 1) k 0 0 (λ e. omega arith)))
            (λ e. rw (e, here) (empty_lead ∙ sym (cont_no_lead _ c)));
        conts = λ k n. rw (get_or-set_other row (x + 1) k 0 0 n);
      }

  after_emptying : (row : List ℕ) (x : ℕ) → Emptied row (empty_continuation row ranges x) x
  after_emptying row x =
      by_bool (lead ranges row x)
      (λ l. by_bool (cont row (x + 1))
      (λ c. rw (sym (emptied row ranges x _ _ refl refl l c)) (emptied_set row x l c))
      (λ c. rw (sym (no_continuation_next row ranges x _ refl c)) (emptied_same row x (rw c))))
      (λ l. rw (sym (no_lead_here row ranges x _ refl l)) (emptied_same row x (rw l (sym (and-true _)))))

  -- The lead of column x's continuation becomes a space: nothing else changes.

  record Blanked (row after : List ℕ) (x : ℕ) : Type 0 where
    -- a lead stays in the column before exactly where column x held no continuation
    pub before : (k : ℕ) → k + 1 ≡ x → lead ranges after k ≡ lead ranges row k && not (cont row x)
    pub leads : (k : ℕ) → (k + 1 ≡ x → ⊥) → lead ranges after k ≡ lead ranges row k
    pub conts : (k : ℕ) → cont after k ≡ cont row k

  blanked_same :
      (row : List ℕ) (x : ℕ) → ((k : ℕ) → k + 1 ≡ x → lead ranges row k ≡ lead ranges row k && not (cont row x)) → Blanked row row x
  blanked_same row x e = record { before = e; leads = λ k n. refl; conts = λ k. refl }

  -- What another cell put into column x leaves: the cell itself, both sides of it mended, and all other leads and continuations.
  pub record PutAt (row after : List ℕ) (x new : ℕ) : Type 0 where
    pub here : get_or after x 0 ≡ new
    pub before : (k : ℕ) → k + 1 ≡ x → lead ranges after k ≡ lead ranges row k && not (cont row x)
    pub next : cont after (x + 1) ≡ cont row (x + 1) && not (lead ranges row x)
    pub leads : (k : ℕ) → (k ≡ x → ⊥) → (k + 1 ≡ x → ⊥) → lead ranges after k ≡ lead ranges row k
    pub conts : (k : ℕ) → (k ≡ x → ⊥) → (k ≡ x + 1 → ⊥) → cont after k ≡ cont row k

  set_at :
      (row free mended : List ℕ) (x new : ℕ) → x < length mended → Emptied row free x → Blanked free mended x →
      PutAt row (set mended x new) x new
  set_at row free mended x new inside e b = record {
    here = get_or-set_same mended x new 0 inside;
    before = λ k h. rw (get_or-set_other mended x k new 0 (λ d. omega arith)) (b.before k h ∙ rw (e.leads k, e.conts x (λ d. omega arith)));
    next = rw (get_or-set_other mended x (x + 1) new 0 (λ d. omega arith)) (b.conts (x + 1) ∙ e.next);
    leads = λ k n m. rw (get_or-set_other mended x k new 0 n) (b.leads k m ∙ e.leads k);
    conts = λ k n m. rw (get_or-set_other mended x k new 0 n) (b.conts k ∙ e.conts k m);
  }

  module _ (narrow : width_of ranges space ≡ 1) where
    space_lead : is_wide_lead (pack (Text space)) ranges ≡ false
    unfolding Valid
    space_lead = pack_lead ranges (Text space) (omega arith) ∙ rw narrow

    space_cont : is_continuation (pack (Text space)) ≡ false
    unfolding Valid
    space_cont = pack_cont (Text space) (omega arith)

    blanked_set :
        (row : List ℕ) (x : ℕ) → 0 < x → cont row x ≡ true → lead ranges row (x - 1) ≡ true →
        Blanked row (set row (x - 1) (pack (Text space))) x
    blanked_set row x h c l =
        let blank = pack (Text space) in
        let here : get_or (set row (x - 1) blank) (x - 1) 0 ≡ blank = get_or-set_same row (x - 1) blank 0 (lead_inside row (x - 1) l) in
        record {
          before = λ k e. let d : k ≡ x - 1 = omega arith in rw (d, here, l, c) space_lead;
          leads = λ k n. rw (get_or-set_other row (x - 1) k blank 0 (λ e. n (omega arith)));
          conts = λ k. by_three k (x - 1)
              (λ p. rw (get_or-set_other row (x - 1) k blank 0 (λ e. omega arith)))
              (λ p. rw (get_or-set_other row (x - 1) k blank 0 (λ e. omega arith)))
              (λ e. rw (e, here) (space_cont ∙ sym (lead_no_cont _ l)));
        }

    after_blanking : (row : List ℕ) (x : ℕ) → Blanked row (blank_lead row ranges x) x
    after_blanking row x =
        by_bool (cont row x)
        (λ c. by_order 0 x
        (λ h. by_bool (lead ranges row (x - 1))
        (λ l. rw (sym (blanked row ranges x _ _ _ refl h refl refl c l)) (blanked_set row x h c l))
        (λ l. rw (sym (no_lead_before row ranges x _ refl l)) (blanked_same row x (λ k e. let d : k ≡ x - 1 = omega arith in rw (d, l)))))
        (λ h. rw (sym (first_column row ranges x h)) (blanked_same row x (λ k e. absurd (omega arith)))))
        (λ c. rw (sym (no_continuation_here row ranges x _ refl c)) (blanked_same row x (λ k e. rw c (sym (and-true _)))))

    pub put_at : (row : List ℕ) (x new : ℕ) → x < length row → (get_or row x 0 ≡ new → ⊥) → PutAt row (put row ranges x new) x new
    put_at row x new inside other =
        let free = empty_continuation row ranges x in
        let mended = blank_lead free ranges x in
        let written : set mended x new ≡ put row ranges x new = put_other row ranges x new free mended other refl refl in
        let long : length mended ≡ length row = sym (length-set mended x new) ∙ ap length written ∙ put_length row ranges x new in
        rw (sym written) (set_at row free mended x new (omega arith) (after_emptying row x) (after_blanking free x))

  -- A row in which each continuation stands just after a wide lead, and each wide lead just before a continuation.

  pub record Paired (row : List ℕ) : Type 0 where
    pub start : cont row 0 ≡ false
    pub pairs : (k : ℕ) → cont row (k + 1) ≡ lead ranges row k

  -- what stood on the other side of column x is gone, whatever is put there

  before_gone : (row after : List ℕ) (x new k : ℕ) → PutAt row after x new → Paired row → k + 1 ≡ x → lead ranges after k ≡ false
  before_gone row after x new k p paired e =
      let there : cont row x ≡ lead ranges row k = rw e at (paired.pairs k) in
      rw (p.before k e, there) (and-not_self (lead ranges row k))

  pub next_gone : (row after : List ℕ) (x new : ℕ) → PutAt row after x new → Paired row → cont after (x + 1) ≡ false
  next_gone row after x new p paired = p.next ∙ rw (paired.pairs x) (and-not_self (lead ranges row x))

  start_still : (row after : List ℕ) (x new : ℕ) → PutAt row after x new → is_continuation new ≡ false → cont row 0 ≡ false → cont after 0 ≡ false
  start_still row after x new p c none =
      by_order 0 x
      (λ h. p.conts 0 (λ e. omega arith) (λ e. omega arith) ∙ none)
      (λ h. let e : 0 ≡ x = omega arith in ap (cont after) e ∙ rw p.here c)

  pairs_still :
      (row after : List ℕ) (x new k : ℕ) → PutAt row after x new → cont row (k + 1) ≡ lead ranges row k → (k ≡ x → ⊥) → (k + 1 ≡ x → ⊥) →
      cont after (k + 1) ≡ lead ranges after k
  pairs_still row after x new k p same n m = p.conts (k + 1) m (λ e. n (omega arith)) ∙ same ∙ sym (p.leads k n m)

  -- column k is x, or just before it, or neither
  by_near : {P : Type 0} (k x : ℕ) → (k ≡ x → P) → (k + 1 ≡ x → P) → ((k ≡ x → ⊥) → (k + 1 ≡ x → ⊥) → P) → P
  by_near k x f g h =
      by_three k x
      (λ p. by_three (k + 1) x (λ q. h (λ e. omega arith) (λ e. omega arith)) (λ q. absurd (omega arith)) g)
      (λ p. h (λ e. omega arith) (λ e. omega arith))
      f

  -- A cell that is neither lead nor continuation.
  pub single_paired :
      (row after : List ℕ) (x new : ℕ) → PutAt row after x new → is_wide_lead new ranges ≡ false → is_continuation new ≡ false →
      Paired row → Paired after
  single_paired row after x new p l c paired = record {
    start = start_still row after x new p c paired.start;
    pairs = λ k. by_near k x
        (λ e. rw (e, next_gone row after x new p paired, p.here) (sym l))
        (λ e. rw (before_gone row after x new k p paired e, e, p.here) c)
        (λ n m. pairs_still row after x new k p (paired.pairs k) n m);
  }

  -- A wide lead and then its continuation.
  pub double_paired :
      (row half after : List ℕ) (x first second : ℕ) → PutAt row half x first → PutAt half after (x + 1) second →
      is_wide_lead first ranges ≡ true → is_continuation first ≡ false → is_continuation second ≡ true → is_wide_lead second ranges ≡ false →
      Paired row → Paired after
  double_paired row half after x first second p q l c d m paired = record {
    start = q.conts 0 (λ e. omega arith) (λ e. omega arith) ∙ start_still row half x first p c paired.start;
    pairs = λ k. by_near k (x + 1)
        (λ e.
        let beyond : cont half (x + 1 + 1) ≡ lead ranges half (x + 1)
        = pairs_still row half x first (x + 1) p (paired.pairs (x + 1)) (λ e. omega arith) (λ e. omega arith) in
        rw (e, q.next, beyond, and-not_self, q.here) (sym m))
        (λ e.
        let same : k ≡ x = omega arith in
        let there : lead ranges after x ≡ true = q.before x refl ∙ rw (p.here, l, next_gone row half x first p paired) in
        rw (same, there, q.here) d)
        (λ n o. pairs_still half after (x + 1) second k q
        (by_near k x
        (λ e. absurd (o (omega arith)))
        (λ e. rw (before_gone row half x first k p paired e, e, p.here) c)
        (λ n m. pairs_still row half x first k p (paired.pairs k) n m))
        n o);
  }
