-- Laws of linking: how the threads are made, one run after the other, and what they give each row.
use native.Mathlib.Omega.{arith}
use native.Mathlib.Numerals.{add-one}
use Prim.Native.Nat.{ℕ, zero, suc, ◌+◌, ◌-◌, ◌*◌, ◌≤◌, ◌<◌}
use mathlib.Core.List.{List}
use mathlib.Core.Path.{◌≡◌, refl, sym, ◌∙◌}
use lib.ListN.{length, get_or, set, replicate}
use lib.Seq.{get_or-set_same, get_or-set_other}
use borrow.Author.Count.{below_more}
use Rattle.runs.specs.Kept.{run_size, row_at, link_at, run_at, kept_from, kept_runs, last_on, Linked}
use Rattle.runs.proofs.Steps.{zero_anywhere}
use Rattle.runs.proofs.Threads.{by_equal, last_here, last_past}
use Rattle.flush.specs.Threads.{block_rows, SameRuns, Threaded, AllThreaded}

-- The same runs.

module _ (scratch before : List ℕ) (s : SameRuns scratch before) where
  same_row : (k : ℕ) → row_at scratch k ≡ row_at before k
  same_row k = s.words k 1 (omega arith) (omega arith)

  same_run : (k : ℕ) → run_at scratch k ≡ run_at before k
  same_run k =
      rw (
        s.words k 1 (omega arith) (omega arith),
        s.words k 2 (omega arith) (omega arith),
        s.words k 3 (omega arith) (omega arith),
        s.words k 4 (omega arith) (omega arith),
        s.words k 5 (omega arith) (omega arith),
        s.words k 6 (omega arith) (omega arith),
      )

  same_kept_from : (k n : ℕ) → kept_from scratch k n ≡ kept_from before k n
  unfolding kept_from
  same_kept_from k zero = refl
  same_kept_from k (suc n) = rw (same_run k, same_kept_from (suc k) n)

  pub same_kept : (n : ℕ) → kept_runs scratch n ≡ kept_runs before n
  same_kept n = same_kept_from 0 n

  same_last : (y k : ℕ) → last_on scratch y k ≡ last_on before y k
  unfolding last_on
  same_last y zero = refl
  same_last y (suc k) = rw (same_row k, same_last y k)

pub same_refl : (s : List ℕ) → SameRuns s s
same_refl s = record { words = λ k f p q. refl }

pub same_trans : (a b c : List ℕ) → SameRuns a b → SameRuns b c → SameRuns a c
same_trans a b c p q = record { words = λ k f l m. p.words k f l m ∙ q.words k f l m }

-- a link written changes no run
same_set : (s before : List ℕ) (k link : ℕ) → SameRuns s before → SameRuns (set s (run_size * k) link) before
same_set s before k link p =
    record { words = λ j f l m. get_or-set_other s (run_size * k) (run_size * j + f) link 0 (λ e. omega arith) ∙ p.words j f l m }

-- Threading.

-- before the first run
pub thread_begin : (s : List ℕ) (n base : ℕ) → Threaded s s (replicate n 0) base 0
unfolding last_on
thread_begin s n base = record { same = same_refl s; head = λ i h. zero_anywhere n i; link = λ j h. absurd (omega arith) }

module _ (before s heads : List ℕ) (base k row : ℕ) (t : Threaded before s heads base k) (e : row ≡ row_at s k) where
  row_before : row_at before k ≡ row
  row_before = sym (e ∙ same_row s before t.same k)

  -- a run off the rows
  thread_off :
      ((i : ℕ) → i < block_rows → row_at before k ≡ base + i → ⊥) →
      (base ≤ row_at before k → row_at before k < base + block_rows → ⊥) →
      Threaded before s heads base (k + 1)
  thread_off n m =
      rw add-one (record {
        same = t.same;
        head = λ i h. t.head i h ∙ sym (last_past before (base + i) k (n i h));
        link =
            rw add-one at
            (below_more
            (λ j. base ≤ row_at before j → row_at before j < base + block_rows → link_at s j ≡ last_on before (row_at before j) j)
            k t.link (λ a b. absurd (m a b)));
      })

  pub thread_above : row < base → Threaded before s heads base (k + 1)
  thread_above h = thread_off (λ i p q. omega (arith, row_before)) (λ a b. omega (arith, row_before))

  pub thread_below : base ≤ row → block_rows ≤ row - base → Threaded before s heads base (k + 1)
  thread_below h l = thread_off (λ i p q. omega (arith, row_before)) (λ a b. omega (arith, row_before))

  -- a run on one of them
  pub thread_on :
      (head : ℕ) (next after : List ℕ) →
      run_size * k + run_size ≤ length s → length heads ≡ block_rows →
      base ≤ row → row - base < block_rows →
      head ≡ get_or heads (row - base) 0 →
      next ≡ set s (run_size * k) head →
      after ≡ set heads (row - base) (k + 1) →
      Threaded before next after base (k + 1)
  thread_on head next after room long p q d a b =
      let here : base + (row - base) ≡ row_at before k = omega (arith, row_before) in
      rw (a, b, add-one k) (record {
        same = same_set s before k head t.same;
        head = λ i h.
            by_equal i (row - base)
            (λ o.
            rw o (get_or-set_same heads (row - base) (suc k) 0 (omega arith) ∙ rw here (sym (last_here before (row_at before k) k refl))))
            (λ o.
            get_or-set_other heads (row - base) i (suc k) 0 o
            ∙ t.head i h
            ∙ sym (last_past before (base + i) k (λ w. o (omega (arith, row_before)))));
        link =
            rw add-one at
            (below_more
            (λ j. base ≤ row_at before j → row_at before j < base + block_rows → link_at (set s (run_size * k) head) j ≡ last_on before (row_at before j) j)
            k
            (λ j h m n. get_or-set_other s (run_size * k) (run_size * j) head 0 (λ w. omega arith) ∙ t.link j h m n)
            (λ m n. get_or-set_same s (run_size * k) head 0 (omega arith) ∙ d ∙ t.head (row - base) q ∙ rw here));
      })

-- when all are threaded
pub threaded_all :
    (before s heads : List ℕ) (base k n : ℕ) → k ≤ n → n ≤ k →
    Threaded before s heads base k →
    Threaded before s heads base n
threaded_all before s heads base k n h l t = let e : k ≡ n = omega arith in rw e at t

-- What the threads give each row.

module _ (before s heads : List ℕ) (base n : ℕ) (t : Threaded before s heads base n) (y : ℕ) (p : base ≤ y) (q : y < base + block_rows) where
  head_on : get_or heads (y - base) 0 ≡ last_on s y n
  head_on =
      let here : base + (y - base) ≡ y = omega arith in
      t.head (y - base) (omega arith) ∙ rw here (sym (same_last s before t.same y n))

  linked_on : Linked s y n
  linked_on = record {
    link = λ k h e.
        let row : row_at before k ≡ y = sym (same_row s before t.same k) ∙ e in
        t.link k h (rw row p) (rw row q) ∙ rw row (sym (same_last s before t.same y k));
  }

pub threads : (before s heads : List ℕ) (base n : ℕ) → Threaded before s heads base n → AllThreaded s heads base n
threads before s heads base n t = record { head = head_on before s heads base n t; link = linked_on before s heads base n t }

pub row_threads :
    (s heads : List ℕ) (base n y head : ℕ) →
    AllThreaded s heads base n → base ≤ y → y < base + block_rows → head ≡ get_or heads (y - base) 0 →
    (head ≡ last_on s y n) × Linked s y n
row_threads s heads base n y head t p q e = (e ∙ t.head y p q, t.link y p q)
