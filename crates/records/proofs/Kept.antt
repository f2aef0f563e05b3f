-- What it means that a word keeps its rule: one small law for each kind of rule.
use native.Mathlib.Omega.{arith}
use Prim.Native.Nat.{ℕ, ◌≤◌}
use mathlib.Core.Bool.{Bool, true, false, cond, or-true}
use mathlib.Core.Logic.{inl, inr}
use mathlib.Core.Path.{◌≡◌, refl}
use lib.Dec.{leb, ltb, eqb}
use borrow.Author.Tests.{leb-true, ltb-true, eqb-true, le-leb, lt-ltb, eq-eqb}
use Rattle.ground.proofs.Each.{and_left, and_right, and_both, by_or}
use Rattle.ground.proofs.Order.{by_order}
use Rattle.layout.specs.Layout.{first_surrogate, path_spline, self_loop, label_present}
use Rattle.layout.specs.Tables.{flag}
use Rattle.edge_rules.specs.Edge.{path_number, weight_number, edge_flags_good, path_good, label_start_good, label_count_good}
use Rattle.records.specs.Records.{loop_good, scalar_good, width_good}
use Rattle.records.specs.Good.{LoopGood, EdgeFlagsGood, PathGood, LabelGood, Scalar, Width}

-- A choice by a test holds exactly when the side that the test chooses holds.

choice_true : (test p q : Bool) → cond test p q ≡ true → test ≡ true → p ≡ true
choice_true test p q h e = rw e at h

choice_false : (test p q : Bool) → cond test p q ≡ true → test ≡ false → q ≡ true
choice_false test p q h e = rw e at h

true_choice : (test p q : Bool) → (test ≡ true → p ≡ true) → (test ≡ false → q ≡ true) → cond test p q ≡ true
true_choice true p q f g = f refl
true_choice false p q f g = g refl

-- "loop x, loop y (both 0 without the bit)"

pub loop_kept : (flags n : ℕ) → loop_good flags n ≡ true → LoopGood flags n
loop_kept flags n h = record {
  present = λ e. leb-true _ _ (choice_true (flag flags self_loop) _ _ h e);
  absent = λ e. eqb-true _ _ (choice_false (flag flags self_loop) _ _ h e);
}

pub kept_loop : (flags n : ℕ) → LoopGood flags n → loop_good flags n ≡ true
kept_loop flags n g =
    true_choice (flag flags self_loop) _ _ (λ e. le-leb _ _ (g.present e)) (λ e. eq-eqb _ _ (g.absent e))

-- "path 3 bits .. weight 2", and the spare bits

pub flags_kept : (flags : ℕ) → edge_flags_good flags ≡ true → EdgeFlagsGood flags
flags_kept flags h =
    let rest = and_right (leb (path_number flags) path_spline) _ h in
    record {
      path = leb-true _ _ (and_left _ _ h);
      weight = ltb-true _ _ (and_left _ _ rest);
      spare = eqb-true _ _ (and_right (ltb 0 (weight_number flags)) _ rest);
    }

pub kept_flags : (flags : ℕ) → EdgeFlagsGood flags → edge_flags_good flags ≡ true
kept_flags flags g = and_both (le-leb _ _ g.path) (and_both (lt-ltb _ _ g.weight) (eq-eqb _ _ g.spare))

-- "Corner: a bend. SideChannel: channel, span start, span end. .. Unused a, b, c are 0."

module _ (points path a b c : ℕ) where
  pub path_kept :
      (path_good points path a b c).a ≡ true → (path_good points path a b c).b ≡ true → (path_good points path a b c).c ≡ true →
      PathGood points path a b c
  unfolding path_good
  path_kept p q r = record {
    direct = λ e. (eqb-true _ _ (rw e at p), eqb-true _ _ (rw e at q), eqb-true _ _ (rw e at r));
    corner = λ e. (leb-true _ _ (rw e at p), eqb-true _ _ (rw e at q), eqb-true _ _ (rw e at r));
    side_channel = λ e. (leb-true _ _ (rw e at p), leb-true _ _ (rw e at q), leb-true _ _ (rw e at r));
    multi_segment = λ e. (leb-true _ _ (rw e at p), leb-true _ _ (rw e at r));
    orthogonal = λ e. (leb-true _ _ (rw e at p), eqb-true _ _ (rw e at r));
    spline = λ e. (eqb-true _ _ (rw e at p), eqb-true _ _ (rw e at q), eqb-true _ _ (rw e at r));
  }

  by_path :
      {P : Type 0} → path ≤ path_spline →
      (path ≡ 0 → P) → (path ≡ 1 → P) → (path ≡ 2 → P) → (path ≡ 3 → P) → (path ≡ 4 → P) → (path ≡ 5 → P) → P
  by_path h p q r s t u =
      by_order path 1 (λ o. p (omega arith))
      (λ a. by_order path 2 (λ o. q (omega arith))
      (λ b. by_order path 3 (λ o. r (omega arith))
      (λ c. by_order path 4 (λ o. s (omega arith)) (λ d. by_order path 5 (λ o. t (omega arith)) (λ o. u (omega arith))))))

  kept_path :
      path ≤ path_spline → PathGood points path a b c →
      ((path_good points path a b c).a ≡ true) × ((path_good points path a b c).b ≡ true) × ((path_good points path a b c).c ≡ true)
  unfolding path_good
  kept_path h g =
      by_path h
      (λ e. let z = g.direct e in rw e (eq-eqb _ _ z.0, eq-eqb _ _ z.1, eq-eqb _ _ z.2))
      (λ e. let z = g.corner e in rw e (le-leb _ _ z.0, eq-eqb _ _ z.1, eq-eqb _ _ z.2))
      (λ e. let z = g.side_channel e in rw e (le-leb _ _ z.0, le-leb _ _ z.1, le-leb _ _ z.2))
      (λ e. let z = g.multi_segment e in rw e (le-leb _ _ z.0, refl, le-leb _ _ z.1))
      (λ e. let z = g.orthogonal e in rw e (le-leb _ _ z.0, refl, eq-eqb _ _ z.1))
      (λ e. let z = g.spline e in rw e (eq-eqb _ _ z.0, eq-eqb _ _ z.1, eq-eqb _ _ z.2))

module _ (points flags a b c : ℕ) (f : EdgeFlagsGood flags) (g : PathGood points (path_number flags) a b c) where
  pub kept_a : (path_good points (path_number flags) a b c).a ≡ true
  kept_a = (kept_path points (path_number flags) a b c f.path g).0

  pub kept_b : (path_good points (path_number flags) a b c).b ≡ true
  kept_b = (kept_path points (path_number flags) a b c f.path g).1

  pub kept_c : (path_good points (path_number flags) a b c).c ≡ true
  kept_c = (kept_path points (path_number flags) a b c f.path g).2

-- "label present 1 (else start and count 0)"

pub label_kept :
    (glyphs flags start count : ℕ) → label_start_good glyphs flags start count ≡ true → label_count_good flags count ≡ true →
    LabelGood glyphs flags start count
label_kept glyphs flags start count p q = record {
  present = λ e. leb-true _ _ (choice_true (flag flags label_present) _ _ p e);
  absent =
      λ e. (eqb-true _ _ (choice_false (flag flags label_present) _ _ p e), eqb-true _ _ (choice_false (flag flags label_present) _ _ q e));
}

pub kept_start : (glyphs flags start count : ℕ) → LabelGood glyphs flags start count → label_start_good glyphs flags start count ≡ true
kept_start glyphs flags start count g =
    true_choice (flag flags label_present) _ _ (λ e. le-leb _ _ (g.present e)) (λ e. eq-eqb _ _ (g.absent e).0)

pub kept_count : (glyphs flags start count : ℕ) → LabelGood glyphs flags start count → label_count_good flags count ≡ true
kept_count glyphs flags start count g =
    true_choice (flag flags label_present) _ _ (λ e. refl) (λ e. eq-eqb _ _ (g.absent e).1)

-- "a Unicode scalar value", and "width 0 or 2"

pub scalar_kept : (n : ℕ) → scalar_good n ≡ true → Scalar n
scalar_kept n h =
    by_or (ltb n _) _ h (λ e. inl (ltb-true _ _ e))
    (λ e. inr (ltb-true _ _ (and_left _ _ e), leb-true _ _ (and_right (ltb _ n) _ e)))

pub kept_scalar : (n : ℕ) → Scalar n → scalar_good n ≡ true
kept_scalar n (inl h) = rw (lt-ltb _ _ h)
kept_scalar n (inr h) = rw (and_both (lt-ltb _ _ h.0) (le-leb _ _ h.1)) (or-true (ltb n first_surrogate))

pub width_kept : (n : ℕ) → width_good n ≡ true → Width n
width_kept n h = by_or (eqb n 0) _ h (λ e. inl (eqb-true _ _ e)) (λ e. inr (eqb-true _ _ e))

pub kept_width : (n : ℕ) → Width n → width_good n ≡ true
kept_width n (inl h) = rw (eq-eqb _ _ h)
kept_width n (inr h) = rw (eq-eqb _ _ h) (or-true (eqb n 0))
