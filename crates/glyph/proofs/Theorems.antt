-- What the definitions of width, of the range rule and of fitting amount to: the bisection finds the range that holds a value, no range is broken exactly
-- where each keeps the rule, and the fitting part is the longest prefix.
use native.Mathlib.Omega.{arith}
use Prim.Native.Nat.{ℕ, zero, suc, ◌+◌, ◌-◌, ◌*◌, ◌≤◌, ◌<◌, zero-le, suc-le-suc}
use mathlib.Core.Bool.{Bool, true, false, not, ◌&&◌, ◌||◌, true≢false}
use mathlib.Core.Logic.{◌↔◌}
use mathlib.Core.Path.{◌≡◌, refl, sym, ap, ◌∙◌}
use mathlib.Core.List.{List, [], ◌∷◌}
use lib.Dec.{eqb, ltb, leb}
use lib.ListN.{length, get_or, take, length-take}
use lib.Seq.{length-take-le}
use borrow.Author.Tests.{not-true, ltb-false, leb-false, lt-ltb, le-ltb, le-leb, lt-leb}
use Rattle.std.specs.Prelude.{None}
use Rattle.layout.specs.Layout.{range_size}
use Rattle.layout.specs.Layout as layout
use Rattle.glyph.specs.Width.{InOrder, bisect, middle, width_of, first_of, last_of, range_width, range_count}
use Rattle.glyph.specs.Ranges.{holds, holds_fixed, not_above, range_broken, judged_range, judged_ranges, first_broken, ranges_good, placed}
use Rattle.glyph.specs.Ranges.{Fixed, space, quote, opening, closing, RangeGood, WidthsRight}
use Rattle.glyph.specs.Fitting.{columns_of, fit_count, fit_prefix, LongestPrefix}
use Rattle.glyph.proofs.Laws.{by_range, range_kept, range_hit}
use Rattle.ground.specs.Each.{numbers, each}
use Rattle.ground.specs.Judged.{first_bad}
use Rattle.ground.proofs.Each.{or_left, or_right, or_neither, by_bool, every_number, number_every}
use Rattle.ground.proofs.Judged.{none_of_each, each_of_none}
use Rattle.ground.proofs.Order.{by_order, by_three, cond_bound}

range_bound : (t : List ℕ) (k : ℕ) → range_width t k ≤ 2
range_bound t k =
    let word = get_or t (range_size * k + layout.range_width) 0 in
    cond_bound (eqb word 0) 0 _ 2 (omega arith) (cond_bound (eqb word 2) 2 1 2 (omega arith) (omega arith))

bisect_bound : (f : ℕ) (t : List ℕ) (v low high : ℕ) → bisect f t v low high ≤ 2
unfolding bisect
bisect_bound zero t v low high = omega arith
bisect_bound (suc f) t v low high =
    cond_bound (ltb low high) _ 1 2
    (cond_bound (ltb v (first_of t (middle low high))) _ _ 2 (bisect_bound f t v low (middle low high))
    (cond_bound (ltb (last_of t (middle low high)) v) _ _ 2 (bisect_bound f t v (middle low high + 1) high) (range_bound t (middle low high))))
    (omega arith)

-- No width is above 2.
pub width_bound : (t : List ℕ) (v : ℕ) → width_of t v ≤ 2
unfolding width_of
width_bound t v = bisect_bound (range_count t) t v 0 (range_count t)

bisect_other : (f : ℕ) (t : List ℕ) (v low high : ℕ) → high ≤ range_count t → ((k : ℕ) → k < range_count t → first_of t k ≤ v → v ≤ last_of t k → ⊥) → bisect f t v low high ≡ 1
unfolding bisect
bisect_other zero t v low high b none = refl
bisect_other (suc f) t v low high b none =
    by_order low high
    (λ h. by_range t v (middle low high)
    (λ p. simp (lt-ltb _ _ h, lt-ltb _ _ p) (bisect_other f t v low (middle low high) (omega arith) none))
    (λ p q. simp (lt-ltb _ _ h, le-ltb _ _ p, lt-ltb _ _ q) (bisect_other f t v (middle low high + 1) high b none))
    (λ p q. absurd (none (middle low high) (omega arith) p q)))
    (λ h. simp (le-ltb _ _ h))

-- A value that no range holds has width 1.
pub width_other : (t : List ℕ) (v : ℕ) → ((k : ℕ) → k < range_count t → first_of t k ≤ v → v ≤ last_of t k → ⊥) → width_of t v ≡ 1
unfolding width_of
width_other t v none = bisect_other (range_count t) t v 0 (range_count t) (omega arith) none

-- Of a table in order, a later range begins past the end of an earlier one.
pub ranges_apart : (t : List ℕ) (j k : ℕ) → InOrder t → j < k → k < range_count t → last_of t j < first_of t k
ranges_apart t j zero o h b = omega arith
ranges_apart t j (suc k) o h b =
    by_order j k
    (λ p. omega (arith, ranges_apart t j k o p (omega arith), o.own k (omega arith), o.next k b))
    (λ p. let e : j ≡ k = omega arith in rw e (o.next k b))

bisect_held : (f : ℕ) (t : List ℕ) (v low high k : ℕ) → InOrder t → high - low ≤ f → high ≤ range_count t → low ≤ k → k < high → first_of t k ≤ v → v ≤ last_of t k
    → bisect f t v low high ≡ range_width t k
unfolding bisect
bisect_held zero t v low high k o e b l m p q = absurd (omega arith)
bisect_held (suc f) t v low high k o e b l m p q =
    let h : low < high = omega arith in
    by_three k (middle low high)
    (λ w. let u : v < first_of t (middle low high) = omega (arith, ranges_apart t k (middle low high) o w (omega arith)) in
    simp (lt-ltb _ _ h, lt-ltb _ _ u) (bisect_held f t v low (middle low high) k o (omega arith) (omega arith) l w p q))
    (λ w. let u : last_of t (middle low high) < v = omega (arith, ranges_apart t (middle low high) k o w (omega arith)) in
    let x : first_of t (middle low high) ≤ v = omega (arith, o.own (middle low high) (omega arith)) in
    simp (lt-ltb _ _ h, le-ltb _ _ x, lt-ltb _ _ u) (bisect_held f t v (middle low high + 1) high k o (omega arith) b (omega arith) m p q))
    (λ w. simp (lt-ltb _ _ h, sym w, le-ltb _ _ p, le-ltb _ _ q))

-- A value that a range holds has that range's width.
pub width_held : (t : List ℕ) (v k : ℕ) → InOrder t → k < range_count t → first_of t k ≤ v → v ≤ last_of t k → width_of t v ≡ range_width t k
unfolding width_of
width_held t v k o h p q = bisect_held (range_count t) t v 0 (range_count t) k o (omega arith) (omega arith) (omega arith) h p q

-- a range does not hold a value exactly where the value is not from its first to its last
outside_iff : (first last value : ℕ) → (holds first last value ≡ false) ↔ (first ≤ value → value ≤ last → ⊥)
outside_iff first last value = (
  λ h p q. true≢false (sym (simp (le-leb _ _ p, le-leb _ _ q)) ∙ h),
  λ h. by_order value first (λ p. simp (lt-leb _ _ p)) (λ p. by_order last value (λ q. simp (le-leb _ _ p, lt-leb _ _ q)) (λ q. absurd (h p q))),
)

four_false : (a b c d : Bool) → a || b || c || d ≡ false → (a ≡ false) × (b ≡ false) × (c ≡ false) × (d ≡ false)
four_false a b c d h =
    let three = or_left (a || b || c) d h in
    let two = or_left (a || b) c three in
    (or_left a b two, or_right a b two, or_right (a || b) c three, or_right (a || b || c) d h)

module _ (first last : ℕ) where
  -- it holds none of the four exactly where it does not hold each

  each_free :
      holds_fixed first last ≡ false →
      (holds first last 0x20 ≡ false) × (holds first last 0x22 ≡ false) × (holds first last 0x5B ≡ false) × (holds first last 0x5D ≡ false)
  unfolding holds_fixed
  each_free h = four_false (holds first last 0x20) (holds first last 0x22) (holds first last 0x5B) (holds first last 0x5D) h

  free : holds_fixed first last ≡ false → (value : ℕ) → Fixed value → holds first last value ≡ false
  free h value space = (each_free h).0
  free h value quote = (each_free h).1
  free h value opening = (each_free h).2
  free h value closing = (each_free h).3

  no_fixed : ((value : ℕ) → Fixed value → holds first last value ≡ false) → holds_fixed first last ≡ false
  unfolding holds_fixed
  no_fixed h = simp (h 0x20 space, h 0x22 quote, h 0x5B opening, h 0x5D closing)

above_iff : (k first before : ℕ) → (ltb 0 k && leb first before ≡ false) ↔ (0 < k → before < first)
above_iff k first before = (
  λ h p. leb-false first before (rw (lt-ltb 0 k p) at h),
  λ h. by_order 0 k (λ p. rw (lt-ltb 0 k p) (lt-leb first before (h p))) (λ p. rw (le-ltb 0 k p)),
)

-- A range is not broken exactly where it keeps each part of the rule.
pub range_good_iff : (t : List ℕ) (k : ℕ) → (range_broken t k ≡ false) ↔ RangeGood t k
unfolding range_broken not_above
range_good_iff t k =
    let above = above_iff k (first_of t k) (last_of t (k - 1)) in (
      (λ h. let order = or_left (ltb (last_of t k) (first_of t k) || not_above t k) _ h in record {
        own = ltb-false _ _ (or_left _ _ order);
        above = above.0 (or_right (ltb (last_of t k) (first_of t k)) _ order);
        fixed = λ value f. (outside_iff _ _ value).0 (free _ _ (or_right (ltb (last_of t k) (first_of t k) || not_above t k) _ h) value f);
      }),
      (λ g. or_neither (or_neither (le-ltb _ _ g.own) (above.1 g.above)) (no_fixed _ _ (λ value f. (outside_iff _ _ value).1 (g.fixed value f)))),
    )

unhit : (t : List ℕ) (k : ℕ) → first_bad (judged_range (λ n. n) t k) ≡ None → range_broken t k ≡ false
unhit t k h =
    by_bool (range_broken t k)
    (λ e. let z : ◌≡◌ {A = ℕ} 0 1 = cc (range_hit (λ n. n) t k e) in absurd (omega arith))
    (λ e. e)

-- None is broken exactly where each keeps the rule.
pub ranges_good_iff : (t : List ℕ) → (first_broken t ≡ None) ↔ ((k : ℕ) → k < range_count t → RangeGood t k)
unfolding first_broken judged_ranges
ranges_good_iff t = (
  λ h k p. (range_good_iff t k).0 (unhit t k (none_of_each (judged_range (λ n. n) t) _ h k p)),
  λ g. each_of_none (judged_range (λ n. n) t) _ (λ k p. range_kept (λ n. n) t k ((range_good_iff t k).1 (g k p))),
)

-- The test of a whole table says so too.
pub all_good_iff : (t : List ℕ) → (ranges_good t ≡ true) ↔ (first_broken t ≡ None)
unfolding ranges_good first_broken judged_ranges
all_good_iff t = (
  λ h. each_of_none (judged_range (λ n. n) t) _ (λ k p. range_kept (λ n. n) t k (not-true _ (every_number (λ n. not (range_broken t n)) 0 _ h k (omega arith) (omega arith)))),
  λ h. number_every (λ n. not (range_broken t n)) 0 _
      (λ k p q. rw (unhit t k (none_of_each (judged_range (λ n. n) t) _ h k (omega arith)))),
)

broken_among : (place : ℕ → ℕ) (t list : List ℕ) → first_bad (each list (judged_range place t)) ≡ placed place (first_bad (each list (judged_range (λ n. n) t)))
unfolding first_bad each
broken_among place t [] = refl
broken_among place t (k ∷ list) = by_bool (range_broken t k) (λ e. rw e) (λ e. rw e (broken_among place t list))

-- Where ranges have places, the first broken one is found at its place.
pub broken_placed : (place : ℕ → ℕ) (t : List ℕ) → first_bad (judged_ranges place t) ≡ placed place (first_broken t)
unfolding first_broken judged_ranges
broken_placed place t = broken_among place t (numbers 0 (range_count t))

-- A table without a broken range is in order.
pub good_in_order : (t : List ℕ) → first_broken t ≡ None → InOrder t
good_in_order t h =
    let good = (ranges_good_iff t).0 h in
    let back : (k : ℕ) → suc k - 1 ≡ k = λ k. omega arith in
    record { own = λ k p. (good k p).own; next = λ k p. rw (back k) at ((good (suc k) p).above (omega arith)) }

-- The widths that it gives: a value that a range holds has that range's width, any other 1, and so have the four fixed characters.
pub right_widths : (t : List ℕ) → first_broken t ≡ None → WidthsRight t
right_widths t h =
    let good = (ranges_good_iff t).0 h in
    record {
      held = λ k v. width_held t v k (good_in_order t h);
      other = width_other t;
      fixed = λ v f. width_other t v (λ k p. (good k p).fixed v f);
    }

fit_count_le : (label t : List ℕ) (columns : ℕ) → fit_count label t columns ≤ length label
unfolding fit_count
fit_count_le [] t columns = omega arith
fit_count_le (ch ∷ label) t columns = cond_bound (leb (width_of t ch) columns) _ _ _ (suc-le-suc (fit_count_le label t (columns - width_of t ch))) zero-le

prefix_length : (label t : List ℕ) (columns : ℕ) → length (fit_prefix label t columns) ≡ fit_count label t columns
unfolding fit_prefix
prefix_length label t columns = length-take-le _ _ (fit_count_le label t columns)

prefix_within : (label t : List ℕ) (columns : ℕ) → columns_of (take (fit_count label t columns) label) t ≤ columns
unfolding fit_count columns_of
prefix_within [] t columns = omega arith
prefix_within (ch ∷ label) t columns =
    by_order columns (width_of t ch)
    (λ h. simp (lt-leb _ _ h) (omega arith))
    (λ h. simp (le-leb _ _ h) (omega (arith, prefix_within label t (columns - width_of t ch))))

no_longer : (label t : List ℕ) (columns : ℕ) (n : ℕ) → n ≤ length label → columns_of (take n label) t ≤ columns → n ≤ fit_count label t columns
unfolding fit_count columns_of
no_longer label t columns zero h p = omega arith
no_longer [] t columns (suc n) h p = omega arith
no_longer (ch ∷ label) t columns (suc n) h p =
    let fits : width_of t ch ≤ columns = omega arith in
    simp (le-leb _ _ fits) (omega (arith, no_longer label t (columns - width_of t ch) n (omega arith) (omega arith)))

-- The fitting part is the longest prefix of the label within the columns.
pub prefix_longest : (label t : List ℕ) (columns : ℕ) → LongestPrefix label t columns (fit_prefix label t columns)
unfolding fit_prefix
prefix_longest label t columns =
    record {
      prefix = rw (prefix_length label t columns);
      within = prefix_within label t columns;
      longest = λ n h p. rw (prefix_length label t columns) (no_longer label t columns n h p);
    }

-- A prefix of the label that is longest within the columns is the fitting part: there is no other.
pub longest_unique : (label t : List ℕ) (columns : ℕ) (part : List ℕ) → LongestPrefix label t columns part → part ≡ fit_prefix label t columns
longest_unique label t columns part l =
    let f = prefix_longest label t columns in
    let a : length part ≤ length label = omega (arith, ap length l.prefix ∙ length-take (length part) label) in
    let b : length (fit_prefix label t columns) ≤ length label = omega (arith, prefix_length label t columns, fit_count_le label t columns) in
    let c : length part ≤ length (fit_prefix label t columns) = f.longest (length part) a (rw l.prefix at l.within) in
    let d : length (fit_prefix label t columns) ≤ length part = l.longest (length (fit_prefix label t columns)) b (rw f.prefix at f.within) in
    let e : length part ≡ length (fit_prefix label t columns) = omega arith in
    l.prefix ∙ ap (λ n. take n label) e ∙ sym f.prefix
