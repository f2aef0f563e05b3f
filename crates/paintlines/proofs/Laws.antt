-- A turn of filling a buffer with its pattern and a turn of a checksum, over plain variables.
use native.Mathlib.Omega.{arith}
use native.Mathlib.Nat.{not-suc-le-zero, add-zero, zero-add}
use native.Mathlib.Numerals.{add-one}
use Prim.Native.Nat.{ℕ, zero, suc, ◌+◌, ◌*◌, ◌%◌, ◌≤◌, ◌<◌}
use mathlib.Core.List.{List, [], ◌∷◌, ◌++◌, map, append-nil}
use mathlib.Core.Path.{◌≡◌, ap}
use lib.ListN.{length, get_or, set, drop, drop_of_length-le}
use lib.Seq.{drop-cons}
use Rattle.ground.specs.Each.{numbers}
use Rattle.std.proofs.Common.{map-id}
use Rattle.paintlines.specs.Lent.{checksum_from, checksum}

-- The pattern, of a value for each index.

module _ (value : ℕ → ℕ) where
  -- a store of the next one
  store_next :
      (first n : ℕ) (d : List ℕ) →
      n < length d →
      set (map value (numbers first n) ++ drop n d) n (value (first + n)) ≡ map value (numbers first (suc n)) ++ drop (suc n) d
  unfolding numbers
  store_next first n [] h = absurd (not-suc-le-zero h)
  store_next first zero (x ∷ d) h = rw (add-zero first)
  store_next first (suc n) (x ∷ d) h =
      let e : first + suc n ≡ suc first + n = omega arith in
      rw e (ap (λ (t : List ℕ). value first ∷ t) (store_next (suc first) n d (omega arith)))

  -- a turn stores one
  pub one_filled :
      (k : ℕ) (start lent : List ℕ) →
      lent ≡ map value (numbers 0 k) ++ drop k start →
      k < length start →
      set lent k (value k) ≡ map value (numbers 0 (k + 1)) ++ drop (k + 1) start
  one_filled k start lent i h = rw (i, add-one k) (rw (zero-add k) at (store_next 0 k start h))

  -- after the last turn the whole buffer is filled
  pub all_filled :
      (k : ℕ) (start lent : List ℕ) →
      lent ≡ map value (numbers 0 k) ++ drop k start →
      k ≤ length start →
      length start ≤ k →
      lent ≡ map value (numbers 0 (length start))
  all_filled k start lent i p q =
      let e : k ≡ length start = omega arith in
      rw (drop_of_length-le start q, append-nil, e) at i

-- The checksum of items, by the number of each.
module _ {A : Type 0} (value : A → ℕ) (items : List A) where
  -- a turn takes one item in
  pub one_summed :
      (sum k r n : ℕ) (item : A) →
      checksum_from sum (map value (drop k items)) ≡ r →
      item ≡ get_or items k item →
      n ≡ value item →
      k < length items →
      checksum_from ((31 * sum + n + 1) % 4294967291) (map value (drop (k + 1) items)) ≡ r
  unfolding checksum_from
  one_summed sum k r n item i e v h = rw (v, add-one k) (rw (drop-cons items k item h, ← e) at i)

  -- after the last turn no item is left
  pub all_summed : (sum k r : ℕ) → checksum_from sum (map value (drop k items)) ≡ r → length items ≤ k → sum ≡ r
  unfolding checksum_from
  all_summed sum k r i h = rw (drop_of_length-le items h) at i

-- The checksum of words, and that of bytes, each of which is its own number: that of the list as it stands.
pub checksum_of_same : (items : List ℕ) → checksum (map (λ (n : ℕ). n) items) ≡ checksum items
checksum_of_same items = ap checksum (map-id items)
