-- Bytes written from a place on, one piece after the other, over plain variables.
use native.Mathlib.Omega.{arith}
use native.Mathlib.Numerals.{add-one}
use Prim.Native.Nat.{ℕ, ◌+◌, ◌≤◌, ◌<◌}
use mathlib.Core.Path.{◌≡◌, refl, sym, ap, ◌∙◌}
use mathlib.Core.List.{List, [], ◌∷◌, ◌++◌, append_assoc}
use lib.ListN.{length, get_or, set, take, drop, length-append, take-append-drop}
use lib.Seq.{sets, sets-eq, take_at, take-suc, drop-drop, drop-append-add, length-take-le}
use Rattle.utf8.specs.Utf8.{written_at}

module _ (out : List ℕ) (at : ℕ) where
  nothing_written : written_at at [] out ≡ out
  unfolding written_at
  nothing_written = let e : at + 0 ≡ at = omega arith in rw e (take-append-drop at out)

  pub written_on :
      (one more : List ℕ) → at ≤ length out → written_at (at + length one) more (written_at at one out) ≡ written_at at (one ++ more) out
  unfolding written_at
  written_on one more h =
      let front : List ℕ = take at out ++ one in
      let long : length front ≡ at + length one = simp (length-append, length-take-le at out h) in
      let split : take at out ++ (one ++ drop (at + length one) out) ≡ front ++ drop (at + length one) out = sym (append_assoc (take at out) one _) in
      let kept : take (at + length one) (front ++ drop (at + length one) out) ≡ front = take_at front _ _ long in
      let beyond : drop (at + length one + length more) (front ++ drop (at + length one) out) ≡ drop (at + length one + length more) out =
      rw (← long) (drop-append-add front _ (length more) ∙ drop-drop (length more) (length front) out)
      in
      let sum : at + length (one ++ more) ≡ at + length one + length more = simp length-append (omega arith) in
      rw (split, kept, beyond, sum) (append_assoc (take at out) one _ ∙ ap (λ (l : List ℕ). take at out ++ l) (sym (append_assoc one more _)))

-- A text from a place on: the place after it, and the bytes afterwards.
abbrev pub Put : ℕ → List ℕ → List ℕ → ℕ → List ℕ → Type 0
Put at text start end after = (end ≡ at + length text) × (after ≡ written_at at text start)

pub put_nothing : (at : ℕ) (start text : List ℕ) → text ≡ [] → Put at text start at start
put_nothing at start text e = rw e (omega arith, sym (nothing_written start at))

-- one piece, and more after it
pub put_both :
    (at between end : ℕ) (one more start out after : List ℕ) → at ≤ length start →
    Put at one start between out → Put between more out end after → Put at (one ++ more) start end after
put_both at between end one more start out after h p q = (
  simp length-append (omega (arith, p.0, q.0)),
  q.1 ∙ rw (p.1, p.0) (written_on start at one more h),
)

-- a text that is known under another name
pub put_as : (at end : ℕ) (one text start after : List ℕ) → text ≡ one → Put at one start end after → Put at text start end after
put_as at end one text start after e p = rw e p

-- bytes stored one after the other
pub put_stored : (at : ℕ) (text start : List ℕ) → at + length text ≤ length start → sets start at text ≡ written_at at text start
unfolding written_at
put_stored at text start fits = sets-eq text start at fits ∙ append_assoc (take at start) text (drop (at + length text) start)

-- one byte
pub put_byte : (at byte : ℕ) (start : List ℕ) → at + 1 ≤ length start → Put at (byte ∷ []) start (at + 1) (set start at byte)
put_byte at byte start h = (refl, put_stored at (byte ∷ []) start h)

-- A turn of the loop over bytes stores one of them.

pub no_byte_yet : (bytes start : List ℕ) (at : ℕ) → start ≡ written_at at (take 0 bytes) start
no_byte_yet bytes start at = (put_nothing at start [] refl).1

module _ (bytes start out : List ℕ) (at k : ℕ) (i : out ≡ written_at at (take k bytes) start) where
  pub byte_more :
      k < length bytes → at + length bytes ≤ length start → length out ≡ length start →
      set out (at + k) (get_or bytes k 0) ≡ written_at at (take (k + 1) bytes) start
  byte_more h fits same =
      let long : at + k ≡ at + length (take k bytes) = ap (λ (n : ℕ). at + n) (sym (length-take-le k bytes (omega arith))) in
      rw (add-one k, take-suc bytes k 0 h)
      (put_both at (at + k) (at + k + 1) (take k bytes) (get_or bytes k 0 ∷ []) start out _ (omega arith) (long, i) (put_byte (at + k) (get_or bytes k 0) out (omega arith))).1

-- The room for a text is room for its pieces.
module _ (at room : ℕ) (one more : List ℕ) (fits : at + length (one ++ more) ≤ room) where
  pub fits_first : at + length one ≤ room
  fits_first = let sum : length (one ++ more) ≡ length one + length more = length-append one more in omega arith

  pub fits_then : (between : ℕ) → between ≡ at + length one → between + length more ≤ room
  fits_then between e = let sum : length (one ++ more) ≡ length one + length more = length-append one more in omega arith

-- What a loop has left to write comes, with what is written, to the whole text.
pub record LeftOf (at : ℕ) (text start : List ℕ) (end : ℕ) (left out : List ℕ) : Type 0 where
  pub written : written_at end left out ≡ written_at at text start
  pub counted : end + length left ≡ at + length text

module _ (at : ℕ) (text start : List ℕ) where
  -- at first all is left
  pub all_left : LeftOf at text start at text start
  all_left = record { written = refl; counted = refl }

  -- what is left fits where all of it did
  pub left_fits :
      (end : ℕ) (left out : List ℕ) → LeftOf at text start end left out → at + length text ≤ length start → length out ≡ length start →
      end + length left ≤ length out
  left_fits end left out i fits same = let sum = i.counted in omega arith

  -- a turn writes a piece of it
  pub piece_less :
      (end next : ℕ) (left one more out after : List ℕ) → LeftOf at text start end left out → left ≡ one ++ more → end ≤ length out →
      Put end one out next after → LeftOf at text start next more after
  piece_less end next left one more out after i e h p =
      let counts : end + length (one ++ more) ≡ at + length text = rw e at i.counted in
      let sum : length (one ++ more) ≡ length one + length more = length-append one more in
      record {
        written = rw (p.1, p.0) (written_on out end one more h) ∙ rw e at i.written;
        counted = omega (arith, p.0);
      }

  -- the last piece is what was left
  pub last_put : (end next : ℕ) (left out after : List ℕ) → LeftOf at text start end left out → Put end left out next after → Put at text start next after
  last_put end next left out after i p = (p.0 ∙ i.counted, p.1 ∙ i.written)
