-- Digits and the values that they make, over plain variables.
use native.Mathlib.Omega.{arith}
use native.Mathlib.Numerals.{add-one}
use native.Mathlib.Nat.{mul-le-mul_left}
use Prim.Native.Nat.{ℕ, suc, ◌+◌, ◌*◌, ◌≤◌, ◌<◌, min}
use mathlib.Core.Path.{◌≡◌, refl, sym, ap, ◌∙◌}
use mathlib.Core.List.{List, [], ◌∷◌}
use mathlib.Core.Bool.{Bool, true, false, cond}
use lib.ListN.{length, get_or, drop}
use lib.Seq.{drop-cons, drop-length}
use lib.Dec.{ltb}
use borrow.Author.Tests.{ltb-true, ltb-false, lt-ltb, le-ltb}
use Rattle.sheettext.specs.Numbers.{digit_of, reading_of, read_digits}
use Rattle.std.specs.Prelude.{Result, Err}
use Rattle.sheettext.specs.declared.NumberError.{NumberError}
use Rattle.sheettext.specs.declared.NumberError.TheVariants.{TooLarge, NotANumber}

too_large : (value : ℕ) → 0x100000000 ≤ value → Err TooLarge ≡ reading_of value
unfolding reading_of
too_large value h = simp (le-ltb _ _ h)

-- digits after a value that is too large already never make it less
stays : (base x y : ℕ) (digits : List ℕ) → 0 < base → 0x100000000 ≤ x → 0x100000000 ≤ y → read_digits base x digits ≡ read_digits base y digits
unfolding read_digits
stays base x y [] b p q = sym (too_large x p) ∙ too_large y q
stays base x y (d ∷ rest) b p q =
    let px : x * 1 ≤ x * base = mul-le-mul_left x b in
    let py : y * 1 ≤ y * base = mul-le-mul_left y b in
    ap (λ (r : Result ℕ NumberError). cond (ltb (digit_of d) base) r (Err NotANumber))
    (stays base (x * base + digit_of d) (y * base + digit_of d) rest b (omega arith) (omega arith))

-- so a value may stop growing there
capped_by :
    (t : Bool) (base x : ℕ) (digits : List ℕ) → ltb x 0x100000000 ≡ t → 0 < base → read_digits base (min x 0x100000000) digits ≡ read_digits base x digits
capped_by true base x digits e b =
    let h : x < 0x100000000 = ltb-true _ _ e in
    let same : min x 0x100000000 ≡ x = omega arith in
    rw same
capped_by false base x digits e b =
    let h : 0x100000000 ≤ x = ltb-false _ _ e in
    stays base (min x 0x100000000) x digits b (omega arith) h

capped : (base x : ℕ) (digits : List ℕ) → 0 < base → read_digits base (min x 0x100000000) digits ≡ read_digits base x digits
capped base x digits b = capped_by _ base x digits refl b

-- a turn of reading digits

pub one_digit :
    (base value : ℕ) (digits : List ℕ) (k d next : ℕ) (r : Result ℕ NumberError) →
    k < length digits →
    0 < base →
    d ≡ digit_of (get_or digits k 0) →
    d < base →
    next ≡ min (value * base + d) 0x100000000 →
    read_digits base value (drop k digits) ≡ r →
    read_digits base next (drop (k + 1) digits) ≡ r
unfolding read_digits
one_digit base value digits k d next r h b e l n i =
    let rest : List ℕ = drop (suc k) digits in
    let here : read_digits base value (get_or digits k 0 ∷ rest) ≡ r = rw (drop-cons digits k 0 h) at i in
    let digit : digit_of (get_or digits k 0) < base = omega arith in
    let turned : read_digits base (value * base + digit_of (get_or digits k 0)) rest ≡ r = rw (lt-ltb _ _ digit) at here in
    rw (add-one k, n, e) (capped base _ rest b ∙ turned)

pub no_digit :
    (base value : ℕ) (digits : List ℕ) (k d : ℕ) (r : Result ℕ NumberError) →
    k < length digits →
    d ≡ digit_of (get_or digits k 0) →
    base ≤ d →
    read_digits base value (drop k digits) ≡ r →
    Err NotANumber ≡ r
unfolding read_digits
no_digit base value digits k d r h e l i =
    let here : read_digits base value (get_or digits k 0 ∷ drop (suc k) digits) ≡ r = rw (drop-cons digits k 0 h) at i in
    let digit : base ≤ digit_of (get_or digits k 0) = omega arith in
    rw (le-ltb _ _ digit) at here

pub last_digit :
    (base value : ℕ) (digits : List ℕ) (k : ℕ) (answer r : Result ℕ NumberError) →
    k ≤ length digits →
    length digits ≤ k →
    answer ≡ reading_of value →
    read_digits base value (drop k digits) ≡ r →
    answer ≡ r
unfolding read_digits
last_digit base value digits k answer r p q e i =
    let all : k ≡ length digits = omega arith in
    let none : drop k digits ≡ [] = rw all (drop-length digits) in
    e ∙ (rw none at i)
