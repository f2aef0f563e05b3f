-- Bytes and parts of a text, over plain variables.
use native.Mathlib.Omega.{arith}
use native.Mathlib.Numerals.{add-one}
use Prim.Native.Nat.{ℕ, suc, ◌+◌, ◌≤◌, ◌<◌}
use mathlib.Core.Path.{◌≡◌}
use mathlib.Core.List.{List, [], ◌∷◌}
use lib.ListN.{length, get_or, drop}
use lib.Seq.{drop-cons, drop-length}
use borrow.Author.Tests.{eq-eqb, ne_eqb}
use Rattle.sheettext.specs.Parts.{until}

-- a turn of going to the first byte of a value

pub passed :
    (byte : ℕ) (text : List ℕ) (k r : ℕ) →
    k < length text →
    (get_or text k 0 ≡ byte → ⊥) →
    k + until byte (drop k text) ≡ r →
    k + 1 + until byte (drop (k + 1) text) ≡ r
unfolding until
passed byte text k r h n i =
    let rest : List ℕ = drop (suc k) text in
    let here : k + until byte (get_or text k 0 ∷ rest) ≡ r = rw (drop-cons text k 0 h) at i in
    let next : k + suc (until byte rest) ≡ r = rw (ne_eqb _ _ n) at here in
    rw (add-one k) (omega arith)

pub found :
    (byte : ℕ) (text : List ℕ) (k r : ℕ) →
    k < length text →
    get_or text k 0 ≡ byte →
    k + until byte (drop k text) ≡ r →
    k ≡ r
unfolding until
found byte text k r h e i =
    let here : k + until byte (get_or text k 0 ∷ drop (suc k) text) ≡ r = rw (drop-cons text k 0 h) at i in
    let zero : k + 0 ≡ r = rw (eq-eqb _ _ e) at here in
    omega arith

pub ended : (byte : ℕ) (text : List ℕ) (k r : ℕ) → k ≤ length text → length text ≤ k → k + until byte (drop k text) ≡ r → k ≡ r
unfolding until
ended byte text k r p q i =
    let all : k ≡ length text = omega arith in
    let none : drop k text ≡ [] = rw all (drop-length text) in
    let zero : k + 0 ≡ r = rw none at i in
    omega arith
