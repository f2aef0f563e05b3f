-- `read_digits` makes the value of its digits. The invariant: the digits that are left, after the value so far, make what all of them make after 0.
use Prim.Native.Nat.{◌≤◌}
use mathlib.Core.Path.{◌≡◌}
use lib.ListN.{length, drop}
use Rattle.sheettext.specs.Numbers.{read_digits}
use Rattle.sheettext.proofs.read_digits.Given as goal

abbrev pub invariant-loop-byte : goal.invariant-loop-byte
invariant-loop-byte l =
    (l.byte-index ≤ length l.digits) × (l.value ≤ 0x100000000) × (read_digits l.base l.value (drop l.byte-index l.digits) ≡ read_digits l.base 0 l.digits)
