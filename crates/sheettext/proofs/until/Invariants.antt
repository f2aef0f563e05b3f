-- `until` counts the bytes before the first of a value. The invariant: those passed and those left to pass are as many as there are.
use Prim.Native.Nat.{◌+◌, ◌≤◌}
use mathlib.Core.Path.{◌≡◌}
use lib.ListN.{length, drop}
use Rattle.sheettext.specs.Parts.{until}
use Rattle.sheettext.proofs.until.Given as goal

abbrev pub invariant-loop-k : goal.invariant-loop-k
invariant-loop-k l = (l.k ≤ length l.text) × (l.k + until l.byte (drop l.k l.text) ≡ until l.byte l.text)
