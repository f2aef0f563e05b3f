-- How many bytes reading answers. No contract can say which: they come from outside.
use Rattle.std.specs.Prelude.{ℕ, List, ◌≤◌, ◌≡◌, length, take, Result, IfOk}

-- so many stand at the start of the bytes, and are as many there
abbrev pub IsPrefixLen : ℕ → List ℕ → Type 0
IsPrefixLen n bytes = (n ≤ length bytes) × (n ≡ length (take n bytes))

-- as many as stand at the start of the lent ones
abbrev pub Within : {E : Type 0} → Result ℕ E → List ℕ → Type 0
Within got bytes = IfOk got (λ n. IsPrefixLen n bytes)
