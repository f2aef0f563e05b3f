-- For the proofs alone: bounds of what 32-bit fields and their sums come to, so that no sum of 64 bits wraps.
use Rattle.std.specs.Prelude.{ℕ, ◌<◌, Option, Some, None}
use Rattle.flow.specs.declared.Bend.{Bend}
use Rattle.flow.specs.declared.Leg.{Leg}

abbrev pub bound : ℕ
bound = 0x1000000000000

pub record SmallBend (v : Bend) : Type 0 where
  pub bend : v.bend < bound
  pub x1 : v.x1 < 0x100000000
  pub y1 : v.y1 < 0x100000000
  pub x2 : v.x2 < 0x100000000
  pub y2 : v.y2 < 0x100000000

pub record SmallLeg (leg : Leg) : Type 0 where
  pub x1 : leg.x1 < 0x100000000
  pub y1 : leg.y1 < 0x100000000
  pub x2 : leg.x2 < 0x100000000
  pub y2 : leg.y2 < 0x100000000

abbrev pub SmallCoordinate : Option ℕ → Type 0
SmallCoordinate (Some n) = n < bound
SmallCoordinate None = Unit {0}
