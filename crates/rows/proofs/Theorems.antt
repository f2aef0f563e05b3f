-- What holds of rows together with others.
use Rattle.std.specs.Prelude.{Option, None, Some}
use native.Mathlib.Omega.{arith}
use Prim.Native.Nat.{min, max}
use mathlib.Core.Path.{◌≡◌, refl}
use Rattle.rows.specs.declared.Rows.{Rows}
use Rattle.rows.specs.Window.{join_rows}

-- Of three together it does not matter which two are joined first.
pub join_assoc : (r s t : Option Rows) → join_rows (join_rows r s) t ≡ join_rows r (join_rows s t)
join_assoc None s t = refl
join_assoc (Some r) None t = refl
join_assoc (Some r) (Some s) None = refl
join_assoc (Some r) (Some s) (Some t) =
    let p : min (min r.first s.first) t.first ≡ min r.first (min s.first t.first) = omega arith in
    let q : max (max r.last s.last) t.last ≡ max r.last (max s.last t.last) = omega arith in
    rw (p, q)

-- No rows add nothing.
pub join_none : (r : Option Rows) → join_rows r None ≡ r
join_none None = refl
join_none (Some r) = refl
