-- What it means that no word of the header is refused.
use Prim.Native.Nat.{ℕ}
use mathlib.Core.List.{List}
use mathlib.Core.Logic.{◌↔◌}
use mathlib.Core.Path.{◌≡◌}
use borrow.Author.Tests.{leb-true, eqb-true, le-leb, eq-eqb}
use Rattle.std.specs.Prelude.{None}
use Rattle.ground.specs.Judged.{first_bad}
use Rattle.header.specs.Header.{size_rules, count_rules, header_rules, header_judged, HeaderGood}
use Rattle.header.proofs.Kept.{Kept, none_kept, kept_none}

header_kept : (image : List ℕ) → Kept (header_rules image) ↔ HeaderGood image
unfolding size_rules count_rules
header_kept image = (λ h. search (leb-true, eqb-true), λ g. search (le-leb, eq-eqb, tt) depth 16)

-- No word of the header is refused exactly when each number is at most its limit and the spare bits are 0.
pub header_iff : (image : List ℕ) → (first_bad (header_judged image) ≡ None) ↔ HeaderGood image
unfolding header_judged
header_iff image = (
  λ h. (header_kept image).0 (none_kept 0 0 (header_rules image) h),
  λ g. kept_none 0 0 (header_rules image) ((header_kept image).1 g),
)
