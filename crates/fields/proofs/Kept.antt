-- What it means that nothing is found in a table, and in several.
use Prim.Native.Nat.{ℕ, ◌<◌}
use mathlib.Core.Bool.{Bool}
use mathlib.Core.List.{List, [], ◌∷◌}
use mathlib.Core.Path.{◌≡◌, refl, sym, ◌∙◌}
use Rattle.std.specs.Prelude.{None}
use Rattle.ground.specs.Each.{each}
use Rattle.ground.specs.Judged.{Judged, first_bad}
use Rattle.ground.proofs.First.{or_none_both}
use Rattle.ground.proofs.Judged.{bad_append, none_of_each, each_of_none}
use Rattle.layout.specs.declared.Table.{Table}
use Rattle.layout.specs.Tables.{record_at, field}
use Rattle.header.proofs.Kept.{Kept, none_kept, kept_none}
use Rattle.fields.specs.Tables.{record_judged, table_judged}

-- Nothing is found in a table exactly when every word of every record keeps its rule.
module _ (image : List ℕ) (table : Table) (rules : (ℕ → ℕ) → List Bool) where
  pub table_kept : first_bad (table_judged image table rules) ≡ None → (k : ℕ) → k < table.count → Kept (rules (field image table k))
  unfolding table_judged
  table_kept h k p = none_kept (record_at table k) 0 _ (none_of_each (record_judged image table rules) table.count h k p)

  pub kept_table : ((k : ℕ) → k < table.count → Kept (rules (field image table k))) → first_bad (table_judged image table rules) ≡ None
  unfolding table_judged
  kept_table h = each_of_none (record_judged image table rules) table.count (λ k p. kept_none (record_at table k) 0 _ (h k p))

-- Nothing is found in several tables exactly when nothing is found in each.

-- it holds of each thing of a list
abbrev pub All : {A : Type 0} → (A → Type 0) → List A → Type 0
All P [] = Unit {0}
All P (a ∷ rest) = P a × All P rest

module _ {A : Type 0} (f : A → List Judged) where
  pub none_all : (l : List A) → first_bad (each l f) ≡ None → All (λ a. first_bad (f a) ≡ None) l
  unfolding each
  none_all [] h = tt
  none_all (a ∷ rest) h =
      let both = or_none_both (first_bad (f a)) (first_bad (each rest f)) (sym (bad_append (f a) (each rest f)) ∙ h) in
      (both.0, none_all rest both.1)

  pub all_none : (l : List A) → All (λ a. first_bad (f a) ≡ None) l → first_bad (each l f) ≡ None
  unfolding each first_bad
  all_none [] h = refl
  all_none (a ∷ rest) h = bad_append (f a) (each rest f) ∙ rw h.0 (all_none rest h.1)
