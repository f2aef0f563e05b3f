-- The search through the records of a table, and through the tables.
use Prim.Native.Nat.{ℕ}
use mathlib.Core.Bool.{Bool}
use mathlib.Core.List.{List, [], ◌∷◌, ◌++◌, append-nil}
use mathlib.Core.Path.{◌≡◌, sym, ◌∙◌}
use Rattle.std.specs.Prelude.{Option}
use Rattle.std.specs.Option.{option_or}
use Rattle.ground.specs.First.{first_from, Finds}
use Rattle.ground.specs.Each.{each}
use Rattle.ground.specs.Judged.{Judged, first_bad}
use Rattle.ground.proofs.Each.{each_append}
use Rattle.ground.proofs.Judged.{bad_append, first_judged}
use Rattle.layout.specs.declared.Table.{Table}
use Rattle.fields.specs.Tables.{record_judged, table_judged}

-- What a search through the records of a table finds, by what it finds in each of them.
pub in_table :
    (image : List ℕ) (table : Table) (rules : (ℕ → ℕ) → List Bool) (Answers : ℕ → Option ℕ → Type 0) (r : Option ℕ) →
    ((found : ℕ → Option ℕ) → Finds Answers table.count found → r ≡ first_from found 0 table.count) →
    Finds Answers table.count (λ k. first_bad (record_judged image table rules k)) → r ≡ first_bad (table_judged image table rules)
unfolding table_judged
in_table image table rules Answers r searched finds =
    searched (λ k. first_bad (record_judged image table rules k)) finds ∙ first_judged (record_judged image table rules) 0 table.count

-- The search through the tables.
module _ {A : Type 0} (f : A → List Judged) where
  in_both : (k l : List A) → first_bad (each (k ++ l) f) ≡ option_or (first_bad (each k f)) (first_bad (each l f))
  in_both k l = rw (each_append f k l) (bad_append (each k f) (each l f))

  in_one : (a : A) → first_bad (each (a ∷ []) f) ≡ first_bad (f a)
  unfolding each
  in_one a = rw (append-nil (f a))

  -- four tables one after the other
  pub in_four :
      (a b c d : A) (r s t w x y z : Option ℕ) → r ≡ option_or w s → s ≡ option_or x t → t ≡ option_or y z →
      w ≡ first_bad (f a) → x ≡ first_bad (f b) → y ≡ first_bad (f c) → z ≡ first_bad (f d) →
      r ≡ first_bad (each (a ∷ b ∷ c ∷ d ∷ []) f)
  in_four a b c d r s t w x y z p q u e g h i =
      rw (p, q, u, e, g, h, i)
      (rw (in_both (a ∷ []) (b ∷ c ∷ d ∷ []), in_both (b ∷ []) (c ∷ d ∷ []), in_both (c ∷ []) (d ∷ []), in_one a, in_one b, in_one c, in_one d))

  -- two runs of tables one after the other
  pub in_two :
      (k l : List A) (r a b : Option ℕ) → r ≡ option_or a b → a ≡ first_bad (each k f) → b ≡ first_bad (each l f) → r ≡ first_bad (each (k ++ l) f)
  in_two k l r a b p e g = rw (p, e, g) (sym (in_both k l))
