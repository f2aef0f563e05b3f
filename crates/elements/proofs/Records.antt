-- The search for the first record of a table that is not good, and what it means that there is none.
use Prim.Native.Nat.{ℕ, ◌+◌, ◌-◌, ◌≤◌, ◌<◌}
use mathlib.Core.Bool.{Bool, true, false, not}
use mathlib.Core.Logic.{◌↔◌}
use mathlib.Core.Path.{◌≡◌, refl, sym, ◌∙◌, ap}
use Rattle.std.specs.Prelude.{Option, Some, None}
use Rattle.std.specs.Bool.{then_some}
use Rattle.ground.specs.Each.{numbers, each}
use Rattle.ground.specs.First.{first_from, Finds}
use Rattle.ground.specs.Judged.{first_bad}
use Rattle.ground.proofs.Each.{not_not}
use Rattle.ground.proofs.First.{found_none}
use Rattle.ground.proofs.Judged.{one_judged, look_whole, look_again, look_hit, look_done, first_judged, none_of_each, each_of_none}
use Rattle.layout.specs.declared.Table.{Table}
use Rattle.layout.specs.Tables.{record_at}
use Rattle.elements.specs.Records.{judged_record, judged_records}

not_false : (b : Bool) → not b ≡ false → b ≡ true
not_false true e = refl
not_false false e = sym e

module _ (table : Table) (good : ℕ → Bool) where
  -- what is found from record k on
  abbrev pub found_from : ℕ → Option ℕ
  found_from k = first_bad (each (numbers k (table.count - k)) (judged_record table good))

  -- before the first turn all records are left
  pub records_whole : found_from 0 ≡ first_bad (judged_records table good)
  unfolding judged_records
  records_whole = look_whole (judged_record table good) table.count

  module _ (k : ℕ) (r : Option ℕ) (h : k < table.count) (i : found_from k ≡ r) where
    -- a turn at a good record
    pub records_again : good k ≡ true → found_from (k + 1) ≡ r
    records_again e =
        look_again (judged_record table good) k table.count r h i (one_judged (record_at table k) (good k) ∙ rw e)

    -- a turn at one that is not
    pub records_hit : (place : ℕ) → place ≡ record_at table k → good k ≡ false → Some place ≡ r
    records_hit place p e =
        look_hit (judged_record table good) k table.count r place h i (one_judged (record_at table k) (good k) ∙ rw (e, p))

  -- no record is left
  pub records_done : (k : ℕ) (r : Option ℕ) → table.count ≤ k → found_from k ≡ r → None ≡ r
  records_done k r h i = look_done (judged_record table good) k table.count r h i

  -- What a search through the records finds, by what it finds at each.
  pub records_searched :
      (Answers : ℕ → Option ℕ → Type 0) (r : Option ℕ) →
      ((found : ℕ → Option ℕ) → Finds Answers table.count found → r ≡ first_from found 0 table.count) →
      Finds Answers table.count (λ k. then_some (not (good k)) (record_at table k)) → r ≡ first_bad (judged_records table good)
  unfolding judged_records
  records_searched Answers r searched finds =
      searched (λ k. first_bad (judged_record table good k)) (λ k answer h e. finds k answer h e ∙ sym (one_judged (record_at table k) (good k)))
      ∙ first_judged (judged_record table good) 0 table.count

  -- None is found exactly where each is good.
  pub records_good_iff : (first_bad (judged_records table good) ≡ None) ↔ ((k : ℕ) → k < table.count → good k ≡ true)
  unfolding judged_records
  records_good_iff = (
    (λ e k h. not_false (good k)
        (found_none (not (good k)) (record_at table k)
        (sym (one_judged (record_at table k) (good k)) ∙ none_of_each (judged_record table good) table.count e k h))),
    (λ f. each_of_none (judged_record table good) table.count
        (λ k h. one_judged (record_at table k) (good k) ∙ rw (f k h))),
  )

-- The same where a test tells of each record that it is bad.
pub broken_searched :
    (table : Table) (bad : ℕ → Bool) (Answers : ℕ → Option ℕ → Type 0) (r : Option ℕ) →
    ((found : ℕ → Option ℕ) → Finds Answers table.count found → r ≡ first_from found 0 table.count) →
    Finds Answers table.count (λ k. then_some (bad k) (record_at table k)) → r ≡ first_bad (judged_records table (λ k. not (bad k)))
broken_searched table bad Answers r searched finds =
    records_searched table (λ k. not (bad k)) Answers r searched
    (λ k answer h e. finds k answer h e ∙ ap (λ b. then_some b (record_at table k)) (sym (not_not (bad k))))
