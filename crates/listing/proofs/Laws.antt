-- Laws over plain values, which the functions' proofs cite: what a listing lacks, and a turn of each loop.
use Rattle.std.specs.Prelude.{Option, None, Some}
use native.Mathlib.Omega.{arith}
use Prim.Native.Nat.{ℕ, zero, suc, ◌+◌, ◌-◌, ◌≤◌, ◌<◌}
use mathlib.Core.Bool.{Bool, true, false, not, ◌&&◌, ◌||◌}
use mathlib.Core.List.{List, ◌++◌}
use mathlib.Core.Path.{◌≡◌, refl, sym, ◌∙◌, ap}
use lib.Dec.{leb}
use lib.ListN.{get_or}
use borrow.Author.Tests.{le-leb, leb-true}
use Rattle.std.specs.Prelude.{Option, Some, None, Result, Ok, Err}
use Rattle.std.specs.Option.{option_or}
use Rattle.std.specs.Bool.{then_some}
use Rattle.ground.specs.Each.{numbers, every}
use Rattle.ground.specs.First.{first_from, Finds}
use Rattle.ground.specs.Judged.{first_bad}
use Rattle.ground.proofs.Judged.{bad_append}
use Rattle.ground.proofs.Each.{not_not, by_bool, and_left, and_right, and_both, every_number, number_every}
use Rattle.layout.specs.declared.Tables.{Tables}
use Rattle.layout.specs.Layout.{header_height}
use Rattle.layout.specs.Tables.{word, record_at}
use Rattle.image.specs.declared.ElementKind.{ElementKind}
use Rattle.image.specs.declared.ElementKind.TheVariants as kind
use Rattle.image.specs.Records.{element_kind_number, thing_table}
use Rattle.rows.specs.declared.Rows.{Rows}
use Rattle.rows.specs.Computed.{rows_within}
use Rattle.rows.specs.Window.{FirstAndLast}
use Rattle.rows.proofs.Windows.{clash, touched_first_last}
use Rattle.elements.specs.Elements.{first_row, last_row, listing}
use Rattle.elements.specs.Slots.{slot_of, slot_listing}
use Rattle.elements.proofs.Records.{found_from, records_whole, records_again, records_hit, records_done, records_searched}
use Rattle.things.specs.Things.{sheet_of, thing_touches, run_count}
use Rattle.things.specs.Computed.{Touched}
use Rattle.listing.specs.Listing.{holds_row, well_listed, things_judged, listed_judged}
use Rattle.listing.specs.Computed.{no_rows, lacks, slot_lacks, Ready, walked}

-- each row on which a test holds is listed, from low to high or not at all, exactly where the first and the last of them are

module _ (height : ℕ) (test : ℕ → Bool) where
  untouched : (inside : ℕ → Bool) → FirstAndLast 0 height test None → every (numbers 0 height) (λ y. not (test y) || inside y) ≡ true
  untouched inside off = number_every _ 0 height (λ y p q. rw (off y p q))

  module _ (low high : ℕ) where
    abbrev inside : ℕ → Bool
    inside y = leb low y && leb y high

    on_row : (y : ℕ) → 0 ≤ y → y < 0 + height → every (numbers 0 height) (λ y. not (test y) || inside y) ≡ true → test y ≡ true → inside y ≡ true
    on_row y p q all t = rw t at (every_number (λ y. not (test y) || inside y) 0 height all y p q)

    pub listed_within : (r : Option Rows) → FirstAndLast 0 height test r → every (numbers 0 height) (λ y. not (test y) || inside y) ≡ rows_within low high r
    listed_within None off = untouched inside off
    listed_within (Some r) on =
        by_bool (leb low r.first && leb r.last high)
        (λ t. rw t
        (number_every _ 0 height
        (λ y p q. by_bool (test y)
        (λ u. let k = on.5 y p q u in
        let l = leb-true low r.first (and_left (leb low r.first) (leb r.last high) t) in
        let h = leb-true r.last high (and_right (leb low r.first) (leb r.last high) t) in
        rw u (and_both (le-leb low y (omega (arith, k.0))) (le-leb y high (omega (arith, k.1)))))
        (λ u. rw u))))
        (λ t. rw t
        (by_bool (every (numbers 0 height) (λ y. not (test y) || inside y))
        (λ all.
        let first = on_row r.first on.0 (omega (arith, on.1, on.2)) all on.3 in
        let last = on_row r.last (omega (arith, on.0, on.1)) on.2 all on.4 in
        clash (and_both (and_left (leb low r.first) (leb r.first high) first) (and_right (leb low r.last) (leb r.last high) last)) t)
        (λ none. none)))

  pub unlisted_any : (r : Option Rows) → FirstAndLast 0 height test r → every (numbers 0 height) (λ y. not (test y) || false) ≡ no_rows r
  unlisted_any None off = untouched (λ y. false) off
  unlisted_any (Some r) on =
      by_bool (every (numbers 0 height) (λ y. not (test y) || false))
      (λ all. clash (rw on.3 at (every_number (λ y. not (test y) || false) 0 height all r.first on.0 (omega (arith, on.1, on.2)))) refl)
      (λ none. none)

module _ (image : List ℕ) (ts : Tables) (slots : List ℕ) (ready : Ready image ts slots) where
  -- a slot says which element lists its thing
  own_slot :
      (kind : ElementKind) (k : ℕ) → k < (thing_table kind ts).count →
      slot_listing (get_or slots (slot_of (element_kind_number kind) k) 0) ≡ listing image ts (element_kind_number kind) k
  own_slot kind.Node k h = ready.held 0 k (omega arith) (omega (arith, ready.nodes))
  own_slot kind.Edge k h = ready.held 1 k (omega arith) (omega (arith, ready.edges))
  own_slot kind.Subgraph k h = ready.held 2 k (omega arith) (omega (arith, ready.subgraphs))

-- A thing is well listed exactly where its listing lacks none of its rows, from the first to the last.
module _ (kind : ElementKind) (image : List ℕ) (ts : Tables) (k : ℕ) where
  lacks_listing :
      (l : Option ℕ) (r : Option Rows) → FirstAndLast 0 (word image header_height) (thing_touches kind image ts k) r →
      every (numbers 0 (word image header_height)) (λ y. not (thing_touches kind image ts k y) || holds_row image ts l y) ≡ not (lacks image ts l r)
  unfolding lacks
  lacks_listing None r f = unlisted_any (word image header_height) (thing_touches kind image ts k) r f ∙ sym (not_not (no_rows r))
  lacks_listing (Some j) r f =
      listed_within (word image header_height) (thing_touches kind image ts k) (first_row image ts j) (last_row image ts j) r f
      ∙ sym (not_not (rows_within (first_row image ts j) (last_row image ts j) r))

  -- by its slot, as the code has read it
  pub by_slot :
      (slots : List ℕ) (number : ℕ) (touched : Option Rows) (lack : Bool) →
      Ready image ts slots →
      k < (thing_table kind ts).count →
      number ≡ element_kind_number kind →
      Touched kind image ts k touched →
      lack ≡ slot_lacks image ts slots number k touched →
      well_listed kind image ts k ≡ not lack
  unfolding well_listed slot_lacks
  by_slot slots number touched lack ready h n t l =
      let rows : FirstAndLast 0 (word image header_height) (thing_touches kind image ts k) touched =
      rw (t.rows ready.bracket) (touched_first_last (thing_touches kind image ts k) (sheet_of image)) in
      rw (l, n, own_slot image ts slots ready kind k h) (lacks_listing (listing image ts (element_kind_number kind) k) touched rows)

pub slot_lack :
    (image : List ℕ) (ts : Tables) (slots : List ℕ) (number k slot held : ℕ) (touched : Option Rows) (lack : Bool) →
    slot ≡ slot_of number k → held ≡ get_or slots slot 0 → lack ≡ lacks image ts (slot_listing held) touched → lack ≡ slot_lacks image ts slots number k touched
unfolding slot_lacks
slot_lack image ts slots number k slot held touched lack s w l = l ∙ rw (w, s)

-- No rows lack no listing.
pub lacks_no_rows : (image : List ℕ) (ts : Tables) (listed : Option ℕ) (touched : Option Rows) → touched ≡ None → false ≡ lacks image ts listed touched
unfolding lacks
lacks_no_rows image ts None touched e = rw e
lacks_no_rows image ts (Some k) touched e = rw e

-- A slot that holds 0, or the number of an element and 1.

module _ (image : List ℕ) (ts : Tables) (slot : ℕ) (touched : Option Rows) where
  pub lacks_any : (r : Rows) → slot ≡ 0 → touched ≡ Some r → true ≡ lacks image ts (slot_listing slot) touched
  unfolding lacks
  lacks_any r z t = rw (z, t)

  pub lacks_some :
      (k first last low high : ℕ) (r : Rows) (within : Bool) → touched ≡ Some r →
      (slot ≡ 0 → ⊥) → k ≡ slot - 1 → first ≡ first_row image ts k → low ≡ first → last ≡ last_row image ts k → high ≡ last →
      within ≡ rows_within low high (Some r) → not within ≡ lacks image ts (slot_listing slot) touched
  unfolding lacks
  lacks_some k first last low high r within e h p q s t u w = rw (w, e, u, t, s, q, p, some slot h)
    where
      some : (slot : ℕ) → (slot ≡ 0 → ⊥) → slot_listing slot ≡ Some (slot - 1)
      some zero h = absurd (h refl)
      some (suc j) h = let e : suc j - 1 ≡ j = omega arith in rw e

-- The search through the things of a kind, and the loop over them, turn by turn.

module _ (kind : ElementKind) (image : List ℕ) (ts : Tables) where
  -- what is found from thing k on
  abbrev pub found_after : ℕ → Option ℕ
  found_after k = found_from (thing_table kind ts) (well_listed kind image ts) k

  pub things_whole : found_after 0 ≡ first_bad (things_judged kind image ts)
  unfolding things_judged
  things_whole = records_whole (thing_table kind ts) (well_listed kind image ts)

  module _ (slots : List ℕ) (k number : ℕ) (touched : Option Rows) (lack : Bool) (first : Option ℕ)
      (l : lack ≡ slot_lacks image ts slots number k touched) (ready : Ready image ts slots) (h : k < (thing_table kind ts).count)
      (i : found_after k ≡ first) (n : number ≡ element_kind_number kind) (t : Touched kind image ts k touched) where
    pub things_again : lack ≡ false → found_after (k + 1) ≡ first
    things_again z =
        records_again (thing_table kind ts) (well_listed kind image ts) k first h i
        (by_slot kind image ts k slots number touched lack ready h n t l ∙ rw z)

    pub things_hit : (place : ℕ) → place ≡ record_at (thing_table kind ts) k → lack ≡ true → Some place ≡ first
    things_hit place p z =
        records_hit (thing_table kind ts) (well_listed kind image ts) k first h i place p
        (by_slot kind image ts k slots number touched lack ready h n t l ∙ rw z)

  pub things_done : (k : ℕ) (first : Option ℕ) → (thing_table kind ts).count ≤ k → found_after k ≡ first → None ≡ first
  things_done k first h i = records_done (thing_table kind ts) (well_listed kind image ts) k first h i

  -- what a search finds that asks of each thing whether its slot's listing lacks a row that it touches
  pub things_searched :
      (slots : List ℕ) (number : ℕ) (Answers : ℕ → Option ℕ → Type 0) (r : Option ℕ) → Ready image ts slots → number ≡ element_kind_number kind →
      ((found : ℕ → Option ℕ) → Finds Answers (thing_table kind ts).count found → r ≡ first_from found 0 (thing_table kind ts).count) →
      ((k : ℕ) (answer : Option ℕ) → k < (thing_table kind ts).count → Answers k answer →
      (touched : Option Rows) × Touched kind image ts k touched
      × (answer ≡ then_some (slot_lacks image ts slots number k touched) (record_at (thing_table kind ts) k))) →
      r ≡ first_bad (things_judged kind image ts)
  unfolding things_judged
  things_searched slots number Answers r ready n searched finds =
      records_searched (thing_table kind ts) (well_listed kind image ts) Answers r searched
      (λ k answer h e.
      let f = finds k answer h e in
      let w = by_slot kind image ts k slots number f.0 _ ready h n f.1 refl in
      f.2 ∙ ap (λ b. then_some b (record_at (thing_table kind ts) k)) (sym (rw w (not_not (slot_lacks image ts slots number k f.0)))))

-- A walk that finds something, and one that does not.

pub walked_hit : (first : Option ℕ) (runs place : ℕ) → Some place ≡ first → Err place ≡ walked first runs
walked_hit first runs place e = rw (← e)

pub walked_done : (first : Option ℕ) (runs counted : ℕ) → None ≡ first → counted ≡ runs → Ok counted ≡ walked first runs
walked_done first runs counted e r = rw (← e, r)

pub found_err : (first : Option ℕ) (runs place : ℕ) → Err place ≡ walked first runs → first ≡ Some place
found_err None runs place e = let z : ◌≡◌ {A = ℕ} 0 1 = cc in absurd (omega arith)
found_err (Some p) runs place e = let q : place ≡ p = cc in rw q

pub found_ok : (first : Option ℕ) (runs counted : ℕ) → Ok counted ≡ walked first runs → (first ≡ None) × (counted ≡ runs)
found_ok None runs counted e = (refl, cc)
found_ok (Some p) runs counted e = let z : ◌≡◌ {A = ℕ} 0 1 = cc in absurd (omega arith)

-- The kinds in turn.

module _ (image : List ℕ) (ts : Tables) where
  -- the first of each kind in turn
  pub first_in_turn :
      first_bad (listed_judged image ts)
      ≡ option_or (first_bad (things_judged kind.Node image ts)) (option_or (first_bad (things_judged kind.Edge image ts)) (first_bad (things_judged kind.Subgraph image ts)))
  unfolding listed_judged
  first_in_turn =
      bad_append (things_judged kind.Node image ts) (things_judged kind.Edge image ts ++ things_judged kind.Subgraph image ts)
      ∙ rw (bad_append (things_judged kind.Edge image ts) (things_judged kind.Subgraph image ts))

  module _ (node : Option ℕ) (n : node ≡ first_bad (things_judged kind.Node image ts)) where
    pub turn_node : (place : ℕ) → node ≡ Some place → Err place ≡ walked (first_bad (listed_judged image ts)) (run_count image ts)
    turn_node place e = walked_hit _ _ place (sym (first_in_turn ∙ rw (← n, e)))

    module _ (z : node ≡ None) (edges : Result ℕ ℕ) (w : edges ≡ walked (first_bad (things_judged kind.Edge image ts)) (run_count image ts)) where
      pub turn_edge : (place : ℕ) → edges ≡ Err place → Err place ≡ walked (first_bad (listed_judged image ts)) (run_count image ts)
      turn_edge place e = walked_hit _ _ place (sym (first_in_turn ∙ rw (← n, z, found_err _ _ place (sym e ∙ w))))

      module _ (runs : ℕ) (o : edges ≡ Ok runs) (subgraph : Option ℕ) (s : subgraph ≡ first_bad (things_judged kind.Subgraph image ts)) where
        counted : (first_bad (things_judged kind.Edge image ts) ≡ None) × (runs ≡ run_count image ts)
        counted = found_ok _ _ runs (sym o ∙ w)

        pub turn_subgraph :
            (place : ℕ) → subgraph ≡ Some place → Err place ≡ walked (first_bad (listed_judged image ts)) (run_count image ts)
        turn_subgraph place e = walked_hit _ _ place (sym (first_in_turn ∙ rw (← n, z, counted.0, ← s, e)))

        pub turn_none : subgraph ≡ None → Ok runs ≡ walked (first_bad (listed_judged image ts)) (run_count image ts)
        turn_none e = walked_done _ _ runs (sym (first_in_turn ∙ rw (← n, z, counted.0, ← s, e))) counted.1
