-- Laws over plain values, which the functions' proofs cite: the rules that look at one thing, code 5, and each list of rules, rule by rule.
use native.Mathlib.Omega.{arith}
use Prim.Native.Nat.{ℕ, zero, suc, ◌+◌, ◌*◌, ◌≤◌, ◌<◌}
use mathlib.Core.Bool.{Bool, true, false, not}
use mathlib.Core.List.{List, [], ◌∷◌}
use mathlib.Core.Path.{◌≡◌, refl, sym, ◌∙◌, ap}
use lib.Dec.{eqb, leb}
use lib.ListN.{length}
use borrow.Author.Tests.{le-leb, lt-leb, eq-eqb, ne_eqb}
use Rattle.std.specs.Prelude.{Option, Some, None, Result, Ok, Err}
use Rattle.ground.specs.Each.{numbers, each}
use Rattle.ground.specs.Judged.{judged, first_bad}
use Rattle.ground.proofs.Each.{by_bool}
use Rattle.ground.proofs.Judged.{one_judged}
use Rattle.glyph.specs.Width.{range_count}
use Rattle.glyph.specs.Ranges.{range_broken}
use Rattle.glyph.specs.Ranges as glyph
use Rattle.glyph.proofs.Theorems.{broken_placed}
use Rattle.layout.specs.declared.Tables.{Tables}
use Rattle.layout.specs.Layout.{header_size, header_runs, range_size}
use Rattle.layout.specs.Small.{AllSmall}
use Rattle.layout.specs.Tables.{word, record_at, table_end, tables_of, wanted_length}
use Rattle.image.specs.Spans.{table_words}
use Rattle.image.proofs.Theorems.{span_length}
use Rattle.header.specs.Header.{header_judged}
use Rattle.fields.specs.Tables.{records_judged}
use Rattle.elements.specs.Elements.{twice_judged, order_judged}
use Rattle.things.specs.Things.{run_count}
use Rattle.listing.specs.Listing.{listed_judged}
use Rattle.listing.specs.Computed.{walked}
use Rattle.listing.proofs.Laws.{found_err, found_ok}
use Rattle.controls.specs.Controls.{controls_judged}
use Rattle.corners.specs.Corners.{corners_judged}
use Rattle.refusals.specs.declared.Refusal.{Refusal}
use Rattle.refusals.specs.FirstBroken.{Verdict, Passed, refused_at, first_broken, counted, refused, accepted, answer_of}
use Rattle.refusals.specs.Rules.{too_short, over_limit, wrong_length, bad_field, bad_range, control_character, corner_below_zero, listed_twice, out_of_order, not_listed, too_many_runs}
use Rattle.refusals.specs.Rules.{short_judged, length_judged, ranges_judged, runs_judged, content_rules, form_rules, touch_rules, listing_rules, rules, checked}
use Rattle.refusals.proofs.FirstBroken.{and_then, broken_append, refuses, passes, breaks, keeps, last, none_left}

-- A rule that looks at one thing: what is found where it is kept, and where it is not.

module _ (place : ℕ) (good : Bool) where
  one_kept : good ≡ true → None ≡ first_bad (judged place good ∷ [])
  one_kept e = sym (one_judged place good ∙ rw e)

  one_broken : good ≡ false → Some place ≡ first_bad (judged place good ∷ [])
  one_broken e = sym (one_judged place good ∙ rw e)

-- Code 5: the range that is found, at its place.

-- a number that is found is one of those looked at
found_below : (good : ℕ → Bool) (k n p : ℕ) → first_bad (each (numbers k n) (λ j. judged j (good j) ∷ [])) ≡ Some p → p < k + n
unfolding first_bad each numbers
found_below good k zero p e = let z : ◌≡◌ {A = ℕ} 0 1 = cc in absurd (omega arith)
found_below good k (suc n) p e =
    by_bool (good k)
    (λ t. omega (arith, found_below good (suc k) n p (rw t at e)))
    (λ t. let h : Some k ≡ Some p = rw t at e in let q : k ≡ p = cc in omega arith)

module _ (image : List ℕ) (ts : Tables) (ranges : List ℕ) (broken : Option ℕ) (r : ranges ≡ table_words image ts.ranges) (b : broken ≡ glyph.first_broken ranges) where
  pub range_none : broken ≡ None → None ≡ first_bad (ranges_judged image ts)
  unfolding ranges_judged
  range_none e = sym (broken_placed (record_at ts.ranges) (table_words image ts.ranges) ∙ rw (← r, ← b, e))

  pub range_at : (k place : ℕ) → broken ≡ Some k → place ≡ record_at ts.ranges k → Some place ≡ first_bad (ranges_judged image ts)
  unfolding ranges_judged
  range_at k place e p = sym (broken_placed (record_at ts.ranges) (table_words image ts.ranges) ∙ rw (← r, ← b, e, p))

  -- and its number is small
  pub range_few : (k : ℕ) → ts ≡ tables_of image → AllSmall ts → broken ≡ Some k → k < 4294967296
  unfolding glyph.first_broken glyph.judged_ranges tables_of
  range_few k t small e =
      let f = found_below (λ j. not (range_broken ranges j)) 0 (range_count ranges) k (sym b ∙ e) in
      let s : ts.ranges.size ≡ range_size = rw t refl in
      let l : length ranges ≤ ts.ranges.count * ts.ranges.size = rw r (span_length image ts.ranges _) in
      let m = rw s at l in
      let c = small.ranges.count in
      omega arith

-- Codes 4, 5, 13 and 6: each rule by what is found, and by what it comes to by itself.

module _ (image : List ℕ) (ts : Tables) (field : Option ℕ) (f : field ≡ first_bad (records_judged image ts))
    (u : Verdict) (p : u ≡ refused_at bad_field field Passed) where
  pub content_field : (r : Refusal) → u ≡ Err r → Err r ≡ first_broken (content_rules image ts)
  unfolding content_rules
  content_field r e = breaks bad_field _ _ field f r u p e

  module _ (x : Unit {0}) (k : u ≡ Ok x) (range : Option ℕ) (g : range ≡ first_bad (ranges_judged image ts))
      (v : Verdict) (q : v ≡ refused_at bad_range range Passed) where
    pub content_range : (r : Refusal) → v ≡ Err r → Err r ≡ first_broken (content_rules image ts)
    unfolding content_rules
    content_range r e = breaks bad_range _ _ range g r v q e ∙ keeps bad_field _ _ field f u x p k

    module _ (y : Unit {0}) (l : v ≡ Ok y) (control : Option ℕ) (h : control ≡ first_bad (controls_judged image ts.glyphs))
        (w : Verdict) (s : w ≡ refused_at control_character control Passed) where
      pub content_control : (r : Refusal) → w ≡ Err r → Err r ≡ first_broken (content_rules image ts)
      unfolding content_rules
      content_control r e =
          breaks control_character _ _ control h r w s e ∙ keeps bad_range _ _ range g v y q l ∙ keeps bad_field _ _ field f u x p k

      pub content_corner :
          (z : Unit {0}) → w ≡ Ok z → (corner : Option ℕ) → corner ≡ first_bad (corners_judged image ts) →
          (t : Verdict) → t ≡ refused_at corner_below_zero corner Passed → t ≡ first_broken (content_rules image ts)
      unfolding content_rules
      content_corner z m corner i t o =
          last corner_below_zero _ _ corner i t o refl
          ∙ keeps control_character _ _ control h w z s m ∙ keeps bad_range _ _ range g v y q l ∙ keeps bad_field _ _ field f u x p k

-- Codes 1 to 6 and 13.

wanted_same : (image : List ℕ) → table_end (tables_of image).ranges ≡ wanted_length image
unfolding tables_of wanted_length
wanted_same image = refl

pub form_short : (image : List ℕ) (v : Verdict) → length image < header_size → v ≡ refused_at too_short (Some 0) Passed → v ≡ first_broken (form_rules image)
unfolding form_rules short_judged
form_short image v h p = p ∙ refuses too_short _ _ _ (one_broken 0 (leb header_size (length image)) (lt-leb _ _ h)) 0 refl

module _ (image : List ℕ) (long : header_size ≤ length image) (header : Option ℕ) (f : header ≡ first_bad (header_judged image))
    (u : Verdict) (p : u ≡ refused_at over_limit header Passed) where
  pub form_header : (r : Refusal) → u ≡ Err r → Err r ≡ first_broken (form_rules image)
  unfolding form_rules short_judged
  form_header r e =
      passes too_short _ _ _ (one_kept 0 (leb header_size (length image)) (le-leb _ _ long)) _ refl (breaks over_limit _ _ header f r u p e)

  module _ (x : Unit {0}) (k : u ≡ Ok x) (ts : Tables) (wanted : ℕ) (t : ts ≡ tables_of image) (w : wanted ≡ table_end ts.ranges) (v : Verdict) where
    same : wanted ≡ wanted_length image
    same = w ∙ rw t (wanted_same image)

    pub form_length : (length image ≡ wanted → ⊥) → v ≡ refused_at wrong_length (Some wanted) Passed → v ≡ first_broken (form_rules image)
    unfolding form_rules short_judged length_judged
    form_length other q =
        q
        ∙ rw same
        (passes too_short _ _ _ (one_kept 0 (leb header_size (length image)) (le-leb _ _ long)) _ refl
        (refuses wrong_length _ _ _ (one_broken (wanted_length image) (eqb (length image) (wanted_length image)) (ne_eqb _ _ (rw same at other))) _ refl
        ∙ keeps over_limit _ _ header f u x p k))

    pub form_content : length image ≡ wanted → v ≡ first_broken (content_rules image ts) → v ≡ first_broken (form_rules image)
    unfolding form_rules short_judged length_judged
    form_content equal e =
        passes too_short _ _ _ (one_kept 0 (leb header_size (length image)) (le-leb _ _ long)) _ refl
        (passes wrong_length _ _ _ (one_kept (wanted_length image) (eqb (length image) (wanted_length image)) (eq-eqb _ _ (equal ∙ same))) _ refl (e ∙ rw t)
        ∙ keeps over_limit _ _ header f u x p k)

-- Codes 9 and 10.

module _ (image : List ℕ) (ts : Tables) (walk : Result ℕ ℕ) (w : walk ≡ walked (first_bad (listed_judged image ts)) (run_count image ts)) where
  counts : {v : Verdict} → v ≡ first_broken (touch_rules image ts) → counted v (run_count image ts) ≡ counted (first_broken (touch_rules image ts)) (run_count image ts)
  counts e = ap (λ v. counted v (run_count image ts)) e

  pub touch_unlisted :
      (place : ℕ) → walk ≡ Err place →
      Err (record { code = not_listed; place = place }) ≡ counted (first_broken (touch_rules image ts)) (run_count image ts)
  unfolding touch_rules
  touch_unlisted place e = counts (refuses not_listed _ _ (first_bad (listed_judged image ts)) refl place (found_err _ _ place (sym e ∙ w)))

  module _ (runs : ℕ) (e : walk ≡ Ok runs) (stored capacity : ℕ) (m : stored ≡ word image header_runs) (c : capacity ≡ stored) where
    found : (first_bad (listed_judged image ts) ≡ None) × (runs ≡ run_count image ts)
    found = found_ok _ _ runs (sym e ∙ w)

    pub touch_over :
        capacity < runs →
        Err (record { code = too_many_runs; place = header_runs }) ≡ counted (first_broken (touch_rules image ts)) (run_count image ts)
    unfolding touch_rules runs_judged
    touch_over h =
        let l : word image header_runs < run_count image ts = omega (arith, found.1) in
        counts
        (passes not_listed _ _ (first_bad (listed_judged image ts)) refl _ found.0
        (refuses too_many_runs _ _ _ (one_broken header_runs (leb (run_count image ts) (word image header_runs)) (lt-leb _ _ l)) header_runs refl))

    pub touch_accepted : runs ≤ capacity → Ok runs ≡ counted (first_broken (touch_rules image ts)) (run_count image ts)
    unfolding touch_rules runs_judged
    touch_accepted h =
        let l : run_count image ts ≤ word image header_runs = omega (arith, found.1) in
        let kept : Passed ≡ first_broken (touch_rules image ts) =
        passes not_listed _ _ (first_bad (listed_judged image ts)) refl _ found.0
        (passes too_many_runs _ _ _ (one_kept header_runs (leb (run_count image ts) (word image header_runs)) (le-leb _ _ l)) _ refl none_left) in
        ap (λ (n : ℕ). Ok n) found.1 ∙ counts kept

-- Codes 7 to 10.

module _ (image : List ℕ) (ts : Tables) (twice : Option ℕ) (f : twice ≡ first_bad (twice_judged image ts))
    (u : Verdict) (p : u ≡ refused_at listed_twice twice Passed) where
  listing_counts :
      {v : Verdict} → v ≡ first_broken (listing_rules image ts) →
      counted v (run_count image ts) ≡ counted (first_broken (listing_rules image ts)) (run_count image ts)
  listing_counts e = ap (λ v. counted v (run_count image ts)) e

  pub listing_twice : (r : Refusal) → u ≡ Err r → Err r ≡ counted (first_broken (listing_rules image ts)) (run_count image ts)
  unfolding listing_rules
  listing_twice r e = listing_counts (breaks listed_twice _ _ twice f r u p e)

  module _ (x : Unit {0}) (k : u ≡ Ok x) (order : Option ℕ) (g : order ≡ first_bad (order_judged image ts))
      (v : Verdict) (q : v ≡ refused_at out_of_order order Passed) where
    pub listing_order : (r : Refusal) → v ≡ Err r → Err r ≡ counted (first_broken (listing_rules image ts)) (run_count image ts)
    unfolding listing_rules
    listing_order r e = listing_counts (breaks out_of_order _ _ order g r v q e ∙ keeps listed_twice _ _ twice f u x p k)

    pub listing_touched :
        (y : Unit {0}) → v ≡ Ok y → (r : Result ℕ Refusal) → r ≡ counted (first_broken (touch_rules image ts)) (run_count image ts) →
        r ≡ counted (first_broken (listing_rules image ts)) (run_count image ts)
    unfolding listing_rules
    listing_touched y l r e = e ∙ listing_counts (keeps out_of_order _ _ order g v y q l ∙ keeps listed_twice _ _ twice f u x p k)

-- All of them.

module _ (image : List ℕ) (form : Verdict) (f : form ≡ first_broken (form_rules image)) where
  both : first_broken (rules image) ≡ and_then form (first_broken (listing_rules image (tables_of image)))
  unfolding rules
  both = broken_append (form_rules image) (listing_rules image (tables_of image)) ∙ rw f

  pub has_passed : (x : Unit {0}) → form ≡ Ok x → first_broken (form_rules image) ≡ Passed
  has_passed x e = sym f ∙ e

  pub form_refused : (r : Refusal) → form ≡ Err r → Err r ≡ counted (first_broken (rules image)) (run_count image (tables_of image))
  form_refused r e = rw (both, e)

  pub form_listed :
      (x : Unit {0}) (r : Result ℕ Refusal) (ts : Tables) → ts ≡ tables_of image → form ≡ Ok x →
      r ≡ counted (first_broken (listing_rules image ts)) (run_count image ts) → r ≡ counted (first_broken (rules image)) (run_count image (tables_of image))
  form_listed x r ts t e p = p ∙ rw (both, e, t)

-- The answer, by the run count or the first rule that is broken.

module _ (image : List ℕ) (r : Result ℕ Refusal) (e : r ≡ counted (first_broken (rules image)) (run_count image (tables_of image))) where
  pub checked_accepted : (runs : ℕ) → r ≡ Ok runs → accepted runs ≡ checked image
  unfolding checked
  checked_accepted runs h = by (first_broken (rules image)) (sym h ∙ e)
    where
      by : (v : Verdict) → Ok runs ≡ counted v (run_count image (tables_of image)) → accepted runs ≡ answer_of v (run_count image (tables_of image))
      by (Ok x) k = let n : runs ≡ run_count image (tables_of image) = cc in rw n
      by (Err x) k = let z : ◌≡◌ {A = ℕ} 0 1 = cc in absurd (omega arith)

  pub checked_refused : (refusal : Refusal) → r ≡ Err refusal → refused refusal.code refusal.place ≡ checked image
  unfolding checked
  checked_refused refusal h = by (first_broken (rules image)) (sym h ∙ e)
    where
      by : (v : Verdict) → Err refusal ≡ counted v (run_count image (tables_of image)) → refused refusal.code refusal.place ≡ answer_of v (run_count image (tables_of image))
      by (Ok x) k = let z : ◌≡◌ {A = ℕ} 0 1 = cc in absurd (omega arith)
      by (Err x) k = let n : refusal ≡ x = cc in rw n
