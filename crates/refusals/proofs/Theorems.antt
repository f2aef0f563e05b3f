-- The check accepts exactly the images that keep every rule, and refuses with the first rule that is broken, at its place.
use native.Mathlib.Omega.{arith}
use Prim.Native.Nat.{ℕ, ◌≤◌, ◌<◌}
use mathlib.Core.Bool.{Bool, true, ◌&&◌, ◌||◌}
use mathlib.Core.List.{List, ◌∷◌}
use mathlib.Core.Logic.{◌↔◌, ◌⊎◌, inl, inr}
use mathlib.Core.Path.{◌≡◌, refl, sym, ap, ◌∙◌}
use lib.Dec.{eqb, ltb, leb}
use borrow.Author.Tests.{ltb-true, leb-true, eqb-true}
use Rattle.std.specs.Prelude.{Ok, Err}
use Rattle.ground.specs.Each.{every}
use Rattle.ground.proofs.Each.{by_bool, and_left, and_right, every_append}
use Rattle.glyph.specs.Ranges.{WidthsRight}
use Rattle.glyph.proofs.Theorems.{right_widths}
use Rattle.layout.specs.Tables.{tables_of}
use Rattle.header.proofs.Theorems.{header_iff}
use Rattle.fields.proofs.Theorems.{records_iff}
use Rattle.elements.proofs.Theorems.{twice_iff, order_iff}
use Rattle.things.specs.Things.{ranges_of, run_count}
use Rattle.controls.proofs.Theorems.{controls_iff}
use Rattle.corners.proofs.Theorems.{corners_iff}
use Rattle.listing.proofs.Theorems.{listed_iff}
use Rattle.refusals.specs.declared.Answer.{Answer}
use Rattle.refusals.specs.FirstBroken.{Verdict, Passed, Refused, rule, first_broken, BrokenFirst, refused, answer_of}
use Rattle.refusals.specs.Rules.{control_character, content_rules, form_rules, touch_rules, listing_rules, rules, checked}
use Rattle.refusals.specs.Accepted.{Keeps}
use Rattle.refusals.proofs.FirstBroken.{and_then, broken_append, broken_first, first_broken_lem}
use Rattle.refusals.proofs.Kept.{FormKept, ListingKept, form_kept, kept_form, listing_kept, kept_listing}
use Rattle.refusals.proofs.Accepted.{short_iff, length_iff, runs_iff, ranges_kept, ranges_iff}

-- Every code is from 1 to 10, or 13.

abbrev a_code : ℕ → Bool
a_code code = ltb 0 code && (leb code 10 || eqb code control_character)

abbrev Numbered : ℕ → Type 0
Numbered code = (code ≤ 10) ⊎ (code ≡ control_character)

numbered : (code : ℕ) → leb code 10 || eqb code control_character ≡ true → Numbered code
numbered code h = by_bool (leb code 10) (λ t. inl (leb-true _ _ t)) (λ t. inr (eqb-true _ _ (rw t at h)))

codes : (image : List ℕ) → every (rules image) (λ r. a_code r.code) ≡ true
unfolding rules form_rules content_rules listing_rules touch_rules every
codes image = refl

broken_code : (image : List ℕ) (code place : ℕ) → BrokenFirst (rules image) code place → a_code code ≡ true
unfolding every
broken_code image code place b =
    let all = rw b.split at (codes image) in
    let after = and_right (every b.before (λ r. a_code r.code)) _ (sym (every_append (λ r. a_code r.code) b.before (rule code b.looked ∷ b.after)) ∙ all) in
    and_left (a_code code) _ after

-- The answer is that of a refusal by the first rule that is broken, or none is broken and it is the run count's.
module _ (image : List ℕ) where
  abbrev By : Verdict → Type 0
  By v = first_broken (rules image) ≡ v

  answered : (v : Verdict) → By v → checked image ≡ answer_of v (run_count image (tables_of image))
  unfolding checked
  answered v e = rw e

  by_verdict :
      {P : Type 0} → (By Passed → P) → ((code place : ℕ) → By (Refused code place) → 0 < code → Numbered code → P) → P
  by_verdict {P} f g = by (first_broken (rules image)) refl
    where
      by : (v : Verdict) → By v → P
      by (Ok passed) e = f e
      by (Err refusal) e =
          let code = refusal.code in
          let place = refusal.place in
          let c = broken_code image code place (broken_first (rules image) code place e) in
          g code place e (ltb-true 0 code (and_left (ltb 0 code) _ c)) (numbered code (and_right (ltb 0 code) _ c))

  code_of : (code place : ℕ) → By (Refused code place) → (checked image).code ≡ code
  code_of code place e = ap (λ (a : Answer). a.code) (answered (Refused code place) e)

  place_of : (code place : ℕ) → By (Refused code place) → (checked image).place ≡ place
  place_of code place e = ap (λ (a : Answer). a.place) (answered (Refused code place) e)

  -- No code is given exactly where no rule is broken.

  pub accepted_passes : (checked image).code ≡ 0 → By Passed
  accepted_passes z = by_verdict (λ e. e) (λ code place e p q. absurd (omega (arith, code_of code place e)))

  pub passes_accepted : By Passed → (checked image).code ≡ 0
  passes_accepted e = ap (λ (a : Answer). a.code) (answered Passed e)

  -- Every code is at most 10, or 13.
  pub known_code : ((checked image).code ≤ 10) ⊎ ((checked image).code ≡ control_character)
  known_code = by_verdict (λ e. inl (omega (arith, passes_accepted e))) (λ code place e p q. rw (code_of code place e) q)

  -- An accepted image is answered with place 0 and its run count.
  pub accepted_place : (checked image).code ≡ 0 → ((checked image).place ≡ 0) × ((checked image).runs ≡ run_count image (tables_of image))
  accepted_place z =
      let e = answered Passed (accepted_passes z) in
      (ap (λ (a : Answer). a.place) e, ap (λ (a : Answer). a.runs) e)

  -- A refused image is answered with run count 0.
  pub refused_no_runs : ((checked image).code ≡ 0 → ⊥) → (checked image).runs ≡ 0
  refused_no_runs n =
      by_verdict
      (λ e. absurd (n (passes_accepted e)))
      (λ code place e p q. ap (λ (a : Answer). a.runs) (answered (Refused code place) e))

  -- Where a code is given, a rule of that code is broken, first at the place given, and no rule before it is broken.
  pub first : ((checked image).code ≡ 0 → ⊥) → BrokenFirst (rules image) (checked image).code (checked image).place
  first n =
      by_verdict
      (λ e. absurd (n (passes_accepted e)))
      (λ code place e p q. rw (code_of code place e, place_of code place e) (broken_first (rules image) code place e))

  -- Where a rule is broken, first at a place, and no rule before it is, its code and the place are the answer.
  pub first_answered : (code place : ℕ) → BrokenFirst (rules image) code place → checked image ≡ refused code place
  first_answered code place b = answered (Refused code place) (first_broken_lem (rules image) code place b)

  -- The two halves of the rules.

  both : first_broken (rules image) ≡ and_then (first_broken (form_rules image)) (first_broken (listing_rules image (tables_of image)))
  unfolding rules
  both = broken_append (form_rules image) (listing_rules image (tables_of image))

  halves : (v w : Verdict) → first_broken (form_rules image) ≡ v → and_then v w ≡ Passed → (first_broken (form_rules image) ≡ Passed) × (w ≡ Passed)
  halves (Ok passed) w e h = (e, h)
  halves (Err refusal) w e h = let z : ◌≡◌ {A = ℕ} 0 1 = cc in absurd (omega arith)

  -- An image is accepted exactly when it keeps every rule.

  keeps : FormKept image → ListingKept image (tables_of image) → Keeps image
  keeps f l =
      let ts = tables_of image in
      let whole = (length_iff image).0 f.wholes in
      let once = (twice_iff image ts).0 l.twice in
      record {
        long = (short_iff image).0 f.short;
        header = (header_iff image).0 f.header;
        whole = whole;
        tables = record {
          fields = (records_iff image ts).0 f.fields;
          ranges = (ranges_iff image whole).0 f.ranges;
          characters = (controls_iff image ts.glyphs).0 f.controls;
          corners = (corners_iff image ts).0 f.corners;
          once = once;
          order = (order_iff image ts).0 l.order;
          listed = (listed_iff image ts once).0 l.listed;
          runs = (runs_iff image ts).0 l.runs;
        };
      }

  kept_form_of : Keeps image → FormKept image
  kept_form_of k =
      let ts = tables_of image in
      record {
        short = (short_iff image).1 k.long;
        header = (header_iff image).1 k.header;
        wholes = (length_iff image).1 k.whole;
        fields = (records_iff image ts).1 k.tables.fields;
        ranges = (ranges_iff image k.whole).1 k.tables.ranges;
        controls = (controls_iff image ts.glyphs).1 k.tables.characters;
        corners = (corners_iff image ts).1 k.tables.corners;
      }

  kept_listing_of : Keeps image → ListingKept image (tables_of image)
  kept_listing_of k =
      let ts = tables_of image in
      record {
        twice = (twice_iff image ts).1 k.tables.once;
        order = (order_iff image ts).1 k.tables.order;
        listed = (listed_iff image ts k.tables.once).1 k.tables.listed;
        runs = (runs_iff image ts).1 k.tables.runs;
      }

  pub accepted_iff : ((checked image).code ≡ 0) ↔ Keeps image
  accepted_iff = (
    (λ z.
        let h = halves (first_broken (form_rules image)) (first_broken (listing_rules image (tables_of image))) refl (sym both ∙ accepted_passes z) in
        keeps (form_kept image h.0) (listing_kept image (tables_of image) h.1)),
    (λ k. passes_accepted
        (both ∙ rw (kept_form image (kept_form_of k)) (kept_listing image (tables_of image) (kept_listing_of k)))),
  )

  -- An accepted image's widths are right: a value has the width of the range that holds it, else 1.
  pub accepted_widths : (checked image).code ≡ 0 → WidthsRight (ranges_of image (tables_of image))
  accepted_widths z =
      let h = halves (first_broken (form_rules image)) (first_broken (listing_rules image (tables_of image))) refl (sym both ∙ accepted_passes z) in
      right_widths (ranges_of image (tables_of image)) (ranges_kept image (tables_of image) (form_kept image h.0).ranges)

-- Any two answers that the check's contract permits are equal.
pub one_answer : (image : List ℕ) (r s : Answer) → r ≡ checked image → s ≡ checked image → r ≡ s
one_answer image r s p q = p ∙ sym q
