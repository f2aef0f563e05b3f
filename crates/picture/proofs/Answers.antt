-- What paint answers, and what it leaves of the lent buffers.
use native.Mathlib.Omega.{arith}
use native.Mathlib.Nat.{zero-add, mul-one}
use Prim.Native.Nat.{ℕ, ◌+◌, ◌-◌, ◌*◌, ◌≤◌, ◌<◌}
use mathlib.Core.Bool.{true}
use mathlib.Core.List.{List, [], ◌∷◌, ◌++◌, append_assoc, append-nil}
use mathlib.Core.Path.{◌≡◌, refl, sym, ap, ◌∙◌}
use lib.ListN.{length, take, drop}
use lib.Seq.{take_at, drop_at}
use lib.Dec.{eqb, ltb}
use borrow.Author.Tests.{le-leb, lt-leb, ltb-true, eqb-true, eqb-false}
use Rattle.std.specs.Prelude.{Option, Some, None, Ok, Err}
use Rattle.ground.specs.Each.{every, numbers, each}
use Rattle.ground.specs.Judged.{Judged, first_bad, FirstBad}
use Rattle.ground.proofs.Each.{by_bool, and_left, and_right}
use Rattle.ground.proofs.Judged.{all_good, bad_first}
use Rattle.refusals.specs.FirstBroken.{Verdict, Passed, Refused, Rule, refused_at, first_broken}
use Rattle.refusals.specs.Rules.{rules, checked}
use Rattle.refusals.proofs.FirstBroken.{and_then, broken_append, first_broken_lem}
use Rattle.refusals.proofs.Theorems.{accepted_passes, first}
use Rattle.picture.specs.Picture.{width, height, picture_row, picture_cells, picture_colours}
use Rattle.picture.specs.Painted.{room, outside_sheet, too_little_room, band_judged, plain_rooms, coloured_rooms, lent_rules, call_rules, band_rules, paint_rules, afterwards}
use Rattle.picture.proofs.Statements.{Holds, AsChecked}
use Rattle.picture.proofs.Laws.{cells_length, colours_length, cells_join, colours_join}

-- A lent buffer afterwards.
module _ (v : Verdict) (needed lent : List ℕ) where
  -- on a refusal it is as it was
  pub kept_on_refusal : (code place : ℕ) → v ≡ Refused code place → afterwards v needed lent ≡ lent
  unfolding afterwards
  kept_on_refusal code place e = rw e

  pub holds_needed : (n : ℕ) (words : List ℕ) → length needed ≡ n → needed ≡ words → v ≡ Passed → Holds n words lent (afterwards v needed lent)
  unfolding afterwards
  holds_needed n words long same e = rw e (record {
    needed = take_at needed _ n long ∙ same;
    beyond = drop_at needed _ n long ∙ ap (λ (k : ℕ). drop k lent) long;
  })

-- two buffers afterwards, whatever they were before
pub same_needed :
    (v w : Verdict) (needed lent other : List ℕ) (n : ℕ) → length needed ≡ n → v ≡ w → v ≡ Passed →
    take n (afterwards v needed lent) ≡ take n (afterwards w needed other)
same_needed v w needed lent other n long e p =
    (holds_needed v needed lent n needed long refl p).needed ∙ sym (holds_needed w needed other n needed long refl (sym e ∙ p)).needed

-- Rules that all have a code do not refuse with code 0.

-- the code that a verdict gives
abbrev pub given_code : Verdict → ℕ
given_code (Ok passed) = 0
given_code (Err refusal) = refusal.code

no_code_now :
    (code place : ℕ) (f : Option ℕ) (later : Verdict) → 0 < code → (later ≡ Refused 0 place → ⊥) → refused_at code f later ≡ Refused 0 place → ⊥
no_code_now code place None later some none e = none e
no_code_now code place (Some p) later some none e = let zero : code ≡ 0 = ap given_code e in omega arith

pub no_code : (rs : List Rule) (place : ℕ) → every rs (λ r. ltb 0 r.code) ≡ true → first_broken rs ≡ Refused 0 place → ⊥
unfolding every first_broken
no_code [] place h e = let z : ◌≡◌ {A = ℕ} 0 1 = cc in omega arith
no_code (r ∷ rs) place h e =
    no_code_now r.code place (first_bad r.looked) (first_broken rs) (ltb-true 0 r.code (and_left (ltb 0 r.code) _ h))
    (no_code rs place (and_right (ltb 0 r.code) _ h)) e

-- The verdict of a call, whatever 11 and 12 look at.
module _ (image : List ℕ) (asked lent : List Judged) where
  abbrev verdict : Verdict
  verdict = first_broken (call_rules image asked lent)

  parts : verdict ≡ and_then (first_broken (rules image)) (first_broken (lent_rules asked lent))
  unfolding call_rules
  parts = broken_append (rules image) (lent_rules asked lent)

  -- what the check refuses is refused as the check does
  pub call_refused : ((checked image).code ≡ 0 → ⊥) → verdict ≡ Refused (checked image).code (checked image).place
  call_refused n = parts ∙ rw (first_broken_lem (rules image) _ _ (first image n))

  -- where the check accepts, it is that of the two rules added to the check's
  pub call_verdict : (checked image).code ≡ 0 → verdict ≡ first_broken (lent_rules asked lent)
  call_verdict z = parts ∙ rw (accepted_passes image z)

  pub call_outside : (checked image).code ≡ 0 → (place : ℕ) → first_bad asked ≡ Some place → verdict ≡ Refused outside_sheet place
  unfolding first_broken
  call_outside z place b = call_verdict z ∙ rw b

  module _ (z : (checked image).code ≡ 0) (fine : every asked (λ j. j.good) ≡ true) where
    pub call_short : (place : ℕ) → FirstBad lent place → verdict ≡ Refused too_little_room place
    unfolding first_broken
    call_short place b = call_verdict z ∙ rw (all_good asked fine, bad_first lent place b)

    pub call_passed : every lent (λ j. j.good) ≡ true → verdict ≡ Passed
    unfolding first_broken
    call_passed all = call_verdict z ∙ rw (all_good asked fine, all_good lent all)

  -- a refusal has a code
  pub call_code : (place : ℕ) → verdict ≡ Refused 0 place → ⊥
  unfolding every
  call_code place e =
      by_bool (eqb (checked image).code 0)
      (λ z. no_code (lent_rules asked lent) place refl (sym (call_verdict (eqb-true _ _ z)) ∙ e))
      (λ n.
      let some = eqb-false (checked image).code 0 n in
      let r = call_refused some in
      some (ap given_code (sym r ∙ e)))

-- The verdict on a band.
module _ (image : List ℕ) (top rows : ℕ) (lent : List Judged) where
  inside_good : top + rows ≤ height image → every (band_judged image top rows) (λ j. j.good) ≡ true
  unfolding every band_judged
  inside_good h = rw (le-leb _ _ h)

  outside_bad : height image < top + rows → first_bad (band_judged image top rows) ≡ Some 0
  unfolding first_bad band_judged
  outside_bad h = rw (lt-leb _ _ h)

  pub band_verdict : (checked image).code ≡ 0 → first_broken (paint_rules image top rows lent) ≡ first_broken (band_rules image top rows lent)
  band_verdict z = call_verdict image (band_judged image top rows) lent z

  pub as_checked : AsChecked image top rows lent (first_broken (paint_rules image top rows lent))
  as_checked =
      let asked = band_judged image top rows in
      record {
        refused = λ n. call_refused image asked lent n;
        outside = λ z h. call_outside image asked lent z 0 (outside_bad h);
        short = λ z h place b. call_short image asked lent z (inside_good h) place b;
        passed = λ z h all. call_passed image asked lent z (inside_good h) all;
      }

-- What painting passes, check accepts.
pub passed_accepted :
    (image : List ℕ) (first rows : ℕ) (lent : List Judged) (v : Verdict) → AsChecked image first rows lent v → v ≡ Passed → (checked image).code ≡ 0
passed_accepted image first rows lent v a passed =
    by_bool (eqb (checked image).code 0)
    (λ e. eqb-true _ _ e)
    (λ e. let r = a.refused (eqb-false (checked image).code 0 e) in let z : ◌≡◌ {A = ℕ} 0 1 = cc in absurd (omega arith))

-- Enough room is no short buffer.

module _ (words needed : ℕ) (cells scratch : List ℕ) (roomy : words ≤ length cells) (spare : needed ≤ length scratch) where
  pub plain_room : every (plain_rooms words needed cells scratch) (λ j. j.good) ≡ true
  unfolding every plain_rooms
  plain_room = rw (le-leb _ _ roomy, le-leb _ _ spare)

  pub coloured_room_lem :
      (colours stamps : List ℕ) → words ≤ length colours → words ≤ length stamps →
      every (coloured_rooms words needed cells colours stamps scratch) (λ j. j.good) ≡ true
  unfolding every coloured_rooms
  coloured_room_lem colours stamps wide tall = rw (le-leb _ _ roomy, le-leb _ _ wide, le-leb _ _ tall, le-leb _ _ spare)

-- Rows that are cut out of a band, whatever lies past it, are those rows of the picture.

module _ (band : ℕ → ℕ → List ℕ) (w : ℕ) (long : (first rows : ℕ) → length (band first rows) ≡ w * rows)
    (join : (first n m : ℕ) → band first (n + m) ≡ band first n ++ band (first + n) m) where
  cut :
      (top skipped rows rest : ℕ) (past : List ℕ) →
      take (w * rows) (drop (w * skipped) (band top (skipped + (rows + rest)) ++ past)) ≡ band (top + skipped) rows
  cut top skipped rows rest past =
      let first = top + skipped in
      rw (join top skipped (rows + rest), append_assoc, drop_at (band top skipped) (band first (rows + rest) ++ past) (w * skipped) (long top skipped))
      (rw (join first rows rest, append_assoc) (take_at (band first rows) (band (first + rows) rest ++ past) (w * rows) (long first rows)))

  band_cut :
      (top skipped rows height : ℕ) (past : List ℕ) → skipped + rows ≤ height →
      take (w * rows) (drop (w * skipped) (band top height ++ past)) ≡ band (top + skipped) rows
  band_cut top skipped rows height past h =
      let e : height ≡ skipped + (rows + (height - (skipped + rows))) = omega arith in
      rw e (cut top skipped rows (height - (skipped + rows)) past)

  -- the same of the rows from 0 on, with nothing past them
  whole_cut : (first rows height : ℕ) → first + rows ≤ height → band first rows ≡ take (w * rows) (drop (w * first) (band 0 height))
  whole_cut first rows height h = sym (rw (append-nil, zero-add) at (band_cut 0 first rows height [] h))

module _ (image : List ℕ) (first rows : ℕ) (inside : first + rows ≤ height image) where
  pub cells_of_whole : picture_cells image first rows ≡ take (room image rows) (drop (room image first) (picture_cells image 0 (height image)))
  cells_of_whole = whole_cut (picture_cells image) (width image) (cells_length image) (cells_join image) first rows (height image) inside

  pub colours_of_whole : picture_colours image first rows ≡ take (room image rows) (drop (room image first) (picture_colours image 0 (height image)))
  colours_of_whole = whole_cut (picture_colours image) (width image) (colours_length image) (colours_join image) first rows (height image) inside

-- Where painting passes, row i of what it leaves is that row of the picture.

module _ (image : List ℕ) (first rows i : ℕ) (v : Verdict) (lent : List ℕ) (e : v ≡ Passed) (h : i < rows) where
  pub row_of_band : take (width image) (drop (room image i) (afterwards v (picture_cells image first rows) lent)) ≡ (picture_row image (first + i)).cells
  unfolding afterwards picture_cells numbers each
  row_of_band =
      let past = drop (length (picture_cells image first rows)) lent in
      let row = band_cut (picture_cells image) (width image) (cells_length image) (cells_join image) first i 1 rows past (omega arith) in
      rw e (rw (mul-one, append-nil) at row)

  pub colours_of_band : take (width image) (drop (room image i) (afterwards v (picture_colours image first rows) lent)) ≡ (picture_row image (first + i)).colours
  unfolding afterwards picture_colours numbers each
  colours_of_band =
      let past = drop (length (picture_colours image first rows)) lent in
      let row = band_cut (picture_colours image) (width image) (colours_length image) (colours_join image) first i 1 rows past (omega arith) in
      rw e (rw (mul-one, append-nil) at row)
