-- What an accepted image gives the painter: elements that can be walked over, stages that know what is selected, room for every run.
use native.Mathlib.Omega.{arith}
use native.Mathlib.Nat.{mul_comm}
use Prim.Native.Nat.{ℕ, ◌+◌, ◌*◌, ◌≤◌}
use mathlib.Core.List.{List}
use mathlib.Core.Path.{◌≡◌, refl, sym, ◌∙◌}
use lib.ListN.{length, replicate, length-replicate}
use Rattle.std.specs.Prelude.{Ok, Err}
use Rattle.layout.specs.declared.Tables.{Tables}
use Rattle.layout.specs.Small.{AllSmall}
use Rattle.layout.specs.Tables.{tables_of}
use Rattle.image.specs.declared.ElementKind.TheVariants as kind
use Rattle.rows.specs.declared.Window.{Window}
use Rattle.things.specs.Things.{ranges_of, sheet_of}
use Rattle.refusals.specs.FirstBroken.{Verdict, Passed, Refused, first_broken}
use Rattle.refusals.specs.Rules.{form_rules, listing_rules, rules}
use Rattle.refusals.specs.Accepted.{Keeps}
use Rattle.refusals.proofs.FirstBroken.{and_then, broken_append}
use Rattle.refusals.proofs.Kept.{things_few, few_elements, good_elements, elements_inside}
use Rattle.refusals.proofs.Theorems.{accepted_passes, accepted_iff}
use Rattle.elements.specs.Slots.{slot_count}
use Rattle.selection.specs.Selection.{Walkable, Marked, fresh}
use Rattle.selection.proofs.Laws.{fresh_marked}
use Rattle.selection.proofs.Theorems.{marked_selected}
use Rattle.window.specs.declared.Lent.{Lent}
use Rattle.window.specs.declared.Lent.TheVariants.{Cells, All}
use Rattle.window.specs.Window.{plane_of, LentRoom, Ready}
use Rattle.window.proofs.Laws.{from_first, before_end}
use Rattle.window.proofs.Rows.{within}
use Rattle.window.proofs.Theorems.{ready_still}
use Rattle.picture.specs.Picture.{width, height}
use Rattle.picture.specs.Painted.{room, scratch_room}
use Rattle.stage.specs.Staged.{Staged}
use Rattle.compose.specs.Painting.{FewRuns, LentPlanes, LentBand}

-- the rules of the form have passed
form_passed : (image : List ℕ) → Keeps image → first_broken (form_rules image) ≡ Passed
unfolding rules
form_passed image keeps =
    first_half (first_broken (form_rules image)) (first_broken (listing_rules image (tables_of image)))
    (sym (broken_append (form_rules image) (listing_rules image (tables_of image))) ∙ accepted_passes image ((accepted_iff image).1 keeps))
  where
    first_half : (v w : Verdict) → and_then v w ≡ Passed → v ≡ Passed
    first_half (Ok passed) w e = refl
    first_half (Err refusal) w e = e

module _ (image : List ℕ) (ts : Tables) (keeps : Keeps image) (t : ts ≡ tables_of image) where
  pub walkable : AllSmall ts → Walkable image ts
  walkable small =
      let passed = form_passed image keeps in
      record {
        inside = elements_inside image ts t passed small;
        few = few_elements image ts t passed;
        good = good_elements image ts t passed;
        order = rw t keeps.tables.order;
      }

  module _ (v : Window) (inside : v.first + v.rows ≤ height image) where
    pub staged :
        (marks ranges : List ℕ) → AllSmall ts → ranges ≡ ranges_of image ts →
        Marked image ts v.first (v.first + v.rows) marks ts.elements.count →
        Staged image ts v marks ranges
    staged marks ranges small read marked = record {
      tables = t;
      small = small;
      read = read;
      selected = marked_selected image ts v marks (rw t keeps.tables.listed) inside marked;
    }

    pub runs_fit : (scratch : List ℕ) → v.width ≡ width image → length scratch ≡ scratch_room image → FewRuns image ts v scratch
    runs_fit scratch wide long = record {
      inside = λ y h. within (sheet_of image) y (omega arith) (omega (arith, from_first v y h, before_end v y h));
      narrow = omega (arith, keeps.header.width);
      edges = rw t (things_few image keeps.header kind.Edge);
      room = rw t (omega (arith, keeps.tables.runs));
      few = rw t (omega (arith, keeps.tables.runs, keeps.header.runs));
    }

-- what a fresh selection leaves is marked
pub marked_of :
    (image : List ℕ) (ts : Tables) (top end : ℕ) (marks next : List ℕ) → Walkable image ts → length marks ≡ slot_count → next ≡ fresh image ts top end marks →
    Marked image ts top end next ts.elements.count
marked_of image ts top end marks next w size e = rw e (fresh_marked image ts top end w marks size)

-- What is lent for a band has room for its window.
module _ (image : List ℕ) (v : Window) (keeps : Keeps image) (inside : v.first + v.rows ≤ height image) (wide : v.width ≡ width image) where
  window_words : v.rows * v.width ≡ room image v.rows
  window_words = rw wide (mul_comm v.rows (width image))

  lent_room : (lent : Lent) (colours stamps : List ℕ) → LentPlanes (room image v.rows) lent colours stamps → LentRoom lent v colours stamps
  unfolding LentPlanes LentRoom
  lent_room Cells colours stamps p = tt
  lent_room All colours stamps p = (omega (arith, window_words, p.0), omega (arith, window_words, p.1))

  lent_ready :
      (lent : Lent) (cells colours stamps scratch : List ℕ) →
      LentBand image v.rows lent cells colours stamps scratch → Ready lent v cells colours stamps
  lent_ready lent cells colours stamps scratch band = record {
    small = omega (arith, keeps.header.height);
    room = omega (arith, window_words, band.lent_cells);
    others = lent_room lent colours stamps band.planes;
  }

  -- once it is cleared
  pub cleared_ready :
      (lent : Lent) (cells colours stamps scratch cells' colours' stamps' : List ℕ) →
      LentBand image v.rows lent cells colours stamps scratch →
      cells' ≡ replicate (length cells) 0 →
      plane_of lent colours' ≡ replicate (length (plane_of lent colours)) 0 →
      plane_of lent stamps' ≡ replicate (length (plane_of lent stamps)) 0 →
      Ready lent v cells' colours' stamps'
  cleared_ready lent cells colours stamps scratch cells' colours' stamps' band a b c =
      ready_still lent v cells colours stamps cells' colours' stamps'
      (record {
        cells = long cells cells' a;
        colours = long (plane_of lent colours) (plane_of lent colours') b;
        stamps = long (plane_of lent stamps) (plane_of lent stamps') c;
      })
      (lent_ready lent cells colours stamps scratch band)
    where
      long : (before after : List ℕ) → after ≡ replicate (length before) 0 → length after ≡ length before
      long before after e = rw e (length-replicate (length before) 0)
