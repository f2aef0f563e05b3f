-- Drawing leg by leg: with the pieces of the legs left, what is drawn is the whole.
use Prim.Native.Nat.{ℕ, ◌+◌, ◌-◌, ◌≤◌, ◌<◌}
use mathlib.Core.List.{List}
use mathlib.Core.Path.{◌≡◌}
use Rattle.ground.specs.Each.{numbers, each}
use Rattle.ground.proofs.Each.{each_step, each_done, numbers_whole}
use Rattle.flow.specs.declared.Piece.{Piece}
use Rattle.draw.specs.declared.Pen.{Pen}
use Rattle.draw.specs.Drawn.{Drawing, drawing, Drawn, Drawable}
use Rattle.draw.proofs.Laws.{drawn_then, drawn_none, drawable_after}

module _ (pen : Pen) (ranges : List ℕ) (f : ℕ → List Piece) (n : ℕ) (start : Drawing) where
  -- the pieces of the legs from k on
  abbrev legs_from : ℕ → List Piece
  legs_from k = each (numbers k (n - k)) f

  -- Before leg k of n: drawing can go on, and whatever the legs from k on make of this, all of them make of the start.
  pub record DrawnTo (k : ℕ) (cells colours stamps scratch : List ℕ) (kept : ℕ) : Type 0 where
    pub able : Drawable pen cells colours stamps scratch kept
    pub all :
        (end : Drawing) →
        Drawn pen ranges (legs_from k) (drawing pen cells colours stamps scratch kept) end →
        Drawn pen ranges (each (numbers 0 n) f) start end

  module _ (cells colours stamps scratch : List ℕ) (kept : ℕ) where
    pub draw_begins : drawing pen cells colours stamps scratch kept ≡ start → Drawable pen cells colours stamps scratch kept → DrawnTo 0 cells colours stamps scratch kept
    draw_begins s a = record { able = a; all = λ end d. rw (numbers_whole n, s) at d }

    module _ (k : ℕ) (m : DrawnTo k cells colours stamps scratch kept) where
      pub draw_turns :
          (cells' colours' stamps' scratch' : List ℕ) (kept' : ℕ) (ps : List Piece) → k < n → ps ≡ f k →
          Drawn pen ranges ps (drawing pen cells colours stamps scratch kept) (drawing pen cells' colours' stamps' scratch' kept') →
          DrawnTo (k + 1) cells' colours' stamps' scratch' kept'
      draw_turns cells' colours' stamps' scratch' kept' ps h p d = record {
        able = drawable_after pen ranges ps cells colours stamps scratch kept cells' colours' stamps' scratch' kept' d m.able;
        all =
            λ end rest.
            m.all end
            (rw (each_step f k n h)
            (drawn_then pen ranges (f k) (legs_from (k + 1)) (drawing pen cells colours stamps scratch kept) (drawing pen cells' colours' stamps' scratch' kept') end (rw p at d) rest));
      }

      pub draw_ends : n ≤ k → Drawn pen ranges (each (numbers 0 n) f) start (drawing pen cells colours stamps scratch kept)
      draw_ends h =
          m.all (drawing pen cells colours stamps scratch kept)
          (rw (each_done f k n h) (drawn_none pen ranges (drawing pen cells colours stamps scratch kept) m.able.room))
