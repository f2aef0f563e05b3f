-- Nodes painted in a window: a marker, no self-loop, and a node as it looks.
use Rattle.std.specs.Prelude.{Option, None}
use Prim.Native.Nat.{ℕ}
use mathlib.Core.List.{List, [], ◌∷◌}
use mathlib.Core.Path.{◌≡◌, sym}
use Rattle.image.specs.declared.Node.{Node}
use Rattle.image.specs.declared.Point.{Point}
use Rattle.rows.specs.declared.Window.{Window}
use Rattle.rows.specs.Spots.{Ink, Spot, at}
use Rattle.window.specs.declared.Tint.{Tint}
use Rattle.window.specs.Writes.{Canvas, tinted}
use Rattle.window.specs.Window.{ink_window}
use Rattle.window.proofs.Theorems.{ink_none}
use Rattle.window.proofs.Stretches.{inked_then}
use Rattle.frame.specs.declared.Look.{Look}
use Rattle.frame.specs.declared.Look.TheVariants.{Box, Simple}
use Rattle.frame.specs.Nodes.{boxed_spots, simple_spots, loop_spots, look_spots}

module _ (v : Window) (ranges : List ℕ) (tint : Tint) where
  abbrev Inked : List Spot → Canvas → Canvas → Type 0
  Inked spots c d = d ≡ ink_window v ranges (tinted tint spots) c

  -- one spot, its place given by numbers that are the same
  pub inked_at :
      (x y x' y' : ℕ) (ink : Ink) (c d : Canvas) → x' ≡ x → y' ≡ y → Inked (at x' y' ink ∷ []) c d → Inked (at x y ink ∷ []) c d
  inked_at x y x' y' ink c d e f p = rw (← e, ← f) p

  -- no self-loop
  pub no_loop : (l : Option Point) (c : Canvas) → l ≡ None → Inked (loop_spots l) c c
  no_loop l c e = rw e (sym (ink_none v ranges c))

  -- a node that looks so; a box and a label between brackets are followed by the self-loop
  module _ (n : Node) (label : List ℕ) (look : Look) where
    pub look_inked : (is : Look) (c d : Canvas) → look ≡ is → Inked (look_spots ranges n label is) c d → Inked (look_spots ranges n label look) c d
    look_inked is c d e p = rw e p

    pub look_boxed :
        (c d e : Canvas) → look ≡ Box → Inked (boxed_spots ranges n label) c d → Inked (loop_spots n.self_loop) d e → Inked (look_spots ranges n label look) c e
    unfolding look_spots
    look_boxed c d e is p q = look_inked Box c e is (inked_then v ranges tint (boxed_spots ranges n label) (loop_spots n.self_loop) c d e p q)

    pub look_simple :
        (c d e : Canvas) → look ≡ Simple → Inked (simple_spots ranges n label) c d → Inked (loop_spots n.self_loop) d e → Inked (look_spots ranges n label look) c e
    unfolding look_spots
    look_simple c d e is p q = look_inked Simple c e is (inked_then v ranges tint (simple_spots ranges n label) (loop_spots n.self_loop) c d e p q)
