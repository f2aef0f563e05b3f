-- What is known of the next request of the stream, and of the buffers: each has room.
use Rattle.std.specs.Prelude.{ℕ, ◌*◌, ◌≤◌, List, ◌≡◌, length, Result, Option, IfOk, IfSome}
use Rattle.paintlines.specs.declared.Request.{Request}
use Rattle.paintlines.specs.declared.Stop.{Stop}

-- the most words of an image
abbrev pub most_words : ℕ
most_words = 131072

-- the most words lent of a buffer
abbrev pub most_lent : ℕ
most_lent = 147456

-- the most bytes lent of the output
abbrev pub most_output : ℕ
most_output = 1048576

pub record HasRoom (r : Request) : Type 0 where
  pub words : r.words ≤ most_words
  pub cells : r.cells ≤ most_lent
  pub colours : r.colours ≤ most_lent
  pub stamps : r.stamps ≤ most_lent
  pub scratch : r.scratch ≤ most_lent
  pub output : r.output ≤ most_output

abbrev pub Fitting : Result (Option Request) Stop → Type 0
Fitting next = IfOk next (λ asked. IfSome asked HasRoom)

-- the buffers that parts are lent of
abbrev pub Planes : List ℕ → List ℕ → List ℕ → List ℕ → List ℕ → Type 0
Planes cells colours stamps scratch out =
    (length cells ≡ most_lent) × (length colours ≡ most_lent) × (length stamps ≡ most_lent) × (length scratch ≡ most_lent)
    × (length out ≡ most_output)

-- all that a request is answered in
abbrev pub Buffers : List ℕ → List ℕ → List ℕ → List ℕ → List ℕ → List ℕ → List ℕ → Type 0
Buffers bytes image cells colours stamps scratch out =
    (length bytes ≡ 4 * most_words) × (length image ≡ most_words) × Planes cells colours stamps scratch out
