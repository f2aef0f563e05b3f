-- What reading an image leaves. No contract can say which bytes come: they come from outside.
use Rattle.std.specs.Prelude.{ℕ, ◌*◌, ◌≤◌, ◌<◌, ◌≡◌, List, length, Result, Ok, Err}
use Rattle.wordfile.specs.Words.{filled}
use Rattle.image_input.specs.declared.Unread.{Unread}

-- by the bytes afterwards, and the words before and afterwards: so many words of those bytes, which are not filled; else the words as they were
abbrev pub Came : Result ℕ Unread → List ℕ → List ℕ → List ℕ → Type 0
Came (Ok n) bytes words words' = (4 * n < length bytes) × (n ≤ length words') × (words' ≡ filled bytes words 0 n)
Came (Err why) bytes words words' = words' ≡ words
