-- What a whole sheet needs of the lent buffers: "Cells, colours and stamps need width × height words, scratch twice 01's element part besides its run part".
use Rattle.std.specs.Prelude.{ℕ, ◌+◌, ◌*◌, List}
use Rattle.layout.specs.Layout.{header_runs, header_elements}
use Rattle.layout.specs.Tables.{word}
use Rattle.picture.specs.Picture.{height}
use Rattle.picture.specs.Painted.{room}

abbrev pub sheet_room : List ℕ → ℕ
sheet_room image = room image (height image)

abbrev pub sheet_scratch : List ℕ → ℕ
sheet_scratch image = 8 * word image header_runs + 2 * word image header_elements
